-- The definitions that a reader has to believe, after those of `units`: the ranks and sizes that are computed.
pub mod Marks
pub mod Ranks
-- what the faults say
pub mod Faults
-- definitions that only mirror the code, for its proofs
pub mod inside
