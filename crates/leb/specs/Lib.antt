-- The definitions that a reader has to believe, in reading order: the spellings of a number, and the fault that is
-- returned where there is none.
pub mod Spelling
pub mod Faults
-- definitions that only mirror the code, for its proofs
pub mod inside
