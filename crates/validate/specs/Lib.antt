-- how a fault is printed (the rules themselves are in `valid`)
pub mod Faults
-- definitions that only mirror the code, for its proofs
pub mod inside
