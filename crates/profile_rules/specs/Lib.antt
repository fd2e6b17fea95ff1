-- What an error says, and how it is printed (the rules themselves are in `verified`).
pub mod Faults
pub mod FaultText
-- what only mirrors the code, for its proofs
pub mod inside
