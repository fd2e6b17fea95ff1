-- What a reader has to believe, in this order: the control model, what it does on events, and which these are, in numbers.
pub mod Machine
pub mod Events
pub mod Stamps
-- what only mirrors the code, for its proofs
pub mod inside
