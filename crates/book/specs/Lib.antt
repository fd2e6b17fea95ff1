-- What a reader has to believe, in this order, after the control model of `control`: the states that a Keep has
pub mod Saving
-- a book between two events
pub mod Book
-- a device that never fails
pub mod Calm
-- what only mirrors the code, for its proofs
pub mod inside
