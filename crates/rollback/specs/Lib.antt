-- What a reader has to believe, after the book of `book`: a whole run over a list of steps
pub mod Simulation
-- what only mirrors the code, for its proofs
pub mod inside
