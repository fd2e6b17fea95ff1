-- What a reader has to believe, in this order: one list of assignments and events, the units in it, and the answers over it.
pub mod Steps
pub mod Units
pub mod JobAnswers
-- which losses were counted
pub mod Joining
-- what the coordinator of a job received and sent
pub mod Coordinator
-- what only mirrors the code, for its proofs
pub mod inside
