-- The definitions to read, in this order, behind the lost worker of `run_views`: what a job prints, and what a run prints and notes.
pub mod Jobs
pub mod Running
-- what only mirrors the code, for its proofs
pub mod inside
