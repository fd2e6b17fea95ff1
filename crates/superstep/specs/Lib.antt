-- The definitions to read, in this order: a snapshot between two supersteps, how aggregators combine contributions, a superstep, and the plain run
-- with its answer.
pub mod Snapshot
pub mod Folds
pub mod Superstep
pub mod PlainRun
-- the meaning of a job
pub mod Job
-- which states are those of a job
pub mod State
-- the parts of a state that move, and the results of their supersteps
pub mod Tasks
-- the counts of what a task finds in its part
pub mod Found
-- the totals of a job before a superstep
pub mod Totals
-- the end of a job
pub mod Ending
-- for proofs only: definitions that follow the code
pub mod inside
