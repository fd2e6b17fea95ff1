-- The definitions to read, in this order: the settings of a job, a list sorted by a key, and the state of a job between two supersteps.
pub mod Settings
pub mod Ordering
pub mod State
-- the totals before a superstep
pub mod Totals
-- the counts of what a task finds in its part, and the numbers of tasks and results
pub mod Found
pub mod Stamps
-- the words of a job's faults
pub mod Faults
-- for proofs only: definitions that follow the code
pub mod inside
