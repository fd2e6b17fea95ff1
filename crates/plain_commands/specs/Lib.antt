-- The definitions to read, in this order: the steps of a replay, and the steps that a text means.
pub mod StepLine
pub mod Steps
-- what is noted of a run for its report
pub mod Notes
-- what a call and a replay print
pub mod ComputeCall
pub mod Replays
-- which module a command takes, which job, and which folder
pub mod Sizes
pub mod Opening
pub mod Keeping
-- what a command prints and writes, and why it is refused
pub mod Outputs
pub mod Causes
-- the report and the chart of a run
pub mod Sheets
-- what only mirrors the code, for its proofs
pub mod inside
