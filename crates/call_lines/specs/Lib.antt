-- The definitions to read, in this order: the lines of an input, the input that a text means, and why it means none.
pub mod InputLine
pub mod InputSays
pub mod Input
pub mod InputFaults
-- the lines of a call's outcome and of a job's end
pub mod OutputLines
-- for proofs only: definitions that follow the code
pub mod inside
