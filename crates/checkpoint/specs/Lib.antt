-- What a reader has to believe, in this order: how numbers are spelled, and how a state is.
pub mod Numbers
pub mod Checkpoint
-- what reading returns, with the fault that is reported, and the fault's word
pub mod Reading
pub mod Faults
-- what a Keep's calls leave behind, also of the one in memory; what one on disk knows, and the checkpoints that it may load
pub mod Keep
pub mod Memory
pub mod Files
-- of which job the text of a file is
pub mod Naming
