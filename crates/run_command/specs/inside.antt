-- Definitions that follow the steps of the code. No public contract cites these.
pub mod Answering
