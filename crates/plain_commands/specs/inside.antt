-- Definitions that follow the steps of the code. No public contract cites these.
pub mod Answering
pub mod SheetFiles
pub mod Stepping
