-- Definitions that follow the steps of the code. No public contract cites these.
pub mod Seen
pub mod Answered
pub mod Underway
pub mod Cutting
pub mod SeenLines
