pub mod Pregel
pub mod Entries
pub mod CommandRules
