-- The definitions to read: how the jobs of a session end that run on one machine.
pub mod Runs
