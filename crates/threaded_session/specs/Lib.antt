-- The definitions to read: how the jobs of a session end that run in threads.
pub mod Runs
