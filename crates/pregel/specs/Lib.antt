-- The definitions to read, in this order, behind the runs of `run_command`: what a command prints, and what the program does for its
-- command line.
pub mod FileCommands
pub mod Program
