-- The definitions to read, in this order: the program's commands and their arguments, and the request in the words of a command line.
pub mod Commands
pub mod CommandLine
-- for proofs only: definitions that follow the code
pub mod inside
