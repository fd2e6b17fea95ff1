-- The definitions to read, in this order: the lines of the input, their words, and the command of a line.
pub mod Lines
pub mod Words
pub mod Commands
-- the texts of replies
pub mod Replies
-- how runs may end, and what a session holds
pub mod Runs
pub mod Held
pub mod Maps
-- the replies to commands, the whole of serving a session, and what two sessions have in common
pub mod Transcript
pub mod Serving
pub mod Same
-- for proofs only: definitions that follow the code
pub mod inside
