-- What is collected of lines and of pieces of a text, where edges are placed, and what is read, as the functions do it.
pub mod Collected
pub mod Pieces
pub mod Placed
pub mod Read
-- Lists by rising keys, and lists cut into parts: facts for the proofs of this crate and of those above it.
pub mod Rising
pub mod Partitioned
-- Ranges of an edge's numbers, and the adding of an edge list's edges.
pub mod Ranges
pub mod Adding
