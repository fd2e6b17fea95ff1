-- Reading from left to right. It says the same as the other clauses of a read, in the form that a reader's proof uses.
pub mod Reading
-- the bytes of a program's slice are below 256
pub mod Bytes
