-- The definitions that a reader has to believe, in reading order: keywords, words, strings, a text as pieces,
-- instructions, the layout of a module, the numbers of names, and how a fault is printed. The definitions in `inside` only mirror the code, for
-- its proofs and those of `wat_asm`.
pub mod Keywords
pub mod Words
pub mod Quoted
pub mod Pieces
pub mod Instructions
pub mod Layout
pub mod Numbering
pub mod Faults
pub mod inside
