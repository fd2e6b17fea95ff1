-- Definitions that mirror the code, for its proofs: readers of printed texts, and the contracts of functions in their
-- terms. No contract of a public function of `wat_asm` cites these.
pub mod Writing
pub mod Follows
pub mod Strings
pub mod Tokens
pub mod Reading
pub mod ReadingCode
pub mod ReadingModule
pub mod Parsing
pub mod Lexing
