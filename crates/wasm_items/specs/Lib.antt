-- The definitions that a reader has to believe, in reading order: which bytes spell which item (Core 1.0, section 5).
pub mod Bytes
pub mod Types
pub mod Instructions
pub mod Items
-- the spelling of an item that the encoder writes
pub mod Canonical
-- how a fault of the decoder is printed
pub mod Faults
-- definitions that only mirror the code, for its proofs
pub mod inside
