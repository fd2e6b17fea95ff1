-- The definitions that a reader has to believe, in reading order: which bytes spell which module (Core 1.0, section 5), by the items of
-- `wasm_items`.
pub mod Grammar
-- the spelling of a module that the encoder writes
pub mod Canonical
-- how a fault of the encoder is printed
pub mod Faults
-- definitions that only mirror the code, for its proofs
pub mod inside
