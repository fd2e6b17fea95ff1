-- The definitions that a reader has to believe, in reading order. First comes syntax (Core 1.0, section 2): code, the
-- model of a body, the empty module, representable modules, and the limits on a module's size.
pub mod Code
pub mod View
pub mod Modules
pub mod Representable
pub mod Limits
-- Semantics that the engine's crates share (sections 3 and 4): values, the widths of loads and stores, values as signed
-- numbers, and the types of numeric instructions.
pub mod Values
pub mod Widths
pub mod Numeric
pub mod NumericTypes
-- recursion over a body ends: for the proofs of every crate
pub mod Falls
-- definitions that only mirror the code, for its proofs
pub mod inside
