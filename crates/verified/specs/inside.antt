-- Definitions that mirror the code, only for its proofs: extents of reached bytes, the tables of a module, and the flattening of code.
pub mod Extents
pub mod Tables
pub mod Mirrors
