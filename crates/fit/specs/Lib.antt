-- What a reader has to believe: what stays the same of a module that is rewritten.
pub mod Fit
-- what only mirrors the code, for its proofs
pub mod inside
