-- The verifier's promises are in terms of the definitions of `verified` and `profile_rules`. Here is what only mirrors the code, for its proofs
pub mod inside
