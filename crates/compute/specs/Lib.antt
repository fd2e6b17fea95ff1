-- for proofs only: definitions that follow the code
pub mod inside
