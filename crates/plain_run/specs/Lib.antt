-- for proofs only: definitions that follow the code; crate superstep has those to read
pub mod inside
