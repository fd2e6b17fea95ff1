-- What only mirrors the code, for its proofs: where the instructions that a form of a loop names are.
pub mod Forms
