-- What a reader has to believe besides crate `semantics`, which says what a call yields. First the room that a call needs.
pub mod Room
-- the operands of each active function
pub mod OwnOperands
-- the bytes that its loads and stores touch
pub mod Accesses
-- the bound on a sequence
pub mod Sequences
-- definitions that mirror the code, only for its proofs
pub mod inside
