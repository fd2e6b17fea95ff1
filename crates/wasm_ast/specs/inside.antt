-- Definitions that mirror the code, for its proofs: the test that `==` performs, and a module that is copied part by
-- part.
pub mod Same
pub mod Stored
pub mod Copies
