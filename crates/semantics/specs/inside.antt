-- Definitions only for proofs. No contract of a public function cites them.

-- the bytes that loads and stores touch
pub mod Touched
