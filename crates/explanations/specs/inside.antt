-- Definitions for proofs only: what is shown of a function's lines. No contract of a public function cites them.
pub mod Shown
pub mod Told
