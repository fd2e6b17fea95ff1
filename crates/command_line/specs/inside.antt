-- The models of the code's tables in `clap`, and what the code finds in its matches. No contract of a public function cites them.
pub mod Tables
pub mod Matches
