-- What a reader has to believe: what an explanation says and shows.
pub mod Explanation
pub mod Listing
-- definitions that mirror the code, only for its proofs
pub mod inside
