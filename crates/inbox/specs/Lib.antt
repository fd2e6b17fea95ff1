-- The definitions to read: how letters become inboxes.
pub mod Arrivals
pub mod Merging
-- for proofs only: definitions that follow the code
pub mod inside
