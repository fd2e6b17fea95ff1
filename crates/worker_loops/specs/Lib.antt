-- What a reader has to believe, in this order, behind the definitions of `hub_ends`: the messages of a job in numbers, and what workers
-- send for their tasks.
pub mod Numbers
pub mod Returns
-- the joins of workers
pub mod Counted
-- what only mirrors the code, for its proofs
pub mod inside
