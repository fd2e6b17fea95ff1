-- What a reader has to believe, in this order, behind the definitions of `coordinator` and `worker_threads`: the units of workers by
-- their receipts, and what the coordinator has after a job.
pub mod Charges
pub mod Settled
-- what only mirrors the code, for its proofs
pub mod inside
