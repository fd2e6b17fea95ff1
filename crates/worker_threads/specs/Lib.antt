-- What a reader has to believe, behind the definitions of `worker_loops`: the threads of a hub, and their receipts.
pub mod Threads
-- what only mirrors the code, for its proofs
pub mod inside
