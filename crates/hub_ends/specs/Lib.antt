-- What a reader has to believe, in this order: the protocol of a channel, and what its ends show.
pub mod Views
pub mod Protocol
pub mod Channel
pub mod ChannelEnds
-- the orders that workers are sent
pub mod Orders
pub mod TaskChannels
-- the messages of a job, and what its passes and its ends show
pub mod Messages
pub mod Passes
pub mod Hub
-- what workers are told of their losses
pub mod Verdicts
-- what only mirrors the code, for its proofs
pub mod inside
