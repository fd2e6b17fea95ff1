pub mod DueRuns
pub mod PartCalls
pub mod PartLeft
