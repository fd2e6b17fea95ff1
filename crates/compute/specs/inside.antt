pub mod PartOutput
pub mod DueRuns
