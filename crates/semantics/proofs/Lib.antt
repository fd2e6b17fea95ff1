mod Rotations
mod Divisions
pub mod OneEnd
pub mod RunLaws
pub mod Counts
pub mod Values
pub mod Sound
pub mod Plains
pub mod Hosts
pub mod Callees
pub mod Lengths
pub mod Covering
pub mod Reach
pub mod Calling
pub mod Loops
pub mod Opening
pub mod Closing
pub mod Codes
pub mod Entering
pub mod Induction
pub mod Fairness
pub mod Starting
pub mod Instructions
pub mod Whole
pub mod Fixed
pub mod Told
pub mod Faults
pub mod Outcomes
