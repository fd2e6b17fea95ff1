pub mod Leveling
pub mod ReachedFootprint
pub mod ReachedExtents
pub mod Refusals
pub mod Computing
