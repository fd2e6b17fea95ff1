pub mod Epochs
pub mod Joins
pub mod Works
