pub mod Epochs
pub mod Joins
pub mod Numbers
pub mod Passing
pub mod Returning
