pub mod Epochs
pub mod HandedIn
pub mod Joins
pub mod RunAnswers
