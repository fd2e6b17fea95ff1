pub mod Accounts
pub mod Calm
pub mod Ending
pub mod Faults
pub mod Moving
pub mod Over
pub mod Spent
pub mod Telling
