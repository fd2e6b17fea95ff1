pub mod Barrier
pub mod Called
pub mod Codes
pub mod Opening
pub mod Rows
pub mod Running
pub mod Uniting
