pub mod DueRows
pub mod Filled
pub mod Following
pub mod Handed
pub mod Rows
