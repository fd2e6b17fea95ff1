pub mod TextLines
pub mod InputLines
pub mod Meanings
