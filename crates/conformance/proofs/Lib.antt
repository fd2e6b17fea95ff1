pub mod Letters
pub mod Values
