pub mod Printing
mod Noted
pub mod Asides
pub mod Machine
