pub mod Cut
pub mod Numbers
pub mod Pieces
pub mod Writing
