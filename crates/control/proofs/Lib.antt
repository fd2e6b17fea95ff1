pub mod ByPlace
pub mod Least
pub mod Sound
pub mod Stamps
