pub mod Disks
pub mod Fits
pub mod Imports
pub mod Meaning
pub mod Lines
pub mod Whole
