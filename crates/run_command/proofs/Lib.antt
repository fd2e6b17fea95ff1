pub mod JobLines
pub mod Folders
mod Noted
