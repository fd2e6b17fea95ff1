pub mod Listings
pub mod Modules
pub mod Answering
