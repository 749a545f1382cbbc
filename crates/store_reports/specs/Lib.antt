pub mod Check
pub mod Keeping
pub mod Listing
pub mod Status
pub mod Telling
