pub mod Telling
pub mod Summing
