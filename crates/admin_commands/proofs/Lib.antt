pub mod Steps
pub mod Proceeding
pub mod Gathering
