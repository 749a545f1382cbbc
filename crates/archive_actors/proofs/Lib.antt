pub mod Learning
pub mod Turns
