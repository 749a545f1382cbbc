pub mod Strings
pub mod Texts
pub mod Objects
pub mod Lines
pub mod Sending
