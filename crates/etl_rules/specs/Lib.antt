pub mod Config
pub mod Choosing
