pub mod Memory
pub mod Trying
pub mod Known
pub mod Taking
pub mod Parts
