pub mod Stream
pub mod Lines
pub mod Memory
pub mod Moments
pub mod Doors
pub mod Paces
pub mod Sent
