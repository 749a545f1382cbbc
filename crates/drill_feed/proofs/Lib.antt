pub mod Drawing
pub mod Ranges
pub mod Lines
pub mod Streams
pub mod Moments
pub mod Chunks
pub mod Moves
pub mod Names
