pub mod Elements
pub mod Sampled
pub mod Counting
pub mod Ending
pub mod Seeing
pub mod Stepping
pub mod Telling
