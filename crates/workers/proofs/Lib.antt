pub mod Leaving
pub mod Pushing
pub mod Halves
