mod Answering
mod Leaving
mod Starting
pub mod Reading
mod SoFar
mod Pulling
mod Coming
mod Came
mod Giving
pub mod Went
mod Later
mod Answered
pub mod Holding
