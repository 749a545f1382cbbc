mod Owns
mod Counts
mod Drained
mod Parts
pub mod Law
pub mod Works
mod Witness
mod Joins
mod Moving
mod Dues
pub mod Timed
pub mod Histories
