pub mod Rounds
pub mod End
pub mod Does
pub mod Timed
pub mod Flushes
pub mod Moves
pub mod Due
pub mod Acting
