pub mod Left
pub mod Pairs
pub mod Calls
