pub mod Granularity
pub mod Name
pub mod NameBytes
pub mod Part
pub mod Path
pub mod Unit
