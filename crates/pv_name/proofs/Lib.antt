pub mod Segments
pub mod Keys
pub mod Refusals
pub mod KeyNames
