pub mod Pieces
pub mod Reading
pub mod Over
pub mod Beginning
pub mod Source
pub mod Merging
pub mod Reads
