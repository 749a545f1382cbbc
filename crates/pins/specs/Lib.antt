pub mod Pinned
pub mod Pieces
pub mod Choosing
