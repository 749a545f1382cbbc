pub mod Sample
pub mod Fault
pub mod Header
pub mod Stream
pub mod Reader
pub mod File
pub mod Run
