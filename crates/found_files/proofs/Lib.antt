pub mod Candidates
pub mod Paths
