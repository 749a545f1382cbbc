pub mod Written
pub mod Staying
pub mod Places
pub mod Batches
pub mod Planning
pub mod Commits
