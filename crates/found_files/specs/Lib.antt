pub mod Candidate
pub mod ReadRuns
pub mod Reading
pub mod Refusals
