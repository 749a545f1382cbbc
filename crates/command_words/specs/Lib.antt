pub mod Command
pub mod Complaint
pub mod ServeWords
pub mod Status
