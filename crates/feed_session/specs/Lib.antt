pub mod Asks
pub mod Asking
pub mod Session
pub mod Replies
pub mod Durable
