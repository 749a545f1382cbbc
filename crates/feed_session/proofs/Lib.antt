pub mod Making
pub mod Reading
pub mod Asked
pub mod Flushing
pub mod Going
pub mod Telling
pub mod Durable
