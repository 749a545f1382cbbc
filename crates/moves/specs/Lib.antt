pub mod Parts
pub mod Search
pub mod Series
pub mod Table
