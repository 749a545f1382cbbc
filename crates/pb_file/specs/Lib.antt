pub mod Line
pub mod Block
pub mod Walk
pub mod Skip
pub mod Search
pub mod Parting
pub mod Verdict
pub mod GoodFront
