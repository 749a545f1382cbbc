pub mod Asking
pub mod Counting
pub mod Handing
pub mod Whole
pub mod Given
