pub mod Boards
pub mod Worked
pub mod Counting
pub mod Halves
pub mod Taking
