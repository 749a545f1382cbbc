mod OnBoards
pub mod Seats
pub mod TwoActs
