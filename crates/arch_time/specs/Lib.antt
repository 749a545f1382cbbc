pub mod Calendar
pub mod Digits
pub mod Iso
pub mod YearTime
