pub mod CalendarLemmas
pub mod DigitLemmas
pub mod IsoLemmas
pub mod YearLemmas
