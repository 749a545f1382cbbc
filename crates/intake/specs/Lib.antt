pub mod Tails
pub mod BatchLaws
pub mod Row
pub mod HistoryLaws
