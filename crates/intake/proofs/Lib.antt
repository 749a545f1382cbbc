pub mod TailLemmas
mod BatchLemmas
mod HistoryLemmas
