mod EntryLemmas
pub mod PinLemmas
pub mod ChoosingLemmas
