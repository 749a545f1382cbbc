pub mod ReadLemmas
pub mod Written
pub mod GrammarLemmas
pub mod FieldLemmas
pub mod FaultLemmas
pub mod ContentsLemmas
pub mod FieldTexts
pub mod MessageLemmas
pub mod SignedLemmas
pub mod LengthLemmas
mod ShortLemmas
pub mod PairTexts
pub mod PairWritten
