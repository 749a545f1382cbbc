pub mod ElementLemmas
pub mod FieldsLemmas
pub mod EventLemmas
pub mod DecodeLemmas
pub mod PackedLemmas
pub mod KindLemmas
pub mod WrittenFields
pub mod WrittenValues
pub mod RoundTrip
mod UsualLemmas
pub mod InfoTypeLemmas
pub mod InfoSpellingLemmas
pub mod InfoRoundTrip
