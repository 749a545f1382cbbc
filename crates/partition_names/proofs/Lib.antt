pub mod NameLemmas
pub mod PartLemmas
pub mod PathLemmas
pub mod UnitLemmas
