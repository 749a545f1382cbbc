-- What stands at the front of a batch's bytes.
use Rattle.std.specs.Prelude.{◌≡◌, ℕ, List, ◌++◌, IsTrue}
use Rattle.partition_names.specs.declared.granularity.Granularity.{Granularity}
use Rattle.partition_names.specs.Part.{IsPart}
use Rattle.store_manifest.specs.declared.entry.Entry.{Entry}
use Rattle.store_manifest.specs.declared.entry.Change.{Change}
use Rattle.store_manifest.specs.declared.entry.Change.TheVariants.{Set, Drop}
use Rattle.store_manifest.specs.Batches.{encoded}
use Rattle.store_manifest.specs.Entries.{is_listed}
use Rattle.store_manifest.specs.Numbers.{HasSizes}

-- what is set is a file of one of the granularity's partitions
abbrev pub HasPart : Granularity → Change → Type 0
HasPart g (Set e) = IsPart g e.part
HasPart g (Drop series start) = Unit {0}

-- what is dropped is listed
abbrev pub IsAllowed : List Entry → Change → Type 0
IsAllowed entries (Set e) = Unit {0}
IsAllowed entries (Drop series start) = IsTrue (is_listed entries (series, start))

-- the bytes begin with this change, which some entries allow, and then come the others
pub record IsFront (g : Granularity) (bytes : List ℕ) (change : Change) (rest : List ℕ) : Type 0 where
  pub split : bytes ≡ encoded change ++ rest
  pub sizes : HasSizes change
  pub part : HasPart g change
