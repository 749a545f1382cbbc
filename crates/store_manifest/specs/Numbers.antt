-- How wide numbers are.
use Rattle.std.specs.Prelude.{◌<◌, ◌^◌}
use Rattle.store_manifest.specs.declared.entry.Entry.{Entry}
use Rattle.store_manifest.specs.declared.entry.Change.{Change}
use Rattle.store_manifest.specs.declared.entry.Change.TheVariants.{Set, Drop}

-- each number of the entry fits its width
pub record IsSized (e : Entry) : Type 0 where
  pub series : e.series < 2 ^ 32
  pub len : e.len < 2 ^ 64
  pub head_len : e.head_len < 2 ^ 32
  pub first : e.first < 2 ^ 64
  pub last : e.last < 2 ^ 64
  pub count : e.count < 2 ^ 64

-- each number of the change fits its width
abbrev pub HasSizes : Change → Type 0
HasSizes (Set e) = IsSized e
HasSizes (Drop series start) = (series < 2 ^ 32) × (start < 2 ^ 64)
