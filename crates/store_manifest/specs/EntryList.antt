-- What contracts see of the entries of one series in memory.
use Rattle.std.specs.Prelude.{ℕ, List}
use Rattle.store_manifest.specs.declared.entry.Entry.{Entry}

-- the entries, of how many its memory is used, those that are gone with them, and for how many it is
pub record ListState : Type 0 where
  pub items : List Entry
  pub used : ℕ
  pub capacity : ℕ
