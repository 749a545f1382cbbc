-- The durable changes: a row is added, a row's state is set, a variable goes on in a new row with a new name, tails are appended to store
-- 1, copied samples are listed in the next store, and partitions leave a store. One function, `made`, says what a change does. An act's
-- own change, a doubt that is settled as made, and what a crash may leave all use it.
use Rattle.std.specs.FinMap.{get}
use Rattle.std.specs.List.{AllByRecursion}
use Rattle.std.specs.Prelude.{◌≡◌, ◌≢◌, ℕ, ◌+◌, ◌≤◌, ◌<◌, ◌==◌, List, [], ◌∷◌, ◌++◌, length, Bool, true, false, if◌then◌else◌, nat_eq, Option, Some, None, slice_get}
use Rattle.pb_messages.specs.declared.about.State.{State}
use Rattle.pb_messages.specs.declared.about.State.TheVariants.{Retired}
use Rattle.series_model.specs.Sampling.{first_cell}
use Rattle.series_model.specs.Series.{since, end_of}
use Rattle.series_model.specs.declared.batch.RowSamples.{RowSamples}
use Rattle.series_model.specs.declared.sample.Sample.{Sample}
use Rattle.act_model.specs.Limbo.{RowFile, files_of, put, tier_at, unlisted, IsThere, PlacesDiffer}
use Rattle.act_model.specs.Machine.{PinState, Change, AddsRow, SetsState, Renames, Appends, Publishes, Unlists, Machine}
use Rattle.act_model.specs.Rows.{RowState, fresh_row, renamed_row, Store, Short, Long, next_store, tier, with_tier, window, is_empty}
use Rattle.act_model.specs.Rule.{IsPartition}

-- each row by its number
abbrev pub each : (ℕ → RowState → RowState) → ℕ → List RowState → List RowState
each f i [] = []
each f i (row ∷ rows) = f i row ∷ each f (i + 1) rows

-- the row of this number alone
abbrev pub at : ℕ → (RowState → RowState) → ℕ → RowState → RowState
at k f i row = if i == k then f row else row

-- each row changed by its number
abbrev pub with_rows : Machine → (ℕ → RowState → RowState) → Machine
with_rows m f = record m { rows = each f 0 m.rows }

-- what a batch has of a row
abbrev pub of_row : ℕ → List RowSamples → List Sample
of_row i [] = []
of_row i (p ∷ batch) = if nat_eq p.row i then p.samples ++ of_row i batch else of_row i batch

-- the row's state is set, and a sampled row holds nothing and is due at once
abbrev pub without_held : State → RowState → RowState
without_held state row = record row { state = state; cell = first_cell }

-- samples leave the tail for store 1
abbrev pub flushed : Bool → List RowFile → List Sample → RowState → RowState
flushed told limbo xs row = record row { short = if told then put xs limbo row.short else row.short; tail = since (end_of xs) row.tail }

-- copied samples are listed
abbrev pub published : Bool → List RowFile → Store → List Sample → RowState → RowState
published told limbo store xs row = if told then with_tier row store (put xs limbo (tier row store)) else row

-- what is before a moment leaves a store
abbrev pub retired : Bool → Store → ℕ → RowState → RowState
retired told store to row = if told then with_tier row store (since to (tier row store)) else row

-- what a change makes of each row
abbrev pub changed : Bool → List RowFile → Change → ℕ → RowState → RowState
changed told limbo (AddsRow name about) i row = row
changed told limbo (SetsState k state) i row = at k (without_held state) i row
changed told limbo (Renames k name) i row = at k (without_held Retired) i row
changed told limbo (Appends batch) i row = flushed told (files_of i Short limbo) (of_row i batch) row
changed told limbo (Publishes k store copied) i row = at k (published told (files_of k (next_store store) limbo) (next_store store) copied) i row
changed told limbo (Unlists k store to) i row = at k (retired told store to) i row

-- the row that a change adds to these
abbrev pub added : Change → List RowState → List RowState
added (AddsRow name about) rows = fresh_row name about ∷ []
added (SetsState k state) rows = []
added (Renames k name) rows = of (slice_get rows k)
  where
    of : Option RowState → List RowState
    of None = []
    of (Some row) = renamed_row name k row ∷ []
added (Appends batch) rows = []
added (Publishes k store copied) rows = []
added (Unlists k store to) rows = []

-- the rows once the change is made
abbrev pub changed_rows : Bool → List RowFile → Change → List RowState → List RowState
changed_rows told limbo change rows = each (changed told limbo change) 0 rows ++ added change rows

-- The state once the change is made: its rows, and limbo without what is listed again. `into` are the retired files that go to limbo.
abbrev pub made : List RowFile → Change → Machine → Machine
made into change m =
    record m {
      rows = changed_rows m.told m.limbo change m.rows;
      limbo = unlisted (changed_rows m.told m.limbo change m.rows) (m.limbo ++ into);
    }

-- the piece is a listed file of a row's store, all of whose partition is before the moment
pub record IsRetired (m : Machine) (i : ℕ) (store : Store) (to : ℕ) (f : RowFile) : Type 0 where
  pub row : f.row ≡ i
  pub here : i < length m.rows
  pub own_store : f.store ≡ store
  pub moves : store ≢ Long
  pub whole : f.part.start ≤ f.part.end
  pub before : f.part.end ≤ to
  pub partition : m.told ≡ true → IsPartition m.rule store f.part
  pub samples : m.told ≡ true → f.samples ≡ window f.part (tier_at m.rows i store)
  pub some : m.told ≡ true → is_empty f.samples ≡ false

-- each listed piece of a pin stays
pub record StaysPinned (m : Machine) (i : ℕ) (store : Store) (to : ℕ) (into : List RowFile) : Type 0 where
  pub stays : (n : ℕ) (p : PinState) → get m.pins n ≡ Some p
      → AllByRecursion (λ (piece : RowFile). piece.row ≡ i → piece.store ≡ store → piece.part.end ≤ to → is_empty (window piece.part (tier_at m.rows i store)) ≡ false → IsThere piece.part (files_of i store into)) p.pieces

-- which retired files may stay as limbo
abbrev pub Retires : Machine → Change → List RowFile → Type 0
Retires m (AddsRow name about) into = into ≡ []
Retires m (SetsState k state) into = into ≡ []
Retires m (Renames k name) into = into ≡ []
Retires m (Appends batch) into = into ≡ []
Retires m (Publishes k store copied) into = into ≡ []
Retires m (Unlists k store to) into = AllByRecursion (IsRetired m k store to) into × StaysPinned m k store to into × (m.told ≡ true → PlacesDiffer into)

-- A doubt is settled, as made or as not made.
pub data Settles : Machine → Machine → Type 0 where
  no_doubt : {m : Machine} → m.doubt ≡ None → Settles m m
  as_not_made : {m : Machine} (change : Change) → m.doubt ≡ Some change → Settles m (record m { doubt = None })
  as_made : {m : Machine} (change : Change) (into : List RowFile) → m.doubt ≡ Some change → Retires m change into
      → Settles m (record (made into change m) { doubt = None })
