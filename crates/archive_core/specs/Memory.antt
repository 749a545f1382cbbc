-- What an archive keeps of its rows in memory, beside the catalogue's rows: of each the first moment that is later than all its accepted
-- samples, what a sampled row holds, and the tail that the intake holds; and of a batch that is flushed where its rows end.
use Rattle.std.specs.Prelude.{◌≡◌, ◌≤◌, ◌-◌, ◌++◌, ◌∷◌, ℕ, List, [], length, map, take, Option, Some, None, Result, Ok, Err, option_map, slice_get, slice_set}
use Rattle.pb_messages.specs.declared.about.About.{About}
use Rattle.pv_catalog.specs.Catalogue.{HasState}
use Rattle.pv_catalog.specs.declared.row.Row.{Row}
use Rattle.series_model.specs.declared.batch.RowSamples.{RowSamples}
use Rattle.series_model.specs.declared.sample.Sample.{Sample}
use Rattle.pb_messages.specs.declared.about.State.{State}
use Rattle.pb_messages.specs.declared.about.State.TheVariants.{Retired}
use Rattle.intake.specs.Tails.{TailState, tail_at}
use Rattle.act_model.specs.Rows.{RowState, period_of}
use Rattle.archive_core.specs.declared.memory.Doubt.{Doubt}
use Rattle.archive_core.specs.declared.memory.Doubt.TheVariants as doubt
use Rattle.archive_core.specs.declared.memory.RowEnd.{RowEnd}
use Rattle.intake_half.specs.Memory.{cell_in, period_in, renamed_memory, cleared}
use Rattle.intake_half.specs.declared.memory.RowMemory.{RowMemory}
use Rattle.archive_core.specs.Parts.{InMemory}
use Rattle.disk_model.specs.declared.disk.DiskErr.{DiskErr}

-- A row of the catalogue, what is kept of it, and its tail, which is the one of this number, are those of a row of the machine.
pub record IsRowOf (tails : List TailState) (i : ℕ) (row : Row) (kept : RowMemory) (r : RowState) : Type 0 where
  pub name : r.name ≡ row.name
  pub about : r.about ≡ row.about
  pub state : r.state ≡ row.state
  pub base : r.base ≡ row.base
  pub next : r.next ≡ kept.next
  pub cell : r.cell ≡ cell_in kept.scan
  pub period : period_in kept.scan ≡ period_of r.about.method
  pub tail : r.tail ≡ (tail_at tails i).samples

-- all that is in memory of the row of this number is that of a row of the machine
pub record IsRowAt (rows : List Row) (kept : List RowMemory) (tails : List TailState) (i : ℕ) (r : RowState) : Type 0 where
  pub row : Row
  pub memory : RowMemory
  pub here : slice_get rows i ≡ Some row
  pub there : slice_get kept i ≡ Some memory
  pub is : IsRowOf tails i row memory r

-- The rows in memory are those of the machine, and behind them the intake holds nothing.
pub record AreRowsOf (rows : List Row) (kept : List RowMemory) (tails : List TailState) (rs : List RowState) : Type 0 where
  pub count : length rs ≡ length rows
  pub each : (i : ℕ) (r : RowState) → slice_get rs i ≡ Some r → IsRowAt rows kept tails i r
  pub beyond : (i : ℕ) → length rs ≤ i → (tail_at tails i).samples ≡ []

-- what is kept of a part of a batch that is flushed: its row, and its last moment
abbrev pub row_end : RowSamples → RowEnd
row_end part = record { row = part.row; last = option_map (λ (s : Sample). s.t) (slice_get part.samples (length part.samples - 1)) }

abbrev pub row_ends : List RowSamples → List RowEnd
row_ends batch = map row_end batch

-- the row whose state the doubted change sets, with that state: the row of a variable that gets a new name is retired
abbrev pub set_by : Option Doubt → Option (ℕ × State)
set_by None = None
set_by (Some doubt.Row) = None
set_by (Some (doubt.State row to)) = Some (row, to)
set_by (Some (doubt.Rename old)) = Some (old, Retired)
set_by (Some (doubt.Flush ends)) = None
set_by (Some doubt.Published) = None

-- Where the doubted change sets a row's state, and the row has it, what is kept of the row is cleared. All else stays.
pub record IsCleared (rows : List Row) (d : Option Doubt) (old new : List RowMemory) : Type 0 where
  pub other : ((row : ℕ) (to : State) → set_by d ≡ Some (row, to) → HasState rows row to → ⊥) → new ≡ old
  pub own : (row : ℕ) (to : State) → set_by d ≡ Some (row, to) → HasState rows row to
      → (memory : RowMemory) → slice_get old row ≡ Some memory → new ≡ slice_set old row (cleared memory)

-- memory with that of a row more than these, which takes samples from this moment on
abbrev pub with_row : List Row → About → ℕ → InMemory → InMemory
with_row rows about next memory = record memory { kept = take (length rows) memory.kept ++ renamed_memory about next ∷ [] }

-- What is kept of a row is cleared where a call is done that sets its state, and all in memory stays where it fails.
abbrev pub ClearsRow : {A : Type 0} → ℕ → InMemory → InMemory → Result A DiskErr → Type 0
ClearsRow {A} row old new (Ok a) = (memory : RowMemory) → slice_get old.kept row ≡ Some memory → new ≡ record old { kept = slice_set old.kept row (cleared memory) }
ClearsRow {A} row old new (Err e) = new ≡ old

-- The memory of a row under a new name is there, whatever comes of the call that gives it, and what is kept of the old row is cleared where it is done.
abbrev pub RenamesRow : {A : Type 0} → List Row → ℕ → InMemory → InMemory → Result A DiskErr → Type 0
RenamesRow {A} rows row old new result = (r : Row) (memory : RowMemory) → slice_get rows row ≡ Some r → slice_get old.kept row ≡ Some memory → ClearsRow row (with_row rows r.about memory.next old) new result
