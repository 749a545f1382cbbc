-- The text of `status`: one line for each row.
use Rattle.std.specs.Prelude.{◌≡◌, ◌⊎◌, ℕ, ◌+◌, Bool, IsTrue, List, [], ◌∷◌, ◌++◌, length, Option, Some, Result, Ok, Err, slice_get, codes, decimal}
use Rattle.std.specs.List.{flat_map}
use Rattle.std.specs.Io.KnownBytes.{Appends}
use Rattle.edge_io.specs.Stream.{Rose, AppendsFront}
use Rattle.disk_model.specs.declared.disk.DiskErr.{DiskErr}
use Rattle.disk_model.specs.declared.disk.DiskErr.TheVariants as disk_err
use Rattle.pb_messages.specs.declared.about.State.{State}
use Rattle.pb_messages.specs.declared.about.State.TheVariants.{Running, Paused, Retired}
use Rattle.pb_wire.specs.Payload.{row_of}
use Rattle.pv_catalog.specs.declared.row.Row.{Row}
use Rattle.edge_io.specs.declared.buffer.PutErr.{PutErr}
use Rattle.edge_io.specs.declared.buffer.PutErr.TheVariants as put
use Rattle.edge_io.specs.Sent.{Sends}
use Rattle.durable_write.specs.Ends.{End, Done, Failed, Spent}
use Rattle.durable_write.specs.Plan.{of_row}
use Rattle.tier_store.specs.Change.{Has}
use Rattle.tier_store.specs.Pinning.{entries_of}
use Rattle.tier_store.specs.Seen.{Seen}
use Rattle.tier_store.specs.Stores.{Stores, whole_in}
use Rattle.tier_store.specs.Tallying.{RiseFrom, entries_of_line, listed_count}
use Rattle.store_reports.specs.declared.summary.StatusErr.{StatusErr}
use Rattle.store_reports.specs.declared.summary.StatusErr.TheVariants.{SinkFault, DiskFault, OutOfMemory}

-- THE LINES

abbrev pub state_name : State → List ℕ
state_name Running = codes "running"
state_name Paused = codes "paused"
state_name Retired = codes "retired"

-- the row's line, where so many samples are held of its variable up to its name, and stores 1, 2 and 3 list so many files of the row itself
abbrev pub row_line : Row → ℕ → ℕ → ℕ → ℕ → List ℕ
row_line row samples short medium long =
    row.name ++ codes " " ++ (row_of row.about.ty).name ++ codes " " ++ state_name row.state ++ codes " samples " ++ decimal samples ++ codes " files " ++ decimal short ++ codes " " ++ decimal medium ++ codes " " ++ decimal long ++ codes "\n"

-- the lines of rows whose numbers begin with this one
abbrev pub lines_from : ℕ → List Row → (ℕ → Row → List ℕ) → List ℕ
lines_from id [] line = []
lines_from id (row ∷ rows) line = line id row ++ lines_from (id + 1) rows line

-- by what is held: the samples of the whole of the row, and the files that each store lists of the row itself
abbrev pub held_line : Stores → ℕ → Row → List ℕ
held_line held id row = row_line row (length (whole_in id held)) (length (of_row id held.short)) (length (of_row id held.medium)) (length (of_row id held.long))

abbrev pub status_text : Stores → List ℕ
status_text held = lines_from 0 held.rows (held_line held)

-- WHAT IS TOLD OF ANY STORES

-- The number that is told of the samples of the whole of a row. Where a disk tells its files and what is held stands, it is that of those
-- that are held. Where by their entries the files rise in the order in which they are read, it is the one that the entries say.
pub record IsCount (tells : Bool) (at : Seen) (i n : ℕ) : Type 0 where
  pub held : IsTrue tells → (held : Stores) → Has tells at held → IsTrue held.stands → n ≡ length (whole_in i held)
  pub listed : let entries = entries_of_line i at.catalogue.rows at.manifests in RiseFrom 0 entries → n ≡ listed_count entries

-- how many files the store at a place lists of a row
abbrev pub files_of : ℕ → ℕ → Seen → ℕ
files_of place i at = length (entries_of i (slice_get at.manifests place))

-- the line of the row with this number
pub record IsLine (tells : Bool) (at : Seen) (i : ℕ) (line : List ℕ) : Type 0 where
  pub row : Row
  pub here : slice_get at.catalogue.rows i ≡ Some row
  pub count : ℕ
  pub is : IsCount tells at i count
  pub text : line ≡ row_line row count (files_of 0 i at) (files_of 1 i at) (files_of 2 i at)

-- those of the rows from this number on, one after another
abbrev pub AreLines : Bool → Seen → ℕ → List (List ℕ) → Type 0
AreLines tells at i [] = Unit {0}
AreLines tells at i (line ∷ lines) = IsLine tells at i line × AreLines tells at (i + 1) lines

-- The lines of so many first rows. This becomes of them.
pub record RowLines (tells : Bool) (at : Seen) (n : ℕ) (Becomes : List ℕ → Type 0) : Type 0 where
  pub lines : List (List ℕ)
  pub many : length lines ≡ n
  pub are : AreLines tells at 0 lines
  pub text : Becomes (flat_map (λ (line : List ℕ). line) lines)

-- the lines of all rows, or where it stopped of some first ones
abbrev pub Lines : Bool → Seen → Result Unit StatusErr → (List ℕ → Type 0) → Type 0
Lines tells at (Ok done) Becomes = RowLines tells at (length at.catalogue.rows) Becomes
Lines tells at (Err e) Becomes = (n : ℕ) × RowLines tells at n Becomes

-- all of a text was written, or a front of it
abbrev pub Writes : Option (List ℕ) → Option (List ℕ) → Result Unit StatusErr → List ℕ → Type 0
Writes a b (Ok done) text = Appends a b text
Writes a b (Err e) text = AppendsFront a b text

-- the lines of the rows were written
abbrev pub Reports : Bool → Seen → Option (List ℕ) → Option (List ℕ) → Result Unit StatusErr → Type 0
Reports tells at a b r = Lines tells at r (Writes a b r)

-- HOW IT ENDS

-- What becomes of a text before what is gathered is written: a front of it went out, and the rest is gathered; after a failed write a
-- front of it went out.
abbrev pub Gathers : Option (List ℕ) → Option (List ℕ) → List ℕ → Result Unit StatusErr → List ℕ → Type 0
Gathers a b left (Ok done) text = Sends a b text left
Gathers a b left (Err SinkFault) text = AppendsFront a b text
Gathers a b left (Err DiskFault) text = Sends a b text left
Gathers a b left (Err OutOfMemory) text = Sends a b text left

-- it ended as it did before what was gathered was written, or that failed
abbrev pub EndsAs : ℕ → ℕ → Result Unit StatusErr → Result Unit StatusErr → Type 0
EndsAs before now (Ok x) (Ok y) = Unit {0}
EndsAs before now (Err e) (Ok y) = ⊥
EndsAs before now told (Err e) = (told ≡ Err e) ⊎ ((e ≡ SinkFault) × Rose before now)

-- what it came to, as a call of the disk
abbrev pub end_of_status : Result Unit StatusErr → End (Unit {0}) ⊥
end_of_status (Ok done) = Done tt
end_of_status (Err SinkFault) = Spent
end_of_status (Err DiskFault) = Failed
end_of_status (Err OutOfMemory) = Spent

-- why it stops where the disk fails, or a line isn't taken
abbrev pub status_of_disk : DiskErr → StatusErr
status_of_disk disk_err.Fault = DiskFault
status_of_disk disk_err.Memory = OutOfMemory

abbrev pub status_of_put : PutErr → StatusErr
status_of_put put.SinkFault = SinkFault
status_of_put put.Memory = OutOfMemory
