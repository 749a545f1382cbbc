-- What `status` and `check` write of what a disk holds, and of what its journals list.
use Rattle.std.specs.Prelude.{◌≡◌, ℕ, ◌+◌, true, List, [], ◌∷◌, ◌++◌, length, filter, nat_eq, Option, None, Some, Result, Ok, Err, slice_get}
use Rattle.std.specs.List.{flat_map}
use Rattle.std.specs.Io.KnownBytes.{Appends}
use Rattle.edge_io.specs.Stream.{AppendsFront}
use Rattle.disk_model.specs.Files.{Name, Files}
use Rattle.pins.specs.Choosing.{listed}
use Rattle.pins.specs.declared.choosing.Listed.{Listed}
use Rattle.pv_catalog.specs.Lines.{line as line_of}
use Rattle.pv_catalog.specs.declared.row.Row.{Row}
use Rattle.store_manifest.specs.declared.entry.Entry.{Entry}
use Rattle.tier_store.specs.Tallying.{RiseFrom, listed_count}
use Rattle.store_reports.specs.Check.{Inspects, InspectsSome}
use Rattle.store_reports.specs.Status.{row_line}
use Rattle.store_reports.specs.declared.report.Damage.{Damage}
use Rattle.store_reports.specs.declared.inspection.CheckErr.{CheckErr}
use Rattle.store_reports.specs.declared.inspection.CheckErr.TheVariants as checked
use Rattle.store_reports.specs.declared.summary.StatusErr.{StatusErr}
use Rattle.store_reports.specs.declared.summary.StatusErr.TheVariants as summed
use Rattle.command_words.specs.declared.status.Status.{Status}
use Rattle.command_words.specs.declared.status.Status.TheVariants.{Done, SinkFault, DiskFault, Damaged, OutOfMemory}

-- the status of what a report of the rows came to
abbrev pub reported_status : Result Unit StatusErr → Status
reported_status (Ok done) = Done
reported_status (Err summed.SinkFault) = SinkFault
reported_status (Err summed.DiskFault) = DiskFault
reported_status (Err summed.OutOfMemory) = OutOfMemory

-- the status of what a check came to
abbrev pub checked_status : {R : Type 0} → Result (Option Damage) (CheckErr R) → Status
checked_status {R} (Ok None) = Done
checked_status {R} (Ok (Some damage)) = Damaged damage.name damage.at
checked_status {R} (Err checked.SinkFault) = SinkFault
checked_status {R} (Err checked.DiskFault) = DiskFault
checked_status {R} (Err (checked.ReadFault file)) = DiskFault
checked_status {R} (Err checked.OutOfMemory) = OutOfMemory

-- the file of which a read failed
abbrev pub checked_file : {R : Type 0} → Result (Option Damage) (CheckErr R) → Option R
checked_file {R} (Err (checked.ReadFault file)) = Some file
checked_file {R} _ = None

-- OF WHAT IS HELD

-- `status` wrote the whole text, or a front of it after a fault
abbrev pub Tells : List ℕ → Option (List ℕ) → Option (List ℕ) → Status → Type 0
Tells text a b Done = Appends a b text
Tells text a b SinkFault = AppendsFront a b text
Tells text a b DiskFault = AppendsFront a b text
Tells text a b OutOfMemory = AppendsFront a b text
Tells text a b _ = ⊥

-- OF WHAT IS LISTED

-- what a store lists of a row
abbrev pub own_entries : ℕ → List Entry → List Entry
own_entries i entries = filter (λ (e : Entry). nat_eq e.series i) entries

-- what the stores list of a row, in the order in which it is read
abbrev pub row_entries : ℕ → List Entry → List Entry → List Entry → List Entry
row_entries i short medium long = (own_entries i long ++ own_entries i medium) ++ own_entries i short

-- so they list it of rows, one after another
abbrev pub entries_of_rows : List ℕ → List Entry → List Entry → List Entry → List Entry
entries_of_rows ks short medium long = flat_map (λ (k : ℕ). row_entries k short medium long) ks

-- The line of the row with this number. Where by their entries its files and those of the rows under it rise in the order in which they are read, the
-- number of samples is the one that the entries say. The numbers of files are of the row's own.
pub record IsRowLine (rows : List Row) (short medium long : List Entry) (i : ℕ) (line : List ℕ) : Type 0 where
  pub row : Row
  pub here : slice_get rows i ≡ Some row
  pub count : ℕ
  pub is : let entries = entries_of_rows (line_of rows i) short medium long in RiseFrom 0 entries → count ≡ listed_count entries
  pub text : line ≡ row_line row count (length (own_entries i short)) (length (own_entries i medium)) (length (own_entries i long))

-- those of the rows from this number on, one after another
abbrev pub AreRowLines : List Row → List Entry → List Entry → List Entry → ℕ → List (List ℕ) → Type 0
AreRowLines rows short medium long i [] = Unit {0}
AreRowLines rows short medium long i (line ∷ lines) = IsRowLine rows short medium long i line × AreRowLines rows short medium long (i + 1) lines

-- The lines of so many first rows. This becomes of them.
pub record TellsRows (rows : List Row) (short medium long : List Entry) (n : ℕ) (Becomes : List ℕ → Type 0) : Type 0 where
  pub lines : List (List ℕ)
  pub many : length lines ≡ n
  pub are : AreRowLines rows short medium long 0 lines
  pub text : Becomes (flat_map (λ (line : List ℕ). line) lines)

-- `status` wrote the lines of all rows, or a front of some first ones after a fault
abbrev pub TellsListed : List Row → List Entry → List Entry → List Entry → Option (List ℕ) → Option (List ℕ) → Status → Type 0
TellsListed rows short medium long a b Done = TellsRows rows short medium long (length rows) (Appends a b)
TellsListed rows short medium long a b SinkFault = (n : ℕ) × TellsRows rows short medium long n (AppendsFront a b)
TellsListed rows short medium long a b DiskFault = (n : ℕ) × TellsRows rows short medium long n (AppendsFront a b)
TellsListed rows short medium long a b OutOfMemory = (n : ℕ) × TellsRows rows short medium long n (AppendsFront a b)
TellsListed rows short medium long a b _ = ⊥

-- the listed files of stores 1, 2 and 3, one store after another
abbrev pub listed_files : List Entry → List Entry → List Entry → List Listed
listed_files short medium long = (listed 1 short ++ listed 2 medium) ++ listed 3 long

-- this is the first of the listed files that is damaged, and the place of its first bad line
abbrev pub IsFirstDamage : List Row → Files → List Entry → List Entry → List Entry → Name → ℕ → Type 0
IsFirstDamage rows files short medium long name at = Inspects true rows files (listed_files short medium long) (Some (record { name = name; at = at })) (λ text. Unit {0})

-- `check` wrote the lines of all listed files, which are good, or of which the first damaged one is told; or a front of them after a fault
abbrev pub ChecksAll : List Row → Files → List Entry → List Entry → List Entry → Option (List ℕ) → Option (List ℕ) → Status → Type 0
ChecksAll rows files short medium long a b Done = Inspects true rows files (listed_files short medium long) None (Appends a b)
ChecksAll rows files short medium long a b (Damaged name at) = Inspects true rows files (listed_files short medium long) (Some (record { name = name; at = at })) (Appends a b)
ChecksAll rows files short medium long a b SinkFault = InspectsSome true rows files (listed_files short medium long) (AppendsFront a b)
ChecksAll rows files short medium long a b DiskFault = InspectsSome true rows files (listed_files short medium long) (AppendsFront a b)
ChecksAll rows files short medium long a b OutOfMemory = InspectsSome true rows files (listed_files short medium long) (AppendsFront a b)
ChecksAll rows files short medium long a b _ = ⊥
