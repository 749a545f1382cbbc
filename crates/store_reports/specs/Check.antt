-- The text of `check`: one line for each listed file, and the first that is damaged.
use Rattle.std.specs.Prelude.{◌≡◌, ℕ, Bool, List, ◌++◌, take, map, All, Option, None, Some, Result, Ok, Err, slice_get, IsTrue, codes, decimal}
use Rattle.std.specs.List.{flat_map, filter_map}
use Rattle.std.specs.Io.KnownBytes.{Appends}
use Rattle.edge_io.specs.Stream.{AppendsFront}
use Rattle.disk_model.specs.Files.{Name, Files, HasFile}
use Rattle.partition_names.specs.declared.part.Part.{Part}
use Rattle.pb_file.specs.Verdict.{IsGood, IsDamaged}
use Rattle.pins.specs.declared.choosing.Listed.{Listed}
use Rattle.pv_catalog.specs.declared.row.Row.{Row}
use Rattle.store_reports.specs.Listing.{name_of}
use Rattle.store_reports.specs.declared.report.Damage.{Damage}
use Rattle.store_reports.specs.declared.report.Finding.{Finding}
use Rattle.store_reports.specs.declared.report.Finding.TheVariants as found
use Rattle.store_reports.specs.declared.inspection.CheckErr.{CheckErr}

-- a listed file, and what is found of it
pub record Inspected : Type 0 where
  pub file : Listed
  pub finding : Finding

abbrev pub file_in : Inspected → Listed
file_in i = i.file

-- the bytes are a file of the partition, of so many samples
pub record IsGoodFile (part : Part) (bytes : List ℕ) (count : ℕ) : Type 0 where
  pub first : ℕ
  pub last : ℕ
  pub good : IsGood part bytes count first last

abbrev pub Finds : Part → List ℕ → Finding → Type 0
Finds part bytes (found.Good count) = IsGoodFile part bytes count
Finds part bytes (found.Damaged at) = IsDamaged part bytes at

-- It is found of the file, cut at its listed length. Of the bytes of a disk that doesn't tell them nothing is said.
abbrev pub IsFound : Bool → List Row → Files → Inspected → Type 0
IsFound tells rows files i = IsTrue tells → HasFile files (name_of rows i.file) (λ b. Finds i.file.entry.part (take i.file.entry.len b) i.finding)

abbrev pub finding_text : Finding → List ℕ
finding_text (found.Good count) = codes "ok " ++ decimal count
finding_text (found.Damaged at) = codes "damaged " ++ decimal at

-- the line of a file: its store, its path and what is found
abbrev pub file_line : Name → Finding → List ℕ
file_line name finding = decimal name.0 ++ codes " " ++ name.1 ++ codes " " ++ finding_text finding ++ codes "\n"

abbrev pub lines_of : List Row → List Inspected → List ℕ
lines_of rows inspected = flat_map (λ (i : Inspected). file_line (name_of rows i.file) i.finding) inspected

abbrev pub damage_of : Name → Finding → Option Damage
damage_of name (found.Good count) = None
damage_of name (found.Damaged at) = Some (record { name = name; at = at })

-- the first of the files that is damaged, if one is
abbrev pub first_damage : List Row → List Inspected → Option Damage
first_damage rows inspected = slice_get (filter_map (λ (i : Inspected). damage_of (name_of rows i.file) i.finding) inspected) 0

-- These files were inspected, in their order. This becomes of their lines, and this is the first damage.
pub record Inspects (tells : Bool) (rows : List Row) (files : Files) (listed : List Listed) (first : Option Damage) (Becomes : List ℕ → Type 0) : Type 0 where
  pub inspected : List Inspected
  pub are : listed ≡ map file_in inspected
  pub found : All (IsFound tells rows files) inspected
  pub damage : first ≡ first_damage rows inspected
  pub lines : Becomes (lines_of rows inspected)

-- some first ones of the files were
pub record InspectsSome (tells : Bool) (rows : List Row) (files : Files) (listed : List Listed) (Becomes : List ℕ → Type 0) : Type 0 where
  pub done : List Listed
  pub rest : List Listed
  pub split : listed ≡ done ++ rest
  pub first : Option Damage
  pub inspects : Inspects tells rows files done first Becomes

-- What a check of the listed files came to: the lines of all were written, and the first damage is told; or a front of some lines was.
abbrev pub Checks : {R : Type 0} → Bool → List Row → Files → List Listed → Option (List ℕ) → Option (List ℕ) → Result (Option Damage) (CheckErr R) → Type 0
Checks {R} tells rows files listed a b (Ok first) = Inspects tells rows files listed first (Appends a b)
Checks {R} tells rows files listed a b (Err e) = InspectsSome tells rows files listed (AppendsFront a b)
