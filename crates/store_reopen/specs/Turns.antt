-- Which turn takes which file, by what the manifests say.
use Rattle.std.specs.Prelude.{◌≡◌, ◌≢◌, ◌≤◌, ◌+◌, ◌-◌, ◌⊎◌, ◌++◌, ◌∷◌, [], ℕ, List, All, Some, filter, length, slice_get}
use Rattle.std.specs.List.{flat_map, sum_by}
use Rattle.found_files.specs.declared.finding.Candidate.{Candidate}
use Rattle.pv_catalog.specs.declared.row.Row.{Row}
use Rattle.store_manifest.specs.Manifest.{ManifestState}
use Rattle.store_manifest.specs.declared.entry.Entry.{Entry}
use Rattle.store_reopen.specs.Adoption.{IsSingle, capped, place_of, row_of}
use Rattle.store_reopen.specs.declared.adopted.Adopted.{Adopted}
use Rattle.store_reopen.specs.declared.finding.TakenFile.{TakenFile}
use Rattle.store_reopen.specs.declared.finding.Unlisted.{Unlisted}

-- no manifest at this place and before it lists a file of the row
abbrev pub ListNone : ℕ → ℕ → List ManifestState → Type 0
ListNone place series manifests = (k : ℕ) (m : ManifestState) → k ≤ place → slice_get manifests k ≡ Some m → All (λ (e : Entry). e.series ≢ series) m.entries

-- the turn takes this candidate of the store at a place
pub record IsOfTurn (manifests : List ManifestState) (rows : List Row) (turn place : ℕ) (c : Candidate) : Type 0 where
  pub here : place ≡ place_of turn
  pub row : Row
  pub stands : slice_get rows (row_of turn) ≡ Some row
  pub name : c.name ≡ row.name
  pub type : c.front.info.ty ≡ row.about.ty
  pub single : IsSingle row
  pub none : ListNone place (row_of turn) manifests

-- what a turn has is what it had, with the file where it takes it
pub record TakesIn (manifests : List ManifestState) (rows : List Row) (turn : ℕ) (x : Unlisted) (old new : List TakenFile) : Type 0 where
  pub takes : ((c : Candidate) × (x.candidate ≡ Some c) × IsOfTurn manifests rows turn x.place c
      × (new ≡ old ++ (record { file = x.file; candidate = c }) ∷ []))
      ⊎ (((c : Candidate) → x.candidate ≡ Some c → IsOfTurn manifests rows turn x.place c → ⊥) × (new ≡ old))

-- of these files just those that the turn takes, in their order
pub data TakesOf (manifests : List ManifestState) (rows : List Row) (turn : ℕ) : List Unlisted → List TakenFile → Type 0 where
  done : TakesOf manifests rows turn [] []
  takes : {x : Unlisted} {c : Candidate} {xs : List Unlisted} {ys : List TakenFile} → x.candidate ≡ Some c → IsOfTurn manifests rows turn x.place c
      → TakesOf manifests rows turn xs ys → TakesOf manifests rows turn (x ∷ xs) (record { file = x.file; candidate = c } ∷ ys)
  other : {x : Unlisted} {xs : List Unlisted} {ys : List TakenFile} → ((c : Candidate) → x.candidate ≡ Some c → IsOfTurn manifests rows turn x.place c → ⊥)
      → TakesOf manifests rows turn xs ys → TakesOf manifests rows turn (x ∷ xs) ys

-- THE NUMBERS

-- what all turns take, one turn after another
abbrev pub all_taken : List (List TakenFile) → List TakenFile
all_taken turns = flat_map (λ (taken : List TakenFile). taken) turns

abbrev pub samples_in : List TakenFile → ℕ
samples_in taken = sum_by (λ (t : TakenFile). t.candidate.front.count) taken

abbrev pub cut_in : List TakenFile → ℕ
cut_in taken = length (filter (λ (t : TakenFile). t.candidate.cut) taken)

-- these numbers with those of files more
pub record Adds (old : Adopted) (taken : List TakenFile) (new : Adopted) : Type 0 where
  pub files : new.files ≡ capped (old.files + length taken)
  pub samples : new.samples ≡ capped (old.samples + samples_in taken)
  pub cut : new.cut ≡ capped (old.cut + cut_in taken)
  pub rows : new.rows ≡ old.rows
  pub skipped : new.skipped ≡ old.skipped

-- the numbers of an adoption, of so many new rows and so many files that weren't listed
pub record AreNumbers (made unlisted : ℕ) (taken : List TakenFile) (told : Adopted) : Type 0 where
  pub files : told.files ≡ capped (length taken)
  pub samples : told.samples ≡ capped (samples_in taken)
  pub cut : told.cut ≡ capped (cut_in taken)
  pub rows : told.rows ≡ made
  pub skipped : told.skipped ≡ unlisted - told.files
