-- What the listing of the files that a row takes of a store makes.
use Rattle.std.specs.Prelude.{◌≡◌, ◌≢◌, ◌≤◌, ◌+◌, ℕ, Bool, List, [], ◌∷◌, All, Some, Vec, length, map, slice_get}
use Rattle.std.specs.List.{AllZip}
use Rattle.std.specs.declared.alloc.Global.{Global}
use Rattle.disk_model.specs.Files.{Name, Files}
use Rattle.disk_model.specs.declared.disk.Disk.{Ghosts}
use Rattle.durable_write.specs.Held.{Filed}
use Rattle.found_files.specs.Candidate.{IsCandidate}
use Rattle.partition_names.specs.declared.granularity.Granularity.{Granularity}
use Rattle.partition_names.specs.declared.granularity.Granularity.TheVariants.{FiveMinutes}
use Rattle.partition_names.specs.Part.{IsPart}
use Rattle.pv_catalog.specs.Catalogue.{CatalogueState}
use Rattle.pv_catalog.specs.declared.row.Row.{Row}
use Rattle.store_manifest.specs.Manifest.{ManifestState}
use Rattle.store_manifest.specs.declared.entry.Entry.{Entry}
use Rattle.tier_store.specs.Stores.{Stores}
use Rattle.store_reopen.specs.Adoption.{IsListedAs, Takes, entry_as, place_of, row_of}
use Rattle.store_reopen.specs.Reopen.{loaded}
use Rattle.store_reopen.specs.Steps.{Step, Lists, MakesSteps}
use Rattle.store_reopen.specs.declared.finding.TakenFile.{TakenFile}
use Rattle.store_reopen.specs.declared.finding.Unlisted.{Unlisted}

-- the file is a candidate of the store at the place, of the row's variable and type
pub record MayList (g : Granularity) (image : Files) (rows : List Row) (series place : ℕ) (x : TakenFile) : Type 0 where
  pub store : x.file.0 ≡ place + 1
  pub is : IsCandidate g image x.file x.candidate
  pub row : Row
  pub stands : slice_get rows series ≡ Some row
  pub name : x.candidate.name ≡ row.name
  pub type : x.candidate.front.info.ty ≡ row.about.ty

-- none of these granularities is finer than a quarter of an hour
abbrev pub AreCoarse : List Granularity → Type 0
AreCoarse gs = (i : ℕ) (g : Granularity) → slice_get gs i ≡ Some g → g ≢ FiveMinutes

-- no reader of any of the files was opened
abbrev pub AreUnopened : (Name → ℕ) → List TakenFile → Type 0
AreUnopened opened taken = All (λ (x : TakenFile). opened x.file ≡ 0) taken

abbrev pub entries_as : ℕ → List TakenFile → List Entry
entries_as series taken = map (λ (x : TakenFile). entry_as series x.candidate) taken

-- the step that lists files, which is none where there are none
abbrev pub commit_of : ℕ → List Filed → List Step
commit_of place [] = []
commit_of place (f ∷ files) = Lists place (f ∷ files) ∷ []

-- Each of the files is listed with its front, in one step: it is made, or where that isn't `done`, it may be.
pub record ListsTaken {D R : Type 0} (disk : Ghosts D R) (done : Bool) (catalogue : CatalogueState) (place series : ℕ) (taken : List TakenFile)
    (before : List ManifestState) (old : D) (after : List ManifestState) (new : D) : Type 0 where
  pub files : List Filed
  pub listed : AllZip (IsListedAs (disk.files old) series) taken files
  pub makes : MakesSteps done disk.tells (commit_of place files) (loaded disk catalogue before old) (loaded disk catalogue after new)

-- WHAT EACH TURN TAKES

-- the items of each
abbrev pub turns_of : List (Vec TakenFile Global) → List (List TakenFile)
turns_of turns = map (λ (v : Vec TakenFile Global). v.items) turns

-- P of each turn and what it takes
abbrev pub AtEachTurn : (ℕ → List TakenFile → Type 0) → List (List TakenFile) → Type 0
AtEachTurn P turns = (turn : ℕ) (taken : List TakenFile) → slice_get turns turn ≡ Some taken → P turn taken

-- each turn takes just the files that its row takes of its store
abbrev pub AreTurns : Stores → List Row → List Unlisted → List (List TakenFile) → Type 0
AreTurns held rows unlisted turns = AtEachTurn (λ turn taken. Takes held rows (row_of turn) (place_of turn) unlisted taken) turns

-- they may be listed, in stores of these granularities
abbrev pub AllMayList : List Granularity → Files → List Row → List (List TakenFile) → Type 0
AllMayList gs image rows turns = AtEachTurn (λ turn taken. (g : Granularity) → slice_get gs (place_of turn) ≡ Some g
    → All (MayList g image rows (row_of turn) (place_of turn)) taken) turns

abbrev pub AllHaveParts : List Granularity → List (List TakenFile) → Type 0
AllHaveParts gs turns = AtEachTurn (λ turn taken. (g : Granularity) → slice_get gs (place_of turn) ≡ Some g
    → All (λ (x : TakenFile). IsPart g x.candidate.part) taken) turns

-- as many files as an archive that is adopted may have
abbrev pub most_files : ℕ
most_files = 18_600_000

-- each takes no more than fit into one batch of a journal
abbrev pub AreFew : List (List TakenFile) → Type 0
AreFew turns = AtEachTurn (λ turn taken. length taken ≤ most_files) turns

abbrev pub AllUnopened : (Name → ℕ) → List (List TakenFile) → Type 0
AllUnopened opened turns = AtEachTurn (λ turn taken. AreUnopened opened taken) turns
