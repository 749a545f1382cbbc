-- The rule of an adoption: which files that no manifest lists are listed where they stand, and which variables get rows for them.
use Rattle.std.specs.Prelude.{◌≡◌, ◌≢◌, ◌⊎◌, ◌≤◌, ◌<◌, ◌+◌, ◌*◌, ◌-◌, ◌/◌, ◌%◌, ◌^◌, ℕ, suc, Bool, true, false, List, [], ◌∷◌, ◌++◌}
use Rattle.std.specs.Prelude.{All, Contains, Option, None, Some, filter, length, map, min, nat_lt, Result, Ok, Err, slice_get, take}
use Rattle.std.specs.List.{AllZip, flat_map, sum_by}
use Rattle.gate_journal.specs.Batches.{greatest_batch}
use Rattle.disk_model.specs.Files.{Name, Files, Lists as HasNames}
use Rattle.disk_model.specs.Past.{Past, Passes}
use Rattle.disk_model.specs.declared.disk.Disk.{Ghosts}
use Rattle.etl_rules.specs.Config.{ConfigState}
use Rattle.pb_messages.specs.declared.about.About.{About}
use Rattle.pb_messages.specs.declared.about.Method.TheVariants.{Monitor}
use Rattle.pb_messages.specs.declared.about.State.TheVariants.{Retired}
use Rattle.found_files.specs.Candidate.{IsCandidate}
use Rattle.found_files.specs.Reading.{bytes_in}
use Rattle.found_files.specs.declared.finding.Candidate.{Candidate}
use Rattle.partition_names.specs.declared.granularity.Granularity.{Granularity}
use Rattle.partition_names.specs.declared.granularity.Granularity.TheVariants.{FiveMinutes}
use Rattle.pb_lines.specs.File.{IsFile}
use Rattle.pv_catalog.specs.Catalogue.{Refuses, registered}
use Rattle.pv_catalog.specs.Format.{entry}
use Rattle.pv_catalog.specs.Writing.{members_of}
use Rattle.pv_catalog.specs.declared.entry.BatchEntry.TheVariants.{Added}
use Rattle.pv_catalog.specs.declared.error.RegisterErr.{RegisterErr}
use Rattle.pv_catalog.specs.declared.row.Row.{Row}
use Rattle.store_manifest.specs.declared.entry.Entry.{Entry}
use Rattle.durable_write.specs.Held.{Filed, Listing, file_of, listing_of}
use Rattle.tier_store.specs.Stores.{Stores, list_at, tier}
use Rattle.tier_store.specs.Seen.{seen}
use Rattle.tier_store.specs.Stored.{HoldsAll}
use Rattle.tier_store.specs.Change.{Has, IsEither}
use Rattle.tier_store.specs.declared.store.TierStore.{TierStore}
use Rattle.store_reopen.specs.Loading.{granularity_at}
use Rattle.store_reopen.specs.Reopen.{HoldsEither, IsUnopened, LeavesSite, OnlySite, Opens, OpensEither, Reopens, SameStores, disk_in}
use Rattle.store_reopen.specs.Steps.{Step, NewRow, Lists, made_by, stage}
use Rattle.store_reopen.specs.Strays.{adoption_name}
use Rattle.store_reopen.specs.Verdict.{IsWhole}
use Rattle.store_reopen.specs.declared.adopted.Adopted.{Adopted}
use Rattle.store_reopen.specs.declared.adopted.AdoptErr.{AdoptErr}
use Rattle.store_reopen.specs.declared.adopted.AdoptErr.TheVariants as adopting
use Rattle.store_reopen.specs.declared.error.ReopenErr.{ReopenErr}
use Rattle.store_reopen.specs.declared.finding.TakenFile.{TakenFile}
use Rattle.store_reopen.specs.declared.finding.Unlisted.{Unlisted}

-- the last number of a u64 stands for it and for every greater one
abbrev pub capped : ℕ → ℕ
capped n = min n (2 ^ 64 - 1)

-- THE FILES THAT NO MANIFEST LISTS

-- no entry of the store's listing is of the file
abbrev pub IsUnlisted : Listing → Name → Type 0
IsUnlisted listing n = (e : Entry) → Contains listing.1 e → file_of listing.0 e ≢ n

-- the candidate that a file is, or none where it is none
abbrev pub IsFoundAs : Granularity → Files → Name → Option Candidate → Type 0
IsFoundAs g image n None = (c : Candidate) → IsCandidate g image n c → ⊥
IsFoundAs g image n (Some c) = IsCandidate g image n c

-- of these names of a store just those that aren't listed, in their order, each with the candidate that its file is
pub data Finds (g : Granularity) (image : Files) (listing : Listing) (place : ℕ) : List Name → List Unlisted → Type 0 where
  done : Finds g image listing place [] []
  listed : {n : Name} {ns : List Name} {xs : List Unlisted} → (IsUnlisted listing n → ⊥) → Finds g image listing place ns xs
      → Finds g image listing place (n ∷ ns) xs
  unlisted : {n : Name} {ns : List Name} {xs : List Unlisted} {o : Option Candidate} → IsUnlisted listing n → IsFoundAs g image n o
      → Finds g image listing place ns xs
      → Finds g image listing place (n ∷ ns) (record { place = place; file = n; candidate = o } ∷ xs)

-- all unlisted files of a store, in the order of their names
pub record AreUnlisted (g : Granularity) (image : Files) (listing : Listing) (place : ℕ) (xs : List Unlisted) : Type 0 where
  pub names : List Name
  pub all : HasNames (place + 1) image names
  pub finds : Finds g image listing place names xs

-- those of store 3, then of store 2, then of store 1
pub record AreAll (gs : List Granularity) (image : Files) (held : Stores) (xs : List Unlisted) : Type 0 where
  pub each : ℕ → List Unlisted
  pub are_each : (i : ℕ) (g : Granularity) → slice_get gs i ≡ Some g → AreUnlisted g image (listing_of (tier i held)) i (each i)
  pub are : xs ≡ each 2 ++ each 1 ++ each 0

-- ROWS

-- a MONITOR row's, as the candidate's header has them
abbrev pub about_of : Candidate → About
about_of c = record { ty = c.front.info.ty; method = Monitor; count = c.front.info.count; headers = c.front.info.headers }

-- how many bytes headers take in a row's entry
abbrev pub headers_len : List (List ℕ × List ℕ) → ℕ
headers_len [] = 0
headers_len (h ∷ hs) = 8 + length h.0 + length h.1 + headers_len hs

-- the entry of the row that the variable gets behind these isn't too long for the catalogue
abbrev pub IsShort : List Row → Candidate → Type 0
IsShort rows c = length (entry (Added (members_of (registered rows c.name (about_of c))))) ≤ greatest_batch

abbrev pub IsFree : List Row → Candidate → Type 0
IsFree rows c = (e : RegisterErr) → Refuses rows c.name e → ⊥

-- Each variable of these files that the rows don't refuse gets one, by its first candidate. Where the entry of that row is too long it gets none, whatever
-- its other files have: its name is kept. What isn't `whole` may have stopped before the rest.
pub data GetRows (whole : Bool) : List Row → List (List ℕ) → List Unlisted → List Step → Type 0 where
  done : {rows : List Row} {long : List (List ℕ)} → GetRows whole rows long [] []
  stopped : {rows : List Row} {long : List (List ℕ)} {xs : List Unlisted} → whole ≡ false → GetRows whole rows long xs []
  gets : {rows : List Row} {long : List (List ℕ)} {x : Unlisted} {c : Candidate} {xs : List Unlisted} {steps : List Step} → x.candidate ≡ Some c
      → (Contains long c.name → ⊥) → IsFree rows c → IsShort rows c
      → GetRows whole (rows ++ registered rows c.name (about_of c) ∷ []) long xs steps → GetRows whole rows long (x ∷ xs) (NewRow c.name (about_of c) ∷ steps)
  refused : {rows : List Row} {long : List (List ℕ)} {x : Unlisted} {c : Candidate} {xs : List Unlisted} {steps : List Step} → x.candidate ≡ Some c
      → (e : RegisterErr) → Refuses rows c.name e
      → GetRows whole rows long xs steps → GetRows whole rows long (x ∷ xs) steps
  too_long : {rows : List Row} {long : List (List ℕ)} {x : Unlisted} {c : Candidate} {xs : List Unlisted} {steps : List Step} → x.candidate ≡ Some c
      → (IsShort rows c → ⊥)
      → GetRows whole rows (long ++ c.name ∷ []) xs steps → GetRows whole rows long (x ∷ xs) steps
  kept : {rows : List Row} {long : List (List ℕ)} {x : Unlisted} {c : Candidate} {xs : List Unlisted} {steps : List Step} → x.candidate ≡ Some c
      → Contains long c.name
      → GetRows whole rows long xs steps → GetRows whole rows long (x ∷ xs) steps
  other : {rows : List Row} {long : List (List ℕ)} {x : Unlisted} {xs : List Unlisted} {steps : List Step} → x.candidate ≡ None
      → GetRows whole rows long xs steps → GetRows whole rows long (x ∷ xs) steps

-- LISTS

-- a row lists no file at this place and before it
abbrev pub ListsNone : ℕ → ℕ → Stores → Type 0
ListsNone place series s = (k : ℕ) → k ≤ place → All (λ (f : Filed). f.entry.series ≢ series) (list_at k s)

-- Only a row whose variable was never renamed takes files: it has no base, and isn't retired. So no row's list grows between those of others.
pub record IsSingle (row : Row) : Type 0 where
  pub base : row.base ≡ None
  pub live : row.state ≢ Retired

-- The row takes this file of the store at the place: it is of its variable and type, the variable was never renamed, and the row lists nothing
-- there and in the stores before.
pub record IsTakenBy (held : Stores) (rows : List Row) (series place : ℕ) (x : Unlisted) (c : Candidate) : Type 0 where
  pub found : x.candidate ≡ Some c
  pub here : x.place ≡ place
  pub row : Row
  pub stands : slice_get rows series ≡ Some row
  pub name : c.name ≡ row.name
  pub type : c.front.info.ty ≡ row.about.ty
  pub single : IsSingle row
  pub none : ListsNone place series held

-- of these files just those that a row takes of the store at a place, in their order
pub data Takes (held : Stores) (rows : List Row) (series place : ℕ) : List Unlisted → List TakenFile → Type 0 where
  done : Takes held rows series place [] []
  takes : {x : Unlisted} {c : Candidate} {xs : List Unlisted} {ys : List TakenFile} → IsTakenBy held rows series place x c
      → Takes held rows series place xs ys → Takes held rows series place (x ∷ xs) (record { file = x.file; candidate = c } ∷ ys)
  other : {x : Unlisted} {xs : List Unlisted} {ys : List TakenFile} → ((c : Candidate) → IsTakenBy held rows series place x c → ⊥)
      → Takes held rows series place xs ys → Takes held rows series place (x ∷ xs) ys

-- the entry by which a row lists the candidate
abbrev pub entry_as : ℕ → Candidate → Entry
entry_as series c = record {
  series = series;
  part = c.part;
  len = c.front.len;
  head_len = c.front.head_len;
  first = c.front.first;
  last = c.front.last;
  count = c.front.count;
}

-- the listed file has the candidate's front, as the image has it
pub record IsListedAs (image : Files) (series : ℕ) (x : TakenFile) (f : Filed) : Type 0 where
  pub entry : f.entry ≡ entry_as series x.candidate
  pub bytes : List ℕ
  pub there : image x.file ≡ Some bytes
  pub file : IsFile (take x.candidate.front.len bytes) f.head x.candidate.front.info f.samples

-- what a row lists of the store at a place, by one commit
pub record ListsAll (image : Files) (held : Stores) (rows : List Row) (xs : List Unlisted) (series place : ℕ) (files : List Filed) : Type 0 where
  pub taken : List TakenFile
  pub takes : Takes held rows series place xs taken
  pub listed : AllZip (IsListedAs image series) taken files

-- Each row has three turns: of store 3, then of store 2, then of store 1. So these are the row and the place of a turn, counted from 0.
abbrev pub row_of : ℕ → ℕ
row_of turn = turn / 3

abbrev pub place_of : ℕ → ℕ
place_of turn = 2 - turn % 3

-- So many turns are taken, from this one on: a commit where there is a file to list. What isn't `whole` may have stopped before the rest.
pub data TakesTurns (image : Files) (held : Stores) (rows : List Row) (xs : List Unlisted) (whole : Bool) : ℕ → ℕ → List Step → Type 0 where
  done : {turn : ℕ} → TakesTurns image held rows xs whole turn 0 []
  stopped : {turn left : ℕ} → whole ≡ false → TakesTurns image held rows xs whole turn left []
  nothing : {turn left : ℕ} {steps : List Step} → ListsAll image held rows xs (row_of turn) (place_of turn) []
      → TakesTurns image held rows xs whole (suc turn) left steps → TakesTurns image held rows xs whole turn (suc left) steps
  lists : {turn left : ℕ} {f : Filed} {files : List Filed} {steps : List Step} → ListsAll image held rows xs (row_of turn) (place_of turn) (f ∷ files)
      → TakesTurns image held rows xs whole (suc turn) left steps
      → TakesTurns image held rows xs whole turn (suc left) (Lists (place_of turn) (f ∷ files) ∷ steps)

-- THE RULE

-- What an adoption makes of what an image holds: first rows, then the lists of the rows that then stand. What isn't `whole` is a front of that.
pub record IsAdoption (whole : Bool) (gs : List Granularity) (image : Files) (held : Stores) (steps : List Step) : Type 0 where
  pub unlisted : List Unlisted
  pub are_unlisted : AreAll gs image held unlisted
  pub all_rows : Bool
  pub new_rows : List Step
  pub gets : GetRows all_rows held.rows [] unlisted new_rows
  pub lists : List Step
  pub takes : TakesTurns image held (made_by new_rows held).rows unlisted whole 0 (3 * length (made_by new_rows held).rows) lists
  pub order : (all_rows ≡ true) ⊎ ((whole ≡ false) × (lists ≡ []))
  pub are : steps ≡ new_rows ++ lists

-- THE NUMBERS

-- files that are listed, each with the number of its store
abbrev pub listed_by : Step → List (ℕ × Filed)
listed_by (NewRow name about) = []
listed_by (Lists i files) = map (λ (f : Filed). (i + 1, f)) files

abbrev pub listed_in : List Step → List (ℕ × Filed)
listed_in steps = flat_map listed_by steps

-- the image's file goes on behind what is listed of it
abbrev pub goes_on : Files → List Row → ℕ × Filed → Bool
goes_on image rows x = nat_lt x.1.entry.len (length (bytes_in (image (file_of (x.0, rows) x.1.entry))))

-- the files that were listed, their samples, the new rows, the unlisted files of all stores that weren't taken, and those taken that go on behind their front
pub record Counts (image : Files) (held : Stores) (steps : List Step) (unlisted : List Unlisted) (told : Adopted) : Type 0 where
  pub files : told.files ≡ length (listed_in steps)
  pub samples : told.samples ≡ capped (sum_by (λ (x : ℕ × Filed). x.1.entry.count) (listed_in steps))
  pub rows : told.rows + length held.rows ≡ length (made_by steps held).rows
  pub skipped : told.skipped + told.files ≡ length unlisted
  pub cut : told.cut ≡ length (filter (goes_on image (made_by steps held).rows) (listed_in steps))

-- WHAT A CALL MAKES

-- no store has partitions of five minutes
abbrev pub NoneFiner : ConfigState → Type 0
NoneFiner config = (i : ℕ) → granularity_at config.granularity i ≢ FiveMinutes

-- no file of stores 1 to 3 that isn't listed was opened
abbrev pub NoneFoundOpened : List Granularity → Files → (Name → ℕ) → Type 0
NoneFoundOpened gs image opened = (held : Stores) → HoldsAll gs image held → (i : ℕ) (n : Name) → i < 3 → n.0 ≡ i + 1
    → IsUnlisted (listing_of (tier i held)) n → opened n ≡ 0

-- a crash leaves what was held with so many of the steps made, or it isn't known whether the next one was too
abbrev pub OpensStage : List Granularity → List Step → Stores → Past → Type 0
OpensStage gs steps held past = (k : ℕ) × (Opens gs past (stage steps held k) ⊎ OpensEither gs past (stage steps held k) (stage steps held (suc k)))

-- Steps of the rule were made of what reads gave: at each moment a crash leaves that with a front of them made, and the disk may be opened again.
pub record AdoptsFrom (whole : Bool) {D R : Type 0} (disk : Ghosts D R) (gs : List Granularity) (old new : D) (before after : Stores) : Type 0 where
  pub held : Stores
  pub either : IsEither before after held
  pub read : HoldsAll gs (disk.files old) held
  pub steps : List Step
  pub rule : IsAdoption whole gs (disk.files old) held steps
  pub any_moment : Passes (λ a b. HoldsEither gs before after b ⊎ ((k : ℕ) × HoldsAll gs b (stage steps held k))) (disk.past old) (disk.past new)
  pub opens : OpensStage gs steps held (disk.past new)

-- an image holds all that the rule makes of what another one holds
abbrev pub HoldsAdopted : List Granularity → Files → Stores → Files → Type 0
HoldsAdopted gs image held b = (steps : List Step) × IsAdoption true gs image held steps × HoldsAll gs b (made_by steps held)

-- Without the file `adopt` an image holds what was held before the rule's first step, where none had the file when that was so, or all that the rule
-- makes: so no opening removes what an adoption is still to list, of this call or of one before it.
abbrev pub IsMarked : List Granularity → Files → Stores → Files → Files → Type 0
IsMarked gs image held a b = b adoption_name ≡ None → ((a adoption_name ≡ None) × HoldsAll gs b held) ⊎ HoldsAdopted gs image held b

abbrev pub IsMarkedOf : List Granularity → Files → Stores → Stores → Files → Files → Type 0
IsMarkedOf gs image before after a b = b adoption_name ≡ None → ((a adoption_name ≡ None) × HoldsEither gs before after b)
    ⊎ ((held : Stores) × IsEither before after held × HoldsAdopted gs image held b)

-- What a call makes of a disk that tells its files, whatever it answers: it opens it, or adopts too. No file of stores 1 to 3 changes, and of store 0
-- none but those of journals and the file `adopt`. Files that aren't listed then weren't opened still, so files may be adopted once more.
pub record Adopts {D R : Type 0} (disk : Ghosts D R) (gs : List Granularity) (old new : D) : Type 0 where
  pub only : (IsWhole gs (disk.files old) → ⊥) → Reopens disk gs old new × LeavesSite disk gs old new
  pub makes : (before after : Stores) → OpensEither gs (disk.past old) before after
      → Reopens disk gs old new ⊎ ((whole : Bool) × AdoptsFrom whole disk gs old new before after)
  pub marked : (before after : Stores) → OpensEither gs (disk.past old) before after
      → Passes (IsMarkedOf gs (disk.files old) before after) (disk.past old) (disk.past new)
  pub elsewhere : SameStores (disk.files old) (disk.files new)
  pub stores : Passes SameStores (disk.past old) (disk.past new)
  pub unopened : IsUnopened (disk.files new) (disk.opened new)
  pub found : NoneFoundOpened gs (disk.files new) (disk.opened new)
  pub site : OnlySite (disk.files old) (disk.files new) × Passes OnlySite (disk.past old) (disk.past new)

-- where it is done: all steps are made, and these are their numbers
pub record HasAdopted {D R : Type 0} (disk : Ghosts D R) (gs : List Granularity) (old : D) (store : TierStore D R) (told : Adopted)
    (before after : Stores) : Type 0 where
  pub adopts : AdoptsFrom true disk gs old store.disk before after
  pub has : Has disk.tells (seen disk store) (made_by adopts.steps adopts.held)
  pub counts : Counts (disk.files old) adopts.held adopts.steps adopts.rule.unlisted told

abbrev pub cause_of : {D R : Type 0} → AdoptErr D R → ReopenErr D R
cause_of {D} {R} (adopting.Reopen err) = err

abbrev pub adopt_disk_in : {D R : Type 0} → AdoptErr D R → D
adopt_disk_in {D} {R} (adopting.Reopen err) = disk_in err

-- the disk of either answer
abbrev pub adopt_disk : {D R : Type 0} → Result (TierStore D R × Adopted) (AdoptErr D R) → D
adopt_disk {D} {R} (Ok all) = all.0.disk
adopt_disk {D} {R} (Err e) = adopt_disk_in e
