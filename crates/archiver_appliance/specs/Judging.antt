-- What the status of a command over the archive says of the image that the disk had.
use Rattle.std.specs.Prelude.{◌≡◌, ◌⊎◌, ◌≤◌, ◌<◌, ◌+◌, ℕ, take, List, Contains}
use Rattle.disk_model.specs.Files.{Name, Files, HasFile}
use Rattle.partition_names.specs.declared.granularity.Granularity.{Granularity}
use Rattle.pv_catalog.specs.Lines.{line}
use Rattle.pv_catalog.specs.Rows.{HasName}
use Rattle.pv_catalog.specs.declared.row.Row.{Row}
use Rattle.store_manifest.specs.declared.entry.Entry.{Entry}
use Rattle.stream_merge.specs.Reading.{IsBadFor}
use Rattle.durable_write.specs.Held.{file_of}
use Rattle.tier_store.specs.Finding.{IsBadPart}
use Rattle.store_reopen.specs.Verdict.{Listings, IsWhole, IsDamaged, Differs}
use Rattle.store_reopen.specs.declared.error.ReopenErr.{ReopenErr}
use Rattle.store_reopen.specs.declared.error.ReopenErr.TheVariants as reopening
use Rattle.command_words.specs.declared.command.StoreCommand.{StoreCommand}
use Rattle.command_words.specs.declared.command.StoreCommand.TheVariants.{Get, Etl, Check}
use Rattle.command_words.specs.declared.status.Status.{Status}
use Rattle.command_words.specs.declared.status.Status.TheVariants.{Usage, NoSuchVariable, DiskFault, Damaged, OutOfMemory, GranularityDiffers}
use Rattle.archiver_appliance.specs.Reporting.{IsFirstDamage}
use Rattle.archiver_appliance.specs.Retrieving.{HasNone}
use Rattle.command_words.specs.Status.{number_of}

-- the status of a disk that isn't opened
abbrev pub refusal_of : {D R : Type 0} → ReopenErr D R → Status
refusal_of {D} {R} (reopening.DiskFault disk) = DiskFault
refusal_of {D} {R} (reopening.Damaged disk name at) = Damaged name at
refusal_of {D} {R} (reopening.GranularityDiffers disk kept asked) = GranularityDiffers kept asked
refusal_of {D} {R} (reopening.Memory disk) = OutOfMemory

-- a store lists the file of the row that has the name, or of one under it, as of a variable that was renamed, and its listed bytes are no file of the
-- row's type: the first bad line begins here
pub record IsDamagedFile (files : Files) (rows : List Row) (lists : Listings) (asked : List ℕ) (name : Name) (at : ℕ) : Type 0 where
  pub place : ℕ
  pub within : place < 3
  pub entry : Entry
  pub listed : Contains (lists place) entry
  pub row : ℕ
  pub own : HasName rows row asked
  pub among : Contains (line rows row) entry.series
  pub named : name ≡ file_of (place + 1, rows) entry
  pub bad : HasFile files name (λ b. IsBadFor own.row.about.ty (take entry.len b) at)

-- a store lists the file, and its listed bytes have no header's line, told at 0, or are good lines up to this place, from which on they
-- can't be moved
pub record IsDamagedPart (files : Files) (rows : List Row) (lists : Listings) (name : Name) (at : ℕ) : Type 0 where
  pub place : ℕ
  pub within : place < 3
  pub entry : Entry
  pub listed : Contains (lists place) entry
  pub named : name ≡ file_of (place + 1, rows) entry
  pub inside : at ≤ entry.len
  pub bad : HasFile files name (λ b. IsBadPart entry.head_len (take entry.len b) at)

-- the damage that a command finds in the listed files of a whole image: `get` in a file of the row that has the name, `check` in the
-- first damaged file of all. What `etl` finds is in what it leaves (FindsPart), and it finds none in what stands.
abbrev pub FindsDamage : StoreCommand → Files → List Row → Listings → Name → ℕ → Type 0
FindsDamage (Get asked query) files rows lists name at = IsDamagedFile files rows lists asked.now name at
FindsDamage Etl files rows lists name at = Unit {0}
FindsDamage Check files rows lists name at = IsFirstDamage rows files (lists 0) (lists 1) (lists 2) name at
FindsDamage _ files rows lists name at = ⊥

-- no row has the name that `get` asks for
abbrev pub AsksInVain : StoreCommand → List Row → Type 0
AsksInVain (Get name query) rows = HasNone rows name.now
AsksInVain _ rows = ⊥

-- the image is whole, with these rows and entries
pub record IsWholeWith (gs : List Granularity) (files : Files) (P : List Row → Listings → Type 0) : Type 0 where
  pub whole : IsWhole gs files
  pub holds : P whole.rows whole.lists

-- the image is damaged so, or it is whole, and the command finds this damage in a listed file
pub data HasDamage (gs : List Granularity) (command : StoreCommand) (files : Files) (name : Name) (at : ℕ) : Type 0 where
  of_image : IsDamaged gs files name at → HasDamage gs command files name at
  of_file : IsWholeWith gs files (λ rows lists. FindsDamage command files rows lists name at) → HasDamage gs command files name at

-- the damage that `etl` tells of a whole image is of a file that a store lists once it has ended
abbrev pub FindsPart : List Granularity → Files → Status → Type 0
FindsPart gs later (Damaged name at) = IsWholeWith gs later (λ rows lists. IsDamagedPart later rows lists name at)
FindsPart gs later _ = Unit {0}

-- Another granularity and damage are told as they are. A fault of the disk and want of memory say nothing of the image, and every other
-- status comes of a whole image; `get` then tells that no row has the name exactly where none has.
abbrev pub Judges : List Granularity → StoreCommand → Files → Status → Type 0
Judges gs command files (GranularityDiffers kept asked) = Differs gs files kept asked
Judges gs command files (Damaged name at) = HasDamage gs command files name at
Judges gs command files DiskFault = Unit {0}
Judges gs command files OutOfMemory = Unit {0}
Judges gs command files Usage = ⊥
Judges gs command files NoSuchVariable = IsWholeWith gs files (λ rows lists. AsksInVain command rows)
Judges gs command files _ = IsWholeWith gs files (λ rows lists. AsksInVain command rows → ⊥)

-- a status that a disk which was opened may come to
abbrev pub IsOfOpened : Status → Type 0
IsOfOpened Usage = ⊥
IsOfOpened (GranularityDiffers kept asked) = ⊥
IsOfOpened _ = Unit {0}

-- it is one of three numbers
abbrev pub IsOneOf : ℕ → ℕ → ℕ → ℕ → Type 0
IsOneOf number a b c = (number ≡ a) ⊎ (number ≡ b) ⊎ (number ≡ c)

-- Over an image of another granularity a command ends with 12, over a damaged one with 8, and `get` of a name that no row of a whole
-- image has with 4; or each with 7 or 9 before.
pub record IsExact (gs : List Granularity) (asked : StoreCommand) (files : Files) (status : Status) : Type 0 where
  pub differs : (kept other : Granularity) → Differs gs files kept other → IsOneOf (number_of status) 12 7 9
  pub damaged : (name : Name) (at : ℕ) → IsDamaged gs files name at → IsOneOf (number_of status) 8 7 9
  pub named : (whole : IsWhole gs files) → AsksInVain asked whole.rows → IsOneOf (number_of status) 4 7 9
