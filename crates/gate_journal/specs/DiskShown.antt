-- What a disk shows.
use Rattle.std.specs.Prelude.{◌≡◌, ◌≢◌, ℕ}
use Rattle.disk_model.specs.declared.disk.Disk.{Ghosts}
use Rattle.disk_model.specs.Files.{Name, Content, Files, At}
use Rattle.disk_model.specs.Past.{Past, Passes}

-- what reads of a disk give, how far each name was opened, and what crashes leave
pub record DiskShown : Type 1 where
  pub files : Files
  pub opened : Name → ℕ
  pub past : Past

-- a disk, by the members of its type
abbrev pub shown_by : {D R : Type 0} → Ghosts D R → D → DiskShown
shown_by {D} {R} disk d = record { files = disk.files d; opened = disk.opened d; past = disk.past d }

-- the disk was only read
pub record ReadsDisk (old new : DiskShown) : Type 0 where
  pub same : new.files ≡ old.files
  pub same_opened : new.opened ≡ old.opened
  pub any_moment : Passes (λ a b. b ≡ a) old.past new.past

-- one file alone changes, by R at each moment, and none is opened
pub record ChangesOne (name : Name) (R : Content → Content → Type 0) (old new : DiskShown) : Type 0 where
  pub files : (n : Name) → n ≢ name → new.files n ≡ old.files n
  pub any_moment : Passes (At name R) old.past new.past
  pub opened : new.opened ≡ old.opened

-- one file alone changes, by R and at each moment so, and no reader of it is open behind that
pub record ChangesUnopened (name : Name) (R : Content → Content → Type 0) (old new : DiskShown) : Type 0 where
  pub files : At name R old.files new.files
  pub any_moment : Passes (At name R) old.past new.past
  pub opened : (n : Name) → n ≢ name → new.opened n ≡ old.opened n
  pub unopened : new.opened name ≡ 0
