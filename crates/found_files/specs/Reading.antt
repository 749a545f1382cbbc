-- The reading of a file where it stands.
use Rattle.std.specs.Prelude.{◌≡◌, ◌≤◌, ◌<◌, ◌^◌, ℕ, List, [], IsTrue, Option, None, Some}
use Rattle.disk_model.specs.Files.{Content, Name, Files, HasFile}
use Rattle.disk_model.specs.Past.{Passes}
use Rattle.disk_model.specs.declared.disk.Disk.{Ghosts}
use Rattle.partition_names.specs.declared.part.Part.{Part}
use Rattle.pb_file.specs.declared.good.Front.{Front}
use Rattle.pb_file.specs.GoodFront.{IsGoodFront, HasNoFront}

-- The disk was only read: reads give what they gave, a crash leaves what it might have left before, and no name was opened further.
-- Faults are counted. It is said of a disk that tells its files.
pub record OnlyReads {D R : Type 0} (disk : Ghosts D R) (old new : D) : Type 0 where
  pub files : IsTrue disk.tells → disk.files new ≡ disk.files old
  pub opened : IsTrue disk.tells → disk.opened new ≡ disk.opened old
  pub any_moment : IsTrue disk.tells → Passes (λ a b. b ≡ a) (disk.past old) (disk.past new)
  pub faults : disk.faults old ≤ disk.faults new

-- this is the front of a file's bytes, whose header's line with its newline has less than 2 ^ 32 bytes
pub record IsFrontOf (part : Part) (bytes : List ℕ) (front : Front) : Type 0 where
  pub good : IsGoodFront part bytes front
  pub short : front.head_len < 2 ^ 32

-- a file has this front for the partition, or none
abbrev pub HasFront : Part → Files → Name → Option Front → Type 0
HasFront part files name None = HasFile files name (HasNoFront part)
HasFront part files name (Some front) = HasFile files name (λ b. IsFrontOf part b front)

-- the bytes of a file, none where there is none
abbrev pub bytes_in : Content → List ℕ
bytes_in None = []
bytes_in (Some bytes) = bytes
