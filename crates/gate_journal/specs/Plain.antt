-- What contracts see of a journal, and how its file and what a crash may leave of it agree with that.
use Rattle.std.specs.Prelude.{◌≡◌, ◌⊎◌, ◌+◌, ◌≤◌, ℕ, Bool, List, [], ◌∷◌, ◌++◌, length, None, Some}
use Rattle.disk_model.specs.Files.{Name, Content, Files, OnFile}
use Rattle.disk_model.specs.Past.{MayLeave, Only}
use Rattle.gate_journal.specs.Batches.{open_gates, Reads}
use Rattle.gate_journal.specs.DiskShown.{DiskShown}

-- the name of its file, the place of its closed gate, how far behind that the next gate of the last commit stands, and whether
-- it may commit
pub record PlainState : Type 0 where
  pub name : Name
  pub place : ℕ
  pub pending : ℕ
  pub sound : Bool

-- a file that reads as these batches
abbrev pub IsJournal : List (List ℕ) → Content → Type 0
IsJournal bs None = ⊥
IsJournal bs (Some bytes) = Reads bytes bs

-- it reads as these batches, without one more or with it
abbrev pub IsEither : List (List ℕ) → List ℕ → Content → Type 0
IsEither bs batch content = IsJournal bs content ⊎ IsJournal (bs ++ batch ∷ []) content

-- whatever was there, now it reads so
abbrev pub BeforeOrAfter : List (List ℕ) → List ℕ → Content → Content → Type 0
BeforeOrAfter bs batch old new = IsEither bs batch new

-- a file stays one, and gets no shorter
abbrev pub NoShorter : Content → Content → Type 0
NoShorter = OnFile (λ old new. length old ≤ length new)

-- The file has these batches, all of it is on the disk, and the journal knows the place of its closed gate.
pub record IsSettled (journal : PlainState) (disk : DiskShown) (bs : List (List ℕ)) : Type 0 where
  pub bytes : List ℕ
  pub file : disk.files journal.name ≡ Some bytes
  pub reads : Reads bytes bs
  pub place : journal.place ≡ length (open_gates bs)
  pub durable : Only disk.past journal.name (Some bytes)
  pub unopened : disk.opened journal.name ≡ 0

-- After a commit that failed: the file, as reads give it and as a crash now may leave it, has the batches without the new one or
-- with it, and the journal knows the place of the gate that decides.
pub record IsInDoubt (journal : PlainState) (disk : DiskShown) (bs : List (List ℕ)) (batch : List ℕ) : Type 0 where
  pub seen : IsEither bs batch (disk.files journal.name)
  pub left : (image : Files) → MayLeave disk.past image → IsEither bs batch (image journal.name)
  pub place : journal.place ≡ length (open_gates bs)
  pub pending : journal.pending ≡ 5 + length batch
  pub unopened : disk.opened journal.name ≡ 0
