-- What a call does that commits, and what a review of it does, said once for all that is kept in journals.
use Rattle.std.specs.Prelude.{◌≡◌, ◌+◌, ℕ, Bool, Result, IsTrue, OnOk, OnErr, IfOk, IsErrOf, false, List, None}
use Rattle.disk_model.specs.declared.disk.DiskErr.{DiskErr}
use Rattle.disk_model.specs.declared.disk.DiskErr.TheVariants.{Fault, Memory}
use Rattle.disk_model.specs.Files.{Name, Files}
use Rattle.disk_model.specs.Past.{Passes, Only}
use Rattle.gate_journal.specs.Generations.{generation_name, IsOwn, AtOwn, HasOneOf}
use Rattle.gate_journal.specs.Journal.{JournalState, IsSettledWith, IsUndecided, OnlyGoesOn, OnlyMakes}
use Rattle.gate_journal.specs.DiskShown.{DiskShown}

-- A call that commits to the journal of this name: what is so after Ok, after Fault and at want of memory, what each crash leaves on the
-- way, and that names that aren't the journal's stay as they are.
pub record Commits (name : Name) (Either : Files → Files → Type 0) (OnMade : Type 0 → Type 0) (IsFault IsMemory Made InDoubt Unmade : Type 0) (old new : DiskShown) : Type 0 where
  pub made : OnMade Made
  pub doubt : IsFault → InDoubt
  pub unchanged : IsMemory → Unmade
  pub any_moment : Passes (AtOwn name Either) old.past new.past
  pub elsewhere : (n : Name) → (IsOwn name n → ⊥) → new.files n ≡ old.files n
  pub opened : (n : Name) → (IsOwn name n → ⊥) → new.opened n ≡ old.opened n

-- of a journal: these batches go over to those
abbrev pub CommitsBatches : List (List ℕ) → List (List ℕ) → Result (Unit {0}) DiskErr → JournalState → JournalState → DiskShown → DiskShown → Type 0
CommitsBatches before after result was now old new =
    Commits was.name (HasOneOf was.name before after) (OnOk result) (IsErrOf result Fault) (IsErrOf result Memory) (IsSettledWith now new after)
    (IsUndecided now new before after) (IsSettledWith now new before) old new

-- A review of these batches or those: which they are, or that it isn't known still.
pub record Reviews (before after : List (List ℕ)) (result : Result Bool DiskErr) (was now : JournalState) (old new : DiskShown) : Type 0 where
  pub made : IfOk result (λ found. IsTrue found → IsSettledWith now new after)
  pub unmade : IfOk result (λ found. found ≡ false → IsSettledWith now new before)
  pub doubtful : OnErr result (IsUndecided now new before after)
  pub any_moment : Passes (AtOwn was.name (HasOneOf was.name before after)) old.past new.past
  pub elsewhere : (n : Name) → (IsOwn was.name n → ⊥) → new.files n ≡ old.files n
  pub opened : (n : Name) → (IsOwn was.name n → ⊥) → new.opened n ≡ old.opened n

-- A checkpoint of a journal whose current generation is this one: the next one's file is the current one then, and the old one is gone.
-- Of its own files too it changes only three, and at want of memory only the next generation's.
pub record GoesOver (generation : ℕ) (result : Result (Unit {0}) DiskErr) (was now : JournalState) (old new : DiskShown) : Type 0 where
  pub next : OnOk result (now.current.name ≡ generation_name was.name (generation + 1))
  pub gone : OnOk result ((new.files was.current.name ≡ None) × Only new.past was.current.name None)
  pub files : OnlyGoesOn was.name generation old.files new.files
  pub any_moment : Passes (OnlyGoesOn was.name generation) old.past new.past
  pub untold : IsErrOf result Memory → OnlyMakes was.name generation old.files new.files × Passes (OnlyMakes was.name generation) old.past new.past
