-- How a move of an archive goes on, and what a crash within that leaves.
use Rattle.std.specs.FinMap.{get}
use Rattle.std.specs.Prelude.{◌≡◌, ◌⊎◌, ◌≤◌, ◌==◌, ℕ, List, [], Bool, true, Option, Some, None, IsTrue, if◌then◌else◌}
use Rattle.disk_model.specs.Files.{Files, Rose}
use Rattle.disk_model.specs.Past.{Passes}
use Rattle.etl_mover.specs.Move.{Moving}
use Rattle.partition_names.specs.declared.granularity.Granularity.{Granularity}
use Rattle.moves.specs.Table.{at}
use Rattle.moves.specs.declared.table.Running.{Running}
use Rattle.tier_store.specs.Seen.{granularities}
use Rattle.act_model.specs.Changes.{made}
use Rattle.act_model.specs.Machine.{Machine, Change}
use Rattle.act_model.specs.MoveStep.{GoesOn, change_of, without_move}
use Rattle.act_model.specs.Outcome.{removes_files}
use Rattle.act_model.specs.Reply.{Reply}
use Rattle.act_model.specs.declared.acts.Act.TheVariants.{MoveStep}
use Rattle.act_model.specs.declared.acts.Answer.TheVariants as answer
use Rattle.archive_core.specs.Ends.{HoldsMachine}
use Rattle.archive_core.specs.Leaving.{KeepsListed, LeavesMove}
use Rattle.archive_core.specs.Parts.{Parts}
use Rattle.archive_core.specs.Stands.{Stands, Rests}
use Rattle.archive_core.specs.Strays.{IsWell, Tidies}

-- the move of this number was taken out of the table
pub record TakesMove (n : ℕ) (running : Running Moving) (slots left : List (Option (Running Moving))) : Type 0 where
  pub ran : at slots n ≡ Some running
  pub others : (k : ℕ) → at left k ≡ (if k == n then None else at slots k)

-- the archive with this table
abbrev pub with_slots : List (Option (Running Moving)) → Parts → Parts
with_slots slots p = record p { slots = slots }

-- How the step ends where nothing stands in doubt: memory was wanting, and the move runs as it did; the disk failed, and the move has ended,
-- with its change in doubt or without, or made but for the removal of files; or it is answered as the machine answers.
pub data StepEnds (tells : Bool) (n : ℕ) (m : Machine) (new : Parts) : Reply → Type 0 where
  was_spent : Stands tells new (record m { faults = new.at.faults }) → StepEnds tells n m new answer.Memory
  has_failed : Stands tells new (record (without_move n m) { faults = new.at.faults }) → StepEnds tells n m new answer.DiskFault
  is_doubted : (change : Change) → change_of m (get m.moves n) ≡ Some change → Stands tells new (record (without_move n m) { doubt = Some change; faults = new.at.faults }) → StepEnds tells n m new answer.DiskFault
  not_removed : (reply : Reply) (next : Machine) → removes_files reply ≡ true → GoesOn n m reply next → Stands tells new next → StepEnds tells n m new answer.DiskFault
  went_on : {reply : Reply} (next : Machine) → GoesOn n m reply next → Stands tells new next → StepEnds tells n m new reply

-- the image holds what is durable of the machine, or of that with the change that the move may make
abbrev pub HoldsStep : List Granularity → ℕ → Machine → Files → Type 0
HoldsStep gs n m image = HoldsMachine gs image m ⊎ ((change : Change) × (change_of m (get m.moves n) ≡ Some change) × HoldsMachine gs image (made [] change m))

-- So it ends, and so a crash at any moment of it. A fault comes only where the disk's count rose, and what is told as damaged is the file of a
-- part of the move. What a store lists then or a pin names is shown still, and where it went well no file is a stray that wasn't one.
pub record StepsOn (tells : Bool) (n : ℕ) (old : Parts) (m : Machine) (new : Parts) (reply : Reply) : Type 0 where
  pub ends : StepEnds tells n m new reply
  pub any_moment : IsTrue tells → Passes (λ a image. HoldsStep (granularities old.at.manifests) n m image) old.at.past new.at.past
  pub faults : old.at.faults ≤ new.at.faults
  pub cause : reply ≡ answer.DiskFault → Rose old.at.faults new.at.faults
  pub moves : LeavesMove tells old (MoveStep n) reply new
  pub files : KeepsListed tells old new
  pub tidy : IsWell reply → Tidies tells old new

-- so it does from whatever the archive stood for before the move was taken out
abbrev pub GoesOnWith : Bool → ℕ → Running Moving → Parts → Parts → Reply → Type 0
GoesOnWith tells n running old new reply = (slots : List (Option (Running Moving))) (m : Machine) → TakesMove n running slots old.slots → Rests tells (with_slots slots old) m → StepsOn tells n (with_slots slots old) m new reply

-- it stood for something then
abbrev pub HasTaken : Bool → ℕ → Running Moving → Parts → Type 0
HasTaken tells n running old = (slots : List (Option (Running Moving))) × (m : Machine) × TakesMove n running slots old.slots × Rests tells (with_slots slots old) m
