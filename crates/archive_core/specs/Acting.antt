-- What an act comes to, all in one; and within it the settling of a doubt, and a call of the stores that changes them.
use Rattle.std.specs.Prelude.{◌≡◌, ◌≤◌, ℕ, Bool, Option, Result, OnOk}
use Rattle.disk_model.specs.declared.disk.DiskErr.{DiskErr}
use Rattle.durable_write.specs.Ends.{End}
use Rattle.tier_store.specs.Change.{OnlySettles}
use Rattle.tier_store.specs.Pinned.{LeavesFronts}
use Rattle.tier_store.specs.Seen.{Seen, IsSettled, granularities}
use Rattle.act_model.specs.Machine.{Machine, Change}
use Rattle.act_model.specs.Reply.{Reply}
use Rattle.act_model.specs.Step.{Step, refuse_by, change_by}
use Rattle.act_model.specs.declared.acts.Act.{Act}
use Rattle.archive_core.specs.Ends.{AskEnds, ChangesTo, LeavesByAct, Steps}
use Rattle.archive_core.specs.Flushing.{IsTrimmed}
use Rattle.archive_core.specs.Leaving.{LeavesFiles, LeavesMove, LeavesPins, ReadsAlone, files_of}
use Rattle.archive_core.specs.Memory.{IsCleared}
use Rattle.archive_core.specs.Parts.{Parts, InMemory}
use Rattle.archive_core.specs.Stands.{Rests}
use Rattle.archive_core.specs.Strays.{ActsTidily, Tidies}
use Rattle.archive_core.specs.Wanting.{Wants, WithWants}
use Rattle.archive_core.specs.declared.memory.Doubt.{Doubt}

-- From whatever the archive stood for, the act is a step with this answer, and it says for what memory was wanting. So a crash within it leaves the disk, and
-- so it leaves files, pins, and the file that a step of a move tells as damaged. No stray is made by it.
pub record Acted (tells : Bool) (who : ℕ) (act : Act) (p : Parts) (answer : Reply) (q : Parts) : Type 0 where
  pub step : Steps tells (WithWants (Wants who act) (Step who act)) p answer q
  pub crash : LeavesByAct tells (refuse_by act) (change_by act) p q
  pub files : LeavesFiles tells act p q
  pub pins : LeavesPins tells p act answer q
  pub moves : LeavesMove tells p act answer q
  pub tidy : ActsTidily tells p answer q

-- What the settling of a doubt leaves, whether it succeeds or not: files of a journal alone may change.
pub record Settling {A E : Type 0} (tells : Bool) (p q : Parts) (end : End A E) : Type 0 where
  pub granularity : granularities q.at.manifests ≡ granularities p.at.manifests
  pub settles : OnlySettles tells p.at q.at end
  pub fronts : LeavesFronts tells (files_of p) (files_of q)
  pub pins : q.pinned ≡ p.pinned
  pub slots : q.slots ≡ p.slots

-- Memory takes in a change that stood in doubt and is settled, where the stores have it.
pub record TakesIn (at : Seen) (d : Option Doubt) (old new : InMemory) : Type 0 where
  pub kept : IsCleared at.catalogue.rows d old.kept new.kept
  pub tails : IsTrimmed at.manifests d old.tails new.tails
  pub doors : new.doors ≡ old.doors

-- So the stores' call ends where nothing stood in doubt: whatever the archive rested on, it makes the change, or it stands in doubt, or all is as it was.
-- What is listed or in limbo stays, and no stray is made.
pub record Changed {A : Type 0} (tells : Bool) (change : Change) (p q : Parts) (result : Result A DiskErr) : Type 0 where
  pub changes : (m : Machine) → Rests tells p m → ChangesTo tells change p m q result
  pub fronts : LeavesFronts tells (files_of p) (files_of q)
  pub tidy : OnOk result (Tidies tells p q)

-- So an act ends that only asks the stores, where nothing stood in doubt: whatever the archive rested on, it is answered, memory was wanting, or the disk
-- failed. The disk was only read, and no stray is made.
pub record Asked (tells : Bool) (Runs : Machine → Reply → Machine → Type 0) (p : Parts) (answer : Reply) (q : Parts) : Type 0 where
  pub asks : (m : Machine) → Rests tells p m → AskEnds tells Runs p m q answer
  pub reads : ReadsAlone tells p q
  pub faults : p.at.faults ≤ q.at.faults
  pub tidy : IsSettled p.at → Tidies tells p q
