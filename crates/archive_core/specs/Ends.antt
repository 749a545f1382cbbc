-- What an act on an archive comes to: from each machine that the archive stood for the act is a step with this answer, to one that it
-- stands for then. And what a crash between acts leaves.
use Rattle.std.specs.Prelude.{◌≡◌, ◌⊎◌, ◌≤◌, ℕ, List, [], Bool, true, Option, Some, Result, Ok, Err, IsTrue}
use Rattle.disk_model.specs.Files.{Files, Rose}
use Rattle.disk_model.specs.Past.{Passes}
use Rattle.disk_model.specs.declared.disk.DiskErr.{DiskErr}
use Rattle.disk_model.specs.declared.disk.DiskErr.TheVariants.{Fault, Memory}
use Rattle.partition_names.specs.declared.granularity.Granularity.{Granularity}
use Rattle.pv_catalog.specs.declared.error.RegisterErr.{RegisterErr}
use Rattle.pv_catalog.specs.declared.error.RegisterErr.TheVariants as refusal
use Rattle.tier_store.specs.Seen.{granularities}
use Rattle.tier_store.specs.Stores.{Stores}
use Rattle.tier_store.specs.Stored.{HoldsAll}
use Rattle.act_model.specs.Machine.{Machine, Change, find_row}
use Rattle.act_model.specs.Changes.{made, Settles}
use Rattle.act_model.specs.Crash.{DurableRow, LeftBetween, LeftWithin, kept}
use Rattle.act_model.specs.Reply.{Reply}
use Rattle.act_model.specs.declared.acts.Answer.TheVariants as answer
use Rattle.archive_core.specs.Parts.{Parts}
use Rattle.archive_core.specs.Stands.{AreDurable, Stands, Rests}

-- the act is a step from whatever the archive stood for
abbrev pub Steps : Bool → (Machine → Reply → Machine → Type 0) → Parts → Reply → Parts → Type 0
Steps tells Step old answer new = (m : Machine) → Stands tells old m → (n : Machine) × Step m answer n × Stands tells new n

-- so it is of an act on the row of this number, by whatever name it was found
abbrev pub EndsNamed : Bool → ℕ → (List ℕ → Machine → Reply → Machine → Type 0) → Parts → Reply → Parts → Type 0
EndsNamed tells i Step old answer new = (m : Machine) (name : List ℕ) → Stands tells old m → find_row m name ≡ Some i → (n : Machine) × Step name m answer n × Stands tells new n

-- whatever the archive stood for, its doubt is settled, and it stands for what comes of that
abbrev pub SettlesTo : Bool → Parts → Parts → Type 0
SettlesTo tells old new = (m : Machine) → Stands tells old m → (mid : Machine) × Settles m mid × Rests tells new (record mid { faults = new.at.faults })

-- the archive still stands for what it stood for, but for the count of faults
abbrev pub StandsStill : Bool → Parts → Parts → Type 0
StandsStill tells old new = (m : Machine) → Stands tells old m → Stands tells new (record m { faults = new.at.faults })

-- The image holds stores that have this durable part. Where samples are told, they stand: the image has the bytes of their files.
pub record HoldsRows (gs : List Granularity) (image : Files) (told : Bool) (rows : List DurableRow) : Type 0 where
  pub stores : Stores
  pub holds : HoldsAll gs image stores
  pub durable : AreDurable told stores rows
  pub stands : told ≡ true → IsTrue stores.stands

-- the image holds what is durable of the machine
abbrev pub HoldsMachine : List Granularity → Files → Machine → Type 0
HoldsMachine gs image m = HoldsRows gs image m.told (kept m)

-- the image holds what a crash between acts may leave
abbrev pub LeavesBetween : List Granularity → Machine → Files → Type 0
LeavesBetween gs m image = (left : Machine) × LeftBetween m left × HoldsMachine gs image left

-- what is answered where the disk failed, or memory was wanting
abbrev pub disk_reply : DiskErr → Reply
disk_reply Fault = answer.DiskFault
disk_reply Memory = answer.Memory

-- what is answered where a name was registered under a number, or wasn't
abbrev pub register_reply : Result ℕ RegisterErr → Reply
register_reply (Ok row) = answer.Registered row
register_reply (Err (refusal.NameTaken row)) = answer.NameTaken row
register_reply (Err (refusal.KeyTaken row)) = answer.KeyTaken row
register_reply (Err refusal.Full) = answer.CatalogueFull
register_reply (Err (refusal.Disk e)) = disk_reply e

-- HOW A CHANGE OF THE STORES ENDS, WHERE NOTHING STOOD IN DOUBT

-- the archive stands for the machine with the change made, for that with the change in doubt, or for what it stood for
abbrev pub ChangeEnds : {A : Type 0} → Bool → Change → Machine → Parts → Result A DiskErr → Type 0
ChangeEnds {A} tells change m new (Ok a) = Stands tells new (record (made [] change m) { faults = new.at.faults })
ChangeEnds {A} tells change m new (Err Fault) = Stands tells new (record m { doubt = Some change; faults = new.at.faults })
ChangeEnds {A} tells change m new (Err Memory) = Stands tells new (record m { faults = new.at.faults })

-- the image holds what is durable of the machine, or of that with the change made
abbrev pub HoldsChanged : List Granularity → Change → Machine → Files → Type 0
HoldsChanged gs change m image = HoldsMachine gs image m ⊎ HoldsMachine gs image (made [] change m)

-- So it ends, and so a crash at any moment of it. A fault comes only where the disk's count rose.
pub record ChangesTo {A : Type 0} (tells : Bool) (change : Change) (old : Parts) (m : Machine) (new : Parts) (result : Result A DiskErr) : Type 0 where
  pub ends : ChangeEnds tells change m new result
  pub any_moment : IsTrue tells → Passes (λ a image. HoldsChanged (granularities old.at.manifests) change m image) old.at.past new.at.past
  pub faults : old.at.faults ≤ new.at.faults
  pub cause : result ≡ Err Fault → Rose old.at.faults new.at.faults

-- HOW AN ACT ENDS THAT ONLY ASKS THE STORES, WHERE NOTHING STOOD IN DOUBT

-- Memory was wanting, or the disk failed, and but for the count of faults the archive stands for what it stood for; or it is answered as
-- the machine answers.
pub data AskEnds (tells : Bool) (Runs : Machine → Reply → Machine → Type 0) (old : Parts) (m : Machine) (new : Parts) : Reply → Type 0 where
  is_spent : Stands tells new (record m { faults = new.at.faults }) → AskEnds tells Runs old m new answer.Memory
  is_failed : Stands tells new (record m { faults = new.at.faults }) → Rose old.at.faults new.at.faults → AskEnds tells Runs old m new answer.DiskFault
  is_answered : {reply : Reply} (n : Machine) → Runs m reply n → Stands tells new n → AskEnds tells Runs old m new reply

-- WHAT A CRASH WITHIN AN ACT LEAVES

-- The image holds what a crash within the act may leave, which has these refusals and may make this change.
abbrev pub LeavesWithin : (Machine → Option Reply) → (Machine → Option Change) → List Granularity → Machine → Files → Type 0
LeavesWithin refuse change gs m image = (left : Machine) × LeftWithin refuse change m left × HoldsMachine gs image left

-- so it is at every moment of the act, whatever the archive stood for
abbrev pub LeavesByAct : Bool → (Machine → Option Reply) → (Machine → Option Change) → Parts → Parts → Type 0
LeavesByAct tells refuse change old new = (m : Machine) → IsTrue tells → Stands tells old m → Passes (λ a image. LeavesWithin refuse change (granularities old.at.manifests) m image) old.at.past new.at.past
