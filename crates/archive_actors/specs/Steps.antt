-- The acts of a room as entries and steps of the machine.
use Rattle.std.specs.Prelude.{ℕ, List, Bool, map}
use Rattle.turn_rooms.specs.declared.room.RoomEntry.{RoomEntry}
use Rattle.act_model.specs.declared.acts.Act.{Act}
use Rattle.act_model.specs.declared.acts.Answer.{Answer}
use Rattle.act_model.specs.Alone.{Applied}
use Rattle.act_model.specs.History.{Entry}
use Rattle.act_model.specs.Machine.{Machine}
use Rattle.act_model.specs.Reply.{Reply, reply_of}
use Rattle.archive_actors.specs.declared.shared.Shared.{Shared}

-- what is kept of an act and its answer
abbrev pub kept : {B : Type 0} → (B → Reply) → ℕ → Act → B → Entry
kept reply who act answer = record { who = who; act = act; answer = reply answer }

-- An act of a room is one that may be asked, and a step of the machine from whatever state the room stood for.
abbrev pub RoomStep : {S B : Type 0} → (S → Machine → Type 0) → (B → Reply) → S → ℕ → ℕ → Act → B → S → Type 0
RoomStep stands reply old who n act answer new = Applied stands old (kept reply who act answer) new

-- what is kept of the acts of a room; the rooms after them are left out
abbrev pub all_kept : {S B : Type 0} → (B → Reply) → List (RoomEntry S Act B) → List Entry
all_kept {S} {B} reply acts = map (λ (e : RoomEntry S Act B). kept reply e.who e.act e.answer) acts

-- a shared archive stands for the states that the archive stands for
abbrev pub SharedStands : {X R : Type 0} → (X → Machine → Type 0) → Shared X R → Machine → Type 0
SharedStands stands room m = stands room.archive m

-- an act on a shared archive, whose readers have these meanings; and what it leaves
abbrev pub SharedStep : {X R : Type 0} → (X → Machine → Type 0) → (X → Entry → X → Type 0) → Bool → (R → List ℕ) → (R → ℕ) → Shared X R → ℕ → ℕ → Act → Answer R → Shared X R → Type 0
SharedStep stands leaves tells bytes faults old who n act answer new = RoomStep (SharedStands stands) (reply_of tells bytes faults) old who n act answer new × leaves old.archive (kept (reply_of tells bytes faults) who act answer) new.archive
