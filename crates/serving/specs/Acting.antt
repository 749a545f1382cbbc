-- What one who acts by a pass did, and how the history of all ends.
use Rattle.std.specs.Prelude.{◌≡◌, ℕ, List, [], ◌∷◌, ◌++◌}
use Rattle.disk_model.specs.declared.disk.ReadAt.{Ghosts as OfFile}
use Rattle.turn_rooms.specs.declared.room.RoomEntry.{RoomEntry}
use Rattle.turn_rooms.specs.declared.rooms.Pass.{Pass}
use Rattle.turn_rooms.specs.declared.rooms.Rooms.{Rooms}
use Rattle.turn_rooms.specs.Histories.{by}
use Rattle.turn_rooms.specs.Passes.{Goes, known}
use Rattle.act_model.specs.declared.acts.Act.{Act}
use Rattle.act_model.specs.declared.acts.Act.TheVariants.{Flush}
use Rattle.act_model.specs.declared.acts.Answer.{Answer}
use Rattle.act_model.specs.declared.acts.Answer.TheVariants.{DiskFault}
use Rattle.act_model.specs.History.{Done, Runs, mine}
use Rattle.act_model.specs.Machine.{Machine}
use Rattle.act_model.specs.Reply.{Reply, reply_of}
use Rattle.archive_actors.specs.declared.applies.Applies.{Ghosts as OfApplies}
use Rattle.archive_actors.specs.declared.shared.Shared.{Shared}
use Rattle.archive_actors.specs.Seats.{StandsFor}
use Rattle.archive_actors.specs.Steps.{SharedStep, all_kept}
use Rattle.serving.specs.End.{EndsWell}

-- the acts on a shared archive of this type, whose files have these meanings
abbrev pub room_steps : {X Y : Type 0} → OfApplies X Y → OfFile Y → Shared X Y → ℕ → ℕ → Act → Answer Y → Shared X Y → Type 0
room_steps archive file = SharedStep archive.stands archive.leaves file.tells file.bytes file.faults

-- what a history keeps of an answer to one
abbrev pub room_reply : {Y : Type 0} → OfFile Y → Answer Y → Reply
room_reply file = reply_of file.tells file.bytes file.faults

module _ {S B : Type 0} (steps : S → ℕ → ℕ → Act → B → S → Type 0) where
  -- Between two moments of a pass by turns of its own, the acts made under its number were such.
  pub record Acts (reply : B → Reply) (rooms : Rooms S Act B) (old : Pass S Act B) (Such : List Done → Type 0) (new : Pass S Act B) : Type 0 where
    pub goes : Goes steps rooms old new
    pub more : List (RoomEntry S Act B)
    pub goes_on : known new ≡ known old ++ more
    pub such : Such (mine old.number (all_kept reply more))

  -- What a pass has come to know is a run from a state that it stood for, and ends well.
  pub record EndsInTurns (stands : S → Machine → Type 0) (reply : B → Reply) (rooms : Rooms S Act B) (old new : Pass S Act B) (m : Machine) (mover : ℕ) : Type 0 where
    pub more : List (RoomEntry S Act B)
    pub goes_on : known new ≡ known old ++ more
    pub after : Machine
    pub runs : Runs m (all_kept reply more) after
    pub stands_for : StandsFor steps stands rooms new after
    pub ends : EndsWell m (all_kept reply more) after mover

-- What a pass has come to know has a flush that the disk failed, and whoever made it made no act after it.
pub record HasFlushFault {S B : Type 0} (reply : B → Reply) (old new : Pass S Act B) : Type 0 where
  pub more : List (RoomEntry S Act B)
  pub goes_on : known new ≡ known old ++ more
  pub front : List (RoomEntry S Act B)
  pub flush : RoomEntry S Act B
  pub back : List (RoomEntry S Act B)
  pub is : more ≡ front ++ flush ∷ back
  pub last : by flush.who back ≡ []
  pub limit : ℕ
  pub act : flush.act ≡ Flush limit
  pub answer : reply flush.answer ≡ DiskFault
