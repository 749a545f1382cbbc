-- One who acts by turns of a pass, as an actor.
use Rattle.std.specs.Prelude.{◌≡◌, ℕ}
use Rattle.disk_model.specs.declared.disk.ReadAt.{Ghosts as OfFile}
use Rattle.turn_rooms.specs.declared.rooms.Pass.{Pass}
use Rattle.turn_rooms.specs.declared.rooms.Rooms.{Rooms}
use Rattle.act_model.specs.declared.acts.Act.{Act}
use Rattle.act_model.specs.declared.acts.Answer.{Answer}
use Rattle.act_model.specs.declared.actor.Actor.{Ghosts as OfActor}
use Rattle.act_model.specs.Machine.{Machine}
use Rattle.act_model.specs.Reply.{Reply}
use Rattle.archive_actors.specs.declared.applies.Applies.{Ghosts as OfApplies}
use Rattle.archive_actors.specs.declared.shared.Shared.{Shared}
use Rattle.archive_actors.specs.declared.seated.Seated.{Seated}
use Rattle.archive_actors.specs.Seats.{HasLearnt, KnowsAll, StandsFor}
use Rattle.archive_actors.specs.Steps.{SharedStands}
use Rattle.serving.specs.Acting.{room_reply, room_steps}

-- the pass by which one acts
abbrev pub seat_pass : {R X Y : Type 0} → Seated R X Y → Pass (Shared X Y) Act (Answer Y)
seat_pass a = a.pass.now

-- the rooms that it is a pass of
abbrev pub seat_rooms : {R X Y : Type 0} → Seated R X Y → Rooms (Shared X Y) Act (Answer Y)
seat_rooms a = a.rooms.now

-- What an actor tells, of one who is seated. It acts by the pass that it was made with.
abbrev pub seat_by : {T X Y : Type 0} → (Shared X Y → ℕ → ℕ → Act → Answer Y → Shared X Y → Type 0) → (Shared X Y → Machine → Type 0) → (Answer Y → Reply) → OfActor (Seated T X Y) Y
seat_by steps stands reply = record {
  number = λ a. a.pass.now.number;
  stands = λ a m. StandsFor steps stands a.rooms.now a.pass.now m;
  between = λ a entries b. (b.pass.ghost_name ≡ a.pass.ghost_name) × HasLearnt steps reply a.rooms.now a.pass.now entries b.rooms.now b.pass.now;
  is_spent = λ a. KnowsAll a.pass.now;
}

-- so it is over such an archive with such files. `rt` tells the seats' type alone.
abbrev pub seat : {T X Y : Type 0} → T → OfApplies X Y → OfFile Y → OfActor (Seated T X Y) Y
seat rt archive file = seat_by (room_steps archive file) (SharedStands archive.stands) (room_reply file)
