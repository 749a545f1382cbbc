-- One of many who act in turns: what its pass knows, as a run of the machine.
use Rattle.std.specs.Prelude.{◌≡◌, ℕ, List, [], ◌∷◌, ◌++◌, length}
use Rattle.turn_rooms.specs.declared.room.RoomEntry.{RoomEntry}
use Rattle.turn_rooms.specs.declared.rooms.Pass.{Pass}
use Rattle.turn_rooms.specs.declared.rooms.Rooms.{Rooms}
use Rattle.turn_rooms.specs.Histories.{end_of, most_acts}
use Rattle.turn_rooms.specs.Passes.{IsPassOf, Goes, opened, known}
use Rattle.act_model.specs.declared.acts.Act.{Act}
use Rattle.act_model.specs.Growth.{Onward}
use Rattle.act_model.specs.History.{Entry}
use Rattle.act_model.specs.Machine.{Machine}
use Rattle.act_model.specs.Reply.{Reply}
use Rattle.act_model.specs.Step.{Step}
use Rattle.archive_actors.specs.Steps.{kept, all_kept}

module _ {S B : Type 0} (steps : S → ℕ → ℕ → Act → B → S → Type 0) where
  -- A pass of these rooms, which were opened with a value that stood for some state; what the pass knows ends in this one.
  pub record StandsFor (stands : S → Machine → Type 0) (rooms : Rooms S Act B) (pass : Pass S Act B) (m : Machine) : Type 0 where
    pub is_pass : IsPassOf steps rooms pass
    pub begun : (first : Machine) × stands (opened rooms) first
    pub now : stands (end_of (opened rooms) (known pass)) m

  -- Between two moments of a pass it came to know these entries, at the end of what it knew. It stands for the same numbers, of which no
  -- other has a new act.
  pub record HasLearnt (reply : B → Reply) (rooms : Rooms S Act B) (old : Pass S Act B) (entries : List Entry) (later : Rooms S Act B) (new : Pass S Act B) : Type 0 where
    pub same_rooms : later ≡ rooms
    pub same_number : new.number ≡ old.number
    pub acts : List (RoomEntry S Act B)
    pub goes_on : known new ≡ known old ++ acts
    pub are : entries ≡ all_kept reply acts
    pub goes : IsPassOf steps rooms old → Goes steps rooms old new

  -- Whatever state the one pass stood for, each act that the other makes is a step in a state that goes onward from it: no row is gone,
  -- and of each all is accepted that was.
  abbrev pub ActsAfter : (S → Machine → Type 0) → (B → Reply) → Rooms S Act B → Pass S Act B → Pass S Act B → Type 0
  ActsAfter stands reply rooms earlier old =
      (m : Machine) → StandsFor stands rooms earlier m → (later : Rooms S Act B) (new : Pass S Act B) (others : List Entry) (act : Act) (answer : B)
      → HasLearnt reply rooms old (others ++ kept reply old.number act answer ∷ []) later new
      → (at after : Machine) × Onward m at × Step old.number act at (reply answer) after × StandsFor stands later new after

-- the pass knows as many acts as a room takes
abbrev pub KnowsAll : {S B : Type 0} → Pass S Act B → Type 0
KnowsAll pass = length (known pass) ≡ most_acts
