-- A service of many doors, each with a worker that acts in turns, beside one who flushes and one who moves.
use Rattle.std.specs.Prelude.{◌≡◌, ◌⊎◌, ◌||◌, ℕ, ◌+◌, ◌<◌, ◌≤◌, if◌then◌else◌, Bool, true, false, List, [], ◌∷◌, ◌++◌, Option, Result, Ok, Err, IsErr, All, length, map, count_by}
use Rattle.std.specs.List.{list_any, range_with_len}
use Rattle.edge_io.specs.Moments.{Gives, Moments}
use Rattle.turn_rooms.specs.declared.rooms.Pass.{Pass}
use Rattle.turn_rooms.specs.declared.rooms.Rooms.{Rooms}
use Rattle.turn_rooms.specs.Histories.{most_acts, most_numbers}
use Rattle.turn_rooms.specs.Passes.{Goes, drained, known, stands}
use Rattle.act_model.specs.declared.acts.Act.{Act}
use Rattle.act_model.specs.declared.actor.Spent.{Spent}
use Rattle.act_model.specs.History.{Done}
use Rattle.act_model.specs.Machine.{Machine}
use Rattle.act_model.specs.Reply.{Reply}
use Rattle.archive_actors.specs.Seats.{StandsFor}
use Rattle.serving.specs.declared.ends.FlushEnd.{FlushEnd}
use Rattle.serving.specs.declared.ends.FlushEnd.TheVariants.{FailsToWrite, LacksMemory}
use Rattle.serving.specs.declared.ends.MoverEnd.{MoverEnd}
use Rattle.serving.specs.declared.ends.MoverEnd.TheVariants.{MeetsNoMemory}
use Rattle.serving.specs.Rounds.{IsShift}
use Rattle.serving.specs.Flushes.{FlushesTo}
use Rattle.serving.specs.Moves.{MovesTo}
use Rattle.workers.specs.Pairs.{AllGive}
use Rattle.workers.specs.declared.worker.Worker.{Worker}
use Rattle.workers.specs.Left.{Drawn, Met}
use Rattle.serving.specs.Acting.{Acts}
use Rattle.service.specs.declared.door.DoorServed.{DoorServed}
use Rattle.service.specs.declared.door.DoorServed.TheVariants as door
use Rattle.service.specs.declared.service.AllServed.{AllServed}
use Rattle.service.specs.declared.posts.WorkEnd.{WorkEnd}
use Rattle.service.specs.declared.posts.WorkEnd.TheVariants as ended
use Rattle.service.specs.declared.posts.Post.{Post}
use Rattle.service.specs.declared.posts.Task.{Task}
use Rattle.service.specs.declared.posts.Task.TheVariants as task
use Rattle.service.specs.declared.served.Kind.{Kind}

-- HOW ONE ENDED

-- one at a door
abbrev pub at_door : DoorServed → WorkEnd
at_door served = ended.Door served

-- the flusher
abbrev pub at_flushes : Result FlushEnd Spent → WorkEnd
at_flushes (Ok end) = ended.Flushed end
at_flushes (Err spent) = ended.Spent

-- the mover
abbrev pub at_moves : Result MoverEnd Spent → WorkEnd
at_moves (Ok end) = ended.Moved end
at_moves (Err spent) = ended.Spent

-- WHAT IS TOLD

abbrev pub fails : WorkEnd → Bool
fails (ended.Door (door.Done lacked failed)) = failed
fails other = false

abbrev pub fails_to_write : WorkEnd → Bool
fails_to_write (ended.Flushed FailsToWrite) = true
fails_to_write other = false

abbrev pub finds_none : WorkEnd → Bool
finds_none (ended.Door door.Spent) = true
finds_none ended.Spent = true
finds_none other = false

abbrev pub lacks : WorkEnd → Bool
lacks (ended.Door (door.Done lacked failed)) = lacked
lacks (ended.Flushed LacksMemory) = true
lacks (ended.Moved MeetsNoMemory) = true
lacks other = false

-- how many doors failed, and whether one of all met the others
abbrev pub told_of : List WorkEnd → AllServed
told_of ends = record { door_faults = count_by fails ends; disk_fault = list_any fails_to_write ends; spent = list_any finds_none ends; memory = list_any lacks ends }

-- so it is, and one more
abbrev pub with_end : AllServed → WorkEnd → AllServed
with_end told end =
    record {
      door_faults = told.door_faults + (if fails end then 1 else 0);
      disk_fault = told.disk_fault || fails_to_write end;
      spent = told.spent || finds_none end;
      memory = told.memory || lacks end;
    }

-- nothing was wanting but one of these two
abbrev pub told_want : Bool → Bool → AllServed
told_want spent memory = record { door_faults = 0; disk_fault = false; spent = spent; memory = memory }

-- WHAT ONE DOES

-- One at a post: its place, its seat, its clock and the post, as they were and as they are left, and how the door was served.
pub record PostWork (A C D : Type 0) : Type 0 where
  pub place : ℕ
  pub seat : A
  pub seat' : A
  pub clock : C
  pub clock' : C
  pub post : Post D
  pub post' : Post D
  pub served : DoorServed

module _ {S B : Type 0} (steps : S → ℕ → ℕ → Act → B → S → Type 0) (reply : B → Reply) (rooms : Rooms S Act B) where
  -- No act was left: the pass knows as many as there can be.
  pub record FindsNone (old new : Pass S Act B) : Type 0 where
    pub goes : Goes steps rooms old new
    pub all : most_acts ≤ length (known new)

  -- one at a door: a shift
  abbrev pub ShiftEnds : Pass S Act B → WorkEnd → Pass S Act B → Type 0
  ShiftEnds old ended.NotBegun new = ⊥
  ShiftEnds old (ended.Door (door.Done lacked failed)) new = Acts steps reply rooms old IsShift new
  ShiftEnds old (ended.Door door.Spent) new = FindsNone old new
  ShiftEnds old (ended.Flushed end) new = ⊥
  ShiftEnds old (ended.Moved end) new = ⊥
  ShiftEnds old ended.Spent new = ⊥

  -- One beside the doors made just such acts, at the moments that its clock gave. Where it tells that no act was left, the pass knows as many
  -- as there can be.
  pub record Tends {E : Type 0} (Such : Result E Spent → List ℕ → List Done → Type 0) (old : Pass S Act B) (clock : Option Moments) (end : Result E Spent) (new : Pass S Act B) (clock' : Option Moments) : Type 0 where
    pub moments : List ℕ
    pub at : Gives clock clock' moments
    pub acts : Acts steps reply rooms old (Such end moments) new
    pub all : IsErr end → most_acts ≤ length (known new)

  -- the flusher's rounds, or the mover's
  abbrev pub TaskEnds : Task → Pass S Act B → Option Moments → WorkEnd → Pass S Act B → Option Moments → Type 0
  TaskEnds task.Flush old clock end new clock' = (flushed : Result FlushEnd Spent) × (end ≡ at_flushes flushed) × Tends FlushesTo old clock flushed new clock'
  TaskEnds task.Move old clock end new clock' = (moved : Result MoverEnd Spent) × (end ≡ at_moves moved) × Tends MovesTo old clock moved new clock'

-- one may act on an archive by turns of its pass
abbrev pub CanWork : {S B C E : Type 0} → (S → ℕ → ℕ → Act → B → S → Type 0) → (S → Machine → Type 0) → Rooms S Act B → Worker S C E Act B → Type 0
CanWork steps stands rooms w = (m : Machine) × StandsFor steps stands rooms w.pass m

-- ALL THAT IS DONE

-- `Serves` says of a post's kind and place how its door was served: from which seat and moments of a clock to which. A seat is a pass of
-- rooms.
module _ {A S B D : Type 0} (Serves : Kind → ℕ → A → Option Moments → D → DoorServed → A → Option Moments → D → Type 0) (pass_of : A → Pass S Act B) (rooms_of : A → Rooms S Act B) where
  -- a door was served from a seat with this pass
  pub record DoorEnds (rooms : Rooms S Act B) (kind : Kind) (place : ℕ) (pass : Pass S Act B) (clock : Option Moments) (door : D) (end : WorkEnd) (pass' : Pass S Act B) (clock' : Option Moments) (door' : D) : Type 0 where
    pub seat : A
    pub seat' : A
    pub served : DoorServed
    pub end_is : end ≡ ended.Door served
    pub pass_is : pass_of seat ≡ pass
    pub pass_is' : pass_of seat' ≡ pass'
    pub rooms_are : rooms_of seat ≡ rooms
    pub serves : Serves kind place seat clock door served seat' clock' door'

-- No numbers were left for passes of so many: those that the pass stands for, beside which no other is left, and theirs would be more than
-- there are. It knows what it knew.
abbrev pub NumbersSpent : {S B : Type 0} → Pass S Act B → Pass S Act B → ℕ → Type 0
NumbersSpent old new workers = (drained old < drained new) × (known new ≡ known old) × (most_numbers < length (stands old) + workers)

-- No passes could be drawn for the posts and two more, and nothing was done: numbers were spent, or memory ran out, where the pass stayed
-- as it was.
abbrev pub NobodyWorked : {S B D : Type 0} → AllServed → Pass S Act B → Pass S Act B → List (Post D) → List (Post D) → Type 0
NobodyWorked told old new olds news = (news ≡ olds) × (((told ≡ told_want true false) × NumbersSpent old new (length olds + 2)) ⊎ ((told ≡ told_want false true) × (new ≡ old)))

module _ {A S B C D : Type 0} (Serves : Kind → ℕ → A → Option Moments → D → DoorServed → A → Option Moments → D → Type 0) (pass_of : A → Pass S Act B) (rooms_of : A → Rooms S Act B) (coming : C → Option Moments) where
  -- A post's door was served so, and the post is of its kind still.
  pub record ServesPost (rooms : Rooms S Act B) (w : PostWork A C D) : Type 0 where
    pub rooms_are : rooms_of w.seat ≡ rooms
    pub same_kind : w.post'.kind ≡ w.post.kind
    pub serves : Serves w.post.kind w.place w.seat (coming w.clock) w.post.door w.served w.seat' (coming w.clock') w.post'.door

  module _ (steps : S → ℕ → ℕ → Act → B → S → Type 0) (reply : B → Reply) (rooms : Rooms S Act B) where
    -- a worker at its post
    pub record DoneAt (w : Worker S C WorkEnd Act B) (p : Post D) (w' : Worker S C WorkEnd Act B) (p' : Post D) : Type 0 where
      pub acts : ShiftEnds steps reply rooms w.pass w'.end w'.pass
      pub door : DoorEnds Serves pass_of rooms_of rooms p.kind w.place w.pass (coming w.clock) p.door w'.end w'.pass (coming w'.clock) p'.door
      pub kind : p'.kind ≡ p.kind

    -- Each post had a worker of its own, and two more flushed and moved.
    pub record WorkDone (olds : List (Worker S C WorkEnd Act B)) (posts : List (Post D)) (news : List (Worker S C WorkEnd Act B)) (posts' : List (Post D)) : Type 0 where
      pub at : List (Worker S C WorkEnd Act B)
      pub at' : List (Worker S C WorkEnd Act B)
      pub flusher : Worker S C WorkEnd Act B
      pub flusher' : Worker S C WorkEnd Act B
      pub mover : Worker S C WorkEnd Act B
      pub mover' : Worker S C WorkEnd Act B
      pub old_is : olds ≡ at ++ flusher ∷ mover ∷ []
      pub new_is : news ≡ at' ++ flusher' ∷ mover' ∷ []
      pub doors : AllGive DoneAt at posts at' posts'
      pub flushes : TaskEnds steps reply rooms task.Flush flusher.pass (coming flusher.clock) flusher'.end flusher'.pass (coming flusher'.clock)
      pub moves : TaskEnds steps reply rooms task.Move mover.pass (coming mover.clock) mover'.end mover'.pass (coming mover'.clock)

    -- Each post in its place was served from a seat of its own, and two more passes flushed and moved. All these were drawn of one pass and
    -- ended in it again, and it is told how they ended.
    pub record AllWorked (told : AllServed) (old new : Pass S Act B) (olds news : List (Post D)) : Type 0 where
      pub works : List (PostWork A C D)
      pub posts : olds ≡ map (λ (w : PostWork A C D). w.post) works
      pub posts' : news ≡ map (λ (w : PostWork A C D). w.post') works
      pub places : map (λ (w : PostWork A C D). w.place) works ≡ range_with_len 0 (length works)
      pub serve : All (ServesPost rooms) works
      pub flusher : Pass S Act B
      pub flusher' : Pass S Act B
      pub flusher_clock : C
      pub flusher_clock' : C
      pub flushed : Result FlushEnd Spent
      pub flushes : Tends steps reply rooms FlushesTo flusher (coming flusher_clock) flushed flusher' (coming flusher_clock')
      pub mover : Pass S Act B
      pub mover' : Pass S Act B
      pub mover_clock : C
      pub mover_clock' : C
      pub moved : Result MoverEnd Spent
      pub moves : Tends steps reply rooms MovesTo mover (coming mover_clock) moved mover' (coming mover_clock')
      pub mid : Pass S Act B
      pub drawn : Drawn steps rooms old mid (map (λ (w : PostWork A C D). pass_of w.seat) works ++ flusher ∷ mover ∷ [])
      pub met : Met steps rooms mid new (map (λ (w : PostWork A C D). pass_of w.seat') works ++ flusher' ∷ mover' ∷ [])
      pub told_is : told ≡ told_of (map (λ (w : PostWork A C D). ended.Door w.served) works ++ at_flushes flushed ∷ at_moves moved ∷ [])

    -- All worked, or nobody did.
    abbrev pub ServesAll : AllServed → Pass S Act B → Pass S Act B → List (Post D) → List (Post D) → Type 0
    ServesAll told old new olds news = AllWorked told old new olds news ⊎ NobodyWorked told old new olds news
