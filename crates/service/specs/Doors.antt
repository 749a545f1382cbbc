-- What a worker does, and what it leaves of its door.
use Rattle.std.specs.Prelude.{◌≡◌, ◌⊎◌, ◌||◌, ℕ, ◌+◌, ◌<◌, ◌≤◌, Bool, true, false, List, [], ◌∷◌, ◌++◌, Option, All, length, option_map}
use Rattle.std.specs.List.{list_any}
use Rattle.edge_io.specs.Doors.{IsFresh, Ledger}
use Rattle.edge_io.specs.Moments.{Moments}
use Rattle.edge_io.specs.Stream.{Rose}
use Rattle.edge_io.specs.declared.link.Door.{Ghosts as OfDoor}
use Rattle.edge_io.specs.declared.stream.Source.{Ghosts as OfSource}
use Rattle.edge_io.specs.declared.stream.Sink.{Ghosts as OfSink}
use Rattle.disk_model.specs.declared.disk.ReadAt.{Ghosts as OfFile}
use Rattle.act_model.specs.declared.acts.Act.TheVariants.{DoorDone}
use Rattle.act_model.specs.declared.actor.Actor.{Ghosts as OfActor}
use Rattle.act_model.specs.History.{Done, Made, MadeOne}
use Rattle.act_model.specs.Reply.{Reply}
use Rattle.act_model.specs.Roles.{is_of_link}
use Rattle.serving.specs.Rounds.{IsShift}
use Rattle.service.specs.declared.door.DoorAsked.{DoorAsked}
use Rattle.service.specs.declared.door.DoorAsked.TheVariants as asked
use Rattle.service.specs.declared.door.DoorServed.{DoorServed}
use Rattle.service.specs.declared.door.DoorServed.TheVariants as ended
use Rattle.service.specs.declared.gate.Gate.{Ghosts as OfGate}
use Rattle.service.specs.declared.served.Kind.{Kind}
use Rattle.service.specs.declared.served.Served.{Served}
use Rattle.service.specs.declared.served.Served.TheVariants as served
use Rattle.service.specs.Serving.{HasReply, MakesOnly, ServesLink, WasSpent}

-- THE ACTS

-- the acts of the door's links, and then its DoorDone, unless no act was left
abbrev pub Shift : {A R : Type 0} → OfActor A R → A → DoorServed → A → Type 0
Shift actor old (ended.Done lacked failed) new = (acts : List Done) × Made actor.number actor.between old acts new × IsShift acts
Shift actor old ended.Spent new = MakesOnly actor is_of_link old new

-- behind its links the door was counted off by just one act, unless no act was left
abbrev pub CountsOff : {A R : Type 0} → OfActor A R → A → DoorServed → A → Type 0
CountsOff actor old (ended.Done lacked failed) new = (reply : Reply) × MadeOne actor.number actor.between old DoorDone reply new
CountsOff actor old ended.Spent new = Made actor.number actor.between old [] new

-- THE LINKS

-- A link as it came back: it was given fresh, and one of its counts isn't 0, or it has the reply of its kind.
pub record IsServed {L : Type 0} (kind : Kind) (written : L → Option (List ℕ)) (read_faults write_faults : L → ℕ) (l : L) : Type 0 where
  pub was : L
  pub fresh : IsFresh written read_faults write_faults was
  pub end : (0 < read_faults l) ⊎ (0 < write_faults l) ⊎ HasReply kind (written was) (written l)

-- Links were served one after another: each was given fresh, and was served so that it is as told, with the result that is told. Between two
-- of them nothing was done.
pub data InTurn {A L R : Type 0} (Fresh : L → Type 0) (Serves : A → Option Moments → L → Served R → A → Option Moments → L → Type 0) (old : A) (clock : Option Moments) : List L → List (Served R) → A → Option Moments → Type 0 where
  no_link : InTurn Fresh Serves old clock [] [] old clock
  one_more_link : {links : List L} {results : List (Served R)} {mid : A} {moments : Option Moments} (was l : L) (result : Served R) (new : A) (clock' : Option Moments)
      → InTurn Fresh Serves old clock links results mid moments → Fresh was → Serves mid moments was result new clock' l → InTurn Fresh Serves old clock (links ++ l ∷ []) (results ++ result ∷ []) new clock'

-- a gate was told of a link at this post before it was served, and after that
abbrev pub IsTold : {G : Type 0} → OfGate G → G → ℕ → Type 0
IsTold told gate post = told.entered gate post × told.left gate post

-- A link was served, by its kind, and a gate was told of it.
abbrev pub ServesLinkTold : {A L R : Type 0} → OfActor A R → OfFile R → OfSource L → OfSink L → Type 0 → Kind → A → Option Moments → L → Served R → A → Option Moments → L → Type 0
ServesLinkTold actor file source sink Told kind old clock was result new clock' l = ServesLink actor file source sink kind old clock was result new clock' l × Told

-- memory ran out for a link
abbrev pub is_memory : {R : Type 0} → Served R → Bool
is_memory served.Memory = true
is_memory other = false

-- THE DOOR

-- so many more links were given, and they came back
abbrev pub with_back : {L : Type 0} → List L → Ledger L → Ledger L
with_back more l = record { given = l.given + length more; back = l.back ++ more }

-- Links were served so, and just they were given and came back, in order, where the door tells its links.
pub record Leaves {D L R : Type 0} (door : OfDoor D L) (Were : List L → List (Served R) → Type 0) (old new : D) : Type 0 where
  pub links : List L
  pub results : List (Served R)
  pub were : Were links results
  pub returned : door.ledger new ≡ option_map (with_back links) (door.ledger old)
  pub faults_rise : door.door_faults old ≤ door.door_faults new

-- So it is, and it is told whether memory ran out for one of them. Where it did not, this holds of each.
pub record LeavesTold {D L R : Type 0} (door : OfDoor D L) (Is : L → Type 0) (Were : List L → List (Served R) → Type 0) (old : D) (lacked : Bool) (new : D) : Type 0 where
  pub left : Leaves door Were old new
  pub told : lacked ≡ list_any is_memory left.results
  pub are : lacked ≡ false → All Is left.links

-- the door has failed, where that is told, and else no link comes any more
abbrev pub IsAtEnd : {D : Type 0} → (D → Bool) → (D → ℕ) → D → Bool → D → Type 0
IsAtEnd is_closed faults old false new = is_closed new ≡ true
IsAtEnd is_closed faults old true new = Rose (faults old) (faults new)

-- to the end of the door, unless no act was left
abbrev pub AsksToEnd : {D L R : Type 0} → OfDoor D L → (L → Type 0) → (List L → List (Served R) → Type 0) → D → DoorServed → D → Type 0
AsksToEnd door Is Were old (ended.Done lacked failed) new = LeavesTold door Is Were old lacked new × IsAtEnd door.is_closed door.door_faults old failed new
AsksToEnd door Is Were old ended.Spent new = Leaves door Were old new

-- A worker's work on its door: the acts that it made, what it left of the door, and that acts were wanting where it tells so.
pub record ServesDoor {A D L R : Type 0} (actor : OfActor A R) (door : OfDoor D L) (Fresh Is : L → Type 0) (Serves : A → Option Moments → L → Served R → A → Option Moments → L → Type 0)
    (old : A) (clock : Option Moments) (was : D) (result : DoorServed) (new : A) (clock' : Option Moments) (now : D) : Type 0 where
  pub shift : Shift actor old result new
  pub mid : A
  pub asked : AsksToEnd door Is (λ links results. InTurn Fresh Serves old clock links results mid clock') was result now
  pub counted : CountsOff actor mid result new
  pub spent : result ≡ ended.Spent → WasSpent actor new

-- So a door was served whose links are of one kind and come to this post, each of which a gate was told of.
abbrev pub ServesDoorAt : {A D L R : Type 0} → OfActor A R → OfFile R → OfSource L → OfSink L → OfDoor D L → (ℕ → Type 0) → Kind → ℕ → A → Option Moments → D → DoorServed → A → Option Moments → D → Type 0
ServesDoorAt actor file source sink door Told kind post old clock was result new clock' now =
    ServesDoor actor door (IsFresh sink.written source.read_faults sink.write_faults) (IsServed kind sink.written source.read_faults sink.write_faults) (ServesLinkTold actor file source sink (Told post) kind) old clock was result new clock' now

-- ONE LINK MORE

-- a link came, was served and came back
pub record ServesNext {D L R : Type 0} (door : OfDoor D L) (Fresh : L → Type 0) (Serves : L → Served R → L → Type 0) (old new : D) : Type 0 where
  pub was : L
  pub link : L
  pub result : Served R
  pub fresh : Fresh was
  pub serves : Serves was result link
  pub returned : door.ledger new ≡ option_map (with_back (link ∷ [])) (door.ledger old)
  pub faults_rise : door.door_faults old ≤ door.door_faults new

-- once more; `lacked` says whether memory ran out for an earlier link
abbrev pub AsksOn : {D L R : Type 0} → OfDoor D L → (L → Type 0) → (L → Type 0) → (L → Served R → L → Type 0) → D → Bool → DoorAsked → D → Type 0
AsksOn door Fresh Is Serves old lacked (asked.Link now) new = (next : ServesNext door Fresh Serves old new) × (now ≡ (lacked || is_memory next.result)) × (now ≡ false → Is next.link)
AsksOn door Fresh Is Serves old lacked (asked.End failed) new = (door.ledger new ≡ door.ledger old) × (door.door_faults old ≤ door.door_faults new) × IsAtEnd door.is_closed door.door_faults old failed new
AsksOn door Fresh Is Serves old lacked asked.Spent new = ServesNext door Fresh Serves old new
