-- What a service gave to those who came to its posts, as sessions over the acts of its one history.
use Rattle.std.specs.Prelude.{◌≡◌, ◌≤◌, ℕ, List, [], ◌∷◌, ◌++◌, true, Option, Result, Contains, length, map}
use Rattle.edge_io.specs.Doors.{IsFresh}
use Rattle.edge_io.specs.Moments.{Gives, Moments}
use Rattle.edge_io.specs.declared.link.Door.{Ghosts as OfDoor}
use Rattle.edge_io.specs.declared.stream.Source.{Ghosts as OfSource}
use Rattle.edge_io.specs.declared.stream.Sink.{Ghosts as OfSink}
use Rattle.disk_model.specs.declared.disk.ReadAt.{Ghosts as OfFile}
use Rattle.turn_rooms.specs.Histories.{most_acts}
use Rattle.act_model.specs.declared.actor.Actor.{Ghosts as OfActor}
use Rattle.act_model.specs.declared.actor.Spent.{Spent as NoAct}
use Rattle.act_model.specs.History.{Done, Entry, Runs, mine, own}
use Rattle.act_model.specs.Machine.{Machine}
use Rattle.feed_session.specs.Durable.{KeptAreDurable, SaysDurable}
use Rattle.feed_session.specs.Session.{acts_of}
use Rattle.serving.specs.declared.ends.FlushEnd.{FlushEnd}
use Rattle.serving.specs.declared.ends.MoverEnd.{MoverEnd}
use Rattle.serving.specs.Flushes.{FlushesTo}
use Rattle.serving.specs.Moves.{MovesTo}
use Rattle.service.specs.declared.door.DoorServed.{DoorServed}
use Rattle.service.specs.declared.posts.Post.{Post}
use Rattle.service.specs.declared.served.Kind.{Kind}
use Rattle.service.specs.declared.served.Kind.TheVariants.{Feed, Http}
use Rattle.service.specs.declared.served.Served.{Served}
use Rattle.service.specs.declared.service.AllServed.{AllServed}
use Rattle.service.specs.Doors.{IsServed, ServesDoor}
use Rattle.service.specs.Service.{at_door, at_flushes, at_moves, told_of}
use Rattle.service.specs.Serving.{ServesLink}
use Rattle.archiver_appliance.specs.Serving.{EachOf}

-- ONE WHO ACTS

-- One who acts in a service: under which number, and which first entries of its history are known to him.
pub record Knower : Type 0 where
  pub number : ℕ
  pub known : List Entry

abbrev pub acts_under : Knower → ℕ
acts_under k = k.number

-- he came to know these entries, at the end of what he knew
abbrev pub Learns : Knower → List Entry → Knower → Type 0
Learns k entries later = (later.number ≡ k.number) × (later.known ≡ k.known ++ entries)

-- he knows as many as there can be
abbrev pub KnowsMost : Knower → Type 0
KnowsMost k = most_acts ≤ length k.known

-- what an actor tells, of one who stands for this state
abbrev pub knower : {R : Type 0} → Machine → OfActor Knower R
knower at = record { number = acts_under; stands = λ k m. m ≡ at; between = Learns; is_spent = KnowsMost }

-- THE LINKS AND THE POSTS

module _ {L R : Type 0} (start : Machine) (file : OfFile R) (source : OfSource L) (sink : OfSink L) where
  -- so was a link served from this state, by its kind
  abbrev pub ServesFrom : Machine → Kind → Knower → Option Moments → L → Served R → Knower → Option Moments → L → Type 0
  ServesFrom at kind old clock was result new clock' l = ServesLink (knower at) file source sink kind old clock was result new clock' l

  -- What a feed kept whose last line tells that it is durable is so in the state that the feed's entries lead to, where samples are told.
  abbrev pub KeepsAll : (at : Machine) (kind : Kind) (old : Knower) (clock : Option Moments) (was : L) (result : Served R) (new : Knower) (clock' : Option Moments) (l : L) → ServesFrom at kind old clock was result new clock' l → Type 0
  KeepsAll at Feed old clock was result new clock' l s = SaysDurable s.2.end → at.told ≡ true → (after : Machine) → Runs at s.2.ended.made.entries after → KeptAreDurable (acts_of s.2.taken) after
  KeepsAll at Http old clock was result new clock' l s = Unit {0}

  -- A link was served by its kind, from the state to which the entries led that were known as it came.
  pub record ServesIn (kind : Kind) (old : Knower) (clock : Option Moments) (was : L) (result : Served R) (new : Knower) (clock' : Option Moments) (l : L) : Type 0 where
    pub at : Machine
    pub to : Runs start old.known at
    pub told : at.told ≡ start.told
    pub rule : at.rule ≡ start.rule
    pub serves : ServesFrom at kind old clock was result new clock' l
    pub keeps : KeepsAll at kind old clock was result new clock' l serves

  module _ {D : Type 0} (history : List Entry) (door : OfDoor D L) where
    -- The links of a post's door were served so, one after another, under this number, by one who knew nothing of the history at first and
    -- came to know a front of it. All acts under the number are in that front.
    pub record PostGiven (by : ℕ × DoorServed) (old new : Post D) : Type 0 where
      pub known : List Entry
      pub rest : List Entry
      pub front : history ≡ known ++ rest
      pub no_more : own by.0 rest ≡ []
      pub clock : Option Moments
      pub clock' : Option Moments
      pub serves : ServesDoor (knower start) door (IsFresh sink.written source.read_faults sink.write_faults) (IsServed old.kind sink.written source.read_faults sink.write_faults) (ServesIn old.kind)
          (record { number = by.0; known = [] }) clock old.door by.1 (record { number = by.0; known = known }) clock' new.door

    -- One beside the doors ended so, at the moments that a clock gave him: such are all acts under his number.
    pub record Tended {E : Type 0} (Such : Result E NoAct → List ℕ → List Done → Type 0) (end : Result E NoAct) : Type 0 where
      pub number : ℕ
      pub clock : Option Moments
      pub clock' : Option Moments
      pub moments : List ℕ
      pub at : Gives clock clock' moments
      pub acts : Such end moments (mine number history)

    -- Each post's links were served so, by a number for each, beside one who flushed and one who moved; nobody else acted;
    -- and what is told is how each of them ended.
    pub record Given (told : AllServed) (olds news : List (Post D)) : Type 0 where
      pub served : List (ℕ × DoorServed)
      pub each : EachOf PostGiven served olds news
      pub flushed : Result FlushEnd NoAct
      pub flushes : Tended FlushesTo flushed
      pub moved : Result MoverEnd NoAct
      pub moves : Tended MovesTo moved
      pub nobody_else : (q : ℕ) → (Contains (map (λ (s : ℕ × DoorServed). s.0) served ++ flushes.number ∷ moves.number ∷ []) q → ⊥) → own q history ≡ []
      pub told_is : told ≡ told_of (map (λ (s : ℕ × DoorServed). at_door s.1) served ++ at_flushes flushed ∷ at_moves moved ∷ [])
