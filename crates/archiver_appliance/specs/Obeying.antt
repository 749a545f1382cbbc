-- How words are obeyed: all that is said of a command, in one record.
use Rattle.std.specs.Prelude.{◌≡◌, ℕ, List, IsTrue, Option, None, length}
use Rattle.edge_io.specs.declared.link.Door.{Ghosts as OfDoor}
use Rattle.edge_io.specs.declared.stream.Source.{Ghosts as OfSource}
use Rattle.edge_io.specs.declared.stream.Sink.{Ghosts as OfSink}
use Rattle.edge_io.specs.declared.clock.Clock.{Ghosts as OfClock}
use Rattle.disk_model.specs.declared.disk.Disk.{Ghosts as OfDisk}
use Rattle.disk_model.specs.declared.disk.ReadAt.{Ghosts as OfFile}
use Rattle.etl_rules.specs.Config.{ConfigState}
use Rattle.store_reopen.specs.Reopen.{IsUnopened}
use Rattle.service.specs.Doors.{IsServed}
use Rattle.command_words.specs.declared.command.Command.{Command}
use Rattle.command_words.specs.declared.command.Command.TheVariants.{OverStore}
use Rattle.command_words.specs.declared.command.StoreCommand.TheVariants as command
use Rattle.command_words.specs.declared.status.Status.{Status}
use Rattle.command_words.specs.declared.status.Status.TheVariants.{Usage}
use Rattle.command_words.specs.Command.{IsCommand, IsFaulty}
use Rattle.command_words.specs.Status.{number_of}
use Rattle.archiver_appliance.specs.Outside.{Outside, outside, IsCaused, NoneFell}
use Rattle.archiver_appliance.specs.Run.{Does, IsOfService, IsRefused, IsUnopenedFor}
use Rattle.archiver_appliance.specs.Serving.{ServesPosts}
use Rattle.archiver_appliance.specs.Sessions.{Given}
use Rattle.archiver_appliance.specs.World.{World, LeavesAlone, LeavesStreams}

-- what is seen of the outside
abbrev pub seen_of : {S K D C W R : Type 0} → OfSource S → OfSink K → OfDisk D R → OfClock C → World S K D C W → Outside
seen_of {S} {K} {D} {C} {W} {R} source sink disk clock w = outside source sink clock disk w.source w.sink w.clock w.disk

-- this is so of a service
abbrev pub IfServes : Command → Type 0 → Type 0
IfServes (OverStore (command.Serve numbers)) P = P
IfServes _ P = Unit {0}

module _ {S K D C W R L : Type 0} (source : OfSource S) (sink : OfSink K) (disk : OfDisk D R) (clock : OfClock C) (file : OfFile R) (link_source : OfSource L) (link_sink : OfSink L) (door : OfDoor W L)
    (config : ConfigState) (old new : World S K D C W) where
  -- what a service left of its posts, and what it made of what the disk held
  abbrev pub ServesOver : Status → Type 0
  ServesOver status = ServesPosts door.is_closed door.door_faults door.ledger (λ kind l. IsServed kind link_sink.written link_source.read_faults link_sink.write_faults l)
      (IsUnopenedFor config disk.tells (seen_of source sink disk clock old) (seen_of source sink disk clock new))
      (IsOfService config disk.tells (length old.posts) (λ told start entries. Given start file link_source link_sink entries door told old.posts new.posts) (seen_of source sink disk clock old) (seen_of source sink disk clock new))
      status old.posts new.posts

  -- a command over the archive that is refused leaves them alone
  abbrev pub IsUntouchedBy : Command → Status → Type 0
  IsUntouchedBy (OverStore asked) status = IsRefused config disk.tells (disk.files old.disk) (number_of status) → LeavesStreams clock.coming old new
  IsUntouchedBy _ status = Unit {0}

  -- A command ended with this status, for its cause. No journal of the disk is open then, and no count fell.
  pub record CarriesOut (asked : Command) (status : Status) (failed : Option R) : Type 0 where
    pub does : Does config disk.tells asked (seen_of source sink disk clock old) (seen_of source sink disk clock new) status
    pub caused : IsCaused file.faults (seen_of source sink disk clock old) (seen_of source sink disk clock new) status failed
    pub none_fell : NoneFell (seen_of source sink disk clock old) (seen_of source sink disk clock new)
    pub alone : LeavesAlone clock.coming old new asked
    pub refused : IsUntouchedBy asked status
    pub serves : IfServes asked (ServesOver status)
    pub unopened : IsTrue disk.tells → IsUnopened (disk.files new.disk) (disk.opened new.disk)

  -- The words' command was carried out, or they are of none and nothing was touched.
  pub data ObeysWords (words : List (List ℕ)) (status : Status) (failed : Option R) : Type 0 where
    carried_out : (asked : Command) → IsCommand words asked → CarriesOut asked status failed → ObeysWords words status failed
    faulty : IsFaulty words → status ≡ Usage → failed ≡ None → new ≡ old → ObeysWords words status failed
