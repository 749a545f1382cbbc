-- What is seen of the outside of a run, and what its counts of faults show.
use Rattle.std.specs.Prelude.{◌≡◌, ◌≤◌, ◌-◌, ◌^◌, ℕ, List, min, Option, None, Some}
use Rattle.edge_io.specs.Stream.{Rose}
use Rattle.edge_io.specs.Moments.{Moments}
use Rattle.edge_io.specs.declared.stream.Source.{Ghosts as OfSource}
use Rattle.edge_io.specs.declared.stream.Sink.{Ghosts as OfSink}
use Rattle.edge_io.specs.declared.clock.Clock.{Ghosts as OfClock}
use Rattle.disk_model.specs.Files.{Name, Files, Rose as DiskRose}
use Rattle.disk_model.specs.Past.{Past}
use Rattle.disk_model.specs.declared.disk.Disk.{Ghosts as OfDisk}
use Rattle.command_words.specs.declared.command.Command.{Command}
use Rattle.command_words.specs.declared.command.Command.TheVariants.{Drill, Extract, OverStore}
use Rattle.command_words.specs.declared.status.Status.{Status}
use Rattle.command_words.specs.declared.status.Status.TheVariants.{SourceFault, SinkFault, DiskFault}

-- The bytes left of the source, those written to the sink, the clock's moments to come; of the disk the files, how far each name was
-- opened, and what a crash might have left; and the counts of failed reads, failed writes and faults of the disk.
pub record Outside : Type 1 where
  pub source : Option (List ℕ)
  pub sink : Option (List ℕ)
  pub clock : Option Moments
  pub files : Files
  pub opened : Name → ℕ
  pub past : Past
  pub read_faults : ℕ
  pub write_faults : ℕ
  pub disk_faults : ℕ

-- by the members of the types of source, sink, clock and disk
abbrev pub outside : {S K C D R : Type 0} → OfSource S → OfSink K → OfClock C → OfDisk D R → S → K → C → D → Outside
outside {S} {K} {C} {D} {R} source sink clock disk s k c d = record {
  source = source.left s;
  sink = sink.written k;
  clock = clock.coming c;
  files = disk.files d;
  opened = disk.opened d;
  past = disk.past d;
  read_faults = source.read_faults s;
  write_faults = sink.write_faults k;
  disk_faults = disk.faults d;
}

-- a count didn't fall, as far as a u64 can show it
abbrev pub HasNotFallen : ℕ → ℕ → Type 0
HasNotFallen before now = min before (2 ^ 64 - 1) ≤ now

-- no count fell
pub record NoneFell (old new : Outside) : Type 0 where
  pub source : old.read_faults ≤ new.read_faults
  pub sink : old.write_faults ≤ new.write_faults
  pub disk : HasNotFallen old.disk_faults new.disk_faults

-- A fault is told only for its cause: that a read of the source, a write to the sink or the disk failed; or that a read of an opened file
-- did, which then is handed out and has counted it.
abbrev pub IsCausedBy : {R : Type 0} → (R → ℕ) → Type 0 → Type 0 → Type 0 → Status → Option R → Type 0
IsCausedBy {R} faults read written disk SourceFault None = read
IsCausedBy {R} faults read written disk SinkFault None = written
IsCausedBy {R} faults read written disk DiskFault None = disk
IsCausedBy {R} faults read written disk DiskFault (Some file) = 1 ≤ faults file
IsCausedBy {R} faults read written disk _ (Some file) = ⊥
IsCausedBy {R} faults read written disk _ None = Unit {0}

-- a count rose for each cause
abbrev pub IsCaused : {R : Type 0} → (R → ℕ) → Outside → Outside → Status → Option R → Type 0
IsCaused {R} faults old new = IsCausedBy faults (Rose old.read_faults new.read_faults) (Rose old.write_faults new.write_faults) (DiskRose old.disk_faults new.disk_faults)

-- No count of what a command uses rose, and no file is handed out.
abbrev pub IsQuiet : {R : Type 0} → Command → Outside → Outside → Option R → Type 0
IsQuiet {R} (Extract query) old new failed = (Rose old.read_faults new.read_faults → ⊥) × (Rose old.write_faults new.write_faults → ⊥)
IsQuiet {R} (Drill drill) old new failed = Rose old.write_faults new.write_faults → ⊥
IsQuiet {R} (OverStore command) old new failed =
    (Rose old.read_faults new.read_faults → ⊥) × (Rose old.write_faults new.write_faults → ⊥) × (DiskRose old.disk_faults new.disk_faults → ⊥) × (failed ≡ None)
