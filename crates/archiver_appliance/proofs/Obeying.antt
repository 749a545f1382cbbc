-- What follows from how words were obeyed, and how a command comes to be carried out.
use Rattle.std.proofs.Common.{◌≡◌, ◌≤◌, inl, inr, ℕ, List, Option, Some, None, refl, sym, subst, arith}
use Rattle.std.specs.Prelude.{IsTrue}
use Rattle.edge_io.specs.Moments.{Moments}
use Rattle.edge_io.specs.Stream.{Rose as StreamRose}
use Rattle.edge_io.specs.declared.link.Door.{Ghosts as OfDoor}
use Rattle.edge_io.specs.declared.stream.Source.{Ghosts as OfSource}
use Rattle.edge_io.specs.declared.stream.Sink.{Ghosts as OfSink}
use Rattle.edge_io.specs.declared.clock.Clock.{Ghosts as OfClock}
use Rattle.disk_model.specs.Files.{Rose}
use Rattle.disk_model.specs.declared.disk.Disk.{Ghosts as OfDisk}
use Rattle.disk_model.specs.declared.disk.ReadAt.{Ghosts as OfFile}
use Rattle.etl_rules.specs.Config.{ConfigState}
use Rattle.series_model.specs.declared.sample.Query.{Query}
use Rattle.stream_extract.specs.Text.{Extracts}
use Rattle.archiver_appliance.specs.Drilling.{Drills}
use Rattle.store_reopen.specs.Reopen.{IsUnopened, disk_in}
use Rattle.store_reopen.specs.declared.error.ReopenErr.{ReopenErr}
use Rattle.store_reopen.specs.declared.error.ReopenErr.TheVariants as reopening
use Rattle.service.specs.declared.posts.Post.{Post}
use Rattle.command_words.specs.declared.command.Command.{Command}
use Rattle.command_words.specs.declared.command.Command.TheVariants.{Drill, Extract, OverStore}
use Rattle.command_words.specs.declared.command.StoreCommand.{StoreCommand}
use Rattle.command_words.specs.declared.command.StoreCommand.TheVariants as command
use Rattle.command_words.specs.declared.service_words.ServeWords.{ServeWords}
use Rattle.command_words.specs.declared.status.Status.{Status}
use Rattle.command_words.specs.declared.status.Status.TheVariants.{Usage, SourceFault, SinkFault, DiskFault}
use Rattle.command_words.specs.Command.{IsCommand, IsFaulty}
use Rattle.command_words.specs.Status.{number_of}
use Rattle.command_words.proofs.Words.{drill_alone, not_both, same_letter, serve_same}
use Rattle.archiver_appliance.specs.Judging.{refusal_of}
use Rattle.archiver_appliance.specs.Obeying.{CarriesOut, ObeysWords, IfServes, ServesOver, IsUntouchedBy, seen_of, carried_out, faulty}
use Rattle.archiver_appliance.specs.Outside.{Outside, HasNotFallen, IsCaused, IsCausedBy, NoneFell}
use Rattle.archiver_appliance.specs.Run.{Does, Obeys, IsRefused}
use Rattle.archiver_appliance.specs.World.{World, world, LeavesAlone, LeavesStreams, TouchesOnly}
use Rattle.archiver_appliance.proofs.Completeness.{two_is}
use Rattle.archiver_appliance.proofs.Services.{gives_nothing}

-- COUNTS

pub same_count : (n : ℕ) → n ≤ n
same_count n = omega arith

pub no_less : (a b : ℕ) → a ≤ b → HasNotFallen a b
no_less a b least = omega arith

pub at_most : (a b c : ℕ) → a ≤ b → b ≤ c → a ≤ c
at_most a b c first second = omega arith

-- WHAT FOLLOWS

-- words ask for one command: what that leaves alone, each that they ask for does
alone_same : {S K D C W : Type 0} (coming : C → Option Moments) (old new : World S K D C W) (words : List (List ℕ)) (a b : Command) → IsCommand words a → IsCommand words b → LeavesAlone coming old new a → LeavesAlone coming old new b
alone_same coming old new words (Extract q) (Extract r) one two h = h
alone_same coming old new words (Extract q) (OverStore b) one two h = absurd (not_both words q b one two)
alone_same coming old new words (OverStore a) (Extract r) one two h = absurd (not_both words r a two one)
alone_same coming old new words (Drill d) (Drill e) one two h = h
alone_same coming old new words a (Drill e) one two h = let same = drill_alone words a e one two in subst (λ (x : Command). LeavesAlone coming old new x) same.1 h
alone_same coming old new words (Drill d) b one two h = let same = drill_alone words b d two one in subst (λ (x : Command). LeavesAlone coming old new x) (sym same.1) h
alone_same coming old new words (OverStore command.Ingest) (OverStore command.Ingest) one two h = h
alone_same coming old new words (OverStore (command.Get n q)) (OverStore (command.Get m r)) one two h = h
alone_same coming old new words (OverStore command.Etl) (OverStore command.Etl) one two h = h
alone_same coming old new words (OverStore command.Status) (OverStore command.Status) one two h = h
alone_same coming old new words (OverStore command.Check) (OverStore command.Check) one two h = h
alone_same coming old new words (OverStore (command.Serve m)) (OverStore (command.Serve n)) one two h = h
alone_same coming old new words (OverStore command.Adopt) (OverStore command.Adopt) one two h = h
alone_same coming old new words (OverStore a) (OverStore b) one two h = absurd (omega (arith, same_letter words (OverStore a) (OverStore b) one two))

module _ {S K D C W R L : Type 0} (source : OfSource S) (sink : OfSink K) (disk : OfDisk D R) (clock : OfClock C) (file : OfFile R) (link_source : OfSource L) (link_sink : OfSink L) (door : OfDoor W L)
    (config : ConfigState) (old new : World S K D C W) (words : List (List ℕ)) (status : Status) (failed : Option R) where
  abbrev OfWords : Type 0
  OfWords = ObeysWords source sink disk clock file link_source link_sink door config old new words status failed

  abbrev Untouched : Command → Type 0
  Untouched a = IsUntouchedBy source sink disk clock file link_source link_sink door config old new a status

  abbrev Serves : Type 0
  Serves = ServesOver source sink disk clock file link_source link_sink door config old new status

  abbrev seen : World S K D C W → Outside
  seen = seen_of source sink disk clock

  never_usage : (asked : Command) → Does config disk.tells asked (seen old) (seen new) Usage → ⊥
  never_usage (Extract query) does = does
  never_usage (Drill drill) does = does
  never_usage (OverStore asked) does = does.0

  pub usage_faulty : OfWords → status ≡ Usage → IsFaulty words × (new ≡ old)
  usage_faulty (carried_out asked is carries) usage = absurd (never_usage asked (subst (λ (s : Status). Does config disk.tells asked (seen old) (seen new) s) usage carries.does))
  usage_faulty (faulty none usage no_file same) is = (none, same)

  pub obeys : OfWords → Obeys words config disk.tells (seen old) (seen new) status
  obeys (carried_out asked is carries) = inl (asked, is, carries.does)
  obeys (faulty none usage no_file same) = inr (usage, none)

  pub caused : OfWords → IsCaused file.faults (seen old) (seen new) status failed
  caused (carried_out asked is carries) = carries.caused
  caused (faulty none usage no_file same) =
      subst (λ (f : Option R). IsCaused file.faults (seen old) (seen new) status f) (sym no_file) (subst (λ (s : Status). IsCaused file.faults (seen old) (seen new) s None) (sym usage) tt)

  pub none_fell : OfWords → NoneFell (seen old) (seen new)
  none_fell (carried_out asked is carries) = carries.none_fell
  none_fell (faulty none usage no_file same) = subst (λ (w : World S K D C W). NoneFell (seen old) (seen w)) (sym same) (record { source = same_count _; sink = same_count _; disk = no_less _ _ (same_count _) })

  pub unopened_still : (IsTrue disk.tells → IsUnopened (disk.files old.disk) (disk.opened old.disk)) → OfWords → IsTrue disk.tells → IsUnopened (disk.files new.disk) (disk.opened new.disk)
  unopened_still first (carried_out asked is carries) told = carries.unopened told
  unopened_still first (faulty none usage no_file same) told = subst (λ (w : World S K D C W). IsUnopened (disk.files w.disk) (disk.opened w.disk)) (sym same) (first told)

  alone : OfWords → (asked : Command) → IsCommand words asked → LeavesAlone clock.coming old new asked
  alone (carried_out asked is carries) other asks = alone_same clock.coming old new words asked other is asks carries.alone
  alone (faulty none usage no_file same) other asks = absurd (none other asks)

  untouched_by : (a : Command) (asked : StoreCommand) → IsCommand words a → IsCommand words (OverStore asked) → Untouched a
      → IsRefused config disk.tells (disk.files old.disk) (number_of status) → LeavesStreams clock.coming old new
  untouched_by (OverStore c) asked one two untouched is = untouched is
  untouched_by (Extract q) asked one two untouched is = absurd (not_both words q asked one two)
  untouched_by (Drill d) asked one two untouched is = let same = drill_alone words (OverStore asked) d two one in absurd (cc (same.1))

  untouched : OfWords → (asked : StoreCommand) → IsCommand words (OverStore asked) → IsRefused config disk.tells (disk.files old.disk) (number_of status) → LeavesStreams clock.coming old new
  untouched (carried_out a is carries) asked asks refused = untouched_by a asked is asks carries.refused refused
  untouched (faulty none usage no_file same) asked asks refused = absurd (none (OverStore asked) asks)

  pub touches : OfWords → TouchesOnly clock.coming old new words config disk.tells (disk.files old.disk) (number_of status)
  touches o = record { usage = λ two. (usage_faulty o (two_is status two)).1; alone = alone o; refused = untouched o }

  serves_by : (a : Command) (numbers : ServeWords) → IsCommand words a → IsCommand words (OverStore (command.Serve numbers)) → IfServes a Serves → Serves
  serves_by (OverStore c) numbers one two serves =
      let same = serve_same words c numbers one two in
      subst (λ (x : StoreCommand). IfServes (OverStore x) Serves) same.1 serves
  serves_by (Extract q) numbers one two serves = absurd (not_both words q (command.Serve numbers) one two)
  serves_by (Drill d) numbers one two serves = let same = drill_alone words (OverStore (command.Serve numbers)) d two one in absurd (cc (same.1))

  pub serves : OfWords → (numbers : ServeWords) → IsCommand words (OverStore (command.Serve numbers)) → Serves
  serves (carried_out asked is carries) numbers asks = serves_by asked numbers is asks carries.serves
  serves (faulty none usage no_file same) numbers asks = absurd (none (OverStore (command.Serve numbers)) asks)

-- HOW A COMMAND COMES TO BE CARRIED OUT

pub if_serves : {P : Type 0} (asked : StoreCommand) → P → IfServes (OverStore asked) P
if_serves (command.Serve numbers) serves = serves
if_serves asked serves = tt

pub as_asked : {S K D C W R L : Type 0} {source : OfSource S} {sink : OfSink K} {disk : OfDisk D R} {clock : OfClock C} {file : OfFile R} {link_source : OfSource L} {link_sink : OfSink L} {door : OfDoor W L} {config : ConfigState} {old new : World S K D C W} {status : Status} {failed : Option R}
    {a b : StoreCommand} → a ≡ b → CarriesOut source sink disk clock file link_source link_sink door config old new (OverStore b) status failed → CarriesOut source sink disk clock file link_source link_sink door config old new (OverStore a) status failed
as_asked {S} {K} {D} {C} {W} {R} {L} {source} {sink} {disk} {clock} {file} {link_source} {link_sink} {door} {config} {old} {new} {status} {failed} {a} {b} is carries =
    subst (λ (x : StoreCommand). CarriesOut source sink disk clock file link_source link_sink door config old new (OverStore x) status failed) (sym is) carries

rose_since : (first opened now : ℕ) → first ≤ opened → Rose opened now → Rose first now
rose_since first opened now opens rose = omega arith

-- a cause that is told from the opening on is one still where more are told, and from before the opening on
pub caused_since : {R : Type 0} (faults : R → ℕ) (read written : Type 0) (old new : Outside) (opened : ℕ) (status : Status) (failed : Option R) → old.disk_faults ≤ opened → (read → StreamRose old.read_faults new.read_faults) → (written → StreamRose old.write_faults new.write_faults)
    → IsCausedBy faults read written (Rose opened new.disk_faults) status failed → IsCaused faults old new status failed
caused_since faults read written old new opened SourceFault None opens five six caused = five caused
caused_since faults read written old new opened SinkFault None opens five six caused = six caused
caused_since faults read written old new opened DiskFault None opens five six caused = rose_since old.disk_faults opened new.disk_faults opens caused
caused_since faults read written old new opened DiskFault (Some file) opens five six caused = caused
caused_since faults read written old new opened status (Some file) opens five six caused = caused
caused_since faults read written old new opened status None opens five six caused = tt

pub fallen_since : (first opened now : ℕ) → first ≤ opened → HasNotFallen opened now → HasNotFallen first now
fallen_since first opened now opens not = omega arith

-- a disk that isn't opened is told as one that failed where it did
pub refusal_caused : {D R F : Type 0} (faults : F → ℕ) (count : D → ℕ) (first : ℕ) (read written : Type 0) (err : ReopenErr D R) → ((d : D) → err ≡ reopening.DiskFault d → Rose first (count d)) → IsCausedBy faults read written (Rose first (count (disk_in err))) (refusal_of err) None
refusal_caused faults count first read written (reopening.DiskFault d) rose = rose d refl
refusal_caused faults count first read written (reopening.Damaged d name at) rose = tt
refusal_caused faults count first read written (reopening.GranularityDiffers d kept asked) rose = tt
refusal_caused faults count first read written (reopening.Memory d) rose = tt

pub extract_caused : {R : Type 0} (faults : R → ℕ) (read written fault : Type 0) (q : Query) (source a b : Option (List ℕ)) (status : Status) → Extracts q source a b status → (status ≡ SourceFault → read) → (status ≡ SinkFault → written) → IsCausedBy faults read written fault status None
extract_caused faults read written fault q source a b SourceFault e five six = five refl
extract_caused faults read written fault q source a b SinkFault e five six = six refl
extract_caused faults read written fault q source a b DiskFault e five six = absurd e
extract_caused faults read written fault q source a b status e five six = tt

pub drill_caused : {R : Type 0} (faults : R → ℕ) (read written fault : Type 0) (hours : ℕ) (a b : Option (List ℕ)) (status : Status) → Drills hours a b status → (status ≡ SinkFault → written) → IsCausedBy faults read written fault status None
drill_caused faults read written fault hours a b SourceFault d six = absurd d
drill_caused faults read written fault hours a b SinkFault d six = six refl
drill_caused faults read written fault hours a b DiskFault d six = absurd d
drill_caused faults read written fault hours a b status d six = tt

-- WHERE NOTHING BUT THE DISK IS TOUCHED

pub alone_all : {S K D C W : Type 0} (coming : C → Option Moments) (s : S) (k : K) (d d' : D) (c : C) (posts : List (Post W)) (asked : StoreCommand) → LeavesAlone coming (world s k d c posts) (world s k d' c posts) (OverStore asked)
alone_all coming s k d d' c posts command.Ingest = (refl, refl)
alone_all coming s k d d' c posts (command.Get name query) = (refl, refl, refl)
alone_all coming s k d d' c posts command.Etl = (refl, refl)
alone_all coming s k d d' c posts command.Status = (refl, refl, refl)
alone_all coming s k d d' c posts command.Check = (refl, refl, refl)
alone_all coming s k d d' c posts (command.Serve numbers) = (refl, refl, gives_nothing (coming c))
alone_all coming s k d d' c posts command.Adopt = (refl, refl, refl)

-- the same of a disk, a status and a file that these are equal to
module _ {S K D C W R L : Type 0} (source : OfSource S) (sink : OfSink K) (disk : OfDisk D R) (clock : OfClock C) (file : OfFile R) (link_source : OfSource L) (link_sink : OfSink L) (door : OfDoor W L)
    (config : ConfigState) (old : World S K D C W) (s : S) (k : K) (c : C) (posts : List (Post W)) (asked : Command) where
  abbrev CarriesTo : D → Status → Option R → Type 0
  CarriesTo d status failed = CarriesOut source sink disk clock file link_source link_sink door config old (world s k d c posts) asked status failed

  pub as_came : {given d : D} {status s' : Status} {failed f : Option R} → given ≡ d → status ≡ s' → failed ≡ f → CarriesTo d s' f → CarriesTo given status failed
  as_came {given} {d} {status} {s'} {failed} {f} same is kept carries =
      subst (λ (x : D). CarriesTo x status failed) (sym same) (subst (λ (x : Status). CarriesTo d x failed) (sym is) (subst (λ (x : Option R). CarriesTo d s' x) (sym kept) carries))
