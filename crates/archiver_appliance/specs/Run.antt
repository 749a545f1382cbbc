-- What a run came to, by its words.
use Rattle.std.specs.Prelude.{◌≡◌, ◌⊎◌, ◌<◌, ◌+◌, ℕ, List, Bool, true, IsTrue, Option, IfSome, None, Some, slice_get}
use Rattle.act_model.specs.History.{Entry}
use Rattle.act_model.specs.Machine.{Machine}
use Rattle.disk_model.specs.Files.{Files}
use Rattle.edge_io.specs.Stream.{Rose}
use Rattle.service.specs.declared.posts.Post.{Post}
use Rattle.service.specs.declared.service.AllServed.{AllServed}
use Rattle.disk_model.specs.Past.{Past, Passes}
use Rattle.etl_rules.specs.Config.{ConfigState}
use Rattle.partition_names.specs.declared.granularity.Granularity.{Granularity}
use Rattle.pb_lines.specs.Stream.{Item, Stop, IsWholeStream}
use Rattle.pv_catalog.specs.declared.row.Row.{Row}
use Rattle.pv_catalog.specs.Rows.{HasName}
use Rattle.durable_write.specs.Writing.{LeavesListed}
use Rattle.store_reopen.specs.Reopen.{KeepsSite, SameStores, HoldsEither, OpensEither, OpensRead, StillHolds, stores_of}
use Rattle.store_reopen.specs.Strays.{SweptStores}
use Rattle.tier_store.specs.Change.{IsEither}
use Rattle.tier_store.specs.Stored.{HoldsAll}
use Rattle.tier_store.specs.Stores.{Stores}
use Rattle.store_reopen.specs.Verdict.{IsWhole, Listings}
use Rattle.store_reports.specs.Status.{status_text}
use Rattle.command_words.specs.declared.command.Command.{Command}
use Rattle.command_words.specs.declared.command.Command.TheVariants.{Drill, Extract, OverStore}
use Rattle.command_words.specs.declared.command.StoreCommand.{StoreCommand}
use Rattle.command_words.specs.declared.command.StoreCommand.TheVariants as command
use Rattle.command_words.specs.declared.status.Status.{Status}
use Rattle.command_words.specs.declared.status.Status.TheVariants.{Done, Usage, Refused, NoSuchVariable, SourceFault, SinkFault, DiskFault, Damaged, OutOfMemory, DoorFault, Spent}
use Rattle.command_words.specs.Command.{IsCommand, IsFaulty}
use Rattle.command_words.specs.Complaint.{Complains, complaint_of}
use Rattle.archiver_appliance.specs.Adopting.{AdoptsInPlace, AdoptsInto}
use Rattle.archiver_appliance.specs.Drilling.{Drills}
use Rattle.archiver_appliance.specs.Ingesting.{IngestsInto}
use Rattle.archiver_appliance.specs.Judging.{FindsPart, Judges, IsExact}
use Rattle.archiver_appliance.specs.Moving.{MovesFrom}
use Rattle.archiver_appliance.specs.Outside.{Outside, IsCaused}
use Rattle.archiver_appliance.specs.Reporting.{Tells, TellsListed, ChecksAll}
use Rattle.archiver_appliance.specs.Retrieving.{GetsRead, GetsSome, RetrievesFrom}
use Rattle.archiver_appliance.specs.Serving.{ServesFrom, status_of}
use Rattle.command_words.specs.Status.{number_of}
use Rattle.stream_extract.specs.Text.{Extracts}

-- WITH WHICH STATUS A COMMAND MAY END

abbrev pub IsIngest : StoreCommand → Type 0
IsIngest command.Ingest = Unit {0}
IsIngest _ = ⊥

abbrev pub IsGet : StoreCommand → Type 0
IsGet (command.Get name query) = Unit {0}
IsGet _ = ⊥

abbrev pub IsServe : StoreCommand → Type 0
IsServe (command.Serve numbers) = Unit {0}
IsServe _ = ⊥

abbrev pub IsAdopt : StoreCommand → Type 0
IsAdopt command.Adopt = Unit {0}
IsAdopt _ = ⊥

-- a command that writes a text
abbrev pub IsTelling : StoreCommand → Type 0
IsTelling command.Ingest = ⊥
IsTelling (command.Serve numbers) = ⊥
IsTelling _ = Unit {0}

-- a command that writes what a disk holds
abbrev pub IsReport : StoreCommand → Type 0
IsReport command.Ingest = ⊥
IsReport command.Etl = ⊥
IsReport (command.Serve numbers) = ⊥
IsReport command.Adopt = ⊥
IsReport _ = Unit {0}

-- what an ingest reads is a stream up to this stop, where its bytes are told
abbrev pub IsReadTo : StoreCommand → Option (List ℕ) → Stop → Type 0
IsReadTo command.Ingest source stop = (items : List Item) × IfSome source (λ bytes. IsWholeStream bytes items stop)
IsReadTo _ source stop = Unit {0}

-- An ingest is done at the end of its stream, and refused at its first bad line. The other causes are those of the commands that have them.
abbrev pub EndsAs : StoreCommand → Option (List ℕ) → Status → Type 0
EndsAs asked source Done = IsReadTo asked source None
EndsAs asked source (Refused line fault) = IsIngest asked × IsReadTo asked source (Some (line, fault))
EndsAs asked source Usage = ⊥
EndsAs asked source NoSuchVariable = IsGet asked
EndsAs asked source SourceFault = IsIngest asked
EndsAs asked source SinkFault = IsTelling asked
EndsAs asked source DoorFault = IsServe asked
EndsAs asked source Spent = IsServe asked
EndsAs asked source _ = Unit {0}

-- WHAT IT DOES TO A DISK THAT TELLS ITS FILES

-- no damage is told
abbrev pub NoDamage : Status → Type 0
NoDamage (Damaged name at) = ⊥
NoDamage _ = Unit {0}

-- It only reads: a crash leaves what the disk held, in doubt or not, and no file of a store is changed, at any moment and whatever is in it. Of the
-- site's folder the file `adopt` isn't either, nor any other that is no journal's. Journals keep their batches, also where the image is refused.
pub record OnlyReads (gs : List Granularity) (files later : Files) (old new : Past) : Type 0 where
  pub any_moment : Passes (StillHolds gs) old new
  pub either : (before after : Stores) → OpensEither gs old before after → Passes (λ a b. HoldsEither gs before after b) old new
  pub opens : (before after : Stores) → OpensEither gs old before after → OpensEither gs new before after
  pub elsewhere : SameStores files later
  pub stores : Passes SameStores old new
  pub site : KeepsSite gs files later × Passes (KeepsSite gs) old new

-- It only opens. A crash leaves what the disk held, in doubt or not, or from then on what reads gave alone. Of the files of stores only
-- strays go, at any moment, and none where the image isn't whole.
pub record OnlyOpens (gs : List Granularity) (files later : Files) (old new : Past) : Type 0 where
  pub any_moment : Passes (StillHolds gs) old new
  pub either : (before after : Stores) → OpensEither gs old before after → Passes (λ a b. HoldsEither gs before after b) old new
  pub opens : (before after : Stores) → OpensEither gs old before after → OpensEither gs new before after ⊎ OpensRead gs files new before after
  pub elsewhere : SweptStores gs files files later
  pub stores : Passes (SweptStores gs files) old new

-- the disk failed, memory was wanting or the image isn't whole, before any act: nothing was read but the disk, and nothing done but that it was opened
pub record IsUnasked (gs : List Granularity) (old new : Outside) (status : Status) : Type 0 where
  pub cut : (status ≡ DiskFault) ⊎ (status ≡ OutOfMemory) ⊎ (IsWhole gs old.files → ⊥)
  pub source : new.source ≡ old.source
  pub sink : new.sink ≡ old.sink
  pub clock : new.clock ≡ old.clock
  pub opens : OnlyOpens gs old.files new.files old.past new.past

-- What a command makes of what reads give, whether that stands or not. Those that act open an archive on it, and what a crash left before is what was
-- before a change that stood in doubt, or what is after it. What a service makes of it is said with what it leaves of its posts (IsOfService).
abbrev pub Makes : ConfigState → StoreCommand → Stores → Stores → Stores → Outside → Outside → Status → Type 0
Makes config command.Ingest before after first old new status =
    IsUnasked (stores_of config) old new status ⊎ IngestsInto (HoldsEither (stores_of config) before after) true config first old.source old.clock new.clock old.past new.past status
Makes config (command.Get name query) before after first old new status =
    IsUnasked (stores_of config) old new status ⊎ RetrievesFrom (HoldsEither (stores_of config) before after) true config first name.now query old.sink new.sink old.past new.past status
Makes config command.Etl before after first old new status =
    IsUnasked (stores_of config) old new status ⊎ MovesFrom (HoldsEither (stores_of config) before after) true config first old.clock new.clock old.sink new.sink old.past new.past status
Makes config (command.Serve numbers) before after first old new status =
    IsUnasked (stores_of config) old new status ⊎ ((told : AllServed) × (status ≡ status_of told))
Makes config command.Status before after first old new status = IsTrue first.stands → Tells (status_text first) old.sink new.sink status
Makes config command.Check before after first old new status = Unit {0}
Makes config command.Adopt before after first old new status =
    IsUnasked (stores_of config) old new status ⊎ AdoptsInto (HoldsEither (stores_of config) before after) (stores_of config) old.files first old.past new.past old.sink new.sink status

-- What a command makes of a disk of which a crash leaves what was before a change, or what is after it: what reads give is held from then
-- on. No damage is told of what stands.
pub record MakesOfRead (config : ConfigState) (asked : StoreCommand) (before after : Stores) (old new : Outside) (status : Status) : Type 0 where
  pub first : Stores
  pub either : IsEither before after first
  pub read : HoldsAll (stores_of config) old.files first
  pub makes : Makes config asked before after first old new status
  pub undamaged : IsTrue first.stands → NoDamage status

-- what a service with so many doors made of such a disk, and what it gave by its acts
pub record MakesOfService (config : ConfigState) (doors : ℕ) (Given : Machine → List Entry → Type 0) (before after : Stores) (old new : Outside) (began : Bool) (told : AllServed) : Type 0 where
  pub first : Stores
  pub either : IsEither before after first
  pub read : HoldsAll (stores_of config) old.files first
  pub from : ServesFrom (HoldsEither (stores_of config) before after) true config first doors Given began told old.past new.past

-- so it is where the disk tells its files
abbrev pub IsOfService : ConfigState → Bool → ℕ → (AllServed → Machine → List Entry → Type 0) → Outside → Outside → Bool → AllServed → Type 0
IsOfService config tells doors Given old new began told = IsTrue tells → (before after : Stores) → OpensEither (stores_of config) old.past before after → MakesOfService config doors (Given told) before after old new began told

-- no archive was opened or made for a service
abbrev pub IsUnopenedFor : ConfigState → Bool → Outside → Outside → Type 0
IsUnopenedFor config tells old new = (new.clock ≡ old.clock) × (IsTrue tells → OnlyOpens (stores_of config) old.files new.files old.past new.past)

-- What is written by what the journals of a whole image say, whatever its listed files are. A damage that `etl` meets is in a file that
-- a store lists then.
abbrev pub TellsSaid : List Granularity → StoreCommand → Files → List Row → Listings → Outside → Outside → Status → Type 0
TellsSaid gs command.Status files rows lists old new status = TellsListed rows (lists 0) (lists 1) (lists 2) old.sink new.sink status
TellsSaid gs command.Check files rows lists old new status = ChecksAll rows files (lists 0) (lists 1) (lists 2) old.sink new.sink status
TellsSaid gs (command.Get name query) files rows lists old new status = GetsSome rows name.now query old.sink new.sink status × GetsRead files rows lists name.now query old.sink new.sink status
TellsSaid gs command.Etl files rows lists old new status = FindsPart gs new.files status
TellsSaid gs _ files rows lists old new status = Unit {0}

-- a command that only reads: each but `ingest`, `etl`, `serve` and `adopt`, and these too where the image isn't whole
abbrev pub IsReading : List Granularity → StoreCommand → Files → Type 0
IsReading gs command.Ingest files = IsWhole gs files → ⊥
IsReading gs command.Etl files = IsWhole gs files → ⊥
IsReading gs (command.Serve numbers) files = IsWhole gs files → ⊥
IsReading gs command.Adopt files = IsWhole gs files → ⊥
IsReading gs _ files = Unit {0}

-- a command that takes no file from what a store lists: each but `etl` and `serve`
abbrev pub KeepsFiles : StoreCommand → Type 0
KeepsFiles command.Etl = ⊥
KeepsFiles (command.Serve numbers) = ⊥
KeepsFiles _ = Unit {0}

-- What a command over the archive did: what its status says of the image, what it made of what the disk held, and what it told of the image.
-- The listed files of a whole image, damaged inside or not, have what is listed of them as they had it, at each moment, where no file moves.
-- `adopt` lists files where they stand, and rewrites none.
pub record Serves (config : ConfigState) (asked : StoreCommand) (old new : Outside) (status : Status) : Type 0 where
  pub judges : Judges (stores_of config) asked old.files status
  pub makes : (before after : Stores) → OpensEither (stores_of config) old.past before after → MakesOfRead config asked before after old new status
  pub tells : (whole : IsWhole (stores_of config) old.files) → TellsSaid (stores_of config) asked old.files whole.rows whole.lists old new status
  pub reads : IsReading (stores_of config) asked old.files → OnlyReads (stores_of config) old.files new.files old.past new.past
  pub listed : (whole : IsWhole (stores_of config) old.files) → KeepsFiles asked → (i : ℕ) → i < 3 → LeavesListed ((i + 1, whole.rows), whole.lists i) old.files new.files old.past new.past
  pub rewrites_none : IsAdopt asked → AdoptsInPlace (stores_of config) old new status

-- WHAT A RUN DOES

-- What a command did, so far as its status tells. Of what a disk holds nothing is said where it doesn't tell its files.
abbrev pub Does : ConfigState → Bool → Command → Outside → Outside → Status → Type 0
Does config tells (Extract query) old new status = Extracts query old.source old.sink new.sink status
Does config tells (Drill drill) old new status = Drills drill.hours old.sink new.sink status
Does config tells (OverStore asked) old new status = EndsAs asked old.source status × (IsTrue tells → Serves config asked old new status × IsExact (stores_of config) asked old.files status)

-- The words were obeyed, or they are of no command.
abbrev pub Obeys : List (List ℕ) → ConfigState → Bool → Outside → Outside → Status → Type 0
Obeys words config tells old new status = ((asked : Command) × IsCommand words asked × Does config tells asked old new status) ⊎ ((status ≡ Usage) × IsFaulty words)

-- A run ended with this number: it obeyed the words with a status of that number and its cause, and told its complaint.
pub record Ran {R : Type 0} (faults : R → ℕ) (words : List (List ℕ)) (config : ConfigState) (tells : Bool) (old new : Outside) (failed : Option R) (told told' : Option (List ℕ)) (before now number : ℕ) : Type 0 where
  pub status : Status
  pub is : number ≡ number_of status
  pub obeys : Obeys words config tells old new status
  pub caused : IsCaused faults old new status failed
  pub complaint : Complains told told' before now (complaint_of status)

-- A command over the archive is refused: no row has the name, the disk keeps another granularity, or tells that its image isn't whole.
abbrev pub IsRefused : ConfigState → Bool → Files → ℕ → Type 0
IsRefused config tells files number = (number ≡ 4) ⊎ (number ≡ 12) ⊎ (IsTrue tells × (IsWhole (stores_of config) files → ⊥))

-- WHAT CAN BE DONE

-- the source's bytes are told, and have no bad line
abbrev pub IsGoodSource : Option (List ℕ) → Type 0
IsGoodSource None = ⊥
IsGoodSource (Some bytes) = (items : List Item) × IsWholeStream bytes items None

-- what a command over the archive needs to be done of what the disk holds: input without a bad line, or a row of the name
abbrev pub IsServable : StoreCommand → Option (List ℕ) → Stores → Type 0
IsServable command.Ingest source first = IsGoodSource source
IsServable (command.Get name query) source first = (i : ℕ) × HasName first.rows i name.now
IsServable _ source first = Unit {0}

-- the disk tells its files, a crash leaves what was before a change or what is after it, which stand, and the command can be done over both
pub record IsServed (config : ConfigState) (tells : Bool) (asked : StoreCommand) (old : Outside) : Type 0 where
  pub told : IsTrue tells
  pub before : Stores
  pub after : Stores
  pub opens : OpensEither (stores_of config) old.past before after
  pub stands : IsTrue before.stands
  pub can : IsServable asked old.source before × IsServable asked old.source after

-- what a command needs to be done
abbrev pub CanBeDone : ConfigState → Bool → Command → Outside → Type 0
CanBeDone config tells (Extract query) old = IsGoodSource old.source
CanBeDone config tells (Drill drill) old = Unit {0}
CanBeDone config tells (OverStore asked) old = IsServed config tells asked old

-- it was done, or memory was wanting
abbrev pub EndsWell : ℕ → Type 0
EndsWell number = (number ≡ 0) ⊎ (number ≡ 9)

-- so a command ends, or a service or a drill that had no act left, which no count tells
abbrev pub EndsWellBy : Command → ℕ → Type 0
EndsWellBy (Drill drill) number = (number ≡ 13) ⊎ EndsWell number
EndsWellBy (OverStore (command.Serve numbers)) number = (number ≡ 13) ⊎ EndsWell number
EndsWellBy _ number = EndsWell number

-- No door of a service failed.
abbrev pub AreDoorsQuiet : {D : Type 0} → (D → ℕ) → Command → List (Post D) → List (Post D) → Type 0
AreDoorsQuiet {D} faults (OverStore (command.Serve numbers)) olds news = (i : ℕ) (old new : Post D) → slice_get olds i ≡ Some old → slice_get news i ≡ Some new → Rose (faults old.door) (faults new.door) → ⊥
AreDoorsQuiet {D} faults _ olds news = Unit {0}
