-- What `adopt` makes of what a disk holds, and what it writes.
use Rattle.std.specs.Prelude.{◌≡◌, ◌⊎◌, ℕ, Bool, true, List, ◌++◌, Option, IsTrue, codes, decimal}
use Rattle.std.specs.Io.KnownBytes.{Appends}
use Rattle.edge_io.specs.Moments.{Moments}
use Rattle.edge_io.specs.Stream.{AppendsFront}
use Rattle.edge_io.specs.declared.stream.Sink.{Ghosts as OfSink}
use Rattle.disk_model.specs.Files.{Files}
use Rattle.disk_model.specs.Past.{Past, MayLeave, Passes}
use Rattle.disk_model.specs.declared.disk.Disk.{Ghosts as OfDisk}
use Rattle.partition_names.specs.declared.granularity.Granularity.{Granularity}
use Rattle.series_model.specs.Archive.{IsPrefix}
use Rattle.tier_store.specs.Stores.{Stores, samples_in}
use Rattle.tier_store.specs.Stored.{HoldsAll}
use Rattle.store_reopen.specs.Adoption.{IsAdoption, Counts, IsMarkedOf, NoneFoundOpened, OpensStage}
use Rattle.store_reopen.specs.Reopen.{OnlySite, OpensEither, SameStores}
use Rattle.store_reopen.specs.Strays.{IsGone, adoption_name}
use Rattle.store_reopen.specs.Steps.{Step, made_by, stage}
use Rattle.store_reopen.specs.declared.adopted.Adopted.{Adopted}
use Rattle.store_reopen.specs.declared.adopted.AdoptErr.{AdoptErr}
use Rattle.store_reopen.specs.declared.adopted.AdoptErr.TheVariants as adopting
use Rattle.command_words.specs.declared.status.Status.{Status}
use Rattle.command_words.specs.declared.status.Status.TheVariants.{Done as IsDone, SinkFault, DiskFault, OutOfMemory}
use Rattle.archiver_appliance.specs.Judging.{refusal_of}
use Rattle.archiver_appliance.specs.Outside.{Outside}

-- the status of an adoption that isn't done
abbrev pub stop_of : {D R : Type 0} → AdoptErr D R → Status
stop_of {D} {R} (adopting.Reopen err) = refusal_of err

-- a line with five numbers
abbrev pub line_of : (files samples rows skipped cut : List ℕ) → List ℕ
line_of files samples rows skipped cut = codes "adopted " ++ (files ++ (codes " " ++ (samples ++ (codes " " ++ (rows ++ (codes " skipped " ++ (skipped ++ (codes " cut " ++ (cut ++ codes "\n")))))))))

abbrev pub adopted_text : Adopted → List ℕ
adopted_text told = line_of (decimal told.files) (decimal told.samples) (decimal told.rows) (decimal told.skipped) (decimal told.cut)

-- The image holds what was held at first, with a front of the steps made, and stands where that did. Of each row it has no less than was held at first,
-- and no more than all steps leave.
pub record HoldsFront (gs : List Granularity) (held : Stores) (steps : List Step) (image : Files) : Type 0 where
  pub made : ℕ
  pub holds : HoldsAll gs image (stage steps held made)
  pub stands : IsTrue held.stands → IsTrue (stage steps held made).stands
  pub extends : (row : ℕ) → IsPrefix (samples_in row held) (samples_in row (stage steps held made))
  pub extended : (row : ℕ) → IsPrefix (samples_in row (stage steps held made)) (samples_in row (made_by steps held))

-- The steps are all that the rule asks for, whatever a crash now may leave has them made, and these are their numbers, which are written, or a front
-- of the line where the sink failed.
pub record TellsAdopted (gs : List Granularity) (image : Files) (held : Stores) (steps : List Step) (new : Past) (a b : Option (List ℕ)) (status : Status) : Type 0 where
  pub whole : IsAdoption true gs image held steps
  pub told : Adopted
  pub counts : Counts image held steps whole.unlisted told
  pub all : (later : Files) → MayLeave new later → HoldsAll gs later (made_by steps held)
  pub line : ((status ≡ IsDone) × Appends a b (adopted_text told)) ⊎ ((status ≡ SinkFault) × AppendsFront a b (adopted_text told))

-- Steps by the rule were made of what is held: at each moment a crash left what `Before` says, as of an opening, or that with a front of them made;
-- and the disk can be opened again. At 0 and 6 these are all that the rule asks for, and all are made. At 7 and 9 nothing is written.
pub record AdoptsInto (Before : Files → Type 0) (gs : List Granularity) (image : Files) (held : Stores) (old new : Past) (a b : Option (List ℕ)) (status : Status) : Type 0 where
  pub steps : List Step
  pub rule : (whole : Bool) × IsAdoption whole gs image held steps
  pub any_moment : Passes (λ x y. Before y ⊎ HoldsFront gs held steps y) old new
  pub leaves : OpensStage gs steps held new
  pub tells_adopted : TellsAdopted gs image held steps new a b status ⊎ ((b ≡ a) × ((status ≡ DiskFault) ⊎ (status ≡ OutOfMemory)))

-- the five numbers, or a front of their line
abbrev pub IsWritten : Status → Type 0
IsWritten status = (status ≡ IsDone) ⊎ (status ≡ SinkFault)

-- What `adopt` does whatever the listed files are, damaged inside or not. It works in place: no file of a store is changed, listed or not, and of the
-- site's folder none but those of journals and the file `adopt`. While that is there it isn't finished: an image without it holds what was held at
-- first, where none had it then, or all that the rule makes. At 0 and 6 it is gone for good, and else nothing is written. Files that aren't listed
-- weren't opened.
pub record AdoptsInPlace (gs : List Granularity) (old new : Outside) (status : Status) : Type 0 where
  pub elsewhere : SameStores old.files new.files
  pub stores : Passes SameStores old.past new.past
  pub site : OnlySite old.files new.files × Passes OnlySite old.past new.past
  pub marked : (before after : Stores) → OpensEither gs old.past before after → Passes (IsMarkedOf gs old.files before after) old.past new.past
  pub finished : IsWritten status → IsGone new.files new.past adoption_name
  pub quiet : (IsWritten status → ⊥) → new.sink ≡ old.sink
  pub found : NoneFoundOpened gs new.files new.opened

-- What is seen of a sink and a disk, beside a source and a clock that nothing is asked of.
abbrev pub beside : {K D R : Type 0} → Option (List ℕ) → Option Moments → ℕ → OfSink K → OfDisk D R → K → D → Outside
beside {K} {D} {R} source clock reads sink disk k d = record {
  source = source;
  sink = sink.written k;
  clock = clock;
  files = disk.files d;
  opened = disk.opened d;
  past = disk.past d;
  read_faults = reads;
  write_faults = sink.write_faults k;
  disk_faults = disk.faults d;
}
