-- What a command did where its disk wasn't opened, or memory was wanting for an archive.
use Rattle.std.proofs.Common.{◌≡◌, ◌⊎◌, inl, inr, ℕ, Bool, true, List, [], length, Option, None, refl, sym, subst, arith}
use Rattle.std.specs.Prelude.{IsTrue}
use Rattle.std.proofs.KnownBytes.{Appends-nil}
use Rattle.std.proofs.lemmas.List.Elements.{All-nil}
use Rattle.edge_io.specs.Stream.{AppendsFront}
use Rattle.disk_model.specs.Files.{Name, Files}
use Rattle.disk_model.specs.Past.{MayLeave}
use Rattle.etl_rules.specs.Config.{ConfigState}
use Rattle.partition_names.specs.declared.granularity.Granularity.{Granularity}
use Rattle.pins.specs.declared.choosing.Listed.{Listed}
use Rattle.pv_catalog.specs.declared.row.Row.{Row}
use Rattle.store_manifest.specs.declared.entry.Entry.{Entry}
use Rattle.tier_store.specs.Stored.{HoldsAll}
use Rattle.tier_store.specs.Stores.{Stores}
use Rattle.store_reopen.specs.Reopen.{OpensEither, stores_of}
use Rattle.store_reopen.specs.Verdict.{IsWhole, IsDamaged, Differs, Listings}
use Rattle.store_reopen.specs.declared.error.ReopenErr.{ReopenErr}
use Rattle.store_reopen.specs.declared.error.ReopenErr.TheVariants as reopening
use Rattle.store_reopen.proofs.Verdicts.{held_whole}
use Rattle.store_reports.specs.Check.{InspectsSome, IsFound}
use Rattle.store_reports.specs.Status.{status_text}
use Rattle.command_words.specs.declared.command.StoreCommand.{StoreCommand}
use Rattle.command_words.specs.declared.command.StoreCommand.TheVariants as command
use Rattle.command_words.specs.declared.status.Status.{Status}
use Rattle.command_words.specs.declared.status.Status.TheVariants.{DiskFault, OutOfMemory}
use Rattle.command_words.specs.declared.command.Command.TheVariants.{OverStore}
use Rattle.archiver_appliance.specs.Judging.{refusal_of}
use Rattle.archiver_appliance.specs.Outside.{Outside}
use Rattle.archiver_appliance.specs.Reporting.{Tells, TellsRows, listed_files}
use Rattle.archiver_appliance.specs.Run.{Does, IsAdopt, IsReading, IsUnasked, Makes, MakesOfRead, NoDamage, OnlyOpens, OnlyReads, Serves, TellsSaid}
use Rattle.archiver_appliance.proofs.Judgements.{OneVerdict, exactly, refusal_judges}
use Rattle.archiver_appliance.proofs.Opening.{read_of, opens_listed}
use Rattle.archiver_appliance.proofs.Outcomes.{refused_ends}

front_none : (a b : Option (List ℕ)) (text : List ℕ) → b ≡ a → AppendsFront a b text
front_none a b text is = subst (λ (o : Option (List ℕ)). AppendsFront a o text) (sym is) (0, omega arith, Appends-nil a)

none_inspected : (rows : List Row) (files : Files) (listed : List Listed) (a b : Option (List ℕ)) → b ≡ a → InspectsSome true rows files listed (AppendsFront a b)
none_inspected rows files listed a b is = record { done = []; rest = listed; split = refl; first = None; inspects = record { inspected = []; are = refl; found = All-nil (IsFound true rows files); damage = refl; lines = front_none a b [] is } }

none_told : (rows : List Row) (short medium long : List Entry) (a b : Option (List ℕ)) → b ≡ a → TellsRows rows short medium long 0 (AppendsFront a b)
none_told rows short medium long a b is = record { lines = []; many = refl; are = tt; text = front_none a b [] is }

-- The reasons for a refusal, of an image that is whole: none but a fault of the disk and want of memory.
module _ {D R : Type 0} (verdict : OneVerdict) (gs : List Granularity) (files : Files) (err : ReopenErr D R) (damaged : (d : D) (name : Name) (at : ℕ) → err ≡ reopening.Damaged d name at → IsDamaged gs files name at)
    (differs : (d : D) (kept other : Granularity) → err ≡ reopening.GranularityDiffers d kept other → Differs gs files kept other) where
  by_case : (P : ReopenErr D R → Type 0) → IsWhole gs files → ((d : D) → P (reopening.DiskFault d)) → ((d : D) → P (reopening.Memory d)) → (e : ReopenErr D R) → err ≡ e → P e
  by_case P whole fault memory (reopening.DiskFault d) is = fault d
  by_case P whole fault memory (reopening.Damaged d name at) is = absurd (verdict.whole gs files name at whole (damaged d name at is))
  by_case P whole fault memory (reopening.GranularityDiffers d kept other) is = absurd (verdict.same gs files kept other whole (differs d kept other is))
  by_case P whole fault memory (reopening.Memory d) is = memory d

  cuts_by : (e : ReopenErr D R) → err ≡ e → (refusal_of e ≡ DiskFault) ⊎ (refusal_of e ≡ OutOfMemory) ⊎ (IsWhole gs files → ⊥)
  cuts_by (reopening.DiskFault d) is = inl refl
  cuts_by (reopening.Damaged d name at) is = inr (inr (λ whole. verdict.whole gs files name at whole (damaged d name at is)))
  cuts_by (reopening.GranularityDiffers d kept other) is = inr (inr (λ whole. verdict.same gs files kept other whole (differs d kept other is)))
  cuts_by (reopening.Memory d) is = inr (inl refl)

  -- whatever the image is
  pub refusal_cuts : (refusal_of err ≡ DiskFault) ⊎ (refusal_of err ≡ OutOfMemory) ⊎ (IsWhole gs files → ⊥)
  refusal_cuts = cuts_by err refl

  refusal_cases : (P : ReopenErr D R → Type 0) → IsWhole gs files → ((d : D) → P (reopening.DiskFault d)) → ((d : D) → P (reopening.Memory d)) → P err
  refusal_cases P whole fault memory = by_case P whole fault memory err refl

  -- of what stands no damage is told
  pub refusal_undamaged : length gs ≡ 3 → (held : Stores) → HoldsAll gs files held → IsTrue held.stands → NoDamage (refusal_of err)
  refusal_undamaged three held read stands = refusal_cases (λ e. NoDamage (refusal_of e)) (held_whole gs files held three read stands) (λ d. tt) (λ d. tt)

-- A disk that failed, wanting memory or an image that isn't whole, before anything but the disk was read, and before anything was written.
module _ (config : ConfigState) (old new : Outside) (source : new.source ≡ old.source) (sink : new.sink ≡ old.sink) (clock : new.clock ≡ old.clock) (opens : OnlyOpens (stores_of config) old.files new.files old.past new.past) where
  module _ (status : Status) where
    pub unasked : (status ≡ DiskFault) ⊎ (status ≡ OutOfMemory) ⊎ (IsWhole (stores_of config) old.files → ⊥) → IsUnasked (stores_of config) old new status
    unasked cut = record { cut = cut; source = source; sink = sink; clock = clock; opens = opens }

    tells_front : (text : List ℕ) → (status ≡ DiskFault) ⊎ (status ≡ OutOfMemory) ⊎ (IsWhole (stores_of config) old.files → ⊥) → IsWhole (stores_of config) old.files → Tells text old.sink new.sink status
    tells_front text (inl is) whole = subst (Tells text old.sink new.sink) (sym is) (front_none old.sink new.sink text sink)
    tells_front text (inr (inl is)) whole = subst (Tells text old.sink new.sink) (sym is) (front_none old.sink new.sink text sink)
    tells_front text (inr (inr none)) whole = absurd (none whole)

    makes_nothing : (asked : StoreCommand) (before after first : Stores) → HoldsAll (stores_of config) old.files first → (status ≡ DiskFault) ⊎ (status ≡ OutOfMemory) ⊎ (IsWhole (stores_of config) old.files → ⊥) → Makes config asked before after first old new status
    makes_nothing command.Ingest before after first read cut = inl (unasked cut)
    makes_nothing (command.Get name query) before after first read cut = inl (unasked cut)
    makes_nothing command.Etl before after first read cut = inl (unasked cut)
    makes_nothing (command.Serve numbers) before after first read cut = inl (unasked cut)
    makes_nothing command.Status before after first read cut = λ stands. tells_front (status_text first) cut (held_whole (stores_of config) old.files first refl read stands)
    makes_nothing command.Check before after first read cut = tt
    makes_nothing command.Adopt before after first read cut = inl (unasked cut)

  pub tells_nothing : (asked : StoreCommand) (rows : List Row) (lists : Listings) → TellsSaid (stores_of config) asked old.files rows lists old new DiskFault × TellsSaid (stores_of config) asked old.files rows lists old new OutOfMemory
  tells_nothing command.Status rows lists = ((0, none_told rows (lists 0) (lists 1) (lists 2) old.sink new.sink sink), (0, none_told rows (lists 0) (lists 1) (lists 2) old.sink new.sink sink))
  tells_nothing command.Check rows lists = (none_inspected rows old.files (listed_files (lists 0) (lists 1) (lists 2)) old.sink new.sink sink, none_inspected rows old.files (listed_files (lists 0) (lists 1) (lists 2)) old.sink new.sink sink)
  tells_nothing command.Ingest rows lists = (tt, tt)
  tells_nothing command.Etl rows lists = (tt, tt)
  tells_nothing (command.Serve numbers) rows lists = (tt, tt)
  tells_nothing (command.Get name query) rows lists = ((inl sink, tt), (inl sink, tt))
  tells_nothing command.Adopt rows lists = (tt, tt)

  module _ {D R : Type 0} (verdict : OneVerdict) (err : ReopenErr D R) (damaged : (d : D) (name : Name) (at : ℕ) → err ≡ reopening.Damaged d name at → IsDamaged (stores_of config) old.files name at)
      (differs : (d : D) (kept other : Granularity) → err ≡ reopening.GranularityDiffers d kept other → Differs (stores_of config) old.files kept other) where
    pub refused_makes : (asked : StoreCommand) → MayLeave old.past old.files → (before after : Stores) → OpensEither (stores_of config) old.past before after → MakesOfRead config asked before after old new (refusal_of err)
    refused_makes asked seen before after opens =
        let read = read_of (stores_of config) old.files old.past before after seen opens in
        record {
          first = read.first;
          either = read.either;
          read = read.read;
          makes = makes_nothing (refusal_of err) asked before after read.first read.read (refusal_cuts verdict (stores_of config) old.files err damaged differs);
          undamaged = refusal_undamaged verdict (stores_of config) old.files err damaged differs refl read.first read.read;
        }

    pub refused_serves : (asked : StoreCommand) → (IsAdopt asked → ⊥) → MayLeave old.past old.files → (IsReading (stores_of config) asked old.files → OnlyReads (stores_of config) old.files new.files old.past new.past) → Serves config asked old new (refusal_of err)
    refused_serves asked apart seen reads = record {
      judges = refusal_judges (stores_of config) asked old.files err damaged differs;
      makes = refused_makes asked seen;
      tells = λ whole. let both = tells_nothing asked whole.rows whole.lists in refusal_cases verdict (stores_of config) old.files err damaged differs (λ e. TellsSaid (stores_of config) asked old.files whole.rows whole.lists old new (refusal_of e)) whole (λ d. both.0) (λ d. both.1);
      reads = reads;
      listed = λ whole keeps i low. opens_listed (stores_of config) old.files new.files old.past new.past whole i low opens;
      rewrites_none = λ adopts. absurd (apart adopts);
    }

pub is_adopt : (asked : StoreCommand) → IsAdopt asked → asked ≡ command.Adopt
is_adopt command.Adopt adopts = refl
is_adopt asked adopts = absurd adopts

-- What a disk that isn't opened comes to. `adopt` opens it by itself.
pub refused_does : {D R : Type 0} (tells : Bool) (config : ConfigState) (asked : StoreCommand) (old new : Outside) (verdict : OneVerdict) (err : ReopenErr D R) → (IsAdopt asked → ⊥) → new.source ≡ old.source → new.sink ≡ old.sink → new.clock ≡ old.clock
    → (IsTrue tells → MayLeave old.past old.files) → (IsTrue tells → OnlyOpens (stores_of config) old.files new.files old.past new.past) → (IsTrue tells → IsReading (stores_of config) asked old.files → OnlyReads (stores_of config) old.files new.files old.past new.past) → (IsTrue tells → (d : D) (name : Name) (at : ℕ) → err ≡ reopening.Damaged d name at → IsDamaged (stores_of config) old.files name at)
    → (IsTrue tells → (d : D) (kept other : Granularity) → err ≡ reopening.GranularityDiffers d kept other → Differs (stores_of config) old.files kept other) → Does config tells (OverStore asked) old new (refusal_of err)
refused_does {D} {R} tells config asked old new verdict err apart source sink clock seen opens reads damaged differs = (
  refused_ends asked old.source err,
  λ told. let serves = refused_serves config old new source sink clock (opens told) verdict err (damaged told) (differs told) asked apart (seen told) (reads told) in (serves, exactly verdict (stores_of config) asked old.files (refusal_of err) serves.judges),
)
