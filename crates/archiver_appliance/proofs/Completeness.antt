-- Where no count rose, what can be done is done, or memory was wanting.
use Rattle.std.proofs.Common.{◌≡◌, ◌⊎◌, inl, inr, ℕ, List, Bool, true, false, Option, Some, None, Result, Ok, Err, refl, sym, ap, subst, arith}
use Rattle.std.specs.Prelude.{IsTrue, IfSome, nat_lt}
use Rattle.edge_io.specs.Stream.{Rose}
use Rattle.disk_model.specs.Files.{Files, Rose as DiskRose}
use Rattle.disk_model.specs.Past.{Past}
use Rattle.partition_names.specs.declared.granularity.Granularity.{Granularity}
use Rattle.series_model.specs.declared.sample.Query.{Query}
use Rattle.pb_lines.specs.Stream.{Item, IsWholeStream, first_section}
use Rattle.pb_lines.specs.declared.fault.ChunkFault.{ChunkFault}
use Rattle.pb_lines.proofs.Unique.{one_stream}
use Rattle.pv_catalog.specs.declared.row.Row.{Row}
use Rattle.pv_catalog.specs.Rows.{HasName}
use Rattle.store_manifest.specs.declared.entry.Entry.{Entry}
use Rattle.command_words.specs.declared.command.Command.{Command}
use Rattle.command_words.specs.declared.command.Command.TheVariants.{Drill, Extract, OverStore}
use Rattle.drill_feed.specs.declared.drill.Drill.{Drill as DrillState}
use Rattle.command_words.specs.declared.command.StoreCommand.{StoreCommand}
use Rattle.command_words.specs.declared.command.StoreCommand.TheVariants as command
use Rattle.command_words.specs.declared.status.Status.{Status}
use Rattle.command_words.specs.declared.status.Status.TheVariants.{Done, Usage, Refused, NoSuchVariable, SourceFault, SinkFault, DiskFault, Damaged, OutOfMemory, GranularityDiffers, DoorFault, Spent}
use Rattle.command_words.specs.Command.{IsCommand, IsFaulty}
use Rattle.archiver_appliance.specs.Adopting.{TellsAdopted}
use Rattle.archiver_appliance.specs.Ingesting.{IsIngested}
use Rattle.archiver_appliance.specs.Outside.{Outside, IsCaused, IsQuiet}
use Rattle.archiver_appliance.specs.Reporting.{Tells, ChecksAll}
use Rattle.archiver_appliance.specs.Run.{NoDamage, IsUnasked, Makes, Serves, Does, Obeys, IsGoodSource, IsServable, CanBeDone, EndsWell, EndsWellBy, IsServe}
use Rattle.command_words.specs.Status.{number_of}
use Rattle.stream_extract.specs.Text.{Extracts}
use Rattle.archiver_appliance.proofs.Opening.{first_stands}
use Rattle.archiver_appliance.specs.Serving.{first_of}
use Rattle.command_words.specs.declared.service_words.ServeWords.{ServeWords}
use Rattle.archiver_appliance.specs.Drilling.{Drills}
use Rattle.command_words.proofs.Words.{drill_alone, serve_same, not_both}
use Rattle.archiver_appliance.proofs.Words.{servable_same}
use Rattle.etl_rules.specs.Config.{ConfigState}
use Rattle.feed_session.specs.Session.{ReadsOf}
use Rattle.feed_session.specs.declared.end.Fed.{Fed}
use Rattle.feed_session.specs.declared.end.Fed.TheVariants as fed
use Rattle.serving.specs.declared.due.DueMoved.{DueMoved}
use Rattle.serving.specs.declared.moves.MoveErr.{MoveErr}
use Rattle.serving.specs.declared.moves.MoveErr.TheVariants as err
use Rattle.tier_store.specs.Change.{IsEither}
use Rattle.tier_store.specs.Stores.{Stores}
use Rattle.store_reopen.specs.Reopen.{OpensEither, stores_of}
use Rattle.store_reopen.specs.Steps.{Step}
use Rattle.store_reopen.specs.Verdict.{IsWhole}
use Rattle.store_reopen.proofs.Verdicts.{held_whole}
use Rattle.archiver_appliance.specs.Moving.{TellsMoved}
use Rattle.archiver_appliance.specs.Retrieving.{Gets}

-- the status has this cause alone
abbrev Unless : Status → Status → Type 0
Unless status cause = status ≡ cause → ⊥

none_not_some : {X : Type 0} (x : X) → None ≡ Some x → ⊥
none_not_some x h = cc

refused_not : (source : Option (List ℕ)) (items : List Item) (line : ℕ) (fault : ChunkFault) → IsGoodSource source → IfSome source (λ bytes. IsWholeStream bytes items (Some (line, fault))) → ⊥
refused_not None items line fault good stream = absurd good
refused_not (Some bytes) items line fault good stream = none_not_some (line, fault) (one_stream first_section 0 0 bytes good.0 items None (Some (line, fault)) good.1 stream).1

abbrev pub IsServing : Command → Type 0
IsServing (OverStore c) = IsServe c
IsServing _ = ⊥

-- BY STATUS

extract_done : (q : Query) (source a b : Option (List ℕ)) (status : Status) → IsGoodSource source → Unless status SourceFault → Unless status SinkFault → Extracts q source a b status → EndsWell (number_of status)
extract_done q None a b status good five six e = absurd good
extract_done q (Some bytes) a b Done good five six e = inl refl
extract_done q (Some bytes) a b (Refused line fault) good five six e = absurd (refused_not (Some bytes) e.0 line fault good e.1)
extract_done q (Some bytes) a b SourceFault good five six e = absurd (five refl)
extract_done q (Some bytes) a b SinkFault good five six e = absurd (six refl)
extract_done q (Some bytes) a b OutOfMemory good five six e = inr refl
extract_done q (Some bytes) a b status good five six e = absurd e

status_done : (text : List ℕ) (a b : Option (List ℕ)) (status : Status) → Unless status SinkFault → Unless status DiskFault → Tells text a b status → EndsWell (number_of status)
status_done text a b Done six seven w = inl refl
status_done text a b SinkFault six seven w = absurd (six refl)
status_done text a b DiskFault six seven w = absurd (seven refl)
status_done text a b OutOfMemory six seven w = inr refl
status_done text a b status six seven w = absurd w

check_done : (rows : List Row) (files : Files) (short medium long : List Entry) (a b : Option (List ℕ)) (status : Status) → NoDamage status → Unless status SinkFault → Unless status DiskFault → ChecksAll rows files short medium long a b status → EndsWell (number_of status)
check_done rows files short medium long a b Done stands six seven w = inl refl
check_done rows files short medium long a b SinkFault stands six seven w = absurd (six refl)
check_done rows files short medium long a b DiskFault stands six seven w = absurd (seven refl)
check_done rows files short medium long a b (Damaged name at) stands six seven w = absurd stands
check_done rows files short medium long a b OutOfMemory stands six seven w = inr refl
check_done rows files short medium long a b status stands six seven w = absurd w

get_done : (first : Stores) (name : List ℕ) (query : Query) (a b : Option (List ℕ)) (status : Status) (i : ℕ) → HasName first.rows i name → Unless status SinkFault → Unless status DiskFault → Gets first name query a b status → EndsWell (number_of status)
get_done first name query a b Done i has six seven w = inl refl
get_done first name query a b NoSuchVariable i has six seven w = absurd (w.1 i has)
get_done first name query a b SinkFault i has six seven w = absurd (six refl)
get_done first name query a b DiskFault i has six seven w = absurd (seven refl)
get_done first name query a b OutOfMemory i has six seven w = inr refl
get_done first name query a b status i has six seven w = absurd w

-- CAUSES

module _ {R : Type 0} (faults : R → ℕ) (old new : Outside) (status : Status) where
  no_source : (failed : Option R) → IsCaused faults old new status failed → (Rose old.read_faults new.read_faults → ⊥) → Unless status SourceFault
  no_source None caused quiet is = quiet (subst (λ (s : Status). IsCaused faults old new s None) is caused)
  no_source (Some file) caused quiet is = subst (λ (s : Status). IsCaused faults old new s (Some file)) is caused

  no_sink : (failed : Option R) → IsCaused faults old new status failed → (Rose old.write_faults new.write_faults → ⊥) → Unless status SinkFault
  no_sink None caused quiet is = quiet (subst (λ (s : Status). IsCaused faults old new s None) is caused)
  no_sink (Some file) caused quiet is = subst (λ (s : Status). IsCaused faults old new s (Some file)) is caused

  no_disk : (failed : Option R) → IsCaused faults old new status failed → (DiskRose old.disk_faults new.disk_faults → ⊥) → failed ≡ None → Unless status DiskFault
  no_disk None caused quiet none is = quiet (subst (λ (s : Status). IsCaused faults old new s None) is caused)
  no_disk (Some file) caused quiet none is = none_not_some file (sym none)

-- A COMMAND OVER THE ARCHIVE

module _ (config : ConfigState) (before after first : Stores) (old new : Outside) (status : Status) (five : Unless status SourceFault) (six : Unless status SinkFault) (seven : Unless status DiskFault) (whole : IsWhole (stores_of config) old.files) where
  ends_as : (s : Status) → status ≡ s → EndsWell (number_of s) → EndsWell (number_of status)
  ends_as s is ends = subst (λ (x : Status). EndsWell (number_of x)) (sym is) ends

  unasked_well : IsUnasked (stores_of config) old new status → EndsWell (number_of status)
  unasked_well unasked = elim unasked.cut [
    | inl is ↦ absurd (seven is)
    | inr other ↦ elim other [ inl is ↦ inr (ap number_of is) | inr none ↦ absurd (none whole) ]
  ]

  ingest_well : IsGoodSource old.source → (items : List Item) (came : Fed) → IsIngested came status → ReadsOf came old.source items → EndsWell (number_of status)
  ingest_well good items (fed.Fed kept held dropped) told reads = ends_as Done told (inl refl)
  ingest_well good items (fed.Refused line fault) told reads = absurd (refused_not old.source items line fault good reads)
  ingest_well good items fed.PeerFault told reads = absurd (five told)
  ingest_well good items fed.DiskFault told reads = absurd (seven told)
  ingest_well good items fed.Spent told reads = absurd told
  ingest_well good items fed.Memory told reads = ends_as OutOfMemory told (inr refl)

  moved_well : (came : Result DueMoved MoveErr) (a b : Option (List ℕ)) → NoDamage status → TellsMoved came a b status → EndsWell (number_of status)
  moved_well (Ok moved) a b stands (inl w) = ends_as Done w.0 (inl refl)
  moved_well (Ok moved) a b stands (inr w) = absurd (six w.0)
  moved_well (Err err.DiskFault) a b stands w = absurd (seven w.0)
  moved_well (Err (err.Damaged name at)) a b stands w = absurd (subst NoDamage w.0 stands)
  moved_well (Err err.Spent) a b stands w = absurd w
  moved_well (Err err.Memory) a b stands w = ends_as OutOfMemory w.0 (inr refl)

  adopted_well : {gs : List Granularity} {image : Files} {steps : List Step} {later : Past} {a b : Option (List ℕ)} → TellsAdopted gs image first steps later a b status ⊎ ((b ≡ a) × ((status ≡ DiskFault) ⊎ (status ≡ OutOfMemory))) → EndsWell (number_of status)
  adopted_well (inl told) = elim told.line [
    | inl done ↦ ends_as Done done.0 (inl refl)
    | inr failed ↦ absurd (six failed.0)
  ]
  adopted_well (inr (quiet, inl fault)) = absurd (seven fault)
  adopted_well (inr (quiet, inr memory)) = ends_as OutOfMemory memory (inr refl)

  served_by : (numbers : ServeWords) → (status ≡ DoorFault → ⊥) → (door fault memory spent : Bool) → status ≡ first_of door fault memory spent → EndsWellBy (OverStore (command.Serve numbers)) (number_of status)
  served_by numbers eleven true fault memory spent is = absurd (eleven is)
  served_by numbers eleven false true memory spent is = absurd (seven is)
  served_by numbers eleven false false true spent is = inr (inr (ap number_of is))
  served_by numbers eleven false false false true is = inl (ap number_of is)
  served_by numbers eleven false false false false is = inr (inl (ap number_of is))

  makes_well : (asked : StoreCommand) → IsTrue first.stands → NoDamage status → IsServable asked old.source first → ((asked ≡ command.Check) → (rows : List Row) × (short : List Entry) × (medium : List Entry) × (long : List Entry) × ChecksAll rows old.files short medium long old.sink new.sink status)
      → (IsServe asked → status ≡ DoorFault → ⊥) → Makes config asked before after first old new status → EndsWellBy (OverStore asked) (number_of status)
  makes_well command.Ingest stands undamaged can checks door (inl unasked) = unasked_well unasked
  makes_well command.Ingest stands undamaged can checks door (inr into) = ingest_well can _ into.came into.told into.session.reads
  makes_well (command.Get name query) stands undamaged can checks door (inl unasked) = unasked_well unasked
  makes_well (command.Get name query) stands undamaged can checks door (inr from) = get_done first name.now query old.sink new.sink status can.0 can.1 six seven (from.writes refl stands)
  makes_well command.Etl stands undamaged can checks door (inl unasked) = unasked_well unasked
  makes_well command.Etl stands undamaged can checks door (inr from) = moved_well from.came old.sink new.sink undamaged from.tells_moved
  makes_well command.Status stands undamaged can checks door makes = status_done _ old.sink new.sink status six seven (makes stands)
  makes_well command.Check stands undamaged can checks door makes = let all = checks refl in check_done all.0 old.files all.1 all.2 all.3 old.sink new.sink status undamaged six seven all.4
  makes_well command.Adopt stands undamaged can checks door (inl unasked) = unasked_well unasked
  makes_well command.Adopt stands undamaged can checks door (inr into) = adopted_well into.tells_adopted
  makes_well (command.Serve numbers) stands undamaged can checks door (inl unasked) = inr (unasked_well unasked)
  makes_well (command.Serve numbers) stands undamaged can checks door (inr from) =
      let told = from.0 in
      served_by numbers (door tt) (nat_lt 0 told.door_faults) told.disk_fault told.memory told.spent from.1

able_first : (asked : StoreCommand) (source : Option (List ℕ)) (before after first : Stores) → IsEither before after first → IsServable asked source before × IsServable asked source after → IsServable asked source first
able_first asked source before after first (inl is) can = subst (λ (h : Stores). IsServable asked source h) (sym is) can.0
able_first asked source before after first (inr is) can = subst (λ (h : Stores). IsServable asked source h) (sym is) can.1

served_well : (config : ConfigState) (asked : StoreCommand) (old new : Outside) (status : Status) → Serves config asked old new status → (before after : Stores) → OpensEither (stores_of config) old.past before after → IsTrue before.stands
    → IsServable asked old.source before × IsServable asked old.source after → Unless status SourceFault → Unless status SinkFault → Unless status DiskFault → (IsServe asked → status ≡ DoorFault → ⊥) → EndsWellBy (OverStore asked) (number_of status)
served_well config asked old new status serves before after opens stands can five six seven door =
    let made = serves.makes before after opens in
    let stand = first_stands (stores_of config) old.past before after made.first opens stands made.either in
    let whole = held_whole (stores_of config) old.files made.first refl made.read stand in
    makes_well config before after made.first old new status five six seven whole asked stand (made.undamaged stand) (able_first asked old.source before after made.first made.either can) (λ is. (whole.rows, whole.lists 0, whole.lists 1, whole.lists 2, checks asked serves whole is)) door made.makes
  where
    checks : (c : StoreCommand) → Serves config c old new status → (whole : IsWhole (stores_of config) old.files) → c ≡ command.Check → ChecksAll whole.rows old.files (whole.lists 0) (whole.lists 1) (whole.lists 2) old.sink new.sink status
    checks command.Check serves whole is = serves.tells whole
    checks command.Ingest serves whole is = cc
    checks (command.Get name query) serves whole is = cc
    checks command.Etl serves whole is = cc
    checks command.Status serves whole is = cc
    checks (command.Serve numbers) serves whole is = cc
    checks command.Adopt serves whole is = cc

-- WORDS

module _ {R : Type 0} (faults : R → ℕ) (words : List (List ℕ)) (config : ConfigState) (tells : Bool) (old new : Outside) (status : Status) (failed : Option R) (caused : IsCaused faults old new status failed) where
  -- words that ask to serve ask for nothing else
  serving_same : (c d : StoreCommand) → IsCommand words (OverStore c) → IsCommand words (OverStore d) → IsServe d → IsServe c
  serving_same c (command.Serve n) one two serve = let same = serve_same words c n one two in subst IsServe (sym same.1) tt
  serving_same c d one two serve = absurd serve

  ends_same : (c d : StoreCommand) → IsCommand words (OverStore c) → IsCommand words (OverStore d) → EndsWellBy (OverStore d) (number_of status) → EndsWellBy (OverStore c) (number_of status)
  ends_same (command.Serve m) (command.Serve n) one two ends = ends
  ends_same (command.Serve m) d one two ends = inr ends
  ends_same command.Ingest (command.Serve n) one two ends = absurd (serving_same command.Ingest (command.Serve n) one two tt)
  ends_same (command.Get name query) (command.Serve n) one two ends = absurd (serving_same (command.Get name query) (command.Serve n) one two tt)
  ends_same command.Etl (command.Serve n) one two ends = absurd (serving_same command.Etl (command.Serve n) one two tt)
  ends_same command.Status (command.Serve n) one two ends = absurd (serving_same command.Status (command.Serve n) one two tt)
  ends_same command.Check (command.Serve n) one two ends = absurd (serving_same command.Check (command.Serve n) one two tt)
  ends_same command.Adopt (command.Serve n) one two ends = absurd (serving_same command.Adopt (command.Serve n) one two tt)
  ends_same c d one two ends = ends

  drilled_well : (hours : ℕ) (s : Status) → s ≡ status → Unless status SinkFault → Drills hours old.sink new.sink s → (number_of s ≡ 13) ⊎ EndsWell (number_of s)
  drilled_well hours Done is six w = inr (inl refl)
  drilled_well hours SinkFault is six w = absurd (six (sym is))
  drilled_well hours OutOfMemory is six w = inr (inr refl)
  drilled_well hours Spent is six w = inl refl
  drilled_well hours s is six w = absurd w

  drill_done : (d : DrillState) (b : Command) → (e : DrillState) × (b ≡ Drill e) → Unless status SinkFault → Does config tells b old new status → EndsWellBy (Drill d) (number_of status)
  drill_done d b same six does = drilled_well same.0.hours status refl six (subst (λ (x : Command). Does config tells x old new status) same.1 does)

  done_by : (a b : Command) → IsCommand words a → IsCommand words b → CanBeDone config tells a old → IsQuiet a old new failed → (IsServing a → status ≡ DoorFault → ⊥) → Does config tells b old new status → EndsWellBy a (number_of status)
  done_by (Extract q) (Extract r) one two can quiet door does =
      extract_done r old.source old.sink new.sink status can (no_source faults old new status failed caused quiet.0) (no_sink faults old new status failed caused quiet.1) does
  done_by (Extract q) (Drill e) one two can quiet door does = let same = drill_alone words (Extract q) e one two in absurd (cc (same.1))
  done_by (Drill d) b one two can quiet door does = drill_done d b (drill_alone words b d two one) (no_sink faults old new status failed caused quiet) does
  done_by (OverStore c) (Drill e) one two can quiet door does = let same = drill_alone words (OverStore c) e one two in absurd (cc (same.1))
  done_by (Extract q) (OverStore d) one two can quiet door does = absurd (not_both words q d one two)
  done_by (OverStore c) (Extract r) one two can quiet door does = absurd (not_both words r c two one)
  done_by (OverStore c) (OverStore d) one two can quiet door does =
      let same : (held : Stores) → IsServable c old.source held → IsServable d old.source held = λ held. servable_same words c d old.source held one two in
      ends_same c d one two (served_well config d old new status (does.1 can.told).0 can.before can.after can.opens can.stands (same can.before can.can.0, same can.after can.can.1)
      (no_source faults old new status failed caused quiet.0) (no_sink faults old new status failed caused quiet.1) (no_disk faults old new status failed caused quiet.2 quiet.3) (λ serve. door (serving_same c d one two serve)))

  pub ends_well : (asked : Command) → IsCommand words asked → CanBeDone config tells asked old → IsQuiet asked old new failed → (IsServing asked → status ≡ DoorFault → ⊥) → Obeys words config tells old new status → EndsWellBy asked (number_of status)
  ends_well asked is can quiet door (inl h) = done_by asked h.0 is h.1 can quiet door h.2
  ends_well asked is can quiet door (inr h) = absurd (h.1 asked is)

-- WORDS OF NO COMMAND

-- the status of faulty words has a number of its own
pub two_is : (status : Status) → number_of status ≡ 2 → status ≡ Usage
two_is Usage is = refl
two_is Done is = absurd (omega (arith, is))
two_is (Refused line fault) is = absurd (omega (arith, is))
two_is NoSuchVariable is = absurd (omega (arith, is))
two_is SourceFault is = absurd (omega (arith, is))
two_is SinkFault is = absurd (omega (arith, is))
two_is DiskFault is = absurd (omega (arith, is))
two_is (Damaged name at) is = absurd (omega (arith, is))
two_is OutOfMemory is = absurd (omega (arith, is))
two_is (GranularityDiffers kept asked) is = absurd (omega (arith, is))
two_is DoorFault is = absurd (omega (arith, is))
two_is Spent is = absurd (omega (arith, is))

pub faulty_is : (words : List (List ℕ)) (config : ConfigState) (tells : Bool) (old new : Outside) (status : Status) → Obeys words config tells old new status → IsFaulty words → number_of status ≡ 2
faulty_is words config tells old new status (inl h) faulty = absurd (faulty h.0 h.1)
faulty_is words config tells old new status (inr h) faulty = ap number_of h.0
