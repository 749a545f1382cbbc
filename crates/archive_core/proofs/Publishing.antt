-- The act by which a move goes on, and the listing of what it has copied.
use Rattle.std.proofs.Common.{◌≡◌, ◌⊎◌, inl, inr, ℕ, List, [], Bool, true, cond, Option, Some, None, Result, Err, refl, sym, ◌∙◌, ap, subst, arith, ◌≢◌, ◌<◌, length, map, take, Ok, append-nil, ◌≤◌, ◌+◌, ◌-◌, ◌∷◌, false}
use Rattle.std.specs.FinMap.{FinMap, get, remove}
use Rattle.std.specs.List.{AllByRecursion}
use Rattle.std.specs.Ordering.{nat_cmp}
use Rattle.std.specs.Prelude.{◌==◌, slice_get, ◌&&◌, IsTrue, OnOk}
use Rattle.disk_model.specs.Past.{Passes}
use Rattle.disk_model.specs.declared.disk.DiskErr.{DiskErr}
use Rattle.disk_model.specs.declared.disk.DiskErr.TheVariants.{Fault, Memory}
use Rattle.pins.specs.Pieces.{PinOf}
use Rattle.moves.specs.declared.table.Running.{Running}
use Rattle.durable_write.specs.Ends.{end_of_disk, IsFailed}
use Rattle.tier_store.specs.Change.{Has, EndsFrom, HoldsBy}
use Rattle.tier_store.specs.Pinned.{SeenAll, beside}
use Rattle.tier_store.specs.Seen.{Seen, granularities, IsSettled}
use Rattle.tier_store.specs.Stores.{Stores, list_at, tier}
use Rattle.tier_store.specs.declared.limbo.Retired.{Retired}
use Rattle.act_model.specs.Machine.{Machine, MoveState, Change, Stage, Copies, HasCopied, HasPublished, AddsRow, SetsState, Renames, Appends, Publishes, Unlists}
use Rattle.act_model.specs.MoveStep.{change_of, ends_move, no_move, publishes, without_move, change_at, moved, GoesOn, MoveStepStep, copies, has_copied, retires, again, damaged}
use Rattle.act_model.specs.Outcome.{runs, faults_first, faults_between, faults_within, faults_removing, refused, refused_at_once, wants_memory, wants_memory_settled}
use Rattle.act_model.specs.Sound.{IsSound, is_copying}
use Rattle.act_model.proofs.MoveActs.{move_step_sound, step_may}
use Rattle.archive_core.specs.Parts.{Parts}
use Rattle.archive_core.specs.Stands.{InDoubt, Rests, Stands, HoldsDurable, IsDoubtOf, StoresGrow, IsReady}
use Rattle.archive_core.specs.Stepping.{HoldsStep, StepsOn, is_doubted, was_spent, went_on, with_slots, StepEnds, TakesMove, has_failed, not_removed}
use Rattle.act_model.specs.declared.acts.Act.TheVariants.{MoveStep}
use Rattle.disk_model.specs.Files.{Rose}
use Rattle.act_model.specs.Reply.{Reply}
use Rattle.act_model.specs.declared.acts.Answer.TheVariants as answer
use Rattle.std.proofs.lemmas.Bool.Decides.{nat_tests}
use Rattle.disk_model.proofs.Passing.{passes_weaker, passes_then}
use Rattle.etl_mover.specs.Move.{FewPending, IsCopied, Moving}
use Rattle.etl_mover.specs.declared.moving.Stage.TheVariants.{Published}
use Rattle.pv_catalog.specs.Rows.{KeepsRows}
use Rattle.pv_catalog.specs.declared.row.Row.{Row}
use Rattle.pv_catalog.proofs.Standing.{keeps_same}
use Rattle.moves.specs.Table.{at}
use Rattle.series_model.specs.Series.{end_of}
use Rattle.store_manifest.specs.Manifest.{ManifestState}
use Rattle.durable_write.specs.Flush.{PlacesRise, file_at, put_all}
use Rattle.durable_write.specs.Held.{Filed, IsListedTo, filed_at, listing_of, samples_of}
use Rattle.durable_write.specs.Plan.{of_row}
use Rattle.durable_write.proofs.Places.{put_all_other}
use Rattle.durable_write.proofs.Staying.{same_cases, rose_after}
use Rattle.tier_store.specs.Moving.{ListsAlso, RunsBeside, parts_in, publishing}
use Rattle.tier_store.proofs.RunningMoves.{runs_listed, goes_on}
use Rattle.tier_store.proofs.Places.{list_other, list_set, manifest_at}
use Rattle.act_model.specs.Changes.{no_doubt, Settles, made, IsRetired}
use Rattle.act_model.specs.Rows.{next_store, RowState}
use Rattle.act_model.specs.Rule.{index_of}
use Rattle.act_model.proofs.StepLaws.{with_doubt}
use Rattle.archive_core.specs.declared.memory.Doubt.{Doubt}
use Rattle.archive_core.specs.Growing.{HasRunning}
use Rattle.archive_core.specs.MoveTies.{GetsOne, GoInto, HasCopiedAhead, HasCopiedParts, IsAtStage, IsCopiedTo, IsMoveOf, end_ahead, listed_end}
use Rattle.archive_core.specs.Taking.{Taken, listing, with_listed}
use Rattle.archive_core.proofs.Batches.{told_stands, no_names, put_after, tidy_step, none_taken, tidy_none, tidy_slots, tidy_then}
use Rattle.archive_core.proofs.Acting.{rests_again, crash_none, crash_settling}
use Rattle.archive_core.proofs.Lists.{still_named, all_of, of_all}
use Rattle.tier_store.specs.Frame.{Frame}
use Rattle.tier_store.proofs.Frames.{frame_same, fronts_shown}
use Rattle.archive_core.proofs.MoveChoice.{other_rows, publish_holds, ahead_own, next_high, next_place}
use Rattle.archive_core.proofs.MoveLimbo.{none_put}
use Rattle.archive_core.proofs.MovesKept.{leaves_ahead}
use Rattle.archive_core.proofs.Settled.{doubt_stands, grew, made_at, no_own, rests_has, with_same, go_fewer}
use Rattle.archive_core.proofs.MoveTable.{left_was, put_again, put_in, put_back, take_out, had_running, moves_without, slots_stand, stands_moves}
use Rattle.tier_store.specs.Given.{ChangesGiven}
use Rattle.archive_core.specs.Leaving.{LeavesMove, files_of}
use Rattle.tier_store.specs.Strays.{MakesNoStray, targets}
use Rattle.archive_core.specs.Strays.{IsWell, Tidies}
use Rattle.archive_core.proofs.Windows.{index_low}
use Rattle.act_model.specs.Changes as changes
use Rattle.archive_core.specs.declared.memory.Doubt.TheVariants as kind
use Rattle.std.specs.Option.{is_some}
use Rattle.partition_names.specs.declared.granularity.Granularity.{Granularity}
use Rattle.act_model.specs.Crash.{settled_there, with_change}
use Rattle.act_model.specs.Limbo.{RowFile}
use Rattle.act_model.specs.Sweep.{IsPinned}
use Rattle.archive_core.specs.Ends.{LeavesByAct, LeavesWithin, SettlesTo, StandsStill}
use Rattle.intake_half.specs.declared.memory.RowMemory.{RowMemory}
use Rattle.archive_core.specs.Wanting.{NoneRefuses, WithWants, before_settling, behind_settling}
use Rattle.archive_core.specs.Acting.{Acted, Settling}
use Rattle.tier_store.specs.Limbo.{IsKeptName}
use Rattle.moves.specs.Table as table
use Rattle.etl_mover.specs.declared.moving.Stage.{Stage as MoverStage}

-- What a move has copied is listed: as the machine has it.

-- What the stores say of the listing of what a move has copied.
pub record StoresListed (tells : Bool) (place : ℕ) (moving : Moving) (q : Parts) (new : Seen) (limbo : List Retired) (result : Result (Unit {0}) DiskErr) : Type 0 where
  pub changes : (files : List Filed) → ChangesGiven (RunsBeside place tells (beside q.at q.limbo) moving files) tells (publishing place files) q.at new (end_of_disk result)
  pub keeps : Frame tells (beside q.at q.limbo) (beside new limbo)
  pub tidy : OnOk result (IsSettled new × MakesNoStray tells (beside q.at q.limbo) (targets moving) (beside new limbo) [])

-- THE MOVE ONCE ITS FILES ARE LISTED

-- how a move runs beside the stores doesn't depend on its stage
at_stage : (i : ℕ) (tells : Bool) (all : SeenAll) (move : Moving) (files : List Filed) (held : Stores) (stage : MoverStage) → RunsBeside i tells all move files held → RunsBeside i tells all (record move { stage = stage }) files held
at_stage i tells all move files held stage is = record {
  from = is.from;
  next = is.next;
  fine = is.fine;
  from_fine = is.from_fine;
  to_coarse = is.to_coarse;
  running = record { nested = is.running.nested; parts = is.running.parts; in_order = is.running.in_order; few = is.running.few; at = is.running.at; pending = is.running.pending; most = most is.running.most; listed = is.running.listed; files = is.running.files };
  numbers = is.numbers;
  row = is.row;
  stands = is.stands;
  name = is.name;
  parts = λ m entries. (let lists = is.parts m entries in record { now = lists.now; others = lists.others; entries = lists.entries; parts = lists.parts });
  last = is.last;
  pending = is.pending;
  ahead = is.ahead;
}
  where
    most : FewPending move → FewPending (record move { stage = stage })
    most (inl few) = inl few
    most (inr (more, next)) = inr (more, record { rest = next.rest; entry = next.entry; part = next.part; are = next.are; next = next.next; holds = next.holds })

-- the stage of a move that has copied all is the machine's
at_copied : (from to : ℕ) (tells : Bool) (all : SeenAll) (told : Bool) (files : List Filed) (before : Stores) (moving : Moving) (stage : Stage) → IsCopied moving → IsAtStage from to tells all told files before moving stage → stage ≡ HasCopied
at_copied from to tells all told files before moving Copies copied is = absurd (is.left copied.all)
at_copied from to tells all told files before moving HasCopied copied is = refl
at_copied from to tells all told files before moving HasPublished copied is = absurd (let both = sym copied.stage ∙ is.stage in cc (both))

-- a move that is taken out has copied all its parts, where none is left and its copies aren't listed
pub copied_there : (tells : Bool) (q : Parts) (n : ℕ) (running : Running Moving) (slots : List (Option (Running Moving))) (m : Machine) → TakesMove n running slots q.slots → Rests tells (with_slots slots q) m → (running.moving.stage ≡ Published → ⊥) → (running.moving.at < length running.moving.parts → ⊥) → IsCopied running.moving
copied_there tells q n running slots m takes r unlisted none = by_stage out.0.stage out.1.is.stage
  where
    out : (move : MoveState) × Taken tells q n running m move
    out = take_out tells (with_slots slots q) m r n running q.slots takes.ran takes.others

    by_stage : (stage : Stage) → IsAtStage (index_of out.0.store) (index_of (next_store out.0.store)) tells (beside q.at q.limbo) m.told out.1.is.files out.1.rests.stands.store.before running.moving stage → IsCopied running.moving
    by_stage Copies is = absurd (let within = is.runs.running.at in is.left (omega (arith, within, none)))
    by_stage HasCopied is = is.is
    by_stage HasPublished is = absurd (unlisted is.stage)

module _ (tells : Bool) (q : Parts) (n : ℕ) (running : Running Moving) (slots : List (Option (Running Moving))) (m : Machine) (takes : TakesMove n running slots q.slots) (r : Rests tells (with_slots slots q) m) (copied : IsCopied running.moving) where
  out : (move : MoveState) × Taken tells q n running m move
  out = take_out tells (with_slots slots q) m r n running q.slots takes.ran takes.others

  abbrev move : MoveState
  move = out.0

  abbrev mo : Machine
  mo = without_move n m

  abbrev held : Stores
  held = out.1.rests.stands.store.before

  abbrev place : ℕ
  place = index_of (next_store out.0.store)

  abbrev files : List Filed
  files = out.1.is.files

  abbrev moving : Moving
  moving = running.moving

  abbrev change : Change
  change = listing out.0

  abbrev all : SeenAll
  all = beside q.at q.limbo

  stage_is : out.0.stage ≡ HasCopied
  stage_is = at_copied (index_of move.store) place tells all m.told files held moving move.stage copied out.1.is.stage

  has : Has tells q.at held
  has = rests_has tells q mo out.1.rests

  stands_told : m.told ≡ true → IsTrue held.stands
  stands_told = told_stands tells m.told held.stands out.1.rests.stands.store.told

  is_copied : HasCopiedAhead (index_of out.0.store) place m.told files held moving
  is_copied = subst (IsAtStage (index_of move.store) place tells all m.told files held moving) stage_is out.1.is.stage

  -- THE STORES

  own : AllByRecursion (λ (f : Filed). f.entry.series ≡ move.row) files
  own = subst (λ (k : ℕ). AllByRecursion (λ (f : Filed). f.entry.series ≡ k) files) out.1.is.own (ahead_own place tells all moving files held out.1.is.beside)

  durable : (after : Stores) → ListsAlso place files held after → HoldsDurable after (changes.made [] change mo)
  durable after by = publish_holds move.row move.store move.copied files held after mo own (λ told r here. out.1.is.copied told (ap is_copying stage_is) r here) by out.1.rests.stands.store.holds

  stand : (after : Stores) → ListsAlso place files held after → after.stands ≡ held.stands
  stand after by = ap (λ (s : Stores). s.stands) by

  -- no other move is of the row
  alone : HasRunning (ends_move n m.moves) move.row → ⊥
  alone (k, other, there, same) =
      let was = left_was m.moves n k other there in
      let one : k ≡ n = out.1.sound.one_move k n other move was.1 out.1.here same in
      let test : (k == n) ≡ true = grind (arith, nat_tests, one) in
      let off = was.0 in
      cc (test, off)

  other_lists : (after : Stores) → ListsAlso place files held after → (k : ℕ) → k < 3 → k ≢ place → list_at k after ≡ list_at k held
  other_lists after by k low apart = ap (list_at k) by ∙ list_other place k (put_all (list_at place held) files) held (next_high move.store) low apart

  own_list : (after : Stores) → ListsAlso place files held after → list_at place after ≡ put_all (list_at place held) files
  own_list after by = ap (list_at place) by ∙ list_set place (put_all (list_at place held) files) held (next_high move.store)

  -- of another row each store lists what it did
  other_files : (after : Stores) → ListsAlso place files held after → (k row : ℕ) → k < 3 → row ≢ move.row → of_row row (list_at k after) ≡ of_row row (list_at k held)
  other_files after by k row low apart = elim (same_cases k place) [
    | inl is ↦ subst (λ (j : ℕ). of_row row (list_at j after) ≡ of_row row (list_at j held)) (sym is) (ap (of_row row) (own_list after by) ∙ put_all_other row (list_at place held) files (other_rows row move.row files apart own))
    | inr other ↦ ap (of_row row) (other_lists after by k low other)
  ]

  grow : (after : Stores) → ListsAlso place files held after → StoresGrow (ends_move n m.moves) held after
  grow after by = record {
    rows = rows_on;
    lists = λ k name low to. elim (goes_on place tells all held files out.1.is.beside.ahead first.0 first.1 has after by) [
      | inl on ↦ still_named (listing_of (tier k held)) (listing_of (tier k after)) name (on.1 k low) to
      | inr on ↦ (
          let same : after ≡ held = on.0 ∙ ap (λ (rows : List Row). record held { rows = rows }) (ap (λ (s : Stores). s.rows) by) in
          subst (λ (s : Stores). IsListedTo (listing_of (tier k s)) name 0) (sym same) to
          )
    ];
    beside = λ k row goes from low. record {
      rows = rows_on;
      stands = stand after by;
      listed = other_files after by k row low (apart row goes);
      parts = λ from next. ([], ap (λ (fs : List Filed). map (λ (f : Filed). f.entry.part) fs) (other_files after by from row (omega (arith, next, low)) (apart row goes)) ∙ sym (append-nil (parts_in row (list_at from held))));
    };
    sources = λ k row goes low. inl ([], other_files after by k row low (apart row goes) ∙ sym (append-nil (of_row row (list_at k held))));
  }
    where
      first : (k : ManifestState) × (slice_get q.at.manifests place ≡ Some k)
      first = manifest_at q.at.manifests place (let three = has.known.three in let low = next_high move.store in omega (arith, three, low))

      rows_on : KeepsRows held.rows after.rows
      rows_on = subst (λ (rows : List Row). KeepsRows held.rows rows) (sym (ap (λ (s : Stores). s.rows) by)) (keeps_same held.rows)

      apart : (row : ℕ) → HasRunning (ends_move n m.moves) row → row ≢ move.row
      apart row goes same = alone (subst (HasRunning (ends_move n m.moves)) same goes)

  -- WHAT THE STORES' CALL ASKS

  -- the place that it is told
  place_is : running.store ≡ place
  place_is = let own = out.1.is.store in let next = next_place move.store out.1.is.moves in omega (arith, own, next)

  pub runs_there : (fs : List Filed) × (before : Stores) × Has tells q.at before × RunsBeside running.store tells (beside q.at q.limbo) running.moving fs before
  runs_there = (files, held, has, subst (λ (k : ℕ). RunsBeside k tells all moving files held) (sym place_is) out.1.is.beside)

  -- THE MOVE, ONCE ITS FILES ARE LISTED

  abbrev listed_move : MoveState
  listed_move = moved move HasPublished move.copied

  abbrev listed_running : Running Moving
  listed_running = record running { moving = record moving { stage = Published } }

  abbrev then : Machine
  then = changes.made [] change m

  copied_still : (after : Stores) → ListsAlso place files held after → m.told ≡ true → HasCopiedParts (index_of move.store) (record moving { stage = Published }) (listed_end place (record moving { stage = Published }) after) after
  copied_still after by told =
      let next = next_place move.store out.1.is.moves in
      let same_end : end_ahead place moving files held ≡ listed_end place (record moving { stage = Published }) after = ap (λ (fs : List Filed). end_of (samples_of moving.series fs)) (sym (own_list after by)) in
      let same_list = other_lists after by (index_of move.store) (index_low move.store) (λ same. omega (arith, same, next)) in
      λ k part f here there. subst (λ (e : ℕ). IsCopiedTo e part f) same_end (is_copied.parts told k part f here (subst (λ (l : List Filed). slice_get (take (length moving.parts) (of_row moving.series l)) k ≡ Some f) same_list there))

  -- in whose place something is listed then
  into_listed : (after : Stores) → ListsAlso place files held after → GoInto (list_at place held) move.copied files → GoInto (list_at place after) move.copied files
  into_listed after by into = record {
    each = into.each;
    just = all_of (GetsOne (list_at place after) move.copied) files (λ f there none.
        of_all (GetsOne (list_at place held) move.copied) files f into.just there (none_put files (list_at place held) (filed_at f) rise (ap (file_at (filed_at f)) (sym (own_list after by)) ∙ none)));
  }
    where
      known_there : (k : ManifestState) × (slice_get q.at.manifests place ≡ Some k)
      known_there = manifest_at q.at.manifests place (let three = has.known.three in let low = next_high move.store in omega (arith, three, low))

      rise : PlacesRise (list_at place held)
      rise = (has.known.each place known_there.0 known_there.1).valid.apart

  is_listed : (new : Seen) (after : Stores) → granularities new.manifests ≡ granularities q.at.manifests → Frame tells all (beside new q.limbo) → ListsAlso place files held after → IsMoveOf tells (beside new q.limbo) m.told then.rows then.limbo after listed_move listed_running
  is_listed new after same_g keeps by = record {
    series = out.1.is.series;
    store = out.1.is.store;
    own = out.1.is.own;
    moves = out.1.is.moves;
    files = files;
    beside = at_stage place tells (beside new q.limbo) moving files after Published
        (subst (λ (s : Stores). RunsBeside place tells (beside new q.limbo) moving files s) (sym by)
        (runs_listed place tells all (beside new q.limbo) moving files held same_g (next_high move.store) is_copied.is.all (leaves_ahead tells all (beside new q.limbo) held move.store files keeps.leaves) out.1.is.beside));
    parts = out.1.is.parts;
    to = out.1.is.to;
    stage = record { stage = refl; all = is_copied.is.all; parts = copied_still after by };
    copied = λ told copying. absurd (cc (copying));
    into = λ told. into_listed after by (out.1.is.into told);
  }

  sound_listed : IsSound (with_listed n out.0 m)
  sound_listed = move_step_sound n m (with_listed n move m) answer.Published out.1.sound (runs answer.Published (ap no_move out.1.here) (no_doubt out.1.rests.settled) (ap no_move out.1.here) (publishes move out.1.here stage_is refl) (omega arith))

  -- the change is the one that the move may make
  change_is : change_of m (get m.moves n) ≡ Some (listing out.0)
  change_is = ap (change_of m) out.1.here ∙ ap (λ (stage : Stage). change_at m stage move) stage_is

  -- the archive without the move, while the change stands in doubt
  doubting : (new : Seen) → granularities new.manifests ≡ granularities q.at.manifests → Frame tells all (beside new q.limbo) → Has tells new held ⊎ InDoubt tells new q.limbo held (record mo { doubt = Some change; faults = new.faults })
      → Stands tells (record q { at = new; doubt = Some kind.Published }) (record mo { doubt = Some change; faults = new.faults })
  doubting new same_g keeps is_open =
      let w = out.1.rests.stands in
      let sound = with_doubt m.rule m.told m.rows m.limbo m.pins (ends_move n m.moves) m.doubt change w.sound (step_may n m change out.1.sound change_is) in
      doubt_stands tells q mo w new q.kept (Some kind.Published) (Some change) same_g keeps sound w.rows (move.row, move.store, move.copied, refl) alone is_open

  -- THE CALL

  module _ (new : Seen) (limbo : List Retired) (pinned : FinMap nat_cmp PinOf) (same_limbo : limbo ≡ q.limbo) (same_pins : pinned ≡ q.pinned) (result : Result (Unit {0}) DiskErr) (told_place : ℕ) (is_place : told_place ≡ running.store) (says : StoresListed tells told_place running.moving q new limbo result) where
    abbrev then_all : SeenAll
    then_all = beside new q.limbo

    s : StoresListed tells place running.moving q new q.limbo result
    s = subst (λ (l : List Retired). StoresListed tells place moving q new l result) same_limbo (subst (λ (k : ℕ). StoresListed tells k moving q new limbo result) (is_place ∙ place_is) says)

    call : ChangesGiven (RunsBeside place tells (beside q.at q.limbo) running.moving files) tells (publishing place files) q.at new (end_of_disk result)
    call = s.changes files

    same_g : granularities new.manifests ≡ granularities q.at.manifests
    same_g = call.costs.granularity

    -- how it ends
    ends : (given : Result (Unit {0}) DiskErr) → result ≡ given → EndsFrom tells (publishing place files) new held (end_of_disk given)
    ends given is = subst (λ (x : Result (Unit {0}) DiskErr). EndsFrom tells (publishing place files) new held (end_of_disk x)) is (call.ends held has out.1.is.beside)

    -- at each moment the disk has what is durable, or that with the copies listed
    passes : IsTrue tells → Passes (λ a image. HoldsStep (granularities q.at.manifests) n m image) q.at.past new.past
    passes told =
        passes_weaker (HoldsBy (granularities q.at.manifests) (ListsAlso place files) held) (λ a image. HoldsStep (granularities q.at.manifests) n m image) q.at.past new.past (call.any_moment told held has out.1.is.beside) (λ a image left holds. elim holds [
          | inl same ↦ inl (record { stores = held; holds = same; durable = out.1.rests.stands.store.holds; stands = stands_told })
          | inr made ↦ inr (change, change_is, record { stores = made.0; holds = made.2; durable = durable made.0 made.1; stands = λ on. subst IsTrue (sym (stand made.0 made.1)) (stands_told on) })
        ])

    -- what the archive comes to without the move, where it is listed
    abbrev Reached : Stores → Option Doubt → Option Change → Type 0
    Reached after d o = (r : Rests tells (record q { at = new; doubt = d }) (record (changes.made [] change mo) { doubt = o; faults = new.faults })) × (r.stands.store.before ≡ after)

    reached : (a : Unit {0}) → result ≡ Ok a → (after : Stores) × ListsAlso place files held after × Reached after q.doubt m.doubt
    reached a is =
        let w = out.1.rests.stands in
        let end = ends (Ok a) is in
        let after = end.0 in
        let own = no_own q.doubt (subst (λ (o : Option Change). IsDoubtOf q.doubt o) out.1.rests.settled w.doubt) in
        let was = doubting q.at refl (frame_same tells all) (inl has) in
        let at_none : Reached after None None =
        made_at tells (record q { doubt = Some kind.Published }) (record mo { doubt = Some change; faults = q.at.faults }) was new q.kept same_g s.keeps q.tails change refl after
        (grew tells q mo w new same_g s.keeps after (stand after end.1) (grow after end.1)) (w.store.told ∙ ap (λ (b : Bool). tells && b) (sym (stand after end.1))) (durable after end.1) (record { other = λ none. refl; own = λ k state named. absurd (cc (named)) }) refl end.3 in
        (after, end.1, subst (λ (d : Option Doubt). Reached after d m.doubt) (sym own) (subst (λ (o : Option Change). Reached after None o) (sym out.1.rests.settled) at_none))

    -- HOW IT ENDS

    step : (d : Option Doubt) (later : List (Option (Running Moving))) (reply : Reply) → StepEnds tells n m (record q { at = new; doubt = d; slots = later }) reply → (reply ≡ answer.DiskFault → Rose q.at.faults new.faults) → LeavesMove tells (with_slots slots q) (MoveStep n) reply (record q { at = new; doubt = d; slots = later })
        → (IsWell reply → Tidies tells (with_slots slots q) (record q { at = new; doubt = d; slots = later })) → StepsOn tells n (with_slots slots q) m (record q { at = new; limbo = limbo; pinned = pinned; doubt = d; slots = later }) reply
    step d later reply is cause moves tidy =
        let on : StepsOn tells n (with_slots slots q) m (record q { at = new; doubt = d; slots = later }) reply = record { ends = is; any_moment = passes; faults = call.costs.faults; cause = cause; moves = moves; tidy = tidy; files = λ name bytes kept. s.keeps.shown name bytes } in
        with_same (λ (p : Parts). StepsOn tells n (with_slots slots q) m p reply) (record q { at = new; doubt = d; slots = later }) limbo pinned same_limbo same_pins on

    pub on_done : (a : Unit {0}) (then_moving : Moving) (later : List (Option (Running Moving))) → result ≡ Ok a → then_moving ≡ record running.moving { stage = Published } → ((k : ℕ) → at later k ≡ cond (k == n) (Some (record running { moving = then_moving })) (at q.slots k))
        → StepsOn tells n (with_slots slots q) m (record q { at = new; limbo = limbo; pinned = pinned; slots = later }) answer.Published
    on_done a then_moving later is now back =
        let slots_are : (k : ℕ) → at later k ≡ cond (k == n) (Some listed_running) (at q.slots k) = λ k. back k ∙ ap (λ (x : Moving). cond (k == n) (Some (record running { moving = x })) (at q.slots k)) now in
        let to = reached a is in
        let after = record (with_listed n move m) { faults = new.faults } in
        let rests = put_back tells (record q { at = new }) after (ends_move n m.moves) n listed_move listed_running later (put_in m.moves n listed_move) sound_listed to.2.0 (subst (λ (x : Stores). IsMoveOf tells then_all m.told then.rows then.limbo x listed_move listed_running) (sym to.2.1) (is_listed new to.0 same_g s.keeps to.1)) slots_are in
        let tidy = subst (λ (x : Result (Unit {0}) DiskErr). OnOk x (IsSettled new × MakesNoStray tells all (targets moving) then_all [])) is s.tidy in
        step q.doubt later answer.Published (went_on after (publishes move out.1.here stage_is refl) rests.stands) (λ none. absurd (cc (none))) (λ name at_byte told. absurd (cc (told)))
        (λ done. tidy_step tells (with_slots slots q) (record q { at = new; slots = later }) n running (Some listed_running) (targets moving) [] takes.ran (put_after n (Some listed_running) slots q.slots later slots_are takes.others) tidy.0 tidy.1 (λ on x there. there) (λ x there. absurd (no_names x there)))

    -- after a fault the move has ended
    pub on_failed : result ≡ Err Fault → StepsOn tells n (with_slots slots q) m (record q { at = new; limbo = limbo; pinned = pinned; doubt = Some kind.Published }) answer.DiskFault
    on_failed is =
        let open_so : Has tells new held ⊎ InDoubt tells new q.limbo held (record mo { doubt = Some change; faults = new.faults }) = elim (ends (Err Fault) is) [
          | inl now ↦ inl now
          | inr made ↦ inr (record { change = change; is = refl; after = made.0; doubts = made.2; stand = stand made.0 made.1; go = grow made.0 made.1; holds = durable made.0 made.1 })
        ] in
        step (Some kind.Published) q.slots answer.DiskFault (is_doubted change change_is (doubting new same_g s.keeps open_so)) (λ same. call.costs.cause (subst (λ (x : Result (Unit {0}) DiskErr). IsFailed (end_of_disk x)) (sym is) tt)) (λ name at_byte told. absurd (cc (told))) (λ none. absurd none)

    -- where memory was wanting the move goes on as it was
    pub on_spent : (then_moving : Moving) (later : List (Option (Running Moving))) → result ≡ Err Memory → then_moving ≡ running.moving → ((k : ℕ) → at later k ≡ cond (k == n) (Some (record running { moving = then_moving })) (at q.slots k))
        → StepsOn tells n (with_slots slots q) m (record q { at = new; limbo = limbo; pinned = pinned; slots = later }) answer.Memory
    on_spent then_moving later is now back =
        let slots_are : (k : ℕ) → at later k ≡ cond (k == n) (Some running) (at q.slots k) = λ k. back k ∙ ap (λ (x : Moving). cond (k == n) (Some (record running { moving = x })) (at q.slots k)) now in
        let rests = put_back tells q m (ends_move n m.moves) n move running later (put_again m.moves n move out.1.here) out.1.sound out.1.rests out.1.is slots_are in
        step q.doubt later answer.Memory (was_spent (rests_again tells (record q { slots = later }) m rests new same_g s.keeps (ends (Err Memory) is))) (λ none. absurd (cc (none))) (λ name at_byte told. absurd (cc (told))) (λ none. absurd none)

-- The act by which a move goes on: how it ends, and what a crash within it leaves.

-- WHERE THE DISK HAS COUNTED ANOTHER NUMBER

-- the count of faults is nothing to a step
module _ (n : ℕ) (m : Machine) (f : ℕ) where
  abbrev counted : Machine
  counted = record m { faults = f }

  retired_goes : (i to : ℕ) (store : _) (x : RowFile) → IsRetired counted i store to x → IsRetired m i store to x
  retired_goes i to store x is = record { row = is.row; here = is.here; own_store = is.own_store; moves = is.moves; whole = is.whole; before = is.before; partition = is.partition; samples = is.samples; some = is.some }

  all_retired : (i to : ℕ) (store : _) (into : List RowFile) → AllByRecursion (IsRetired counted i store to) into → AllByRecursion (IsRetired m i store to) into
  all_retired i to store [] all = tt
  all_retired i to store (x ∷ into) all = (retired_goes i to store x all.0, all_retired i to store into all.1)

  pinned_goes : (into : List RowFile) → AllByRecursion (IsPinned counted) into → AllByRecursion (IsPinned m) into
  pinned_goes [] all = tt
  pinned_goes (x ∷ into) all = (record { number = all.0.number; pin = all.0.pin; here = all.0.here; names = all.0.names }, pinned_goes into all.1)

  pub step_goes : (given : Reply) (new : Machine) → GoesOn n counted given new → GoesOn n m given new
  step_goes _ new (copies move first more next rest here stage left same) = copies move first more next rest here stage left same
  step_goes _ new (has_copied move xs here stage left same) = has_copied move xs here stage left same
  step_goes _ new (publishes move here stage same) = publishes move here stage same
  step_goes _ new (retires move into here stage covered may pinned same) = retires move into here stage covered
      (all_retired move.row move.to move.store into may.0, record { stays = may.1.stays }, may.2) (λ told. pinned_goes into (pinned told)) same
  step_goes _ new (again move len copied here stage grown less part same) = again move len copied here stage grown less
      (λ told row at_row. let is = part told row at_row in record { part = is.part; head_len = is.head_len; partition = is.partition; of_move = is.of_move; older = is.older; grew = is.grew; listed = is.listed; published = is.published }) same
  step_goes _ new (damaged name at never same) = damaged name at never same

-- how a move goes on isn't told as want of memory
goes_tell : (n : ℕ) (m : Machine) (given : Reply) (new : Machine) → GoesOn n m given new → given ≡ answer.Memory → ⊥
goes_tell n m _ new (copies move first more next rest here stage left same) told = cc (told)
goes_tell n m _ new (has_copied move xs here stage left same) told = cc (told)
goes_tell n m _ new (publishes move here stage same) told = cc (told)
goes_tell n m _ new (retires move into here stage covered may pinned same) told = cc (told)
goes_tell n m _ new (again move len copied here stage grown less part same) told = cc (told)
goes_tell n m _ new (damaged name at never same) told = cc (told)

-- THE MOVE THAT WAS TAKEN OUT

-- what is ready stays so
pub ready_fewer : (kept : List RowMemory) (rows : List RowState) (moves : FinMap nat_cmp MoveState) (n : ℕ) (d : Option Change) → IsReady kept rows moves d → IsReady kept rows (remove moves n) d
ready_fewer kept rows moves n None ready = tt
ready_fewer kept rows moves n (Some (AddsRow name about)) ready = ready
ready_fewer kept rows moves n (Some (SetsState i state)) ready = ready
ready_fewer kept rows moves n (Some (Renames i name)) ready = ready
ready_fewer kept rows moves n (Some (Appends batch)) ready = ready
ready_fewer kept rows moves n (Some (Publishes i store copied)) ready = λ runs. ready (had_running moves n i runs)
ready_fewer kept rows moves n (Some (Unlists i store to)) ready = λ runs. ready (had_running moves n i runs)

-- a sound machine is so without one of its moves
without_sound : (n : ℕ) (m : Machine) → IsSound m → no_move (get m.moves n) ≡ None → IsSound (without_move n m)
without_sound n m sound runs_it = move_step_sound n m (record (without_move n m) { faults = m.faults + 1 }) answer.DiskFault sound (faults_first runs_it refl (omega arith))

-- a doubt is no matter of it
doubt_without : (tells : Bool) (n : ℕ) (at : Seen) (limbo : List Retired) (before : Stores) (m : Machine) → Has tells at before ⊎ InDoubt tells at limbo before m → Has tells at before ⊎ InDoubt tells at limbo before (without_move n m)
doubt_without tells n at limbo before m (inl has) = inl has
doubt_without tells n at limbo before m (inr d) = inr (record { change = d.change; is = d.is; after = d.after; doubts = d.doubts; stand = d.stand; go = go_fewer tells (beside at limbo) m.told m.rows m.moves (remove m.moves n) before d.after (λ row runs. had_running m.moves n row runs) d.change d.go; holds = d.holds })

-- so the archive stands for what it stood for, without the move
pub stands_without : (tells : Bool) (n : ℕ) (p : Parts) (left : List (Option (Running Moving))) (m : Machine) → ((k : ℕ) → table.at left k ≡ cond (k == n) None (table.at p.slots k)) → no_move (get m.moves n) ≡ None → Stands tells p m → Stands tells (with_slots left p) (without_move n m)
stands_without tells n p left m others runs_it s =
    stands_moves tells p m s left (ends_move n m.moves) (without_sound n m s.sound runs_it) (ready_fewer p.kept m.rows m.moves n m.doubt s.ready) (moves_without tells (beside p.at p.limbo) m.told m.rows m.limbo s.store.before m.moves p.slots left n others s.store.moves)
    (doubt_without tells n p.at p.limbo s.store.before m s.store.is_open)

-- THE ACT

module _ (tells : Bool) (who n : ℕ) (p : Parts) where
  abbrev refuse : Machine → Option Reply
  refuse m = no_move (get m.moves n)

  abbrev step_change : Machine → Option Change
  step_change m = change_of m (get m.moves n)

  abbrev Ran : Machine → Reply → Parts → Type 0
  Ran m given q = (next : Machine) × WithWants (NoneRefuses refuse) (MoveStepStep n) m given next × Stands tells q next

  -- a move that isn't in the table isn't the machine's
  none_runs : (q : Parts) → table.at q.slots n ≡ None → (m : Machine) → Stands tells q m → refuse m ≡ Some answer.NoMove
  none_runs q none m s = by_get (get m.moves n) refl
    where
      by_get : (o : Option MoveState) → get m.moves n ≡ o → no_move o ≡ Some answer.NoMove
      by_get None is = refl
      by_get (Some move) is = let has = s.store.moves.each n move is in absurd (let bad = sym none ∙ has.there in cc (bad))

  -- one that is, is
  one_runs : (q : Parts) → is_some (table.at q.slots n) ≡ true → (m : Machine) → Stands tells q m → refuse m ≡ None
  one_runs q some m s = by_get (get m.moves n) refl
    where
      by_get : (o : Option MoveState) → get m.moves n ≡ o → no_move o ≡ None
      by_get None is = absurd (let bad = sym some ∙ ap is_some (s.store.moves.none n is) in cc (bad))
      by_get (Some move) is = refl

  pub not_running : is_some (table.at p.slots n) ≡ false → Acted tells who (MoveStep n) p answer.NoMove p
  not_running none = record {
    step = λ m s. (m, (refused_at_once answer.NoMove (none_runs p (is_none (table.at p.slots n) none) m s), λ told. absurd (cc (told))), s);
    crash = crash_none tells refuse step_change (λ m f. refl) (λ m f. refl) p;
    files = λ name bytes kept shown. shown;
    pins = tt;
    moves = λ name place told. absurd (cc (told));
    tidy = λ settled well. tidy_none tells p p refl refl settled;
  }
    where
      is_none : (o : Option (Running Moving)) → is_some o ≡ false → o ≡ None
      is_none None is = refl
      is_none (Some running) is = absurd (cc (is))

  module _ (there : is_some (table.at p.slots n) ≡ true) (q : Parts) (done : Result (Unit {0}) DiskErr) (settling : Settling tells p q (end_of_disk done)) (same_files : IsSettled p.at → files_of q ≡ files_of p) where
    passed : (m : Machine) → Stands tells p m → refuse m ≡ None
    passed = one_runs p there

    more : p.at.faults ≤ q.at.faults
    more = settling.settles.faults

    crash_cut : LeavesByAct tells refuse step_change p q
    crash_cut = crash_settling tells refuse step_change (λ m f. refl) (λ m f. refl) p q settling.settles.any_moment

    -- THE DOUBT COULDN'T BE SETTLED

    pub cut_by_fault : (left : List (Option (Running Moving))) → done ≡ Err Fault → StandsStill tells p q → ((k : ℕ) → table.at left k ≡ cond (k == n) None (table.at q.slots k)) → Acted tells who (MoveStep n) p answer.DiskFault (with_slots left q)
    cut_by_fault left failed still others = record {
      step = λ m s.
          let rises : Rose m.faults q.at.faults = rw s.faults (settling.settles.cause (subst (λ (x : Result (Unit {0}) DiskErr). IsFailed (end_of_disk x)) (sym failed) tt)) in
          (record (without_move n m) { faults = q.at.faults }, (faults_first (passed m s) refl rises, λ told. absurd (cc (told))), stands_without tells n q left (record m { faults = q.at.faults }) others (passed m s) (still m s));
      crash = crash_cut;
      files = λ name bytes kept. fronts_shown tells (files_of p) (files_of q) settling.fronts name bytes;
      pins = tt;
      moves = λ name place told. absurd (cc (told));
      tidy = λ settled none. absurd none;
    }

    pub cut_by_memory : StandsStill tells p q → Acted tells who (MoveStep n) p answer.Memory q
    cut_by_memory still = record {
      step = λ m s. let was : m.faults ≡ p.at.faults = s.faults in (record m { faults = q.at.faults }, (wants_memory refl (omega (arith, was, more)), λ told. before_settling (passed m s) refl), still m s);
      crash = crash_cut;
      files = λ name bytes kept. fronts_shown tells (files_of p) (files_of q) settling.fronts name bytes;
      pins = tt;
      moves = λ name place told. absurd (cc (told));
      tidy = λ settled none. absurd none;
    }

    -- IT WAS SETTLED

    module _ (settles : SettlesTo tells p q) where
      pub gone_then : (left : List (Option (Running Moving))) → ((k : ℕ) → table.at left k ≡ cond (k == n) None (table.at q.slots k)) → table.at q.slots n ≡ None → Acted tells who (MoveStep n) p answer.NoMove (with_slots left q)
      gone_then left others none = record {
        step = λ m s.
            let mid = settles m s in
            let at_q : Machine = record mid.0 { faults = q.at.faults } in
            let was : m.faults ≡ p.at.faults = s.faults in
            (at_q, (refused answer.NoMove (passed m s) mid.1 (none_runs q none at_q mid.2.stands) refl (omega (arith, was, more)), λ told. absurd (cc (told))), slots_stand tells q at_q left same mid.2);
        crash = crash_cut;
        files = λ name bytes kept. fronts_shown tells (files_of p) (files_of q) settling.fronts name bytes;
        pins = tt;
        moves = λ name place told. absurd (cc (told));
        tidy = λ settled well. tidy_slots tells p (with_slots left q) (same_files settled) (λ k. same k ∙ ap (λ (slots : List (Option (Running Moving))). table.at slots k) settling.slots) settled;
      }
        where
          same : (k : ℕ) → table.at left k ≡ table.at q.slots k
          same = none_taken n q.slots left none others

      module _ (running : Running Moving) (out : table.at q.slots n ≡ Some running) (new : Parts) (given : Reply) (on : (m : Machine) → Rests tells q m → StepsOn tells n q m new given) where
        went : (m : Machine) → Stands tells p m → Ran m given new
        went m s =
            let mid = settles m s in
            let at_q : Machine = record mid.0 { faults = q.at.faults } in
            let step = on at_q mid.2 in
            by_end mid.0 mid.1 (one_runs q (ap is_some out) at_q mid.2.stands) given step.faults step.cause step.ends
          where
            by_end : (mid : Machine) → Settles m mid → refuse mid ≡ None → (r : Reply) → q.at.faults ≤ new.at.faults → (r ≡ answer.DiskFault → Rose q.at.faults new.at.faults) → StepEnds tells n (record mid { faults = q.at.faults }) new r → Ran m r new
            by_end mid settled free _ later cause (was_spent stands) =
                let first : m.faults ≡ p.at.faults = s.faults in
                (record mid { faults = new.at.faults }, (wants_memory_settled (passed m s) settled refl (omega (arith, first, more, later)), λ told. behind_settling (passed m s) settled free refl), stands)
            by_end mid settled free _ later cause (has_failed stands) =
                let rises : Rose m.faults new.at.faults = rw s.faults (rose_after p.at.faults q.at.faults new.at.faults more (cause refl)) in
                (record (without_move n mid) { faults = new.at.faults }, (faults_between (passed m s) settled refl rises, λ told. absurd (cc (told))), stands)
            by_end mid settled free _ later cause (is_doubted c own stands) =
                let rises : Rose m.faults new.at.faults = rw s.faults (rose_after p.at.faults q.at.faults new.at.faults more (cause refl)) in
                (record (without_move n mid) { doubt = Some c; faults = new.at.faults }, (faults_within c (passed m s) settled free own refl rises, λ told. absurd (cc (told))), stands)
            by_end mid settled free _ later cause (not_removed r next gone goes stands) =
                let rises : Rose m.faults new.at.faults = rw s.faults (rose_after p.at.faults q.at.faults new.at.faults more (cause refl)) in
                let now : next.faults ≡ new.at.faults = stands.faults in
                (next, (faults_removing r gone (passed m s) settled free (step_goes n mid q.at.faults r next goes) (subst (λ (k : ℕ). Rose m.faults k) (sym now) rises), λ told. absurd (cc (told))), stands)
            by_end mid settled free r later cause (went_on next goes stands) =
                let first : m.faults ≡ p.at.faults = s.faults in
                let now : next.faults ≡ new.at.faults = stands.faults in
                let goes_on = step_goes n mid q.at.faults r next goes in
                (next, (runs r (passed m s) settled free goes_on (omega (arith, first, more, later, now)), λ told. absurd (goes_tell n mid r next goes_on told)), stands)

        -- from one that the archive stood for all the rest is known
        pub moves_on : (m : Machine) → Stands tells p m → Acted tells who (MoveStep n) p given new
        moves_on m s = record {
          step = went;
          crash = λ m told s.
              let mid = settles m s in
              let at_q : Machine = record mid.0 { faults = q.at.faults } in
              let gs = granularities p.at.manifests in
              let second = subst (λ (g : List Granularity). Passes (λ a image. HoldsStep g n at_q image) q.at.past new.at.past) settling.granularity ((on at_q mid.2).any_moment told) in
              let free : refuse mid.0 ≡ None = one_runs q (ap is_some out) at_q mid.2.stands in
              passes_then (λ a image. LeavesWithin refuse step_change gs m image) (λ a image. HoldsStep gs n at_q image) p.at.past q.at.past new.at.past (crash_cut m told s) second (λ a b image was within left holds. elim holds [
                | inl same ↦ (mid.0, settled_there mid.1, same)
                | inr with_it ↦ (made [] with_it.0 mid.0, with_change with_it.0 mid.1 free with_it.1, with_it.2)
              ]);
          files = λ name bytes kept was. step.files name bytes (subst (λ (pins : FinMap nat_cmp PinOf). IsKeptName new.at pins [] name) (sym settling.pins) kept) (fronts_shown tells (files_of p) (files_of q) settling.fronts name bytes was);
          pins = tt;
          moves = λ name place told.
              let is = step.moves name place told in
              record {
                running = is.running;
                ran = ap (λ (slots : List (Option (Running Moving))). table.at slots n) (sym settling.slots) ∙ is.ran;
                part = is.part;
                of_move = is.of_move;
                manifest = is.manifest;
                here = is.here;
                entry = is.entry;
                listed = is.listed;
                own_row = is.own_row;
                own_part = is.own_part;
                named = is.named;
                within = is.within;
                bad = is.bad;
                numbered = is.numbered;
                settled = is.settled;
                same_rows = λ settled. (let same = quiet settled in is.same_rows (subst IsSettled (sym same) settled) ∙ ap (λ (x : Seen). x.catalogue.rows) same);
                same_list = λ settled before there. (let same = quiet settled in is.same_list (subst IsSettled (sym same) settled) before (ap (λ (x : Seen). slice_get x.manifests (is.running.store - 1)) same ∙ there));
              };
          tidy = λ settled well. tidy_then tells p q new (same_files settled) settling.slots (step.tidy well);
        }
          where
            step : StepsOn tells n q (record (settles m s).0 { faults = q.at.faults }) new given
            step = on (record (settles m s).0 { faults = q.at.faults }) (settles m s).2

            quiet : IsSettled p.at → q.at ≡ p.at
            quiet settled = ap (λ (all : SeenAll). all.stores) (same_files settled)
