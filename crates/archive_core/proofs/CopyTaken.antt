-- A move that was taken out of the table copies: a step of the machine, and what the archive stands for then.
use Rattle.std.proofs.Common.{◌≡◌, ◌≢◌, inl, inr, ℕ, ◌+◌, ◌-◌, ◌<◌, ◌≤◌, List, [], ◌∷◌, ◌++◌, length, Bool, true, false, cond, Option, Some, Result, Ok, Err, refl, sym, ◌∙◌, ap, subst, arith, append-nil, map}
use Rattle.std.specs.FinMap.{FinMap, get}
use Rattle.std.specs.Ordering.{nat_cmp}
use Rattle.std.specs.Prelude.{◌==◌, Contains, IfOk, IsTrue, OnErr, slice_get, OnOk}
use Rattle.std.proofs.lemmas.Bool.Decides.{nat_tests}
use Rattle.std.proofs.lemmas.List.Elements.{All-contains}
use Rattle.disk_model.specs.Files.{Name, Rose}
use Rattle.disk_model.specs.Past.{MayLeave, Passes}
use Rattle.disk_model.specs.declared.disk.DiskErr.{DiskErr}
use Rattle.disk_model.specs.declared.disk.DiskErr.TheVariants.{Fault, Memory}
use Rattle.disk_model.proofs.Passing.{passes_weaker}
use Rattle.etl_mover.specs.Move.{Moving, part_file}
use Rattle.etl_mover.specs.declared.moving.Stage.TheVariants.{Copying, Published}
use Rattle.partition_names.specs.Path.{path_of}
use Rattle.partition_names.proofs.PathLemmas.{one_path}
use Rattle.pins.specs.Pieces.{PinOf}
use Rattle.pv_catalog.specs.declared.row.Row.{Row}
use Rattle.moves.specs.Table.{at}
use Rattle.moves.specs.declared.table.Running.{Running}
use Rattle.store_manifest.specs.Manifest.{ManifestState}
use Rattle.durable_write.specs.Ends.{IsFailed, end_of_disk}
use Rattle.durable_write.specs.Flush.{put_all}
use Rattle.durable_write.specs.Held.{Filed, IsListed, file_of, entry_of, samples_of}
use Rattle.tier_store.specs.Change.{Has, HoldsBy}
use Rattle.tier_store.specs.Copying.{CopiesAmong, CopiesBeside, LeavesOthers, MovesOn, NoneOfMove, SaysCopied, CopiesNext, KnowsCopied, left_to_copy, samples_ahead}
use Rattle.tier_store.specs.Limbo.{LimboStands, staying}
use Rattle.tier_store.specs.Moving.{names_of, RunsBeside}
use Rattle.tier_store.specs.Pinned.{KeepsShown, SeenAll, beside}
use Rattle.tier_store.specs.Revival.{AreWhole, KeepsWhole}
use Rattle.tier_store.specs.Seen.{Seen, granularities, IsSettled}
use Rattle.tier_store.specs.Stores.{Stores, list_at}
use Rattle.tier_store.specs.declared.copying.CopyEnd.{CopyEnd}
use Rattle.tier_store.specs.declared.limbo.Retired.{Retired}
use Rattle.tier_store.proofs.RunningMoves.{later_names}
use Rattle.tier_store.proofs.Places.{granularity_at, manifest_at}
use Rattle.act_model.specs.Machine.{Machine, MoveState, Stage, Copies, HasCopied, HasPublished}
use Rattle.act_model.specs.MoveBegin.{with_move}
use Rattle.act_model.specs.MoveStep.{copies as copies_more, ends_move, moved, without_move, GoesOn, has_copied, damaged, RemainingIs, no_move, remaining}
use Rattle.act_model.specs.Reply.{Reply}
use Rattle.act_model.specs.Rows.{Store, next_store, RowState, tier}
use Rattle.act_model.specs.Rule.{index_of}
use Rattle.act_model.specs.declared.acts.Act.TheVariants.{MoveStep}
use Rattle.archive_core.specs.MoveTies.{AreMovesOf, IsAtStage, IsMoveOf, GoInto, HasCopiedParts, HasCopies, end_ahead, ends_from}
use Rattle.archive_core.specs.Leaving.{LeavesMove, TellsDamage}
use Rattle.archive_core.specs.Parts.{Parts}
use Rattle.archive_core.specs.Growing.{HasRunning}
use Rattle.archive_core.specs.Memory.{AreRowsOf}
use Rattle.archive_core.specs.Stands.{Rests}
use Rattle.archive_core.specs.Stepping.{HoldsStep, StepEnds, StepsOn, TakesMove, has_failed, was_spent, went_on, with_slots}
use Rattle.archive_core.specs.Taking.{Taken}
use Rattle.archive_core.proofs.Batches.{told_stands, put_after, tidy_step}
use Rattle.archive_core.proofs.LimboTying.{limbo_beside, names_stay, pins_stay}
use Rattle.archive_core.proofs.MoveLimbo.{HaveMachine, GoTogether}
use Rattle.archive_core.proofs.MoveChoice.{ahead_own, next_high, next_low, next_place, source_low}
use Rattle.archive_core.proofs.MovesKept.{goes_still, moves_stay, same_later, same_put}
use Rattle.archive_core.proofs.Lists.{of_all, element, map_out}
use Rattle.archive_core.proofs.Settled.{rests_has, stands_after, with_same}
use Rattle.archive_core.proofs.MovedParts.{of_part, told_alone, copied_parts, ends_same, parts_are, parts_end}
use Rattle.archive_core.proofs.MoveTable.{put_back, take_out, left_was, put_again, put_in, put_there}
use Rattle.std.proofs.lemmas.Option.{same_Some}
use Rattle.series_model.specs.Series.{end_of, since}
use Rattle.series_model.specs.declared.sample.Sample.{Sample}
use Rattle.store_manifest.specs.declared.entry.Entry.{Entry}
use Rattle.tier_store.specs.Retiring.{oldest}
use Rattle.tier_store.specs.Reviving.{AreBack, past}
use Rattle.act_model.specs.Changes.{no_doubt}
use Rattle.act_model.specs.Limbo.{files_of, put}
use Rattle.act_model.specs.Outcome.{runs}
use Rattle.act_model.specs.Sound.{IsSound, CopiesOf, is_copying}
use Rattle.act_model.proofs.MoveActs.{move_step_sound}
use Rattle.archive_core.specs.MoveChoice.{move_end}
use Rattle.archive_core.proofs.MoveCopying.{goes_with, go_into, left_remains, put_more}
use Rattle.archive_core.proofs.Windows.{index_low, all_in}
use Rattle.durable_write.specs.Held as held_files
use Rattle.tier_store.specs.declared.copying.CopyEnd.TheVariants as ends
use Rattle.act_model.specs.declared.acts.Answer.TheVariants as answer
use Rattle.tier_store.specs.Revival as revival
use Rattle.tier_store.specs.Stored.{HoldsAll}
use Rattle.tier_store.specs.Given.{ChangesGiven}
use Rattle.tier_store.specs.Strays.{MakesNoStray, targets}
use Rattle.archive_core.specs.Strays.{IsWell, Tidies}

-- What the stores say of a step of copying.
pub record StoresCopied (tells : Bool) (place : ℕ) (moving then : Moving) (q : Parts) (new : Seen) (limbo : List Retired) (result : Result CopyEnd DiskErr) : Type 0 where
  pub copies : (files retired : List Filed) (held : Stores) → Has tells q.at held → CopiesAmong place tells (beside q.at q.limbo) retired moving files held
      → Has tells new held × IfOk result (SaysCopied 1048576 place tells (beside new limbo) retired moving then files held) × OnErr result (CopiesBeside place tells (beside new limbo) then files held)
  pub changes : (files retired : List Filed) → ChangesGiven (CopiesAmong place tells (beside q.at q.limbo) retired moving files) tells staying q.at new (end_of_disk result)
  pub moves_on : MovesOn moving then
  pub shown : KeepsShown tells (beside q.at q.limbo) (beside new limbo)
  pub leaves : LeavesOthers moving tells (beside q.at q.limbo) (beside new limbo)
  pub whole : KeepsWhole tells (beside q.at q.limbo) (beside new limbo)
  pub tidy : OnOk result (IsSettled new × MakesNoStray tells (beside q.at q.limbo) (targets moving) (beside new limbo) (targets then))

-- the stage of a move that copies is the machine's
at_copying : (from to : ℕ) (tells : Bool) (all : SeenAll) (told : Bool) (files : List Filed) (before : Stores) (moving : Moving) (stage : Stage) → moving.stage ≡ Copying → moving.at ≢ length moving.parts → IsAtStage from to tells all told files before moving stage → stage ≡ Copies
at_copying from to tells all told files before moving Copies copies left is = refl
at_copying from to tells all told files before moving HasCopied copies left is = absurd (left is.is.all)
at_copying from to tells all told files before moving HasPublished copies left is = absurd (let both = sym copies ∙ is.stage in cc (both))

-- one that isn't published and has a part left copies
pub copying_there : (tells : Bool) (q : Parts) (n : ℕ) (running : Running Moving) (slots : List (Option (Running Moving))) (m : Machine) → TakesMove n running slots q.slots → Rests tells (with_slots slots q) m → (running.moving.stage ≡ Published → ⊥) → running.moving.at < length running.moving.parts
    → (running.moving.stage ≡ Copying) × (running.moving.at ≢ length running.moving.parts)
copying_there tells q n running slots m takes r unlisted low = by_stage taken.0.stage taken.1.is.stage
  where
    taken : (move : MoveState) × Taken tells q n running m move
    taken = take_out tells (with_slots slots q) m r n running q.slots takes.ran takes.others

    by_stage : (stage : Stage) → IsAtStage (index_of taken.0.store) (index_of (next_store taken.0.store)) tells (beside q.at q.limbo) m.told taken.1.is.files taken.1.rests.stands.store.before running.moving stage → (running.moving.stage ≡ Copying) × (running.moving.at ≢ length running.moving.parts)
    by_stage Copies is = (is.stage, is.left)
    by_stage HasCopied is = absurd (let whole_move = is.is.all in omega (arith, low, whole_move))
    by_stage HasPublished is = absurd (unlisted is.stage)

module _ (tells : Bool) (q : Parts) (n : ℕ) (running : Running Moving) (slots : List (Option (Running Moving))) (m : Machine) (takes : TakesMove n running slots q.slots) (r : Rests tells (with_slots slots q) m) (copies : running.moving.stage ≡ Copying) (left : running.moving.at ≢ length running.moving.parts) (seen_now : IsTrue tells → MayLeave q.at.past q.at.files) where
  out : (move : MoveState) × Taken tells q n running m move
  out = take_out tells (with_slots slots q) m r n running q.slots takes.ran takes.others

  abbrev move : MoveState
  move = out.0

  abbrev held : Stores
  held = out.1.rests.stands.store.before

  abbrev from : ℕ
  from = index_of out.0.store

  abbrev to : ℕ
  to = index_of (next_store out.0.store)

  abbrev files : List Filed
  files = out.1.is.files

  abbrev all : SeenAll
  all = beside q.at q.limbo

  stage_is : out.0.stage ≡ Copies
  stage_is = at_copying from to tells all m.told files held running.moving move.stage copies left out.1.is.stage

  copying : is_copying out.0.stage ≡ true
  copying = ap is_copying stage_is

  has : Has tells q.at held
  has = rests_has tells q (without_move n m) out.1.rests

  have : HaveMachine tells q.at q.limbo m held
  have = let s = out.1.rests.stands in record { has = has; seen_now = seen_now; holds = s.store.holds; told_is = s.store.told; sound = out.1.sound; tie = s.limbo }

  rule : m.rule.granularity ≡ granularities q.at.manifests
  rule = out.1.rests.stands.rule.granularity

  stands_told : m.told ≡ true → IsTrue held.stands
  stands_told = told_stands tells m.told held.stands out.1.rests.stands.store.told

  next : to ≡ from + 1
  next = next_place move.store out.1.is.moves

  -- the files in limbo of the next store
  abbrev retired : List Filed
  retired = (out.1.rests.stands.store.whole to (next_high move.store)).0

  whole : AreWhole to tells q.at q.limbo held.stands retired
  whole = (out.1.rests.stands.store.whole to (next_high move.store)).1

  among : CopiesAmong from tells all retired running.moving files held
  among = (subst (IsAtStage from to tells all m.told files held running.moving) stage_is out.1.is.stage, subst (λ (i : ℕ). AreWhole i tells q.at q.limbo held.stands retired) next whole)

  -- WHAT THE STORES' CALL ASKS

  pub some_store : 1 ≤ running.store
  some_store = let is = out.1.is.store in omega (arith, is)

  own_place : (place : ℕ) → place ≡ running.store - 1 → place ≡ from
  own_place place is = let own = out.1.is.store in omega (arith, is, own)

  pub within : (place : ℕ) → place ≡ running.store - 1 → place < 2
  within place is = let low = source_low move.store out.1.is.moves in let own = own_place place is in omega (arith, low, own)

  pub limbo_stands : LimboStands q.at q.limbo
  limbo_stands = out.1.rests.stands.limbo.stands

  pub runs_there : (place : ℕ) → place ≡ running.store - 1 → (fs : List Filed) × (among : List Filed) × (before : Stores) × Has tells q.at before × CopiesAmong place tells (beside q.at q.limbo) among running.moving fs before
  runs_there place is = (files, retired, held, has, subst (λ (k : ℕ). CopiesAmong k tells all retired running.moving files held) (sym (own_place place is)) among)

  -- WHAT IS LEFT TO COPY

  row_here : (r : RowState) × (slice_get m.rows out.0.row ≡ Some r)
  row_here = element m.rows move.row (out.1.sound.each_move n move out.1.here).here

  manifest : (store : Store) → (x : ManifestState) × (slice_get q.at.manifests (index_of store) ≡ Some x)
  manifest store = manifest_at q.at.manifests (index_of store) (let three = has.known.three in let low = index_low store in omega (arith, three, low))

  source : (x : ManifestState) × (slice_get q.at.manifests from ≡ Some x)
  source = manifest move.store

  source_lists : source.0.entries ≡ map entry_of (list_at from held)
  source_lists = (has.known.each from source.0 source.1).entries

  destination : (x : ManifestState) × (slice_get q.at.manifests to ≡ Some x)
  destination = manifest (next_store move.store)

  one_row : (r : RowState) → slice_get m.rows out.0.row ≡ Some r → row_here.0 ≡ r
  one_row r here = same_Some row_here.0 r (sym row_here.1 ∙ here)

  module _ (told : m.told ≡ true) where
    right : CopiesOf m.limbo row_here.0 out.0.row out.0.store out.0.copied
    right = (out.1.sound.each_move n move out.1.here).copied row_here.0 row_here.1 told copying

    has_now : HasCopies held m.limbo row_here.0 out.0 files
    has_now = out.1.is.copied told copying row_here.0 row_here.1

    module _ (more : List Filed) (copied rest : List Sample) (by : CopiesNext 1048576 from q.limbo retired running.moving files more held copied rest) where
      back_in : AreBack to q.limbo retired (put_all (list_at to held) files) by.back
      back_in = subst (λ (i : ℕ). AreBack i q.limbo retired (put_all (list_at i held) files) by.back) (sym next) by.in_limbo

      ends_now : out.0.to ≡ move_end held out.0.store out.0.row (length running.moving.parts)
      ends_now = out.1.is.to told ∙ (parts_end to tells all running.moving files held out.1.is.beside from next source.0 source_lists ∙ ap (λ (i : ℕ). move_end held move.store i (length running.moving.parts)) out.1.is.own)

      left_here : past by.back out.0.row (since (end_of (samples_of out.0.row (put_all (list_at to held) files))) (all_in (oldest from out.0.row (length running.moving.parts) held))) ≡ left_to_copy from running.moving by.back files held
      left_here = λ j. past by.back (sym out.1.is.own j) (since (end_of (samples_of (sym out.1.is.own j) (put_all (list_at (next j) held) files))) (all_in (oldest from (sym out.1.is.own j) (length running.moving.parts) held)))

      -- what is left is what remains
      what_remains : (r : RowState) → slice_get m.rows out.0.row ≡ Some r → remaining m r out.0 ≡ left_to_copy from running.moving by.back files held
      what_remains r here =
          ap (λ (x : RowState). remaining m x move) (sym (one_row r here))
          ∙ (sym (left_remains tells q.at q.limbo m held have rule told move destination.0 destination.1 row_here.0 row_here.1 running.moving out.1.is.own files out.1.is.beside has_now (out.1.is.into told) right retired whole by.back back_in (length running.moving.parts) ends_now) ∙ left_here)

      -- what is ahead then, by the row of the machine and the place of its store
      ahead_then : samples_of out.0.row (put_all (list_at to held) more) ≡ samples_of out.0.row (put_all (list_at to held) files) ++ (revival.revived by.back out.0.row copied ++ copied)
      ahead_then = (λ j. samples_of (sym out.1.is.own j) (put_all (list_at (next j) held) more)) ∙ (by.ahead ∙ (λ j. samples_of (out.1.is.own j) (put_all (list_at (sym next j) held) files) ++ (revival.revived by.back (out.1.is.own j) copied ++ copied)))

  -- OTHER MOVES

  -- none of the names of another row's files is of the move
  apart : (other : MoveState) (run : Running Moving) → other.row ≢ out.0.row → (is : IsMoveOf tells (beside q.at q.limbo) m.told m.rows m.limbo held other run) → NoneOfMove running.moving (names_of (index_of (next_store other.store) + 1, held.rows) is.files)
  apart other run differs is e within = differs (sym is.own ∙ (sym own ∙ (series ∙ out.1.is.own)))
    where
      k : ℕ
      k = index_of (next_store other.store)

      f : (h : Filed) × Contains is.files h × (file_of (k + 1, held.rows) h.entry ≡ part_file running.moving.destination running.moving.name e)
      f = map_out (λ (h : Filed). file_of (k + 1, held.rows) h.entry) is.files (part_file running.moving.destination running.moving.name e) within

      unit : (x : ManifestState) × (slice_get q.at.manifests k ≡ Some x)
      unit = manifest (next_store other.store)

      f_is : IsListed unit.0.granularity held.rows f.0
      f_is = All-contains (IsListed unit.0.granularity held.rows) is.files f.0 (is.beside.ahead.filed unit.0.granularity (granularity_at q.at.manifests k unit.0 unit.1)).listed f.1

      paths : path_of f_is.row.name f.0.entry.part.name ≡ path_of out.1.is.beside.row.name e.part.name
      paths = sym (ap (λ (r : Option Row). path_of (held_files.name_of r) f.0.entry.part.name) f_is.stands) ∙ (ap (λ (x : Name). x.1) f.2 ∙ ap (λ (text : List ℕ). path_of text e.part.name) (sym out.1.is.beside.name))

      series : f.0.entry.series ≡ running.moving.series
      series = (has.known.each k unit.0 unit.1).valid.keys f.0.entry.series running.moving.series f_is.row out.1.is.beside.row f_is.stands out.1.is.beside.stands (one_path f_is.row.name out.1.is.beside.row.name f.0.entry.part.name e.part.name paths).0

      own : f.0.entry.series ≡ run.moving.series
      own = of_all (λ (h : Filed). h.entry.series ≡ run.moving.series) is.files f.0 (ahead_own k tells all run.moving is.files held is.beside) f.1

  -- THE CALL

  module _ (new : Seen) (limbo : List Retired) (pinned : FinMap nat_cmp PinOf) (same_limbo : limbo ≡ q.limbo) (same_pins : pinned ≡ q.pinned) (then : Moving) (result : Result CopyEnd DiskErr) (place : ℕ) (is_place : place ≡ running.store - 1) (says : StoresCopied tells place running.moving then q new limbo result) (later_now : IsTrue tells → MayLeave new.past new.files) where
    abbrev later_all : SeenAll
    later_all = beside new q.limbo

    s : StoresCopied tells from running.moving then q new q.limbo result
    s = subst (λ (l : List Retired). StoresCopied tells from running.moving then q new l result) same_limbo (subst (λ (k : ℕ). StoresCopied tells k running.moving then q new limbo result) (own_place place is_place) says)

    said : Has tells new held × IfOk result (SaysCopied 1048576 from tells later_all retired running.moving then files held) × OnErr result (CopiesBeside from tells later_all then files held)
    said = s.copies files retired held has among

    same_g : granularities new.manifests ≡ granularities q.at.manifests
    same_g = (s.changes files retired).costs.granularity

    counted : m.faults ≤ new.faults
    counted = let was : m.faults ≡ q.at.faults = out.1.rests.stands.faults in let later = (s.changes files retired).costs.faults in omega (arith, was, later)

    -- at each moment the disk has what is durable
    passes : IsTrue tells → Passes (λ a image. HoldsStep (granularities q.at.manifests) n m image) q.at.past new.past
    passes told =
        passes_weaker (HoldsBy (granularities q.at.manifests) (λ old made. made ≡ old) held) (λ a image. HoldsStep (granularities q.at.manifests) n m image) q.at.past new.past ((s.changes files retired).any_moment told held has among)
        (λ a image left holds. inl (record { stores = held; holds = elim holds [ inl one ↦ one | inr made ↦ subst (HoldsAll (granularities q.at.manifests) image) made.1 made.2 ]; durable = out.1.rests.stands.store.holds; stands = stands_told }))

    -- moves of other rows are the machine's still
    others_stay : AreMovesOf tells later_all m.told m.rows m.limbo held (ends_move n m.moves) q.slots
    others_stay =
        moves_stay tells all later_all m.told m.rows m.rows m.limbo m.limbo held held same_g stands_told (ends_move n m.moves) q.slots
        (λ k other run here there is.
        let was = left_was m.moves n k other here in
        let place = index_of (next_store other.store) in
        goes_still tells all later_all m.told m.rows m.rows m.limbo m.limbo held same_g stands_told other run is.files
        (λ on still. same_put (HasRunning m.moves) m.rows m.rows m.limbo m.limbo (same_later (HasRunning m.moves) m.rows m.limbo) other (k, other, was.1, refl) (out.1.sound.each_move k other was.1).here)
        (s.leaves (names_of (place + 1, held.rows) is.files) (later_names place (place + 1, held.rows) is.files refl (next_low other.store)) (apart other run (differs k other was) is)))
        out.1.rests.stands.store.moves
      where
        differs : (k : ℕ) (other : MoveState) → ((k == n) ≡ false) × (get m.moves k ≡ Some other) → other.row ≢ out.0.row
        differs k other was same =
            let one : k ≡ n = out.1.sound.one_move k n other move was.1 out.1.here same in
            let test : (k == n) ≡ true = grind (arith, nat_tests, one) in
            let off = was.0 in
            cc (test, off)

    -- what the archive stands for without the move
    abbrev base : Rests tells (record q { at = new }) (record (without_move n m) { faults = new.faults })
    base =
        let w = out.1.rests.stands in
        record {
          stands = stands_after tells q (without_move n m) w (record q { at = new }) (record (without_move n m) { faults = new.faults }) (record { config = refl; doors = refl; rule = refl; own_doors = refl; faults = refl; granularity = same_g }) w.sound
              (limbo_beside tells q.at new q.limbo held m.told m.rows m.limbo has.known said.0.known same_g s.shown w.limbo) (pins_stay tells all later_all m.told m.rows m.rows m.pins q.pinned s.shown (names_stay m.rows) w.pins)
              (subst (λ (rows : List Row). AreRowsOf rows q.kept q.tails m.rows) (has.known.rows ∙ sym said.0.known.rows) w.rows) w.doubt w.ready
              (record { before = held; told = w.store.told; disk = w.store.disk; holds = w.store.holds; whole = λ i low. (let was = w.store.whole i low in s.whole i held.stands was.0 low was.1); moves = others_stay; is_open = inl said.0 });
          settled = out.1.rests.settled;
        }

    -- HOW THE MOVE GOES ON

    abbrev then_running : Running Moving
    then_running = record running { moving = then }

    -- the table has it again
    abbrev pub IsBack : List (Option (Running Moving)) → Type 0
    IsBack later = (k : ℕ) → at later k ≡ cond (k == n) (Some (record running { moving = then })) (at q.slots k)

    -- the move with these samples more, at this stage
    abbrev copied_on : Stage → List Sample → MoveState
    copied_on at_stage xs = moved move at_stage (move.copied ++ xs)

    abbrev after : MoveState → Machine
    after now = record (with_move n now m) { faults = new.faults }

    sound_after : (reply : Reply) (now : MoveState) → GoesOn n m reply (after now) → IsSound (after now)
    sound_after reply now goes = move_step_sound n m (after now) reply out.1.sound (runs reply (ap no_move out.1.here) (no_doubt out.1.rests.settled) (ap no_move out.1.here) goes counted)

    new_series : then.series ≡ running.moving.series
    new_series = ap (λ (x : Moving). x.series) s.moves_on.is

    module _ (more : List Filed) (ahead : RunsBeside (from + 1) tells later_all then more held) where
      beside_then : RunsBeside to tells later_all then more held
      beside_then = subst (λ (i : ℕ). RunsBeside i tells later_all then more held) (sym next) ahead

      -- the move's parts stay of the same partitions
      same_parts : map (λ (e : Entry). e.part) then.parts ≡ map (λ (e : Entry). e.part) running.moving.parts
      same_parts =
          sym (parts_are to tells later_all then more held beside_then from next source.0 source_lists)
          ∙ ((λ j. map (λ (f : Filed). f.entry.part) (oldest from (new_series j) (s.moves_on.long j) held)) ∙ parts_are to tells all running.moving files held out.1.is.beside from next source.0 source_lists)

      ends_then : m.told ≡ true → out.0.to ≡ ends_from 0 then.parts
      ends_then told = out.1.is.to told ∙ ends_same 0 running.moving.parts then.parts (sym same_parts)

      -- once all are copied the move knows how far
      parts_then : m.told ≡ true → KnowsCopied from then more held → HasCopiedParts from then (end_ahead to then more held) held
      parts_then told knows =
          let stands = stands_told told in
          subst (λ (i : ℕ). HasCopiedParts from then (end_of (samples_ahead i then more held)) held) (sym next)
          (copied_parts to tells later_all then more held beside_then from next source.0 source_lists source.0.granularity ((has.known.each from source.0 source.1).valid.filed.filed stands) stands knows)

      -- what is ahead then is what the machine puts there
      module _ (told : m.told ≡ true) (copied rest : List Sample) (by : CopiesNext 1048576 from q.limbo retired running.moving files more held copied rest) where
        together : (xs : List Sample) → xs ≡ copied → GoTogether (files_of out.0.row (next_store out.0.store) m.limbo) (samples_of out.0.row (put_all (list_at to held) files)) xs
        together [] are = tt
        together (x ∷ xs) are =
            goes_with tells q.at q.limbo m held have rule told move destination.0 destination.1 row_here.0 row_here.1 running.moving out.1.is.own files out.1.is.beside (has_now told) (out.1.is.into told) (right told) retired whole by.back (back_in told more copied rest by) new same_g later_now s.shown then more beside_then x xs rest
            (since (end_of (samples_of move.row (put_all (list_at to held) files))) (all_in (oldest from move.row (length running.moving.parts) held))) (left_here told more copied rest by ∙ (by.left ∙ ap (λ (ys : List Sample). ys ++ rest) (sym are)))
            (ahead_then told more copied rest by ∙ ap (λ (ys : List Sample). samples_of move.row (put_all (list_at to held) files) ++ (revival.revived by.back move.row ys ++ ys)) (sym are))

        own_then : samples_of out.0.row (put_all (list_at to held) more) ≡ put (out.0.copied ++ copied) (files_of out.0.row (next_store out.0.store) m.limbo) (tier row_here.0 (next_store out.0.store))
        own_then = ahead_then told more copied rest by ∙ put_more tells q.at q.limbo m held have rule told move destination.0 destination.1 row_here.0 row_here.1 running.moving out.1.is.own files out.1.is.beside (has_now told) (out.1.is.into told) (right told) retired whole by.back (back_in told more copied rest by) copied (together copied refl)

        into_then : (at_stage : Stage) (reply : Reply) → is_copying at_stage ≡ true → GoesOn n m reply (after (copied_on at_stage copied)) → GoInto (list_at to held) (out.0.copied ++ copied) more
        into_then at_stage reply still goes =
            let now = copied_on at_stage copied in
            let copies_then : CopiesOf m.limbo row_here.0 move.row move.store (move.copied ++ copied) = ((sound_after reply now goes).each_move n now (put_there m.moves n now)).copied row_here.0 row_here.1 told still in
            go_into tells q.at q.limbo m held have rule told move destination.0 destination.1 row_here.0 row_here.1 running.moving out.1.is.own files out.1.is.beside (has_now told) (out.1.is.into told) (right told) retired whole by.back (back_in told more copied rest by) copied copies_then.rises later_all same_g then more beside_then own_then (new_series ∙ out.1.is.own)

      -- the machine goes on so, with these samples more, and the archive stands for it
      goes_so : (at_stage : Stage) (reply : Reply) → is_copying at_stage ≡ true → IsAtStage from to tells later_all m.told more held then at_stage → (xs rest : List Sample) → (m.told ≡ true → CopiesNext 1048576 from q.limbo retired running.moving files more held xs rest)
          → GoesOn n m reply (after (copied_on at_stage xs)) → (later : List (Option (Running Moving))) → IsBack later → StepEnds tells n m (record q { at = new; slots = later }) reply
      goes_so at_stage reply still stage_then xs rest by goes later back =
          let now = copied_on at_stage xs in
          went_on (after now) goes (put_back tells (record q { at = new }) (after now) (ends_move n m.moves) n now then_running later (put_in m.moves n now) (sound_after reply now goes) base (record {
            series = out.1.is.series;
            store = out.1.is.store;
            own = new_series ∙ out.1.is.own;
            moves = out.1.is.moves;
            files = more;
            beside = beside_then;
            parts = s.moves_on.long ∙ out.1.is.parts;
            to = ends_then;
            stage = stage_then;
            copied = λ told copies_still row here. subst (λ (x : RowState). HasCopies held m.limbo x now more) (one_row row here) (own_then told xs rest (by told));
            into = λ told. into_then told xs rest (by told) at_stage reply still goes;
          }) back).stands

      remains_of : (xs rest : List Sample) → (m.told ≡ true → CopiesNext 1048576 from q.limbo retired running.moving files more held xs rest) → RemainingIs m out.0 (xs ++ rest)
      remains_of xs rest by told r here = what_remains told more xs rest (by told) r here ∙ (by told).left

    module _ (later : List (Option (Running Moving))) (back : IsBack later) where
      -- some is copied, and some is left
      copies_some : SaysCopied 1048576 from tells later_all retired running.moving then files held ends.More → StepEnds tells n m (record q { at = new; slots = later }) answer.Copying
      copies_some (more, beside_it, says_so) = by_told m.told refl
        where
          some : (xs rest : List Sample) → xs ≢ [] → rest ≢ [] → (m.told ≡ true → CopiesNext 1048576 from q.limbo retired running.moving files more held xs rest) → StepEnds tells n m (record q { at = new; slots = later }) answer.Copying
          some [] rest some_xs some_rest by = absurd (some_xs refl)
          some (x ∷ xs) [] some_xs some_rest by = absurd (some_rest refl)
          some (x ∷ xs) (y ∷ rest) some_xs some_rest by =
              goes_so more beside_it.runs Copies answer.Copying refl beside_it (x ∷ xs) (y ∷ rest) by (copies_more move x xs y rest out.1.here stage_is (remains_of more beside_it.runs (x ∷ xs) (y ∷ rest) by) refl) later back

          -- where samples aren't told of, any will do
          any : List Sample
          any = record { t = 0; line = [] } ∷ []

          by_told : (b : Bool) → m.told ≡ b → StepEnds tells n m (record q { at = new; slots = later }) answer.Copying
          by_told true told = let said_so = says_so (stands_told told) in some said_so.0 said_so.1 said_so.3 said_so.4 (λ told_so. said_so.2)
          by_told false untold = some any any (λ none. cc (none)) (λ none. cc (none)) (λ told. absurd (let both : true ≡ false = sym told ∙ untold in cc (both)))

      -- all that was left is copied
      copies_all : SaysCopied 1048576 from tells later_all retired running.moving then files held ends.Copied → StepEnds tells n m (record q { at = new; slots = later }) answer.Copied
      copies_all (more, has_all, says_so) = by_told m.told refl
        where
          whole_then : IsAtStage from to tells later_all m.told more held then HasCopied
          whole_then = record { is = record { stage = has_all.stage; all = has_all.all_copied }; parts = λ told. parts_then more has_all.runs told has_all.parts }

          all_of_it : (xs : List Sample) → (m.told ≡ true → CopiesNext 1048576 from q.limbo retired running.moving files more held xs []) → StepEnds tells n m (record q { at = new; slots = later }) answer.Copied
          all_of_it xs by = goes_so more has_all.runs HasCopied answer.Copied refl whole_then xs [] by (has_copied move xs out.1.here stage_is (λ told r here. remains_of more has_all.runs xs [] by told r here ∙ append-nil xs) refl) later back

          by_told : (b : Bool) → m.told ≡ b → StepEnds tells n m (record q { at = new; slots = later }) answer.Copied
          by_told true told = let said_so = says_so (stands_told told) in all_of_it said_so.0 (λ told_so. said_so.1)
          by_told false untold = all_of_it [] (λ told. absurd (let both : true ≡ false = sym told ∙ untold in cc (both)))

      -- after an error the move goes as it did
      still_copies : CopiesBeside from tells later_all then files held → StepEnds tells n m (record q { at = new; slots = later }) answer.Memory
      still_copies beside_it = was_spent (put_back tells (record q { at = new }) (record m { faults = new.faults }) (ends_move n m.moves) n move then_running later (put_again m.moves n move out.1.here) out.1.sound base (record {
        series = out.1.is.series;
        store = out.1.is.store;
        own = new_series ∙ out.1.is.own;
        moves = out.1.is.moves;
        files = files;
        beside = beside_then files beside_it.runs;
        parts = s.moves_on.long ∙ out.1.is.parts;
        to = ends_then files beside_it.runs;
        stage = subst (IsAtStage from to tells later_all m.told files held then) (sym stage_is) beside_it;
        copied = out.1.is.copied;
        into = out.1.is.into;
      }) back).stands

      -- no stray comes
      tidy_then : IsSettled new × MakesNoStray tells (beside q.at q.limbo) (targets running.moving) later_all (targets then) → Tidies tells (with_slots slots q) (record q { at = new; slots = later })
      tidy_then t = tidy_step tells (with_slots slots q) (record q { at = new; slots = later }) n running (Some then_running) (targets running.moving) (targets then) takes.ran (put_after n (Some then_running) slots q.slots later back takes.others) t.0 t.1 (λ on x there. there)
          (λ x there. (then_running, refl, ap (λ (v : Moving). v.stage) s.moves_on.is ∙ copies, there))

    -- HOW IT ENDS

    -- so the step does, with the table as it is then
    step : (later : List (Option (Running Moving))) (reply : Reply) → StepEnds tells n m (record q { at = new; slots = later }) reply → (reply ≡ answer.DiskFault → Rose q.at.faults new.faults) → LeavesMove tells (with_slots slots q) (MoveStep n) reply (record q { at = new; slots = later })
        → (IsWell reply → Tidies tells (with_slots slots q) (record q { at = new; slots = later })) → StepsOn tells n (with_slots slots q) m (record q { at = new; limbo = limbo; pinned = pinned; slots = later }) reply
    step later reply is cause moves tidy =
        let on : StepsOn tells n (with_slots slots q) m (record q { at = new; slots = later }) reply = record { ends = is; any_moment = passes; faults = (s.changes files retired).costs.faults; cause = cause; moves = moves; tidy = tidy; files = λ name bytes kept. s.shown name bytes } in
        with_same (λ (p : Parts). StepsOn tells n (with_slots slots q) m p reply) (record q { at = new; slots = later }) limbo pinned same_limbo same_pins on

    ok : (end : CopyEnd) → result ≡ Ok end → SaysCopied 1048576 from tells later_all retired running.moving then files held end
    ok end is = subst (λ (x : Result CopyEnd DiskErr). IfOk x (SaysCopied 1048576 from tells later_all retired running.moving then files held)) is said.1

    well : (end : CopyEnd) → result ≡ Ok end → IsSettled new × MakesNoStray tells (beside q.at q.limbo) (targets running.moving) later_all (targets then)
    well end is = subst (λ (x : Result CopyEnd DiskErr). OnOk x (IsSettled new × MakesNoStray tells all (targets running.moving) later_all (targets then))) is s.tidy

    pub on_more : (later : List (Option (Running Moving))) → result ≡ Ok ends.More → IsBack later → StepsOn tells n (with_slots slots q) m (record q { at = new; limbo = limbo; pinned = pinned; slots = later }) answer.Copying
    on_more later is back = step later answer.Copying (copies_some later back (ok ends.More is)) (λ none. absurd (cc (none))) (λ name place told. absurd (cc (told))) (λ done. tidy_then later back (well ends.More is))

    pub on_copied : (later : List (Option (Running Moving))) → result ≡ Ok ends.Copied → IsBack later → StepsOn tells n (with_slots slots q) m (record q { at = new; limbo = limbo; pinned = pinned; slots = later }) answer.Copied
    on_copied later is back = step later answer.Copied (copies_all later back (ok ends.Copied is)) (λ none. absurd (cc (none))) (λ name place told. absurd (cc (told))) (λ done. tidy_then later back (well ends.Copied is))

    -- a file of a part of the move is damaged, and the move has ended
    pub on_damaged : (name : Name) (at_byte : ℕ) → result ≡ Ok (ends.Damaged name at_byte) → StepsOn tells n (with_slots slots q) m (record q { at = new; limbo = limbo; pinned = pinned }) (answer.Damaged name at_byte)
    on_damaged name at_byte is =
        let damage = ok (ends.Damaged name at_byte) is in
        step q.slots (answer.Damaged name at_byte) (went_on (record (without_move n m) { faults = new.faults }) (damaged name at_byte (λ told. damage.never (stands_told told)) refl) base.stands) (λ none. absurd (cc (none)))
        (told_alone (TellsDamage tells (with_slots slots q) n) (record q { at = new }) name at_byte (of_part tells q slots q.slots n running takes.ran to from next (index_low move.store) out.1.is.store (out.1.is.own ∙ sym out.1.is.series) files held out.1.is.beside has new said.0 name at_byte damage))
        (λ none. absurd none)

    -- the disk failed, and the move has ended
    pub on_failed : result ≡ Err Fault → StepsOn tells n (with_slots slots q) m (record q { at = new; limbo = limbo; pinned = pinned }) answer.DiskFault
    on_failed is = step q.slots answer.DiskFault (has_failed base.stands) (λ same. (s.changes files retired).costs.cause (subst (λ (x : Result CopyEnd DiskErr). IsFailed (end_of_disk x)) (sym is) tt)) (λ name place told. absurd (cc (told))) (λ none. absurd none)

    -- memory was wanting, and the move goes on as it did
    pub on_spent : (later : List (Option (Running Moving))) → result ≡ Err Memory → IsBack later → StepsOn tells n (with_slots slots q) m (record q { at = new; limbo = limbo; pinned = pinned; slots = later }) answer.Memory
    on_spent later is back =
        let spent = subst (λ (x : Result CopyEnd DiskErr). OnErr x (CopiesBeside from tells later_all then files held)) is said.2 in
        step later answer.Memory (still_copies later back spent) (λ none. absurd (cc (none))) (λ name place told. absurd (cc (told))) (λ none. absurd none)
