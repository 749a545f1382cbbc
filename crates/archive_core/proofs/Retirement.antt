-- A move whose copies are listed takes its parts from their store: a step of the machine, and what the archive stands for then.
use Rattle.std.proofs.Common.{[], ◌⊎◌, inl, inr, sym, ◌≡◌, ℕ, List, length, map, Bool, true, false, cond, Some, None, refl, ◌∙◌, ap, subst, ◌≢◌, ◌<◌, ◌≤◌, Result, Ok, Err, arith, ◌-◌, Option, get_or}
use Rattle.std.specs.FinMap.{get, FinMap}
use Rattle.std.specs.Prelude.{IsTrue, ◌==◌, All, slice_get, IfErr, IfOk, IsErr}
use Rattle.std.proofs.lemmas.List.{length-map, length-take-le}
use Rattle.disk_model.specs.Files.{Files, Name, Rose}
use Rattle.store_manifest.specs.declared.entry.Entry.{Entry}
use Rattle.durable_write.specs.Held.{entry_of, Filed, samples_of}
use Rattle.tier_store.specs.Change.{EndsFrom, Has, Doubts, StoreCall, HoldsBy, Changes, IsKnown}
use Rattle.tier_store.specs.Retiring.{oldest, without_oldest, HasGrown, HasNotGrown, Retires as StoresRetire, AreApart, FailsToRetire, HandedOver, Remain, ShowsKept, StayOrEnter, retiring}
use Rattle.tier_store.specs.Stores.{Stores, list_at}
use Rattle.act_model.specs.Changes.{made, no_doubt}
use Rattle.act_model.specs.Machine.{Machine, Change, MoveState, Stage, Unlists, Copies, HasCopied, HasPublished}
use Rattle.act_model.specs.MoveStep.{GoesOn, retires, again, change_of, change_at, is_covered, without_move, ends_move, no_move}
use Rattle.act_model.specs.Outcome.{Same, runs}
use Rattle.act_model.specs.Rule.{index_of}
use Rattle.archive_core.specs.Ends.{HoldsMachine}
use Rattle.archive_core.specs.MoveChoice.{HaveDurable}
use Rattle.archive_core.specs.MoveTies.{ends_from, AreMovesOf, HasListed, IsAtStage, IsCopiedTo, listed_end}
use Rattle.archive_core.specs.Retiring.{lengths_of, AreOfOthers, LimboRetires, AreCopiedTo}
use Rattle.archive_core.specs.Stands.{HoldsDurable, Stands, Rests, InDoubt, IsDoubtOf, IsReady}
use Rattle.archive_core.proofs.Lists.{element}
use Rattle.archive_core.proofs.MoveChoice.{retire_holds, source_low, next_place}
use Rattle.archive_core.proofs.MovedParts.{covered, ends_move as ends_move_at, grown_is, grown_not_covered, to_ends, untold_covered}
use Rattle.std.specs.Ordering.{nat_cmp}
use Rattle.std.proofs.lemmas.Bool.Decides.{nat_tests}
use Rattle.disk_model.specs.Past.{MayLeave, Passes}
use Rattle.disk_model.specs.declared.disk.DiskErr.{DiskErr}
use Rattle.disk_model.specs.declared.disk.DiskErr.TheVariants.{Fault, Memory}
use Rattle.disk_model.proofs.Passing.{passes_weaker, passes_none}
use Rattle.etl_mover.specs.Move.{Moving}
use Rattle.pins.specs.Pieces.{PinOf}
use Rattle.pv_catalog.specs.declared.row.Row.{Row}
use Rattle.moves.specs.declared.table.Running.{Running}
use Rattle.durable_write.specs.Ends.{Done, end_of_disk, IsFailed}
use Rattle.tier_store.specs.Limbo.{IsListedName, LimboStands}
use Rattle.tier_store.specs.Moving.{LeavesNames}
use Rattle.tier_store.specs.Pinned.{beside, SeenAll}
use Rattle.tier_store.specs.Revival.{AreWhole, KeepsWholeOf}
use Rattle.tier_store.specs.Seen.{IsSettled, granularities, Seen}
use Rattle.tier_store.specs.declared.limbo.Retired.{Retired}
use Rattle.tier_store.specs.declared.retirement.RetireEnd.{RetireEnd}
use Rattle.tier_store.proofs.Retirements.{all_stay}
use Rattle.act_model.specs.Rows.{RowState, Store, Short, Medium, Long, next_store, tier}
use Rattle.act_model.specs.Sound.{IsSound}
use Rattle.act_model.proofs.MoveActs.{move_step_sound, step_may}
use Rattle.act_model.proofs.StepLaws.{with_doubt}
use Rattle.archive_core.specs.LimboTies.{IsLimboOf}
use Rattle.archive_core.specs.Memory.{AreRowsOf}
use Rattle.archive_core.specs.Parts.{Parts}
use Rattle.archive_core.specs.Pins.{ArePinsOf}
use Rattle.archive_core.specs.declared.memory.Doubt.{Doubt}
use Rattle.archive_core.proofs.Batches.{told_stands, no_names, tidy_step}
use Rattle.archive_core.proofs.LimboSwept.{pinned_stay}
use Rattle.archive_core.proofs.RetiredLimbo.{moves_retired, moves_same, move_same, of_retired, rows_unlisted, limbo_retires, pins_retired}
use Rattle.archive_core.proofs.RetiredDoubt.{limbo_cut, retiring_handed}
use Rattle.archive_core.proofs.Settled.{no_own, rests_has, stands_after, with_same}
use Rattle.etl_mover.specs.declared.moving.Stage.TheVariants.{Published}
use Rattle.moves.specs.Table.{at}
use Rattle.series_model.specs.Series.{end_of}
use Rattle.durable_write.specs.Plan.{of_row}
use Rattle.tier_store.proofs.Holding.{has_left}
use Rattle.archive_core.specs.Stepping.{HoldsStep, StepsOn, TakesMove, has_failed, is_doubted, not_removed, was_spent, went_on, with_slots, StepEnds}
use Rattle.archive_core.proofs.Windows.{list_is}
use Rattle.archive_core.proofs.MovesKept.{long_listed}
use Rattle.act_model.specs.declared.acts.Answer.TheVariants as answer
use Rattle.tier_store.specs.declared.retirement.RetireEnd.TheVariants as ends
use Rattle.tier_store.specs.Strays.{HasRemoved, LeavesNoStray}
use Rattle.tier_store.specs.Stored.{HoldsAll}
use Rattle.archive_core.specs.Strays.{IsWell, Tidies}
use Rattle.archive_core.specs.Leaving.{KeepsListed, LeavesMove}
use Rattle.act_model.specs.declared.acts.Act.TheVariants.{MoveStep}
use Rattle.act_model.specs.Reply.{Reply}
use Rattle.archive_core.specs.Taking.{Taken}
use Rattle.archive_core.proofs.MoveTable.{left_was, put_again, put_back, take_out}

-- What the stores say of a retirement.
pub record StoresRetired (tells : Bool) (place row : ℕ) (published : List ℕ) (q : Parts) (new : Seen) (limbo : List Retired) (result : Result RetireEnd DiskErr) : Type 0 where
  pub changes : Changes tells (retiring place row published (Remain tells new q.pinned q.limbo limbo)) q.at new (end_of_disk result)
  pub again : (len copied : ℕ) → result ≡ Ok (ends.Again len copied) → limbo ≡ q.limbo
  pub fails : IfErr result (FailsToRetire place row published tells (beside q.at q.limbo) (beside new limbo))
  pub cause : (removed : Result (Unit {0}) DiskErr) → result ≡ Ok (ends.Retired removed) → IsErr removed → Rose q.at.faults new.faults
  pub shown : ShowsKept tells q.pinned (beside q.at q.limbo) (beside new limbo)
  pub whole : (held : Stores) → Has tells q.at held → KeepsWholeOf tells (beside q.at q.limbo) (beside new limbo) held
  pub leaves : (held : Stores) (names : List Name) → Has tells q.at held → All (λ (x : Name). 1 ≤ x.0) names → AreApart place row (length published) held names → LeavesNames names tells (beside q.at q.limbo) (beside new limbo)
  pub stands : LimboStands new limbo
  pub tidy : IfOk result (λ end. IsSettled new × (HasRemoved end → LeavesNoStray tells (beside q.at q.limbo) (beside new limbo)))

-- the stage of a move whose copies are listed is the machine's
at_listed : (from to : ℕ) (tells : Bool) (all : SeenAll) (told : Bool) (files : List Filed) (before : Stores) (moving : Moving) (stage : Stage) → moving.stage ≡ Published → IsAtStage from to tells all told files before moving stage → stage ≡ HasPublished
at_listed from to tells all told files before moving Copies listed is = absurd (let both = sym listed ∙ is.stage in cc (both))
at_listed from to tells all told files before moving HasCopied listed is = absurd (let both = sym listed ∙ is.is.stage in cc (both))
at_listed from to tells all told files before moving HasPublished listed is = refl

-- the next store is another
next_other : (store : Store) → store ≢ Long → index_of (next_store store) ≢ index_of store
next_other Short apart same = absurd (omega (arith, same))
next_other Medium apart same = absurd (omega (arith, same))
next_other Long apart same = apart refl

module _ (tells : Bool) (q : Parts) (n : ℕ) (running : Running Moving) (slots : List (Option (Running Moving))) (m : Machine) (takes : TakesMove n running slots q.slots) (r : Rests tells (with_slots slots q) m) (listed : running.moving.stage ≡ Published) where
  out : (move : MoveState) × Taken tells q n running m move
  out = take_out tells (with_slots slots q) m r n running q.slots takes.ran takes.others

  abbrev move : MoveState
  move = out.0

  abbrev mo : Machine
  mo = without_move n m

  abbrev was : Stands tells q mo
  was = out.1.rests.stands

  abbrev held : Stores
  held = out.1.rests.stands.store.before

  abbrev from : ℕ
  from = index_of out.0.store

  abbrev to : ℕ
  to = index_of (next_store out.0.store)

  abbrev moving : Moving
  moving = running.moving

  abbrev parts : List Entry
  parts = running.moving.parts

  abbrev published : List ℕ
  published = lengths_of running.moving.parts

  -- as many of the oldest files as the move has parts
  abbrev count : ℕ
  count = length (lengths_of running.moving.parts)

  abbrev less : Stores
  less = without_oldest from out.0.row count held

  abbrev change : Change
  change = Unlists out.0.row out.0.store out.0.to

  stage_is : out.0.stage ≡ HasPublished
  stage_is = at_listed from to tells (beside q.at q.limbo) m.told out.1.is.files held moving move.stage listed out.1.is.stage

  has_listed : HasListed from to m.told held running.moving
  has_listed = subst (IsAtStage from to tells (beside q.at q.limbo) m.told out.1.is.files held moving) stage_is out.1.is.stage

  has : Has tells q.at held
  has = rests_has tells q mo out.1.rests

  stand : m.told ≡ true → IsTrue held.stands
  stand = told_stands tells m.told held.stands was.store.told

  have : HaveDurable q.at.catalogue q.at.manifests held m
  have = record { known = has.known; holds = was.store.holds; rule = was.rule.granularity; stands = stand }

  row_low : out.0.row < length m.rows
  row_low = (out.1.sound.each_move n move out.1.here).here

  count_is : length (lengths_of running.moving.parts) ≡ length running.moving.parts
  count_is = length-map parts (λ (e : Entry). e.len)

  copied_to : m.told ≡ true → (row : RowState) → slice_get m.rows out.0.row ≡ Some row → AreCopiedTo (end_of (tier row (next_store out.0.store))) running.moving.parts (oldest from out.0.row (length running.moving.parts) held)
  copied_to told row at_row =
      let long = subst (λ (i : ℕ). length parts ≤ length (of_row i (list_at from held))) out.1.is.own (long_listed to from tells (beside q.at q.limbo) moving out.1.is.files held (next_place move.store out.1.is.moves) out.1.is.beside) in
      let same_end : listed_end to moving held ≡ end_of (samples_of move.row (list_at to held)) = ap (λ (i : ℕ). end_of (samples_of i (list_at to held))) out.1.is.own in
      let end_is = same_end ∙ ap end_of (list_is m held move.row row was.store.holds told at_row (next_store move.store)) in
      record {
        number = length-take-le (length parts) (of_row move.row (list_at from held)) long;
        each = λ k part f at there. subst (λ (e : ℕ). IsCopiedTo e part f) end_is (has_listed.parts told k part f at (subst (λ (i : ℕ). slice_get (oldest from i (length parts) held) k ≡ Some f) (sym out.1.is.own) there));
      }

  -- no other move is of the row
  others : AreOfOthers out.0.row (ends_move n m.moves)
  others k other there same_row =
      let one_was = left_was m.moves n k other there in
      let one : k ≡ n = out.1.sound.one_move k n other move one_was.1 out.1.here same_row in
      let test : (k == n) ≡ true = grind (arith, nat_tests, one) in
      let off = one_was.0 in
      cc (test, off)

  -- NOTHING WAS DONE

  -- there was no memory for it
  pub none_done : (later : List (Option (Running Moving))) → ((k : ℕ) → at later k ≡ cond (k == n) (Some running) (at q.slots k)) → StepsOn tells n (with_slots slots q) m (record q { slots = later }) answer.Memory
  none_done later back = record {
    ends = was_spent (subst (λ (f : ℕ). Stands tells (record q { slots = later }) (record m { faults = f })) was.faults (put_back tells q m (ends_move n m.moves) n move running later (put_again m.moves n move out.1.here) out.1.sound out.1.rests out.1.is back).stands);
    any_moment = λ told. passes_none (λ a image. HoldsStep (granularities q.at.manifests) n m image) q.at.past (λ image left. inl (record { stores = held; holds = has_left tells q.at held has told image left; durable = was.store.holds; stands = stand }));
    faults = omega arith;
    cause = λ same. absurd (cc (same));
    moves = λ name place is. absurd (cc (is));
    files = λ name bytes kept shown. shown;
    tidy = λ none. absurd none;
  }

  -- WHAT THE STORES' CALL ASKS

  pub some_store : (number : ℕ) → number ≡ running.store → 1 ≤ number
  some_store number same = let store = out.1.is.store in omega (arith, store, same)

  place_is : (number : ℕ) → number ≡ running.store → number - 1 ≡ from
  place_is number same = let store = out.1.is.store in omega (arith, store, same)

  pub within : (number : ℕ) → number ≡ running.store → number - 1 < 2
  within number same = let low = source_low move.store out.1.is.moves in let place = place_is number same in omega (arith, low, place)

  pub few : (lengths : List ℕ) → lengths ≡ lengths_of running.moving.parts → length lengths ≤ 65536
  few lengths are = let most = out.1.is.beside.running.few in let same = ap length are ∙ count_is in omega (arith, most, same)

  pub has_there : (held : Stores) × Has tells q.at held
  has_there = (held, has)

  pub limbo_stands : LimboStands q.at q.limbo
  limbo_stands = was.limbo.stands

  -- THE PARTS

  -- where none has grown, the next store covers them, and the act may make the change
  none_of : ((k : ℕ) → HasNotGrown published (map entry_of (oldest from out.0.row count held)) k) → (k : ℕ) → HasNotGrown published (map entry_of (oldest from out.0.row (length running.moving.parts) held)) k
  none_of none k = subst (λ (c : ℕ). HasNotGrown published (map entry_of (oldest from move.row c held)) k) count_is (none k)

  none_grown_covered : ((k : ℕ) → HasNotGrown published (map entry_of (oldest from out.0.row count held)) k) → is_covered m out.0 ≡ true
  none_grown_covered none = by_told m.told refl
    where
      by_told : (b : Bool) → m.told ≡ b → is_covered m out.0 ≡ true
      by_told true on = let row = element m.rows move.row row_low in covered q.at.catalogue q.at.manifests held m have on move row.0 row.1 parts (out.1.is.to on) (copied_to on row.0 row.1) (none_of none)
      by_told false off = untold_covered m move off

  change_is : ((k : ℕ) → HasNotGrown published (map entry_of (oldest from out.0.row count held)) k) → change_of m (get m.moves n) ≡ Some change
  change_is none = ap (change_of m) out.1.here ∙ (ap (λ (stage : Stage). change_at m stage move) stage_is ∙ ap (λ (b : Bool). cond b (Some change) None) (none_grown_covered none))

  -- where one has, nothing leaves, and it is told
  again_goes : (len given : ℕ) → HasGrown published (map entry_of (oldest from out.0.row count held)) len given → (new : Machine) → Same mo new → GoesOn n m (answer.Again len given) new
  again_goes len given grown new same =
      let own = subst (λ (c : ℕ). HasGrown published (map entry_of (oldest from move.row c held)) len given) count_is grown in
      again move len given out.1.here stage_is (λ on. let row = element m.rows move.row row_low in grown_not_covered q.at.catalogue q.at.manifests held m have on move row.0 row.1 parts (out.1.is.to on) (copied_to on row.0 row.1) len given own) own.longer
      (λ on row there. grown_is q.at.catalogue q.at.manifests held m have on move row there parts (out.1.is.to on) (copied_to on row there) len given own) same

  -- the parts that leave end where the move does
  ends_there : m.told ≡ true → out.0.to ≡ ends_from 0 (map entry_of (oldest from out.0.row count held))
  ends_there on =
      let row = element m.rows move.row row_low in
      to_ends q.at.catalogue q.at.manifests held m have on move row.0 row.1 parts (out.1.is.to on) (copied_to on row.0 row.1) ∙ ap (λ (c : ℕ). ends_from 0 (map entry_of (oldest from move.row c held))) (sym count_is)

  -- without them the stores have what is durable of the machine without them
  retired_holds : HoldsDurable less (made [] change m)
  retired_holds = retire_holds q.at.catalogue q.at.manifests move.row count move.to move.store held m have (λ on. ends_there on ∙ ends_move_at held move.store move.row count)

  -- THE CALL

  module _ (seen_now : IsTrue tells → MayLeave q.at.past q.at.files) (number : ℕ) (store_is : number ≡ running.store) (lengths : List ℕ) (are : lengths ≡ lengths_of running.moving.parts) (new : Seen) (limbo : List Retired) (pinned : FinMap nat_cmp PinOf) (same_pins : pinned ≡ q.pinned) (result : Result RetireEnd DiskErr) (says : StoresRetired tells (number - 1) running.series lengths q new limbo result) where
    abbrev old_all : SeenAll
    old_all = beside q.at q.limbo

    abbrev new_all : SeenAll
    new_all = beside new limbo

    -- the archive then, with this table
    abbrev then : List (Option (Running Moving)) → Parts
    then later = record q { at = new; limbo = limbo; slots = later }

    s : StoresRetired tells from out.0.row published q new limbo result
    s = subst (λ (ls : List ℕ). StoresRetired tells from move.row ls q new limbo result) are
        (subst (λ (i : ℕ). StoresRetired tells from i lengths q new limbo result) out.1.is.series (subst (λ (k : ℕ). StoresRetired tells k running.series lengths q new limbo result) (place_is number store_is) says))

    fails : (e : DiskErr) → result ≡ Err e → FailsToRetire from move.row published tells old_all new_all e
    fails e is = subst (λ (x : Result RetireEnd DiskErr). IfErr x (FailsToRetire from move.row published tells old_all new_all)) is s.fails

    abbrev by_call : StoreCall RetireEnd ⊥
    by_call = retiring from move.row published (Remain tells new q.pinned q.limbo limbo)

    ends_so : (given : Result RetireEnd DiskErr) → result ≡ given → EndsFrom tells by_call new held (end_of_disk given)
    ends_so given is = subst (λ (x : Result RetireEnd DiskErr). EndsFrom tells by_call new held (end_of_disk x)) is (s.changes.ends held has)

    same_g : granularities new.manifests ≡ granularities q.at.manifests
    same_g = s.changes.costs.granularity

    more : m.faults ≤ new.faults
    more = let first : m.faults ≡ q.at.faults = was.faults in let later = s.changes.costs.faults in omega (arith, first, later)

    -- at each moment the disk has what is durable, or that without the parts
    passes : IsTrue tells → Passes (λ a image. HoldsStep (granularities q.at.manifests) n m image) q.at.past new.past
    passes told = passes_weaker (HoldsBy (granularities q.at.manifests) by_call.by held) (λ a image. HoldsStep (granularities q.at.manifests) n m image) q.at.past new.past (s.changes.any_moment told held has) (λ a image left holds. by_case image holds)
      where
        there : (image : Files) (x : Stores) → x ≡ held → HoldsAll (granularities q.at.manifests) image x → HoldsMachine (granularities q.at.manifests) image m
        there image x same holds = record { stores = held; holds = subst (HoldsAll (granularities q.at.manifests) image) same holds; durable = was.store.holds; stands = stand }

        by_case : (image : Files) → HoldsAll (granularities q.at.manifests) image held ⊎ ((made : Stores) × ((made ≡ held) ⊎ StoresRetire from out.0.row published held made) × HoldsAll (granularities q.at.manifests) image made) → HoldsStep (granularities q.at.manifests) n m image
        by_case image (inl holds) = inl (there image held refl holds)
        by_case image (inr (x, inl same, holds)) = inl (there image x same holds)
        by_case image (inr (x, inr by, holds)) = inr (change, change_is by.none_grown, record { stores = less; holds = subst (HoldsAll (granularities q.at.manifests) image) by.same holds; durable = retired_holds; stands = stand })

    -- WHAT THE ARCHIVE STANDS FOR

    leaves_apart : (names : List Name) → All (λ (x : Name). 2 ≤ x.0) names → AreApart from out.0.row count held names → LeavesNames names tells old_all new_all
    leaves_apart names later apart = s.leaves held names has (λ k d lt. (let two : 2 ≤ (get_or names k d).0 = later k d lt in omega (arith, two))) apart

    whole_of : (i : ℕ) → i < 3 → (files : List Filed) × AreWhole i tells new limbo held.stands files
    whole_of i low = let files = was.store.whole i low in s.whole held has i files.0 low files.1

    moves_on : AreMovesOf tells new_all m.told m.rows m.limbo held (ends_move n m.moves) q.slots
    moves_on = moves_same tells old_all new_all m move.row count move.store held stand has.known same_g leaves_apart (ends_move n m.moves) q.slots others was.store.moves

    same_limbo : IsKnown new.catalogue new.manifests held → StayOrEnter new from out.0.row count q.limbo limbo → IsLimboOf tells new_all m.told m.rows m.limbo
    same_limbo known cut = limbo_cut tells q.at new q.limbo limbo m.told m.rows m.limbo held has.known known same_g q.pinned s.shown s.stands was.limbo move.row count move.store cut

    pins_kept : ArePinsOf tells new_all m.told m.rows m.pins q.pinned
    pins_kept = pinned_stay tells old_all new_all m.told m.rows m.pins q.pinned (λ name bytes pin. s.shown name bytes (inr (inl pin))) was.pins

    -- while the stores have what they had, or it isn't known: without the move, and with this doubt
    abbrev still : (d : Option Change) → IsKnown new.catalogue new.manifests held → StayOrEnter new from move.row count q.limbo limbo → IsSound (record mo { doubt = d }) → IsDoubtOf q.doubt d → IsReady q.kept m.rows (ends_move n m.moves) d
        → Has tells new held ⊎ InDoubt tells new limbo held (record mo { doubt = d; faults = new.faults }) → Stands tells (then q.slots) (record mo { doubt = d; faults = new.faults })
    still d known cut sound doubt ready is_open =
        stands_after tells q mo was (then q.slots) (record mo { doubt = d; faults = new.faults }) (record { config = refl; doors = refl; rule = refl; own_doors = refl; faults = refl; granularity = same_g }) sound (same_limbo known cut) pins_kept
        (subst (λ (xs : List Row). AreRowsOf xs q.kept q.tails m.rows) (has.known.rows ∙ sym known.rows) was.rows) doubt ready
        (record { before = held; told = was.store.told; disk = was.store.disk; holds = was.store.holds; whole = whole_of; moves = moves_on; is_open = is_open })

    abbrev rests_still : Has tells new held → StayOrEnter new from move.row count q.limbo limbo → Rests tells (then q.slots) (record mo { faults = new.faults })
    rests_still now cut = record { stands = still m.doubt now.known cut was.sound was.doubt was.ready (inl now); settled = out.1.rests.settled }

    -- the parts have left
    module _ (removed : Result (Unit {0}) DiskErr) (ok : result ≡ Ok (ends.Retired removed)) where
      end : EndsFrom tells by_call new held (Done (ends.Retired removed))
      end = ends_so (Ok (ends.Retired removed)) ok

      now_less : Has tells new less
      now_less = subst (λ (x : Stores). Has tells new x) end.2.retires.same end.3

      limbo_is : LimboRetires tells new_all m out.0.row out.0.store out.0.to
      limbo_is = limbo_retires tells q.at new q.limbo limbo m out.1.sound held has seen_now was.store.holds was.rule stand was.limbo q.pinned was.pins move.row move.store out.1.is.moves row_low count move.to ends_there now_less same_g s.shown s.stands removed end.2.limbo

      -- the machine without them
      abbrev retired_machine : Machine
      retired_machine = record (without_move n (made limbo_is.into change m)) { faults = new.faults }

      retired_step : GoesOn n m (answer.Retired out.0.parts) retired_machine
      retired_step = retires move limbo_is.into out.1.here stage_is (none_grown_covered end.2.retires.none_grown) limbo_is.retires limbo_is.pinned refl

      retired_stands : Stands tells (then q.slots) retired_machine
      retired_stands =
          stands_after tells q mo was (then q.slots) retired_machine (record { config = refl; doors = refl; rule = refl; own_doors = refl; faults = refl; granularity = same_g })
          (move_step_sound n m retired_machine (answer.Retired move.parts) out.1.sound (runs (answer.Retired move.parts) (ap no_move out.1.here) (no_doubt out.1.rests.settled) (ap no_move out.1.here) retired_step more)) limbo_is.limbo
          (pins_retired tells q.at new q.limbo limbo m out.1.sound held has seen_now was.store.holds was.rule stand was.limbo q.pinned was.pins move.row move.store out.1.is.moves row_low count move.to ends_there now_less same_g s.shown s.stands removed end.2.limbo)
          (subst (λ (xs : List Row). AreRowsOf xs q.kept q.tails (made [] change m).rows) (has.known.rows ∙ sym now_less.known.rows) (rows_unlisted q.at.catalogue.rows q.kept q.tails m move.row move.store move.to was.rows)) was.doubt
          (subst (λ (d : Option Change). IsReady q.kept (made [] change m).rows (ends_move n m.moves) d) (sym out.1.rests.settled) tt)
          (record { before = less; told = was.store.told; disk = was.store.disk; holds = retired_holds; whole = whole_of; moves = moves_retired tells old_all new_all m move.row count move.store held stand has.known same_g leaves_apart (ends_move n m.moves) q.slots others was.store.moves out.1.sound move.to limbo_is.into (of_retired m move.row move.store move.to limbo_is.into limbo_is.retires.0); is_open = inl now_less })

    -- HOW IT ENDS

    step : (later : List (Option (Running Moving))) (reply : Reply) → StepEnds tells n m (then later) reply → (reply ≡ answer.DiskFault → Rose q.at.faults new.faults) → LeavesMove tells (with_slots slots q) (MoveStep n) reply (then later) → (IsWell reply → Tidies tells (with_slots slots q) (then later))
        → StepsOn tells n (with_slots slots q) m (record q { at = new; limbo = limbo; pinned = pinned; slots = later }) reply
    step later reply is cause moves tidy =
        let kept : KeepsListed tells (with_slots slots q) (then later) = λ name bytes keeps. s.shown name bytes (elim keeps [ inl on ↦ inl on | inr needed ↦ elim needed [ inl pin ↦ inr (inl pin) | inr none ↦ absurd (no_names name none) ] ]) in
        let on : StepsOn tells n (with_slots slots q) m (then later) reply = record { ends = is; any_moment = passes; faults = s.changes.costs.faults; cause = cause; moves = moves; files = kept; tidy = tidy } in
        with_same (λ (p : Parts). StepsOn tells n (with_slots slots q) m p reply) (then later) limbo pinned refl same_pins on

    -- no stray comes of a retirement that removed all
    well : (end : RetireEnd) → result ≡ Ok end → HasRemoved end → Tidies tells (with_slots slots q) (then q.slots)
    well end ok all_gone =
        let tidy = subst (λ (x : Result RetireEnd DiskErr). IfOk x (λ end. IsSettled new × (HasRemoved end → LeavesNoStray tells old_all new_all))) ok s.tidy in
        tidy_step tells (with_slots slots q) (then q.slots) n running None [] [] takes.ran takes.others tidy.0 (tidy.1 all_gone) (λ copying x there. absurd (cc (copying, listed))) (λ x there. absurd (no_names x there))

    pub on_retired : (parts : ℕ) → result ≡ Ok (ends.Retired (Ok tt)) → parts ≡ length lengths → StepsOn tells n (with_slots slots q) m (record q { at = new; limbo = limbo; pinned = pinned }) (answer.Retired parts)
    on_retired parts ok parts_are =
        let same : move.parts ≡ parts = sym (parts_are ∙ (ap length are ∙ (count_is ∙ out.1.is.parts))) in
        subst (λ (k : ℕ). StepsOn tells n (with_slots slots q) m (record q { at = new; limbo = limbo; pinned = pinned }) (answer.Retired k)) same
        (step q.slots (answer.Retired move.parts) (went_on (retired_machine (Ok tt) ok) (retired_step (Ok tt) ok) (retired_stands (Ok tt) ok)) (λ none. absurd (cc (none))) (λ name place told. absurd (cc (told))) (λ done. well (ends.Retired (Ok tt)) ok refl))

    -- a file of them couldn't be removed behind it
    pub on_unremoved : (e : DiskErr) → result ≡ Ok (ends.Retired (Err e)) → StepsOn tells n (with_slots slots q) m (record q { at = new; limbo = limbo; pinned = pinned }) answer.DiskFault
    on_unremoved e ok = step q.slots answer.DiskFault (not_removed (answer.Retired move.parts) (retired_machine (Err e) ok) refl (retired_step (Err e) ok) (retired_stands (Err e) ok)) (λ same. s.cause (Err e) ok refl) (λ name place told. absurd (cc (told))) (λ none. absurd none)

    -- a part has grown: limbo is as it was
    pub on_again : (len copied : ℕ) → result ≡ Ok (ends.Again len copied) → StepsOn tells n (with_slots slots q) m (record q { at = new; limbo = limbo; pinned = pinned }) (answer.Again len copied)
    on_again len copied ok =
        let end = ends_so (Ok (ends.Again len copied)) ok in
        let now = subst (λ (x : Stores). Has tells new x) end.2.0 end.3 in
        let cut : StayOrEnter new from move.row count q.limbo limbo = subst (λ (l : List Retired). StayOrEnter new from move.row count q.limbo l) (sym (s.again len copied ok)) (inl (all_stay (λ x. Unit {0}) (λ x. IsListedName new x.name) q.limbo (λ k d low. tt))) in
        let after = record mo { faults = new.faults } in
        step q.slots (answer.Again len copied) (went_on after (again_goes len copied end.2.1 after refl) (rests_still now cut).stands) (λ none. absurd (cc (none))) (λ name place told. absurd (cc (told))) (λ done. well (ends.Again len copied) ok tt)

    -- memory was wanting, and the move goes on as it did
    pub on_spent : (later : List (Option (Running Moving))) → result ≡ Err Memory → ((k : ℕ) → at later k ≡ cond (k == n) (Some running) (at q.slots k)) → StepsOn tells n (with_slots slots q) m (record q { at = new; limbo = limbo; pinned = pinned; slots = later }) answer.Memory
    on_spent later is back =
        let cut = (fails Memory is).failed in
        let own = move_same tells old_all new_all m move.row count move.store held stand has.known same_g leaves_apart move running (inr (next_other move.store out.1.is.moves)) out.1.is in
        step later answer.Memory (was_spent (put_back tells (then q.slots) (record m { faults = new.faults }) (ends_move n m.moves) n move running later (put_again m.moves n move out.1.here) out.1.sound (rests_still (ends_so (Err Memory) is) cut) own back).stands)
        (λ none. absurd (cc (none))) (λ name place told. absurd (cc (told))) (λ none. absurd none)

    -- the disk failed: the move has ended, and it may not be known whether its parts have left
    pub on_failed : result ≡ Err Fault → StepsOn tells n (with_slots slots q) m (record q { at = new; limbo = limbo; pinned = pinned }) answer.DiskFault
    on_failed is =
        step q.slots answer.DiskFault
        (elim ((fails Fault is).doubted held has refl) [
          | inl now ↦ has_failed (rests_still now (inr given)).stands
          | inr on ↦ in_doubt on.1.none_grown (subst (λ (x : Stores). Doubts tells new held x) on.1.same on.2)
        ])
        (λ same. s.changes.costs.cause (subst (λ (x : Result RetireEnd DiskErr). IsFailed (end_of_disk x)) (sym is) tt)) (λ name place told. absurd (cc (told))) (λ none. absurd none)
      where
        given : HandedOver new from out.0.row count q.limbo limbo
        given = (fails Fault is).handed refl

        in_doubt : ((k : ℕ) → HasNotGrown published (map entry_of (oldest from out.0.row count held)) k) → Doubts tells new held less → StepEnds tells n m (then q.slots) answer.DiskFault
        in_doubt none doubts =
            let own = change_is none in
            let go = retiring_handed tells q.at new q.limbo limbo m held has seen_now was.store.holds stand move.row move.store row_low count move.to ends_there doubts.known same_g q.pinned s.shown given in
            is_doubted change own (still (Some change) doubts.known (inr given) (with_doubt m.rule m.told m.rows m.limbo m.pins (ends_move n m.moves) m.doubt change was.sound (step_may n m change out.1.sound own))
            (subst (λ (d : Option Doubt). IsDoubtOf d (Some change)) (sym (no_own q.doubt (subst (λ (o : Option Change). IsDoubtOf q.doubt o) out.1.rests.settled was.doubt))) tt) (λ (k, other, there, same_row). others k other there same_row)
            (inr (record { change = change; is = refl; after = less; doubts = doubts; stand = refl; go = go; holds = retired_holds })))
