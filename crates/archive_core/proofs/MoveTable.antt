-- The table of moves beside the machine's, and what a sweep leaves of moves.
use Rattle.std.proofs.Common.{◌≡◌, inl, inr, ℕ, List, Bool, true, false, cond, Some, None, refl, sym, ◌∙◌, ap, subst, arith, ◌+◌, [], length, Option, ◌⊎◌, ◌≢◌, ◌≤◌, map, take, min, Result, Ok, Err, ◌-◌, ◌<◌, zero, suc, ◌∷◌, ◌++◌}
use Rattle.std.specs.FinMap.{get, FinMap, insert, remove, get-insert, get-remove}
use Rattle.std.specs.Prelude.{◌==◌, slice_get, IsSome, IsTrue, IfErr, IfOk, OnErr, slice_index, ◌↔◌, ◌&&◌, Contains, filter}
use Rattle.std.proofs.lemmas.Bool.Decides.{nat_tests}
use Rattle.std.proofs.lemmas.Option.{same_Some, slice_get_within}
use Rattle.moves.specs.Table.{at, IsOf}
use Rattle.moves.specs.declared.table.Running.{Running}
use Rattle.tier_store.specs.Pinned.{SeenAll, beside}
use Rattle.tier_store.specs.Stores.{Stores, list_at, tier as tier_at}
use Rattle.act_model.specs.Limbo.{RowFile, files_of, put, revived}
use Rattle.act_model.specs.Machine.{Machine, MoveState, Change}
use Rattle.act_model.specs.Rows.{RowState, Store, next_store, Long, Short, Medium, holds, same_store, tier}
use Rattle.archive_core.specs.MoveTies.{IsMoveOf, AreMovesOf, HasMoveOf, ends_from, GetsOne}
use Rattle.tier_store.specs.Change.{Has, IsKnownAt}
use Rattle.archive_core.specs.Parts.{Parts}
use Rattle.archive_core.specs.Stands.{Rests, InDoubt, IsReady, Stands}
use Rattle.archive_core.proofs.Settled.{rests_has, open_rows}
use Rattle.store_manifest.specs.declared.entry.Entry.{Entry}
use Rattle.act_model.specs.Rule.{index_of, Rule, IsPartition}
use Rattle.archive_core.proofs.MoveChoice.{next_place, goes_on, next_high, source_low}
use Rattle.std.specs.Ordering.{nat_cmp, eq_by_cmp}
use Rattle.std.proofs.lemmas.Cmp.{nat_cmp_total}
use Rattle.etl_mover.specs.Move.{HasBegun, Moving}
use Rattle.archive_core.specs.Growing.{HasRunning}
use Rattle.archive_core.specs.MoveChoice.{AreNumbers, HaveDurable, move_end, GoesOnBy, move_rule}
use Rattle.archive_core.proofs.Lists.{same_or_not, element, of_all}
use Rattle.act_model.specs.MoveStep.{ends_move}
use Rattle.act_model.specs.Sound.{IsSound, LimboSound}
use Rattle.act_model.proofs.StepLaws.{fewer_moves}
use Rattle.archive_core.specs.Taking.{Taken}
use Rattle.std.proofs.lemmas.List.{length-take}
use Rattle.moves.specs.Series.{of_series}
use Rattle.moves.specs.declared.parts.MoveRule.{MoveRule}
use Rattle.moves.specs.declared.series.ToMove.TheVariants.{Begin}
use Rattle.durable_write.specs.Held.{entry_of, Filed, IsListed, file_of, filed_at}
use Rattle.tier_store.specs.Beginning.{BeginsMove, IsChoice, parts_at, SaysBegun}
use Rattle.tier_store.specs.Copying.{CopiesBeside}
use Rattle.tier_store.specs.Moving.{RunsBeside, LeavesNames, names_of}
use Rattle.tier_store.proofs.Beginning.{parts_listed}
use Rattle.tier_store.proofs.RunningMoves.{runs_begun, copies_begun, fewer_names}
use Rattle.act_model.specs.MoveBegin.{new_move, Begins, begins, all_run, none_to_make, with_move}
use Rattle.archive_core.proofs.Windows.{list_is}
use Rattle.disk_model.specs.declared.disk.DiskErr.{DiskErr}
use Rattle.disk_model.specs.declared.disk.DiskErr.TheVariants.{Fault, Memory}
use Rattle.etl_rules.specs.Config.{ConfigState}
use Rattle.moves.specs.declared.series.ToMove.{ToMove}
use Rattle.act_model.specs.Changes.{no_doubt}
use Rattle.act_model.specs.Outcome.{runs}
use Rattle.act_model.specs.Reply.{Reply, reply_of}
use Rattle.act_model.specs.Step.{store_of}
use Rattle.act_model.proofs.MoveActs.{move_begin_sound}
use Rattle.archive_core.specs.Ends.{AskEnds, is_spent, is_answered}
use Rattle.archive_core.specs.Moving.{BeginsThere}
use Rattle.archive_core.proofs.Batches.{told_stands}
use Rattle.tier_store.specs.Opening.{answer_of}
use Rattle.act_model.specs.declared.acts.Answer.{Answer}
use Rattle.moves.specs.declared.series.ToMove.TheVariants as chosen
use Rattle.moves.specs.Table as table
use Rattle.tier_store.specs.declared.moving.StoreMove as begun_move
use Rattle.tier_store.specs.declared.moving.StoreMove.TheVariants as kind
use Rattle.act_model.specs.declared.acts.Answer.TheVariants as answer
use Rattle.std.specs.List.{AllByRecursion, list_any}
use Rattle.std.proofs.lemmas.List.Elements.{All-contains}
use Rattle.std.proofs.lemmas.List.Folds.{Any-from_list_any, list_any-from_Any}
use Rattle.disk_model.specs.Files.{Name}
use Rattle.partition_names.specs.Part.{IsPart, HoldsMoment}
use Rattle.partition_names.specs.Path.{path_of}
use Rattle.partition_names.specs.declared.part.Part.{Part}
use Rattle.partition_names.proofs.PartLemmas.{one_part}
use Rattle.series_model.specs.declared.sample.Sample.{Sample}
use Rattle.store_manifest.specs.Manifest.{ManifestState}
use Rattle.pv_catalog.specs.declared.row.Row.{Row}
use Rattle.durable_write.specs.Flush.{file_at}
use Rattle.durable_write.proofs.Places.{listed_at}
use Rattle.durable_write.proofs.Staying.{same_file, contains_map}
use Rattle.tier_store.specs.Limbo.{IsListedName}
use Rattle.tier_store.proofs.Places.{granularity_at, manifest_at}
use Rattle.act_model.specs.OpenPiece.{name_of}
use Rattle.act_model.specs.Sweep.{IsCopiedInto, IsSwept}
use Rattle.act_model.proofs.Rows.{same_store_is}
use Rattle.archive_core.specs.Memory.{IsRowAt}
use Rattle.archive_core.specs.Written.{AreWritten, IsListable, IsWritten, written_name}
use Rattle.archive_core.proofs.LimboSwept.{IsSamePlace, named_place, place_named}
use Rattle.archive_core.proofs.MovesKept.{SamePut}
use Rattle.durable_write.proofs.Written.{contains_entry}
use Rattle.durable_write.specs.Held as held_files

-- The table of moves beside the machine's: a move is taken out and put back, and one begins.

-- THE MACHINE'S MOVES

pub number_tests : (j k : ℕ) → eq_by_cmp nat_cmp j k ≡ (j == k)
number_tests j k = elim (same_or_not j k) [
  | inl same ↦
      let one : eq_by_cmp nat_cmp j k ≡ true = grind (arith, nat_tests, same) in
      let other : (j == k) ≡ true = grind (arith, nat_tests, same) in
      one ∙ sym other
  | inr apart ↦
      let one : eq_by_cmp nat_cmp j k ≡ false = grind (arith, nat_tests, apart) in
      let other : (j == k) ≡ false = grind (arith, nat_tests, apart) in
      one ∙ sym other
]

pub get_removed : (moves : FinMap nat_cmp MoveState) (n k : ℕ) → get (remove moves n) k ≡ cond (k == n) None (get moves k)
get_removed moves n k = get-remove nat_cmp_total moves n k ∙ ap (λ (b : Bool). cond b None (get moves k)) (number_tests k n)

pub get_inserted : (moves : FinMap nat_cmp MoveState) (n : ℕ) (move : MoveState) (k : ℕ) → get (insert moves n move) k ≡ cond (k == n) (Some move) (get moves k)
get_inserted moves n move k = get-insert nat_cmp_total moves n move k ∙ ap (λ (b : Bool). cond b (Some move) (get moves k)) (number_tests k n)

-- what is put there is there
pub put_there : (moves : FinMap nat_cmp MoveState) (n : ℕ) (move : MoveState) → get (insert moves n move) n ≡ Some move
put_there moves n move = let own : (n == n) ≡ true = grind (arith, nat_tests) in get_inserted moves n move n ∙ ap (λ (b : Bool). cond b (Some move) (get moves n)) own

-- beside what is left without it
pub put_in : (moves : FinMap nat_cmp MoveState) (n : ℕ) (move : MoveState) (k : ℕ) → get (insert moves n move) k ≡ cond (k == n) (Some move) (get (remove moves n) k)
put_in moves n move k = get_inserted moves n move k ∙ by_test (k == n) refl
  where
    by_test : (b : Bool) → (k == n) ≡ b → cond b (Some move) (get moves k) ≡ cond b (Some move) (get (remove moves n) k)
    by_test true is = refl
    by_test false is = sym (get_removed moves n k ∙ ap (λ (b : Bool). cond b None (get moves k)) is)

-- and what was there
pub put_again : (moves : FinMap nat_cmp MoveState) (n : ℕ) (move : MoveState) → get moves n ≡ Some move → (k : ℕ) → get moves k ≡ cond (k == n) (Some move) (get (remove moves n) k)
put_again moves n move here k = by_test (k == n) refl
  where
    by_test : (b : Bool) → (k == n) ≡ b → get moves k ≡ cond b (Some move) (get (remove moves n) k)
    by_test true is = (let same : k ≡ n = grind (arith, nat_tests, is) in ap (get moves) same ∙ here)
    by_test false is = sym (get_removed moves n k ∙ ap (λ (b : Bool). cond b None (get moves k)) is)

-- those that are left are among those that were
pub left_was : (moves : FinMap nat_cmp MoveState) (n k : ℕ) (other : MoveState) → get (remove moves n) k ≡ Some other → ((k == n) ≡ false) × (get moves k ≡ Some other)
left_was moves n k other here = by_test (k == n) refl (sym (get_removed moves n k) ∙ here)
  where
    by_test : (b : Bool) → (k == n) ≡ b → cond b None (get moves k) ≡ Some other → ((k == n) ≡ false) × (get moves k ≡ Some other)
    by_test true is gone = absurd (cc (gone))
    by_test false is there = (is, there)

pub had_running : (moves : FinMap nat_cmp MoveState) (n row : ℕ) → HasRunning (remove moves n) row → HasRunning moves row
had_running moves n row (k, other, there, same) = (k, other, (left_was moves n k other there).1, same)

-- THE NUMBERS

module _ (tells : Bool) (all : SeenAll) (m : Machine) (before : Stores) (slots : List (Option (Running Moving))) (are : AreMovesOf tells all m.told m.rows m.limbo before m.moves slots) where
  -- the move of this number is the machine's
  pub moves_at : (n : ℕ) (running : Running Moving) → at slots n ≡ Some running → (move : MoveState) × (get m.moves n ≡ Some move) × IsMoveOf tells all m.told m.rows m.limbo before move running
  moves_at n running there = by_move (get m.moves n) refl
    where
      by_move : (o : Option MoveState) → get m.moves n ≡ o → (move : MoveState) × (get m.moves n ≡ Some move) × IsMoveOf tells all m.told m.rows m.limbo before move running
      by_move None none = let no = are.none n none in absurd (cc (no, there))
      by_move (Some move) here =
          let has = are.each n move here in
          (move, here, subst (IsMoveOf tells all m.told m.rows m.limbo before move) (same_Some has.running running (sym has.there ∙ there)) has.is)

  -- a number that no move has is none of the machine's
  pub free_number : (n : ℕ) → at slots n ≡ None → get m.moves n ≡ None
  free_number n none = by_move (get m.moves n) refl
    where
      by_move : (o : Option MoveState) → get m.moves n ≡ o → o ≡ None
      by_move None is = refl
      by_move (Some move) here = let has = (are.each n move here).there in absurd (cc (none, has))

  -- a number of the table's is one of the machine's
  pub taken_number : (n : ℕ) → IsSome (at slots n) → IsSome (get m.moves n)
  taken_number n some = by_move (get m.moves n) refl
    where
      by_move : (o : Option MoveState) → get m.moves n ≡ o → IsSome o
      by_move None is = let no = are.none n is in absurd (cc (no, some))
      by_move (Some move) is = refl

  -- the moves by their rows are the machine's
  pub numbers_are : (by : ℕ → Option ℕ) → ((row n : ℕ) → by row ≡ Some n → IsOf slots n row) → ((row n : ℕ) → IsOf slots n row → IsSome (by row)) → AreNumbers m by
  numbers_are by rows_run every = record {
    runs = λ row n told.
        let is = rows_run row n told in
        let move = moves_at n is.running is.runs in
        (move.0, move.1, sym move.2.series ∙ is.own);
    all = λ n move here. let has = are.each n move here in every move.row n (record { running = has.running; runs = has.there; own = has.is.series });
  }

-- ANOTHER TABLE

module _ (tells : Bool) (all : SeenAll) (told : Bool) (rows : List RowState) (limbo : List RowFile) (before : Stores) where
  -- a move of the machine and one of the table, or neither
  abbrev pub IsBoth : Option MoveState → Option (Running Moving) → Type 0
  IsBoth None None = Unit {0}
  IsBoth None (Some running) = ⊥
  IsBoth (Some move) None = ⊥
  IsBoth (Some move) (Some running) = IsMoveOf tells all told rows limbo before move running

  -- the machine and the table have another move under one number, or none
  pub moves_set : (rest moves : FinMap nat_cmp MoveState) (slots later : List (Option (Running Moving))) (n : ℕ) (o : Option MoveState) (p : Option (Running Moving)) → ((k : ℕ) → get moves k ≡ cond (k == n) o (get rest k)) → ((k : ℕ) → at later k ≡ cond (k == n) p (at slots k))
      → IsBoth o p → AreMovesOf tells all told rows limbo before rest slots → AreMovesOf tells all told rows limbo before moves later
  moves_set rest moves slots later n o p moves_are slots_are both are = record {
    none = λ k none. slots_are k ∙ by_none k (k == n) o p both (sym (moves_are k) ∙ none);
    each = λ k other here. by_each k other (k == n) o p both (slots_are k) (sym (moves_are k) ∙ here);
  }
    where
      by_none : (k : ℕ) (b : Bool) (x : Option MoveState) (y : Option (Running Moving)) → IsBoth x y → cond b x (get rest k) ≡ None → cond b y (at slots k) ≡ None
      by_none k true None None pair none = refl
      by_none k true None (Some running) pair none = absurd pair
      by_none k true (Some move) y pair none = absurd (cc (none))
      by_none k false x y pair none = are.none k none

      by_each : (k : ℕ) (other : MoveState) (b : Bool) (x : Option MoveState) (y : Option (Running Moving)) → IsBoth x y → at later k ≡ cond b y (at slots k) → cond b x (get rest k) ≡ Some other → HasMoveOf tells all told rows limbo before later k other
      by_each k other true None y pair there here = absurd (cc (here))
      by_each k other true (Some move) None pair there here = absurd pair
      by_each k other true (Some move) (Some running) pair there here = record { running = running; there = there; is = subst (λ (x : MoveState). IsMoveOf tells all told rows limbo before x running) (same_Some move other here) pair }
      by_each k other false x y pair there here = let has = are.each k other here in record { running = has.running; there = there ∙ has.there; is = has.is }

  pub moves_without : (moves : FinMap nat_cmp MoveState) (slots later : List (Option (Running Moving))) (n : ℕ) → ((k : ℕ) → at later k ≡ cond (k == n) None (at slots k)) → AreMovesOf tells all told rows limbo before moves slots → AreMovesOf tells all told rows limbo before (remove moves n) later
  moves_without moves slots later n left are = moves_set moves (remove moves n) slots later n None None (get_removed moves n) left tt are

-- the table's moves may be told in another way
pub moves_told : (tells : Bool) (all : SeenAll) (told : Bool) (rows : List RowState) (limbo : List RowFile) (before : Stores) (m : Machine) (slots later : List (Option (Running Moving))) → ((k : ℕ) → at later k ≡ at slots k) → AreMovesOf tells all told rows limbo before m.moves slots → AreMovesOf tells all told rows limbo before m.moves later
moves_told tells all told rows limbo before m slots later same are = record {
  none = λ n none. same n ∙ are.none n none;
  each = λ n move here. let has = are.each n move here in record { running = has.running; there = same n ∙ has.there; is = has.is };
}

-- an archive with another table, and the machine with the moves of that
abbrev pub stands_moves : (tells : Bool) (p : Parts) (m : Machine) (s : Stands tells p m) (later : List (Option (Running Moving))) (moves : FinMap nat_cmp MoveState) → IsSound (record m { moves = moves }) → IsReady p.kept m.rows moves m.doubt
    → AreMovesOf tells (beside p.at p.limbo) m.told m.rows m.limbo s.store.before moves later → Has tells p.at s.store.before ⊎ InDoubt tells p.at p.limbo s.store.before (record m { moves = moves }) → Stands tells (record p { slots = later }) (record m { moves = moves })
stands_moves tells p m s later moves sound ready are is_open = record {
  sound = sound;
  rule = s.rule;
  limbo = s.limbo;
  settings = s.settings;
  pins = s.pins;
  faults = s.faults;
  doors = s.doors;
  rows = s.rows;
  doubt = s.doubt;
  ready = ready;
  store = record { before = s.store.before; told = s.store.told; disk = s.store.disk; holds = s.store.holds; whole = s.store.whole; moves = are; is_open = is_open };
}

-- so it is where nothing stands in doubt
abbrev pub rests_moves : (tells : Bool) (p : Parts) (m : Machine) (r : Rests tells p m) (later : List (Option (Running Moving))) (moves : FinMap nat_cmp MoveState) → IsSound (record m { moves = moves })
    → AreMovesOf tells (beside p.at p.limbo) m.told m.rows m.limbo r.stands.store.before moves later → Rests tells (record p { slots = later }) (record m { moves = moves })
rests_moves tells p m r later moves sound are = record {
  stands = stands_moves tells p m r.stands later moves sound (subst (λ (d : Option Change). IsReady p.kept m.rows moves d) (sym r.settled) tt) are (inl (rests_has tells p m r));
  settled = r.settled;
}

-- with a table of the same moves the archive stands for the same machine
pub slots_stand : (tells : Bool) (p : Parts) (m : Machine) (later : List (Option (Running Moving))) → ((k : ℕ) → at later k ≡ at p.slots k) → Rests tells p m → Stands tells (record p { slots = later }) m
slots_stand tells p m later same r = (rests_moves tells p m r later m.moves r.stands.sound (moves_told tells (beside p.at p.limbo) m.told m.rows m.limbo r.stands.store.before m p.slots later same r.stands.store.moves)).stands

-- a move that runs is taken out
pub take_out : (tells : Bool) (p : Parts) (m : Machine) (r : Rests tells p m) (n : ℕ) (running : Running Moving) (later : List (Option (Running Moving))) → at p.slots n ≡ Some running → ((k : ℕ) → at later k ≡ cond (k == n) None (at p.slots k)) → (move : MoveState) × Taken tells (record p { slots = later }) n running m move
take_out tells p m r n running later ran others =
    let s = r.stands in
    let was = moves_at tells (beside p.at p.limbo) m s.store.before p.slots s.store.moves n running ran in (
      was.0,
      record {
        here = was.1;
        sound = s.sound;
        rests = rests_moves tells p m r later (ends_move n m.moves) (fewer_moves m.rule m.told m.rows m.limbo m.pins m.moves (ends_move n m.moves) m.doubt (λ k other here. (left_was m.moves n k other here).1) s.sound)
            (moves_without tells (beside p.at p.limbo) m.told m.rows m.limbo s.store.before m.moves p.slots later n others s.store.moves);
        is = was.2;
      },
    )

-- a move is put back
abbrev pub put_back : (tells : Bool) (p : Parts) (m : Machine) (rest : FinMap nat_cmp MoveState) (n : ℕ) (move : MoveState) (running : Running Moving) (later : List (Option (Running Moving))) → ((k : ℕ) → get m.moves k ≡ cond (k == n) (Some move) (get rest k)) → IsSound m → (r : Rests tells p (record m { moves = rest }))
    → IsMoveOf tells (beside p.at p.limbo) m.told m.rows m.limbo r.stands.store.before move running → ((k : ℕ) → at later k ≡ cond (k == n) (Some running) (at p.slots k)) → Rests tells (record p { slots = later }) m
put_back tells p m rest n move running later moves_are sound r is slots_are =
    rests_moves tells p (record m { moves = rest }) r later m.moves sound (moves_set tells (beside p.at p.limbo) m.told m.rows m.limbo r.stands.store.before rest m.moves p.slots later n (Some move) (Some running) moves_are slots_are is r.stands.store.moves)

module _ (tells : Bool) (all : SeenAll) (held : Stores) (m : Machine) (disk : IsTrue held.stands → IsTrue tells) (has : Has tells all.stores held) (have : HaveDurable all.stores.catalogue all.stores.manifests held m) (store : Store) (apart : store ≢ Long) (number : ℕ) (is_store : number ≡ index_of store + 1) (rule : MoveRule) (running : ℕ → Option ℕ) (row n : ℕ) (moving : Moving) (choice : IsChoice rule (index_of store) running held (Begin row n)) (begins : BeginsMove tells (index_of store) all.stores.manifests held row n moving) where
  listed : begins.source.entries ≡ map entry_of (list_at (index_of store) held)
  listed = (has.known.each (index_of store) begins.source begins.from).entries

  -- as many parts as are to move
  parts_count : length moving.parts ≡ n
  parts_count =
      let own = of_series row (map entry_of (list_at (index_of store) held)) in
      let long : parts_at rule (index_of store) held row ≤ length own = parts_listed rule (map entry_of (list_at (index_of store) held)) (map entry_of (list_at (index_of store + 1) held)) row in
      let is : n ≡ parts_at rule (index_of store) held row = choice.1 in
      let few : min n (length own) ≡ n = omega (arith, long, is) in
      ap length (begins.begun.parts ∙ ap (λ (es : List Entry). take n (of_series row es)) listed) ∙ (length-take n own ∙ few)

  some_parts : 1 ≤ length moving.parts
  some_parts =
      let some = choice.0.some in
      let is : n ≡ parts_at rule (index_of store) held row = choice.1 in
      let count = parts_count in
      omega (arith, some, is, count)

  beside_begun : RunsBeside (index_of (next_store store)) tells all moving [] held
  beside_begun =
      let next = next_place store apart in
      let series = begins.begun.series in
      runs_begun (index_of (next_store store)) (index_of store) tells all held begins.source begins.destination begins.own n moving has next begins.from
      (ap (slice_get all.stores.manifests) next ∙ begins.to) (ap (slice_get held.rows) series ∙ begins.here)
      (subst (λ (k : ℕ). HasBegun begins.source begins.destination k begins.own.name n moving) (sym series) begins.begun) begins.goes_on begins.lists

  copies_nothing : CopiesBeside (index_of store) tells all moving [] held
  copies_nothing =
      let series = begins.begun.series in
      copies_begun (index_of store) tells all held begins.source begins.destination begins.own n moving disk has begins.from begins.to (ap (slice_get held.rows) series ∙ begins.here)
      (subst (λ (k : ℕ). HasBegun begins.source begins.destination k begins.own.name n moving) (sym series) begins.begun) begins.goes_on begins.lists some_parts

  -- it has copied nothing
  pub is_new_move : IsMoveOf tells all m.told m.rows m.limbo held (new_move store row n (move_end held store row n)) (record { series = row; store = number; moving = moving })
  is_new_move = record {
    series = refl;
    own = begins.begun.series;
    store = is_store;
    moves = apart;
    files = [];
    beside = beside_begun;
    parts = parts_count;
    to = λ told. ap (λ (es : List Entry). ends_from 0 (take n (of_series row es))) (sym listed) ∙ ap (ends_from 0) (sym begins.begun.parts);
    stage = copies_nothing;
    copied = λ told copying r here. list_is m held row r have.holds told here (next_store store);
    into = λ told. record { each = tt; just = tt };
  }

-- the count of faults is nothing to the choice
pub begins_goes : (store : Store) (now : ℕ) (m : Machine) (f : ℕ) (given : Reply) (new : Machine) → Begins store now (record m { faults = f }) given new → Begins store now m given new
begins_goes store now m f _ new (begins n i parts to apart low free gap least has passed same) = begins n i parts to apart low free gap least has passed same
begins_goes store now m f _ new (all_run n i moving made passed none same) = all_run n i moving made passed none same
begins_goes store now m f _ new (none_to_make none same) = none_to_make none same

-- it isn't told as want of memory
pub begins_tell : (store : Store) (now : ℕ) (m : Machine) (given : Reply) (new : Machine) → Begins store now m given new → given ≡ answer.Memory → ⊥
begins_tell store now m _ new (begins n i parts to apart low free gap least has passed same) told = cc (told)
begins_tell store now m _ new (all_run n i moving made passed none same) told = cc (told)
begins_tell store now m _ new (none_to_make none same) told = cc (told)

pub not_long : (number : ℕ) → store_of number ≢ Long
not_long number = by_test (number == 1)
  where
    by_test : (b : Bool) → cond b Short Medium ≢ Long
    by_test true is = cc (is)
    by_test false is = cc (is)

-- the place of store 1 or 2
pub place_is : (number : ℕ) → 1 ≤ number → number ≤ 2 → index_of (store_of number) ≡ number - 1
place_is number from to = by_test (number == 1) refl
  where
    by_test : (b : Bool) → (number == 1) ≡ b → index_of (store_of number) ≡ number - 1
    by_test true is = let one : number ≡ 1 = grind (arith, nat_tests, is) in rw is (omega (arith, one))
    by_test false is = let two : number ≡ 2 = grind (arith, nat_tests, is, from, to) in rw is (omega (arith, two))

pub place_next : (number : ℕ) → 1 ≤ number → number ≤ 2 → number ≡ index_of (store_of number) + 1
place_next number from to = let is = place_is number from to in omega (arith, is, from)

-- the rule by the settings is the machine's
rule_is : (rule : Rule) (config : ConfigState) (number now : ℕ) → 1 ≤ number → number ≤ 2 → rule.hold ≡ config.hold → rule.gather ≡ config.gather
    → ◌≡◌ {A = MoveRule} (record { hold = slice_index config.hold (number - 1); gather = slice_index config.gather (number - 1); at = now }) (move_rule rule (store_of number) now)
rule_is rule config number now from to hold gather = rw (place_is number from to, hold, gather) refl

-- HOW THE STORES' ANSWER IS TOLD

-- of a store by its number, with the rule that the settings say, and the moves that run by their rows
module _ (tells : Bool) (p : Parts) (m : Machine) (r : Rests tells p m) (number now : ℕ) (first : 1 ≤ number) (last : number ≤ 2) (rule : MoveRule) (same_rule : rule ≡ record { hold = slice_index p.config.hold (number - 1); gather = slice_index p.config.gather (number - 1); at = now })
    (by : ℕ → Option ℕ) (runs_by : (row n : ℕ) → by row ≡ Some n → table.IsOf p.slots n row) (every : (row n : ℕ) → table.IsOf p.slots n row → IsSome (by row)) (told : ℕ) (is_told : told ≡ number) where
  abbrev store : Store
  store = store_of number

  abbrev held : Stores
  held = r.stands.store.before

  has : Has tells p.at held
  has = rests_has tells p m r

  have : HaveDurable p.at.catalogue p.at.manifests held m
  have = record { known = has.known; holds = r.stands.store.holds; rule = r.stands.rule.granularity; stands = told_stands tells m.told held.stands r.stands.store.told }

  -- what is said of the place that was told
  said : (given : begun_move.StoreMove) → SaysBegun tells (told - 1) rule by p.at.manifests given held → SaysBegun tells (index_of store) rule by p.at.manifests given held
  said given says = subst (λ (k : ℕ). SaysBegun tells k rule by p.at.manifests given held) (let is = place_is number first last in omega (arith, is_told, is)) says

  goes : (choice : ToMove) → IsChoice rule (index_of store) by held choice → GoesOnBy m held store now choice
  goes choice is =
      let settings = r.stands.settings in
      goes_on p.at.catalogue p.at.manifests held m have store now (not_long number) by (numbers_are tells (beside p.at p.limbo) m held p.slots r.stands.store.moves by runs_by every) choice
      (subst (λ (x : MoveRule). IsChoice x (index_of store) by held choice) (same_rule ∙ rule_is m.rule p.config number now first last settings.hold settings.gather) is)

  -- a move begins
  pub begun_there : (k row n : ℕ) (moving : Moving) (later : List (Option (Running Moving))) → SaysBegun tells (told - 1) rule by p.at.manifests (kind.Begun row n moving) held → table.at p.slots k ≡ None → ((j : ℕ) → j < k → IsSome (table.at p.slots j))
      → ((j : ℕ) → table.at later j ≡ cond (j == k) (Some (record { series = row; store = number; moving = moving })) (table.at p.slots j)) → BeginsThere tells (store_of number) now m (answer.Begun k row n) (record p { slots = later })
  begun_there k row n moving later says free least with_it =
      let s = r.stands in
      let all = beside p.at p.limbo in
      let is = said (kind.Begun row n moving) says in
      let move : MoveState = new_move store row n (move_end held store row n) in
      let new : Machine = with_move k move m in
      let below : (j : ℕ) → j < k → IsSome (get m.moves j) = λ j lt. taken_number tells all m held p.slots s.store.moves j (least j lt) in
      let ran : Begins store now m (answer.Begun k row n) new = goes (chosen.Begin row n) is.0 k new (free_number tells all m held p.slots s.store.moves k free) below refl in (
        new,
        ran,
        (rests_moves tells p m r later (insert m.moves k move) (move_begin_sound store now m new (answer.Begun k row n) s.sound (runs (answer.Begun k row n) refl (no_doubt r.settled) refl ran (omega arith)))
            (moves_set tells all m.told m.rows m.limbo held m.moves (insert m.moves k move) p.slots later k (Some move) (Some (record { series = row; store = number; moving = moving })) (get_inserted m.moves k move) with_it
            (is_new_move tells all held m s.store.disk has have store (not_long number) number (place_next number first last) rule by row n moving is.0 is.1) s.store.moves)).stands,
      )

  -- those that are to be made run already
  pub all_there : (k : ℕ) → SaysBegun tells (told - 1) rule by p.at.manifests (kind.Running k) held → BeginsThere tells (store_of number) now m (answer.Busy k) p
  all_there k says = (m, goes (chosen.Running k) (said (kind.Running k) says) m refl, r.stands)

  -- none is to be made
  pub none_there : SaysBegun tells (told - 1) rule by p.at.manifests kind.Nothing held → BeginsThere tells (store_of number) now m (answer.Nothing p.doors) p
  none_there says = subst (λ (doors : ℕ). BeginsThere tells store now m (answer.Nothing doors) p) r.stands.doors (m, goes chosen.Nothing (said kind.Nothing says) m refl, r.stands)

-- HOW THE ACT ENDS

module _ (tells : Bool) (store : Store) (now : ℕ) (q new : Parts) (R : Type 0) (reader_tells : Bool) (bytes : R → List ℕ) (faults : R → ℕ) where
  pub begun_ends : (r : Result (Answer R) DiskErr) → IfOk r (λ begun. (m : Machine) → Rests tells q m → BeginsThere tells store now m (reply_of reader_tells bytes faults begun) new) → OnErr r ((m : Machine) → Rests tells q m → Stands tells new m)
      → IfErr r (λ e. e ≡ Memory) → (m : Machine) → Rests tells q m → AskEnds tells (Begins store now) q m new (reply_of reader_tells bytes faults (answer_of r))
  begun_ends (Ok begun) goes spent memory m r = let there = goes m r in is_answered there.0 there.1 there.2
  begun_ends (Err Memory) goes spent memory m r = let s = spent m r in is_spent (subst (λ (f : ℕ). Stands tells new (record m { faults = f })) s.faults s)
  begun_ends (Err Fault) goes spent memory m r = absurd (cc (memory))

-- What running moves have written stays through a sweep, which is told its names, and so does what the machine makes of their copies.

-- WHAT THE MACHINE MAKES OF COPIES

filter_both : (p q : RowFile → Bool) (xs : List RowFile) → filter p (filter q xs) ≡ filter q (filter p xs)
filter_both p q [] = refl
filter_both p q (x ∷ xs) = by_tests (p x) refl (q x) refl (filter_both p q xs)
  where
    by_tests : (a : Bool) → p x ≡ a → (b : Bool) → q x ≡ b → filter p (filter q xs) ≡ filter q (filter p xs) → filter p (cond b (x ∷ filter q xs) (filter q xs)) ≡ filter q (cond a (x ∷ filter p xs) (filter p xs))
    by_tests true is true other rest = rw (is, other) (ap (λ (l : List RowFile). x ∷ l) rest)
    by_tests true is false other rest = rw other rest
    by_tests false is true other rest = rw is rest
    by_tests false is false other rest = rest

-- of no copied sample is a file that doesn't stay
abbrev LetsGo : (RowFile → Bool) → List Sample → RowFile → Type 0
LetsGo stays copied f = stays f ≡ false → list_any (λ (s : Sample). holds f.part s.t) copied ≡ false

abbrev Spares : (RowFile → Bool) → Sample → RowFile → Type 0
Spares stays s f = stays f ≡ false → holds f.part s.t ≡ false

revived_kept : (stays : RowFile → Bool) (limbo : List RowFile) (listed : List Sample) (s : Sample) → AllByRecursion (Spares stays s) limbo → revived (filter stays limbo) listed s ≡ revived limbo listed s
revived_kept stays [] listed s all = refl
revived_kept stays (f ∷ limbo) listed s all = by_test (stays f) refl (holds f.part s.t) refl (revived_kept stays limbo listed s all.1)
  where
    by_test : (a : Bool) → stays f ≡ a → (b : Bool) → holds f.part s.t ≡ b → revived (filter stays limbo) listed s ≡ revived limbo listed s → revived (cond a (f ∷ filter stays limbo) (filter stays limbo)) listed s ≡ revived (f ∷ limbo) listed s
    by_test true is true lies rest = rw lies refl
    by_test true is false lies rest = rw lies rest
    by_test false is true lies rest = absurd (let no = all.0 is in cc (no, lies))
    by_test false is false lies rest = rw lies rest

any_head : (p : Sample → Bool) (s : Sample) (xs : List Sample) → list_any p (s ∷ xs) ≡ false → (p s ≡ false) × (list_any p xs ≡ false)
any_head p s xs none = by_test (p s) refl none
  where
    by_test : (b : Bool) → p s ≡ b → list_any p (s ∷ xs) ≡ false → (p s ≡ false) × (list_any p xs ≡ false)
    by_test true is off = absurd (let yes = list_any-from_Any p (s ∷ xs) (0, s, omega arith, refl, is) in cc (yes, off))
    by_test false is off = (is, by_rest (list_any p xs) refl)
      where
        by_rest : (b : Bool) → list_any p xs ≡ b → list_any p xs ≡ false
        by_rest false off_it = off_it
        by_rest true on_it =
            let some = Any-from_list_any p xs on_it in
            let any = list_any-from_Any p (s ∷ xs) (suc some.0, some.1, (let low = some.2 in omega (arith, low)), some.3, some.4) in
            absurd (cc (any, off))

put_kept : (stays : RowFile → Bool) (limbo : List RowFile) (copied listed : List Sample) → AllByRecursion (LetsGo stays copied) limbo → put copied (filter stays limbo) listed ≡ put copied limbo listed
put_kept stays limbo [] listed all = refl
put_kept stays limbo (s ∷ rest) listed all =
    let same = revived_kept stays limbo listed s (first limbo all) in
    ap (λ (r : List Sample). put rest (filter stays limbo) (listed ++ (r ++ s ∷ []))) same ∙ put_kept stays limbo rest (listed ++ (revived limbo listed s ++ s ∷ [])) (others limbo all)
  where
    first : (fs : List RowFile) → AllByRecursion (LetsGo stays (s ∷ rest)) fs → AllByRecursion (Spares stays s) fs
    first [] each = tt
    first (f ∷ fs) each = ((λ off. (any_head (λ (x : Sample). holds f.part x.t) s rest (each.0 off)).0), first fs each.1)

    others : (fs : List RowFile) → AllByRecursion (LetsGo stays (s ∷ rest)) fs → AllByRecursion (LetsGo stays rest) fs
    others [] each = tt
    others (f ∷ fs) each = ((λ off. (any_head (λ (x : Sample). holds f.part x.t) s rest (each.0 off)).1), others fs each.1)

module _ (m : Machine) (stays : RowFile → Bool) (n : ℕ) (move : MoveState) (here : get m.moves n ≡ Some move) where
  free : (limbo : List RowFile) → IsSwept m stays limbo → AllByRecursion (LetsGo stays move.copied) (files_of move.row (next_store move.store) limbo)
  free [] each = tt
  free (f ∷ limbo) each = by_test (f.row == move.row) refl (same_store f.store (next_store move.store)) refl (free limbo each.1)
    where
      goes : f.row ≡ move.row → f.store ≡ next_store move.store → LetsGo stays move.copied f
      goes row store off = by_any (list_any (λ (s : Sample). holds f.part s.t) move.copied) refl
        where
          by_any : (b : Bool) → list_any (λ (s : Sample). holds f.part s.t) move.copied ≡ b → list_any (λ (s : Sample). holds f.part s.t) move.copied ≡ false
          by_any false is = is
          by_any true is = let on = each.0.1 (inr (record { number = n; move = move; here = here; place = (sym row, sym store); some = is })) in absurd (cc (on, off))

      by_test : (a : Bool) → (f.row == move.row) ≡ a → (b : Bool) → same_store f.store (next_store move.store) ≡ b → AllByRecursion (LetsGo stays move.copied) (files_of move.row (next_store move.store) limbo)
          → AllByRecursion (LetsGo stays move.copied) (cond (a && b) (f ∷ files_of move.row (next_store move.store) limbo) (files_of move.row (next_store move.store) limbo))
      by_test true row true store rest = (goes (grind (arith, nat_tests, row)) (same_store_is f.store (next_store move.store) store), rest)
      by_test true row false store rest = rest
      by_test false row b store rest = rest

  -- what a move has copied makes of its row what it made
  pub swept_put : IsSwept m stays m.limbo → SamePut m.rows m.rows m.limbo (filter stays m.limbo) move
  swept_put swept row at_row = (
    row,
    at_row,
    sym (put_kept stays (files_of move.row (next_store move.store) m.limbo) move.copied (tier row (next_store move.store)) (free m.limbo swept))
        ∙ ap (λ (l : List RowFile). put move.copied l (tier row (next_store move.store))) (sym (filter_both (λ (f : RowFile). f.row == move.row && same_store f.store (next_store move.store)) stays m.limbo)),
  )

-- WHAT THE STORES ARE TOLD

-- what a running move is to list is of rows that stand
pub listable : (tells : Bool) (p : Parts) (m : Machine) → Rests tells p m → (n : ℕ) (running : Running Moving) → at p.slots n ≡ Some running → IsListable p.at.catalogue.rows running
listable tells p m r n running there =
    let before = r.stands.store.before in
    let found = moves_at tells (beside p.at p.limbo) m before p.slots r.stands.store.moves n running there in
    let is = found.2 in
    let low = source_low found.0.store is.moves in
    let number = is.store in
    let within = slice_get_within before.rows running.moving.series is.beside.row is.beside.stands in
    let rows = ap length (open_rows tells p.at before m r.stands.store.is_open) in
    record {
      store = omega (arith, low, number);
      series = λ k d lt. (let own = (is.beside.running.pending k d lt).1 in omega (arith, own, within, rows));
    }

module _ (tells : Bool) (p : Parts) (m : Machine) (r : Rests tells p m) (names : List Name) (written : AreWritten p.at.catalogue.rows p.slots names) where
  abbrev before : Stores
  before = r.stands.store.before

  abbrev all : SeenAll
  all = beside p.at p.limbo

  are : AreMovesOf tells all m.told m.rows m.limbo before m.moves p.slots
  are = r.stands.store.moves

  same_rows : p.at.catalogue.rows ≡ before.rows
  same_rows = open_rows tells p.at before m r.stands.store.is_open

  -- the files of each move are among them
  pub names_there : (n : ℕ) (move : MoveState) (running : Running Moving) → at p.slots n ≡ Some running → (is : IsMoveOf tells all m.told m.rows m.limbo before move running) → (name : Name) → Contains (names_of (index_of (next_store move.store) + 1, before.rows) is.files) name → Contains names name
  names_there n move running there is name within =
      let f = from_map is.files name within in
      let entry : Contains running.moving.pending f.0.entry = subst (λ (es : List Entry). Contains es f.0.entry) (sym is.beside.pending) (contains_entry is.files f.0 f.1) in
      let next = next_place move.store is.moves in
      let place = is.store in
      let number : running.store + 1 ≡ index_of (next_store move.store) + 1 = omega (arith, next, place) in
      let own : written_name p.at.catalogue.rows running f.0.entry ≡ file_of (index_of (next_store move.store) + 1, before.rows) f.0.entry = λ k. file_of (number k, same_rows k) f.0.entry in
      subst (Contains names) (own ∙ f.2) (All-contains (λ (e : Entry). Contains names (written_name p.at.catalogue.rows running e)) running.moving.pending f.0.entry (written.each n running there) entry)
    where
      from_map : (fs : List Filed) (x : Name) → Contains (names_of (index_of (next_store move.store) + 1, before.rows) fs) x → (f : Filed) × Contains fs f × (file_of (index_of (next_store move.store) + 1, before.rows) f.entry ≡ x)
      from_map [] x (k, low, at_k) = absurd (omega (arith, low))
      from_map (f ∷ fs) x (zero, low, same) = (f, (zero, omega arith, refl), same)
      from_map (f ∷ fs) x (suc k, low, same) = let rest = from_map fs x (k, omega (arith, low), same) in (rest.0, (suc rest.1.0, omega (arith, rest.1.1), rest.1.2), rest.2)

  pub names_left : (new : SeenAll) → LeavesNames names tells all new → (n : ℕ) (move : MoveState) (running : Running Moving) → at p.slots n ≡ Some running → (is : IsMoveOf tells all m.told m.rows m.limbo before move running) → LeavesNames (names_of (index_of (next_store move.store) + 1, before.rows) is.files) tells all new
  names_left new leaves n move running there is = fewer_names (names_of (index_of (next_store move.store) + 1, before.rows) is.files) names tells all new (names_there n move running there is) leaves

  -- OF THE MACHINE'S FILES

  module _ (told : m.told ≡ true) (n : ℕ) (move : MoveState) (here : get m.moves n ≡ Some move) (running : Running Moving) (is : IsMoveOf tells all m.told m.rows m.limbo before move running) where
    row : (q : RowState) × (slice_get m.rows move.row ≡ Some q)
    row = element m.rows move.row (r.stands.sound.each_move n move here).here

    -- a written file as one of the machine's
    abbrev as_file : Filed → RowFile
    as_file g = record { row = move.row; store = next_store move.store; part = g.entry.part; head = g.head; samples = g.samples }

    part_of : (g : Filed) → Contains is.files g → IsPart running.moving.granularity g.entry.part × (g.entry.series ≡ running.moving.series)
    part_of g within = All-contains (λ (e : Entry). IsPart running.moving.granularity e.part × (e.series ≡ running.moving.series)) running.moving.pending g.entry is.beside.running.pending (subst (λ (es : List Entry). Contains es g.entry) (sym is.beside.pending) (contains_entry is.files g within))

    partition : (g : Filed) → Contains is.files g → IsPartition m.rule (next_store move.store) g.entry.part
    partition g within = record { unit = running.moving.granularity; of_store = ap (λ (gs : _). slice_get gs (index_of (next_store move.store))) r.stands.rule.granularity ∙ is.beside.to_coarse; is = (part_of g within).0 }

    -- it has the machine's name
    named : (g : Filed) → Contains is.files g → written_name p.at.catalogue.rows running g.entry ≡ name_of row.0 (as_file g)
    named g within =
        let own : IsRowAt p.at.catalogue.rows p.kept p.tails move.row row.0 = r.stands.rows.each move.row row.0 row.1 in
        let series : g.entry.series ≡ move.row = (part_of g within).1 ∙ is.own in
        let next = next_place move.store is.moves in
        let place = is.store in
        let number : running.store + 1 ≡ index_of (next_store move.store) + 1 = omega (arith, next, place) in
        let text : held_files.name_of (slice_get p.at.catalogue.rows g.entry.series) ≡ row.0.name = ap (λ (k : ℕ). held_files.name_of (slice_get p.at.catalogue.rows k)) series ∙ (ap held_files.name_of own.here ∙ sym own.is.name) in
        λ k. (number k, path_of (text k) g.entry.part.name)

    -- where the store lists a file in a written one's place, it lists one of its name
    lists_named : (g : Filed) → Contains is.files g → (h : Filed) → Contains (list_at (index_of (next_store move.store)) before) h → filed_at h ≡ filed_at g → IsListedName p.at (written_name p.at.catalogue.rows running g.entry)
    lists_named g within h listed same = record {
      place = k;
      manifest = unit.0;
      here = unit.1;
      entry = h.entry;
      within = subst (λ (es : List Entry). Contains es h.entry) (sym known.entries) (contains_entry (list_at k before) h listed);
      named = ap (λ (rows : List Row). file_of (k + 1, rows) h.entry) same_rows ∙ (same_file unit.0.granularity (k + 1) before.rows h g h_is g_is same ∙ (λ j. file_of (number j, sym same_rows j) g.entry));
    }
      where
        k : ℕ
        k = index_of (next_store move.store)

        has : Has tells p.at before
        has = rests_has tells p m r

        unit : (x : ManifestState) × (slice_get p.at.manifests k ≡ Some x)
        unit = manifest_at p.at.manifests k (let three = has.known.three in let low = next_high move.store in omega (arith, three, low))

        known : IsKnownAt unit.0 (tier_at k before)
        known = has.known.each k unit.0 unit.1

        h_is : IsListed unit.0.granularity before.rows h
        h_is = All-contains (IsListed unit.0.granularity before.rows) (list_at k before) h known.valid.filed.listed listed

        g_is : IsListed unit.0.granularity before.rows g
        g_is = All-contains (IsListed unit.0.granularity before.rows) is.files g (is.beside.ahead.filed unit.0.granularity (granularity_at p.at.manifests k unit.0 unit.1)).listed within

        number : k + 1 ≡ running.store + 1
        number = let next = next_place move.store is.moves in let place = is.store in omega (arith, next, place)

    -- where a file of limbo has the name of a written one, the move has copied into its partition
    module _ (f : RowFile) (own_row : RowState) (at_row : slice_get m.rows f.row ≡ Some own_row) (limbo_part : IsPartition m.rule f.store f.part) where
      -- the store lists nothing there
      not_there : Contains m.limbo f → (g : Filed) → Contains is.files g → written_name p.at.catalogue.rows running g.entry ≡ name_of own_row f → file_at (filed_at g) (list_at (index_of (next_store move.store)) before) ≡ None
      not_there of_limbo g within same = elim (listed_at (list_at (index_of (next_store move.store)) before) (filed_at g)) [
        | inl none ↦ none
        | inr (h, listed, at_place, own) ↦ absurd (r.stands.limbo.unlisted told f own_row of_limbo at_row (subst (IsListedName p.at) same (lists_named g within h listed at_place)))
      ]

      pub into_named : Contains m.limbo f → (g : Filed) → Contains is.files g → written_name p.at.catalogue.rows running g.entry ≡ name_of own_row f → IsCopiedInto m f
      into_named of_limbo g within same =
          let place : IsSamePlace (as_file g) f = place_named m r.stands.sound f (as_file g) own_row row.0 at_row row.1 limbo_part (partition g within) (sym (named g within) ∙ same) in
          let some = of_all (GetsOne (list_at (index_of (next_store move.store)) before) move.copied) is.files g (is.into told).just within (not_there of_limbo g within same) in
          record { number = n; move = move; here = here; place = (place.row, place.store); some = ap (λ (q : Part). list_any (λ (s : Sample). holds q s.t) move.copied) (sym place.part) ∙ some }

      -- and where it has copied into the partition, it has written to the file
      pub named_into : (move.row ≡ f.row) × (next_store move.store ≡ f.store) → list_any (λ (s : Sample). holds f.part s.t) move.copied ≡ true → (g : Filed) × Contains is.files g × (written_name p.at.catalogue.rows running g.entry ≡ name_of own_row f)
      named_into place some =
          let any = Any-from_list_any (λ (s : Sample). holds f.part s.t) move.copied some in
          let s = any.1 in
          let file = of_all (λ (x : Sample). list_any (λ (g : Filed). holds g.entry.part x.t) is.files ≡ true) move.copied s (is.into told).each (any.0, any.2, any.3) in
          let found = Any-from_list_any (λ (g : Filed). holds g.entry.part s.t) is.files file in
          let g = found.1 in
          let within : Contains is.files g = (found.0, found.2, found.3) in
          let unit = partition g within in
          let same_unit : limbo_part.unit ≡ unit.unit = same_Some limbo_part.unit unit.unit (sym limbo_part.of_store ∙ (ap (λ (st : Store). slice_get m.rule.granularity (index_of st)) (sym place.1) ∙ unit.of_store)) in
          let lies : (q : Part) → holds q s.t ≡ true → HoldsMoment q s.t = λ q is_in. (grind (arith, nat_tests, is_in), grind (arith, nat_tests, is_in)) in
          let part : g.entry.part ≡ f.part = one_part unit.unit g.entry.part f.part s.t unit.is (subst (λ (u : _). IsPart u f.part) same_unit limbo_part.is) (lies g.entry.part found.4) (lies f.part any.4) in
          (g, within, named g within ∙ named_place m r.stands.sound f (as_file g) own_row row.0 at_row row.1 limbo_part unit (record { row = place.0; store = place.1; part = part }))

  -- they are just the names of the files that running moves have copied into
  pub copied_named : (f : RowFile) (own_row : RowState) → Contains m.limbo f → slice_get m.rows f.row ≡ Some own_row → Contains names (name_of own_row f) ↔ IsCopiedInto m f
  copied_named f own_row there at_row = (forth, back)
    where
      told : m.told ≡ true
      told = by_told m.told refl
        where
          by_told : (b : Bool) → m.told ≡ b → m.told ≡ true
          by_told true on = on
          by_told false off = let none = r.stands.limbo.none off in absurd (let low = (subst (λ (l : List RowFile). Contains l f) none there).1 in omega (arith, low))

      part : IsPartition m.rule f.store f.part
      part = (of_all (LimboSound m.rule m.told m.rows) m.limbo f r.stands.sound.each_file there).partition told

      forth : Contains names (name_of own_row f) → IsCopiedInto m f
      forth within =
          let is = All-contains (IsWritten p.at.catalogue.rows p.slots) names (name_of own_row f) written.just within in
          let move = moves_at tells all m before p.slots are is.number is.running is.runs in
          let file = contains_map move.2.files is.entry (subst (λ (es : List Entry). Contains es is.entry) move.2.beside.pending is.within) in
          into_named told is.number move.0 move.1 is.running move.2 f own_row at_row part there file.0 file.1 (ap (written_name p.at.catalogue.rows is.running) file.2 ∙ is.named)

      back : IsCopiedInto m f → Contains names (name_of own_row f)
      back is =
          let has = are.each is.number is.move is.here in
          let file = named_into told is.number is.move is.here has.running has.is f own_row at_row part is.place is.some in
          let entry : Contains has.running.moving.pending file.0.entry = subst (λ (es : List Entry). Contains es file.0.entry) (sym has.is.beside.pending) (contains_entry has.is.files file.0 file.1) in
          subst (Contains names) file.2 (All-contains (λ (e : Entry). Contains names (written_name p.at.catalogue.rows has.running e)) has.running.moving.pending file.0.entry (written.each is.number has.running has.there) entry)
