-- The choice of a move: where lists end, what is chosen by them, and what the stores make of a publication and a retirement.
use Rattle.std.proofs.Common.{◌≡◌, ℕ, zero, suc, ◌+◌, ◌≤◌, ◌<◌, List, [], ◌∷◌, length, Bool, true, false, cond, Some, refl, sym, ◌∙◌, ap, arith, map, ◌-◌, min, ◌≢◌, ◌++◌, subst, inl, inr, take, ◌^◌, None, max, ◌⊎◌, drop, append-nil}
use Rattle.std.specs.Prelude.{slice_get, All, ◌==◌, filter, nat_eq, IsTrue, Option, IsSome, count_by, nat_le, slice_index}
use Rattle.std.proofs.lemmas.List.Elements.{All-head, All-tail, All-filter, filter-append}
use Rattle.series_model.specs.Series.{end_of, end_from, IsRising, RisesFrom, since, before}
use Rattle.series_model.specs.declared.sample.Sample.{Sample}
use Rattle.partition_names.specs.declared.granularity.Granularity.{Granularity}
use Rattle.partition_names.proofs.PartLemmas.{within}
use Rattle.pv_catalog.specs.declared.row.Row.{Row}
use Rattle.store_manifest.specs.declared.entry.Entry.{Entry}
use Rattle.durable_write.specs.Held.{Filed, IsFiled, entry_of, samples_of, filed_at}
use Rattle.tier_store.specs.Stores.{Stores, list_at, with_list}
use Rattle.std.specs.List.{flat_map, AllByRecursion}
use Rattle.series_model.proofs.RisingLists.{end_from-append, end_from-ge, since-append, since_all, since_none}
use Rattle.partition_names.specs.declared.part.Part.{Part}
use Rattle.partition_names.specs.Part.{HoldsMoment, IsPart}
use Rattle.tier_store.proofs.Places.{manifest_at, ends_inside, row_rises, own_series, rises_inside}
use Rattle.durable_write.specs.Flush.{put_all, file_at, PlacesRise}
use Rattle.durable_write.specs.Plan.{of_row}
use Rattle.act_model.specs.Rows.{Store, Short, Medium, Long, next_store, RowState, tier, window, is_empty, with_tier}
use Rattle.act_model.specs.Rule.{index_of, Rule, IsPartition}
use Rattle.archive_core.specs.MoveTies.{ends_from, GetsOne, GoInto}
use Rattle.std.proofs.lemmas.Bool.Decides.{nat_tests}
use Rattle.pv_catalog.specs.Catalogue.{CatalogueState}
use Rattle.store_manifest.specs.Manifest.{ManifestState}
use Rattle.act_model.specs.Crash.{kept_of, DurableRow}
use Rattle.act_model.specs.Machine.{Machine, Change, Publishes, Unlists}
use Rattle.archive_core.specs.MoveChoice.{HaveDurable, move_end, AreNumbers, GoesOnBy, file_parts, move_rule, parts_to_move, row_files}
use Rattle.archive_core.proofs.Windows.{AreApart, all_in, files_held, windows, index_low, from_there, count_of, durable_made, kept_to}
use Rattle.std.proofs.lemmas.Option.{same_Some, slice_get_within}
use Rattle.tier_store.specs.Change.{Has}
use Rattle.tier_store.specs.Seen.{Seen}
use Rattle.archive_core.specs.Opening.{listed_from, listed_end, entries_at, end_at}
use Rattle.durable_write.proofs.Places.{put_own, sooner, later, Comes, filter_swap, file_of_row, put_all_other, rise_filter}
use Rattle.tier_store.specs.Moving.{RunsBeside, ListsAlso}
use Rattle.tier_store.specs.Pinned.{SeenAll}
use Rattle.archive_core.proofs.Lists.{all_of, of_all, element, same_or_not}
use Rattle.std.proofs.lemmas.List.{length-map}
use Rattle.std.proofs.lemmas.List.Sums.{sum_by-cons}
use Rattle.etl_rules.specs.Choosing.{ripe}
use Rattle.moves.specs.Parts.{covered, is_covered, parts_of as choice_parts, end_of as end_of_part}
use Rattle.moves.specs.Series.{of_series, IsPassed as IsPassedBy}
use Rattle.moves.specs.declared.series.ToMove.{ToMove}
use Rattle.moves.specs.declared.series.ToMove.TheVariants.{Begin, Running, Nothing}
use Rattle.tier_store.specs.Beginning.{IsChoice}
use Rattle.tier_store.proofs.Beginning.{parts_listed}
use Rattle.act_model.specs.MoveBegin.{HasMove, HasNoMove, IsFree, IsMoving, IsPassed, begins, all_run, none_to_make, chosen, front_length, parts_of}
use Rattle.act_model.specs.Parts.{PartsFrom, AreParts}
use Rattle.std.proofs.lemmas.Bool.{cases_order}
use Rattle.store_manifest.specs.Entries.{Place, comes_before, without, put as put_at}
use Rattle.durable_write.specs.Ahead.{without_all}
use Rattle.tier_store.specs.Retiring.{oldest, without_oldest}
use Rattle.act_model.specs.Changes.{added, at, changed, made}
use Rattle.act_model.specs.Limbo.{files_of, put, RowFile, revived}
use Rattle.archive_core.specs.Stands.{IsDurableAt, HoldsDurable}
use Rattle.act_model.proofs.RowLaws.{before_none}
use Rattle.act_model.proofs.Copies.{before_all}
use Rattle.act_model.proofs.Puts.{before-append}
use Rattle.etl_mover.specs.Move.{Moving}

-- Where what a store lists of a row ends.

-- a list that isn't empty ends where it ends, whatever comes before
any_start : (n : ℕ) (xs : List Sample) (first : Sample) (others : List Sample) → xs ≡ first ∷ others → end_from n xs ≡ end_of xs
any_start n xs first others is = ap (end_from n) is ∙ sym (ap (end_from 0) is)

-- it ends behind its last entry
pub last_end : (n : ℕ) (es : List Entry) (e : Entry) (k : ℕ) → slice_get es k ≡ Some e → k + 1 ≡ length es → listed_from n es ≡ e.last + 1
last_end n [] e k here is = absurd (omega (arith, is))
last_end n (x ∷ []) e zero here is = ap (λ (y : Entry). y.last + 1) (same_Some x e here)
last_end n (x ∷ []) e (suc k) here is = absurd (omega (arith, is))
last_end n (x ∷ y ∷ es) e zero here is = absurd (omega (arith, is))
last_end n (x ∷ y ∷ es) e (suc k) here is = last_end (x.last + 1) (y ∷ es) e k here (omega (arith, is))

pub files_end : (g : Granularity) (rows : List Row) (n : ℕ) (fs : List Filed) → All (IsFiled g rows) fs → end_from n (flat_map (λ (f : Filed). f.samples) fs) ≡ listed_from n (map entry_of fs)
files_end g rows n [] filed = refl
files_end g rows n (f ∷ fs) filed =
    let is = All-head (IsFiled g rows) f fs filed in
    let own : end_from n f.samples ≡ f.entry.last + 1 = any_start n f.samples is.first is.others is.some ∙ sym is.to in
    end_from-append n f.samples (flat_map (λ (h : Filed). h.samples) fs)
    ∙ (ap (λ (k : ℕ). end_from k (flat_map (λ (h : Filed). h.samples) fs)) own ∙ files_end g rows (f.entry.last + 1) fs (All-tail (IsFiled g rows) f fs filed))

pub own_entries : (i : ℕ) (files : List Filed) → map entry_of (filter (λ (f : Filed). nat_eq f.entry.series i) files) ≡ filter (λ (e : Entry). e.series == i) (map entry_of files)
own_entries i [] = refl
own_entries i (f ∷ files) = by_test (nat_eq f.entry.series i) refl (own_entries i files)
  where
    by_test : (b : Bool) → nat_eq f.entry.series i ≡ b → map entry_of (filter (λ (f : Filed). nat_eq f.entry.series i) files) ≡ filter (λ (e : Entry). e.series == i) (map entry_of files)
        → map entry_of (cond b (f ∷ filter (λ (f : Filed). nat_eq f.entry.series i) files) (filter (λ (f : Filed). nat_eq f.entry.series i) files)) ≡ filter (λ (e : Entry). e.series == i) (f.entry ∷ map entry_of files)
    by_test true is rest = let same : (f.entry.series == i) ≡ true = is in rw same (ap (λ (es : List Entry). f.entry ∷ es) rest)
    by_test false is rest = let same : (f.entry.series == i) ≡ false = is in rw same rest

inside_end : (n : ℕ) (p : Part) (xs : List Sample) → n ≤ p.end → All (λ (s : Sample). HoldsMoment p s.t) xs → end_from n xs ≤ p.end
inside_end n p [] low inside = low
inside_end n p (x ∷ xs) low inside =
    let here : HoldsMoment p x.t = All-head (λ (s : Sample). HoldsMoment p s.t) x xs inside in
    let under = here.1 in
    inside_end (x.t + 1) p xs (omega (arith, under)) (All-tail (λ (s : Sample). HoldsMoment p s.t) x xs inside)

few_end : (g : Granularity) (rows : List Row) (n : ℕ) (fs : List Filed) → n ≤ 2 ^ 64 - 1 → All (IsFiled g rows) fs → listed_from n (map entry_of fs) ≤ 2 ^ 64 - 1
few_end g rows n [] low filed = low
few_end g rows n (f ∷ fs) low filed =
    let is = All-head (IsFiled g rows) f fs filed in
    let range = (within g f.entry.part is.part).2 in
    let end : end_of f.samples ≤ f.entry.part.end = inside_end 0 f.entry.part f.samples (omega arith) is.inside in
    let to : f.entry.last + 1 ≡ end_of f.samples = is.to in
    few_end g rows (f.entry.last + 1) fs (omega (arith, range, end, to)) (All-tail (IsFiled g rows) f fs filed)

-- of one store: where its samples of a row end, and that they rise
pub place_end : (at : Seen) (held : Stores) → (tells : Bool) → Has tells at held → IsTrue held.stands → (place i : ℕ) → place < 3 → end_at at.manifests place i ≡ end_of (samples_of i (list_at place held))
place_end at held tells has stands place i low =
    let three = has.known.three in
    let m = manifest_at at.manifests place (omega (arith, low, three)) in
    let known = has.known.each place m.0 m.1 in
    let files = list_at place held in
    let filed = known.valid.filed.filed stands in
    let own = All-filter (λ (f : Filed). nat_eq f.entry.series i) (IsFiled m.0.granularity held.rows) files filed in
    let here = m.1 in
    let listed : entries_at at.manifests place i ≡ map entry_of (filter (λ (f : Filed). nat_eq f.entry.series i) files) = rw here (ap (filter (λ (e : Entry). e.series == i)) known.entries ∙ sym (own_entries i files)) in
    let few : listed_end (map entry_of (filter (λ (f : Filed). nat_eq f.entry.series i) files)) ≤ 2 ^ 64 - 1 = few_end m.0.granularity held.rows 0 (filter (λ (f : Filed). nat_eq f.entry.series i) files) (omega arith) own in
    let least : min (listed_end (map entry_of (filter (λ (f : Filed). nat_eq f.entry.series i) files))) (2 ^ 64 - 1) ≡ listed_end (map entry_of (filter (λ (f : Filed). nat_eq f.entry.series i) files)) = omega (arith, few) in
    ap (λ (es : List Entry). min (listed_end es) (2 ^ 64 - 1)) listed ∙ (least ∙ sym (files_end m.0.granularity held.rows 0 (filter (λ (f : Filed). nat_eq f.entry.series i) files) own))

pub place_rises : (at : Seen) (held : Stores) → (tells : Bool) → Has tells at held → IsTrue held.stands → (place i : ℕ) → place < 3 → IsRising (samples_of i (list_at place held))
place_rises at held tells has stands place i low =
    let three = has.known.three in
    let m = manifest_at at.manifests place (omega (arith, low, three)) in
    let known = has.known.each place m.0 m.1 in
    row_rises m.0.granularity held.rows i (list_at place held) (known.valid.filed.filed stands) known.valid.apart

-- The choice of a move by what the stores list of a row is the machine's, by its samples.

-- a list has the same files of a row as another that had, once the same files of the row are put into both
pub put_rows : (row : ℕ) (fs xs ys : List Filed) → AllByRecursion (λ (f : Filed). f.entry.series ≡ row) fs → of_row row xs ≡ of_row row ys → of_row row (put_all xs fs) ≡ of_row row (put_all ys fs)
put_rows row [] xs ys own same = same
put_rows row (f ∷ fs) xs ys own same =
    put_rows row fs (put_at filed_at f xs) (put_at filed_at f ys) own.1
    (put_own row f xs own.0 ∙ ((λ k. sooner f.entry.part.start (same k) ++ (f ∷ later f.entry.part.start (same k))) ∙ sym (put_own row f ys own.0)))

-- what a move has to list is of its row
files_own : (g : Granularity) (row : ℕ) (files : List Filed) → All (λ (e : Entry). IsPart g e.part × (e.series ≡ row)) (map entry_of files) → AllByRecursion (λ (f : Filed). f.entry.series ≡ row) files
files_own g row [] all = tt
files_own g row (f ∷ files) all =
    let P : Entry → Type 0 = λ e. IsPart g e.part × (e.series ≡ row) in
    ((All-head P f.entry (map entry_of files) all).1, files_own g row files (All-tail P f.entry (map entry_of files) all))

pub ahead_own : (i : ℕ) (tells : Bool) (all : SeenAll) (move : Moving) (files : List Filed) (held : Stores) → RunsBeside i tells all move files held → AllByRecursion (λ (f : Filed). f.entry.series ≡ move.series) files
ahead_own i tells all move files held runs = files_own move.granularity move.series files (subst (All (λ (e : Entry). IsPart move.granularity e.part × (e.series ≡ move.series))) runs.pending runs.running.pending)

-- so files of a row go into the same places of a list that has the same files of it
pub into_same : (row : ℕ) (copied : List Sample) (files xs ys : List Filed) → AllByRecursion (λ (f : Filed). f.entry.series ≡ row) files → of_row row ys ≡ of_row row xs → GoInto xs copied files → GoInto ys copied files
into_same row copied files xs ys own same into = record {
  each = into.each;
  just = all_of (GetsOne ys copied) files (λ f there none.
      let series : f.entry.series ≡ row = of_all (λ (h : Filed). h.entry.series ≡ row) files f own there in
      let own_same : of_row f.entry.series xs ≡ of_row f.entry.series ys = subst (λ (k : ℕ). of_row k xs ≡ of_row k ys) (sym series) (sym same) in
      let was : file_at (filed_at f) xs ≡ None = file_of_row (filed_at f) xs ∙ (ap (file_at (filed_at f)) own_same ∙ (sym (file_of_row (filed_at f) ys) ∙ none)) in
      of_all (GetsOne xs copied) files f into.just there was);
}

-- no move goes to the first store
pub next_low : (store : Store) → 1 ≤ index_of (next_store store)
next_low Short = omega arith
next_low Medium = omega arith
next_low Long = omega arith

pub next_high : (store : Store) → index_of (next_store store) < 3
next_high Short = omega arith
next_high Medium = omega arith
next_high Long = omega arith

-- the place behind a store's is that of the next store
pub next_place : (store : Store) → store ≢ Long → index_of (next_store store) ≡ index_of store + 1
next_place Short apart = refl
next_place Medium apart = refl
next_place Long apart = absurd (apart refl)

-- a move out of one of the first two stores
pub source_low : (store : Store) → store ≢ Long → index_of store < 2
source_low Short apart = omega arith
source_low Medium apart = omega arith
source_low Long apart = absurd (apart refl)

abbrev part_of : Filed → Part
part_of f = f.entry.part

-- THE PARTITIONS OF A ROW'S FILES

parts_rise : (g : Granularity) (rows : List Row) (n : ℕ) (xs : List Sample) (fs : List Filed) → All (IsFiled g rows) fs → AreApart fs → AllByRecursion (λ (f : Filed). n ≤ f.entry.part.start) fs → AllByRecursion (λ (f : Filed). window f.entry.part xs ≡ f.samples) fs → PartsFrom n xs (map part_of fs)
parts_rise g rows n xs [] filed apart low cuts = tt
parts_rise g rows n xs (f ∷ fs) filed apart low cuts = (low.0, (within g f.entry.part is.part).1, some, parts_rise g rows f.entry.part.end xs fs (All-tail (IsFiled g rows) f fs filed) apart.1 apart.0 cuts.1)
  where
    is : IsFiled g rows f
    is = All-head (IsFiled g rows) f fs filed

    some : is_empty (window f.entry.part xs) ≡ true → ⊥
    some empty = let none : true ≡ false = sym empty ∙ (ap is_empty cuts.0 ∙ ap is_empty is.some) in cc (none)

each_partition : (rule : Rule) (store : Store) (g : Granularity) (rows : List Row) → slice_get rule.granularity (index_of store) ≡ Some g → (fs : List Filed) → All (IsFiled g rows) fs → AllByRecursion (IsPartition rule store) (map part_of fs)
each_partition rule store g rows of_store [] filed = tt
each_partition rule store g rows of_store (f ∷ fs) filed = (record { unit = g; of_store = of_store; is = (All-head (IsFiled g rows) f fs filed).part }, each_partition rule store g rows of_store fs (All-tail (IsFiled g rows) f fs filed))

windows_join : (xs : List Sample) (fs : List Filed) → AllByRecursion (λ (f : Filed). window f.entry.part xs ≡ f.samples) fs → flat_map (λ p. window p xs) (map part_of fs) ≡ all_in fs
windows_join xs [] cuts = refl
windows_join xs (f ∷ fs) cuts = ap (λ (ys : List Sample). ys ++ flat_map (λ p. window p xs) (map part_of fs)) cuts.0 ∙ ap (λ (ys : List Sample). f.samples ++ ys) (windows_join xs fs cuts.1)

-- no file starts before the beginning
pub from_zero : (fs : List Filed) → AllByRecursion (λ (f : Filed). 0 ≤ f.entry.part.start) fs
from_zero [] = tt
from_zero (f ∷ fs) = (omega arith, from_zero fs)

-- the partitions of the files of one row are those of its samples
pub files_are_parts : (rule : Rule) (store : Store) (g : Granularity) (rows : List Row) → slice_get rule.granularity (index_of store) ≡ Some g → (fs : List Filed) → All (IsFiled g rows) fs → AreApart fs → AllByRecursion (λ (f : Filed). window f.entry.part (all_in fs) ≡ f.samples) fs → AreParts rule store (all_in fs) (map part_of fs)
files_are_parts rule store g rows of_store fs filed apart cuts = record {
  rise = parts_rise g rows 0 (all_in fs) fs filed apart (from_zero fs) cuts;
  each_one = each_partition rule store g rows of_store fs filed;
  all = sym (windows_join (all_in fs) fs cuts);
}

-- COUNTS OF A FRONT

-- behind a file that doesn't pass none does
abbrev PassFirst : (Filed → Bool) → List Filed → Type 0
PassFirst p [] = Unit {0}
PassFirst p (f ∷ fs) = (p f ≡ false → AllByRecursion (λ (h : Filed). p h ≡ false) fs) × PassFirst p fs

none_pass : (p : Filed → Bool) (fs : List Filed) → AllByRecursion (λ (h : Filed). p h ≡ false) fs → count_by p fs ≡ 0
none_pass p [] none = refl
none_pass p (f ∷ fs) none =
    let more : count_by p (f ∷ fs) ≡ 0 + count_by p fs = sum_by-cons (λ (h : Filed). cond (p h) 1 0) f fs ∙ ap (λ (b : Bool). cond b 1 0 + count_by p fs) none.0 in
    let rest = none_pass p fs none.1 in
    omega (arith, more, rest)

-- so those that pass are a front
front_count : (q : Part → Bool) (p : Filed → Bool) (fs : List Filed) → AllByRecursion (λ (f : Filed). q f.entry.part ≡ p f) fs → PassFirst p fs → count_by p fs ≡ front_length q (map part_of fs)
front_count q p [] same first = refl
front_count q p (f ∷ fs) same first = by_test (p f) refl (front_count q p fs same.1 first.1)
  where
    step : count_by p (f ∷ fs) ≡ cond (p f) 1 0 + count_by p fs
    step = sum_by-cons (λ (h : Filed). cond (p h) 1 0) f fs

    by_test : (b : Bool) → p f ≡ b → count_by p fs ≡ front_length q (map part_of fs) → count_by p (f ∷ fs) ≡ front_length q (f.entry.part ∷ map part_of fs)
    by_test true is rest =
        let more : count_by p (f ∷ fs) ≡ 1 + count_by p fs = step ∙ ap (λ (b : Bool). cond b 1 0 + count_by p fs) is in
        let front : front_length q (f.entry.part ∷ map part_of fs) ≡ front_length q (map part_of fs) + 1 = ap (λ (b : Bool). cond b (front_length q (map part_of fs) + 1) 0) (same.0 ∙ is) in
        omega (arith, more, front, rest)
    by_test false is rest =
        let more : count_by p (f ∷ fs) ≡ 0 + count_by p fs = step ∙ ap (λ (b : Bool). cond b 1 0 + count_by p fs) is in
        let front : front_length q (f.entry.part ∷ map part_of fs) ≡ 0 = ap (λ (b : Bool). cond b (front_length q (map part_of fs) + 1) 0) (same.0 ∙ is) in
        let none : count_by p fs ≡ 0 = none_pass p fs (first.0 is) in
        omega (arith, more, front, none)

count_map : {A B : Type 0} (k : A → B) (p : B → Bool) (xs : List A) → count_by p (map k xs) ≡ count_by (λ x. p (k x)) xs
count_map {A} {B} k p [] = refl
count_map {A} {B} k p (x ∷ xs) = sum_by-cons (λ y. cond (p y) 1 0) (k x) (map k xs) ∙ (ap (λ (n : ℕ). cond (p (k x)) 1 0 + n) (count_map k p xs) ∙ sym (sum_by-cons (λ y. cond (p (k y)) 1 0) x xs))

-- THOSE THAT HAVE ENDED

test_later : (a b n : ℕ) → a < b → nat_le a n ≡ false → nat_le b n ≡ false
test_later a b n lt fails = grind (arith, nat_tests)

same_test : (q : Part → Bool) (fs : List Filed) → AllByRecursion (λ (f : Filed). q f.entry.part ≡ q f.entry.part) fs
same_test q [] = tt
same_test q (f ∷ fs) = (refl, same_test q fs)

ended_first : (g : Granularity) (rows : List Row) (now : ℕ) (fs : List Filed) → All (IsFiled g rows) fs → AreApart fs → PassFirst (λ (f : Filed). nat_le f.entry.part.end now) fs
ended_first g rows now [] filed apart = tt
ended_first g rows now (f ∷ fs) filed apart = (λ fails. later fails fs (All-tail (IsFiled g rows) f fs filed) apart.0, ended_first g rows now fs (All-tail (IsFiled g rows) f fs filed) apart.1)
  where
    later : nat_le f.entry.part.end now ≡ false → (hs : List Filed) → All (IsFiled g rows) hs → AllByRecursion (λ (h : Filed). f.entry.part.end ≤ h.entry.part.start) hs → AllByRecursion (λ (h : Filed). nat_le h.entry.part.end now ≡ false) hs
    later fails [] filed behind = tt
    later fails (h ∷ hs) filed behind =
        let wide = (within g h.entry.part (All-head (IsFiled g rows) h hs filed).part).1 in
        let start = behind.0 in
        (test_later f.entry.part.end h.entry.part.end now (omega (arith, wide, start)) fails, later fails hs (All-tail (IsFiled g rows) h hs filed) behind.1)

ripe_is : (g : Granularity) (rows : List Row) (now : ℕ) (fs : List Filed) → All (IsFiled g rows) fs → AreApart fs → ripe now (map end_of_part (map entry_of fs)) ≡ front_length (λ p. nat_le p.end now) (map part_of fs)
ripe_is g rows now fs filed apart =
    count_map end_of_part (λ (at : ℕ). nat_le at now) (map entry_of fs)
    ∙ (count_map entry_of (λ (e : Entry). nat_le e.part.end now) fs
    ∙ front_count (λ (p : Part). nat_le p.end now) (λ (f : Filed). nat_le f.entry.part.end now) fs (same_test (λ (p : Part). nat_le p.end now) fs) (ended_first g rows now fs filed apart))

-- THOSE THAT ARE COVERED

-- a file's last sample is in its partition
last_inside : (g : Granularity) (rows : List Row) (f : Filed) → IsFiled g rows f → HoldsMoment f.entry.part f.entry.last
last_inside g rows f is =
    let p = f.entry.part in
    let end : end_of f.samples ≤ p.end = ends_inside 0 p f.samples (omega arith) is.inside in
    let rises : RisesFrom 0 (is.first ∷ is.others) = subst (RisesFrom 0) is.some is.file.rising in
    let inside : HoldsMoment p is.first.t = All-head (λ (s : Sample). HoldsMoment p s.t) is.first is.others (subst (All (λ (s : Sample). HoldsMoment p s.t)) is.some is.inside) in
    let more : is.first.t + 1 ≤ end_from (is.first.t + 1) is.others = end_from-ge (is.first.t + 1) is.others rises.1 in
    let same : end_of f.samples ≡ end_from (is.first.t + 1) is.others = ap (end_from 0) is.some in
    let to : f.entry.last + 1 ≡ end_of f.samples = is.to in
    let from = inside.0 in
    (omega (arith, more, same, to, from), omega (arith, end, to))

covered_first : (g : Granularity) (rows : List Row) (o : Option Entry) (fs : List Filed) → All (IsFiled g rows) fs → AreApart fs → PassFirst (λ (f : Filed). is_covered o f.entry) fs
covered_first g rows o [] filed apart = tt
covered_first g rows o (f ∷ fs) filed apart = (λ fails. later o fails fs (All-tail (IsFiled g rows) f fs filed) apart.0, covered_first g rows o fs (All-tail (IsFiled g rows) f fs filed) apart.1)
  where
    is : IsFiled g rows f
    is = All-head (IsFiled g rows) f fs filed

    later : (o : Option Entry) → is_covered o f.entry ≡ false → (hs : List Filed) → All (IsFiled g rows) hs → AllByRecursion (λ (h : Filed). f.entry.part.end ≤ h.entry.part.start) hs → AllByRecursion (λ (h : Filed). is_covered o h.entry ≡ false) hs
    later o fails [] filed behind = tt
    later None fails (h ∷ hs) filed behind = (refl, later None fails hs (All-tail (IsFiled g rows) h hs filed) behind.1)
    later (Some e) fails (h ∷ hs) filed behind =
        let own = last_inside g rows f is in
        let other = last_inside g rows h (All-head (IsFiled g rows) h hs filed) in
        let start = behind.0 in
        (test_later f.entry.last h.entry.last e.last (omega (arith, own, other, start)) fails, later (Some e) fails hs (All-tail (IsFiled g rows) h hs filed) behind.1)

-- what is behind the last entry
abbrev IsEnd : Option Entry → ℕ → Type 0
IsEnd None n = n ≡ 0
IsEnd (Some e) n = n ≡ e.last + 1

test_more : (a b : ℕ) → nat_le (a + 1) (b + 1) ≡ nat_le a b
test_more a b = by_test (nat_le a b) refl
  where
    by_test : (t : Bool) → nat_le a b ≡ t → nat_le (a + 1) (b + 1) ≡ nat_le a b
    by_test true is = grind (arith, nat_tests)
    by_test false is = grind (arith, nat_tests)

test_none : (a : ℕ) → nat_le (a + 1) 0 ≡ false
test_none a = grind (arith, nat_tests)

covered_test : (o : Option Entry) (n : ℕ) (f : Filed) → IsEnd o n → f.entry.last + 1 ≡ end_of f.samples → nat_le (end_of f.samples) n ≡ is_covered o f.entry
covered_test None n f is to = (λ k. nat_le (sym to k) (is k)) ∙ test_none f.entry.last
covered_test (Some e) n f is to = (λ k. nat_le (sym to k) (is k)) ∙ test_more f.entry.last e.last

covered_tests : (g : Granularity) (rows : List Row) (o : Option Entry) (n : ℕ) (xs : List Sample) (fs : List Filed) → IsEnd o n → All (IsFiled g rows) fs → AllByRecursion (λ (f : Filed). window f.entry.part xs ≡ f.samples) fs → AllByRecursion (λ (f : Filed). nat_le (end_of (window f.entry.part xs)) n ≡ is_covered o f.entry) fs
covered_tests g rows o n xs [] is filed cuts = tt
covered_tests g rows o n xs (f ∷ fs) is filed cuts =
    (ap (λ (ys : List Sample). nat_le (end_of ys) n) cuts.0 ∙ covered_test o n f is (All-head (IsFiled g rows) f fs filed).to, covered_tests g rows o n xs fs is (All-tail (IsFiled g rows) f fs filed) cuts.1)

covered_is : (g : Granularity) (rows : List Row) (destination : List Entry) (xs ys : List Sample) (fs : List Filed) → IsEnd (slice_get destination (length destination - 1)) (end_of ys) → All (IsFiled g rows) fs → AreApart fs → AllByRecursion (λ (f : Filed). window f.entry.part xs ≡ f.samples) fs
    → covered (map entry_of fs) destination ≡ front_length (λ p. nat_le (end_of (window p xs)) (end_of ys)) (map part_of fs)
covered_is g rows destination xs ys fs is filed apart cuts =
    let o = slice_get destination (length destination - 1) in
    count_map entry_of (is_covered o) fs
    ∙ front_count (λ (p : Part). nat_le (end_of (window p xs)) (end_of ys)) (λ (f : Filed). is_covered o f.entry) fs (covered_tests g rows o (end_of ys) xs fs is filed cuts) (covered_first g rows o fs filed apart)

-- THE LAST PART OF A MOVE

record Split (fs : List Filed) (n k : ℕ) : Type 0 where
  pub before_it : List Part
  pub after_it : List Part
  pub part : Part
  pub are : map part_of fs ≡ before_it ++ part ∷ after_it
  pub number : n ≡ length before_it + 1
  pub end : ends_from k (take n (map entry_of fs)) ≡ part.end

split_at : (fs : List Filed) (n k : ℕ) → 1 ≤ n → n ≤ length fs → Split fs n k
split_at fs zero k some low = absurd (omega (arith, some))
split_at [] (suc n) k some low = absurd (omega (arith, low))
split_at (f ∷ fs) (suc zero) k some low = record { before_it = []; after_it = map part_of fs; part = f.entry.part; are = refl; number = refl; end = refl }
split_at (f ∷ fs) (suc (suc n)) k some low =
    let rest = split_at fs (suc n) f.entry.part.end (omega arith) (omega (arith, low)) in
    let number = rest.number in
    record {
      before_it = f.entry.part ∷ rest.before_it;
      after_it = rest.after_it;
      part = rest.part;
      are = ap (λ (ps : List Part). f.entry.part ∷ ps) rest.are;
      number = omega (arith, number);
      end = rest.end;
    }

-- WHERE THE NEXT STORE'S LIST ENDS

end_is : (g : Granularity) (rows : List Row) (ds : List Filed) → All (IsFiled g rows) ds → IsEnd (slice_get (map entry_of ds) (length (map entry_of ds) - 1)) (end_of (all_in ds))
end_is g rows [] filed = refl
end_is g rows (d ∷ ds) filed =
    let es = map entry_of (d ∷ ds) in
    let e = element es (length es - 1) (omega arith) in
    subst (λ (o : Option Entry). IsEnd o (end_of (all_in (d ∷ ds)))) (sym e.1) (files_end g rows 0 (d ∷ ds) filed ∙ last_end 0 es e.0 (length es - 1) e.1 (omega arith))

-- the next store's list is at the next place
next_list : (store : Store) (s : Stores) → store ≢ Long → list_at (index_of store + 1) s ≡ list_at (index_of (next_store store)) s
next_list store s apart = ap (λ (k : ℕ). list_at k s) (sym (next_place store apart))

module _ (catalogue : CatalogueState) (ms : List ManifestState) (s : Stores) (m : Machine) (have : HaveDurable catalogue ms s m) (told : m.told ≡ true) (i : ℕ) (row : RowState) (here : slice_get m.rows i ≡ Some row) where
  cut : (store : Store) → AllByRecursion (λ (f : Filed). window f.entry.part (all_in (row_files s store i)) ≡ f.samples) (row_files s store i)
  cut store = let is = files_held catalogue ms s m have told i row here store in windows is.unit s.rows (row_files s store i) is.filed is.apart

  -- their partitions are the machine's
  pub parts_are : (store : Store) → AreParts m.rule store (tier row store) (file_parts (row_files s store i))
  parts_are store =
      let is = files_held catalogue ms s m have told i row here store in
      subst (λ (xs : List Sample). AreParts m.rule store xs (file_parts (row_files s store i))) (sym is.samples)
      (files_are_parts m.rule store is.unit s.rows is.of_store (row_files s store i) is.filed is.apart (cut store))

  own_listed : (store : Store) → of_series i (map entry_of (list_at (index_of store) s)) ≡ map entry_of (row_files s store i)
  own_listed store = sym (own_entries i (list_at (index_of store) s))

  next_listed : (store : Store) → store ≢ Long → of_series i (map entry_of (list_at (index_of store + 1) s)) ≡ map entry_of (row_files s (next_store store) i)
  next_listed store apart = ap (λ (fs : List Filed). of_series i (map entry_of fs)) (next_list store s apart) ∙ own_listed (next_store store)

  -- as many of them move as of the machine's
  pub number_is : (store : Store) (now : ℕ) → store ≢ Long → parts_to_move m s store now i ≡ parts_of m.rule store now row (file_parts (row_files s store i))
  number_is store now apart =
      let is = files_held catalogue ms s m have told i row here store in
      let next = files_held catalogue ms s m have told i row here (next_store store) in
      let fs = row_files s store i in
      let ds = row_files s (next_store store) i in
      let rule = move_rule m.rule store now in
      let end = subst (λ (xs : List Sample). IsEnd (slice_get (map entry_of ds) (length (map entry_of ds) - 1)) (end_of xs)) (sym next.samples) (end_is next.unit s.rows ds next.filed) in
      let cuts = subst (λ (xs : List Sample). AllByRecursion (λ (f : Filed). window f.entry.part xs ≡ f.samples) fs) (sym is.samples) (cut store) in
      let ripe_parts = ripe_is is.unit s.rows now fs is.filed is.apart in
      let covered_parts = covered_is is.unit s.rows (map entry_of ds) (tier row store) (tier row (next_store store)) fs end is.filed is.apart cuts in
      (λ k. choice_parts rule (own_listed store k) (next_listed store apart k))
      ∙ (λ k. min 65536 (max (chosen (slice_index m.rule.hold (index_of store)) (slice_index m.rule.gather (index_of store)) (ripe_parts k)) (covered_parts k)))

  -- THE MACHINE'S CHOICE OF THE ROW

  pub has_move : (store : Store) (now n : ℕ) → store ≢ Long → n ≡ parts_to_move m s store now i → 1 ≤ n → HasMove m.rule store now row n (move_end s store i n)
  has_move store now n apart is some =
      let fs = row_files s store i in
      let es = map entry_of (list_at (index_of store) s) in
      let low : parts_to_move m s store now i ≤ length (of_series i es) = parts_listed (move_rule m.rule store now) es (map entry_of (list_at (index_of store + 1) s)) i in
      let long : length (of_series i es) ≡ length fs = ap length (own_listed store) ∙ length-map fs entry_of in
      let split = split_at fs n 0 some (omega (arith, low, long, is)) in
      let end : move_end s store i n ≡ split.part.end = ap (λ (xs : List Entry). ends_from 0 (take n xs)) (own_listed store) ∙ split.end in
      record {
        parts = file_parts fs;
        are = parts_are store;
        number = is ∙ number_is store now apart;
        last = (split.before_it, split.after_it, split.part, split.are, split.number, end);
      }

  pub has_no_move : (store : Store) (now : ℕ) → store ≢ Long → parts_to_move m s store now i ≡ 0 → HasNoMove m.rule store now row
  has_no_move store now apart none = record { parts = file_parts (row_files s store i); are = parts_are store; none = sym (number_is store now apart) ∙ none }

-- THE MACHINE'S STEP

module _ (catalogue : CatalogueState) (ms : List ManifestState) (s : Stores) (m : Machine) (have : HaveDurable catalogue ms s m) (store : Store) (now : ℕ) (apart : store ≢ Long) (running : ℕ → Option ℕ) (numbers : AreNumbers m running) where
  count_is : length m.rows ≡ length s.rows
  count_is = sym (length-map m.rows kept_of) ∙ have.holds.count

  row_held : (i : ℕ) (row : RowState) → slice_get m.rows i ≡ Some row → i < length s.rows
  row_held i row here = let low = slice_get_within m.rows i row here in let same = count_is in omega (arith, low, same)

  is_free : (i : ℕ) → running i ≡ None → IsFree m i
  is_free i none n move here same = none_runs (running i) none (subst (λ (k : ℕ). IsSome (running k)) same (numbers.all n move here))
    where
      none_runs : (o : Option ℕ) → o ≡ None → IsSome o → ⊥
      none_runs None is some = absurd (cc (some))
      none_runs (Some n) is some = absurd (cc (is))

  moving : (i : ℕ) → IsSome (running i) → (n : ℕ) × IsMoving m i n
  moving i some = go (running i) refl some
    where
      go : (o : Option ℕ) → running i ≡ o → IsSome o → (n : ℕ) × IsMoving m i n
      go None is some = absurd (cc (some))
      go (Some n) is some = (n, numbers.runs i n is)

  passed : m.told ≡ true → (i : ℕ) → IsPassedBy (parts_to_move m s store now) running i → IsPassed m store now i
  passed told i (inl none) row here = inl (has_no_move catalogue ms s m have told i row here store now apart none)
  passed told i (inr some) row here = inr (moving i some)

  -- as it is chosen, so the machine goes on
  pub goes_on : (choice : ToMove) → IsChoice (move_rule m.rule store now) (index_of store) running s choice → GoesOnBy m s store now choice
  goes_on (Begin i n) (free, number) = λ k new gap least same.
      let low = free.within in
      let many = count_is in
      begins k i n (move_end s store i n) apart (omega (arith, low, many)) (is_free i free.none_runs) gap least
      (λ told row here. has_move catalogue ms s m have told i row here store now n apart number (let some = free.some in omega (arith, some, number)))
      (λ told j lt. passed told j (free.least j lt)) same
  goes_on (Running k) all = λ new same.
      all_run k all.series (numbers.runs all.series k all.runs)
      (λ told row here. (parts_to_move m s store now all.series, move_end s store all.series (parts_to_move m s store now all.series), has_move catalogue ms s m have told all.series row here store now (parts_to_move m s store now all.series) apart refl all.some))
      (λ told j row here. passed told j (all.all j (row_held j row here)) row here)
      (λ told j lt row here. has_no_move catalogue ms s m have told j row here store now apart (all.least j lt)) same
  goes_on Nothing none = λ new same. none_to_make (λ told j row here. has_no_move catalogue ms s m have told j row here store now apart (none j (row_held j row here))) same

-- What the stores make of a publication and of a retirement is what the machine makes of it, and what is left to copy of a move is what remains of the machine's.

-- ONE STORE HAS ANOTHER LIST

-- the row with these samples in a store, where samples are told
abbrev with_samples : Bool → Store → List Sample → RowState → RowState
with_samples told store xs row = cond told (with_tier row store xs) row

-- a row whose samples in the store are these
row_with : (told : Bool) (store : Store) (xs : List Sample) (fs : List Filed) (old : Stores) (i : ℕ) (r : RowState) → (told ≡ true → samples_of i fs ≡ xs) → IsDurableAt told old i (kept_of r) → IsDurableAt told (with_list (index_of store) fs old) i (kept_of (with_samples told store xs r))
row_with true Short xs fs old i r are it = record { row = it.row; here = it.here; is = record { name = it.is.name; about = it.is.about; state = it.is.state; base = it.is.base; short = λ on. sym (are on); medium = it.is.medium; long = it.is.long } }
row_with true Medium xs fs old i r are it = record { row = it.row; here = it.here; is = record { name = it.is.name; about = it.is.about; state = it.is.state; base = it.is.base; short = it.is.short; medium = λ on. sym (are on); long = it.is.long } }
row_with true Long xs fs old i r are it = record { row = it.row; here = it.here; is = record { name = it.is.name; about = it.is.about; state = it.is.state; base = it.is.base; short = it.is.short; medium = it.is.medium; long = λ on. sym (are on) } }
row_with false store xs fs old i r are it = record { row = it.row; here = it.here; is = record { name = it.is.name; about = it.is.about; state = it.is.state; base = it.is.base; short = λ on. absurd (cc (on)); medium = λ on. absurd (cc (on)); long = λ on. absurd (cc (on)) } }

-- a row of which the store has what it had
row_still : (told : Bool) (store : Store) (fs : List Filed) (old : Stores) (i : ℕ) (d : DurableRow) → samples_of i fs ≡ samples_of i (list_at (index_of store) old) → IsDurableAt told old i d → IsDurableAt told (with_list (index_of store) fs old) i d
row_still told Short fs old i d same it = record { row = it.row; here = it.here; is = record { name = it.is.name; about = it.is.about; state = it.is.state; base = it.is.base; short = λ on. it.is.short on ∙ sym same; medium = it.is.medium; long = it.is.long } }
row_still told Medium fs old i d same it = record { row = it.row; here = it.here; is = record { name = it.is.name; about = it.is.about; state = it.is.state; base = it.is.base; short = it.is.short; medium = λ on. it.is.medium on ∙ sym same; long = it.is.long } }
row_still told Long fs old i d same it = record { row = it.row; here = it.here; is = record { name = it.is.name; about = it.is.about; state = it.is.state; base = it.is.base; short = it.is.short; medium = it.is.medium; long = λ on. it.is.long on ∙ sym same } }

-- a change of one row's samples in one store
list_holds : (m : Machine) (c : Change) (store : Store) (k : ℕ) (xs : RowState → List Sample) (fs : List Filed) (old new : Stores) → new ≡ with_list (index_of store) fs old → added c m.rows ≡ []
    → ((i : ℕ) (r : RowState) → changed m.told m.limbo c i r ≡ at k (λ q. with_samples m.told store (xs q) q) i r)
    → (m.told ≡ true → (r : RowState) → slice_get m.rows k ≡ Some r → samples_of k fs ≡ xs r) → ((i : ℕ) → i ≢ k → samples_of i fs ≡ samples_of i (list_at (index_of store) old))
    → HoldsDurable old m → HoldsDurable new (made [] c m)
list_holds m c store k xs fs old new is none same own others holds = subst (λ (s : Stores). HoldsDurable s (made [] c m)) (sym is)
    (durable_made m c (with_list (index_of store) fs old) (let count = count_of old m holds in let more = ap length none in omega (arith, count, more))
    (λ i r here. subst (λ (q : RowState). IsDurableAt m.told (with_list (index_of store) fs old) i (kept_of q)) (sym (same i r)) (by_row i r here (holds.each i (kept_of r) (kept_to m.rows i r here)) (same_or_not i k)))
    (λ j r here. absurd (cc (here, none))))
  where
    by_row : (i : ℕ) (r : RowState) → slice_get m.rows i ≡ Some r → IsDurableAt m.told old i (kept_of r) → (i ≡ k) ⊎ (i ≢ k) → IsDurableAt m.told (with_list (index_of store) fs old) i (kept_of (at k (λ q. with_samples m.told store (xs q) q) i r))
    by_row i r here it (inl same_row) =
        let test : (i == k) ≡ true = grind (arith, nat_tests, same_row) in
        rw test (row_with m.told store (xs r) fs old i r (λ told. ap (λ (j : ℕ). samples_of j fs) same_row ∙ own told r (subst (λ (j : ℕ). slice_get m.rows j ≡ Some r) same_row here)) it)
    by_row i r here it (inr apart) =
        let test : (i == k) ≡ false = grind (arith, nat_tests, apart) in
        rw test (row_still m.told store fs old i (kept_of r) (others i apart) it)

-- A PUBLICATION

pub other_rows : (i k : ℕ) (files : List Filed) → i ≢ k → AllByRecursion (λ (f : Filed). f.entry.series ≡ k) files → AllByRecursion (λ (f : Filed). i ≢ f.entry.series) files
other_rows i k [] apart own = tt
other_rows i k (f ∷ files) apart own = (λ is. apart (is ∙ own.0), other_rows i k files apart own.1)

pub publish_holds : (row : ℕ) (store : Store) (copied : List Sample) (files : List Filed) (old new : Stores) (m : Machine) → AllByRecursion (λ (f : Filed). f.entry.series ≡ row) files
    → (m.told ≡ true → (r : RowState) → slice_get m.rows row ≡ Some r → samples_of row (put_all (list_at (index_of (next_store store)) old) files) ≡ put copied (files_of row (next_store store) m.limbo) (tier r (next_store store)))
    → ListsAlso (index_of (next_store store)) files old new → HoldsDurable old m → HoldsDurable new (made [] (Publishes row store copied) m)
publish_holds row store copied files old new m own has lists holds =
    let to = next_store store in
    let listed = list_at (index_of to) old in
    list_holds m (Publishes row store copied) to row (λ q. put copied (files_of row to m.limbo) (tier q to)) (put_all listed files) old new lists refl (λ i r. refl) has
    (λ i apart. ap (λ (fs : List Filed). all_in fs) (put_all_other i listed files (other_rows i row files apart own))) holds

-- FILES WITHOUT THE OLDEST OF A ROW

abbrev of_number : ℕ → Filed → Bool
of_number row f = nat_eq f.entry.series row

abbrev is_before : Place → Filed → Bool
is_before p f = comes_before (filed_at f) p

abbrev is_behind : Place → Filed → Bool
is_behind p f = comes_before p (filed_at f)

row_without : (j : ℕ) (p : Place) (xs : List Filed) → of_row j (without filed_at p xs) ≡ without filed_at p (of_row j xs)
row_without j p xs =
    let front = filter_swap (of_number j) (is_before p) (is_before p) (λ x is. refl) xs in
    let back = filter_swap (of_number j) (is_behind p) (is_behind p) (λ x is. refl) xs in
    filter-append (of_number j) (filter (is_before p) xs) (filter (is_behind p) xs) ∙ (λ k. front k ++ back k)

pub row_without_all : (j : ℕ) (fs xs : List Filed) → of_row j (without_all xs fs) ≡ without_all (of_row j xs) fs
row_without_all j [] xs = refl
row_without_all j (f ∷ fs) xs = row_without_all j fs (without filed_at (filed_at f) xs) ∙ ap (λ (ys : List Filed). without_all ys fs) (row_without j (filed_at f) xs)

pass_all : (t : Filed → Bool) (xs : List Filed) → AllByRecursion (λ (f : Filed). t f ≡ true) xs → filter t xs ≡ xs
pass_all t [] all = refl
pass_all t (x ∷ xs) all = let rest = pass_all t xs all.1 in rw all.0 (ap (λ (ys : List Filed). x ∷ ys) rest)

pass_none : (t : Filed → Bool) (xs : List Filed) → AllByRecursion (λ (f : Filed). t f ≡ false) xs → filter t xs ≡ []
pass_none t [] none = refl
pass_none t (x ∷ xs) none = let rest = pass_none t xs none.1 in rw none.0 rest

-- a place of another row takes nothing
without_other : (j : ℕ) (p : Place) (ys : List Filed) → j ≢ p.0 → AllByRecursion (λ (f : Filed). f.entry.series ≡ j) ys → without filed_at p ys ≡ ys
without_other j p ys apart own = by_order (cases_order j p.0)
  where
    below : j < p.0 → (xs : List Filed) → AllByRecursion (λ (f : Filed). f.entry.series ≡ j) xs → AllByRecursion (λ (f : Filed). is_before p f ≡ true) xs × AllByRecursion (λ (f : Filed). is_behind p f ≡ false) xs
    below lt [] own_xs = (tt, tt)
    below lt (x ∷ xs) own_xs =
        let is : x.entry.series ≡ j = own_xs.0 in
        let rest = below lt xs own_xs.1 in
        ((grind (arith, nat_tests, is, lt), rest.0), (grind (arith, nat_tests, is, lt), rest.1))

    above : p.0 < j → (xs : List Filed) → AllByRecursion (λ (f : Filed). f.entry.series ≡ j) xs → AllByRecursion (λ (f : Filed). is_before p f ≡ false) xs × AllByRecursion (λ (f : Filed). is_behind p f ≡ true) xs
    above lt [] own_xs = (tt, tt)
    above lt (x ∷ xs) own_xs =
        let is : x.entry.series ≡ j = own_xs.0 in
        let rest = above lt xs own_xs.1 in
        ((grind (arith, nat_tests, is, lt), rest.0), (grind (arith, nat_tests, is, lt), rest.1))

    by_order : (j ≡ p.0) ⊎ ((j < p.0) ⊎ (p.0 < j)) → without filed_at p ys ≡ ys
    by_order (inl is) = absurd (apart is)
    by_order (inr (inl lt)) = let tests = below lt ys own in (λ k. pass_all (is_before p) ys tests.0 k ++ pass_none (is_behind p) ys tests.1 k) ∙ append-nil ys
    by_order (inr (inr lt)) = let tests = above lt ys own in (λ k. pass_none (is_before p) ys tests.0 k ++ pass_all (is_behind p) ys tests.1 k)

pub without_others : (j : ℕ) (fs ys : List Filed) → AllByRecursion (λ (f : Filed). j ≢ f.entry.series) fs → AllByRecursion (λ (f : Filed). f.entry.series ≡ j) ys → without_all ys fs ≡ ys
without_others j [] ys apart own = refl
without_others j (f ∷ fs) ys apart own = ap (λ (zs : List Filed). without_all zs fs) (without_other j (filed_at f) ys apart.0 own) ∙ without_others j fs ys apart.1 own

-- the first of files in order is taken alone
without_first : (x : Filed) (rest : List Filed) → PlacesRise (x ∷ rest) → without filed_at (filed_at x) (x ∷ rest) ≡ rest
without_first x rest rise =
    let own : is_before (filed_at x) x ≡ false = grind (arith, nat_tests) in
    let tests = behind rest rise.0 in
    rw own (λ k. pass_none (is_before (filed_at x)) rest tests.0 k ++ pass_all (is_behind (filed_at x)) rest tests.1 k)
  where
    behind : (xs : List Filed) → All (Comes x) xs → AllByRecursion (λ (f : Filed). is_before (filed_at x) f ≡ false) xs × AllByRecursion (λ (f : Filed). is_behind (filed_at x) f ≡ true) xs
    behind [] all = (tt, tt)
    behind (h ∷ hs) all =
        let comes : Comes x h = All-head (Comes x) h hs all in
        let more = behind hs (All-tail (Comes x) h hs all) in
        ((grind (arith, nat_tests, comes), more.0), (grind (arith, nat_tests, comes), more.1))

without_front : (n : ℕ) (ys : List Filed) → PlacesRise ys → without_all ys (take n ys) ≡ drop n ys
without_front zero ys rise = refl
without_front (suc n) [] rise = refl
without_front (suc n) (y ∷ ys) rise = ap (λ (zs : List Filed). without_all zs (take n ys)) (without_first y ys rise) ∙ without_front n ys rise.1

pub take_own : (k n : ℕ) (ys : List Filed) → AllByRecursion (λ (f : Filed). f.entry.series ≡ k) ys → AllByRecursion (λ (f : Filed). f.entry.series ≡ k) (take n ys)
take_own k zero ys own = tt
take_own k (suc n) [] own = tt
take_own k (suc n) (y ∷ ys) own = (own.0, take_own k n ys own.1)

-- WHAT IS LEFT OF THE SAMPLES

module _ (g : Granularity) (rows : List Row) where
  abbrev pub starts_from : ℕ → List Filed → Type 0
  starts_from n fs = AllByRecursion (λ (f : Filed). n ≤ f.entry.part.start) fs

  pub end_behind : (k n : ℕ) (fs : List Filed) → All (IsFiled g rows) fs → AreApart fs → starts_from k fs → k ≤ ends_from k (take n (map entry_of fs))
  end_behind k zero fs filed apart low = omega arith
  end_behind k (suc n) [] filed apart low = omega arith
  end_behind k (suc n) (f ∷ fs) filed apart low =
      let wide = (within g f.entry.part (All-head (IsFiled g rows) f fs filed).part).1 in
      let start = low.0 in
      let rest = end_behind f.entry.part.end n fs (All-tail (IsFiled g rows) f fs filed) apart.1 apart.0 in
      omega (arith, wide, start, rest)

  -- from the end of the n oldest files on there are the samples of the others
  since_oldest : (k n : ℕ) (fs : List Filed) → All (IsFiled g rows) fs → AreApart fs → starts_from k fs → since (ends_from k (take n (map entry_of fs))) (all_in fs) ≡ all_in (drop n fs)
  since_oldest k zero fs filed apart low = since_all k k (all_in fs) (from_there g rows k fs filed apart low) (omega arith)
  since_oldest k (suc n) [] filed apart low = refl
  since_oldest k (suc n) (f ∷ fs) filed apart low =
      let p = f.entry.part in
      let others = All-tail (IsFiled g rows) f fs filed in
      let is = All-head (IsFiled g rows) f fs filed in
      let end = ends_from p.end (take n (map entry_of fs)) in
      let wide = (within g p is.part).1 in
      let own = rises_inside p.start p f.samples (omega arith) is.file.rising is.inside in
      let inside : end_from p.start f.samples ≤ p.end = ends_inside p.start p f.samples (omega (arith, wide)) is.inside in
      let high : p.end ≤ end = end_behind p.end n fs others apart.1 apart.0 in
      since-append end f.samples (all_in fs)
      ∙ (ap (λ (ys : List Sample). ys ++ since end (all_in fs)) (since_none end p.start f.samples own (omega (arith, inside, high))) ∙ since_oldest p.end n fs others apart.1 apart.0)

-- A RETIREMENT

pub retire_holds : (catalogue : CatalogueState) (ms : List ManifestState) (row n to : ℕ) (store : Store) (old : Stores) (m : Machine) → HaveDurable catalogue ms old m → (m.told ≡ true → to ≡ move_end old store row n)
    → HoldsDurable (without_oldest (index_of store) row n old) (made [] (Unlists row store to) m)
retire_holds catalogue ms row n to store old m have ends =
    let place = index_of store in
    let listed = list_at place old in
    let own = of_row row listed in
    let parts = oldest place row n old in
    list_holds m (Unlists row store to) store row (λ q. since to (tier q store)) (without_all listed parts) old (without_oldest place row n old) refl refl (λ i r. refl)
    (λ told r here.
    let is = files_held catalogue ms old m have told row r here store in
    let end : to ≡ ends_from 0 (take n (map entry_of own)) = ends told ∙ ap (λ (es : List Entry). ends_from 0 (take n es)) (sym (own_entries row listed)) in
    ap (λ (fs : List Filed). all_in fs) (row_without_all row parts listed ∙ without_front n own (rise_filter (of_number row) listed rise))
    ∙ (sym (since_oldest is.unit old.rows 0 n own is.filed is.apart (from_zero own)) ∙ (λ k. since (sym end k) (sym is.samples k))))
    (λ i apart. ap (λ (fs : List Filed). all_in fs) (row_without_all i parts listed ∙ without_others i parts (of_row i listed) (other_rows i row parts apart (take_own row n own (own_series row listed))) (own_series i listed)))
    have.holds
  where
    rise : PlacesRise (list_at (index_of store) old)
    rise =
        let three = have.known.three in
        let low = index_low store in
        let manifest = manifest_at ms (index_of store) (omega (arith, low, three)) in
        (have.known.each (index_of store) manifest.0 manifest.1).valid.apart

-- before the end of the n oldest files there are their samples
pub before_oldest : (g : Granularity) (rows : List Row) (k n : ℕ) (fs : List Filed) → All (IsFiled g rows) fs → AreApart fs → starts_from g rows k fs → before (ends_from k (take n (map entry_of fs))) (all_in fs) ≡ all_in (take n fs)
before_oldest g rows k zero fs filed apart low = before_none k k (all_in fs) (from_there g rows k fs filed apart low) (omega arith)
before_oldest g rows k (suc n) [] filed apart low = refl
before_oldest g rows k (suc n) (f ∷ fs) filed apart low =
    let p = f.entry.part in
    let others = All-tail (IsFiled g rows) f fs filed in
    let is = All-head (IsFiled g rows) f fs filed in
    let end = ends_from p.end (take n (map entry_of fs)) in
    let wide = (within g p is.part).1 in
    let own = rises_inside p.start p f.samples (omega arith) is.file.rising is.inside in
    let inside : end_from p.start f.samples ≤ p.end = ends_inside p.start p f.samples (omega (arith, wide)) is.inside in
    let high : p.end ≤ end = end_behind g rows p.end n fs others apart.1 apart.0 in
    before-append end f.samples (all_in fs) ∙ (λ i. before_all end p.start f.samples own (omega (arith, inside, high)) i ++ before_oldest g rows p.end n fs others apart.1 apart.0 i)

-- a list ends behind what is put into it
pub end_put : (xs : List Sample) (limbo : List RowFile) (listed : List Sample) → end_of (put xs limbo listed) ≡ end_from (end_of listed) xs
end_put [] limbo listed = refl
end_put (s ∷ rest) limbo listed =
    let more = revived limbo listed s in
    let end : end_of (listed ++ (more ++ s ∷ [])) ≡ s.t + 1 = end_from-append 0 listed (more ++ s ∷ []) ∙ end_from-append (end_of listed) more (s ∷ []) in
    end_put rest limbo (listed ++ (more ++ s ∷ [])) ∙ ap (λ (n : ℕ). end_from n rest) end
