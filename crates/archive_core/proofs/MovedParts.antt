-- The parts of a running move: where they end, whether they have grown, and the file of one that is told as damaged.
use Rattle.std.proofs.Common.{◌≡◌, ℕ, ◌+◌, ◌<◌, List, length, map, Some, sym, ◌∙◌, ap, arith, zero, suc, ◌≤◌, [], ◌∷◌, ◌++◌, take, true, false, refl, subst, append-nil, ◌-◌, Bool, length-append, inl, inr, drop, cond, Option}
use Rattle.std.specs.Prelude.{slice_get, All, nat_le, IsTrue, nat_eq, Contains}
use Rattle.partition_names.specs.declared.part.Part.{Part}
use Rattle.store_manifest.specs.Manifest.{ManifestState}
use Rattle.store_manifest.specs.declared.entry.Entry.{Entry}
use Rattle.durable_write.specs.Held.{Filed, entry_of, IsFiled, file_of}
use Rattle.tier_store.specs.Retiring.{oldest, HasGrown, HasNotGrown}
use Rattle.tier_store.specs.Stores.{Stores, list_at}
use Rattle.std.proofs.lemmas.Bool.Decides.{nat_tests}
use Rattle.std.proofs.lemmas.List.{length-map, take-map, take-take, take_all}
use Rattle.std.proofs.lemmas.Option.{same_Some, slice_get_within}
use Rattle.partition_names.specs.declared.granularity.Granularity.{Granularity}
use Rattle.pb_lines.specs.File.{lines_of}
use Rattle.series_model.specs.Series.{end_of, end_from, RisesFrom, IsRising, before, since}
use Rattle.series_model.specs.declared.sample.Sample.{Sample}
use Rattle.archive_core.specs.MoveTies.{IsCopiedTo, ends_from, HasCopiedParts}
use Rattle.archive_core.proofs.MoveChoice.{own_entries, end_behind, before_oldest, take_own, from_zero}
use Rattle.archive_core.proofs.Lists.{get_map, get_take, all_at, element, map_in, map_out, get_all, of_all, map_take}
use Rattle.archive_core.proofs.Windows.{all_in, RowFiles, files_held, AreApart, from_there, windows}
use Rattle.durable_write.specs.Plan.{of_row}
use Rattle.tier_store.specs.Moving.{RunsBeside}
use Rattle.std.specs.List.{AllByRecursion}
use Rattle.std.proofs.lemmas.List.Elements.{All-head, All-tail, All-take, All-filter}
use Rattle.partition_names.proofs.PartLemmas.{within}
use Rattle.pv_catalog.specs.Catalogue.{CatalogueState}
use Rattle.pv_catalog.specs.declared.row.Row.{Row}
use Rattle.series_model.proofs.RisingLists.{RisesFrom-front, RisesFrom-lower, end_from-append, end_from-ge, since-append}
use Rattle.act_model.specs.Machine.{Machine, MoveState}
use Rattle.act_model.specs.MoveStep.{is_covered, IsGrown}
use Rattle.act_model.specs.Rows.{RowState, Store, next_store, size_of, tier, window}
use Rattle.act_model.specs.Rule.{index_of}
use Rattle.act_model.proofs.RowLaws.{before_none, end_from-below}
use Rattle.archive_core.specs.MoveChoice.{HaveDurable, move_end, row_files}
use Rattle.archive_core.specs.Retiring.{AreCopiedTo, lengths_of}
use Rattle.act_model.proofs.Copies.{before_all}
use Rattle.act_model.proofs.Puts.{before-append}
use Rattle.archive_core.proofs.Batches.{lines_size}
use Rattle.tier_store.proofs.Places.{rises_inside, ends_inside, manifest_at, own_series}
use Rattle.std.proofs.lemmas.Bool.{cases_lt}
use Rattle.etl_mover.specs.Move.{StillLists, of_series, Moving}
use Rattle.tier_store.specs.Copying.{IsAllLater, KnowsCopied, samples_ahead, IsDamaged}
use Rattle.tier_store.specs.Finding.{BeginsAt}
use Rattle.tier_store.specs.Pinned.{SeenAll, beside}
use Rattle.disk_model.specs.Files.{Name}
use Rattle.moves.specs.Table.{at}
use Rattle.moves.specs.declared.table.Running.{Running}
use Rattle.durable_write.proofs.Written.{contains_entry}
use Rattle.tier_store.specs.Change.{Has}
use Rattle.tier_store.specs.Seen.{Seen}
use Rattle.tier_store.proofs.Showing.{from_oldest}
use Rattle.act_model.specs.Reply.{Reply}
use Rattle.act_model.specs.declared.acts.Answer.TheVariants.{Damaged}
use Rattle.archive_core.specs.Leaving.{TellsDamage}
use Rattle.archive_core.specs.Parts.{Parts}
use Rattle.archive_core.specs.Stepping.{with_slots}

-- Whether a move's parts have grown: the stores tell it by lengths, and the machine by samples.

-- LENGTHS

size-append : (xs ys : List Sample) → size_of (xs ++ ys) ≡ size_of xs + size_of ys
size-append [] ys = omega arith
size-append (x ∷ xs) ys = let rest = size-append xs ys in omega (arith, rest)

no_size : (xs : List Sample) → size_of xs ≤ 0 → xs ≡ []
no_size [] none = refl
no_size (x ∷ xs) none = absurd (omega (arith, none))

-- a file is as long as its first line and the lines of its samples
pub file_size : (g : Granularity) (rows : List Row) (f : Filed) → IsFiled g rows f → f.entry.len ≡ f.entry.head_len + size_of f.samples
file_size g rows f is =
    let long = length-append f.head (10 ∷ lines_of f.samples) in
    let size = lines_size f.samples in
    let all = is.len in
    let head = is.head_len in
    omega (arith, long, size, all, head)

-- samples from n on end behind n, if there are any
ends_later : (k n : ℕ) (xs : List Sample) → RisesFrom n xs → 0 < size_of xs → n < end_from k xs
ends_later k n [] rises some = absurd (omega (arith, some))
ends_later k n (x ∷ xs) rises some =
    let low = rises.0 in
    let end = end_from-ge (x.t + 1) xs rises.1 in
    omega (arith, low, end)

-- ONE PART

module _ (g : Granularity) (rows : List Row) (n : ℕ) (published : Entry) (f : Filed) (is : IsFiled g rows f) (copied : IsCopiedTo n published f) where
  -- the file is longer than it was published by what isn't copied
  longer_by : f.entry.len ≡ published.len + size_of copied.back
  longer_by =
      let all = file_size g rows f is in
      let both = ap size_of copied.samples ∙ size-append copied.front copied.back in
      let len = copied.len in
      let size = lines_size copied.front in
      omega (arith, all, both, len, size)

  -- where it isn't longer, all of it is copied
  all_copied : f.entry.len ≤ published.len → end_of f.samples ≤ n
  all_copied low =
      let more = longer_by in
      let none : copied.back ≡ [] = no_size copied.back (omega (arith, low, more)) in
      let end : end_of f.samples ≡ end_of copied.front = ap end_of (copied.samples ∙ (ap (λ (xs : List Sample). copied.front ++ xs) none ∙ append-nil copied.front)) in
      let until = copied.until in
      omega (arith, end, until)

  -- where it is, some isn't
  some_later : published.len < f.entry.len → n < end_of f.samples
  some_later high =
      let more = longer_by in
      let end = ap end_of copied.samples ∙ end_from-append 0 copied.front copied.back in
      let later = ends_later (end_of copied.front) n copied.back copied.later (omega (arith, high, more)) in
      omega (arith, end, later)

  -- what was published is what is before the end of the next store
  published_is : published.len ≡ f.entry.head_len + size_of (before n f.samples)
  published_is =
      let rising = RisesFrom-front 0 copied.front copied.back (subst IsRising copied.samples is.file.rising) in
      let front : before n f.samples ≡ copied.front =
      ap (before n) copied.samples ∙ (before-append n copied.front copied.back ∙ ((λ k. before_all n 0 copied.front rising copied.until k ++ before_none n n copied.back copied.later (omega arith) k) ∙ append-nil copied.front)) in
      let size = ap size_of front in
      let len = copied.len in
      let lines = lines_size copied.front in
      omega (arith, size, len, lines)

-- LISTS

take_each : (P : Filed → Type 0) (n : ℕ) (fs : List Filed) → AllByRecursion P fs → AllByRecursion P (take n fs)
take_each P zero fs all = tt
take_each P (suc n) [] all = tt
take_each P (suc n) (f ∷ fs) all = (all.0, take_each P n fs all.1)

pub apart_take : (n : ℕ) (fs : List Filed) → AreApart fs → AreApart (take n fs)
apart_take zero fs apart = tt
apart_take (suc n) [] apart = tt
apart_take (suc n) (f ∷ fs) apart = (take_each (λ (h : Filed). f.entry.part.end ≤ h.entry.part.start) n fs apart.0, apart_take n fs apart.1)

test_low : (a b : ℕ) → a ≤ b → nat_le a b ≡ true
test_low a b le = grind (arith, nat_tests)

test_high : (a b : ℕ) → b < a → nat_le a b ≡ false
test_high a b lt = grind (arith, nat_tests)

-- before a file's partition there are the samples of the files before it
before_file : (g : Granularity) (rows : List Row) (fs : List Filed) (k : ℕ) (f : Filed) → All (IsFiled g rows) fs → AreApart fs → slice_get fs k ≡ Some f → before f.entry.part.start (all_in fs) ≡ all_in (take k fs)
before_file g rows [] k f filed apart here = absurd (cc (here))
before_file g rows (x ∷ fs) zero f filed apart here =
    let p = x.entry.part in
    let wide = (within g p (All-head (IsFiled g rows) x fs filed).part).1 in
    subst (λ (y : Filed). before y.entry.part.start (all_in (x ∷ fs)) ≡ []) (same_Some x f here)
    (before_none p.start p.start (all_in (x ∷ fs)) (from_there g rows p.start (x ∷ fs) filed apart (omega arith, lower p.start p.end fs (omega (arith, wide)) apart.0)) (omega arith))
  where
    lower : (a b : ℕ) (hs : List Filed) → a ≤ b → AllByRecursion (λ (h : Filed). b ≤ h.entry.part.start) hs → AllByRecursion (λ (h : Filed). a ≤ h.entry.part.start) hs
    lower a b [] le all = tt
    lower a b (h ∷ hs) le all = let high = all.0 in (omega (arith, le, high), lower a b hs le all.1)
before_file g rows (x ∷ fs) (suc k) f filed apart here =
    let p = x.entry.part in
    let q = f.entry.part.start in
    let is = All-head (IsFiled g rows) x fs filed in
    let behind : p.end ≤ q = get_all (λ (h : Filed). p.end ≤ h.entry.part.start) fs k f apart.0 here in
    let wide = (within g p is.part).1 in
    let own = rises_inside p.start p x.samples (omega arith) is.file.rising is.inside in
    let inside : end_from p.start x.samples ≤ p.end = ends_inside p.start p x.samples (omega (arith, wide)) is.inside in
    before-append q x.samples (all_in fs) ∙ (λ i. before_all q p.start x.samples own (omega (arith, inside, behind)) i ++ before_file g rows fs k f (All-tail (IsFiled g rows) x fs filed) apart.1 here i)

-- files that all end by n end by n together
all_end : (n : ℕ) (fs : List Filed) → AllByRecursion (λ (f : Filed). end_of f.samples ≤ n) fs → end_of (all_in fs) ≤ n
all_end n [] all = omega arith
all_end n (f ∷ fs) all =
    let join = end_from-append 0 f.samples (all_in fs) in
    let low = end_from-below (end_of f.samples) n (all_in fs) all.0 (all_end n fs all.1) in
    omega (arith, join, low)

-- together they end no earlier than one of them
one_end : (g : Granularity) (rows : List Row) (m : ℕ) (fs : List Filed) (k : ℕ) (f : Filed) → All (IsFiled g rows) fs → AreApart fs → slice_get fs k ≡ Some f → end_of f.samples ≤ end_from m (all_in fs)
one_end g rows m [] k f filed apart here = absurd (cc (here))
one_end g rows m (x ∷ fs) zero f filed apart here =
    let p = x.entry.part in
    let is = All-head (IsFiled g rows) x fs filed in
    let join = end_from-append m x.samples (all_in fs) in
    let own : end_from m x.samples ≡ end_of x.samples = ap (end_from m) is.some ∙ sym (ap (end_from 0) is.some) in
    let inside : end_of x.samples ≤ p.end = ends_inside 0 p x.samples (omega arith) is.inside in
    let rest = RisesFrom-lower (end_from m x.samples) p.end (all_in fs) (from_there g rows p.end fs (All-tail (IsFiled g rows) x fs filed) apart.1 apart.0) (omega (arith, own, inside)) in
    let high = end_from-ge (end_from m x.samples) (all_in fs) rest in
    subst (λ (y : Filed). end_of y.samples ≤ end_from m (all_in (x ∷ fs))) (same_Some x f here) (omega (arith, join, own, high))
one_end g rows m (x ∷ fs) (suc k) f filed apart here =
    let join = end_from-append m x.samples (all_in fs) in
    let rest = one_end g rows (end_from m x.samples) fs k f (All-tail (IsFiled g rows) x fs filed) apart.1 here in
    omega (arith, join, rest)

-- the partition of one of the n oldest ends no later than the last of theirs
pub end_within : (g : Granularity) (rows : List Row) (m n : ℕ) (fs : List Filed) (k : ℕ) (f : Filed) → All (IsFiled g rows) fs → AreApart fs → slice_get fs k ≡ Some f → k < n → f.entry.part.end ≤ ends_from m (take n (map entry_of fs))
end_within g rows m n [] k f filed apart here low = absurd (cc (here))
end_within g rows m zero (x ∷ fs) k f filed apart here low = absurd (omega (arith, low))
end_within g rows m (suc n) (x ∷ fs) zero f filed apart here low =
    subst (λ (y : Filed). y.entry.part.end ≤ ends_from x.entry.part.end (take n (map entry_of fs))) (same_Some x f here) (end_behind g rows x.entry.part.end n fs (All-tail (IsFiled g rows) x fs filed) apart.1 apart.0)
end_within g rows m (suc n) (x ∷ fs) (suc k) f filed apart here low = end_within g rows x.entry.part.end n fs k f (All-tail (IsFiled g rows) x fs filed) apart.1 here (omega (arith, low))

-- the first k files end by n where each does
front_ends : (n k : ℕ) (parts : List Entry) (fs : List Filed) → k ≤ length parts → ((j : ℕ) (e : Entry) (f : Filed) → j < k → slice_get parts j ≡ Some e → slice_get fs j ≡ Some f → end_of f.samples ≤ n) → AllByRecursion (λ (f : Filed). end_of f.samples ≤ n) (take k fs)
front_ends n zero parts fs few each = tt
front_ends n (suc k) [] fs few each = absurd (omega (arith, few))
front_ends n (suc k) (e ∷ parts) [] few each = tt
front_ends n (suc k) (e ∷ parts) (f ∷ fs) few each = (each 0 e f (omega arith) refl refl, front_ends n k parts fs (omega (arith, few)) (λ j x y low at here. each (suc j) x y (omega (arith, low)) at here))

-- the parts end where their files do
same_ends : (m : ℕ) (parts : List Entry) (fs : List Filed) → length fs ≡ length parts → ((k : ℕ) (e : Entry) (f : Filed) → slice_get parts k ≡ Some e → slice_get fs k ≡ Some f → f.entry.part ≡ e.part) → ends_from m parts ≡ ends_from m (map entry_of fs)
same_ends m [] [] number each = refl
same_ends m [] (f ∷ fs) number each = absurd (omega (arith, number))
same_ends m (e ∷ parts) [] number each = absurd (omega (arith, number))
same_ends m (e ∷ parts) (f ∷ fs) number each =
    let own : e.part.end ≡ f.entry.part.end = ap (λ (p : Part). p.end) (sym (each 0 e f refl refl)) in
    ap (λ (k : ℕ). ends_from k parts) own ∙ same_ends f.entry.part.end parts fs (omega (arith, number)) (λ k x y at here. each (suc k) x y at here)

-- where the n oldest files end a move of them does
pub ends_move : (s : Stores) (store : Store) (i n : ℕ) → ends_from 0 (map entry_of (oldest (index_of store) i n s)) ≡ move_end s store i n
ends_move s store i n =
    ap (λ (es : List Entry). ends_from 0 es) (sym (take-map entry_of n (row_files s store i)))
    ∙ ap (λ (es : List Entry). ends_from 0 (take n es)) (own_entries i (list_at (index_of store) s))

-- THE PARTS OF A MOVE

module _ (catalogue : CatalogueState) (ms : List ManifestState) (s : Stores) (m : Machine) (have : HaveDurable catalogue ms s m) (told : m.told ≡ true) (move : MoveState) (row : RowState) (here : slice_get m.rows move.row ≡ Some row) (parts : List Entry) (to : move.to ≡ ends_from 0 parts)
    (copied : AreCopiedTo (end_of (tier row (next_store move.store))) parts (oldest (index_of move.store) move.row (length parts) s)) where
  abbrev files : List Filed
  files = oldest (index_of move.store) move.row (length parts) s

  abbrev own : List Filed
  own = row_files s move.store move.row

  -- where the next store ends
  abbrev until : ℕ
  until = end_of (tier row (next_store move.store))

  is : RowFiles m.rule s move.store move.row row
  is = files_held catalogue ms s m have told move.row row here move.store

  -- they end where the move does
  pub to_ends : move.to ≡ ends_from 0 (map entry_of files)
  to_ends = to ∙ same_ends 0 parts files copied.number (λ k e f at there. (copied.each k e f at there).of_part)

  to_files : move.to ≡ ends_from 0 (take (length parts) (map entry_of own))
  to_files = to_ends ∙ ap (λ (es : List Entry). ends_from 0 es) (sym (take-map entry_of (length parts) own))

  front_is : before move.to (tier row move.store) ≡ all_in files
  front_is = (λ k. before (to_files k) (is.samples k)) ∙ before_oldest is.unit s.rows 0 (length parts) own is.filed is.apart (from_zero own)

  few : length files ≤ length parts
  few = let number = copied.number in omega (arith, number)

  -- a file of the move
  own_at : (k : ℕ) (f : Filed) → slice_get files k ≡ Some f → (k < length parts) × (slice_get own k ≡ Some f)
  own_at k f there = get_take (length parts) k own f there

  filed_at : (k : ℕ) (f : Filed) → slice_get files k ≡ Some f → IsFiled is.unit s.rows f
  filed_at k f there = all_at (IsFiled is.unit s.rows) own k f is.filed (own_at k f there).1

  -- one that is no longer than it was published is covered
  covered_at : (k : ℕ) (e : Entry) (f : Filed) → HasNotGrown (lengths_of parts) (map entry_of files) k → slice_get parts k ≡ Some e → slice_get files k ≡ Some f → end_of f.samples ≤ until
  covered_at k e f none at there = all_copied is.unit s.rows until e f (filed_at k f there) (copied.each k e f at there) (none e.len f.entry (get_map (λ (x : Entry). x.len) parts k e at) (get_map entry_of files k f there))

  -- where none has grown, the next store covers the parts
  pub none_later : ((k : ℕ) → HasNotGrown (lengths_of parts) (map entry_of files) k) → end_of (before move.to (tier row move.store)) ≤ until
  none_later none =
      let each = front_ends until (length parts) parts files (omega arith) (λ k e f low at there. covered_at k e f (none k) at there) in
      let low = all_end until files (subst (λ (fs : List Filed). AllByRecursion (λ (f : Filed). end_of f.samples ≤ until) fs) (take_all (length parts) files few) each) in
      subst (λ (xs : List Sample). end_of xs ≤ until) (sym front_is) low

  pub covered : ((k : ℕ) → HasNotGrown (lengths_of parts) (map entry_of files) k) → is_covered m move ≡ true
  covered none = let low = none_later none in rw (told, here) (test_low (end_of (before move.to (tier row move.store))) until low)

  -- a part that has grown
  record Grown (len published : ℕ) : Type 0 where
    at : ℕ
    e : Entry
    f : Filed
    there : slice_get parts at ≡ Some e
    listed : slice_get files at ≡ Some f
    len_is : f.entry.len ≡ len
    published_len : e.len ≡ published
    more : published < len
    first : (k : ℕ) → k < at → HasNotGrown (lengths_of parts) (map entry_of files) k

  grown_part : (len published : ℕ) → HasGrown (lengths_of parts) (map entry_of files) len published → Grown len published
  grown_part len published has =
      let low = slice_get_within (lengths_of parts) has.place published has.in_published in
      let count = length-map parts (λ (x : Entry). x.len) in
      let e = element parts has.place (omega (arith, low, count)) in
      let low_file = slice_get_within (map entry_of files) has.place has.entry has.in_now in
      let file_count = length-map files entry_of in
      let f = element files has.place (omega (arith, low_file, file_count)) in
      let entry : f.0.entry ≡ has.entry = same_Some f.0.entry has.entry (sym (get_map entry_of files has.place f.0 f.1) ∙ has.in_now) in
      record {
        at = has.place;
        e = e.0;
        f = f.0;
        there = e.1;
        listed = f.1;
        len_is = ap (λ (x : Entry). x.len) entry ∙ has.listed;
        published_len = same_Some e.0.len published (sym (get_map (λ (x : Entry). x.len) parts has.place e.0 e.1) ∙ has.in_published);
        more = has.longer;
        first = has.first;
      }

  module _ (len published : ℕ) (p : Grown len published) where
    f_is : IsFiled is.unit s.rows p.f
    f_is = filed_at p.at p.f p.listed

    part_is : IsCopiedTo until p.e p.f
    part_is = copied.each p.at p.e p.f p.there p.listed

    place_of : (p.at < length parts) × (slice_get own p.at ≡ Some p.f)
    place_of = own_at p.at p.f p.listed

    window_is : window p.f.entry.part (tier row move.store) ≡ p.f.samples
    window_is = ap (window p.f.entry.part) is.samples ∙ get_all (λ (h : Filed). window h.entry.part (all_in own) ≡ h.samples) own p.at p.f (windows is.unit s.rows own is.filed is.apart) place_of.1

    later : until < end_of p.f.samples
    later = some_later is.unit s.rows until p.e p.f f_is part_is (let len_is = p.len_is in let published_len = p.published_len in let more = p.more in omega (arith, len_is, published_len, more))

    not_covered : is_covered m move ≡ false
    not_covered =
        let high = one_end is.unit s.rows 0 files p.at p.f (All-take (IsFiled is.unit s.rows) (length parts) own is.filed) (apart_take (length parts) own is.apart) p.listed in
        let end = ap end_of front_is in
        let more = later in
        rw (told, here) (test_high (end_of (before move.to (tier row move.store))) until (omega (arith, high, end, more)))

    older_end : end_of (before p.f.entry.part.start (tier row move.store)) ≤ until
    older_end =
        let low = place_of.0 in
        let front : before p.f.entry.part.start (tier row move.store) ≡ all_in (take p.at files) =
        ap (before p.f.entry.part.start) is.samples ∙ (before_file is.unit s.rows own p.at p.f is.filed is.apart place_of.1 ∙ ap (λ (fs : List Filed). all_in fs) (sym (take-take p.at (length parts) own (omega (arith, low))))) in
        let each = front_ends until p.at parts files (omega (arith, low)) (λ k e f lt at there. covered_at k e f (p.first k lt) at there) in
        subst (λ (xs : List Sample). end_of xs ≤ until) (sym front) (all_end until (take p.at files) each)

    is_grown : IsGrown m move row len published
    is_grown = record {
      part = p.f.entry.part;
      head_len = p.f.entry.head_len;
      partition = record { unit = is.unit; of_store = is.of_store; is = f_is.part };
      of_move = let end = end_within is.unit s.rows 0 (length parts) own p.at p.f is.filed is.apart place_of.1 place_of.0 in let to = to_files in omega (arith, end, to);
      older = older_end;
      grew = subst (λ (xs : List Sample). until < end_of xs) (sym window_is) later;
      listed = sym p.len_is ∙ (file_size is.unit s.rows p.f f_is ∙ ap (λ (xs : List Sample). p.f.entry.head_len + size_of xs) (sym window_is));
      published = sym p.published_len ∙ (published_is is.unit s.rows until p.e p.f f_is part_is ∙ ap (λ (xs : List Sample). p.f.entry.head_len + size_of (before until xs)) (sym window_is));
    }

  -- where one has grown, it doesn't, and the first of these is the machine's
  pub grown_not_covered : (len published : ℕ) → HasGrown (lengths_of parts) (map entry_of files) len published → is_covered m move ≡ false
  grown_not_covered len published has = not_covered len published (grown_part len published has)

  pub grown_is : (len published : ℕ) → HasGrown (lengths_of parts) (map entry_of files) len published → IsGrown m move row len published
  grown_is len published has = is_grown len published (grown_part len published has)

-- where samples aren't told, the machine takes the parts to be covered
pub untold_covered : (m : Machine) (move : MoveState) → m.told ≡ false → is_covered m move ≡ true
untold_covered m move off = rw off refl

-- The parts of a running move, as their store lists them: where they end, and how far they are copied once all are.

-- LISTS

take_front : {A : Type 0} (xs ys : List A) → take (length xs) (xs ++ ys) ≡ xs
take_front {A} [] ys = refl
take_front {A} (x ∷ xs) ys = ap (λ (zs : List A). x ∷ zs) (take_front xs ys)

-- lists with the same of each have the same of those at a place
pub same_at : {A B C : Type 0} (f : A → C) (g : B → C) (xs : List A) (ys : List B) (k : ℕ) (x : A) (y : B) → map f xs ≡ map g ys → slice_get xs k ≡ Some x → slice_get ys k ≡ Some y → f x ≡ g y
same_at {A} {B} {C} f g xs ys k x y same here there = same_Some (f x) (g y) (sym (get_map f xs k x here) ∙ (ap (λ (zs : List C). slice_get zs k) same ∙ get_map g ys k y there))

to_take : {A : Type 0} (n : ℕ) (xs : List A) (k : ℕ) (x : A) → k < n → slice_get xs k ≡ Some x → slice_get (take n xs) k ≡ Some x
to_take {A} zero xs k x low here = absurd (omega (arith, low))
to_take {A} (suc n) [] k x low here = absurd (cc (here))
to_take {A} (suc n) (y ∷ xs) zero x low here = here
to_take {A} (suc n) (y ∷ xs) (suc k) x low here = to_take n xs k x (omega (arith, low)) here

to_drop : {A : Type 0} (n : ℕ) (xs : List A) (j : ℕ) (x : A) → slice_get xs (n + j) ≡ Some x → slice_get (drop n xs) j ≡ Some x
to_drop {A} zero xs j x here = let plain : 0 + j ≡ j = omega arith in ap (slice_get xs) (sym plain) ∙ here
to_drop {A} (suc n) [] j x here = absurd (cc (here))
to_drop {A} (suc n) (y ∷ xs) j x here = let next : suc n + j ≡ suc (n + j) = omega arith in to_drop n xs j x (sym (ap (slice_get (y ∷ xs)) next) ∙ here)

-- SAMPLES

none_front : (xs ys : List Sample) → xs ++ ys ≡ [] → (xs ≡ []) × (ys ≡ [])
none_front [] ys none = (refl, none)
none_front (x ∷ xs) ys none = absurd (cc (none))

-- where nothing of all files is from a moment on, nothing is of each
none_since : (n : ℕ) (fs : List Filed) (k : ℕ) (f : Filed) → since n (all_in fs) ≡ [] → slice_get fs k ≡ Some f → since n f.samples ≡ []
none_since n [] k f none here = absurd (cc (here))
none_since n (x ∷ fs) zero f none here = ap (λ (h : Filed). since n h.samples) (sym (same_Some x f here)) ∙ (none_front (since n x.samples) (since n (all_in fs)) (sym (since-append n x.samples (all_in fs)) ∙ none)).0
none_since n (x ∷ fs) (suc k) f none here = none_since n fs k f (none_front (since n x.samples) (since n (all_in fs)) (sym (since-append n x.samples (all_in fs)) ∙ none)).1 here

-- samples of which none is from a moment on end by then
none_ends : (n k : ℕ) (xs : List Sample) → k ≤ n → since n xs ≡ [] → end_from k xs ≤ n
none_ends n k [] low none = low
none_ends n k (x ∷ xs) low none = by_test (nat_le n x.t) refl none (λ under rest. none_ends n (x.t + 1) xs (omega (arith, under)) rest)
  where
    by_test : (b : Bool) → nat_le n x.t ≡ b → cond b (x ∷ since n xs) (since n xs) ≡ [] → (x.t < n → since n xs ≡ [] → end_from (x.t + 1) xs ≤ n) → end_from (x.t + 1) xs ≤ n
    by_test true is never more = absurd (cc (never))
    by_test false is rest more = more (grind (arith, nat_tests, is)) rest

begins_rises : (n : ℕ) (xs : List Sample) → BeginsAt n xs → IsRising xs → RisesFrom n xs
begins_rises n [] begins rises = tt
begins_rises n (x ∷ xs) begins rises = (begins, rises.1)

-- THE PARTS

-- where entries end is told by their partitions
pub ends_same : (n : ℕ) (es fs : List Entry) → map (λ (e : Entry). e.part) es ≡ map (λ (e : Entry). e.part) fs → ends_from n es ≡ ends_from n fs
ends_same n [] [] same = refl
ends_same n [] (f ∷ fs) same = absurd (cc (same))
ends_same n (e ∷ es) [] same = absurd (cc (same))
ends_same n (e ∷ es) (f ∷ fs) same =
    let head : e.part ≡ f.part = cc (same) in
    let rest : map (λ (x : Entry). x.part) es ≡ map (λ (x : Entry). x.part) fs = cc (same) in
    ap (λ (p : Part). ends_from p.end es) head ∙ ends_same f.part.end es fs rest

module _ (i : ℕ) (tells : Bool) (all : SeenAll) (moving : Moving) (files : List Filed) (held : Stores) (runs : RunsBeside i tells all moving files held) (from : ℕ) (next : i ≡ from + 1) (source : ManifestState) (lists : source.entries ≡ map entry_of (list_at from held)) where
  abbrev row : ℕ
  row = moving.series

  at_from : runs.from ≡ from
  at_from = let listed_own = runs.next in omega (arith, listed_own, next)

  still : StillLists moving source
  still = runs.parts source (lists ∙ ap (λ (k : ℕ). map entry_of (list_at k held)) (sym at_from))

  count : length still.now ≡ length moving.parts
  count = sym (length-map still.now (λ (e : Entry). e.part)) ∙ (ap length still.parts ∙ length-map moving.parts (λ (e : Entry). e.part))

  -- the oldest entries that the source lists are the parts'
  copied_is : take (length moving.parts) (of_series row (map entry_of (list_at from held))) ≡ still.now
  copied_is = ap (λ (es : List Entry). take (length moving.parts) (of_series row es)) (sym lists) ∙ ((λ k. take (sym count k) (still.entries k)) ∙ take_front still.now still.others)

  -- the parts' files are of the partitions that the move knows
  pub parts_are : map (λ (f : Filed). f.entry.part) (oldest from row (length moving.parts) held) ≡ map (λ (e : Entry). e.part) moving.parts
  parts_are =
      let n = length moving.parts in
      let listed_own = of_row row (list_at from held) in
      let entries : map entry_of (take n listed_own) ≡ still.now = map_take entry_of n listed_own ∙ (ap (take n) (own_entries row (list_at from held)) ∙ copied_is) in
      part_of_entries (take n listed_own) ∙ (ap (map (λ (e : Entry). e.part)) entries ∙ still.parts)
    where
      part_of_entries : (fs : List Filed) → map (λ (f : Filed). f.entry.part) fs ≡ map (λ (e : Entry). e.part) (map entry_of fs)
      part_of_entries [] = refl
      part_of_entries (f ∷ fs) = ap (λ (ps : List Part). f.entry.part ∷ ps) (part_of_entries fs)

  -- and end where these do
  pub parts_end : ends_from 0 moving.parts ≡ ends_from 0 (take (length moving.parts) (of_series row (map entry_of (list_at from held))))
  parts_end = ends_same 0 moving.parts still.now (sym still.parts) ∙ ap (ends_from 0) (sym copied_is)

  -- ONCE ALL ARE COPIED

  module _ (g : Granularity) (filed : All (IsFiled g held.rows) (list_at from held)) (stands : IsTrue held.stands) (knows : KnowsCopied from moving files held) where
    abbrev listed_own : List Filed
    listed_own = of_row row (list_at from held)

    abbrev end : ℕ
    end = end_of (samples_ahead (from + 1) moving files held)

    own_filed : All (IsFiled g held.rows) listed_own
    own_filed = All-filter (λ (f : Filed). nat_eq f.entry.series row) (IsFiled g held.rows) (list_at from held) filed

    -- a file is its header and its lines
    size_of_file : (f : Filed) → IsFiled g held.rows f → f.entry.len ≡ f.entry.head_len + length (lines_of f.samples)
    size_of_file f is =
        let len = is.len in
        let head = is.head_len in
        let both = length-append f.head (10 ∷ lines_of f.samples) in
        omega (arith, len, head, both)

    -- a part of which all is ahead
    whole_part : (k : ℕ) (part : Entry) (f : Filed) → k < knows.whole → slice_get moving.parts k ≡ Some part → slice_get (oldest from row (length moving.parts) held) k ≡ Some f → IsCopiedTo end part f
    whole_part k part f low in_parts here =
        let in_own : slice_get listed_own k ≡ Some f = (get_take (length moving.parts) k listed_own f here).1 in
        let in_whole : slice_get (take knows.whole listed_own) k ≡ Some f = to_take knows.whole listed_own k f low in_own in
        let len : f.entry.len ≡ part.len = same_at (λ (x : Filed). x.entry.len) (λ (e : Entry). e.len) (take knows.whole listed_own) (take knows.whole moving.parts) k f part knows.lengths in_whole (to_take knows.whole moving.parts k part low in_parts) in
        let none : since end f.samples ≡ [] = none_since end (take knows.whole listed_own) k f (knows.none_left stands) in_whole in
        record {
          of_part = same_at (λ (x : Filed). x.entry.part) (λ (e : Entry). e.part) (oldest from row (length moving.parts) held) moving.parts k f part parts_are here in_parts;
          front = f.samples;
          back = [];
          samples = sym (append-nil f.samples);
          len = sym len ∙ size_of_file f (all_at (IsFiled g held.rows) listed_own k f own_filed in_own);
          until = none_ends end 0 f.samples (omega arith) none;
          later = tt;
        }

    -- a part that a file in limbo has, of which nothing is
    bare_part : (j : ℕ) (part : Entry) (f : Filed) → slice_get moving.parts (knows.whole + j) ≡ Some part → slice_get (oldest from row (length moving.parts) held) (knows.whole + j) ≡ Some f → IsCopiedTo end part f
    bare_part j part f in_parts here =
        let n = knows.whole in
        let files_there = oldest from row (length moving.parts) held in
        let dropped : slice_get (drop n files_there) j ≡ Some f = to_drop n files_there j f here in
        let head : f.entry.head_len ≡ part.len = same_at (λ (x : Filed). x.entry.head_len) (λ (e : Entry). e.len) (drop n files_there) (drop n moving.parts) j f part knows.heads dropped (to_drop n moving.parts j part in_parts) in
        let is = all_at (IsFiled g held.rows) listed_own (n + j) f own_filed (get_take (length moving.parts) (n + j) listed_own f here).1 in
        record {
          of_part = same_at (λ (x : Filed). x.entry.part) (λ (e : Entry). e.part) files_there moving.parts (n + j) f part parts_are here in_parts;
          front = [];
          back = f.samples;
          samples = refl;
          len = omega (arith, head);
          until = omega arith;
          later = begins_rises end f.samples (all_at (IsAllLater (from + 1) moving files held) (drop n files_there) j f (knows.later stands) dropped) is.file.rising;
        }

    pub copied_parts : HasCopiedParts from moving end held
    copied_parts k part f in_parts here = elim (cases_lt k knows.whole) [
      | inl low ↦ whole_part k part f low in_parts here
      | inr high ↦ (
          let is : k ≡ knows.whole + (k - knows.whole) = omega (arith, high) in
          bare_part (k - knows.whole) part f (ap (slice_get moving.parts) (sym is) ∙ in_parts) (ap (slice_get (oldest from row (length moving.parts) held)) (sym is) ∙ here)
          )
    ]

-- The file that a step of copying tells as damaged is that of a part of the move.

-- an answer tells one file and one place
pub told_alone : (Says : Name → ℕ → Parts → Type 0) (q : Parts) (name : Name) (place : ℕ) → Says name place q → (other : Name) (elsewhere : ℕ) → ◌≡◌ {A = Reply} (Damaged name place) (Damaged other elsewhere) → Says other elsewhere q
told_alone Says q name place says other elsewhere told =
    let same_name : name ≡ other = cc (told) in
    let same_place : place ≡ elsewhere = cc (told) in
    subst (λ (x : Name). Says x elsewhere q) same_name (subst (λ (x : ℕ). Says name x q) same_place says)

-- A step of the move reads from these stores and to others. It has copied nothing further: they have what they had.
module _ (tells : Bool) (q : Parts) (slots left : List (Option (Running Moving))) (n : ℕ) (running : Running Moving) (ran : at slots n ≡ Some running)
    (to from : ℕ) (next : to ≡ from + 1) (low : from < 3) (store : running.store ≡ from + 1) (own : running.moving.series ≡ running.series)
    (files : List Filed) (held : Stores) (runs : RunsBeside to tells (beside q.at q.limbo) running.moving files held) (was : Has tells q.at held) (new : Seen) (now : Has tells new held)
    (name : Name) (place : ℕ) (is : IsDamaged from tells new.files running.moving held name place) where
  abbrev moving : Moving
  moving = running.moving

  from_store : running.store - 1 ≡ from
  from_store = omega (arith, store)

  source : (x : ManifestState) × (slice_get new.manifests from ≡ Some x)
  source = manifest_at new.manifests from (let three = now.known.three in omega (arith, three, low))

  lists : source.0.entries ≡ map entry_of (list_at from held)
  lists = (now.known.each from source.0 source.1).entries

  -- the part whose file it is
  part : (e : Entry) × Contains moving.parts e × (e.part ≡ is.file.entry.part)
  part =
      let files_part : Contains (map (λ (f : Filed). f.entry.part) (oldest from moving.series (length moving.parts) held)) is.file.entry.part = map_in (λ (f : Filed). f.entry.part) (oldest from moving.series (length moving.parts) held) is.file is.part in
      map_out (λ (e : Entry). e.part) moving.parts is.file.entry.part
      (subst (λ (ps : List Part). Contains ps is.file.entry.part) (parts_are to tells (beside q.at q.limbo) moving files held runs from next source.0 lists) files_part)

  own_row : is.file.entry.series ≡ moving.series
  own_row = of_all (λ (f : Filed). f.entry.series ≡ moving.series) (oldest from moving.series (length moving.parts) held) is.file (take_own moving.series (length moving.parts) (of_row moving.series (list_at from held)) (own_series moving.series (list_at from held))) is.part

  pub of_part : TellsDamage tells (with_slots slots q) n name place (record q { at = new; slots = left })
  of_part = record {
    running = running;
    ran = ran;
    part = part.0;
    of_move = part.1;
    manifest = source.0;
    here = ap (slice_get new.manifests) from_store ∙ source.1;
    entry = is.file.entry;
    listed = subst (λ (es : List Entry). Contains es is.file.entry) (sym lists) (contains_entry (list_at from held) is.file (from_oldest from moving.series (length moving.parts) held is.file is.part));
    own_row = own_row ∙ own;
    own_part = sym part.2;
    named = is.named ∙ (λ j. file_of (sym store j, sym now.known.rows j) is.file.entry);
    within = is.within;
    bad = is.bad;
    numbered = omega (arith, store);
    settled = now.settled;
    same_rows = λ settled. now.known.rows ∙ sym was.known.rows;
    same_list = λ settled before there. lists ∙ sym (was.known.each from before (sym (ap (slice_get q.at.manifests) from_store) ∙ there)).entries;
  }
