-- The files in limbo of the store to which a move copies: those in whose places nothing is ahead, a move that is to list one of them already, and what
-- is left to copy beside them.
use Rattle.std.proofs.Common.{◌≡◌, ◌⊎◌, inl, inr, true, false, Bool, ℕ, ◌<◌, ◌≤◌, ◌+◌, List, [], ◌∷◌, ◌++◌, length, get_or, map, Option, Some, None, refl, sym, ◌∙◌, ap, subst, arith, ◌≢◌, cond}
use Rattle.std.specs.Prelude.{All, Contains, IfSome, IsTrue, nat_eq, slice_get, nat_le}
use Rattle.std.proofs.lemmas.Bool.{cases_lt, cond-false, cond-true, eqb-true}
use Rattle.std.proofs.lemmas.Bool.Decides.{Decides-eqb, nat_tests}
use Rattle.std.proofs.lemmas.List.{length-append}
use Rattle.std.proofs.lemmas.List.Elements.{All-append, All-cons, All-from_recursion, All-nil, All-contains, Contains-get_or, filter_passes, filter-append, recursion_from_All}
use Rattle.std.proofs.lemmas.Option.{same_Some}
use Rattle.std.proofs.Math.Seq.{get_or-append_seam}
use Rattle.disk_model.specs.Files.{HasFile}
use Rattle.etl_mover.specs.Copying.{last_of}
use Rattle.etl_mover.specs.Move.{Moving, FewPending, IsMove, OfNext}
use Rattle.partition_names.specs.declared.granularity.Granularity.{Granularity}
use Rattle.partition_names.specs.declared.part.Part.{Part}
use Rattle.partition_names.specs.Part.{HoldsMoment, IsPart}
use Rattle.pv_catalog.specs.declared.row.Row.{Row}
use Rattle.store_manifest.specs.Entries.{Place, place, put}
use Rattle.store_manifest.specs.Manifest.{ManifestState}
use Rattle.store_manifest.specs.declared.entry.Entry.{Entry}
use Rattle.durable_write.specs.Flush.{file_at, put_all, with_files}
use Rattle.durable_write.specs.Held.{Filed, Held, AreFiled, IsFiled, IsIn, IsListed, entry_of, file_of, filed_at, samples_of}
use Rattle.durable_write.specs.Plan.{IsLastOf, StartBefore, of_row}
use Rattle.durable_write.specs.Stored.{AreHeld, AreSafe, KeysDiffer}
use Rattle.durable_write.proofs.Written.{put_all_has, contains_entry, put_all_new, one_of_place}
use Rattle.durable_write.proofs.Places.{listed_at, put_behind, start_before, last_view}
use Rattle.durable_write.proofs.Staying.{same_place, contains_map}
use Rattle.tier_store.specs.Stores.{Stores, list_at, tier}
use Rattle.tier_store.specs.Change.{Has}
use Rattle.tier_store.specs.Limbo.{IsOfPlace, LimboStands}
use Rattle.tier_store.specs.Moving.{MayBeListed, RunsBeside, of_files}
use Rattle.tier_store.specs.Pinned.{SeenAll}
use Rattle.tier_store.specs.Revival.{AreWhole, IsAmong, IsOfLimbo, store_with, samples_at}
use Rattle.tier_store.specs.Reviving.{AreBack, IsBehind, IsCovered, IsUncovered, SaysBehind, free_of, is_free, is_nothing, past, reviving}
use Rattle.tier_store.specs.Seen.{granularities, on_disk}
use Rattle.tier_store.specs.declared.limbo.Retired.{Retired}
use Rattle.tier_store.proofs.CopyLeft.{begins_within, inside_until, since_earlier, weaker}
use Rattle.tier_store.proofs.CopyFiles.{SetsFile, before_push, earlier_start, last_file, last_in, last_then, none_of_row, stands_behind, end_is, within_row}
use Rattle.tier_store.proofs.CopyGoes.{last_in_pending}
use Rattle.tier_store.proofs.Showing.{contains_filter, from_filter, none_at}
use Rattle.tier_store.proofs.RunningMoves.{valid_with}
use Rattle.tier_store.proofs.Places.{granularity_at, manifest_of, one_manifest, parts_apart}
use Rattle.tier_store.proofs.Revival.{listed_by, none_is}
use Rattle.tier_store.proofs.Removals.{as_filed, listed_place}
use Rattle.std.specs.List.{AllByRecursion}
use Rattle.pb_lines.proofs.FileLines.{all_rest}
use Rattle.series_model.specs.Series.{RisesFrom, end_of, end_from, since}
use Rattle.series_model.specs.declared.sample.Sample.{Sample}
use Rattle.series_model.proofs.RisingLists.{end_from-append, end_from-ge, since-append}
use Rattle.tier_store.specs.Copied.{end_after}
use Rattle.tier_store.specs.Finding.{BeginsAt}
use Rattle.tier_store.proofs.Revived.{found_at}
use Rattle.partition_names.proofs.PartLemmas as parts
use Rattle.tier_store.proofs.Revived as revived_files
use Rattle.tier_store.proofs.CopyParts.{runs_by}
use Rattle.etl_mover.proofs.Steps.{last_of-push}

-- LISTS

-- the sample is later than the file in limbo of its partition
abbrev pub passes : List Filed → ℕ → Sample → Bool
passes back row s = nat_le (end_of (samples_at back row s.t)) s.t

pub past_append : (back : List Filed) (row : ℕ) (xs ys : List Sample) → past back row (xs ++ ys) ≡ past back row xs ++ past back row ys
past_append back row xs ys = filter-append (passes back row) xs ys

pub past_none : (back : List Filed) (row : ℕ) (xs : List Sample) → AllByRecursion (λ (s : Sample). passes back row s ≡ false) xs → past back row xs ≡ []
past_none back row [] all = refl
past_none back row (s ∷ xs) all = cond-false (passes back row s) (s ∷ past back row xs) (past back row xs) all.0 ∙ past_none back row xs all.1

pub past_all : (back : List Filed) (row : ℕ) (xs : List Sample) → AllByRecursion (λ (s : Sample). passes back row s ≡ true) xs → past back row xs ≡ xs
past_all back row [] all = refl
past_all back row (s ∷ xs) all = cond-true (passes back row s) (s ∷ past back row xs) (past back row xs) all.0 ∙ ap (λ (l : List Sample). s ∷ l) (past_all back row xs all.1)

-- what is taken from a moment on is no earlier
pub since_low : (n : ℕ) (xs : List Sample) → AllByRecursion (λ (s : Sample). n ≤ s.t) (since n xs)
since_low n [] = tt
since_low n (s ∷ xs) = by_test (since_low n xs) (nat_le n s.t) refl
  where
    by_test : AllByRecursion (λ (s : Sample). n ≤ s.t) (since n xs) → (b : Bool) → nat_le n s.t ≡ b → AllByRecursion (λ (s : Sample). n ≤ s.t) (cond b (s ∷ since n xs) (since n xs))
    by_test rest true is = (grind (arith, nat_tests, is), rest)
    by_test rest false is = rest

-- and earlier than the end
pub before_end : (n : ℕ) (xs : List Sample) → RisesFrom n xs → AllByRecursion (λ (s : Sample). s.t < end_from n xs) xs
before_end n [] rises = tt
before_end n (s ∷ xs) rises = (let more = end_from-ge (s.t + 1) xs rises.1 in omega (arith, more), before_end (s.t + 1) xs rises.1)

-- what is later than a later moment is all that is taken, where nothing else passes
pub past_since : (back : List Filed) (row n k : ℕ) (xs : List Sample) → n ≤ k → AllByRecursion (λ (s : Sample). passes back row s ≡ true → k ≤ s.t) xs → past back row (since n xs) ≡ past back row (since k xs)
past_since back row n k [] low all = refl
past_since back row n k (s ∷ xs) low all = by_test (past_since back row n k xs low all.1) (nat_le k s.t) refl (nat_le n s.t) refl (passes back row s) refl
  where
    one : (m : ℕ) (b : Bool) → nat_le m s.t ≡ b → past back row (since m (s ∷ xs)) ≡ past back row (cond b (s ∷ since m xs) (since m xs))
    one m b is = ap (λ (x : Bool). past back row (cond x (s ∷ since m xs) (since m xs))) is

    out : (m : ℕ) → passes back row s ≡ false → past back row (s ∷ since m xs) ≡ past back row (since m xs)
    out m is = cond-false (passes back row s) (s ∷ past back row (since m xs)) (past back row (since m xs)) is

    within : (m : ℕ) → passes back row s ≡ true → past back row (s ∷ since m xs) ≡ s ∷ past back row (since m xs)
    within m is = cond-true (passes back row s) (s ∷ past back row (since m xs)) (past back row (since m xs)) is

    by_test : past back row (since n xs) ≡ past back row (since k xs) → (b : Bool) → nat_le k s.t ≡ b → (c : Bool) → nat_le n s.t ≡ c → (p : Bool) → passes back row s ≡ p → past back row (since n (s ∷ xs)) ≡ past back row (since k (s ∷ xs))
    by_test rest true is false other p at = absurd (let high : k ≤ s.t = grind (arith, nat_tests, is) in let less : s.t < n = grind (arith, nat_tests, other) in omega (arith, high, less, low))
    by_test rest true is true other true at = one n true other ∙ (within n at ∙ (ap (λ (l : List Sample). s ∷ l) rest ∙ sym (one k true is ∙ within k at)))
    by_test rest true is true other false at = one n true other ∙ (out n at ∙ (rest ∙ sym (one k true is ∙ out k at)))
    by_test rest false is false other p at = one n false other ∙ (rest ∙ sym (one k false is))
    by_test rest false is true other true at = absurd (let high = all.0 at in let less : s.t < k = grind (arith, nat_tests, is) in omega (arith, high, less))
    by_test rest false is true other false at = one n true other ∙ (out n at ∙ (rest ∙ sym (one k false is)))

not_empty : (xs : List Sample) (s : Sample) → xs ++ s ∷ [] ≡ [] → ⊥
not_empty [] s is = absurd (cc (is))
not_empty (x ∷ xs) s is = absurd (cc (is))

-- FILES

-- a file ends within its partition
ends_within : (g : Granularity) (rows : List Row) (x : Filed) → IsFiled g rows x → x.entry.last + 1 ≤ x.entry.part.end
ends_within g rows x filed =
    let to = filed.to in
    let high = inside_until x.entry.part.end 0 x.samples (omega arith) (weaker (λ s. HoldsMoment x.entry.part s.t) (λ s. s.t < x.entry.part.end) (λ s inside. inside.1) x.samples (recursion_from_All (λ (s : Sample). HoldsMoment x.entry.part s.t) x.samples filed.inside)) in
    omega (arith, to, high)

module _ (tells : Bool) (all : SeenAll) (from : ℕ) (move : Moving) (files : List Filed) (held : Stores) (has : Has tells all.stores held) (runs : RunsBeside (from + 1) tells all move files held) (last_is : IsLastOf (map entry_of (put_all (list_at (from + 1) held) files)) move.series (last_of move.pending move.listed))
    (stand : LimboStands all.stores all.limbo) (retired : List Filed) (whole : AreWhole (from + 1) tells all.stores all.limbo held.stands retired) where
  abbrev ahead : List Filed
  ahead = put_all (list_at (from + 1) held) files

  pub to : (m : ManifestState) × (slice_get all.stores.manifests (from + 1) ≡ Some m) × (m.granularity ≡ move.granularity)
  to = manifest_of all.stores.manifests (from + 1) move.granularity runs.to_coarse

  abbrev g : Granularity
  g = to.0.granularity

  -- THOSE THAT ARE BACK

  abbrev pub back_of : List Filed
  back_of = free_of ahead retired

  of_place : (r : Retired) → Contains all.limbo r → IsOfPlace all.stores r
  of_place r within = All-contains (IsOfPlace all.stores) all.limbo r stand.0 within

  -- what is listed in a place is ahead there
  listed_ahead : (h : Filed) (p : Place) → Contains (list_at (from + 1) held) h → filed_at h ≡ p → file_at p ahead ≡ None → ⊥
  listed_ahead h p within at none = elim (put_all_has files (list_at (from + 1) held) h runs.ahead.rise within) [
    | inl there ↦ none_at ahead p h none there at
    | inr (x, in_files, same, there) ↦ none_at ahead p x none there (sym same ∙ at)
  ]

  -- a file in limbo in whose place nothing is ahead is one of these
  pub among : (r : Retired) → Contains all.limbo r → r.name.0 ≡ (from + 1) + 1 → file_at (place r.entry) ahead ≡ None → (u : Filed) × Contains retired u × (u.entry ≡ r.entry)
  among r within number none = elim (All-contains (IsAmong (from + 1) all.stores retired) all.limbo r whole.each within number) [
    | inr there ↦ contains_map retired r.entry there
    | inl h ↦
        let lists = listed_place all.stores held r has.known (of_place r within) (listed_by all.stores r.name 0 h) in
        let store = lists.store in
        let is : lists.place ≡ from + 1 = omega (arith, store, number) in
        let own : lists.manifest ≡ to.0 = one_manifest all.stores.manifests (from + 1) lists.place to.0 lists.manifest is to.1 lists.here in
        let listed : Contains (map entry_of (list_at (from + 1) held)) lists.entry = subst (λ (es : List Entry). Contains es lists.entry) (has.known.each (from + 1) to.0 to.1).entries (subst (λ (x : ManifestState). Contains x.entries lists.entry) own lists.within) in
        let f = contains_map (list_at (from + 1) held) lists.entry listed in
        let series : f.0.entry.series ≡ r.entry.series = ap (λ (e : Entry). e.series) f.2 ∙ lists.series in
        let start : f.0.entry.part.start ≡ r.entry.part.start = ap (λ (e : Entry). e.part.start) f.2 ∙ lists.start in
        absurd (listed_ahead f.0 (place r.entry) f.1 (λ i. (series i, start i)) none)
  ]

  pub are_back : AreBack (from + 1) all.limbo retired ahead back_of
  are_back = record {
    known = λ k d lt. from_filter (is_free ahead) retired (get_or back_of k d) (Contains-get_or back_of k d lt);
    unlisted = λ k d lt. none_is (file_at (filed_at (get_or back_of k d)) ahead) (filter_passes (is_free ahead) retired k d lt);
    from = λ k d lt. All-contains (λ (f : Filed). IsOfLimbo (from + 1) all.limbo f.entry) retired (get_or back_of k d) whole.from (from_filter (is_free ahead) retired (get_or back_of k d) (Contains-get_or back_of k d lt));
    every = λ r within number none.
        let u = among r within number none in
        let free : file_at (filed_at u.0) ahead ≡ None = ap (λ (e : Entry). file_at (place e) ahead) u.2 ∙ none in
        subst (Contains (map entry_of back_of)) u.2 (contains_entry back_of u.0 (contains_filter (is_free ahead) retired u.0 u.1 (ap is_nothing free)));
  }

  -- ONE THAT LIES BEHIND ALL THAT IS AHEAD

  abbrev b : Held
  b = with_files (tier (from + 1) held) files

  valid : AreHeld g b
  valid = valid_with (from + 1) tells all held files runs.ahead to.0 to.1 has

  -- the row's files begin before it
  rows_before : (n : ℕ) → IfSome (last_of move.pending move.listed) (λ (l : Entry). l.part.start < n) → StartBefore n (of_row move.series ahead)
  rows_before n less = go (last_of move.pending move.listed) last_is less
    where
      go : (o : Option Entry) → IsLastOf (map entry_of ahead) move.series o → IfSome o (λ (l : Entry). l.part.start < n) → StartBefore n (of_row move.series ahead)
      go None last less = subst (StartBefore n) (sym (none_of_row b move.series last)) tt
      go (Some e) last less =
          let f = last_file b move.series e last in
          let begin = ap (λ (x : Entry). x.part.start) f.3 in
          let low : f.1.entry.part.start < n = omega (arith, begin, less) in
          subst (StartBefore n) (sym f.2) (before_push n f.0 f.1 (start_before f.1.entry.part.start n f.0 (earlier_start move.series ahead f.0 f.1 valid.apart f.2) (omega (arith, low))) low)

  before_in : (n : ℕ) (xs : List Filed) (x : Filed) → StartBefore n xs → Contains xs x → x.entry.part.start < n
  before_in n [] x all (k, low, is) = absurd (omega (arith, low))
  before_in n (y ∷ xs) x all within = All-contains (λ (z : Filed). z.entry.part.start < n) (y ∷ xs) x (All-from_recursion (λ (z : Filed). z.entry.part.start < n) (y ∷ xs) all) within

  pub free_behind : (e : Entry) → e.series ≡ move.series → IfSome (last_of move.pending move.listed) (λ (l : Entry). l.part.start < e.part.start) → file_at (place e) ahead ≡ None
  free_behind e own less = elim (listed_at ahead (place e)) [
    | inl none ↦ none
    | inr (h, within, at, there) ↦
        let series : h.entry.series ≡ move.series = ap (λ (p : Place). p.0) at ∙ own in
        let start : h.entry.part.start ≡ e.part.start = ap (λ (p : Place). p.1) at in
        let in_row = contains_filter (λ (x : Filed). nat_eq x.entry.series move.series) ahead h within ((Decides-eqb h.entry.series move.series).1 series) in
        let low = before_in e.part.start (of_row move.series ahead) h (rows_before e.part.start less) in_row in
        absurd (omega (arith, low, start))
  ]

  module _ (t : ℕ) (r : Retired) (within : Contains all.limbo r) (behind : IsBehind (from + 2) move.series (last_of move.pending move.listed) t r) where
    number : r.name.0 ≡ (from + 1) + 1
    number = let store = behind.store in omega (arith, store)

    pub file_is : (u : Filed) × Contains retired u × (u.entry ≡ r.entry)
    file_is = among r within number (free_behind r.entry behind.own behind.behind)

    abbrev pub f : Filed
    f = file_is.0

    own : f.entry.series ≡ move.series
    own = ap (λ (e : Entry). e.series) file_is.2 ∙ behind.own

    free : file_at (filed_at f) ahead ≡ None
    free = ap (λ (e : Entry). file_at (place e) ahead) file_is.2 ∙ free_behind r.entry behind.own behind.behind

    pub f_back : Contains back_of f
    f_back = contains_filter (is_free ahead) retired f file_is.1 (ap is_nothing free)

    -- it is of a row and of a partition
    filed : AreFiled g (store_with (from + 1) all.stores held.stands retired)
    filed = whole.filed to.0 to.1

    f_listed : IsListed g held.rows f
    f_listed = subst (λ (rows : List Row). IsListed g rows f) has.known.rows (All-contains (IsListed g all.stores.catalogue.rows) retired f filed.listed file_is.1)

    pub f_filed : IsTrue held.stands → IsFiled g held.rows f
    f_filed stands = subst (λ (rows : List Row). IsFiled g rows f) has.known.rows (All-contains (IsFiled g all.stores.catalogue.rows) retired f (filed.filed stands) file_is.1)

    f_part : IsPart move.granularity f.entry.part
    f_part = subst (λ (x : Granularity). IsPart x f.entry.part) to.2 f_listed.part

    all_own : All (λ (x : Filed). x.entry.series ≡ move.series) files
    all_own = λ k x lt. (All-contains (λ (e : Entry). IsPart move.granularity e.part × (e.series ≡ move.series)) move.pending (get_or files k x).entry runs.running.pending (subst (λ (l : List Entry). Contains l (get_or files k x).entry) (sym runs.pending) (contains_entry files (get_or files k x) (Contains-get_or files k x lt)))).1

    less : IfSome (last_of move.pending move.listed) (λ (l : Entry). l.part.start < f.entry.part.start)
    less = subst (λ (e : Entry). IfSome (last_of move.pending move.listed) (λ (l : Entry). l.part.start < e.part.start)) (sym file_is.2) behind.behind

    -- it is to be listed behind the others
    pub sets : SetsFile files (files ++ f ∷ []) f (move.pending ++ f.entry ∷ [])
    sets = stands_behind move.series files f move.pending (move.pending ++ f.entry ∷ []) runs.pending all_own own runs.ahead.rise
        (λ rest l are apart.
        let in_files = subst (λ (fs : List Filed). Contains fs l) (sym are) (last_in rest l) in
        let in_row = contains_filter (λ (x : Filed). nat_eq x.entry.series move.series) ahead l (put_all_new files (list_at (from + 1) held) l runs.ahead.rise in_files) ((Decides-eqb l.entry.series move.series).1 (All-contains (λ (x : Filed). x.entry.series ≡ move.series) files l all_own in_files)) in
        before_in f.entry.part.start (of_row move.series ahead) l (rows_before f.entry.part.start less) in_row)
        (record { other = λ rest l are same. last_in_pending move.pending move.listed rest l f.entry are less same; becomes = refl })

    pub ahead_with : put_all (list_at (from + 1) held) (files ++ f ∷ []) ≡ put filed_at f ahead
    ahead_with = sets.put (list_at (from + 1) held)

    pub row_with : of_row move.series (put_all (list_at (from + 1) held) (files ++ f ∷ [])) ≡ of_row move.series ahead ++ f ∷ []
    row_with = ap (of_row move.series) ahead_with ∙ put_behind move.series f ahead own (rows_before f.entry.part.start less)

    -- WHAT MAY BE LISTED

    safe_f : IsTrue tells → AreSafe (of_files (from + 1) held (files ++ f ∷ [])) (on_disk all.stores)
    safe_f told =
        let safe = subst (λ (rows : List Row). let T : Held = record { store = (from + 1) + 1; rows = rows; files = retired; stands = held.stands } in AreSafe T (on_disk all.stores)) has.known.rows (whole.safe told) in
        let was = runs.ahead.safe told in
        record {
          long = sets.each (λ (x : Filed). HasFile all.stores.files (file_of ((from + 1) + 1, held.rows) x.entry) (λ bytes. x.entry.len ≤ length bytes)) was.long (All-contains (λ (x : Filed). HasFile all.stores.files (file_of ((from + 1) + 1, held.rows) x.entry) (λ bytes. x.entry.len ≤ length bytes)) retired f safe.long file_is.1);
          unopened = sets.each (λ (x : Filed). all.stores.opened (file_of ((from + 1) + 1, held.rows) x.entry) ≤ x.entry.len) was.unopened (All-contains (λ (x : Filed). all.stores.opened (file_of ((from + 1) + 1, held.rows) x.entry) ≤ x.entry.len) retired f safe.unopened file_is.1);
          left = λ image left stands. sets.each (IsIn ((from + 1) + 1, held.rows) image) (was.left image left stands) (All-contains (IsIn ((from + 1) + 1, held.rows) image) retired f (safe.left image left stands) file_is.1);
        }

    abbrev IsShort : Filed → Type 0
    IsShort x = (h : Filed) → Contains (list_at (from + 1) held) h → filed_at h ≡ filed_at x → h.entry.len ≤ x.entry.len

    abbrev IsLongAs : Filed → Type 0
    IsLongAs x = (y : Retired) → Contains all.limbo y → y.name ≡ file_of ((from + 1) + 1, held.rows) x.entry → file_at (filed_at x) (list_at (from + 1) held) ≡ None → y.entry.len ≤ x.entry.len

    keys : KeysDiffer held.rows
    keys = (has.known.each (from + 1) to.0 to.1).valid.keys

    f_long_as : IsLongAs f
    f_long_as y y_in named unlisted =
        let number_y : y.name.0 ≡ (from + 1) + 1 = ap (λ n. n.0) named in
        let of = of_place y y_in in
        let place_y : of.place ≡ from + 1 = let one = ap (λ n. n.0) of.named in omega (arith, one, number_y) in
        let y_listed = y_is of place_y in
        let named_y : file_of ((from + 1) + 1, held.rows) y.entry ≡ file_of ((from + 1) + 1, held.rows) f.entry =
        ap (λ (rows : List Row). file_of ((from + 1) + 1, rows) y.entry) (sym has.known.rows) ∙ (ap (λ (k : ℕ). file_of (k + 1, all.stores.catalogue.rows) y.entry) (sym place_y) ∙ (of.named ∙ named)) in
        let at : filed_at (as_filed y) ≡ filed_at f = same_place g ((from + 1) + 1) held.rows (as_filed y) f keys y_listed f_listed named_y in
        let u = among y y_in number_y (ap (λ (p : Place). file_at p ahead) at ∙ free) in
        let one : u.0 ≡ f = one_of_place retired f u.0 whole.rise file_is.1 u.1 (ap (λ (e : Entry). place e) u.2 ∙ at) in
        let len = ap (λ (x : Filed). x.entry.len) one in
        let len_y = ap (λ (e : Entry). e.len) u.2 in
        omega (arith, len, len_y)
      where
        y_is : (of : IsOfPlace all.stores y) → of.place ≡ from + 1 → IsListed g held.rows (as_filed y)
        y_is of place_y =
            let same : of.granularity ≡ g = same_Some of.granularity g (sym of.here ∙ (ap (λ (k : ℕ). slice_get (granularities all.stores.manifests) k) place_y ∙ granularity_at all.stores.manifests (from + 1) to.0 to.1)) in
            record { row = of.row; stands = ap (λ (rows : List Row). slice_get rows y.entry.series) (sym has.known.rows) ∙ of.stands; part = subst (λ (x : Granularity). IsPart x y.entry.part) same of.part }

    may_be_listed : MayBeListed (from + 1) tells all held (files ++ f ∷ [])
    may_be_listed = record {
      rise = sets.rise;
      filed = λ h at_h.
          let same : g ≡ h = same_Some g h (sym (granularity_at all.stores.manifests (from + 1) to.0 to.1) ∙ at_h) in
          let was = runs.ahead.filed g (granularity_at all.stores.manifests (from + 1) to.0 to.1) in
          subst (λ (x : Granularity). AreFiled x (of_files (from + 1) held (files ++ f ∷ []))) same (record {
            numbered = omega arith;
            listed = sets.each (IsListed g held.rows) was.listed f_listed;
            filed = λ stands. sets.each (IsFiled g held.rows) (was.filed stands) (f_filed stands);
          });
      safe = safe_f;
      longer = λ h x there within same. All-contains IsShort (files ++ f ∷ []) x
          (sets.each IsShort (λ k y lt h there same. runs.ahead.longer h (get_or files k y) there (Contains-get_or files k y lt) same) (λ h there same. absurd (listed_ahead h (filed_at f) there same free))) within h there same;
      longer_retired = λ y x y_in within named unlisted. All-contains IsLongAs (files ++ f ∷ []) x
          (sets.each IsLongAs (λ k z lt y y_in named unlisted. runs.ahead.longer_retired y (get_or files k z) y_in (Contains-get_or files k z lt) named unlisted) f_long_as) within y y_in named unlisted;
    }

    -- THE MOVE

    module _ (part : Entry) (at_hand : slice_get move.parts move.at ≡ Some part) (holds : HoldsMoment f.entry.part part.part.start) where
      few_with : FewPending (reviving move (Some f.entry))
      few_with = elim runs.running.most [
        | inl few ↦ elim (cases_le (length move.pending) move.at few) [
          | inl fewer ↦ inl (omega (arith, fewer, length-append move.pending (f.entry ∷ [])))
          | inr all ↦ inr (omega (arith, all, length-append move.pending (f.entry ∷ [])), of_next)
        ]
        | inr (one, next) ↦ absurd (not_twice next)
      ]
        where
          cases_le : (n m : ℕ) → n ≤ m → (n < m) ⊎ (n ≡ m)
          cases_le n m le = elim (cases_lt n m) [ inl lt ↦ inl lt | inr ge ↦ inr (omega (arith, le, ge)) ]

          of_next : OfNext (reviving move (Some f.entry))
          of_next = record { rest = move.pending; entry = f.entry; part = part; are = refl; next = at_hand; holds = holds }

          not_twice : OfNext move → ⊥
          not_twice next =
              let known = All-contains (λ (e : Entry). IsPart move.granularity e.part × (e.series ≡ move.series)) move.pending next.entry runs.running.pending
              (subst (λ (l : List Entry). Contains l next.entry) (sym next.are) (length next.rest, omega (arith, length-append next.rest (next.entry ∷ [])), get_or-append_seam next.rest next.entry [] next.entry)) in
              let q : next.part ≡ part = same_Some next.part part (sym next.next ∙ at_hand) in
              let same : next.entry.part ≡ f.entry.part = parts.one_part move.granularity next.entry.part f.entry.part part.part.start known.0 f_part (subst (λ (e : Entry). HoldsMoment next.entry.part e.part.start) q next.holds) holds in
              last_in_pending move.pending move.listed next.rest next.entry f.entry next.are less (ap (λ (p : Part). p.start) same)

      running_with : IsMove runs.fine (reviving move (Some f.entry))
      running_with = record {
        nested = runs.running.nested;
        parts = runs.running.parts;
        in_order = runs.running.in_order;
        few = runs.running.few;
        at = runs.running.at;
        pending = All-append (λ (e : Entry). IsPart move.granularity e.part × (e.series ≡ move.series)) move.pending (f.entry ∷ []) runs.running.pending
            (All-cons (λ (e : Entry). IsPart move.granularity e.part × (e.series ≡ move.series)) f.entry [] (f_part, own) (All-nil (λ (e : Entry). IsPart move.granularity e.part × (e.series ≡ move.series))));
        most = few_with;
        listed = runs.running.listed;
        files = runs.running.files;
      }

      pub runs_with : RunsBeside (from + 1) tells all (reviving move (Some f.entry)) (files ++ f ∷ []) held
      runs_with = runs_by (from + 1) tells all all move (reviving move (Some f.entry)) files (files ++ f ∷ []) held refl refl runs running_with (λ m are. let was = runs.parts m are in record { now = was.now; others = was.others; entries = was.entries; parts = was.parts }) (λ some. some) sets.are may_be_listed

      pub last_with : IsLastOf (map entry_of (put_all (list_at (from + 1) held) (files ++ f ∷ []))) move.series (last_of (move.pending ++ f.entry ∷ []) move.listed)
      last_with = subst (IsLastOf (map entry_of (put_all (list_at (from + 1) held) (files ++ f ∷ []))) move.series) (sym (last_of-push move.pending f.entry move.listed)) (last_then move.series (put_all (list_at (from + 1) held) (files ++ f ∷ [])) (of_row move.series ahead) f row_with)

  -- WHAT IS LEFT BESIDE THEM

  module _ (stands : IsTrue held.stands) where
    abbrev pub back : List Filed
    back = back_of

    pub backs : AreBack (from + 1) all.limbo retired (put_all (list_at (from + 1) held) files) back
    backs = are_back

    abbrev n : ℕ
    n = end_after (last_of move.pending move.listed)

    part_of : (x : Filed) → Contains retired x → IsPart move.granularity x.entry.part
    part_of x within = subst (λ (g : Granularity). IsPart g x.entry.part) to.2 (All-contains (IsListed to.0.granularity all.stores.catalogue.rows) retired x (whole.filed to.0 to.1).listed within).part

    known : (x : Filed) → Contains back x → Contains retired x
    known x within = All-contains (Contains retired) back x backs.known within

    -- one of a moment
    one_of : (t : ℕ) (x y : Filed) → Contains back x → Contains back y → x.entry.series ≡ move.series → y.entry.series ≡ move.series → HoldsMoment x.entry.part t → HoldsMoment y.entry.part t → x ≡ y
    one_of t x y x_in y_in own own_y holds holds_y =
        let same : x.entry.part ≡ y.entry.part = parts.one_part move.granularity x.entry.part y.entry.part t (part_of x (known x x_in)) (part_of y (known y y_in)) holds holds_y in
        one_of_place retired y x whole.rise (known y y_in) (known x x_in) (λ i. ((own ∙ sym own_y) i, (same i).start))

    -- one entry of a moment
    pub same_file : (t : ℕ) (r : Retired) (r_in : Contains all.limbo r) (r_behind : IsBehind (from + 2) move.series (last_of move.pending move.listed) t r) (y : Retired) (y_in : Contains all.limbo y) (y_behind : IsBehind (from + 2) move.series (last_of move.pending move.listed) t y) → r.entry ≡ y.entry
    same_file t r r_in r_behind y y_in y_behind =
        let a = file_is t r r_in r_behind in
        let c = file_is t y y_in y_behind in
        let a_in = f_back t r r_in r_behind in
        let c_in = f_back t y y_in y_behind in
        let one : a.0 ≡ c.0 = one_of t a.0 c.0 a_in c_in (ap (λ (e : Entry). e.series) a.2 ∙ r_behind.own) (ap (λ (e : Entry). e.series) c.2 ∙ y_behind.own) (subst (λ (e : Entry). HoldsMoment e.part t) (sym a.2) r_behind.holds) (subst (λ (e : Entry). HoldsMoment e.part t) (sym c.2) y_behind.holds) in
        sym a.2 ∙ (ap (λ (x : Filed). x.entry) one ∙ c.2)

    pub before_it : n ≡ end_of (samples_of move.series (put_all (list_at (from + 1) held) files))
    before_it = end_is to.0.granularity (with_files (tier (from + 1) held) files) move.series (last_of move.pending move.listed) valid stands last_is

    -- a file in whose partition something later lies is behind all that is ahead
    behind_last : (l : Filed) (t : ℕ) → Contains back l → l.entry.series ≡ move.series → HoldsMoment l.entry.part t → n ≤ t → IfSome (last_of move.pending move.listed) (λ (e : Entry). e.part.start < l.entry.part.start)
    behind_last l t l_in own holds high = go (last_of move.pending move.listed) refl last_is
      where
        go : (o : Option Entry) → last_of move.pending move.listed ≡ o → IsLastOf (map entry_of (put_all (list_at (from + 1) held) files)) move.series o → IfSome (last_of move.pending move.listed) (λ (e : Entry). e.part.start < l.entry.part.start)
        go None is last = subst (λ (o : Option Entry). IfSome o (λ (e : Entry). e.part.start < l.entry.part.start)) (sym is) tt
        go (Some e) is last =
            let f = last_file (with_files (tier (from + 1) held) files) move.series e last in
            let f_in = within_row (with_files (tier (from + 1) held) files) move.series f.0 f.1 f.2 in
            let filed = All-contains (IsFiled to.0.granularity held.rows) (put_all (list_at (from + 1) held) files) f.1 (valid.filed.filed stands) f_in in
            let f_part : IsPart move.granularity f.1.entry.part = subst (λ (g : Granularity). IsPart g f.1.entry.part) to.2 filed.part in
            let l_part = part_of l (known l l_in) in
            let start = ap (λ (x : Entry). x.part.start) f.3 in
            let ends = ap (λ (x : Entry). x.last) f.3 in
            let begin = begins_within to.0.granularity held.rows f.1 filed in
            let n_is = ap end_after is in
            let own_f : f.1.entry.series ≡ move.series = eqb-true f.1.entry.series move.series (All-contains (λ (x : Filed). nat_eq x.entry.series move.series ≡ true) (of_row move.series (put_all (list_at (from + 1) held) files)) f.1 (filter_passes (λ (x : Filed). nat_eq x.entry.series move.series) (put_all (list_at (from + 1) held) files)) (subst (λ (l : List Filed). Contains l f.1) (sym f.2) (last_in f.0 f.1))) in
            subst (λ (o : Option Entry). IfSome o (λ (e : Entry). e.part.start < l.entry.part.start)) (sym is)
            (elim (cases_lt f.1.entry.part.start l.entry.part.start) [
              | inl less ↦ omega (arith, less, start)
              | inr more ↦ elim (cases_lt l.entry.part.start f.1.entry.part.start) [
                | inl less ↦ let clear = parts_apart move.granularity l.entry.part f.1.entry.part l_part f_part less in let end = holds.1 in absurd (omega (arith, clear, end, begin, n_is, ends, high))
                | inr same ↦
                    let at : filed_at f.1 ≡ filed_at l = let s : f.1.entry.part.start ≡ l.entry.part.start = omega (arith, more, same) in let o : f.1.entry.series ≡ l.entry.series = own_f ∙ sym own in λ i. (o i, s i) in
                    absurd (none_at (put_all (list_at (from + 1) held) files) (filed_at l) f.1 (All-contains (λ (x : Filed). file_at (filed_at x) (put_all (list_at (from + 1) held) files) ≡ None) back l backs.unlisted l_in) f_in at)
              ]
            ])

    -- A PART OF THE SOURCE

    module _ (fine : Granularity) (q : Filed) (filed : IsFiled fine held.rows q) where
      abbrev holds_in : Sample → Type 0
      holds_in s = HoldsMoment q.entry.part s.t

      nested : (p : Part) (t : ℕ) → fine ≡ runs.fine → IsPart move.granularity p → HoldsMoment q.entry.part t → HoldsMoment p t → (p.start ≤ q.entry.part.start) × (q.entry.part.end ≤ p.end)
      nested p t same is in_q in_p = parts.nest move.granularity runs.fine q.entry.part p t runs.running.nested (subst (λ (g : Granularity). IsPart g q.entry.part) same filed.part) is in_q in_p

      module _ (same : fine ≡ runs.fine) where
        -- nothing in limbo is of its partition
        pub none_of_part : SaysBehind all.limbo (from + 2) move.series (last_of move.pending move.listed) q.entry.part.start None → (s : Sample) → holds_in s → n ≤ s.t → samples_at back move.series s.t ≡ []
        none_of_part none s in_q high = revived_files.none_at back move.series s.t (λ l l_in own holds.
            let of = All-contains (λ (f : Filed). IsOfLimbo (from + 1) all.limbo f.entry) back l backs.from l_in in
            let nest = nested l.entry.part s.t same (part_of l (known l l_in)) in_q holds in
            let some = parts.within fine q.entry.part filed.part in
            none of.file of.within (record {
              store = let store = of.store in omega (arith, store);
              own = ap (λ (e : Entry). e.series) of.is ∙ own;
              holds = subst (λ (e : Entry). HoldsMoment e.part q.entry.part.start) (sym of.is) (nest.0, omega (arith, nest.1, some.1));
              behind = subst (λ (e : Entry). IfSome (last_of move.pending move.listed) (λ (x : Entry). x.part.start < e.part.start)) (sym of.is) (behind_last l s.t l_in own holds high);
            }))

        -- or this file is
        module _ (r : Retired) (within : Contains all.limbo r) (behind : IsBehind (from + 2) move.series (last_of move.pending move.listed) q.entry.part.start r) where
          abbrev pub limbo_f : Filed
          limbo_f = (file_is q.entry.part.start r within behind).0

          f_is : (Contains retired limbo_f) × (limbo_f.entry ≡ r.entry)
          f_is = let u = file_is q.entry.part.start r within behind in (u.1, u.2)

          f_in : Contains back limbo_f
          f_in = f_back q.entry.part.start r within behind

          f_own : limbo_f.entry.series ≡ move.series
          f_own = ap (λ (e : Entry). e.series) f_is.1 ∙ behind.own

          f_holds : (s : Sample) → holds_in s → HoldsMoment limbo_f.entry.part s.t
          f_holds s in_q =
              let at : HoldsMoment limbo_f.entry.part q.entry.part.start = subst (λ (e : Entry). HoldsMoment e.part q.entry.part.start) (sym f_is.1) behind.holds in
              let some = parts.within fine q.entry.part filed.part in
              let nest = nested limbo_f.entry.part q.entry.part.start same (part_of limbo_f f_is.0) (omega arith, some.1) at in
              let low = in_q.0 in
              let high = in_q.1 in
              (omega (arith, nest.0, low), omega (arith, nest.1, high))

          pub some_of_part : (s : Sample) → holds_in s → samples_at back move.series s.t ≡ limbo_f.samples
          some_of_part s in_q = found_at back move.series s.t limbo_f f_in f_own (f_holds s in_q) (λ l l_in own holds. one_of s.t l limbo_f l_in f_in own f_own holds (f_holds s in_q))

          limbo_filed : IsFiled to.0.granularity all.stores.catalogue.rows limbo_f
          limbo_filed = All-contains (IsFiled to.0.granularity all.stores.catalogue.rows) retired limbo_f ((whole.filed to.0 to.1).filed stands) f_is.0

          pub f_end : end_of limbo_f.samples ≡ r.entry.last + 1
          f_end = let ends = limbo_filed.to in sym ends ∙ ap (λ (e : Entry). e.last + 1) f_is.1

          pub f_some : limbo_f.samples ≢ []
          f_some none = cc (sym none ∙ limbo_filed.some)

          -- it begins behind all that is ahead
          pub f_after : n ≤ limbo_f.entry.part.start
          f_after = go (last_of move.pending move.listed) refl last_is behind.behind
            where
              go : (o : Option Entry) → last_of move.pending move.listed ≡ o → IsLastOf (map entry_of (put_all (list_at (from + 1) held) files)) move.series o → IfSome (last_of move.pending move.listed) (λ (e : Entry). e.part.start < r.entry.part.start) → n ≤ limbo_f.entry.part.start
              go None is last less = let none = ap end_after is in omega (arith, none)
              go (Some e) is last less =
                  let x = last_file (with_files (tier (from + 1) held) files) move.series e last in
                  let x_filed = All-contains (IsFiled to.0.granularity held.rows) (put_all (list_at (from + 1) held) files) x.1 (valid.filed.filed stands) (within_row (with_files (tier (from + 1) held) files) move.series x.0 x.1 x.2) in
                  let x_part : IsPart move.granularity x.1.entry.part = subst (λ (g : Granularity). IsPart g x.1.entry.part) to.2 x_filed.part in
                  let start = ap (λ (y : Entry). y.part.start) x.3 in
                  let last_x = ap (λ (y : Entry). y.last) x.3 in
                  let r_start = ap (λ (y : Entry). y.part.start) f_is.1 in
                  let low : e.part.start < r.entry.part.start = subst (λ (o : Option Entry). IfSome o (λ (y : Entry). y.part.start < r.entry.part.start)) is less in
                  let clear = parts_apart move.granularity x.1.entry.part limbo_f.entry.part x_part (part_of limbo_f f_is.0) (omega (arith, low, start, r_start)) in
                  let ends = ends_within to.0.granularity held.rows x.1 x_filed in
                  let n_is = ap end_after is in
                  omega (arith, n_is, last_x, ends, clear)

          pub f_behind : n ≤ r.entry.last + 1
          f_behind =
              let low = f_after in
              let begin = begins_within to.0.granularity all.stores.catalogue.rows limbo_f limbo_filed in
              let f_last = ap (λ (y : Entry). y.last) f_is.1 in
              omega (arith, low, begin, f_last)

          pub passes_if : (s : Sample) → holds_in s → passes back move.series s ≡ nat_le (r.entry.last + 1) s.t
          passes_if s in_q = ap (λ (l : List Sample). nat_le (end_of l) s.t) (some_of_part s in_q) ∙ ap (λ (k : ℕ). nat_le k s.t) f_end

        -- and begins later than all that is ahead
        pub covered_later : IsCovered all.limbo (from + 2) move.series (last_of move.pending move.listed) q.entry → BeginsAt n q.samples
        covered_later covered = go q.samples (recursion_from_All holds_in q.samples filed.inside)
          where
            go : (xs : List Sample) → AllByRecursion holds_in xs → BeginsAt n xs
            go [] inside = tt
            go (s ∷ xs) inside =
                let behind = covered.1.2 in
                let y = limbo_f covered.1.0 covered.1.1 behind in
                let y_is = f_is covered.1.0 covered.1.1 behind in
                let after = f_after covered.1.0 covered.1.1 behind in
                let at : HoldsMoment y.entry.part q.entry.part.start = subst (λ (e : Entry). HoldsMoment e.part q.entry.part.start) (sym y_is.1) behind.holds in
                let low = at.0 in
                let begin = inside.0.0 in
                omega (arith, after, low, begin)

        -- the last sample of a part that none has whole is left in
        last_passes : IsUncovered all.limbo (from + 2) move.series (last_of move.pending move.listed) q.entry → (s : Sample) → holds_in s → n ≤ s.t → s.t ≡ q.entry.last → passes back move.series s ≡ true
        last_passes (inl none) s inside high is_last = ap (λ (l : List Sample). nat_le (end_of l) s.t) (none_of_part none s inside high) ∙ zero_le s.t
          where
            zero_le : (t : ℕ) → nat_le 0 t ≡ true
            zero_le t = grind (arith, nat_tests)
        last_passes (inr (e, (r, within, behind, is_e), less)) s inside high is_last = passes_if r within behind s inside ∙ above (r.entry.last + 1) s.t (let same = ap (λ (y : Entry). y.last) is_e in omega (arith, same, less, is_last))
          where
            above : (k t : ℕ) → k ≤ t → nat_le k t ≡ true
            above k t le = grind (arith, nat_tests, le)

        -- so something is left where something is later
        pub some_left : IsUncovered all.limbo (from + 2) move.series (last_of move.pending move.listed) q.entry → (k : ℕ) → n ≤ k → since k q.samples ≢ [] → past back move.series (since k q.samples) ≢ []
        some_left uncovered k low some none = by_last (last_view q.samples)
          where
            by_last : (q.samples ≡ []) ⊎ ((ys : List Sample) × (s : Sample) × (q.samples ≡ ys ++ s ∷ [])) → ⊥
            by_last (inl empty) = some (ap (since k) empty)
            by_last (inr (ys, s, are)) =
                let to = filed.to in
                let ends : end_of q.samples ≡ s.t + 1 = ap end_of are ∙ end_from-append 0 ys (s ∷ []) in
                let is_last : s.t ≡ q.entry.last = omega (arith, to, ends) in
                let before = before_end 0 q.samples filed.file.rising in
                elim (cases_lt s.t k) [
                  | inl early ↦ some (since_earlier k q.samples (weaker (λ (y : Sample). y.t < end_of q.samples) (λ (y : Sample). y.t < k) (λ y less. omega (arith, less, ends, early)) q.samples before))
                  | inr late ↦
                      let inside = (all_rest holds_in ys (s ∷ []) (subst (AllByRecursion holds_in) are (recursion_from_All holds_in q.samples filed.inside))).0 in
                      let at = last_passes uncovered s inside (omega (arith, low, late)) is_last in
                      let one : since k (s ∷ []) ≡ s ∷ [] = cond-true (nat_le k s.t) (s ∷ []) [] (grind (arith, nat_tests, late)) in
                      let here : past back move.series (since k q.samples) ≡ past back move.series (since k ys) ++ s ∷ [] =
                      ap (λ (l : List Sample). past back move.series (since k l)) are
                      ∙ (ap (past back move.series) (since-append k ys (s ∷ []))
                      ∙ (past_append back move.series (since k ys) (since k (s ∷ [])) ∙ ap (λ (l : List Sample). past back move.series (since k ys) ++ l) (ap (past back move.series) one ∙ cond-true (passes back move.series s) (s ∷ []) [] at))) in
                      not_empty (past back move.series (since k ys)) s (sym here ∙ none)
                ]

        -- a part that a file in limbo has whole is left out
        pub covered_none : IsCovered all.limbo (from + 2) move.series (last_of move.pending move.listed) q.entry → past back move.series q.samples ≡ []
        covered_none covered = past_none back move.series q.samples (both q.samples (recursion_from_All holds_in q.samples filed.inside) (before_end 0 q.samples filed.file.rising))
          where
            r : Retired
            r = covered.1.0

            both : (xs : List Sample) → AllByRecursion holds_in xs → AllByRecursion (λ (s : Sample). s.t < end_of q.samples) xs → AllByRecursion (λ (s : Sample). passes back move.series s ≡ false) xs
            both [] inside before = tt
            both (s ∷ xs) inside before =
                let ends = filed.to in
                let less = before.0 in
                let last = covered.2 in
                let same_last = ap (λ (e : Entry). e.last) covered.1.3 in
                let test : nat_le (r.entry.last + 1) s.t ≡ false = (let low : s.t < r.entry.last + 1 = omega (arith, ends, less, last, same_last) in grind (arith, nat_tests, low)) in
                (passes_if r covered.1.1 covered.1.2 s inside.0 ∙ test, both xs inside.1 before.1)
