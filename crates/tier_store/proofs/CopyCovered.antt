-- Parts of a move that stand whole in limbo are passed: what is left then, how a step ends, and how the move goes back.
use Rattle.std.proofs.Common.{◌≡◌, ◌⊎◌, inl, inr, true, false, Bool, ℕ, zero, suc, List, [], ◌∷◌, ◌++◌, length, map, take, Some, refl, sym, ◌∙◌, ap, subst, arith, ◌≢◌, ◌<◌, ◌≤◌, ◌+◌, drop, Option, append-nil}
use Rattle.std.specs.Prelude.{nat_le, slice_get, IsTrue, nat_eq, All}
use Rattle.std.specs.List.{AllByRecursion}
use Rattle.std.proofs.lemmas.Bool.{cond-false, cond-true, cases_lt, eqb-false, eqb-true}
use Rattle.std.proofs.lemmas.Option.{same_Some}
use Rattle.etl_mover.specs.Move.{Moving, FewPending, IsMove, of_series, StillLists, part_file}
use Rattle.partition_names.specs.declared.part.Part.{Part}
use Rattle.partition_names.specs.Part.{HoldsMoment}
use Rattle.series_model.specs.Series.{since, end_of}
use Rattle.series_model.specs.declared.sample.Sample.{Sample}
use Rattle.series_model.proofs.RisingLists.{since-append}
use Rattle.store_manifest.specs.declared.entry.Entry.{Entry}
use Rattle.durable_write.specs.Held.{Filed, IsFiled, samples_of, entry_of}
use Rattle.durable_write.proofs.Planning.{of_files as of_parts}
use Rattle.tier_store.specs.Stores.{Stores, list_at, tier}
use Rattle.tier_store.specs.Copying.{CopiesBeside, CopiesFurther, PassesParts, left_of, HasLater, IsNextPart, samples_ahead, HasCopiedAll, IsAllLater, PassesRest, with_heads, CopiesNext, IsLeft, MovesOn, SaysCopied, SaysPart}
use Rattle.tier_store.specs.Pinned.{SeenAll}
use Rattle.tier_store.specs.Retiring.{oldest}
use Rattle.tier_store.specs.Reviving.{past, AreCovered, IsCovered, IsUncovered, SaysBehind, free_of}
use Rattle.tier_store.proofs.CopyLimbo.{are_back, back_of, before_it, covered_later, covered_none, passes, past_append, some_left}
use Rattle.std.proofs.lemmas.List.{take_all, length-map}
use Rattle.std.proofs.lemmas.List.Elements.{recursion_from_All, All-from_recursion}
use Rattle.etl_mover.specs.Copying.{last_of}
use Rattle.partition_names.specs.declared.granularity.Granularity.{Granularity}
use Rattle.pb_lines.proofs.FileLines.{all_rest}
use Rattle.store_manifest.specs.Manifest.{ManifestState}
use Rattle.durable_write.specs.Flush.{PlacesRise, put_all}
use Rattle.durable_write.specs.Stored.{AreHeld}
use Rattle.durable_write.specs.Plan.{of_row}
use Rattle.durable_write.proofs.Staying.{same_cases}
use Rattle.tier_store.specs.Change.{Has}
use Rattle.tier_store.specs.Copied.{end_after}
use Rattle.tier_store.specs.Limbo.{LimboStands}
use Rattle.tier_store.specs.Revival.{AreWhole}
use Rattle.tier_store.proofs.CopyLeft.{IsOfRowIn, first_files, later_all, later_left, rise_rest, rise_row, since_earlier, splits_here, weaker}
use Rattle.tier_store.proofs.CopySteps.{B, Turn, turn, moves_none}
use Rattle.tier_store.proofs.CopyParts.{enough, entry_here, filed_here, further, in_list, next_file, next_found, next_part, q_filed, q_series, runs_by, some_at, source}
use Rattle.tier_store.proofs.Showing.{from_filter}
use Rattle.tier_store.specs.Finding.{BeginsAt}
use Rattle.durable_write.proofs.Commits.{filter-map}
use Rattle.tier_store.specs.declared.copying.CopyEnd.{CopyEnd}
use Rattle.tier_store.specs.declared.copying.CopyEnd.TheVariants as ends

-- GOING BACK

-- the part at the same place
part_there : (xs ys : List Entry) (k : ℕ) (p : Entry) → map (λ (e : Entry). e.part) xs ≡ map (λ (e : Entry). e.part) ys → slice_get ys k ≡ Some p → (r : Entry) × (slice_get xs k ≡ Some r) × (r.part ≡ p.part)
part_there xs [] k p same here = absurd (cc (here))
part_there [] (y ∷ ys) k p same here = absurd (cc (same))
part_there (x ∷ xs) (y ∷ ys) zero p same here = let one : x.part ≡ y.part = cc (same) in (x, refl, one ∙ ap (λ (e : Entry). e.part) (same_Some y p here))
part_there (x ∷ xs) (y ∷ ys) (suc k) p same here = part_there xs ys k p (cc (same)) here

pub went_back : (from : ℕ) (tells : Bool) (all new : SeenAll) (move mid m : Moving) (files : List Filed) (held : Stores) → m ≡ record mid { at = move.at } → PassesParts move mid → take move.at mid.parts ≡ take move.at move.parts → map (λ (e : Entry). e.part) mid.parts ≡ map (λ (e : Entry). e.part) move.parts → CopiesBeside from tells all move files held → CopiesFurther from tells new mid files held → CopiesBeside from tells new m files held
went_back from tells all new move mid m files held m_is passes fronts same is then = subst (λ (x : Moving). CopiesBeside from tells new x files held) (sym m_is) back
  where
    pending : mid.pending ≡ move.pending
    pending = ap (λ (x : Moving). x.pending) passes.is

    series : mid.series ≡ move.series
    series = ap (λ (x : Moving). x.series) passes.is

    most : FewPending (record mid { at = move.at })
    most = elim is.runs.running.most [
      | inl few ↦ inl (let long = ap length pending in omega (arith, few, long))
      | inr (one, next) ↦
          let there = part_there mid.parts move.parts move.at next.part same next.next in
          inr (let long = ap length pending in omega (arith, one, long), record { rest = next.rest; entry = next.entry; part = there.0; are = pending ∙ next.are; next = there.1; holds = subst (λ (p : Part). HoldsMoment next.entry.part p.start) (sym there.2) next.holds })
    ]

    running : IsMove then.runs.fine (record mid { at = move.at })
    running = record {
      nested = then.runs.running.nested;
      parts = then.runs.running.parts;
      in_order = then.runs.running.in_order;
      few = then.runs.running.few;
      at = let high = is.runs.running.at in let long = passes.long in omega (arith, high, long);
      pending = then.runs.running.pending;
      most = most;
      listed = then.runs.running.listed;
      files = then.runs.running.files;
    }

    back : CopiesBeside from tells new (record mid { at = move.at }) files held
    back = record {
      runs = runs_by (from + 1) tells new new mid (record mid { at = move.at }) files files held refl refl then.runs running (λ x are. let was = then.runs.parts x are in record { now = was.now; others = was.others; entries = was.entries; parts = was.parts }) (λ some. then.left) then.runs.pending then.runs.ahead;
      stage = then.stage;
      left = λ all_at. is.left (let long = passes.long in omega (arith, all_at, long));
      heads = then.heads;
      lengths = ap (λ (k : ℕ). map (λ (f : Filed). f.entry.len) (oldest from k move.at held)) series ∙ (is.lengths ∙ ap (map (λ (e : Entry). e.len)) (sym fronts));
      last = then.last;
      passed = λ stands. ap (λ (x : Moving). left_of from x move.at files held) passes.is ∙ is.passed stands;
      told = is.told;
    }

-- WHAT IS PASSED

-- nothing that is left out is left later
past_since_none : (back : List Filed) (row n : ℕ) (xs : List Sample) → past back row xs ≡ [] → past back row (since n xs) ≡ []
past_since_none back row n [] none = refl
past_since_none back row n (s ∷ xs) none = by_test (past_since_none back row n xs) (passes back row s) refl (nat_le n s.t) refl
  where
    by_test : (past back row xs ≡ [] → past back row (since n xs) ≡ []) → (b : Bool) → passes back row s ≡ b → (d : Bool) → nat_le n s.t ≡ d → past back row (since n (s ∷ xs)) ≡ []
    by_test rest true is d low = absurd (let no : s ∷ past back row xs ≡ [] = sym (cond-true (passes back row s) (s ∷ past back row xs) (past back row xs) is) ∙ none in cc (no))
    by_test rest false is true low =
        ap (past back row) (cond-true (nat_le n s.t) (s ∷ since n xs) (since n xs) low)
        ∙ (cond-false (passes back row s) (s ∷ past back row (since n xs)) (past back row (since n xs)) is ∙ rest (sym (cond-false (passes back row s) (s ∷ past back row xs) (past back row xs) is) ∙ none))
    by_test rest false is false low =
        ap (past back row) (cond-false (nat_le n s.t) (s ∷ since n xs) (since n xs) low) ∙ rest (sym (cond-false (passes back row s) (s ∷ past back row xs) (past back row xs) is) ∙ none)

-- files of which nothing is left, or all is in limbo
pub none_of_files : (back : List Filed) (row n : ℕ) (fs : List Filed) → AllByRecursion (λ (f : Filed). (since n f.samples ≡ []) ⊎ (past back row f.samples ≡ [])) fs → past back row (since n (of_parts fs)) ≡ []
none_of_files back row n [] all = refl
none_of_files back row n (f ∷ fs) all =
    ap (past back row) (since-append n f.samples (of_parts fs))
    ∙ (past_append back row (since n f.samples) (since n (of_parts fs))
    ∙ (ap (λ (l : List Sample). l ++ past back row (since n (of_parts fs))) (first all.0) ∙ none_of_files back row n fs all.1))
  where
    first : (since n f.samples ≡ []) ⊎ (past back row f.samples ≡ []) → past back row (since n f.samples) ≡ []
    first (inl none) = ap (past back row) none
    first (inr none) = past_since_none back row n f.samples none

-- LISTS

pub all_take : (P : Filed → Type 0) (k : ℕ) (xs : List Filed) → ((i : ℕ) (f : Filed) → i < k → slice_get xs i ≡ Some f → P f) → AllByRecursion P (take k xs)
all_take P zero xs each = tt
all_take P (suc k) [] each = tt
all_take P (suc k) (x ∷ xs) each = (each 0 x (omega arith) refl, all_take P k xs (λ i f low here. each (suc i) f (omega (arith, low)) here))

pub all_at : (P : Filed → Type 0) (k : ℕ) (xs : List Filed) → AllByRecursion P (take k xs) → (i : ℕ) (f : Filed) → i < k → slice_get xs i ≡ Some f → P f
all_at P zero xs all i f low here = absurd (omega (arith, low))
all_at P (suc k) [] all i f low here = absurd (cc (here))
all_at P (suc k) (x ∷ xs) all zero f low here = subst P (same_Some x f here) all.0
all_at P (suc k) (x ∷ xs) all (suc i) f low here = all_at P k xs all.1 i f (omega (arith, low)) here

all_behind : (P : Filed → Type 0) (k : ℕ) (xs : List Filed) → AllByRecursion P (drop (suc k) xs) → (i : ℕ) (f : Filed) → k < i → slice_get xs i ≡ Some f → P f
all_behind P k [] all i f low here = absurd (cc (here))
all_behind P k (x ∷ xs) all zero f low here = absurd (omega (arith, low))
all_behind P zero (x ∷ xs) all (suc i) f low here = every xs all i here
  where
    every : (ys : List Filed) → AllByRecursion P ys → (j : ℕ) → slice_get ys j ≡ Some f → P f
    every [] all j here = absurd (cc (here))
    every (y ∷ ys) all zero here = subst P (same_Some y f here) all.0
    every (y ∷ ys) all (suc j) here = every ys all.1 j here
all_behind P (suc k) (x ∷ xs) all (suc i) f low here = all_behind P k xs all i f (omega (arith, low)) here

pub each_none : (n : ℕ) (fs : List Filed) → since n (of_parts fs) ≡ [] → AllByRecursion (λ (f : Filed). since n f.samples ≡ []) fs
each_none n [] none = tt
each_none n (f ∷ fs) none = both (since n f.samples) (since n (of_parts fs)) (sym (since-append n f.samples (of_parts fs)) ∙ none) (each_none n fs)
  where
    both : (xs ys : List Sample) → xs ++ ys ≡ [] → (ys ≡ [] → AllByRecursion (λ (f : Filed). since n f.samples ≡ []) fs) → (xs ≡ []) × AllByRecursion (λ (f : Filed). since n f.samples ≡ []) fs
    both [] ys is rest = (refl, rest is)
    both (x ∷ xs) ys is rest = absurd (cc (is))

module _ (tells : Bool) (all : SeenAll) (from : ℕ) (move mid : Moving) (files : List Filed) (held : Stores) (has : Has tells all.stores held) (is : CopiesBeside from tells all move files held) (is_mid : CopiesFurther from tells all mid files held) (passes : PassesParts move mid) (stand : LimboStands all.stores all.limbo) (retired : List Filed) (whole : AreWhole (from + 1) tells all.stores all.limbo held.stands retired)
    (m : ManifestState) (here : slice_get all.stores.manifests from ≡ Some m) (covered : AreCovered all.limbo (from + 2) move (of_series move.series m.entries) move.at mid.at) where
  abbrev row_files : List Filed
  row_files = of_row move.series (list_at from held)

  same_series : mid.series ≡ move.series
  same_series = ap (λ (x : Moving). x.series) passes.is

  listed : (i : ℕ) (f : Filed) → slice_get row_files i ≡ Some f → slice_get (of_series move.series m.entries) i ≡ Some f.entry
  listed = entry_here tells all from move files held has (further from tells all move files held is) m here

  -- what is said by the move is said by the one that has passed parts
  uncovered_mid : (q : Filed) → IsNextPart from mid held q → mid.at < length move.files → IsUncovered all.limbo (from + 2) mid.series (last_of mid.pending mid.listed) q.entry
  uncovered_mid q next low = subst (λ (x : Moving). IsUncovered all.limbo (from + 2) x.series (last_of x.pending x.listed) q.entry) (sym passes.is)
      (covered.next q.entry low (listed mid.at q (ap (λ (k : ℕ). slice_get (of_row k (list_at from held)) mid.at) (sym same_series) ∙ next.here)))

  module _ (stands : IsTrue held.stands) where
    skipped_mid : (q : Filed) (q_next : IsNextPart from mid held q) (part : Entry) (at_hand : slice_get mid.parts mid.at ≡ Some part) → past (B tells all from mid files held has is_mid stand retired whole stands q q_next part at_hand) mid.series (left_of from mid mid.at files held) ≡ []
    skipped_mid q q_next part at_hand = none_of_files back mid.series n (oldest from mid.series mid.at held) (subst (λ (k : ℕ). AllByRecursion Left (take mid.at (of_row k (list_at from held)))) (sym same_series) (all_take Left mid.at row_files each))
      where
        back : List Filed
        back = B tells all from mid files held has is_mid stand retired whole stands q q_next part at_hand

        n : ℕ
        n = end_of (samples_ahead (from + 1) mid files held)

        Left : Filed → Type 0
        Left f = (since n f.samples ≡ []) ⊎ (past back mid.series f.samples ≡ [])

        n_same : end_of (samples_ahead (from + 1) move files held) ≡ n
        n_same = ap (λ (k : ℕ). end_of (samples_of k (put_all (list_at (from + 1) held) files))) (sym same_series)

        each : (i : ℕ) (f : Filed) → i < mid.at → slice_get row_files i ≡ Some f → Left f
        each i f low at = elim (cases_lt i move.at) [
          | inl before ↦ inl (subst (λ (k : ℕ). since k f.samples ≡ []) n_same (all_at (λ (x : Filed). since (end_of (samples_ahead (from + 1) move files held)) x.samples ≡ []) move.at row_files (each_none (end_of (samples_ahead (from + 1) move files held)) (take move.at row_files) (is.passed stands)) i f before at))
          | inr behind ↦
              let e = covered.each i f.entry behind low (listed i f at) in
              inr (covered_none tells all from mid files held has is_mid.runs is_mid.last stand retired whole stands is_mid.runs.fine f (filed_here tells all from mid files held has is_mid stands i f (ap (λ (k : ℕ). slice_get (of_row k (list_at from held)) i) same_series ∙ at)) refl (subst (λ (x : Moving). IsCovered all.limbo (from + 2) x.series (last_of x.pending x.listed) f.entry) (sym passes.is) e))
        ]

    -- something of the part is later, since something of the first one is
    later_mid : move.at ≤ mid.at → HasLater from move held → (q : Filed) → IsNextPart from mid held q → since (end_after (last_of mid.pending mid.listed)) q.samples ≢ []
    later_mid low later q next = subst (λ (k : ℕ). since k q.samples ≢ []) (sym (ap (λ (x : Moving). end_after (last_of x.pending x.listed)) passes.is)) (by_place (same_cases move.at mid.at))
      where
        q_at : slice_get row_files mid.at ≡ Some q
        q_at = ap (λ (k : ℕ). slice_get (of_row k (list_at from held)) mid.at) (sym same_series) ∙ next.here

        by_place : (move.at ≡ mid.at) ⊎ (move.at ≢ mid.at) → since (end_after (last_of move.pending move.listed)) q.samples ≢ []
        by_place (inl same) = later q (record { here = ap (slice_get row_files) same ∙ q_at; within = from_filter (λ (x : Filed). nat_eq x.entry.series move.series) (list_at from held) q (in_list row_files mid.at q q_at) })
        by_place (inr apart) =
            let first = next_file tells all from move files held has (further from tells all move files held is) in
            let part = next_part tells all from move files held has (further from tells all move files held is) in
            let q0 = first.0 in
            let filed = q_filed tells all from move files held has (further from tells all move files held is) q0 first.1 part.0 part.1 stands in
            let own = source tells all from move files held has (further from tells all move files held is) in
            let split = splits_here row_files move.at q0 first.1.here in
            let known = (has.known.each from own.0 own.1).valid in
            let rise = rise_rest split.front (q0 ∷ split.back) (subst PlacesRise split.are (rise_row move.series (list_at from held) known.apart)) in
            let ends = until is.runs.fine q0 filed (later q0 first.1) in
            let behind = later_all own.0.granularity held.rows move.series q0 split.back (end_after (last_of move.pending move.listed)) (subst (λ (g : Granularity). IsFiled g held.rows q0) (sym own.2) filed, q_series tells all from move files held has (further from tells all move files held is) q0 first.1) ends rise (rows_behind own.0.granularity known split.back split.front q0 split.are) in
            all_behind (λ (f : Filed). since (end_after (last_of move.pending move.listed)) f.samples ≢ []) move.at row_files (subst (AllByRecursion (λ (f : Filed). since (end_after (last_of move.pending move.listed)) f.samples ≢ [])) (sym split.behind) (later_left (end_after (last_of move.pending move.listed)) split.back behind)) mid.at q (omega (arith, low, apart)) q_at
          where
            until : (g : Granularity) (f : Filed) → IsFiled g held.rows f → since (end_after (last_of move.pending move.listed)) f.samples ≢ [] → end_after (last_of move.pending move.listed) ≤ f.entry.part.end
            until g f filed some = elim (cases_lt f.entry.part.end (end_after (last_of move.pending move.listed))) [
              | inr le ↦ le
              | inl less ↦ absurd (some (since_earlier (end_after (last_of move.pending move.listed)) f.samples (weaker (λ s. HoldsMoment f.entry.part s.t) (λ s. s.t < end_after (last_of move.pending move.listed)) (λ s inside. let high = inside.1 in omega (arith, high, less)) f.samples (recursion_from_All (λ (s : Sample). HoldsMoment f.entry.part s.t) f.samples filed.inside))))
            ]

            rows_behind : (g : Granularity) → AreHeld g (tier from held) → (back front : List Filed) (q0 : Filed) → row_files ≡ front ++ q0 ∷ back → AllByRecursion (IsOfRowIn g held.rows move.series) back
            rows_behind g known back front q0 are =
                let whole_row = first_files g held.rows move.series (length row_files) (list_at from held) (known.filed.filed stands) in
                let all_row = subst (AllByRecursion (IsOfRowIn g held.rows move.series)) (take_all (length row_files) row_files (omega arith) ∙ are) whole_row in
                (all_rest (IsOfRowIn g held.rows move.series) front (q0 ∷ back) all_row).1

  -- so it can be copied from, with the file in limbo that was found for it
  pub turn_mid : (most : ℕ) → mid.at < length move.files → (IsTrue held.stands → HasLater from move held) → (o : Option Entry) → o ≡ slice_get (of_series mid.series m.entries) mid.at → (e : Entry) → o ≡ Some e → (revived : Option Entry) → SaysBehind all.limbo (from + 2) mid.series (last_of mid.pending mid.listed) e.part.start revived
      → Turn tells all from mid files retired held revived most
  turn_mid most low later o is_o e found revived says =
      let q = next_found tells all from mid files held has is_mid m here o is_o e found in
      let part = next_part tells all from mid files held has is_mid in
      turn tells all from mid files held has is_mid stand retired whole q.0 q.1 part.0 part.1 most (uncovered_mid q.0 q.1 low) (λ stands. later_mid stands covered.low (later stands) q.0 q.1) (λ stands. skipped_mid stands q.0 q.1 part.0 part.1)
      revived (subst (λ (x : Entry). SaysBehind all.limbo (from + 2) mid.series (last_of mid.pending mid.listed) x.part.start revived) q.2 says)

-- LISTS WITH THE HEADERS' LENGTHS

heads_front : (n : ℕ) (es : List Entry) → take n (with_heads n es) ≡ take n es
heads_front zero es = refl
heads_front (suc n) [] = refl
heads_front (suc n) (e ∷ es) = ap (λ (l : List Entry). e ∷ l) (heads_front n es)

heads_len : (es : List Entry) → map (λ (e : Entry). e.len) (map (λ (e : Entry). record e { len = e.head_len }) es) ≡ map (λ (e : Entry). e.head_len) es
heads_len [] = refl
heads_len (e ∷ es) = ap (λ (l : List ℕ). e.head_len ∷ l) (heads_len es)

heads_rest : (n : ℕ) (es : List Entry) → map (λ (e : Entry). e.len) (drop n (with_heads n es)) ≡ map (λ (e : Entry). e.head_len) (drop n es)
heads_rest zero es = heads_len es
heads_rest (suc n) [] = refl
heads_rest (suc n) (e ∷ es) = heads_rest n es

pub heads_long : (n : ℕ) (es : List Entry) → length (with_heads n es) ≡ length es
heads_long zero [] = refl
heads_long zero (e ∷ es) = ap suc (heads_long zero es)
heads_long (suc n) [] = refl
heads_long (suc n) (e ∷ es) = ap suc (heads_long n es)

heads_part : (n : ℕ) (es : List Entry) → map (λ (e : Entry). e.part) (with_heads n es) ≡ map (λ (e : Entry). e.part) es
heads_part zero [] = refl
heads_part zero (e ∷ es) = ap (λ (l : List Part). e.part ∷ l) (heads_part zero es)
heads_part (suc n) [] = refl
heads_part (suc n) (e ∷ es) = ap (λ (l : List Part). e.part ∷ l) (heads_part n es)

drop_heads : (n : ℕ) (fs : List Filed) (es : List Entry) → map (λ (f : Filed). f.entry.head_len) fs ≡ map (λ (e : Entry). e.head_len) es → map (λ (f : Filed). f.entry.head_len) (drop n fs) ≡ map (λ (e : Entry). e.head_len) (drop n es)
drop_heads zero fs es same = same
drop_heads (suc n) [] [] same = refl
drop_heads (suc n) [] (e ∷ es) same = absurd (cc (same))
drop_heads (suc n) (f ∷ fs) [] same = absurd (cc (same))
drop_heads (suc n) (f ∷ fs) (e ∷ es) same = drop_heads n fs es (cc (same))

each_past : (back : List Filed) (row k : ℕ) (fs : List Filed) → past back row (since k (of_parts fs)) ≡ [] → AllByRecursion (λ (x : Filed). past back row (since k x.samples) ≡ []) fs
each_past back row k [] none = tt
each_past back row k (f ∷ fs) none = both (past back row (since k f.samples)) (past back row (since k (of_parts fs))) (sym (ap (past back row) (since-append k f.samples (of_parts fs)) ∙ past_append back row (since k f.samples) (since k (of_parts fs))) ∙ none) (each_past back row k fs)
  where
    both : (xs ys : List Sample) → xs ++ ys ≡ [] → (ys ≡ [] → AllByRecursion (λ (x : Filed). past back row (since k x.samples) ≡ []) fs) → (xs ≡ []) × AllByRecursion (λ (x : Filed). past back row (since k x.samples) ≡ []) fs
    both [] ys is rest = (refl, rest is)
    both (x ∷ xs) ys is rest = absurd (cc (is))

all_drop : (P : Filed → Type 0) (i n : ℕ) (xs : List Filed) → ((j : ℕ) (f : Filed) → i ≤ j → j < n → slice_get xs j ≡ Some f → P f) → AllByRecursion P (drop i (take n xs))
all_drop P zero zero xs each = tt
all_drop P zero (suc n) [] each = tt
all_drop P zero (suc n) (x ∷ xs) each = (each 0 x (omega arith) (omega arith) refl, all_drop P zero n xs (λ j f low high at. each (suc j) f (omega arith) (omega (arith, high)) at))
all_drop P (suc i) zero xs each = tt
all_drop P (suc i) (suc n) [] each = tt
all_drop P (suc i) (suc n) (x ∷ xs) each = all_drop P i n xs (λ j f low high at. each (suc j) f (omega (arith, low)) (omega (arith, high)) at)

-- THE MOVE THEN

pub rest_copied : (from : ℕ) (tells : Bool) (all : SeenAll) (move new : Moving) (files : List Filed) (held : Stores) → (is : CopiesBeside from tells all move files held) → PassesRest move new → IsMove is.runs.fine new → (IsTrue held.stands → All (IsAllLater (from + 1) move files held) (drop move.at (oldest from move.series (length move.parts) held))) → HasCopiedAll from tells all new files held
rest_copied from tells all move new files held is same run later = subst (λ (x : Moving). HasCopiedAll from tells all x files held) (sym same) done
  where
    m : Moving
    m = record move { parts = with_heads move.at move.parts; at = length move.parts }

    abbrev_long : length (with_heads move.at move.parts) ≡ length move.parts
    abbrev_long = heads_long move.at move.parts

    lists : (x : ManifestState) → x.entries ≡ map entry_of (list_at is.runs.from held) → StillLists m x
    lists x are = let was = is.runs.parts x are in record { now = was.now; others = was.others; entries = was.entries; parts = was.parts ∙ sym (heads_part move.at move.parts) }

    done : HasCopiedAll from tells all m files held
    done = record {
      runs = runs_by (from + 1) tells all all move m files files held refl refl is.runs (subst (IsMove is.runs.fine) same run) lists (λ left. absurd (left (sym abbrev_long))) is.runs.pending is.runs.ahead;
      stage = is.stage;
      all_copied = sym abbrev_long;
      parts = record {
        whole = move.at;
        most = let high = is.runs.running.at in let long = abbrev_long in omega (arith, high, long);
        lengths = is.lengths ∙ ap (map (λ (e : Entry). e.len)) (sym (heads_front move.at move.parts));
        heads = ap (λ (k : ℕ). map (λ (f : Filed). f.entry.head_len) (drop move.at (oldest from move.series k held))) abbrev_long ∙ (drop_heads move.at (oldest from move.series (length move.parts) held) move.parts is.heads ∙ sym (heads_rest move.at move.parts));
        none_left = is.passed;
        later = λ stands. subst (λ (k : ℕ). All (IsAllLater (from + 1) move files held) (drop move.at (oldest from move.series k held))) (sym abbrev_long) (later stands);
      };
    }

-- WHAT IS LEFT THEN

module _ (tells : Bool) (all : SeenAll) (from : ℕ) (move : Moving) (files : List Filed) (held : Stores) (has : Has tells all.stores held) (is : CopiesFurther from tells all move files held) (stand : LimboStands all.stores all.limbo) (retired : List Filed) (whole : AreWhole (from + 1) tells all.stores all.limbo held.stands retired) (stands : IsTrue held.stands)
    (m : ManifestState) (here : slice_get all.stores.manifests from ≡ Some m) where
  abbrev own_files : List Filed
  own_files = of_row move.series (list_at from held)

  -- nothing is left of parts that are copied, or stand whole in limbo
  pub none_from : (k i n : ℕ) → since k (of_parts (take i own_files)) ≡ [] → ((j : ℕ) (e : Entry) → i ≤ j → j < n → slice_get (of_series move.series m.entries) j ≡ Some e → IsCovered all.limbo (from + 2) move.series (last_of move.pending move.listed) e)
      → past (free_of (put_all (list_at (from + 1) held) files) retired) move.series (since k (of_parts (take n own_files))) ≡ []
  none_from k i n passed covered = none_of_files back move.series k (take n own_files) (all_take Left n own_files each)
    where
      back : List Filed
      back = free_of (put_all (list_at (from + 1) held) files) retired

      Left : Filed → Type 0
      Left f = (since k f.samples ≡ []) ⊎ (past back move.series f.samples ≡ [])

      each : (j : ℕ) (f : Filed) → j < n → slice_get own_files j ≡ Some f → Left f
      each j f low at = elim (cases_lt j i) [
        | inl before ↦ inl (all_at (λ (x : Filed). since k x.samples ≡ []) i own_files (each_none k (take i own_files) passed) j f before at)
        | inr behind ↦ inr (covered_none tells all from move files held has is.runs is.last stand retired whole stands is.runs.fine f (filed_here tells all from move files held has is stands j f at) refl (covered j f.entry behind low (entry_here tells all from move files held has is m here j f at)))
      ]

  N_is : end_after (last_of move.pending move.listed) ≡ end_of (samples_ahead (from + 1) move files held)
  N_is = before_it tells all from move files held has is.runs is.last stand retired whole stands

  -- something is left where one doesn't
  pub some_from : (k n j : ℕ) (q : Filed) → end_of (samples_ahead (from + 1) move files held) ≤ k → j < n → slice_get own_files j ≡ Some q → IsUncovered all.limbo (from + 2) move.series (last_of move.pending move.listed) q.entry → since k q.samples ≢ []
      → past (free_of (put_all (list_at (from + 1) held) files) retired) move.series (since k (of_parts (take n own_files))) ≢ []
  some_from k n j q low few at uncovered some none =
      some_left tells all from move files held has is.runs is.last stand retired whole stands is.runs.fine q (filed_here tells all from move files held has is stands j q at) refl uncovered k (omega (arith, low, N_is)) some
      (all_at (λ (x : Filed). past (free_of (put_all (list_at (from + 1) held) files) retired) move.series (since k x.samples) ≡ []) n own_files (each_past (free_of (put_all (list_at (from + 1) held) files) retired) move.series k (take n own_files) none) j q few at)

  -- parts that stand whole in limbo begin later than all that is ahead
  pub later_from : (i n : ℕ) → ((j : ℕ) (e : Entry) → i ≤ j → j < n → slice_get (of_series move.series m.entries) j ≡ Some e → IsCovered all.limbo (from + 2) move.series (last_of move.pending move.listed) e) → All (IsAllLater (from + 1) move files held) (drop i (take n own_files))
  later_from i n covered = All-from_recursion (IsAllLater (from + 1) move files held) (drop i (take n own_files)) (all_drop (IsAllLater (from + 1) move files held) i n own_files (λ j f low high at.
      subst (λ (k : ℕ). BeginsAt k f.samples) N_is (covered_later tells all from move files held has is.runs is.last stand retired whole stands is.runs.fine f (filed_here tells all from move files held has is stands j f at) refl (covered j f.entry low high (entry_here tells all from move files held has is m here j f at)))))

-- of all files from one on this is true of each
from_all : (P : Filed → Type 0) (i n : ℕ) (xs : List Filed) → AllByRecursion P (drop i (take n xs)) → (j : ℕ) (f : Filed) → i ≤ j → j < n → slice_get xs j ≡ Some f → P f
from_all P i n [] all j f low high at = absurd (cc (at))
from_all P i zero (x ∷ xs) all j f low high at = absurd (omega (arith, high))
from_all P zero (suc n) (x ∷ xs) all zero f low high at = subst P (same_Some x f at) all.0
from_all P zero (suc n) (x ∷ xs) all (suc j) f low high at = from_all P zero n xs all.1 j f (omega arith) (omega (arith, high)) at
from_all P (suc i) (suc n) (x ∷ xs) all zero f low high at = absurd (omega (arith, low))
from_all P (suc i) (suc n) (x ∷ xs) all (suc j) f low high at = from_all P i n xs all j f (omega (arith, low)) (omega (arith, high)) at

-- WHAT MAY HAVE CHANGED OF THE MOVE

pub moves_rest : (old new : Moving) → PassesRest old new → MovesOn old new
moves_rest old new rest = record {
  is = rest ∙ sym (ap (λ (x : Moving). record old { parts = x.parts; at = x.at; pending = x.pending }) rest);
  long = ap (λ (x : Moving). length x.parts) rest ∙ heads_long old.at old.parts;
}

pub moves_twice : (old mid new : Moving) → MovesOn old mid → MovesOn mid new → MovesOn old new
moves_twice old mid new one two = record {
  is = two.is ∙ ap (λ (x : Moving). record x { parts = new.parts; at = new.at; pending = new.pending }) one.is;
  long = two.long ∙ one.long;
}

-- how a step ends leaves all else of the move
pub moves_ended : (k : ℕ) (rest_covered : Bool) (mid final : Moving) (r end : CopyEnd)
    → (end ≡ ends.More → rest_covered ≡ true → k < mid.at → (r ≡ ends.Copied) × PassesRest mid final)
    → (end ≡ ends.More → (rest_covered ≡ true → k < mid.at → ⊥) → (r ≡ ends.More) × (final ≡ mid))
    → ((end ≡ ends.More → ⊥) → (r ≡ end) × (final ≡ mid))
    → MovesOn mid final
moves_ended k rest_covered mid final r end passed unended other = by_end end refl
  where
    same : final ≡ mid → MovesOn mid final
    same is = subst (MovesOn mid) (sym is) (moves_none mid)

    by_test : end ≡ ends.More → (t : Bool) → rest_covered ≡ t → MovesOn mid final
    by_test more false is = same (unended more (λ yes beyond. cc (is, yes))).1
    by_test more true is = elim (cases_lt k mid.at) [
      | inl beyond ↦ moves_rest mid final (passed more is beyond).1
      | inr before ↦ same (unended more (λ yes beyond. omega (arith, before, beyond))).1
    ]

    by_end : (e : CopyEnd) → end ≡ e → MovesOn mid final
    by_end ends.More is = by_test is rest_covered refl
    by_end ends.Copied is = same (other (λ more. cc (is, more))).1
    by_end (ends.Damaged name at) is = same (other (λ more. cc (is, more))).1

zero_least : (n : ℕ) → 0 ≤ n
zero_least n = omega arith

-- THE PARTS

-- there is a file for each part
pub kept_long : (fine : Granularity) (move : Moving) → IsMove fine move → length move.files ≡ length move.parts
kept_long fine move run = ap length run.files ∙ length-map move.parts (part_file move.source move.name)

-- and the move's own store lists as many
pub listed_all : (tells : Bool) (all : SeenAll) (from : ℕ) (move : Moving) (files : List Filed) (held : Stores) → Has tells all.stores held → CopiesFurther from tells all move files held → (m : ManifestState) → slice_get all.stores.manifests from ≡ Some m → length move.files ≤ length (of_series move.series m.entries)
listed_all tells all from move files held has is m here =
    let same = ap (λ (es : List Entry). length (of_series move.series es)) (has.known.each from m here).entries ∙ (ap length (filter-map (λ (e : Entry). nat_eq e.series move.series) (list_at from held)) ∙ length-map (of_row move.series (list_at from held)) entry_of) in
    let long = enough tells all from move files held has is in
    let kept = kept_long is.runs.fine move is.runs.running in
    omega (arith, same, long, kept)

-- whether all parts behind one are covered
pub test_true : (b p n : ℕ) → p ≡ n → nat_eq b p ≡ true → b ≡ n
test_true b p n same is = eqb-true b p is ∙ same

pub test_false : (b p n : ℕ) → p ≡ n → nat_eq b p ≡ false → b ≢ n
test_false b p n same is all = eqb-false b p is (all ∙ sym same)

-- HOW IT ENDS

module _ (tells : Bool) (all : SeenAll) (from : ℕ) (move : Moving) (files : List Filed) (held : Stores) (has : Has tells all.stores held) (is : CopiesBeside from tells all move files held) (stand : LimboStands all.stores all.limbo) (retired : List Filed) (whole : AreWhole (from + 1) tells all.stores all.limbo held.stands retired)
    (m : ManifestState) (here : slice_get all.stores.manifests from ≡ Some m) (k : ℕ) (covered : AreCovered all.limbo (from + 2) move (of_series move.series m.entries) move.at k) where
  abbrev move_files : List Filed
  move_files = of_row move.series (list_at from held)

  abbrev ahead : List Filed
  ahead = put_all (list_at (from + 1) held) files

  files_long : length move.files ≡ length move.parts
  files_long = kept_long is.runs.fine move is.runs.running

  -- each part that is left stands whole in limbo
  pub covers_all : k ≡ length move.parts → (final : Moving) → PassesRest move final → IsMove is.runs.fine final → (most : ℕ) → SaysCopied most from tells all retired move final files held ends.Copied
  covers_all all_of final rest run most = (
    files,
    rest_copied from tells all move final files held is rest run (λ stands. later_from tells all from move files held has (further from tells all move files held is) stand retired whole stands m here move.at (length move.parts) each),
    λ stands. (
      [],
      record {
        back = back_of tells all from move files held has is.runs is.last stand retired whole;
        in_limbo = are_back tells all from move files held has is.runs is.last stand retired whole;
        left = none_from tells all from move files held has (further from tells all move files held is) stand retired whole stands m here (end_of (samples_ahead (from + 1) move files held)) move.at (length move.parts) (is.passed stands) each;
        ahead = sym (append-nil (samples_ahead (from + 1) move files held));
        few = inl (zero_least most);
      },
    ),
  )
    where
      each : (j : ℕ) (e : Entry) → move.at ≤ j → j < length move.parts → slice_get (of_series move.series m.entries) j ≡ Some e → IsCovered all.limbo (from + 2) move.series (last_of move.pending move.listed) e
      each j e low high at = covered.each j e low (omega (arith, high, all_of)) at

  module _ (low : k < length move.parts) (b : ℕ) (behind : AreCovered all.limbo (from + 2) move (of_series move.series m.entries) (k + 1) b) (rest_covered : Bool) (to_end : rest_covered ≡ true → b ≡ length move.parts) (not_to_end : rest_covered ≡ false → b ≢ length move.parts)
      (new : SeenAll) (most : ℕ) (mid final : Moving) (moves : MovesOn move mid) (one : mid.at ≤ k + 1) where
    series : mid.series ≡ move.series
    series = ap (λ (x : Moving). x.series) moves.is

    -- what is left of the parts then, by the list of the move's own store
    abbrev left_by : ℕ → List Sample
    left_by n = past (free_of ahead retired) move.series (since n (of_parts (take (length move.parts) move_files)))

    left_is : (more : List Filed) → past (free_of ahead retired) move.series (left_of from mid (length mid.parts) more held) ≡ left_by (end_of (samples_ahead (from + 1) mid more held))
    left_is more =
        ap (λ (n : ℕ). past (free_of ahead retired) move.series (since (end_of (samples_ahead (from + 1) mid more held)) (of_parts (take n (of_row mid.series (list_at from held)))))) moves.long
        ∙ ap (λ (r : ℕ). past (free_of ahead retired) move.series (since (end_of (samples_ahead (from + 1) mid more held)) (of_parts (take (length move.parts) (of_row r (list_at from held)))))) series

    -- nothing is left where all that stands behind the part is covered
    nothing_left : (more : List Filed) → CopiesBeside from tells new mid more held → b ≡ length move.parts → k < mid.at → IsTrue held.stands → past (free_of ahead retired) move.series (left_of from mid (length mid.parts) more held) ≡ []
    nothing_left more is_mid to_it beyond stands =
        left_is more
        ∙ none_from tells all from move files held has (further from tells all move files held is) stand retired whole stands m here (end_of (samples_ahead (from + 1) mid more held)) mid.at (length move.parts)
        (sym (ap (λ (r : ℕ). since (end_of (samples_ahead (from + 1) mid more held)) (of_parts (take mid.at (of_row r (list_at from held))))) series) ∙ is_mid.passed stands)
        (λ j e early late at. behind.each j e (omega (arith, early, beyond)) (omega (arith, late, to_it)) at)

    -- something is left of a part that isn't passed and doesn't stand whole in limbo
    left_at : (more : List Filed) → IsTrue held.stands → All (IsLeft (from + 1) mid more held) (drop mid.at (oldest from mid.series (length mid.parts) held)) → end_of (samples_ahead (from + 1) move files held) ≤ end_of (samples_ahead (from + 1) mid more held)
        → (j : ℕ) → mid.at ≤ j → j < length move.parts → ((e : Entry) → slice_get (of_series move.series m.entries) j ≡ Some e → IsUncovered all.limbo (from + 2) move.series (last_of move.pending move.listed) e) → past (free_of ahead retired) move.series (left_of from mid (length mid.parts) more held) ≢ []
    left_at more stands each further_on j early late uncovered none =
        let long = enough tells all from move files held has (further from tells all move files held is) in
        let q = some_at move_files j (omega (arith, late, long)) in
        let by_row = subst (λ (r : ℕ). AllByRecursion (IsLeft (from + 1) mid more held) (drop mid.at (take (length mid.parts) (of_row r (list_at from held))))) series (recursion_from_All (IsLeft (from + 1) mid more held) (drop mid.at (oldest from mid.series (length mid.parts) held)) each) in
        let by_length = subst (λ (n : ℕ). AllByRecursion (IsLeft (from + 1) mid more held) (drop mid.at (take n move_files))) moves.long by_row in
        let some = from_all (IsLeft (from + 1) mid more held) mid.at (length move.parts) move_files by_length j q.0 early late q.1 in
        some_from tells all from move files held has (further from tells all move files held is) stand retired whole stands m here (end_of (samples_ahead (from + 1) mid more held)) (length move.parts) j q.0 further_on late q.1
        (uncovered q.0.entry (entry_here tells all from move files held has (further from tells all move files held is) m here j q.0 q.1)) some
        (sym (left_is more) ∙ none)

    something_left : (more : List Filed) → IsTrue held.stands → All (IsLeft (from + 1) mid more held) (drop mid.at (oldest from mid.series (length mid.parts) held)) → end_of (samples_ahead (from + 1) move files held) ≤ end_of (samples_ahead (from + 1) mid more held)
        → (rest_covered ≡ true → k < mid.at → ⊥) → past (free_of ahead retired) move.series (left_of from mid (length mid.parts) more held) ≢ []
    something_left more stands each further_on unended = elim (cases_lt k mid.at) [
      | inr not_beyond ↦ left_at more stands each further_on k not_beyond low (λ e at. covered.next e (omega (arith, low, files_long)) at)
      | inl beyond ↦ by_test rest_covered refl beyond
    ]
      where
        by_test : (t : Bool) → rest_covered ≡ t → k < mid.at → past (free_of ahead retired) move.series (left_of from mid (length mid.parts) more held) ≢ []
        by_test true is beyond = absurd (unended is beyond)
        by_test false is beyond = let high = behind.high in let before = behind.low in left_at more stands each further_on b (omega (arith, one, before)) (until high (not_to_end is)) (λ e at. behind.next e (let less = until high (not_to_end is) in omega (arith, less, files_long)) at)
          where
            until : b ≤ length move.files → b ≢ length move.parts → b < length move.parts
            until high apart = omega (arith, high, apart, files_long)

    pub ends_so : (r end : CopyEnd) → SaysPart most from tells new k retired move mid files held end
        → (end ≡ ends.More → rest_covered ≡ true → k < mid.at → (r ≡ ends.Copied) × PassesRest mid final)
        → (end ≡ ends.More → (rest_covered ≡ true → k < mid.at → ⊥) → (r ≡ ends.More) × (final ≡ mid))
        → ((end ≡ ends.More → ⊥) → (r ≡ end) × (final ≡ mid))
        → ((fine : Granularity) → IsMove fine mid → IsMove fine final)
        → SaysCopied most from tells new retired move final files held r
    ends_so r ends.More (more, is_mid, said) passed unended other run = elim (cases_lt k mid.at) [
      | inl beyond ↦ by_test rest_covered refl beyond
      | inr not_beyond ↦ still (λ is beyond. omega (arith, beyond, not_beyond))
    ]
      where
        still : (rest_covered ≡ true → k < mid.at → ⊥) → SaysCopied most from tells new retired move final files held r
        still more_left =
            let two = unended refl more_left in
            subst (λ (x : CopyEnd). SaysCopied most from tells new retired move final files held x) (sym two.0) (
              more,
              subst (λ (x : Moving). CopiesBeside from tells new x more held) (sym two.1) is_mid,
              λ stands. let s = said stands in (s.0, s.1, s.2, s.3, λ none. something_left more stands s.5 s.7 more_left (sym s.4 ∙ none)),
            )

        whole_then : b ≡ length move.parts → rest_covered ≡ true → k < mid.at → SaysCopied most from tells new retired move final files held r
        whole_then to_it is beyond =
            let two = passed refl is beyond in
            subst (λ (x : CopyEnd). SaysCopied most from tells new retired move final files held x) (sym two.0) (
              more,
              rest_copied from tells new mid final more held is_mid two.1 (run is_mid.runs.fine is_mid.runs.running) (λ stands. (said stands).6 beyond),
              λ stands. let s = said stands in (s.0, subst (CopiesNext most from new.limbo retired move files more held s.0) (s.4 ∙ nothing_left more is_mid to_it beyond stands) s.2),
            )

        by_test : (t : Bool) → rest_covered ≡ t → k < mid.at → SaysCopied most from tells new retired move final files held r
        by_test true is beyond = whole_then (to_end is) is beyond
        by_test false is beyond = still (λ yes late. cc (is, yes))
    ends_so r ends.Copied says passed unended other run =
        let two = other (λ no. cc (no)) in
        subst (λ (x : Moving). SaysCopied most from tells new retired move x files held r) (sym two.1) (subst (λ (x : CopyEnd). SaysCopied most from tells new retired move mid files held x) (sym two.0) says)
    ends_so r (ends.Damaged name at) says passed unended other run =
        let two = other (λ no. cc (no)) in
        subst (λ (x : Moving). SaysCopied most from tells new retired move x files held r) (sym two.1) (subst (λ (x : CopyEnd). SaysCopied most from tells new retired move mid files held x) (sym two.0) says)
