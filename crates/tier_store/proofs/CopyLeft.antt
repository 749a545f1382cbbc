-- What is left of a move's parts at a step of copying: the part at hand, those before it and those behind it.
use Rattle.std.proofs.Common.{◌≡◌, ◌≢◌, ℕ, zero, suc, ◌+◌, ◌≤◌, ◌<◌, List, [], ◌∷◌, ◌++◌, length, take, drop, Some, refl, sym, ◌∙◌, ap, subst, arith, append_assoc, append-nil, true, false, Bool, cond}
use Rattle.std.specs.Prelude.{All, nat_eq, nat_le, slice_get}
use Rattle.std.specs.List.{AllByRecursion}
use Rattle.std.proofs.lemmas.Bool.{cond-false, cond-true, eqb-true}
use Rattle.std.proofs.lemmas.Bool.Decides.{nat_tests}
use Rattle.std.proofs.lemmas.List.{length-append, take-append-drop}
use Rattle.std.proofs.lemmas.List.Concat.{flat_map-append}
use Rattle.std.proofs.lemmas.List.Elements.{All-contains, All-filter, All-head, All-tail, Contains-append_right, recursion_from_All}
use Rattle.std.proofs.lemmas.Option.{same_Some}
use Rattle.partition_names.specs.declared.granularity.Granularity.{Granularity}
use Rattle.partition_names.specs.Part.{HoldsMoment}
use Rattle.pb_lines.specs.File.{lines_of}
use Rattle.pb_lines.proofs.FileLines.{all_front, all_rest, lines_of-append}
use Rattle.pv_catalog.specs.declared.row.Row.{Row}
use Rattle.series_model.specs.Series.{RisesFrom, end_from, end_of, since}
use Rattle.series_model.specs.declared.sample.Sample.{Sample}
use Rattle.series_model.proofs.RisingLists.{RisesFrom-front, RisesFrom-rest, end_from-ge, since-append, since-since, since_all, since_none}
use Rattle.durable_write.specs.Flush.{PlacesRise}
use Rattle.durable_write.specs.Held.{Filed, IsFiled}
use Rattle.durable_write.specs.Plan.{of_row}
use Rattle.durable_write.proofs.Places.{All-front, Comes}
use Rattle.durable_write.proofs.Planning.{of_files}
use Rattle.tier_store.specs.Finding.{BeginsAt, SplitsAt}
use Rattle.etl_mover.specs.Copying.{behind}
use Rattle.tier_store.proofs.Lines.{no_length}
use Rattle.tier_store.proofs.Places.{parts_apart}

-- A LIST OF FILES AT A PLACE

pub record SplitsHere (fs : List Filed) (at : ℕ) (q : Filed) : Type 0 where
  pub front : List Filed
  pub back : List Filed
  pub are : fs ≡ front ++ q ∷ back
  pub long : length front ≡ at
  pub taken : take at fs ≡ front
  pub more : take (suc at) fs ≡ front ++ q ∷ []
  pub dropped : drop at fs ≡ q ∷ back
  pub behind : drop (suc at) fs ≡ back

pub splits_here : (fs : List Filed) (at : ℕ) (q : Filed) → slice_get fs at ≡ Some q → SplitsHere fs at q
splits_here [] at q here = absurd (cc (here))
splits_here (x ∷ fs) zero q here =
    let same : x ≡ q = same_Some x q here in
    record { front = []; back = fs; are = ap (λ (f : Filed). f ∷ fs) same; long = refl; taken = refl; more = ap (λ (f : Filed). f ∷ []) same; dropped = ap (λ (f : Filed). f ∷ fs) same; behind = refl }
splits_here (x ∷ fs) (suc at) q here =
    let rest = splits_here fs at q here in
    record {
      front = x ∷ rest.front;
      back = rest.back;
      are = ap (λ (l : List Filed). x ∷ l) rest.are;
      long = ap suc rest.long;
      taken = ap (λ (l : List Filed). x ∷ l) rest.taken;
      more = ap (λ (l : List Filed). x ∷ l) rest.more;
      dropped = rest.dropped;
      behind = rest.behind;
    }

pub samples_append : (xs ys : List Filed) → of_files (xs ++ ys) ≡ of_files xs ++ of_files ys
samples_append xs ys = flat_map-append (λ (f : Filed). f.samples) xs ys

-- SAMPLES THAT ARE ALL LATER

since_later : (n : ℕ) (xs : List Sample) → AllByRecursion (λ (s : Sample). n ≤ s.t) xs → since n xs ≡ xs
since_later n [] all = refl
since_later n (s ∷ xs) all =
    let low = all.0 in
    let test : nat_le n s.t ≡ true = grind (arith, nat_tests, low) in
    cond-true (nat_le n s.t) (s ∷ since n xs) (since n xs) test ∙ ap (λ (l : List Sample). s ∷ l) (since_later n xs all.1)

-- each file's samples are no earlier than this, and are some
abbrev pub IsLater : ℕ → Filed → Type 0
IsLater n f = AllByRecursion (λ (s : Sample). n ≤ s.t) f.samples × (f.samples ≢ [])

pub since_files : (n : ℕ) (fs : List Filed) → AllByRecursion (IsLater n) fs → since n (of_files fs) ≡ of_files fs
since_files n [] all = refl
since_files n (f ∷ fs) all =
    since-append n f.samples (of_files fs)
    ∙ (ap (λ (l : List Sample). l ++ since n (of_files fs)) (since_later n f.samples all.0.0) ∙ ap (λ (l : List Sample). f.samples ++ l) (since_files n fs all.1))

-- so each begins later
pub later_begins : (n : ℕ) (fs : List Filed) → AllByRecursion (IsLater n) fs → AllByRecursion (λ (f : Filed). BeginsAt n f.samples) fs
later_begins n [] all = tt
later_begins n (f ∷ fs) all = (begins f.samples all.0.0, later_begins n fs all.1)
  where
    begins : (xs : List Sample) → AllByRecursion (λ (s : Sample). n ≤ s.t) xs → BeginsAt n xs
    begins [] all = tt
    begins (s ∷ xs) all = all.0

-- so each has something that is later
pub later_left : (n : ℕ) (fs : List Filed) → AllByRecursion (IsLater n) fs → AllByRecursion (λ (f : Filed). since n f.samples ≢ []) fs
later_left n [] all = tt
later_left n (f ∷ fs) all = (λ none. all.0.1 (sym (since_later n f.samples all.0.0) ∙ none), later_left n fs all.1)

-- WHAT IS LEFT

-- what is left of a part's samples, from a moment on
pub record PartLeft (q : Filed) (back : List Sample) (n : ℕ) : Type 0 where
  pub front : List Sample
  pub are : q.samples ≡ front ++ back
  pub earlier : since n front ≡ []
  pub rises : RisesFrom n back
  pub some : back ≢ []

pub part_left : (g : Granularity) (rows : List Row) (q : Filed) (n at : ℕ) → IsFiled g rows q → (split : SplitsAt q.samples n q.entry.head_len at) → at < q.entry.len → PartLeft q split.back n
part_left g rows q n at filed split low = record {
  front = split.front;
  are = split.split;
  earlier = split.earlier;
  rises = go split.back split.later (RisesFrom-rest 0 split.front split.back (subst (RisesFrom 0) split.split filed.file.rising));
  some = λ none.
      let whole = filed.len in
      let head = filed.head_len in
      let place = split.place in
      let both = ap length (ap lines_of split.split ∙ lines_of-append split.front split.back) in
      let empty = ap (λ (l : List Sample). length (lines_of l)) none in
      omega (arith, whole, head, place, both, low, empty, length-append q.head (10 ∷ lines_of q.samples), length-append (lines_of split.front) (lines_of split.back));
}
  where
    go : (xs : List Sample) → BeginsAt n xs → RisesFrom (end_from 0 split.front) xs → RisesFrom n xs
    go [] begins rises = tt
    go (s ∷ xs) begins rises = (begins, rises.1)

-- nothing of files is left that come before a moment
pub since_earlier : (n : ℕ) (xs : List Sample) → AllByRecursion (λ (s : Sample). s.t < n) xs → since n xs ≡ []
since_earlier n [] all = refl
since_earlier n (s ∷ xs) all =
    let high = all.0 in
    let test : nat_le n s.t ≡ false = grind (arith, nat_tests, high) in
    cond-false (nat_le n s.t) (s ∷ since n xs) (since n xs) test ∙ since_earlier n xs all.1

pub left_all : (fs : List Filed) (at : ℕ) (q : Filed) (here : SplitsHere fs at q) (n : ℕ) → since n (of_files fs) ≡ since n (of_files (take at fs)) ++ (since n q.samples ++ since n (of_files here.back))
left_all fs at q here n =
    ap (λ (l : List Filed). since n (of_files l)) here.are
    ∙ (ap (since n) (samples_append here.front (q ∷ here.back))
    ∙ (since-append n (of_files here.front) (of_files (q ∷ here.back))
    ∙ (ap (λ (l : List Filed). since n (of_files l) ++ since n (of_files (q ∷ here.back))) (sym here.taken) ∙ ap (λ (l : List Sample). since n (of_files (take at fs)) ++ l) (since-append n q.samples (of_files here.back)))))

module _ (fs : List Filed) (at : ℕ) (q : Filed) (here : SplitsHere fs at q) (n : ℕ) where
  one_more : at + 1 ≡ suc at
  one_more = omega arith

  -- of one part more
  left_of_more : since n (of_files (take (at + 1) fs)) ≡ since n (of_files here.front) ++ since n q.samples
  left_of_more =
      ap (λ (k : ℕ). since n (of_files (take k fs))) one_more
      ∙ ap (λ (l : List Filed). since n (of_files l)) here.more
      ∙ (ap (since n) (samples_append here.front (q ∷ []))
      ∙ (since-append n (of_files here.front) (of_files (q ∷ [])) ∙ ap (λ (l : List Sample). since n (of_files here.front) ++ since n l) (append-nil q.samples)))

  -- where nothing is left of the parts before it
  pub left_more : since n (of_files (take at fs)) ≡ [] → since n (of_files (take (at + 1) fs)) ≡ since n q.samples
  left_more passed = left_of_more ∙ ap (λ (l : List Sample). l ++ since n q.samples) (ap (λ (l : List Filed). since n (of_files l)) (sym here.taken) ∙ passed)

  -- some of the part was copied
  module _ (front copied more : List Sample) (q_is : q.samples ≡ front ++ (copied ++ more)) (earlier : since n front ≡ []) (rises : RisesFrom n (copied ++ more)) (later : AllByRecursion (IsLater n) here.back) (gone : since (end_from n copied) (of_files here.front) ≡ []) where
    left_of_q : since n q.samples ≡ copied ++ more
    left_of_q =
        ap (since n) q_is
        ∙ (since-append n front (copied ++ more)
        ∙ (ap (λ (l : List Sample). l ++ since n (copied ++ more)) earlier ∙ since_all n n (copied ++ more) rises (omega arith)))

    abbrev pub rest : List Sample
    rest = more ++ of_files here.back

    pub left_is : since n (of_files fs) ≡ since n (of_files (take at fs)) ++ (copied ++ rest)
    left_is =
        left_all fs at q here n
        ∙ ap (λ (l : List Sample). since n (of_files (take at fs)) ++ l)
        (ap (λ (l : List Sample). l ++ since n (of_files here.back)) left_of_q ∙ (ap (λ (l : List Sample). (copied ++ more) ++ l) (since_files n here.back later) ∙ append_assoc copied more (of_files here.back)))

    low : n ≤ end_from n copied
    low = end_from-ge n copied (RisesFrom-front n copied more rises)

    -- nothing more is left of the parts before it
    pub still_passed : since (end_from n copied) (of_files (take at fs)) ≡ []
    still_passed = ap (λ (l : List Filed). since (end_from n copied) (of_files l)) here.taken ∙ gone

    -- what is left then
    pub left_of_part : since (end_from n copied) q.samples ≡ more
    left_of_part =
        sym (since-since (end_from n copied) n q.samples low)
        ∙ (ap (since (end_from n copied)) left_of_q
        ∙ (since-append (end_from n copied) copied more
        ∙ (ap (λ (l : List Sample). l ++ since (end_from n copied) more) (since_none (end_from n copied) n copied (RisesFrom-front n copied more rises) (omega arith)) ∙ since_all (end_from n copied) (end_from n copied) more (RisesFrom-rest n copied more rises) (omega arith))))

    pub left_now : AllByRecursion (IsLater (end_from n copied)) here.back → since (end_from n copied) (of_files fs) ≡ rest
    left_now behind_it =
        left_all fs at q here (end_from n copied)
        ∙ (ap (λ (l : List Sample). l ++ (since (end_from n copied) q.samples ++ since (end_from n copied) (of_files here.back))) still_passed
        ∙ (ap (λ (l : List Sample). l ++ since (end_from n copied) (of_files here.back)) left_of_part ∙ ap (λ (l : List Sample). more ++ l) (since_files (end_from n copied) here.back behind_it)))

    -- or it was copied whole
    module _ (whole : more ≡ []) where
      pub now_passed : since (end_from n copied) (of_files (take (at + 1) fs)) ≡ []
      now_passed = more_passed ∙ (sym (since-since (end_from n copied) n q.samples low) ∙ (ap (since (end_from n copied)) (left_of_q ∙ (ap (λ (l : List Sample). copied ++ l) whole ∙ append-nil copied)) ∙ since_none (end_from n copied) n copied (RisesFrom-front n copied more rises) (omega arith)))
        where
          more_passed : since (end_from n copied) (of_files (take (at + 1) fs)) ≡ since (end_from n copied) q.samples
          more_passed =
              ap (λ (k : ℕ). since (end_from n copied) (of_files (take k fs))) one_more
              ∙ ap (λ (l : List Filed). since (end_from n copied) (of_files l)) here.more
              ∙ (ap (since (end_from n copied)) (samples_append here.front (q ∷ []))
              ∙ (since-append (end_from n copied) (of_files here.front) (of_files (q ∷ []))
              ∙ (ap (λ (l : List Sample). l ++ since (end_from n copied) (of_files (q ∷ []))) gone ∙ ap (since (end_from n copied)) (append-nil q.samples))))

      pub none_rest : at + 1 ≡ length fs → rest ≡ []
      none_rest all =
          let size = ap length here.are in
          let long = here.long in
          let empty : length here.back ≡ 0 = omega (arith, size, all, long, length-append here.front (q ∷ here.back)) in
          ap (λ (l : List Sample). l ++ of_files here.back) whole ∙ ap of_files (no_files here.back empty)
        where
          no_files : (l : List Filed) → length l ≡ 0 → l ≡ []
          no_files [] is = refl
          no_files (x ∷ xs) is = absurd (omega (arith, is))

-- the part was copied whole exactly where its lines end
pub whole_where : (copied more : List Sample) (from len : ℕ) → from + length (lines_of (copied ++ more)) ≡ len → from + length (lines_of copied) ≡ len → more ≡ []
whole_where copied more from len all some = no_length more (let both = ap length (lines_of-append copied more) in omega (arith, all, some, both, length-append (lines_of copied) (lines_of more)))

pub not_whole : (copied more : List Sample) (from len : ℕ) → from + length (lines_of (copied ++ more)) ≡ len → (from + length (lines_of copied) ≡ len → ⊥) → more ≢ []
not_whole copied more from len all other none = other (ap (λ (l : List Sample). from + length (lines_of l)) (sym (append-nil copied) ∙ ap (λ (l : List Sample). copied ++ l) (sym none)) ∙ all)

-- THE PARTS BEHIND ONE

pub rise_row : (row : ℕ) (xs : List Filed) → PlacesRise xs → PlacesRise (of_row row xs)
rise_row row [] rise = tt
rise_row row (x ∷ xs) rise = by_test (nat_eq x.entry.series row) (rise_row row xs rise.1)
  where
    by_test : (b : Bool) → PlacesRise (of_row row xs) → PlacesRise (cond b (x ∷ of_row row xs) (of_row row xs))
    by_test true rest = (All-filter (λ (f : Filed). nat_eq f.entry.series row) (Comes x) xs rise.0, rest)
    by_test false rest = rest

pub rise_front : (fs gs : List Filed) → PlacesRise (fs ++ gs) → PlacesRise fs
rise_front [] gs rise = tt
rise_front (x ∷ fs) gs rise = (All-front (Comes x) fs gs rise.0, rise_front fs gs rise.1)

pub rise_rest : (fs gs : List Filed) → PlacesRise (fs ++ gs) → PlacesRise gs
rise_rest [] gs rise = rise
rise_rest (x ∷ fs) gs rise = rise_rest fs gs rise.1

start_less : (q r : Filed) → q.entry.series ≡ r.entry.series → Comes q r → q.entry.part.start < r.entry.part.start
start_less q r own lt = grind (arith, nat_tests, own, lt)

pub weaker : (P Q : Sample → Type 0) → ((s : Sample) → P s → Q s) → (xs : List Sample) → AllByRecursion P xs → AllByRecursion Q xs
weaker P Q step [] all = tt
weaker P Q step (s ∷ xs) all = (step s all.0, weaker P Q step xs all.1)

abbrev pub IsOfRowIn : Granularity → List Row → ℕ → Filed → Type 0
IsOfRowIn g rows row f = IsFiled g rows f × (f.entry.series ≡ row)

pub later_all : (g : Granularity) (rows : List Row) (row : ℕ) (q : Filed) (back : List Filed) (n : ℕ) → IsOfRowIn g rows row q → n ≤ q.entry.part.end → PlacesRise (q ∷ back) → AllByRecursion (IsOfRowIn g rows row) back → AllByRecursion (IsLater n) back
later_all g rows row q [] n filed end rise all = tt
later_all g rows row q (r ∷ back) n filed end rise all =
    let less = start_less q r (filed.1 ∙ sym all.0.1) (All-head (Comes q) r back rise.0) in
    let clear = parts_apart g q.entry.part r.entry.part filed.0.part all.0.0.part less in
    let low : n ≤ r.entry.part.start = omega (arith, end, clear) in (
      (weaker (λ s. HoldsMoment r.entry.part s.t) (λ s. n ≤ s.t) (λ s in_part. let start = in_part.0 in omega (arith, low, start)) r.samples (recursion_from_All (λ (s : Sample). HoldsMoment r.entry.part s.t) r.samples all.0.0.inside), λ none. cc (none, all.0.0.some)),
      later_all g rows row q back n filed end (All-tail (Comes q) r back rise.0, rise.1.1) all.1,
    )

-- and the parts before one
pub earlier_all : (g : Granularity) (rows : List Row) (row : ℕ) (front : List Filed) (q : Filed) (back : List Filed) (n : ℕ) → IsOfRowIn g rows row q → q.entry.part.start ≤ n → PlacesRise (front ++ q ∷ back) → AllByRecursion (IsOfRowIn g rows row) front → since n (of_files front) ≡ []
earlier_all g rows row [] q back n filed begin rise all = refl
earlier_all g rows row (f ∷ front) q back n filed begin rise all =
    let before = All-contains (Comes f) (front ++ q ∷ back) q rise.0 (Contains-append_right front (q ∷ back) q (0, omega arith, refl)) in
    let less = start_less f q (all.0.1 ∙ sym filed.1) before in
    let clear = parts_apart g f.entry.part q.entry.part all.0.0.part filed.0.part less in
    let high : f.entry.part.end ≤ n = omega (arith, clear, begin) in
    let none = since_earlier n f.samples (weaker (λ s. HoldsMoment f.entry.part s.t) (λ s. s.t < n) (λ s in_part. let end = in_part.1 in omega (arith, high, end)) f.samples (recursion_from_All (λ (s : Sample). HoldsMoment f.entry.part s.t) f.samples all.0.0.inside)) in
    since-append n f.samples (of_files front) ∙ (ap (λ (l : List Sample). l ++ since n (of_files front)) none ∙ earlier_all g rows row front q back n filed begin rise.1 all.1)

-- a sample that isn't earlier lies in the part
pub ends_later : (q : Filed) (n : ℕ) (front back : List Sample) → q.samples ≡ front ++ back → back ≢ [] → RisesFrom n back → All (λ (s : Sample). HoldsMoment q.entry.part s.t) q.samples → n ≤ q.entry.part.end
ends_later q n front [] are some rises inside = absurd (some refl)
ends_later q n front (s ∷ back) are some rises inside =
    let all = all_rest (λ (x : Sample). HoldsMoment q.entry.part x.t) front (s ∷ back) (subst (AllByRecursion (λ (x : Sample). HoldsMoment q.entry.part x.t)) are (recursion_from_All (λ (x : Sample). HoldsMoment q.entry.part x.t) q.samples inside)) in
    let high = all.0.1 in
    let low = rises.0 in
    omega (arith, high, low)

-- samples of it end no later than it
pub inside_until : (e : ℕ) (n : ℕ) (xs : List Sample) → n ≤ e → AllByRecursion (λ (s : Sample). s.t < e) xs → end_from n xs ≤ e
inside_until e n [] low all = low
inside_until e n (s ∷ xs) low all = inside_until e (s.t + 1) xs (let high = all.0 in omega (arith, high)) all.1

-- and behind its start
pub inside_end : (q : Filed) (n : ℕ) (front copied more : List Sample) → q.samples ≡ front ++ (copied ++ more) → copied ≢ [] → RisesFrom n (copied ++ more) → All (λ (s : Sample). HoldsMoment q.entry.part s.t) q.samples → q.entry.part.start ≤ end_from n copied
inside_end q n front [] more are some rises inside = absurd (some refl)
inside_end q n front (s ∷ copied) more are some rises inside =
    let all = all_rest (λ (x : Sample). HoldsMoment q.entry.part x.t) front (s ∷ (copied ++ more)) (subst (AllByRecursion (λ (x : Sample). HoldsMoment q.entry.part x.t)) are (recursion_from_All (λ (x : Sample). HoldsMoment q.entry.part x.t) q.samples inside)) in
    let begin = all.0.0 in
    let high = end_from-ge (s.t + 1) copied (RisesFrom-front (s.t + 1) copied more rises.1) in
    omega (arith, begin, high)

-- the files of a row, the first so many
pub first_files : (g : Granularity) (rows : List Row) (row n : ℕ) (xs : List Filed) → All (IsFiled g rows) xs → AllByRecursion (IsOfRowIn g rows row) (take n (of_row row xs))
first_files g rows row n xs all = all_front (IsOfRowIn g rows row) (take n (of_row row xs)) (drop n (of_row row xs)) (subst (AllByRecursion (IsOfRowIn g rows row)) (sym (take-append-drop n (of_row row xs))) (in_row xs (recursion_from_All (IsFiled g rows) xs all)))
  where
    in_row : (ys : List Filed) → AllByRecursion (IsFiled g rows) ys → AllByRecursion (IsOfRowIn g rows row) (of_row row ys)
    in_row [] all = tt
    in_row (y ∷ ys) all = by_test (nat_eq y.entry.series row) refl (in_row ys all.1)
      where
        by_test : (b : Bool) → nat_eq y.entry.series row ≡ b → AllByRecursion (IsOfRowIn g rows row) (of_row row ys) → AllByRecursion (IsOfRowIn g rows row) (cond b (y ∷ of_row row ys) (of_row row ys))
        by_test true is rest = ((all.0, eqb-true y.entry.series row is), rest)
        by_test false is rest = rest

-- WHERE SAMPLES END

-- samples that rise from a moment end later
pub ends_behind : (n k : ℕ) (xs : List Sample) → xs ≢ [] → RisesFrom n xs → n < end_from k xs
ends_behind n k [] some rises = absurd (some refl)
ends_behind n k (s ∷ xs) some rises = let more = end_from-ge (s.t + 1) xs rises.1 in let first = rises.0 in omega (arith, more, first)

-- a file's last sample is later than its partition's start
pub begins_within : (g : Granularity) (rows : List Row) (f : Filed) → IsFiled g rows f → f.entry.part.start < f.entry.last + 1
begins_within g rows f filed = go f.samples filed.some filed.to filed.file.rising (recursion_from_All (λ (s : Sample). HoldsMoment f.entry.part s.t) f.samples filed.inside)
  where
    go : (xs : List Sample) → xs ≡ filed.first ∷ filed.others → f.entry.last + 1 ≡ end_of xs → RisesFrom 0 xs → AllByRecursion (λ (s : Sample). HoldsMoment f.entry.part s.t) xs → f.entry.part.start < f.entry.last + 1
    go [] are to rises inside = absurd (cc (are))
    go (s ∷ xs) are to rises inside = let more = end_from-ge (s.t + 1) xs rises.1 in let low = inside.0.0 in omega (arith, more, to, low)
