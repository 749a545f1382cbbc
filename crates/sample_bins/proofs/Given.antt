-- What operators give of bins that are whole.
use Rattle.std.proofs.Common.{◌≡◌, ℕ, zero, suc, ◌+◌, ◌<◌, ◌≤◌, ◌==◌, Bool, true, false, cond, List, [], ◌∷◌, length, map, get_or, refl, sym, ap, subst, ◌∙◌, ◌⊎◌, inl, inr, arith}
use Rattle.std.specs.Prelude.{filter, All, Any, Contains}
use Rattle.std.proofs.lemmas.Bool.{eqb-true, eq-eqb, cases_lt}
use Rattle.std.proofs.lemmas.List.Elements.{All-cons, All-head, All-tail, All-nil, All-contains, All-weaker, All-contains_itself}
use Rattle.series_model.specs.declared.sample.Sample.{Sample}
use Rattle.series_model.specs.Series.{IsRising, RisesFrom}
use Rattle.series_model.proofs.RisingLists.{RisesFrom-filter}
use Rattle.sample_bins.specs.Counts.{counted, capped}
use Rattle.sample_bins.specs.Bins.{Bin, bin_of, bin_start, bins, samples_in, same_bin, other_bins, last_in, last_from, count_in}
use Rattle.sample_bins.specs.Laws.{number_of, numbered, count_of_number, IsFirstOfNumber, IsLastOfNumber, NumbersHaveBins, FirstsAreEarliest, LastsAreLatest, GivenRise, CountsAreWhole}
use Rattle.sample_bins.proofs.Whole.{number_rises, BinsRise, bins_rise, bins_are_whole, EachWhole, each_whole}

-- ELEMENTS OF LISTS

nothing_there : {X : Type 0} (P : Type 0) (x : X) → Contains [] x → P
nothing_there P x there = absurd (let place : there.0 < 0 = there.1 in omega arith)

Contains-here : {X : Type 0} (x : X) (xs : List X) → Contains (x ∷ xs) x
Contains-here x xs = (0, omega arith, refl)

Contains-later : {X : Type 0} (y x : X) (xs : List X) → Contains xs x → Contains (y ∷ xs) x
Contains-later y x xs there = (suc there.0, let place : there.0 < length xs = there.1 in omega arith, there.2)

Contains-cases : {X : Type 0} (y x : X) (xs : List X) → Contains (y ∷ xs) x → (y ≡ x) ⊎ Contains xs x
Contains-cases y x xs there = by_place there.0 there.1 there.2
  where
    by_place : (k : ℕ) → k < length (y ∷ xs) → get_or (y ∷ xs) k x ≡ x → (y ≡ x) ⊎ Contains xs x
    by_place zero below is = inl is
    by_place (suc k) below is = inr (k, omega arith, is)

Contains-map : {X Y : Type 0} (f : X → Y) (x : X) (xs : List X) → Contains xs x → Contains (map f xs) (f x)
Contains-map f x [] there = nothing_there (Contains (map f []) (f x)) x there
Contains-map f x (y ∷ xs) there = elim (Contains-cases y x xs there) [
  | inl is ↦ subst (λ (z : _). Contains (f y ∷ map f xs) (f z)) is (Contains-here (f y) (map f xs))
  | inr later ↦ Contains-later (f y) (f x) (map f xs) (Contains-map f x xs later)
]

-- an element of a mapped list is the value at one of the list
made_from : {X Y : Type 0} (f : X → Y) (y : Y) (xs : List X) → Contains (map f xs) y → (x : X) × Contains xs x × (f x ≡ y)
made_from f y [] there = nothing_there ((x : _) × Contains [] x × (f x ≡ y)) y there
made_from f y (x ∷ xs) there = elim (Contains-cases (f x) y (map f xs) there) [
  | inl is ↦ (x, Contains-here x xs, is)
  | inr later ↦ let behind = made_from f y xs later in (behind.0, Contains-later x behind.0 xs behind.1, behind.2)
]

Contains-filter : {X : Type 0} (p : X → Bool) (x : X) (xs : List X) → Contains xs x → p x ≡ true → Contains (filter p xs) x
Contains-filter p x [] there passes = there
Contains-filter p x (y ∷ xs) there passes = elim (Contains-cases y x xs there) [
  | inl is ↦ subst (λ (v : Bool). Contains (cond v (y ∷ filter p xs) (filter p xs)) x) (sym (ap p is ∙ passes)) (subst (λ (z : _). Contains (y ∷ filter p xs) z) is (Contains-here y (filter p xs)))
  | inr later ↦ by_test (p y) (Contains-filter p x xs later passes)
]
  where
    by_test : (v : Bool) → Contains (filter p xs) x → Contains (cond v (y ∷ filter p xs) (filter p xs)) x
    by_test true there = Contains-later y x (filter p xs) there
    by_test false there = there

passed : {X : Type 0} (p : X → Bool) (x : X) (xs : List X) → Contains (filter p xs) x → Contains xs x × (p x ≡ true)
passed p x [] there = nothing_there (Contains [] x × (p x ≡ true)) x there
passed p x (y ∷ xs) there = by_test (p y) refl (passed p x xs) there
  where
    by_test : (v : Bool) → p y ≡ v → (Contains (filter p xs) x → Contains xs x × (p x ≡ true)) → Contains (cond v (y ∷ filter p xs) (filter p xs)) x → Contains (y ∷ xs) x × (p x ≡ true)
    by_test true is behind there = elim (Contains-cases y x (filter p xs) there) [
      | inl same ↦ (subst (λ (z : _). Contains (y ∷ xs) z) same (Contains-here y xs), ap p (sym same) ∙ is)
      | inr later ↦ let found = behind later in (Contains-later y x xs found.0, found.1)
    ]
    by_test false is behind there = let found = behind there in (Contains-later y x xs found.0, found.1)

-- ELEMENTS OF LISTS THAT RISE

none_earlier : (m : ℕ) (l : List Sample) → RisesFrom m l → All (λ s. m ≤ s.t) l
none_earlier m [] rises = All-nil (λ s. m ≤ s.t)
none_earlier m (s ∷ rest) rises =
    let here : m ≤ s.t = rises.0 in
    All-cons (λ s. m ≤ s.t) s rest here (All-weaker (λ o. s.t + 1 ≤ o.t) (λ o. m ≤ o.t) (λ (o : Sample) (later : s.t + 1 ≤ o.t). omega arith) rest (none_earlier (s.t + 1) rest rises.1))

is_later : (m : ℕ) (l : List Sample) (s : Sample) → RisesFrom m l → Contains l s → m ≤ s.t
is_later m l s rises there = All-contains (λ o. m ≤ o.t) l s (none_earlier m l rises) there

-- at a moment there is one sample at most
one_sample : (m : ℕ) (l : List Sample) (a b : Sample) → RisesFrom m l → Contains l a → Contains l b → a.t ≡ b.t → a ≡ b
one_sample m [] a b rises a_there b_there same = nothing_there (a ≡ b) a a_there
one_sample m (s ∷ rest) a b rises a_there b_there same = by_places (Contains-cases s a rest a_there) (Contains-cases s b rest b_there) (λ (p : Contains rest a) (q : Contains rest b). one_sample (s.t + 1) rest a b rises.1 p q same)
  where
    by_places : (s ≡ a) ⊎ Contains rest a → (s ≡ b) ⊎ Contains rest b → (Contains rest a → Contains rest b → a ≡ b) → a ≡ b
    by_places (inl a_here) (inl b_here) behind = sym a_here ∙ b_here
    by_places (inl a_here) (inr b_later) behind =
        let late : s.t + 1 ≤ b.t = is_later (s.t + 1) rest b rises.1 b_later in
        let here : s.t ≡ a.t = ap (λ (o : Sample). o.t) a_here in
        absurd (omega arith)
    by_places (inr a_later) (inl b_here) behind =
        let late : s.t + 1 ≤ a.t = is_later (s.t + 1) rest a rises.1 a_later in
        let here : s.t ≡ b.t = ap (λ (o : Sample). o.t) b_here in
        absurd (omega arith)
    by_places (inr a_later) (inr b_later) behind = behind a_later b_later

-- NUMBERS AND THEIR BINS

in_others : (width n : ℕ) (bs : List Bin) (b : Bin) → Contains bs b → (n ≡ number_of width b.first) ⊎ Contains (other_bins width n bs) b
in_others width n [] b there = inr there
in_others width n (first ∷ bs) b there = by_test (n == number_of width first.first) refl
  where
    by_test : (v : Bool) → (n == number_of width first.first) ≡ v → (n ≡ number_of width b.first) ⊎ Contains (cond v bs (first ∷ bs)) b
    by_test true is = elim (Contains-cases first b bs there) [
      | inl same ↦ inl (eqb-true n (number_of width first.first) is ∙ ap (λ (b : Bin). number_of width b.first) same)
      | inr later ↦ inr later
    ]
    by_test false is = inr there

-- the bin of a sample
abbrev BinFor : ℕ → List Bin → Sample → Type 0
BinFor width bs s = (b : Bin) × Contains bs b × (number_of width b.first ≡ number_of width s)

bin_for : (width : ℕ) (l : List Sample) (s : Sample) → Contains l s → BinFor width (bins width l) s
bin_for width [] s there = nothing_there (BinFor width [] s) s there
bin_for width (x ∷ rest) s there =
    let number : ℕ = number_of width x in
    let head : Bin = record { first = x; later = same_bin width number (bins width rest) } in
    let others : List Bin = other_bins width number (bins width rest) in
    elim (Contains-cases x s rest there) [
      | inl is ↦ (head, Contains-here head others, ap (λ (o : Sample). number_of width o) is)
      | inr later ↦
          let found : BinFor width (bins width rest) s = bin_for width rest s later in
          elim (in_others width number (bins width rest) found.0 found.1) [
            | inl same ↦ (head, Contains-here head others, same ∙ found.2)
            | inr other ↦ (found.0, Contains-later head found.0 others other, found.2)
          ]
    ]

pub numbers_have_bins : NumbersHaveBins
numbers_have_bins width l =
    All-weaker (Contains l) (λ s. Any (λ b. number_of width b.first ≡ number_of width s) (bins width l))
    (λ (s : Sample) (there : Contains l s). let found : BinFor width (bins width l) s = bin_for width l s there in (found.1.0, found.0, found.1.1, found.1.2, found.2)) l (All-contains_itself l)

-- ONE SAMPLE OF EACH BIN

-- of each bin one of its samples is picked, which stands so to all of them, and no other does
module _ (width : ℕ) (l : List Sample) (rises : IsRising l) (pick : Bin → Sample) (R : Sample → Sample → Type 0)
    (among : (b : Bin) → Contains (samples_in b) (pick b))
    (best : (b : Bin) → RisesFrom 0 (samples_in b) → All (R (pick b)) (samples_in b))
    (only : (a b : Sample) → R a b → R b a → a.t ≡ b.t) where
  whole : (b : Bin) → Contains (bins width l) b → samples_in b ≡ numbered width (number_of width b.first) l
  whole b there = All-contains (λ b. samples_in b ≡ numbered width (number_of width b.first) l) (bins width l) b (bins_are_whole width l rises) there

  picked : (b : Bin) → Contains (bins width l) b → Contains l (pick b) × (number_of width b.first ≡ number_of width (pick b))
  picked b there =
      let number : ℕ = number_of width b.first in
      let found : Contains l (pick b) × ((number == number_of width (pick b)) ≡ true) = passed (λ (s : Sample). number == number_of width s) (pick b) l (subst (λ (xs : List Sample). Contains xs (pick b)) (whole b there) (among b)) in
      (found.0, eqb-true (number_of width b.first) (number_of width (pick b)) found.1)

  of_its_bin : (b : Bin) (s : Sample) → Contains (bins width l) b → Contains l s → number_of width b.first ≡ number_of width s → R (pick b) s
  of_its_bin b s there s_there same =
      let number : ℕ = number_of width b.first in
      let all : List Sample = numbered width number l in
      let is : samples_in b ≡ all = whole b there in
      let in_bin : Contains (samples_in b) s = subst (λ (xs : List Sample). Contains xs s) (sym is) (Contains-filter (λ (s : Sample). number == number_of width s) s l s_there (eq-eqb (number_of width b.first) (number_of width s) same)) in
      let rising : RisesFrom 0 (samples_in b) = subst (RisesFrom 0) (sym is) (RisesFrom-filter (λ (s : Sample). number == number_of width s) 0 l rises) in
      All-contains (R (pick b)) (samples_in b) s (best b rising) in_bin

  picks_best : (s : Sample) → Contains (map pick (bins width l)) s → Contains l s × All (λ other. number_of width other ≡ number_of width s → R s other) l
  picks_best s there =
      let found : (b : Bin) × Contains (bins width l) b × (pick b ≡ s) = made_from pick s (bins width l) there in
      let b : Bin = found.0 in
      let of_l : Contains l (pick b) × (number_of width b.first ≡ number_of width (pick b)) = picked b found.1 in
      subst (λ (z : Sample). Contains l z × All (λ other. number_of width other ≡ number_of width z → R z other) l) found.2 (
        of_l.0,
        All-weaker (Contains l) (λ other. number_of width other ≡ number_of width (pick b) → R (pick b) other)
            (λ (o : Sample) (o_there : Contains l o) (same : number_of width o ≡ number_of width (pick b)). of_its_bin b o found.1 o_there (of_l.1 ∙ sym same)) l (All-contains_itself l),
      )

  best_is_picked : (s : Sample) → Contains l s → All (λ other. number_of width other ≡ number_of width s → R s other) l → Contains (map pick (bins width l)) s
  best_is_picked s there all =
      let found : BinFor width (bins width l) s = bin_for width l s there in
      let b : Bin = found.0 in
      let of_l : Contains l (pick b) × (number_of width b.first ≡ number_of width (pick b)) = picked b found.1 in
      let from_s : R s (pick b) = All-contains (λ other. number_of width other ≡ number_of width s → R s other) l (pick b) all of_l.0 (sym of_l.1 ∙ found.2) in
      let to_s : R (pick b) s = of_its_bin b s found.1 there found.2 in
      let is : pick b ≡ s = one_sample 0 l (pick b) s rises of_l.0 there (only (pick b) s to_s from_s) in
      subst (λ (z : Sample). Contains (map pick (bins width l)) z) is (Contains-map pick b (bins width l) found.1)

  picks_rise : IsRising (map pick (bins width l))
  picks_rise =
      in_order (bins width l) (bin_of width 0) 0 (bins_rise width 0 l rises) (λ (t : ℕ) (above : bin_of width 0 ≤ bin_of width t). omega arith)
      (All-weaker (Contains (bins width l)) (λ b. number_of width b.first ≡ number_of width (pick b)) (λ (b : Bin) (there : Contains (bins width l) b). (picked b there).1) (bins width l) (All-contains_itself (bins width l)))
    where
      in_order : (bs : List Bin) (n m : ℕ) → BinsRise width n bs → ((t : ℕ) → n ≤ bin_of width t → m ≤ t) → All (λ b. number_of width b.first ≡ number_of width (pick b)) bs → RisesFrom m (map pick bs)
      in_order [] n m rise above same = tt
      in_order (b ∷ bs) n m rise above same =
          let number : number_of width b.first ≡ number_of width (pick b) = All-head (λ b. number_of width b.first ≡ number_of width (pick b)) b bs same in
          let here : n ≤ number_of width b.first = rise.0 in (
            above (pick b).t (omega arith),
            in_order bs (number_of width b.first + 1) ((pick b).t + 1) rise.1 (λ (t : ℕ) (beyond : number_of width b.first + 1 ≤ bin_of width t). later (pick b).t t (omega arith))
                (All-tail (λ b. number_of width b.first ≡ number_of width (pick b)) b bs same),
          )
        where
          later : (t u : ℕ) → bin_of width t < bin_of width u → t + 1 ≤ u
          later t u below = elim (cases_lt t u) [
            | inl before ↦ omega arith
            | inr behind ↦ let not_above : bin_of width u ≤ bin_of width t = number_rises width u t behind in absurd (omega arith)
          ]

-- FIRSTS

abbrev first_in : Bin → Sample
first_in b = b.first

abbrev IsUpTo : Sample → Sample → Type 0
IsUpTo s other = s.t ≤ other.t

first_among : (b : Bin) → Contains (samples_in b) (first_in b)
first_among b = Contains-here b.first b.later

first_is_least : (b : Bin) → RisesFrom 0 (samples_in b) → All (IsUpTo (first_in b)) (samples_in b)
first_is_least b rises =
    All-cons (λ o. b.first.t ≤ o.t) b.first b.later (omega arith)
    (All-weaker (λ o. b.first.t + 1 ≤ o.t) (λ o. b.first.t ≤ o.t) (λ (o : Sample) (later : b.first.t + 1 ≤ o.t). omega arith) b.later (none_earlier (b.first.t + 1) b.later rises.1))

one_least : (a b : Sample) → IsUpTo a b → IsUpTo b a → a.t ≡ b.t
one_least a b p q = omega arith

-- LASTS

abbrev IsFrom : Sample → Sample → Type 0
IsFrom s other = other.t ≤ s.t

last_among : (s : Sample) (later : List Sample) → Contains (s ∷ later) (last_from s later)
last_among s [] = Contains-here s []
last_among s (next ∷ rest) = Contains-later s (last_from next rest) (next ∷ rest) (last_among next rest)

last_is_most : (m : ℕ) (s : Sample) (later : List Sample) → RisesFrom m (s ∷ later) → All (IsFrom (last_from s later)) (s ∷ later)
last_is_most m s [] rises = All-cons (IsFrom s) s [] (omega arith) (All-nil (IsFrom s))
last_is_most m s (next ∷ rest) rises =
    let behind : All (λ o. o.t ≤ (last_from next rest).t) (next ∷ rest) = last_is_most (s.t + 1) next rest rises.1 in
    let after : next.t ≤ (last_from next rest).t = All-head (λ o. o.t ≤ (last_from next rest).t) next rest behind in
    let before : s.t + 1 ≤ next.t = rises.1.0 in
    All-cons (λ o. o.t ≤ (last_from next rest).t) s (next ∷ rest) (omega arith) behind

last_in_among : (b : Bin) → Contains (samples_in b) (last_in b)
last_in_among b = last_among b.first b.later

last_in_is_most : (b : Bin) → RisesFrom 0 (samples_in b) → All (IsFrom (last_in b)) (samples_in b)
last_in_is_most b rises = last_is_most 0 b.first b.later rises

one_most : (a b : Sample) → IsFrom a b → IsFrom b a → a.t ≡ b.t
one_most a b p q = omega arith

-- COUNTS

counts_of : (width : ℕ) (l : List Sample) (bs : List Bin) → EachWhole width l bs → map (count_in width) bs ≡ map (count_of_number width l) (map (λ (b : Bin). b.first) bs)
counts_of width l [] whole = refl
counts_of width l (b ∷ bs) whole =
    ap (λ (xs : List Sample). counted (bin_start width (number_of width b.first)) (capped (length xs)) ∷ map (count_in width) bs) whole.0
    ∙ ap (λ (rest : List Sample). count_of_number width l b.first ∷ rest) (counts_of width l bs whole.1)

-- LAWS

pub firsts_are_earliest : FirstsAreEarliest
firsts_are_earliest width from l rises s = (
  λ (given : Contains (map first_in (bins width l)) s).
      let found = picks_best width l rises first_in IsUpTo first_among first_is_least one_least s given in
      record { there = found.0; first = found.1 },
  λ (is : IsFirstOfNumber width l s). best_is_picked width l rises first_in IsUpTo first_among first_is_least one_least s is.there is.first,
)

pub lasts_are_latest : LastsAreLatest
lasts_are_latest width from l rises s = (
  λ (given : Contains (map last_in (bins width l)) s).
      let found = picks_best width l rises last_in IsFrom last_in_among last_in_is_most one_most s given in
      record { there = found.0; last = found.1 },
  λ (is : IsLastOfNumber width l s). best_is_picked width l rises last_in IsFrom last_in_among last_in_is_most one_most s is.there is.last,
)

pub given_rise : GivenRise
given_rise width from l rises = (
  picks_rise width l rises first_in IsUpTo first_among first_is_least one_least,
  picks_rise width l rises last_in IsFrom last_in_among last_in_is_most one_most,
)

pub counts_are_whole : CountsAreWhole
counts_are_whole width from l rises = counts_of width l (bins width l) (each_whole width 0 l rises)
