-- Where a place is among the entries of one series.
use Rattle.std.proofs.Common.{◌≡◌, inl, inr, ℕ, zero, suc, ◌+◌, ◌<◌, ◌≤◌, ◌||◌, Bool, true, false, List, [], ◌∷◌, ◌++◌, length, get_or, take, drop, ltb, refl, sym, ◌∙◌, ap, subst, arith, take-append-drop, append-nil, length-drop}
use Rattle.std.proofs.lemmas.Bool.{cases_order}
use Rattle.std.proofs.lemmas.Bool.Decides.{Decides-eqb, nat_tests}
use Rattle.std.proofs.lemmas.List.{drop_more, get_or_default, get_or-take, get_or-drop, length-take-le}
use Rattle.std.proofs.lemmas.List.Elements.{filter-append, recursion_from_All}
use Rattle.std.proofs.lemmas.List.Folds.{list_any-append}
use Rattle.std.specs.List.{filter, list_any, AllByRecursion, AllWithin}
use Rattle.std.specs.List.Sorted.{IsPartitionPoint, IsPartitionedBy}
use Rattle.std.specs.Prelude.{◌==◌, nat_lt}
use Rattle.store_manifest.specs.declared.entry.Entry.{Entry}
use Rattle.store_manifest.specs.Entries.{Place, place, comes_before, is_place, is_listed, spliced}
use Rattle.store_manifest.specs.Listing.{OfSeries, IsAround}
use Rattle.store_manifest.proofs.Changes.{filter_all, filter_none, each}

abbrev Front : ℕ → Entry → Bool
Front t e = ltb e.part.start t

-- ORDER

at_index : (P : Entry → Type 0) (xs : List Entry) → AllByRecursion P xs → (k : ℕ) (d : Entry) → k < length xs → P (get_or xs k d)
at_index P [] all k d within = absurd (omega (arith, within))
at_index P (x ∷ xs) all zero d within = all.0
at_index P (x ∷ xs) all (suc k) d within = at_index P xs all.1 k d (omega (arith, within))

later : (s : ℕ) (x y : Entry) → x.series ≡ s → y.series ≡ s → comes_before (place x) (place y) ≡ true → x.part.start < y.part.start
later s x y one two before = grind (arith, nat_tests)

rises : (s : ℕ) (xs : List Entry) → OfSeries s xs → (i j : ℕ) (d : Entry) → i ≤ j → j < length xs → (get_or xs i d).part.start ≤ (get_or xs j d).part.start
rises s [] of i j d le within = absurd (omega (arith, within))
rises s (x ∷ xs) of zero zero d le within = omega arith
rises s (x ∷ xs) of zero (suc j) d le within =
    omega (arith, later s x (get_or xs j d) of.0.0 (at_index (λ e. e.series ≡ s) xs of.0.1 j d (omega (arith, within))) (at_index (λ y. comes_before (place x) (place y) ≡ true) xs of.1.0 j d (omega (arith, within))))
rises s (x ∷ xs) of (suc i) zero d le within = absurd (omega (arith, le))
rises s (x ∷ xs) of (suc i) (suc j) d le within = rises s xs (of.0.1, of.1.1) i j d (omega (arith, le)) (omega (arith, within))

before_from_test : (t : ℕ) (e : Entry) → Front t e ≡ true → e.part.start < t
before_from_test t e is = grind (arith, nat_tests)

test_from_before : (t : ℕ) (e : Entry) → e.part.start < t → Front t e ≡ true
test_from_before t e is = grind (arith, nat_tests)

pub parted : (s t : ℕ) (xs : List Entry) → OfSeries s xs → IsPartitionedBy (Front t) xs
parted s t xs of i j d le within is = test_from_before t (get_or xs i d) (omega (arith, rises s xs of i j d le within, before_from_test t (get_or xs j d) is))

-- BEFORE AND BEHIND

all_front : (P : Entry → Type 0) (xs : List Entry) (i : ℕ) → i ≤ length xs → AllWithin P xs 0 i → AllByRecursion P (take i xs)
all_front P xs i le within = recursion_from_All P (take i xs) (λ k d below. let small : k < i = omega (arith, below, length-take-le i xs le) in subst P (sym (get_or-take i xs k d small)) (within k d (omega arith) small))

all_back : (P : Entry → Type 0) (xs : List Entry) (i : ℕ) → i ≤ length xs → AllWithin P xs i (length xs) → AllByRecursion P (drop i xs)
all_back P xs i le within = recursion_from_All P (drop i xs) (λ k d below. subst P (sym (get_or-drop i xs k d)) (within (i + k) d (omega arith) (omega (arith, below, length-drop i xs))))

series_front : (s : ℕ) (xs : List Entry) (i : ℕ) → AllByRecursion (λ e. e.series ≡ s) xs → AllByRecursion (λ e. e.series ≡ s) (take i xs)
series_front s xs zero all = tt
series_front s [] (suc i) all = tt
series_front s (x ∷ xs) (suc i) all = (all.0, series_front s xs i all.1)

of_back : (s : ℕ) (xs : List Entry) (i : ℕ) → OfSeries s xs → OfSeries s (drop i xs)
of_back s xs zero of = of
of_back s [] (suc i) of = of
of_back s (x ∷ xs) (suc i) of = of_back s xs i (of.0.1, of.1.1)

both : (P Q : Entry → Type 0) (xs : List Entry) → AllByRecursion P xs → AllByRecursion Q xs → AllByRecursion (λ x. P x × Q x) xs
both P Q [] one two = tt
both P Q (x ∷ xs) one two = ((one.0, two.0), both P Q xs one.1 two.1)

is_before : (s t : ℕ) (x : Entry) → (x.series ≡ s) × (x.part.start < t) → comes_before (place x) (s, t) ≡ true
is_before s t x is = grind (arith, nat_tests)

not_before : (s t : ℕ) (x : Entry) → (x.series ≡ s) × (t ≤ x.part.start) → comes_before (place x) (s, t) ≡ false
not_before s t x is = grind (arith, nat_tests)

is_behind : (s t : ℕ) (x : Entry) → (x.series ≡ s) × (t < x.part.start) → comes_before (s, t) (place x) ≡ true
is_behind s t x is = grind (arith, nat_tests)

not_behind : (s t : ℕ) (x : Entry) → (x.series ≡ s) × (x.part.start ≤ t) → comes_before (s, t) (place x) ≡ false
not_behind s t x is = grind (arith, nat_tests)

not_there : (s t : ℕ) (x : Entry) → (x.part.start < t) → is_place (place x) (s, t) ≡ false
not_there s t x is = grind (arith, nat_tests)

not_there_yet : (s t : ℕ) (x : Entry) → (t < x.part.start) → is_place (place x) (s, t) ≡ false
not_there_yet s t x is = grind (arith, nat_tests)

there : (s t : ℕ) (x : Entry) → x.series ≡ s → x.part.start ≡ t → is_place (place x) (s, t) ≡ true
there s t x series start = grind (arith, nat_tests)

none_any : (test : Entry → Bool) (xs : List Entry) → AllByRecursion (λ x. test x ≡ false) xs → list_any test xs ≡ false
none_any test [] all = refl
none_any test (x ∷ xs) all = ap (λ (b : Bool). b || list_any test xs) all.0 ∙ none_any test xs all.1

module _ (s t : ℕ) (xs : List Entry) (i : ℕ) (of : OfSeries s xs) (le : i ≤ length xs) (low : AllWithin (λ e. Front t e ≡ true) xs 0 i) (high : AllWithin (λ e. Front t e ≡ false) xs i (length xs)) where
  abbrev front : List Entry
  front = take i xs

  abbrev back : List Entry
  back = drop i xs

  split : xs ≡ front ++ back
  split = sym (take-append-drop i xs)

  lower : AllByRecursion (λ e. (e.series ≡ s) × (e.part.start < t)) front
  lower = both (λ e. e.series ≡ s) (λ e. e.part.start < t) front (series_front s xs i of.0) (each (λ e. Front t e ≡ true) (λ e. e.part.start < t) (before_from_test t) front (all_front (λ e. Front t e ≡ true) xs i le low))

  higher : AllByRecursion (λ e. (e.series ≡ s) × (t ≤ e.part.start)) back
  higher = both (λ e. e.series ≡ s) (λ e. t ≤ e.part.start) back (of_back s xs i of).0 (each (λ e. Front t e ≡ false) (λ e. t ≤ e.part.start) (λ e is. grind (arith, nat_tests)) back (all_back (λ e. Front t e ≡ false) xs i le high))

  before_is : filter (λ e. comes_before (place e) (s, t)) xs ≡ front
  before_is =
      let test : Entry → Bool = λ e. comes_before (place e) (s, t) in
      ap (λ (l : List Entry). filter test l) split
      ∙ filter-append test front back
      ∙ ap (λ (l : List Entry). l ++ filter test back) (filter_all test front (each (λ e. (e.series ≡ s) × (e.part.start < t)) (λ e. test e ≡ true) (is_before s t) front lower))
      ∙ ap (λ (l : List Entry). front ++ l) (filter_none test back (each (λ e. (e.series ≡ s) × (t ≤ e.part.start)) (λ e. test e ≡ false) (not_before s t) back higher))
      ∙ append-nil front

  behind_back : filter (λ e. comes_before (s, t) (place e)) xs ≡ filter (λ e. comes_before (s, t) (place e)) back
  behind_back =
      let test : Entry → Bool = λ e. comes_before (s, t) (place e) in
      ap (λ (l : List Entry). filter test l) split
      ∙ filter-append test front back
      ∙ ap (λ (l : List Entry). l ++ filter test back) (filter_none test front (each (λ e. (e.series ≡ s) × (e.part.start < t)) (λ e. test e ≡ false) (λ x is. not_behind s t x (is.0, omega (arith, is.1))) front lower))

  none_before : list_any (λ e. is_place (place e) (s, t)) xs ≡ list_any (λ e. is_place (place e) (s, t)) back
  none_before =
      let test : Entry → Bool = λ e. is_place (place e) (s, t) in
      ap (λ (l : List Entry). list_any test l) split
      ∙ list_any-append test front back
      ∙ ap (λ (b : Bool). b || list_any test back) (none_any test front (each (λ e. (e.series ≡ s) × (e.part.start < t)) (λ e. test e ≡ false) (λ x is. not_there s t x is.1) front lower))

  -- nothing begins there
  module _ (apart : (d : Entry) → i < length xs → (get_or xs i d).part.start ≡ t → ⊥) where
    beyond : (ys : List Entry) → OfSeries s ys → AllByRecursion (λ e. (e.series ≡ s) × (t ≤ e.part.start)) ys → ((d : Entry) → 0 < length ys → (get_or ys 0 d).part.start ≡ t → ⊥) → AllByRecursion (λ e. (e.series ≡ s) × (t < e.part.start)) ys
    beyond [] of all first = tt
    beyond (y ∷ ys) of all first =
        let more : t < y.part.start = elim (cases_order t y.part.start) [
          | inl is ↦ absurd (first y (omega arith) (sym is))
          | inr other ↦ elim other [ inl less ↦ less | inr less ↦ absurd (omega (arith, less, all.0.1)) ]
        ] in
        ((all.0.0, more), both (λ e. e.series ≡ s) (λ e. t < e.part.start) ys of.0.1 (each (λ x. (x.series ≡ s) × (comes_before (place y) (place x) ≡ true)) (λ x. t < x.part.start) (λ x is. omega (arith, more, later s y x all.0.0 is.0 is.1)) ys (both (λ x. x.series ≡ s) (λ x. comes_before (place y) (place x) ≡ true) ys of.0.1 of.1.0)))

    all_beyond : AllByRecursion (λ e. (e.series ≡ s) × (t < e.part.start)) back
    all_beyond = beyond back (of_back s xs i of) higher (λ d some is. apart d (omega (arith, some, length-drop i xs)) (ap (λ (k : ℕ). (get_or xs k d).part.start) (omega arith) ∙ ap (λ (e : Entry). e.part.start) (sym (get_or-drop i xs 0 d)) ∙ is))

    pub around_none : IsAround (s, t) xs i i
    around_none = record {
      before = before_is;
      behind = behind_back ∙ filter_all (λ e. comes_before (s, t) (place e)) back (each (λ e. (e.series ≡ s) × (t < e.part.start)) (λ e. comes_before (s, t) (place e) ≡ true) (is_behind s t) back all_beyond);
    }

    pub not_listed : is_listed xs (s, t) ≡ false
    not_listed = none_before ∙ none_any (λ e. is_place (place e) (s, t)) back (each (λ e. (e.series ≡ s) × (t < e.part.start)) (λ e. is_place (place e) (s, t) ≡ false) (λ x is. not_there_yet s t x is.1) back all_beyond)

  -- an entry begins there
  module _ (e : Entry) (within : i < length xs) (here : e ≡ get_or xs i e) (start : e.part.start ≡ t) where
    back_is : back ≡ e ∷ drop (i + 1) xs
    back_is = drop_more xs i e within ∙ ap (λ (x : Entry). x ∷ drop (i + 1) xs) (sym here)

    own_back : OfSeries s (e ∷ drop (i + 1) xs)
    own_back = let P : List Entry → Type 0 = λ l. OfSeries s l in subst P back_is (of_back s xs i of)

    pub around_one : IsAround (s, t) xs i (i + 1)
    around_one =
        let test : Entry → Bool = λ x. comes_before (s, t) (place x) in
        let rest = drop (i + 1) xs in
        let own : AllByRecursion (λ x. (x.series ≡ s) × (comes_before (place e) (place x) ≡ true)) rest = both (λ x. x.series ≡ s) (λ x. comes_before (place e) (place x) ≡ true) rest own_back.0.1 own_back.1.0 in
        let first : filter test (e ∷ []) ≡ [] = filter_none test (e ∷ []) (not_behind s t e (own_back.0.0, omega (arith, start)), tt) in
        record {
          before = before_is;
          behind = behind_back
              ∙ ap (λ (l : List Entry). filter test l) back_is
              ∙ filter-append test (e ∷ []) rest
              ∙ ap (λ (l : List Entry). l ++ filter test rest) first
              ∙ filter_all test rest (each (λ x. (x.series ≡ s) × (comes_before (place e) (place x) ≡ true)) (λ x. test x ≡ true) (λ x is. is_behind s t x (is.0, omega (arith, start, later s e x own_back.0.0 is.0 is.1))) rest own);
        }

    pub is_there : is_listed xs (s, t) ≡ true
    is_there =
        let test : Entry → Bool = λ x. is_place (place x) (s, t) in
        none_before ∙ ap (λ (l : List Entry). list_any test l) back_is ∙ ap (λ (b : Bool). b || list_any test (drop (i + 1) xs)) (there s t e own_back.0.0 start)

-- A SPLICE

pub spliced_around : (p : Place) (xs mid : List Entry) (low high : ℕ) → IsAround p xs low high → take low xs ++ (mid ++ drop high xs) ≡ spliced place p mid xs
spliced_around p xs mid low high around = ap (λ (l : List Entry). l ++ (mid ++ drop high xs)) (sym around.before) ∙ ap (λ (l : List Entry). filter (λ y. comes_before (place y) p) xs ++ (mid ++ l)) (sym around.behind)

-- THE ENTRY AT A MOMENT

-- the entry behind those that begin before the moment begins then, or none does
pub listed_at : (s t : ℕ) (xs : List Entry) (i : ℕ) (d : Entry) → OfSeries s xs → i ≤ length xs → IsPartitionPoint (λ x. nat_lt x.part.start t ≡ true) (λ x. nat_lt x.part.start t ≡ false) xs i → i < length xs → ((get_or xs i d).part.start == t) ≡ is_listed xs (s, t)
listed_at s t xs i d of le point within = go ((get_or xs i d).part.start == t) refl
  where
    go : (b : Bool) → ((get_or xs i d).part.start == t) ≡ b → b ≡ is_listed xs (s, t)
    go true is = sym (is_there s t xs i of le point.0 point.1 (get_or xs i d) within (get_or_default xs i d (get_or xs i d) within) ((Decides-eqb (get_or xs i d).part.start t).0 is))
    go false is = sym (not_listed s t xs i of le point.0 point.1 (λ e low start.
        let yes : ((get_or xs i d).part.start == t) ≡ true = (Decides-eqb (get_or xs i d).part.start t).1 (ap (λ (x : Entry). x.part.start) (get_or_default xs i d e low) ∙ start) in
        absurd (cc (yes, is))))

pub none_at : (s t : ℕ) (xs : List Entry) (i : ℕ) → OfSeries s xs → i ≤ length xs → IsPartitionPoint (λ x. nat_lt x.part.start t ≡ true) (λ x. nat_lt x.part.start t ≡ false) xs i → length xs ≤ i → false ≡ is_listed xs (s, t)
none_at s t xs i of le point behind = sym (not_listed s t xs i of le point.0 point.1 (λ d low start. absurd (omega (arith, low, behind))))
