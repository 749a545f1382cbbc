-- All entries, series by series: what a change of one series' list makes of them.
use Rattle.std.proofs.Common.{◌≡◌, inl, inr, ℕ, ◌<◌, ◌==◌, ◌&&◌, ◌||◌, Bool, true, false, cond, List, [], ◌∷◌, ◌++◌, Option, Some, None, Ordering, refl, sym, ◌∙◌, ap, subst, arith, append_assoc, append-nil}
use Rattle.std.proofs.lemmas.Bool.{cases_order}
use Rattle.std.proofs.lemmas.Bool.Decides.{nat_tests}
use Rattle.std.proofs.lemmas.Cmp.{nat_cmp_total}
use Rattle.std.proofs.lemmas.List.Elements.{filter-append}
use Rattle.std.proofs.lemmas.Map.{lookup-none}
use Rattle.std.proofs.lemmas.Map.Entries.{none_below_head}
use Rattle.std.proofs.lemmas.Map.Keys.{sorted_head, sorted_tail}
use Rattle.std.specs.BTreeMap.{is_at, insert_entry}
use Rattle.std.specs.List.{filter, flat_map, AllByRecursion}
use Rattle.std.specs.List.Sorted.{IsStrictlySortedBy}
use Rattle.std.specs.Map.{keys_of, set_value}
use Rattle.std.specs.Ordering.{nat_cmp, is_eq, match_ordering}
use Rattle.std.specs.declared.cmp.Ordering.TheVariants.{Less, Equal, Greater}
use Rattle.store_manifest.specs.EntryList.{ListState}
use Rattle.store_manifest.specs.declared.entry.Entry.{Entry}
use Rattle.store_manifest.specs.Entries.{Place, place, comes_before, is_place, is_listed, spliced}
use Rattle.store_manifest.specs.Listing.{Slot, list_of, own, OfSeries}
use Rattle.store_manifest.proofs.Changes.{filter_all, filter_none, each, joined}

-- ORDER

less_is : (s k : ℕ) → s < k → nat_cmp s k ≡ Less
less_is s k h = grind (arith, nat_tests)

greater_is : (s k : ℕ) → k < s → nat_cmp s k ≡ Greater
greater_is s k h = grind (arith, nat_tests)

equal_is : (s k : ℕ) → s ≡ k → nat_cmp s k ≡ Equal
equal_is s k h = grind (arith, nat_tests)

less_means : (s k : ℕ) → nat_cmp s k ≡ Less → s < k
less_means s k h = grind (arith, nat_tests)

equal_means : (s k : ℕ) → nat_cmp s k ≡ Equal → s ≡ k
equal_means s k h = grind (arith, nat_tests)

abbrev Ordered : List Slot → Type 0
Ordered slots = IsStrictlySortedBy nat_cmp (keys_of slots)

abbrev AllAbove : ℕ → List Slot → Type 0
AllAbove s slots = AllByRecursion (λ k. nat_cmp s k ≡ Less) (keys_of slots)

abbrev Owns : (Slot → List Entry) → List Slot → Type 0
Owns p slots = AllByRecursion (λ slot. OfSeries slot.0 (p slot)) slots

-- FINDING

found_here : (s : ℕ) (e : Slot) (es : List Slot) → s ≡ e.0 → list_of s (e ∷ es) ≡ Some e.1
found_here s e es is = ap (λ (o : Ordering). cond (is_eq o) (Some e.1) (list_of s es)) (equal_is s e.0 is)

found_later : (s : ℕ) (e : Slot) (es : List Slot) → e.0 < s → list_of s (e ∷ es) ≡ list_of s es
found_later s e es is = ap (λ (o : Ordering). cond (is_eq o) (Some e.1) (list_of s es)) (greater_is s e.0 is)

not_found : (s : ℕ) (e : Slot) (es : List Slot) → Ordered (e ∷ es) → s < e.0 → list_of s (e ∷ es) ≡ None
not_found s e es ordered is = lookup-none (is_at (nat_cmp s)) (e ∷ es) (none_below_head nat_cmp_total s e es ordered (less_is s e.0 is))

-- each entry of slots above a series is above it
above : (s : ℕ) (p : Slot → List Entry) (es : List Slot) → Owns p es → AllAbove s es → AllByRecursion (λ x. s < x.series) (flat_map p es)
above s p [] owns high = tt
above s p (e ∷ es) owns high =
    joined (λ x. s < x.series) (p e) (flat_map p es) (each (λ x. x.series ≡ e.0) (λ x. s < x.series) (λ x is. omega (arith, is, less_means s e.0 high.0)) (p e) owns.0.0) (above s p es owns.1 high.1)

before_low : (q : Place) (x : Entry) → x.series < q.0 → comes_before (place x) q ≡ true
before_low q x low = grind (arith, nat_tests)

behind_low : (q : Place) (x : Entry) → x.series < q.0 → comes_before q (place x) ≡ false
behind_low q x low = grind (arith, nat_tests)

before_high : (q : Place) (x : Entry) → q.0 < x.series → comes_before (place x) q ≡ false
before_high q x high = grind (arith, nat_tests)

behind_high : (q : Place) (x : Entry) → q.0 < x.series → comes_before q (place x) ≡ true
behind_high q x high = grind (arith, nat_tests)

-- what stands before all of a series stays before it, and what stands behind, behind
spliced_low : (q : Place) (mid xs ys : List Entry) → AllByRecursion (λ x. x.series < q.0) xs → spliced place q mid (xs ++ ys) ≡ xs ++ spliced place q mid ys
spliced_low q mid xs ys low =
    let before : Entry → Bool = λ y. comes_before (place y) q in
    let behind : Entry → Bool = λ y. comes_before q (place y) in
    let front : filter before (xs ++ ys) ≡ xs ++ filter before ys = filter-append before xs ys ∙ ap (λ (l : List Entry). l ++ filter before ys) (filter_all before xs (each (λ x. x.series < q.0) (λ x. before x ≡ true) (before_low q) xs low)) in
    let back : filter behind (xs ++ ys) ≡ filter behind ys = filter-append behind xs ys ∙ ap (λ (l : List Entry). l ++ filter behind ys) (filter_none behind xs (each (λ x. x.series < q.0) (λ x. behind x ≡ false) (behind_low q) xs low)) in
    ap (λ (l : List Entry). l ++ (mid ++ filter behind (xs ++ ys))) front
    ∙ ap (λ (l : List Entry). (xs ++ filter before ys) ++ (mid ++ l)) back
    ∙ append_assoc xs (filter before ys) (mid ++ filter behind ys)

spliced_high : (q : Place) (mid xs ys : List Entry) → AllByRecursion (λ x. q.0 < x.series) ys → spliced place q mid (xs ++ ys) ≡ spliced place q mid xs ++ ys
spliced_high q mid xs ys high =
    let before : Entry → Bool = λ y. comes_before (place y) q in
    let behind : Entry → Bool = λ y. comes_before q (place y) in
    let front : filter before (xs ++ ys) ≡ filter before xs =
    filter-append before xs ys ∙ ap (λ (l : List Entry). filter before xs ++ l) (filter_none before ys (each (λ x. q.0 < x.series) (λ x. before x ≡ false) (before_high q) ys high)) ∙ append-nil (filter before xs) in
    let back : filter behind (xs ++ ys) ≡ filter behind xs ++ ys = filter-append behind xs ys ∙ ap (λ (l : List Entry). filter behind xs ++ l) (filter_all behind ys (each (λ x. q.0 < x.series) (λ x. behind x ≡ true) (behind_high q) ys high)) in
    ap (λ (l : List Entry). l ++ (mid ++ filter behind (xs ++ ys))) front
    ∙ ap (λ (l : List Entry). filter before xs ++ (mid ++ l)) back
    ∙ ap (λ (l : List Entry). filter before xs ++ l) (sym (append_assoc mid (filter behind xs) ys))
    ∙ sym (append_assoc (filter before xs) (mid ++ filter behind xs) ys)

-- SLOTS

above_head : (e : Slot) (es : List Slot) (s : ℕ) → Ordered (e ∷ es) → e.0 ≡ s → AllAbove s es
above_head e es s ordered is = let P : ℕ → Type 0 = λ k. AllAbove k es in subst P is (sorted_head nat_cmp e.0 (keys_of es) ordered)

lows : (q : Place) (xs : List Entry) (k : ℕ) → OfSeries k xs → k < q.0 → AllByRecursion (λ x. x.series < q.0) xs
lows q xs k owns less = each (λ x. x.series ≡ k) (λ x. x.series < q.0) (λ x is. omega (arith, is, less)) xs owns.0

-- a splice into the list of one series is a splice into all
pub spliced_value : (q : Place) (mid : List Entry) (v w : ListState) → w.items ≡ spliced place q mid v.items
    → (es : List Slot) → Ordered es → Owns own es → list_of q.0 es ≡ Some v → flat_map own (set_value (is_at (nat_cmp q.0)) es w) ≡ spliced place q mid (flat_map own es)
spliced_value q mid v w changed [] ordered owns there = let no : None ≡ Some v = there in cc no
spliced_value q mid v w changed (e ∷ es) ordered owns there = elim (cases_order e.0 q.0) [
  | inl is ↦
      let found : Some e.1 ≡ Some v = sym (found_here q.0 e es (sym is)) ∙ there in
      let list : v ≡ e.1 = cc found in
      ap (λ (o : Ordering). flat_map own (cond (is_eq o) ((e.0, w) ∷ es) (e ∷ set_value (is_at (nat_cmp q.0)) es w))) (equal_is q.0 e.0 (sym is))
      ∙ ap (λ (l : List Entry). l ++ flat_map own es) (changed ∙ ap (λ (x : ListState). spliced place q mid x.items) list)
      ∙ sym (spliced_high q mid (own e) (flat_map own es) (above q.0 own es owns.1 (above_head e es q.0 ordered is)))
  | inr other ↦ elim other [
    | inl less ↦
        ap (λ (o : Ordering). flat_map own (cond (is_eq o) ((e.0, w) ∷ es) (e ∷ set_value (is_at (nat_cmp q.0)) es w))) (greater_is q.0 e.0 less)
        ∙ ap (λ (l : List Entry). own e ++ l) (spliced_value q mid v w changed es (sorted_tail nat_cmp e.0 (keys_of es) ordered) owns.1 (sym (found_later q.0 e es less) ∙ there))
        ∙ sym (spliced_low q mid (own e) (flat_map own es) (lows q (own e) e.0 owns.0 less))
    | inr more ↦ let no : None ≡ Some v = sym (not_found q.0 e es ordered more) ∙ there in absurd (cc no)
  ]
]

-- a list in place of another
pub owns_value : (s : ℕ) (w : ListState) → OfSeries s w.items → (es : List Slot) → Owns own es → Owns own (set_value (is_at (nat_cmp s)) es w)
owns_value s w of [] owns = tt
owns_value s w of (e ∷ es) owns = go (owns_value s w of es owns.1) (nat_cmp s e.0) refl
  where
    go : Owns own (set_value (is_at (nat_cmp s)) es w) → (o : Ordering) → nat_cmp s e.0 ≡ o → Owns own (cond (is_eq o) ((e.0, w) ∷ es) (e ∷ set_value (is_at (nat_cmp s)) es w))
    go rest Less is = (owns.0, rest)
    go rest Equal is = let P : ℕ → Type 0 = λ k. OfSeries k w.items in (subst P (equal_means s e.0 is) of, owns.1)
    go rest Greater is = (owns.0, rest)

-- a list in place of one with the same entries
pub same_value : (s : ℕ) (v w : ListState) → w.items ≡ v.items → (es : List Slot) → list_of s es ≡ Some v → flat_map own (set_value (is_at (nat_cmp s)) es w) ≡ flat_map own es
same_value s v w same [] there = refl
same_value s v w same (e ∷ es) there = go (same_value s v w same es) (nat_cmp s e.0) there
  where
    go : (list_of s es ≡ Some v → flat_map own (set_value (is_at (nat_cmp s)) es w) ≡ flat_map own es) → (o : Ordering) → cond (is_eq o) (Some e.1) (list_of s es) ≡ Some v
        → flat_map own (cond (is_eq o) ((e.0, w) ∷ es) (e ∷ set_value (is_at (nat_cmp s)) es w)) ≡ flat_map own (e ∷ es)
    go rest Less there = ap (λ (l : List Entry). own e ++ l) (rest there)
    go rest Equal there = let is : e.1 ≡ v = cc there in ap (λ (l : List Entry). l ++ flat_map own es) (same ∙ ap (λ (x : ListState). x.items) (sym is))
    go rest Greater there = ap (λ (l : List Entry). own e ++ l) (rest there)

-- the entries in the list that was found, or none
abbrev pub shown : (Slot → List Entry) → ℕ → Option ListState → List Entry
shown p s None = []
shown p s (Some v) = p (s, v)

-- and they are of the series
pub shown_series : (s : ℕ) (p : Slot → List Entry) (es : List Slot) → Owns p es → OfSeries s (shown p s (list_of s es))
shown_series s p [] owns = (tt, tt)
shown_series s p (e ∷ es) owns = go (shown_series s p es owns.1) (nat_cmp s e.0) refl
  where
    go : OfSeries s (shown p s (list_of s es)) → (o : Ordering) → nat_cmp s e.0 ≡ o → OfSeries s (shown p s (cond (is_eq o) (Some e.1) (list_of s es)))
    go rest Less is = rest
    go rest Equal is = let P : ℕ → Type 0 = λ k. OfSeries k (p (k, e.1)) in subst P (sym (equal_means s e.0 is)) owns.0
    go rest Greater is = rest

of_other : (s : ℕ) (x : Entry) (k : ℕ) → x.series ≡ k → (k ≡ s → ⊥) → (x.series == s) ≡ false
of_other s x k is apart = grind (arith, nat_tests)

of_this : (s : ℕ) (x : Entry) → x.series ≡ s → (x.series == s) ≡ true
of_this s x is = grind (arith, nat_tests)

none_above : (s : ℕ) (xs : List Entry) → AllByRecursion (λ x. s < x.series) xs → filter (λ x. x.series == s) xs ≡ []
none_above s xs high = filter_none (λ x. x.series == s) xs (each (λ x. s < x.series) (λ x. (x.series == s) ≡ false) (λ x h. of_other s x x.series refl (λ is. omega (arith, is, h))) xs high)

-- the entries of one series are those of its slot
pub series_slots : (s : ℕ) (p : Slot → List Entry) (es : List Slot) → Ordered es → Owns p es → filter (λ x. x.series == s) (flat_map p es) ≡ shown p s (list_of s es)
series_slots s p [] ordered owns = refl
series_slots s p (e ∷ es) ordered owns =
    let test : Entry → Bool = λ x. x.series == s in
    let apart = filter-append test (p e) (flat_map p es) in
    elim (cases_order e.0 s) [
      | inl is ↦
          apart
          ∙ ap (λ (l : List Entry). l ++ filter test (flat_map p es)) (filter_all test (p e) (each (λ x. x.series ≡ e.0) (λ x. test x ≡ true) (λ x h. of_this s x (h ∙ is)) (p e) owns.0.0))
          ∙ ap (λ (l : List Entry). p e ++ l) (none_above s (flat_map p es) (above s p es owns.1 (above_head e es s ordered is)))
          ∙ append-nil (p e)
          ∙ ap (λ (k : ℕ). p (k, e.1)) is
          ∙ ap (λ (o : Option ListState). shown p s o) (sym (found_here s e es (sym is)))
      | inr other ↦ elim other [
        | inl less ↦
            apart
            ∙ ap (λ (l : List Entry). l ++ filter test (flat_map p es)) (filter_none test (p e) (each (λ x. x.series ≡ e.0) (λ x. test x ≡ false) (λ x h. of_other s x e.0 h (λ is. omega (arith, is, less))) (p e) owns.0.0))
            ∙ series_slots s p es (sorted_tail nat_cmp e.0 (keys_of es) ordered) owns.1
            ∙ ap (λ (o : Option ListState). shown p s o) (sym (found_later s e es less))
        | inr more ↦
            apart
            ∙ ap (λ (l : List Entry). l ++ filter test (flat_map p es)) (none_above s (p e) (each (λ x. x.series ≡ e.0) (λ x. s < x.series) (λ x h. omega (arith, h, more)) (p e) owns.0.0))
            ∙ none_above s (flat_map p es) (above s p es owns.1 (high_tail s e es ordered more))
            ∙ ap (λ (o : Option ListState). shown p s o) (sym (not_found s e es ordered more))
      ]
    ]
  where
    raise : (s k : ℕ) (ks : List ℕ) → s < k → AllByRecursion (λ y. nat_cmp k y ≡ Less) ks → AllByRecursion (λ y. nat_cmp s y ≡ Less) ks
    raise s k [] less all = tt
    raise s k (y ∷ ks) less all = (less_is s y (omega (arith, less, less_means k y all.0)), raise s k ks less all.1)

    high_tail : (s : ℕ) (e : Slot) (es : List Slot) → Ordered (e ∷ es) → s < e.0 → AllAbove s es
    high_tail s e es ordered less = raise s e.0 (keys_of es) less (sorted_head nat_cmp e.0 (keys_of es) ordered)

-- an entry of the series at a place is an entry at that place
pub listed_at : (s t : ℕ) (xs : List Entry) → is_listed (filter (λ e. e.series == s) xs) (s, t) ≡ is_listed xs (s, t)
listed_at s t [] = refl
listed_at s t (x ∷ xs) = go (listed_at s t xs) (x.series == s) refl
  where
    go : (is_listed (filter (λ e. e.series == s) xs) (s, t) ≡ is_listed xs (s, t)) → (b : Bool) → (x.series == s) ≡ b → is_listed (cond b (x ∷ filter (λ e. e.series == s) xs) (filter (λ e. e.series == s) xs)) (s, t) ≡ is_listed (x ∷ xs) (s, t)
    go rest true is = ap (λ (b : Bool). is_place (place x) (s, t) || b) rest
    go rest false is = rest ∙ ap (λ (b : Bool). (b && (x.part.start == t)) || is_listed xs (s, t)) (sym is)

-- a new list that shows nothing changes nothing
pub empty_slot : (s : ℕ) (v : ListState) (p : Slot → List Entry) (es : List Slot) → p (s, v) ≡ [] → list_of s es ≡ None → flat_map p (insert_entry nat_cmp es s v) ≡ flat_map p es
empty_slot s v p [] empty none = ap (λ (l : List Entry). l ++ []) empty
empty_slot s v p (e ∷ es) empty none = go (empty_slot s v p es empty) (nat_cmp s e.0) none
  where
    go : (list_of s es ≡ None → flat_map p (insert_entry nat_cmp es s v) ≡ flat_map p es) → (o : Ordering) → cond (is_eq o) (Some e.1) (list_of s es) ≡ None → flat_map p (match_ordering o ((s, v) ∷ e ∷ es) ((e.0, v) ∷ es) (e ∷ insert_entry nat_cmp es s v)) ≡ flat_map p (e ∷ es)
    go rest Less none = ap (λ (l : List Entry). l ++ flat_map p (e ∷ es)) empty
    go rest Equal none = let some : Some e.1 ≡ None = none in cc
    go rest Greater none = ap (λ (l : List Entry). p e ++ l) (rest none)

-- what holds of each slot holds with one more
pub slot_more : (P : Slot → Type 0) (s : ℕ) (v : ListState) (es : List Slot) → ((k : ℕ) → s ≡ k → P (k, v)) → AllByRecursion P es → AllByRecursion P (insert_entry nat_cmp es s v)
slot_more P s v [] new all = (new s refl, tt)
slot_more P s v (e ∷ es) new all = go (slot_more P s v es new all.1) (nat_cmp s e.0) refl
  where
    go : AllByRecursion P (insert_entry nat_cmp es s v) → (o : Ordering) → nat_cmp s e.0 ≡ o → AllByRecursion P (match_ordering o ((s, v) ∷ e ∷ es) ((e.0, v) ∷ es) (e ∷ insert_entry nat_cmp es s v))
    go rest Less is = (new s refl, all)
    go rest Equal is = (new e.0 (equal_means s e.0 is), all.1)
    go rest Greater is = (all.0, rest)
