-- One list more, more room in one, and a change in one.
use Rattle.std.proofs.Common.{◌≡◌, inl, inr, ℕ, ◌+◌, ◌≤◌, ◌==◌, Bool, true, false, cond, List, [], ◌∷◌, ◌++◌, length, Option, Some, None, IsSome, IfSome, refl, sym, ◌∙◌, ap, subst, arith}
use Rattle.std.proofs.lemmas.Bool.{cases_eq}
use Rattle.std.proofs.lemmas.Bool.Decides.{nat_tests}
use Rattle.std.specs.BTreeMap.{is_at, insert_entry}
use Rattle.std.specs.List.{filter, flat_map, AllByRecursion}
use Rattle.std.specs.List.Sorted.{IsStrictlySortedBy}
use Rattle.std.specs.Map.{keys_of, set_value}
use Rattle.std.specs.Option.{is_some}
use Rattle.std.specs.Ordering.{nat_cmp}
use Rattle.store_manifest.specs.EntryList.{ListState}
use Rattle.store_manifest.specs.declared.entry.Entry.{Entry}
use Rattle.store_manifest.specs.declared.entry.Change.{Change}
use Rattle.store_manifest.specs.declared.entry.Change.TheVariants.{Set, Drop}
use Rattle.store_manifest.specs.Entries.{place_of, changed}
use Rattle.store_manifest.specs.Listing.{Slot, list_of, own, OfSeries, AreLists, sets, sets_in, HasRoom, KeepsLists}
use Rattle.store_manifest.proofs.Changes.{mid_of, changed_is, order_changed, each_changed}
use Rattle.store_manifest.proofs.Slots.{shown, shown_series, series_slots, spliced_value, owns_value, same_value, empty_slot, slot_more}

pub at_same : (s q : ℕ) → s ≡ q → is_at (nat_cmp s) q ≡ true
at_same s q is = grind (arith, nat_tests)

pub at_other : (s q : ℕ) → (q ≡ s → ⊥) → is_at (nat_cmp s) q ≡ false
at_other s q apart = grind (arith, nat_tests)

-- the lists are the same but for that of one series
abbrev pub Differ : List Slot → List Slot → ℕ → Option ListState → Type 0
Differ old new s w = (q : ℕ) → list_of q new ≡ cond (is_at (nat_cmp s) q) w (list_of q old)

pub differ_other : (old new : List Slot) (s q : ℕ) (w : Option ListState) → Differ old new s w → (q ≡ s → ⊥) → list_of q new ≡ list_of q old
differ_other old new s q w differ apart = differ q ∙ ap (λ (b : Bool). cond b w (list_of q old)) (at_other s q apart)

pub none_from_test : (o : Option ListState) → is_some o ≡ false → o ≡ None
none_from_test None test = refl
none_from_test (Some w) test = let no : true ≡ false = test in absurd (cc no)

-- SHOWING

pub shows_own : (s : ℕ) (slots : List Slot) → AreLists slots → filter (λ x. x.series == s) (flat_map own slots) ≡ shown own s (list_of s slots)
shows_own s slots are = series_slots s own slots are.ordered are.own_entries

pub own_series : (s : ℕ) (slots : List Slot) (v : ListState) → AreLists slots → list_of s slots ≡ Some v → OfSeries s v.items
own_series s slots v are is =
    let P : Option ListState → Type 0 = λ o. OfSeries s (shown own s o) in subst P is (shown_series s own slots are.own_entries)

-- the entries of a series are of the series, in order
pub shown_own : (s : ℕ) (slots : List Slot) → AreLists slots → OfSeries s (filter (λ x. x.series == s) (flat_map own slots))
shown_own s slots are = let P : List Entry → Type 0 = λ l. OfSeries s l in subst P (sym (shows_own s slots are)) (shown_series s own slots are.own_entries)

-- A LIST MORE

pub opened : (s : ℕ) (v : ListState) (old new : List Slot) → AreLists old → v.items ≡ [] → IsStrictlySortedBy nat_cmp (keys_of new) → new ≡ insert_entry nat_cmp old s v → AreLists new
opened s v old new are empty ordered is =
    let P : List Slot → Type 0 = λ l. AllByRecursion (λ slot. OfSeries slot.0 (own slot)) l in
    record {
      ordered = ordered;
      own_entries = subst P (sym is) (slot_more (λ slot. OfSeries slot.0 (own slot)) s v old (λ k at. let Q : List Entry → Type 0 = λ l. OfSeries k l in subst Q (sym empty) (tt, tt)) are.own_entries);
    }

pub opened_entries : (s : ℕ) (v : ListState) (old new : List Slot) → v.items ≡ [] → new ≡ insert_entry nat_cmp old s v → list_of s old ≡ None → flat_map own new ≡ flat_map own old
opened_entries s v old new empty is none = ap (λ (l : List Slot). flat_map own l) is ∙ empty_slot s v own old empty none

-- MORE ROOM

module _ (s : ℕ) (v w : ListState) (old new : List Slot) (are : AreLists old) (there : list_of s old ≡ Some v) (is : new ≡ set_value (is_at (nat_cmp s)) old w) (ordered : IsStrictlySortedBy nat_cmp (keys_of new)) where
  pub value_lists : OfSeries s w.items → AreLists new
  value_lists of =
      let P : List Slot → Type 0 = λ l. AllByRecursion (λ slot. OfSeries slot.0 (own slot)) l in
      record { ordered = ordered; own_entries = subst P (sym is) (owns_value s w of old are.own_entries) }

  pub roomy_lists : w.items ≡ v.items → AreLists new
  roomy_lists same = let P : List Entry → Type 0 = λ l. OfSeries s l in value_lists (subst P (sym same) (own_series s old v are there))

  pub roomy_entries : w.items ≡ v.items → flat_map own new ≡ flat_map own old
  roomy_entries same = ap (λ (l : List Slot). flat_map own l) is ∙ same_value s v w same old there

-- A CHANGE

mid_series : (c : Change) → AllByRecursion (λ e. e.series ≡ (place_of c).0) (mid_of c)
mid_series (Set e) = (refl, tt)
mid_series (Drop series start) = tt

changed_series : (xs : List Entry) (c : Change) → OfSeries (place_of c).0 xs → OfSeries (place_of c).0 (changed xs c)
changed_series xs c all = (each_changed (λ e. e.series ≡ (place_of c).0) xs c all.0 (mid_series c), order_changed xs c all.1)

module _ (c : Change) (v w : ListState) (old new : List Slot) (are : AreLists old) (there : list_of (place_of c).0 old ≡ Some v) (made : w.items ≡ changed v.items c) (is : new ≡ set_value (is_at (nat_cmp (place_of c).0)) old w) where
  pub changed_lists : IsStrictlySortedBy nat_cmp (keys_of new) → AreLists new
  changed_lists ordered =
      let P : List Entry → Type 0 = λ l. OfSeries (place_of c).0 l in
      value_lists (place_of c).0 v w old new are there is ordered (subst P (sym made) (changed_series v.items c (own_series (place_of c).0 old v are there)))

  pub changed_entries : flat_map own new ≡ changed (flat_map own old) c
  changed_entries =
      ap (λ (l : List Slot). flat_map own l) is
      ∙ spliced_value (place_of c) (mid_of c) v w (made ∙ changed_is v.items c) old are.ordered are.own_entries there
      ∙ sym (changed_is (flat_map own old) c)

-- ROOM

sets_here : (s : ℕ) (c : Change) (cs : List Change) → (place_of c).0 ≡ s → sets_in s (c ∷ cs) ≡ sets c + sets_in s cs
sets_here s c cs is = let test : ((place_of c).0 == s) ≡ true = grind (arith, nat_tests) in ap (λ (b : Bool). cond b (sets c) 0 + sets_in s cs) test

sets_there : (s : ℕ) (c : Change) (cs : List Change) → ((place_of c).0 ≡ s → ⊥) → sets_in s (c ∷ cs) ≡ sets_in s cs
sets_there s c cs apart = let test : ((place_of c).0 == s) ≡ false = grind (arith, nat_tests) in
    let none : 0 + sets_in s cs ≡ sets_in s cs = omega arith in
    ap (λ (b : Bool). cond b (sets c) 0 + sets_in s cs) test ∙ none

still_there : (c : Change) (old new : List Slot) → KeepsLists c old new → (cs : List Change) → AllByRecursion (λ d. IsSome (list_of (place_of d).0 old)) cs → AllByRecursion (λ d. IsSome (list_of (place_of d).0 new)) cs
still_there c old new keeps [] there = tt
still_there c old new keeps (d ∷ cs) there =
    let P : Option ListState → Type 0 = λ x. IsSome x in
    let Q : ℕ → Type 0 = λ k. IsSome (list_of k new) in
    (elim (cases_eq (place_of c).0 (place_of d).0) [ inl is ↦ subst Q is keeps.there | inr apart ↦ subst P (sym (keeps.others (place_of d).0 apart)) there.0 ], still_there c old new keeps cs there.1)

pub rest_room : (c : Change) (cs : List Change) (old new : List Slot) → HasRoom old (c ∷ cs) → KeepsLists c old new → HasRoom new cs
rest_room c cs old new has keeps = record {
  there = still_there c old new keeps cs has.there.1;
  room = λ s some. elim (cases_eq (place_of c).0 s) [
    | inl is ↦
        let here = sets_here s c cs is in
        let P : ℕ → Type 0 = λ n. IfSome (list_of s old) (λ list. list.used + n ≤ list.capacity) in
        let Q : ℕ → Type 0 = λ k. IfSome (list_of k old) (λ list. list.used + (sets c + sets_in s cs) ≤ list.capacity) in
        let R : ℕ → Type 0 = λ k. IfSome (list_of k new) (λ list. list.used + sets_in s cs ≤ list.capacity) in
        subst R is (keeps.room (sets_in s cs) (subst Q (sym is) (subst P here (has.room s (omega (arith, here, some))))))
    | inr apart ↦
        let same = sets_there s c cs apart in
        let P : ℕ → Type 0 = λ n. IfSome (list_of s old) (λ list. list.used + n ≤ list.capacity) in
        let Q : Option ListState → Type 0 = λ o. IfSome o (λ list. list.used + sets_in s cs ≤ list.capacity) in
        subst Q (sym (keeps.others s apart)) (subst P same (has.room s (omega (arith, same, some))))
  ];
}

sets-append : (s : ℕ) (xs ys : List Change) → sets_in s (xs ++ ys) ≡ sets_in s xs + sets_in s ys
sets-append s [] ys = let none : sets_in s ys ≡ 0 + sets_in s ys = omega arith in none
sets-append s (x ∷ xs) ys = omega (arith, sets-append s xs ys)

pub one_set : (c : Change) → sets c ≤ 1
one_set (Set e) = omega arith
one_set (Drop s t) = omega arith

-- so they fit a number
pub sets_few : (s : ℕ) (cs : List Change) → sets_in s cs ≤ length cs
sets_few s [] = omega arith
sets_few s (c ∷ cs) = elim (cases_eq (place_of c).0 s) [
  | inl is ↦ omega (arith, sets_here s c cs is, one_set c, sets_few s cs)
  | inr apart ↦ omega (arith, sets_there s c cs apart, sets_few s cs)
]

-- room for one change more
pub sets_more : (c : Change) (cs : List Change) → sets_in (place_of c).0 (cs ++ c ∷ []) ≡ sets_in (place_of c).0 cs + sets c
sets_more c cs = omega (arith, sets-append (place_of c).0 cs (c ∷ []), sets_here (place_of c).0 c [] refl)

pub sets_same : (s : ℕ) (c : Change) (cs : List Change) → ((place_of c).0 ≡ s → ⊥) → sets_in s (cs ++ c ∷ []) ≡ sets_in s cs
sets_same s c cs apart = omega (arith, sets-append s cs (c ∷ []), sets_there s c [] apart)

module _ (c : Change) (old new : List Slot) (others : (s : ℕ) → (s ≡ (place_of c).0 → ⊥) → list_of s new ≡ list_of s old) (there : IsSome (list_of (place_of c).0 new)) where
  there_more : (cs : List Change) → AllByRecursion (λ d. IsSome (list_of (place_of d).0 old)) cs → AllByRecursion (λ d. IsSome (list_of (place_of d).0 new)) (cs ++ c ∷ [])
  there_more [] all = (there, tt)
  there_more (d ∷ cs) all =
      let P : Option ListState → Type 0 = λ x. IsSome x in
      let Q : ℕ → Type 0 = λ k. IsSome (list_of k new) in
      (elim (cases_eq (place_of d).0 (place_of c).0) [ inl is ↦ subst Q (sym is) there | inr apart ↦ subst P (sym (others (place_of d).0 apart)) all.0 ], there_more cs all.1)

  pub more_room : (cs : List Change) (n : ℕ) → HasRoom old cs → IfSome (list_of (place_of c).0 new) (λ list. list.used + n ≤ list.capacity) → n ≡ sets_in (place_of c).0 cs + sets c → HasRoom new (cs ++ c ∷ [])
  more_room cs n has room is = record {
    there = there_more cs has.there;
    room = λ s some. elim (cases_eq s (place_of c).0) [
      | inl at ↦
          let P : ℕ → Type 0 = λ m. IfSome (list_of (place_of c).0 new) (λ list. list.used + m ≤ list.capacity) in
          let Q : ℕ → Type 0 = λ k. IfSome (list_of k new) (λ list. list.used + sets_in k (cs ++ c ∷ []) ≤ list.capacity) in
          subst Q (sym at) (subst P (is ∙ sym (sets_more c cs)) room)
      | inr apart ↦
          let same = sets_same s c cs (λ at. apart (sym at)) in
          let P : ℕ → Type 0 = λ m. IfSome (list_of s old) (λ list. list.used + m ≤ list.capacity) in
          let Q : Option ListState → Type 0 = λ o. IfSome o (λ list. list.used + sets_in s (cs ++ c ∷ []) ≤ list.capacity) in
          subst Q (sym (others s apart)) (subst P (sym same) (has.room s (omega (arith, same, some))))
    ];
  }
