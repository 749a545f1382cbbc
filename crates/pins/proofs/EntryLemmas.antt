-- The pins of a map, by their numbers.
use Rattle.std.proofs.Common.{◌≡◌, ◌≢◌, ℕ, ◌+◌, ◌<◌, ◌≤◌, List, [], ◌∷◌, drop, below_more, zero, suc, Bool, true, false, cond, ◌||◌, nat_eq, Some, None, Ok, Err, refl, ap, sym, ◌∙◌, subst, arith}
use Rattle.std.proofs.lemmas.Bool.Decides.{nat_tests}
use Rattle.std.proofs.lemmas.Cmp.{nat_cmp_total, ranked}
use Rattle.std.proofs.lemmas.List.Folds.{Any-from_list_any, list_any-from_Any}
use Rattle.std.proofs.lemmas.Map.Entries.{lookup_at_gap, place_from_lookup, btree_map_get_place}
use Rattle.std.specs.BTreeMap.{BTreeMap, is_at, IsOrdered, UpdatesBy}
use Rattle.std.specs.Cmp.{nat_cmp_is, eq_by_cmp_equiv}
use Rattle.std.specs.FinMap as map
use Rattle.std.specs.List.{list_any, slice_index_or, AllByRecursion}
use Rattle.std.specs.List.Sorted.{IsStrictlySortedBy}
use Rattle.std.specs.Map.{keys_of, values_of, lookup}
use Rattle.std.specs.Ordering.{nat_cmp, eq_by_cmp}
use Rattle.std.specs.Prelude.{◌↔◌, Option, slice_get, IsSome, Contains}
use Rattle.std.specs.declared.cmp.Ordering.TheVariants.{Less, Greater}
use Rattle.disk_model.specs.Files.{Name}
use Rattle.disk_model.specs.Record.{is_same}
use Rattle.pins.specs.declared.table.PinErr.TheVariants.{NoPin, NotYours}
use Rattle.pins.specs.Pinned.{PinnedNames, IsPinned, names_file, dropped}
use Rattle.disk_model.proofs.Lookups.{is_same-true, is_same-same}

-- GET

-- the map that contracts see has at each number what the tree has there
pub get-tree : {A : Type 0} (entries : List (ℕ × A)) (q : ℕ) → map.get (map.from_entries {R = nat_cmp} entries) q ≡ lookup (is_at (nat_cmp q)) entries
get-tree {A = A} entries q = map.get-from_entries nat_cmp_total entries q ∙ found entries
  where
    found : (es : List (ℕ × A)) → map.find nat_cmp q es ≡ lookup (is_at (nat_cmp q)) es
    found [] = refl
    found (e ∷ es) = ap (λ rest. cond (is_at (nat_cmp q) e.0) (Some e.1) rest) (found es)

-- NAMES

-- one of the files has the name
pub named : (files : List Name) (file : Name) → list_any (λ name. is_same name file) files ≡ true → Contains files file
named files file any =
    let found = Any-from_list_any (λ name. is_same name file) files any in
    let same : found.1 ≡ file = is_same-true found.1 file found.4 in
    (found.0, found.2, subst (λ (name : Name). slice_index_or files found.0 name ≡ name) same found.3)

pub names_it : (files : List Name) (file : Name) → Contains files file → list_any (λ name. is_same name file) files ≡ true
names_it files file found = list_any-from_Any (λ name. is_same name file) files (found.0, file, found.1, found.2, is_same-same file)

-- PINNED

any_place : (p : PinnedNames → Bool) (es : List (ℕ × PinnedNames)) → list_any p (values_of es) ≡ true → (i : ℕ) × (k : ℕ) × (pin : PinnedNames) × (slice_get es i ≡ Some (k, pin)) × (p pin ≡ true)
any_place p [] any = absurd cc
any_place p (e ∷ es) any = by_first (p e.1) refl any (any_place p es)
  where
    by_first : (b : Bool) → p e.1 ≡ b → (b || list_any p (values_of es)) ≡ true
        → (list_any p (values_of es) ≡ true → (i : ℕ) × (k : ℕ) × (pin : PinnedNames) × (slice_get es i ≡ Some (k, pin)) × (p pin ≡ true))
        → (i : ℕ) × (k : ℕ) × (pin : PinnedNames) × (slice_get (e ∷ es) i ≡ Some (k, pin)) × (p pin ≡ true)
    by_first true is any rest = (0, e.0, e.1, refl, is)
    by_first false is any rest = let found = rest any in (suc found.0, found.1, found.2, found.3, found.4)

any_from_place : (p : PinnedNames → Bool) (es : List (ℕ × PinnedNames)) (i k : ℕ) (pin : PinnedNames) → slice_get es i ≡ Some (k, pin) → p pin ≡ true → list_any p (values_of es) ≡ true
any_from_place p [] zero k pin here passes = absurd cc
any_from_place p [] (suc i) k pin here passes = absurd cc
any_from_place p (e ∷ es) zero k pin here passes =
    let entry : e ≡ (k, pin) = cc in
    let same : e.1 ≡ pin = ap (λ (f : ℕ × PinnedNames). f.1) entry in
    rw (same, passes) refl
any_from_place p (e ∷ es) (suc i) k pin here passes = elim (p e.1) as (λ b. (b || list_any p (values_of es)) ≡ true) [ true ↦ refl | false ↦ any_from_place p es i k pin here passes ]

-- some pin's files have the name just where a pin that stands names it
pub pinned_iff : (m : BTreeMap ℕ PinnedNames) (file : Name) → IsOrdered nat_cmp m → (list_any (names_file file) (values_of m.entries) ≡ true) ↔ IsPinned (map.from_entries m.entries) file
pinned_iff m file ordered = (there, back)
  where
    there : list_any (names_file file) (values_of m.entries) ≡ true → IsPinned (map.from_entries m.entries) file
    there any =
        let found = any_place (names_file file) m.entries any in
        record {
          number = found.1;
          pin = found.2;
          stands = get-tree m.entries found.1 ∙ btree_map_get_place nat_cmp_total m found.0 found.1 found.2 ordered found.3;
          names = named found.2.files file found.4;
        }

    back : IsPinned (map.from_entries m.entries) file → list_any (names_file file) (values_of m.entries) ≡ true
    back is =
        let here = place_from_lookup (is_at (nat_cmp is.number)) m.entries is.pin (sym (get-tree m.entries is.number) ∙ is.stands) in
        any_from_place (names_file file) m.entries here.0 here.1 is.pin here.2 (names_it is.pin.files file is.names)

-- THE LEAST FREE NUMBER

-- the numbers below this one stand, and come first
abbrev pub Counts : List ℕ → ℕ → Type 0
Counts keys free = (k : ℕ) → k < free → slice_get keys k ≡ Some k

entry_at : (es : List (ℕ × PinnedNames)) (i n : ℕ) → slice_get (keys_of es) i ≡ Some n → (pin : PinnedNames) × (slice_get es i ≡ Some (n, pin))
entry_at [] zero n here = absurd cc
entry_at [] (suc i) n here = absurd cc
entry_at (e ∷ es) zero n here = let same : e.0 ≡ n = cc in (e.1, ap (λ k. Some (k, e.1)) same)
entry_at (e ∷ es) (suc i) n here = entry_at es i n here

key_at : (es : List (ℕ × PinnedNames)) (i : ℕ) (e : ℕ × PinnedNames) → slice_get es i ≡ Some e → slice_get (keys_of es) i ≡ Some e.0
key_at [] zero e here = absurd cc
key_at [] (suc i) e here = absurd cc
key_at (f ∷ es) zero e here = let same : f ≡ e = cc in ap (λ (x : ℕ × PinnedNames). Some x.0) same
key_at (f ∷ es) (suc i) e here = key_at es i e here

same_some : {k n : ℕ} → Some k ≡ Some n → k ≡ n
same_some is = cc

all_of_0 : (ks : List ℕ) → AllByRecursion (λ k. 0 ≤ k) ks
all_of_0 [] = tt
all_of_0 (k ∷ ks) = (omega arith, all_of_0 ks)

below_of : (y z : ℕ) → nat_cmp y z ≡ Less → y < z
below_of y z is = ranked y z Less (sym is)

-- numbers that rise from low on are at least as far above it as their places
at_least : (ks : List ℕ) (low i n : ℕ) → AllByRecursion (λ k. low ≤ k) ks → IsStrictlySortedBy nat_cmp ks → slice_get ks i ≡ Some n → low + i ≤ n
unfolding IsStrictlySortedBy
at_least [] low zero n above sorted here = absurd cc
at_least [] low (suc i) n above sorted here = absurd cc
at_least (x ∷ xs) low zero n above sorted here = let same : x ≡ n = cc in let first : low ≤ x = above.0 in omega arith
at_least (x ∷ xs) low (suc i) n above sorted here =
    let first : low ≤ x = above.0 in
    let more = at_least xs (x + 1) i n (all_above x xs sorted.0) sorted.1 here in
    omega arith
  where
    all_above : (y : ℕ) (ys : List ℕ) → AllByRecursion (λ k. nat_cmp y k ≡ Less) ys → AllByRecursion (λ k. y + 1 ≤ k) ys
    all_above y [] less = tt
    all_above y (z ∷ ys) less = (let below : y < z = below_of y z less.0 in omega arith, all_above y ys less.1)

pub taken_below : (m : BTreeMap ℕ PinnedNames) (free : ℕ) → IsOrdered nat_cmp m → Counts (keys_of m.entries) free → (lower : ℕ) → lower < free → IsSome (map.get (map.from_entries {R = nat_cmp} m.entries) lower)
taken_below m free ordered counts lower below =
    let entry = entry_at m.entries lower lower (counts lower below) in
    let here : map.get (map.from_entries {R = nat_cmp} m.entries) lower ≡ Some entry.0 = get-tree m.entries lower ∙ btree_map_get_place nat_cmp_total m lower lower entry.0 ordered entry.1 in
    rw here refl

pub free_at : (m : BTreeMap ℕ PinnedNames) (free : ℕ) → IsOrdered nat_cmp m → Counts (keys_of m.entries) free → ((n : ℕ) → slice_get (keys_of m.entries) free ≡ Some n → n ≢ free) → map.get (map.from_entries {R = nat_cmp} m.entries) free ≡ None
free_at m free ordered counts next = get-tree m.entries free ∙ lookup_at_gap nat_cmp_total free m.entries free ordered lower higher
  where
    lower : (j : ℕ) (e : ℕ × PinnedNames) → j < free → slice_get m.entries j ≡ Some e → nat_cmp free e.0 ≡ Greater
    lower j e below here =
        let key : e.0 ≡ j = same_some (sym (key_at m.entries j e here) ∙ counts j below) in
        sym (nat_cmp_is free e.0 Greater (omega arith))

    higher : (e : ℕ × PinnedNames) → slice_get m.entries free ≡ Some e → nat_cmp free e.0 ≡ Less
    higher e here =
        let key = key_at m.entries free e here in
        let other : e.0 ≢ free = next e.0 key in
        let above = at_least (keys_of m.entries) 0 free e.0 (all_of_0 (keys_of m.entries)) ordered key in
        sym (nat_cmp_is free e.0 Less (omega arith))

-- LISTS THAT ARE WALKED

head_at : (ks : List ℕ) (i n : ℕ) (rest : List ℕ) → drop i ks ≡ n ∷ rest → slice_get ks i ≡ Some n
head_at [] zero n rest is = absurd cc
head_at [] (suc i) n rest is = absurd cc
head_at (x ∷ xs) zero n rest is = let same : x ≡ n = cc in ap (λ (k : ℕ). Some k) same
head_at (x ∷ xs) (suc i) n rest is = head_at xs i n rest is

tail_at : (ks : List ℕ) (i n : ℕ) (rest : List ℕ) → drop i ks ≡ n ∷ rest → drop (suc i) ks ≡ rest
tail_at [] zero n rest is = absurd cc
tail_at [] (suc i) n rest is = absurd cc
tail_at (x ∷ xs) zero n rest is = cc
tail_at (x ∷ xs) (suc i) n rest is = tail_at xs i n rest is

none_at : (ks : List ℕ) (i n : ℕ) → drop i ks ≡ [] → slice_get ks i ≡ Some n → ⊥
none_at [] zero n is here = cc
none_at [] (suc i) n is here = cc
none_at (x ∷ xs) zero n is here = cc
none_at (x ∷ xs) (suc i) n is here = none_at xs i n is here

-- another number comes next, or none does
pub free_before : (m : BTreeMap ℕ PinnedNames) (free n : ℕ) (rest : List ℕ) → IsOrdered nat_cmp m → Counts (keys_of m.entries) free → drop free (keys_of m.entries) ≡ n ∷ rest → n ≢ free → map.get (map.from_entries {R = nat_cmp} m.entries) free ≡ None
free_before m free n rest ordered counts is other =
    free_at m free ordered counts (λ k here same. let there : k ≡ n = same_some (sym here ∙ head_at (keys_of m.entries) free n rest is) in other (sym there ∙ same))

pub free_at_end : (m : BTreeMap ℕ PinnedNames) (free : ℕ) → IsOrdered nat_cmp m → Counts (keys_of m.entries) free → drop free (keys_of m.entries) ≡ [] → map.get (map.from_entries {R = nat_cmp} m.entries) free ≡ None
free_at_end m free ordered counts is = free_at m free ordered counts (λ k here same. none_at (keys_of m.entries) free k is here)

-- the number itself comes next
pub counts_on : (ks : List ℕ) (free n next : ℕ) (rest : List ℕ) → Counts ks free → drop free ks ≡ n ∷ rest → n ≡ free → next ≡ free + 1 → Counts ks next × (drop next ks ≡ rest)
counts_on ks free n next rest counts is same step =
    let here : slice_get ks free ≡ Some free = head_at ks free n rest is ∙ ap (λ (k : ℕ). Some k) same in
    let more : Counts ks (free + 1) = below_more (λ k. slice_get ks k ≡ Some k) free counts here in
    let later : next ≡ suc free = omega arith in
    (rw step more, rw later (tail_at ks free n rest is))

-- CHANGES

-- what the map that contracts see has after one of the tree
updated : {A : Type 0} (m n : BTreeMap ℕ A) (k : ℕ) (w : Option A) → UpdatesBy nat_cmp (nat_cmp k) m n w → (q : ℕ) → map.get (map.from_entries {R = nat_cmp} n.entries) q ≡ cond (eq_by_cmp nat_cmp q k) w (map.get (map.from_entries {R = nat_cmp} m.entries) q)
updated {A = A} m n k w updates q =
    let tie : eq_by_cmp nat_cmp k q ≡ eq_by_cmp nat_cmp q k = (eq_by_cmp_equiv nat_cmp_total).symm k q in
    get-tree n.entries q
    ∙ (updates.0 q
    ∙ (ap (λ (b : Bool). cond b w (lookup (is_at (nat_cmp q)) m.entries)) tie
    ∙ ap (λ (found : Option A). cond (eq_by_cmp nat_cmp q k) w found) (sym (get-tree m.entries q))))

pub inserted : {A : Type 0} (m n : BTreeMap ℕ A) (k : ℕ) (pin : A) → UpdatesBy nat_cmp (nat_cmp k) m n (Some pin) → map.from_entries {R = nat_cmp} n.entries ≡ map.insert (map.from_entries m.entries) k pin
inserted m n k pin updates = map.same_map nat_cmp_total map.nat_cmp-IsAntisymmetric _ _ (λ q. updated m n k (Some pin) updates q ∙ sym (map.get-insert nat_cmp_total (map.from_entries m.entries) k pin q))

pub removed : {A : Type 0} (m n : BTreeMap ℕ A) (k : ℕ) → UpdatesBy nat_cmp (nat_cmp k) m n None → map.from_entries {R = nat_cmp} n.entries ≡ map.remove (map.from_entries m.entries) k
removed m n k updates = map.same_map nat_cmp_total map.nat_cmp-IsAntisymmetric _ _ (λ q. updated m n k None updates q ∙ sym (map.get-remove nat_cmp_total (map.from_entries m.entries) k q))

-- ANSWERS

pub dropped-none : (owner : ℕ) (found : Option PinnedNames) → found ≡ None → Err NoPin ≡ dropped owner found
dropped-none owner found is = rw is refl

pub dropped-other : (owner told : ℕ) (found : Option PinnedNames) (pin : PinnedNames) → found ≡ Some pin → told ≡ pin.owner → told ≢ owner → Err (NotYours told) ≡ dropped owner found
dropped-other owner told found pin is same other =
    let test : nat_eq pin.owner owner ≡ false = grind (arith, nat_tests) in
    rw (is, test, same) refl

pub dropped-own : (owner : ℕ) (found : Option PinnedNames) (pin : PinnedNames) → found ≡ Some pin → pin.owner ≡ owner → Ok tt ≡ dropped owner found
dropped-own owner found pin is own =
    let test : nat_eq pin.owner owner ≡ true = grind (arith, nat_tests) in
    rw (is, test) refl
