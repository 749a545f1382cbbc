-- Laws of the members of an object, as they are written one by one.
use Rattle.std.proofs.Common.{◌≡◌, ◌≤◌, ◌<◌, ◌+◌, ◌||◌, Bor, ℕ, Bool, true, false, cond, not, get_or, List, [], ◌∷◌, ◌++◌, length, take, drop, codes, refl, sym, ap, subst, ◌∙◌, append_assoc, drop_of_length-le}
use Rattle.std.specs.Prelude.{nat_eq}
use Rattle.std.specs.BTreeSet.{BTreeSet, contains, Updates}
use Rattle.std.specs.Cmp.Lexicographic.{pointwise, slice_cmp, texts_ties}
use Rattle.std.specs.Ordering.{nat_cmp}
use Rattle.std.specs.List.{flat_map, list_any}
use Rattle.std.proofs.lemmas.List.{append-nil, drop_more, take_more}
use Rattle.json_out.specs.Objects.{firsts_behind, has_name, member_text, object_text}
use Rattle.json_out.specs.Fronts.{separated_first}

-- the members of these pairs, each behind a comma, where the others stand before them
abbrev pub others_text : List (List ℕ × List ℕ) → List (List ℕ × List ℕ) → List ℕ
others_text before pairs = flat_map (λ p. 44 ∷ member_text p) (firsts_behind before pairs)

-- THE PAIRS ONE BY ONE

-- an object, written brace by brace
pub object_put : (p : List ℕ × List ℕ) (pairs : List (List ℕ × List ℕ)) (i : ℕ) (o q r s : List ℕ) → q ≡ o ++ codes "{" → r ≡ q ++ member_text p → length pairs ≤ i
    → s ++ others_text (p ∷ take i pairs) (drop i pairs) ≡ r ++ others_text (p ∷ []) pairs → s ++ codes "}" ≡ o ++ object_text (p ∷ pairs)
object_put p pairs i o q r s opened first all put =
    let none : drop i pairs ≡ [] = drop_of_length-le pairs all in
    let done : s ≡ r ++ others_text (p ∷ []) pairs = sym (append-nil s) ∙ ap (λ (u : List (List ℕ × List ℕ)). s ++ others_text (p ∷ take i pairs) u) (sym none) ∙ put in
    rw (done, first, opened, separated_first member_text p (firsts_behind (p ∷ []) pairs)) (simp append_assoc)

-- THE NAMES

-- the set has just the names of these pairs
abbrev pub AreTold : List (List ℕ × List ℕ) → BTreeSet (Bor (List ℕ)) → Type 0
AreTold pairs told = (q : Bor (List ℕ)) → contains (λ (x y : Bor (List ℕ)). slice_cmp nat_cmp x.now y.now) told q ≡ has_name pairs q.now

none_told : (told : BTreeSet (Bor (List ℕ))) → told.keys ≡ [] → AreTold [] told
none_told told none q = rw none refl

any_more : (f : List ℕ × List ℕ → Bool) (pairs : List (List ℕ × List ℕ)) (p : List ℕ × List ℕ) → list_any f (pairs ++ p ∷ []) ≡ cond (f p) true (list_any f pairs)
any_more f [] p = by (f p)
  where
    by : (b : Bool) → (b || false) ≡ cond b true false
    by true = refl
    by false = refl
any_more f (x ∷ pairs) p = by (f x) (f p) (any_more f pairs p)
  where
    by : (a b : Bool) → list_any f (pairs ++ p ∷ []) ≡ cond b true (list_any f pairs) → (a || list_any f (pairs ++ p ∷ [])) ≡ cond b true (a || list_any f pairs)
    by true true is = refl
    by true false is = refl
    by false b is = is

-- one name more
pub more_told : (pairs : List (List ℕ × List ℕ)) (p : List ℕ × List ℕ) (old new : BTreeSet (Bor (List ℕ))) (k : Bor (List ℕ)) → k.now ≡ p.0 → AreTold pairs old → Updates (λ (x y : Bor (List ℕ)). slice_cmp nat_cmp x.now y.now) old new k true → AreTold (pairs ++ p ∷ []) new
more_told pairs p old new k is told updates q =
    updates.0 q
    ∙ ap (λ (b : Bool). cond b true (contains (λ (x y : Bor (List ℕ)). slice_cmp nat_cmp x.now y.now) old q)) (sym (texts_ties k.now q.now))
    ∙ ap (λ (n : List ℕ). cond (pointwise nat_eq n q.now) true (contains (λ (x y : Bor (List ℕ)). slice_cmp nat_cmp x.now y.now) old q)) is
    ∙ ap (λ (b : Bool). cond (pointwise nat_eq p.0 q.now) true b) (told q)
    ∙ sym (any_more (λ (x : List ℕ × List ℕ). pointwise nat_eq x.0 q.now) pairs p)

pub first_told : (p : List ℕ × List ℕ) (old new : BTreeSet (Bor (List ℕ))) (k : Bor (List ℕ)) → k.now ≡ p.0 → old.keys ≡ [] → Updates (λ (x y : Bor (List ℕ)). slice_cmp nat_cmp x.now y.now) old new k true → AreTold (p ∷ []) new
first_told p old new k is none updates = more_told [] p old new k is (none_told old none) updates

involution : (b : Bool) → not (not b) ≡ b
involution true = refl
involution false = refl

-- whether a name was told, by what its insertion answered
pub was_told : (pairs : List (List ℕ × List ℕ)) (told : BTreeSet (Bor (List ℕ))) (k : Bor (List ℕ)) (name : List ℕ) (added b : Bool) → k.now ≡ name → AreTold pairs told → added ≡ not (contains (λ (x y : Bor (List ℕ)). slice_cmp nat_cmp x.now y.now) told k) → added ≡ b → has_name pairs name ≡ not b
was_told pairs told k name added b is are says value =
    ap (has_name pairs) (sym is) ∙ sym (are k) ∙ sym (involution (contains (λ (x y : Bor (List ℕ)). slice_cmp nat_cmp x.now y.now) told k)) ∙ ap not (sym says ∙ value)

-- THE NEXT PAIR

module _ (p : List ℕ × List ℕ) (pairs : List (List ℕ × List ℕ)) (i : ℕ) (x : List ℕ × List ℕ) (low : i < length pairs) (is : x ≡ get_or pairs i x) where
  taken : p ∷ take (i + 1) pairs ≡ (p ∷ take i pairs) ++ x ∷ []
  taken = ap (λ (l : List (List ℕ × List ℕ)). p ∷ l) (take_more pairs i x low ∙ ap (λ (y : List ℕ × List ℕ). take i pairs ++ y ∷ []) (sym is))

  pub next_told : (old new : BTreeSet (Bor (List ℕ))) (k : Bor (List ℕ)) → k.now ≡ x.0 → AreTold (p ∷ take i pairs) old → Updates (λ (a b : Bor (List ℕ)). slice_cmp nat_cmp a.now b.now) old new k true → AreTold (p ∷ take (i + 1) pairs) new
  next_told old new k named told updates = subst (λ (l : List (List ℕ × List ℕ)). AreTold l new) (sym taken) (more_told (p ∷ take i pairs) x old new k named told updates)

  -- what is written of it: its member, or nothing where its name was told
  left : (b : Bool) → has_name (p ∷ take i pairs) x.0 ≡ b → others_text (p ∷ take i pairs) (drop i pairs) ≡ cond b [] (44 ∷ member_text x) ++ others_text (p ∷ take (i + 1) pairs) (drop (i + 1) pairs)
  left b has =
      ap (others_text (p ∷ take i pairs)) (drop_more pairs i x low ∙ ap (λ (y : List ℕ × List ℕ). y ∷ drop (i + 1) pairs) (sym is))
      ∙ ap (λ (c : Bool). flat_map (λ (y : List ℕ × List ℕ). 44 ∷ member_text y) (cond c [] (x ∷ []) ++ firsts_behind ((p ∷ take i pairs) ++ x ∷ []) (drop (i + 1) pairs))) has
      ∙ by b
      ∙ ap (λ (l : List (List ℕ × List ℕ)). cond b [] (44 ∷ member_text x) ++ others_text l (drop (i + 1) pairs)) (sym taken)
    where
      by : (c : Bool) → flat_map (λ (y : List ℕ × List ℕ). 44 ∷ member_text y) (cond c [] (x ∷ []) ++ firsts_behind ((p ∷ take i pairs) ++ x ∷ []) (drop (i + 1) pairs)) ≡ cond c [] (44 ∷ member_text x) ++ others_text ((p ∷ take i pairs) ++ x ∷ []) (drop (i + 1) pairs)
      by true = refl
      by false = refl

  pub text_on : (b : Bool) → has_name (p ∷ take i pairs) x.0 ≡ b → (o n r : List ℕ) → n ≡ o ++ cond b [] (44 ∷ member_text x) → o ++ others_text (p ∷ take i pairs) (drop i pairs) ≡ r → n ++ others_text (p ∷ take (i + 1) pairs) (drop (i + 1) pairs) ≡ r
  text_on b has o n r grown put =
      ap (λ (l : List ℕ). l ++ others_text (p ∷ take (i + 1) pairs) (drop (i + 1) pairs)) grown
      ∙ append_assoc o (cond b [] (44 ∷ member_text x)) (others_text (p ∷ take (i + 1) pairs) (drop (i + 1) pairs))
      ∙ ap (λ (t : List ℕ). o ++ t) (sym (left b has))
      ∙ put

-- a comma and a member
pub member_put : (o q n a b : List ℕ) (x : List ℕ × List ℕ) → q ≡ o ++ 44 ∷ [] → n ≡ q ++ member_text (a, b) → a ≡ x.0 → b ≡ x.1 → n ≡ o ++ 44 ∷ member_text x
member_put o q n a b x comma put first second =
    put ∙ ap (λ (l : List ℕ). l ++ member_text (a, b)) comma ∙ append_assoc o (44 ∷ []) (member_text (a, b))
    ∙ ap (λ (s : List ℕ). o ++ 44 ∷ member_text (s, b)) first ∙ ap (λ (s : List ℕ). o ++ 44 ∷ member_text (x.0, s)) second
