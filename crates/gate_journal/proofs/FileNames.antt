-- The files of a journal have different names.
use Rattle.std.proofs.Common.{◌≡◌, ◌≢◌, ◌⊎◌, inl, inr, ℕ, zero, suc, ◌<◌, ◌^◌, List, [], ◌∷◌, ◌++◌, length, get_or, refl, sym, ◌∙◌, ap, arith, append_assoc, length-append}
use Rattle.std.proofs.lemmas.Bool.{cases_eq}
use Rattle.std.proofs.lemmas.Fmt.{decimal_injective, decimal_is_IsNumeral}
use Rattle.std.proofs.lemmas.List.{append-nil, append_cancel_left, places}
use Rattle.std.proofs.lemmas.Str.Parse.{digit_at}
use Rattle.std.specs.Prelude.{decimal}
use Rattle.disk_model.specs.Files.{Name}
use Rattle.gate_journal.specs.Generations.{at_name, generation_name, IsOwn, AreApart}

pub first_generation : (name : Name) → generation_name name 0 ≡ name
unfolding generation_name
first_generation name = refl

pub later_generation : (name : Name) (g : ℕ) → 0 < g → generation_name name g ≡ (name.0, name.1 ++ 46 ∷ decimal g)
unfolding generation_name
later_generation name zero some = absurd (omega arith)
later_generation name (suc g) some = ap (λ (l : List ℕ). (name.0, l)) (append_assoc name.1 (46 ∷ []) (decimal (suc g)))

pub at_is : (name : Name) → at_name name ≡ (name.0, name.1 ++ 46 ∷ 97 ∷ 116 ∷ [])
unfolding at_name
at_is name = refl

same_path : (front x y : List ℕ) (s t : ℕ) → ◌≡◌ {A = Name} (s, front ++ x) (t, front ++ y) → x ≡ y
same_path front x y s t same = append_cancel_left front x y (ap (λ (n : Name). n.1) same)

-- a generation's file has one generation
pub one_generation : (name : Name) (g h : ℕ) → g < 2 ^ 64 → h < 2 ^ 64 → generation_name name g ≡ generation_name name h → g ≡ h
one_generation name zero zero small_g small_h same = refl
one_generation name zero (suc h) small_g small_h same =
    let whole = ap (λ (n : Name). length n.1) (sym (first_generation name) ∙ same ∙ later_generation name (suc h) (omega arith)) in
    absurd (omega (arith, whole, length-append name.1 (46 ∷ decimal (suc h))))
one_generation name (suc g) zero small_g small_h same =
    let whole = ap (λ (n : Name). length n.1) (sym (first_generation name) ∙ sym same ∙ later_generation name (suc g) (omega arith)) in
    absurd (omega (arith, whole, length-append name.1 (46 ∷ decimal (suc g))))
one_generation name (suc g) (suc h) small_g small_h same =
    let behind : 46 ∷ decimal (suc g) ≡ 46 ∷ decimal (suc h) =
    same_path name.1 (46 ∷ decimal (suc g)) (46 ∷ decimal (suc h)) name.0 name.0 (sym (later_generation name (suc g) (omega arith)) ∙ same ∙ later_generation name (suc h) (omega arith)) in
    decimal_injective (suc g) (suc h) small_g small_h (cc behind)

not_digits : (n : ℕ) → n < 2 ^ 64 → 97 ∷ 116 ∷ [] ≡ decimal n → ⊥
not_digits n small same =
    let digits = (decimal_is_IsNumeral n small).0 in
    let first = (digit_at (decimal n) 0 digits.1 digits.0).1 in
    let is : get_or (decimal n) 0 0 ≡ 97 = sym (ap (λ (l : List ℕ). get_or l 0 0) same) in omega (arith, first, is)

-- and is not the file that tells the generation
pub at_apart : (name : Name) (g : ℕ) → g < 2 ^ 64 → generation_name name g ≢ at_name name
at_apart name zero small same =
    let whole = ap (λ (n : Name). length n.1) (sym (first_generation name) ∙ same ∙ at_is name) in
    omega (arith, whole, length-append name.1 (46 ∷ 97 ∷ 116 ∷ []))
at_apart name (suc g) small same =
    let behind : 46 ∷ decimal (suc g) ≡ 46 ∷ 97 ∷ 116 ∷ [] =
    same_path name.1 (46 ∷ decimal (suc g)) (46 ∷ 97 ∷ 116 ∷ []) name.0 name.0 (sym (later_generation name (suc g) (omega arith)) ∙ same ∙ at_is name) in
    not_digits (suc g) small (cc behind)

-- the paths of a journal's files begin with its own
pub own_begins : (name n : Name) → IsOwn name n → (more : List ℕ) × (n ≡ (name.0, name.1 ++ more))
own_begins name n (inl at) = (46 ∷ 97 ∷ 116 ∷ [], at ∙ at_is name)
own_begins name n (inr (zero, small, is)) = ([], is ∙ first_generation name ∙ ap (λ (l : List ℕ). (name.0, l)) (sym (append-nil name.1)))
own_begins name n (inr (suc g, small, is)) = (46 ∷ decimal (suc g), is ∙ later_generation name (suc g) (omega arith))

get_or-front : (front more : List ℕ) (i : ℕ) → i < length front → get_or (front ++ more) i 0 ≡ get_or front i 0
get_or-front front more i within = grind (arith, places)

-- journals of names that are apart have no file in common
pub own_apart : (name other n : Name) → AreApart name other → IsOwn name n → IsOwn other n → ⊥
own_apart name other n apart own too =
    let one = own_begins name n own in
    let two = own_begins other n too in
    let same : ◌≡◌ {A = Name} (name.0, name.1 ++ one.0) (other.0, other.1 ++ two.0) = sym one.1 ∙ two.1 in
    elim apart [
      | inl stores ↦ stores (ap (λ (m : Name). m.0) same)
      | inr differ ↦
          differ.3 (sym (get_or-front name.1 one.0 differ.0 differ.1) ∙ ap (λ (m : Name). get_or m.1 differ.0 0) same ∙ get_or-front other.1 two.0 differ.0 differ.2)
    ]

pub named_so : (name : Name) (g : ℕ) (more : List ℕ) → 0 < g → more ≡ 46 ∷ decimal g → ◌≡◌ {A = Name} (name.0, name.1 ++ more) (generation_name name g)
named_so name g more some is = ap (λ (l : List ℕ). (name.0, name.1 ++ l)) is ∙ sym (later_generation name g some)

-- a name of the journal's is the next file's or it isn't
pub is_next : (name n : Name) (g : ℕ) → g < 2 ^ 64 → IsOwn name n → (n ≡ generation_name name g) ⊎ (n ≢ generation_name name g)
is_next name n g small (inl at) = inr (λ is. at_apart name g small (sym is ∙ at))
is_next name n g small (inr (h, small_h, is)) = elim (cases_eq h g) [
  | inl same ↦ inl (is ∙ ap (λ (k : ℕ). generation_name name k) same)
  | inr other ↦ inr (λ too. other (one_generation name h g small_h small (sym is ∙ too)))
]
