-- Two names with one key.
use Rattle.std.proofs.Common.{◌≡◌, ℕ, Bool, true, false, cond, List, [], ◌∷◌, length, ◌⊎◌, inl, inr, refl, ap, arith, IsTrue}
use Rattle.std.specs.Prelude.{◌==◌, ◌↔◌, ◌&&◌}
use Rattle.std.specs.List.{list_all, zip}
use Rattle.std.proofs.lemmas.Bool.Decides.{nat_tests}
use Rattle.pv_name.specs.Name.{is_separator}
use Rattle.pv_name.specs.Key.{key_byte, key_of, DifferInSeparators}

by_tests : (x y : ℕ) (p q : Bool) → is_separator x ≡ p → is_separator y ≡ q → cond p 47 x ≡ cond q 47 y → (x ≡ y) ⊎ (IsTrue (is_separator x) × IsTrue (is_separator y))
by_tests x y true true x_is y_is same = inr (x_is, y_is)
by_tests x y true false x_is y_is same = absurd (let slash : is_separator y ≡ true = rw (← same) refl in cc)
by_tests x y false true x_is y_is same = absurd (let slash : is_separator x ≡ true = rw same refl in cc)
by_tests x y false false x_is y_is same = inl same

pub differ_in_separators : (a b : List ℕ) → key_of a ≡ key_of b → DifferInSeparators a b
differ_in_separators [] [] same = tt
differ_in_separators [] (y ∷ ys) same = cc
differ_in_separators (x ∷ xs) [] same = cc
differ_in_separators (x ∷ xs) (y ∷ ys) same =
    let first : key_byte x ≡ key_byte y = cc in
    let rest : key_of xs ≡ key_of ys = cc in
    (by_tests x y (is_separator x) (is_separator y) refl refl first, differ_in_separators xs ys rest)

key_byte_same : (x y : ℕ) → (x ≡ y) ⊎ (IsTrue (is_separator x) × IsTrue (is_separator y)) → key_byte x ≡ key_byte y
key_byte_same x y (inl same) = ap key_byte same
key_byte_same x y (inr (x_is, y_is)) = rw (x_is, y_is) refl

pub same_key : (a b : List ℕ) → DifferInSeparators a b → key_of a ≡ key_of b
same_key [] [] told = refl
same_key [] (y ∷ ys) told = absurd told
same_key (x ∷ xs) [] told = absurd told
same_key (x ∷ xs) (y ∷ ys) told =
    let first = key_byte_same x y told.0 in
    let rest = same_key xs ys told.1 in
    cc

-- what the code tests place by place
pub same_places : (a b : List ℕ) → length a ≡ length b → IsTrue (list_all (λ p. key_byte p.0 == key_byte p.1) (zip a b)) ↔ (key_of a ≡ key_of b)
same_places [] [] long = (λ _. refl, λ _. refl)
same_places [] (y ∷ ys) long = absurd (omega arith)
same_places (x ∷ xs) [] long = absurd (omega arith)
same_places (x ∷ xs) (y ∷ ys) long =
    let rest = same_places xs ys (omega arith) in
    by_first (key_byte x == key_byte y) refl rest
  where
    by_first : (b : Bool) → (key_byte x == key_byte y) ≡ b → IsTrue (list_all (λ p. key_byte p.0 == key_byte p.1) (zip xs ys)) ↔ (key_of xs ≡ key_of ys) → IsTrue (b && list_all (λ p. key_byte p.0 == key_byte p.1) (zip xs ys)) ↔ (key_of (x ∷ xs) ≡ key_of (y ∷ ys))
    by_first true is rest = (λ all. let first : key_byte x ≡ key_byte y = grind (arith, nat_tests) in let others : key_of xs ≡ key_of ys = rest.0 all in cc, λ same. rest.1 (let others : key_of xs ≡ key_of ys = cc in others))
    by_first false is rest = (λ no. cc, λ same. let first : key_byte x ≡ key_byte y = cc in absurd (grind (arith, nat_tests)))
