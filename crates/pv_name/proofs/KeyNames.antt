-- A name's key is a name.
use Rattle.std.proofs.Common.{◌≡◌, ℕ, ◌-◌, ◌<◌, ◌≤◌, Bool, true, false, cond, List, [], ◌∷◌, length, inl, inr, refl, ap, arith, ◌∙◌, sym, IsTrue, drop, get_or}
use Rattle.std.specs.Prelude.{All, ◌≢◌, not}
use Rattle.std.specs.List.{before_first}
use Rattle.std.proofs.lemmas.List.{drop-map, get_or-map, length-map}
use Rattle.std.proofs.lemmas.List.Sums.{take_while-cons}
use Rattle.pv_name.specs.Name.{is_separator, is_allowed, IsName, IsFault}
use Rattle.pv_name.specs.Key.{key_byte, key_of}

separator_of_key : (x : ℕ) → is_separator (key_byte x) ≡ is_separator x
separator_of_key x = by_test (is_separator x) refl
  where
    by_test : (b : Bool) → is_separator x ≡ b → is_separator (cond b 47 x) ≡ is_separator x
    by_test true is = sym is
    by_test false is = refl

allowed_of_key : (x : ℕ) → IsTrue (is_allowed x) → IsTrue (is_allowed (key_byte x))
allowed_of_key x good = by_test (is_separator x)
  where
    by_test : (b : Bool) → IsTrue (is_allowed (cond b 47 x))
    by_test true = refl
    by_test false = good

before_first-key : (xs : List ℕ) → before_first is_separator (key_of xs) ≡ before_first is_separator xs
before_first-key [] = refl
before_first-key (x ∷ xs) =
    let there = take_while-cons (λ b. not (is_separator b)) (key_byte x) (key_of xs) in
    let here = take_while-cons (λ b. not (is_separator b)) x xs in
    there ∙ (by_test (is_separator x) refl (before_first-key xs) ∙ sym here)
  where
    by_test : (b : Bool) → is_separator x ≡ b → before_first is_separator (key_of xs) ≡ before_first is_separator xs → cond (not (is_separator (key_byte x))) (key_byte x ∷ before_first is_separator (key_of xs)) [] ≡ cond (not (is_separator x)) (x ∷ before_first is_separator xs) []
    by_test true is rest = rw (separator_of_key x, is) refl
    by_test false is rest = rw (separator_of_key x, is, rest) refl

length-key : (name : List ℕ) → length (key_of name) ≡ length name
length-key name = length-map name key_byte

fault_of_key : (name : List ℕ) (at : ℕ) → (at < length name → IsTrue (is_allowed (get_or name at 0))) → IsFault (key_of name) at → IsFault name at
fault_of_key name at good (inl byte) =
    let low : at < length (key_of name) = byte.0 in
    let within : at < length name = omega (arith, length-key name) in
    absurd (byte.1 (rw (get_or-map key_byte name at 0 0 within) (allowed_of_key (get_or name at 0) (good within))))
fault_of_key name at good (inr start) =
    let low : at ≤ length (key_of name) = start.0 in
    let within : at ≤ length name = omega (arith, length-key name) in
    let segment : before_first is_separator (drop at (key_of name)) ≡ before_first is_separator (drop at name) =
    rw (drop-map key_byte at name) (before_first-key (drop at name)) in
    inr (within, λ above. starts above within (start.1 above), rw (← segment) start.2)
  where
    starts : 0 < at → at ≤ length name → IsTrue (is_separator (get_or (key_of name) (at - 1) 0)) → IsTrue (is_separator (get_or name (at - 1) 0))
    starts above within is =
        sym (separator_of_key (get_or name (at - 1) 0)) ∙ (ap is_separator (sym (get_or-map key_byte name (at - 1) 0 0 (omega arith))) ∙ is)

allowed_in_name : (name : List ℕ) (at : ℕ) → IsName name → at < length name → (b : Bool) → is_allowed (get_or name at 0) ≡ b → IsTrue (is_allowed (get_or name at 0))
allowed_in_name name at good within true is = is
allowed_in_name name at good within false is = absurd (good.faultless at (inl (within, λ allowed. cc)))

pub keys_are_names : (name : List ℕ) → IsName name → IsName (key_of name)
keys_are_names name good = record {
  short = let short : length name ≤ 128 = good.short in omega (arith, length-key name);
  faultless = λ at fault. good.faultless at (fault_of_key name at (λ within. allowed_in_name name at good within (is_allowed (get_or name at 0)) refl) fault);
}

no_colon_byte : (x : ℕ) → key_byte x ≢ 58
no_colon_byte x = by_test (is_separator x) refl
  where
    by_test : (b : Bool) → is_separator x ≡ b → cond b 47 x ≢ 58
    by_test true is = λ colon. absurd (omega arith)
    by_test false is = λ colon. absurd (let separator : is_separator x ≡ true = rw colon refl in cc)

pub no_colon : (name : List ℕ) → All (λ b. b ≢ 58) (key_of name)
no_colon name k d within colon =
    no_colon_byte (get_or name k 0) (sym (get_or-map key_byte name k 0 d (omega (arith, length-key name))) ∙ colon)
