-- The segment at the front of some bytes.
use Rattle.std.proofs.Common.{◌≡◌, ℕ, ◌≤◌, Bool, true, false, List, [], ◌∷◌, length, inl, inr, refl, arith}
use Rattle.std.specs.Prelude.{◌==◌, unwrap_or, nat_lt, cond, Some, None}
use Rattle.std.specs.List.{position, position_or_len, list_all}
use Rattle.std.proofs.lemmas.Bool.Decides.{nat_tests}
use Rattle.std.proofs.lemmas.List.Sums.{prefix_len-le-length}
use Rattle.pv_name.specs.Name.{IsBadSegment}

-- where the segment ends: at the first separator, or at the end
pub segment_end : {X : Type 0} (p : X → Bool) (xs : List X) → unwrap_or (position p xs) (length xs) ≡ position_or_len p xs
segment_end p xs =
    let within : position_or_len p xs ≤ length xs = prefix_len-le-length _ xs in
    by_test (nat_lt (position_or_len p xs) (length xs)) refl within
  where
    by_test : (b : Bool) → nat_lt (position_or_len p xs) (length xs) ≡ b → position_or_len p xs ≤ length xs → unwrap_or (cond b (Some (position_or_len p xs)) None) (length xs) ≡ position_or_len p xs
    by_test true is within = refl
    by_test false is within = grind (arith, nat_tests)

-- a bad segment is at most two bytes, all of them dots
pub dots_are_bad : (s : List ℕ) → length s ≤ 2 → list_all (λ b. b == 46) s ≡ true → IsBadSegment s
dots_are_bad [] short dots = inl refl
dots_are_bad (x ∷ []) short dots = let dot : x ≡ 46 = grind (arith, nat_tests) in inr (inl (rw dot refl))
dots_are_bad (x ∷ y ∷ []) short dots =
    let dot : x ≡ 46 = grind (arith, nat_tests) in
    let dot' : y ≡ 46 = grind (arith, nat_tests) in
    inr (inr (rw (dot, dot') refl))
dots_are_bad (x ∷ y ∷ z ∷ s) short dots = absurd (omega arith)

pub bad_is_dots : (s : List ℕ) → IsBadSegment s → (length s ≤ 2) × (list_all (λ b. b == 46) s ≡ true)
bad_is_dots s (inl empty) = rw empty (omega arith, refl)
bad_is_dots s (inr (inl dot)) = rw dot (omega arith, refl)
bad_is_dots s (inr (inr dots)) = rw dots (omega arith, refl)

pub ruleset bad_segments = (dots_are_bad, bad_is_dots)
