-- The names of a drill's variables are names.
use Rattle.std.proofs.Common.{◌≢◌, ℕ, zero, suc, ◌+◌, ◌<◌, inl, inr, List, [], ◌∷◌, IsTrue, length, get_or, arith, refl, ap}
use Rattle.std.specs.List.{before_first}
use Rattle.pv_name.specs.Name.{IsBadSegment, IsFault, IsName, is_allowed, is_separator}
use Rattle.drill_feed.specs.Workload.{name_text}

-- a segment that begins with another byte than a point is good
begins_well : (x : ℕ) (rest : List ℕ) → x ≢ 46 → IsBadSegment (x ∷ rest) → ⊥
begins_well x rest other (inl is) = omega (arith, ap length is)
begins_well x rest other (inr (inl is)) = other (ap (λ (l : List ℕ). get_or l 0 0) is)
begins_well x rest other (inr (inr is)) = other (ap (λ (l : List ℕ). get_or l 0 0) is)

digit_allowed : (variable : ℕ) → variable < 4 → IsTrue (is_allowed (48 + variable))
digit_allowed zero few = refl
digit_allowed (suc zero) few = refl
digit_allowed (suc (suc zero)) few = refl
digit_allowed (suc (suc (suc zero))) few = refl
digit_allowed (suc (suc (suc (suc n)))) few = absurd (omega arith)

-- V and the digit are the second segment
second_good : (variable : ℕ) → variable < 4 → IsBadSegment (before_first is_separator (86 ∷ (48 + variable) ∷ [])) → ⊥
second_good zero few bad = begins_well 86 (48 ∷ []) (omega arith) bad
second_good (suc zero) few bad = begins_well 86 (49 ∷ []) (omega arith) bad
second_good (suc (suc zero)) few bad = begins_well 86 (50 ∷ []) (omega arith) bad
second_good (suc (suc (suc zero))) few bad = begins_well 86 (51 ∷ []) (omega arith) bad
second_good (suc (suc (suc (suc n)))) few bad = absurd (omega arith)

allowed_at : (variable at : ℕ) → variable < 4 → at < 8 → IsTrue (is_allowed (get_or (name_text variable) at 0))
allowed_at variable zero few within = refl
allowed_at variable (suc zero) few within = refl
allowed_at variable (suc (suc zero)) few within = refl
allowed_at variable (suc (suc (suc zero))) few within = refl
allowed_at variable (suc (suc (suc (suc zero)))) few within = refl
allowed_at variable (suc (suc (suc (suc (suc zero))))) few within = refl
allowed_at variable (suc (suc (suc (suc (suc (suc zero)))))) few within = refl
allowed_at variable (suc (suc (suc (suc (suc (suc (suc zero))))))) few within = digit_allowed variable few
allowed_at variable (suc (suc (suc (suc (suc (suc (suc (suc n)))))))) few within = absurd (omega arith)

-- each byte is allowed, a segment begins at 0 and behind the colon, and both are good
faultless : (variable at : ℕ) → variable < 4 → IsFault (name_text variable) at → ⊥
faultless variable at few (inl byte) = byte.1 (allowed_at variable at few byte.0)
faultless variable zero few (inr start) = begins_well 68 (82 ∷ 73 ∷ 76 ∷ 76 ∷ []) (omega arith) start.2
faultless variable (suc zero) few (inr start) = let starts = start.1 (omega arith) in cc
faultless variable (suc (suc zero)) few (inr start) = let starts = start.1 (omega arith) in cc
faultless variable (suc (suc (suc zero))) few (inr start) = let starts = start.1 (omega arith) in cc
faultless variable (suc (suc (suc (suc zero)))) few (inr start) = let starts = start.1 (omega arith) in cc
faultless variable (suc (suc (suc (suc (suc zero))))) few (inr start) = let starts = start.1 (omega arith) in cc
faultless variable (suc (suc (suc (suc (suc (suc zero)))))) few (inr start) = second_good variable few start.2
faultless variable (suc (suc (suc (suc (suc (suc (suc zero))))))) few (inr start) = let starts = start.1 (omega arith) in cc
faultless variable (suc (suc (suc (suc (suc (suc (suc (suc zero)))))))) few (inr start) = last_digit variable few (start.1 (omega arith))
  where
    last_digit : (v : ℕ) → v < 4 → IsTrue (is_separator (48 + v)) → ⊥
    last_digit zero small is = cc
    last_digit (suc zero) small is = cc
    last_digit (suc (suc zero)) small is = cc
    last_digit (suc (suc (suc zero))) small is = cc
    last_digit (suc (suc (suc (suc n)))) small is = omega arith
faultless variable (suc (suc (suc (suc (suc (suc (suc (suc (suc at))))))))) few (inr start) = omega (arith, start.0)

pub is_name : (variable : ℕ) → variable < 4 → IsName (name_text variable)
is_name variable few = record { short = omega arith; faultless = λ at fault. faultless variable at few fault }
