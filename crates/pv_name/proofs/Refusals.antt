-- Bytes are refused at one place.
use Rattle.std.proofs.Common.{◌≡◌, ℕ, ◌<◌, ◌≤◌, List, length, ◌⊎◌, inl, inr, arith, ◌∙◌, sym}
use Rattle.std.proofs.lemmas.Bool.{cases_order}
use Rattle.pv_name.specs.Name.{IsFirstFault, IsRefusedAt}

first_is_least : (name : List ℕ) (a b : ℕ) → IsFirstFault name a → IsFirstFault name b → (a ≡ b) ⊎ ((a < b) ⊎ (b < a)) → a ≡ b
first_is_least name a b first second (inl same) = same
first_is_least name a b first second (inr (inl below)) = absurd (second.none_before a below first.here)
first_is_least name a b first second (inr (inr above)) = absurd (first.none_before b above second.here)

pub unique : (name : List ℕ) (a b : ℕ) → IsRefusedAt name a → IsRefusedAt name b → a ≡ b
unique name a b (inl long) (inl long') = long.1 ∙ sym long'.1
unique name a b (inl long) (inr fault) = absurd (let over : 128 < length name = long.0 in let short : length name ≤ 128 = fault.0 in omega arith)
unique name a b (inr fault) (inl long) = absurd (let over : 128 < length name = long.0 in let short : length name ≤ 128 = fault.0 in omega arith)
unique name a b (inr fault) (inr fault') = first_is_least name a b fault.1 fault'.1 (cases_order a b)
