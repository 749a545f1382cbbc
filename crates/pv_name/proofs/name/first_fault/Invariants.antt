use Rattle.std.proofs.Common.{ℕ, ◌<◌}
use Rattle.pv_name.specs.Name.{IsFault}
use Rattle.pv_name.proofs.name.first_fault.Given as goal

-- no fault stands before this place
abbrev pub invariant-loop-at : goal.invariant-loop-at
invariant-loop-at l = (i : ℕ) → i < l.at → IsFault l.bytes i → ⊥
