use Rattle.std.proofs.Common.{ℕ, ◌<◌}
use Rattle.tier_store.specs.Retiring.{HasNotGrown}
use Rattle.tier_store.proofs.retirement.grown.Given as goal

-- none of the entries so far has grown
abbrev pub invariant-loop-i : goal.invariant-loop-i
invariant-loop-i l = (k : ℕ) → k < l.i → HasNotGrown l.published l.now k
