use Rattle.std.proofs.Common.{◌≡◌, ◌≤◌, ℕ}
use Rattle.drill_feed.specs.Tiers.{after_moves}
use Rattle.drill_feed.proofs.tiers.left_of.Given as goal

abbrev pub invariant-loop-left : goal.invariant-loop-left
invariant-loop-left l = record {
  moves : (m : ℕ) × (l.left ≡ after_moves l.hold l.gather l.ripe m);
  bound : l.left ≤ l.ripe;
}

abbrev pub decreases-loop-left : goal.decreases-loop-left
decreases-loop-left l = l.left
