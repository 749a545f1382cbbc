use Rattle.std.proofs.Common.{◌≡◌, ◌≤◌, ◌-◌, length}
use Rattle.etl_mover.specs.Move.{IsMove}
use Rattle.partition_names.specs.declared.granularity.Granularity.{Granularity}
use Rattle.tier_store.proofs.CopyParts.{heads_to}
use Rattle.tier_store.proofs.copying.pass_rest.Given as goal

abbrev pub invariant-loop-part : goal.invariant-loop-part
invariant-loop-part l = record {
  running : (fine : Granularity) → IsMove fine l.fn.moving → IsMove fine l.moving;
  low : l.fn.moving.at ≤ l.moving.at;
  high : l.moving.at ≤ length l.fn.moving.parts;
  is : l.moving ≡ record l.fn.moving { parts = heads_to l.fn.moving.at l.moving.at l.fn.moving.parts; at = l.moving.at };
}

abbrev pub decreases-loop-part : goal.decreases-loop-part
decreases-loop-part l = length l.fn.moving.parts - l.moving.at
