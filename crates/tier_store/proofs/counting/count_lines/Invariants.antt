use Rattle.std.proofs.Common.{◌≤◌, ◌-◌, ◌+◌, length}
use Rattle.tier_store.proofs.Lines.{IsCounting}
use Rattle.tier_store.proofs.counting.count_lines.Given as goal

abbrev pub invariant-loop-counted : goal.invariant-loop-counted
invariant-loop-counted l = record {
  counting : IsCounting l.ty l.year.year l.bytes (l.last + 1) l.counted.len l.counted.count;
  within : l.counted.len ≤ length l.bytes;
  few : l.counted.count ≤ l.counted.len;
}

abbrev pub decreases-loop-counted : goal.decreases-loop-counted
decreases-loop-counted l = length l.bytes - l.counted.len
