use Rattle.std.proofs.Common.{length, take, ◌≡◌, ◌++◌}
use Rattle.line_escape.specs.Escaping.{escaped}
use Rattle.line_escape.proofs.escaping.escape_runs.Given as goal

abbrev pub invariant-loop-rest : goal.invariant-loop-rest
invariant-loop-rest l = record {
  done : l.out.items ++ escaped l.rest ≡ l.initial.out.items ++ escaped l.bytes;
  grows : take (length l.initial.out.items) l.out.items ≡ l.initial.out.items;
}

abbrev pub decreases-loop-rest : goal.decreases-loop-rest
decreases-loop-rest l = length l.rest
