use Rattle.std.proofs.Common.{List, ℕ, length, take, ◌≡◌, ◌++◌}
use Rattle.line_escape.specs.Unescaping.{AppendsMeaning}
use Rattle.line_escape.proofs.unescaping.unescape_runs.Given as goal

abbrev pub invariant-loop-rest : goal.invariant-loop-rest
invariant-loop-rest l = record {
  meant : (front : List ℕ) × (l.line ≡ front ++ l.rest) × AppendsMeaning front l.initial.out.items l.out.items;
  grows : take (length l.initial.out.items) l.out.items ≡ l.initial.out.items;
}

abbrev pub decreases-loop-rest : goal.decreases-loop-rest
decreases-loop-rest l = length l.rest
