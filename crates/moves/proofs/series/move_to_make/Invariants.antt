use Rattle.std.specs.BTreeMap.{get}
use Rattle.std.specs.Ordering.{nat_cmp}
use Rattle.moves.specs.Search.{answer}
use Rattle.moves.specs.Series.{IsToMove, parts_in}
use Rattle.moves.proofs.series.move_to_make.Given as goal

abbrev pub invariant-loop-s : goal.invariant-loop-s
invariant-loop-s l = IsToMove (parts_in l.rule l.source.entries l.destination.entries) (get nat_cmp l.running) l.s-counter (answer l.first)
