use Rattle.std.proofs.Common.{◌≡◌, ℕ, ◌+◌, [], ◌++◌, reverse, Option, Some, None}
use Rattle.pv_catalog.specs.Lines.{line_known, lines, line}
use Rattle.pv_catalog.proofs.line.line_of.Given as goal

-- the line is that of the row to come, and then the rows so far the other way round
abbrev pub invariant-loop-next : goal.invariant-loop-next
invariant-loop-next l = line l.rows l.fn.id ≡ line_known (lines [] l.rows) l.next ++ reverse l.ids.items

-- the rows that may still come
abbrev pub rows_below : Option ℕ → ℕ
rows_below None = 0
rows_below (Some i) = i + 1

abbrev pub decreases-loop-next : goal.decreases-loop-next
decreases-loop-next l = rows_below l.next
