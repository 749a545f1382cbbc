use Rattle.std.proofs.Common.{◌≡◌, take, map}
use Rattle.pv_catalog.specs.declared.row.Row.{Row}
use Rattle.archive_core.proofs.telling.names_of.Given as goal

abbrev pub invariant-loop-row : goal.invariant-loop-row
invariant-loop-row l = l.names.items ≡ map (λ (row : Row). row.name) (take l.row-index l.asked)
