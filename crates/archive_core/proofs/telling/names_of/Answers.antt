use Rattle.std.proofs.Common.{◌∙◌}
use Rattle.pv_catalog.specs.declared.row.Row.{Row}
use Rattle.archive_core.proofs.Lists.{map_part}
use Rattle.archive_core.proofs.telling.names_of.Goals as goal

pub returns : goal.returns
returns c = c.from-2.ensures ∙ (c.loop-row.invariant ∙ map_part (λ (row : Row). row.name) c.args.rows.now c.args.from c.args.most c.min.result c.min-2.result c.loop-row.row-index c.min.ensures c.min-2.ensures c.loop-row-test.false)
