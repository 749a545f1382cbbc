use Rattle.std.proofs.Common.{subst}
use Rattle.pv_catalog.specs.declared.entry.BatchEntry.{BatchEntry}
use Rattle.pv_catalog.specs.Rows.{Enters}
use Rattle.pv_catalog.proofs.table.Table.enter.Goals as goal

pub returns-in-Renamed-clause-bad : goal.returns-in-Renamed-clause-bad
returns-in-Renamed-clause-bad c failed new enters = c.enter_name.ensures.bad failed new (subst (λ (e : BatchEntry). Enters c.args.self.now.rows e new) c.in-Renamed.is enters)
