use Rattle.drill_feed.specs.Report.{AreHeldLines}
use Rattle.drill_feed.proofs.drill.Drill.report.Given as goal

abbrev pub invariant-loop-variable : goal.invariant-loop-variable
invariant-loop-variable l = AreHeldLines l.self.hours l.variable l.text.items
