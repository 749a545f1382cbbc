use Rattle.act_model.specs.Machine.{Machine}
use Rattle.archive_core.specs.Parts.{parts}
use Rattle.archive_core.specs.Stands.{Stands}
use Rattle.archiver_appliance.specs.Drilling.{Tells, TellsOn}
use Rattle.archiver_appliance.proofs.drill_report.report.Given as goal

abbrev pub invariant-loop-variable : goal.invariant-loop-variable
invariant-loop-variable g l = record {
  stands : (m : Machine) × Stands g.D.Disk.tells (parts g.D.Disk l.archive) m;
  tells : TellsOn g.D.Disk l.fn.archive l.archive (λ m entries. Tells m entries l.drill.hours l.variable l.text.items l.files);
}
