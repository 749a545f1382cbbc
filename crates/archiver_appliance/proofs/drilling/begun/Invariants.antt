use Rattle.archiver_appliance.proofs.DrillRuns.{RegisteredOn, StandsNow}
use Rattle.archiver_appliance.proofs.drilling.begun.Given as goal

abbrev pub invariant-loop-variable : goal.invariant-loop-variable
invariant-loop-variable g l = record { stands : StandsNow g.D.Disk l.archive; registered : RegisteredOn g.D.Disk l.fn.disk l.variable l.archive }
