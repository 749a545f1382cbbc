use Rattle.format_cases.specs.Steps.{Rests}
use Rattle.format_cases.proofs.journal.stepped.Given as goal

abbrev pub invariant-loop-step : goal.invariant-loop-step
invariant-loop-step l = Rests l.journal l.disk
