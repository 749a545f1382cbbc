use Rattle.std.proofs.Common.{arith}
use Rattle.partition_names.proofs.UnitLemmas.{years_of_day}
use Rattle.partition_names.proofs.unit.minute_at.Goals as goal

pub returns-clause-years : goal.returns-clause-years
returns-clause-years c =
    let date = c.of_number-date.result in
    years_of_day date.year date.month date.day date.exists (omega (arith, c.of_number-date.ensures)) (omega (arith, c.of_number-date.ensures))
