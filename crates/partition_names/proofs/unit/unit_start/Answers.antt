use Rattle.partition_names.proofs.UnitLemmas.{year_unit}
use Rattle.partition_names.proofs.unit.unit_start.Goals as goal

pub returns-in-Year : goal.returns-in-Year
returns-in-Year c = rw c.in-Year.is (year_unit c.args.at c.requires.exists c.requires.years)
