use Rattle.arch_time.proofs.YearLemmas.{same_year_time}
use Rattle.arch_time.proofs.laws.one_year_time.Goals as goal

pub returns : goal.returns
returns c = same_year_time
