use Rattle.partition_names.proofs.PartLemmas as parts
use Rattle.partition_names.proofs.laws.years_begin.Goals as goal

pub returns : goal.returns
returns c = parts.year_begins
