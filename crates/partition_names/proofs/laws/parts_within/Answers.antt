use Rattle.partition_names.proofs.PartLemmas as parts
use Rattle.partition_names.proofs.laws.parts_within.Goals as goal

pub returns : goal.returns
returns c = parts.within
