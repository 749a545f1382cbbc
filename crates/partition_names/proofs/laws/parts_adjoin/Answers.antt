use Rattle.partition_names.proofs.PartLemmas as parts
use Rattle.partition_names.proofs.laws.parts_adjoin.Goals as goal

pub returns : goal.returns
returns c = parts.adjoin
