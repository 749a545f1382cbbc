use Rattle.partition_names.proofs.PartLemmas as parts
use Rattle.partition_names.proofs.laws.parts_nest.Goals as goal

pub returns-clause-coarser : goal.returns-clause-coarser
returns-clause-coarser c = parts.nest

pub returns-clause-finer : goal.returns-clause-finer
returns-clause-finer c = parts.finer
