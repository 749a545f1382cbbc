use Rattle.partition_names.proofs.PartLemmas as parts
use Rattle.partition_names.proofs.laws.one_name.Goals as goal

pub returns : goal.returns
returns c = parts.one_name
