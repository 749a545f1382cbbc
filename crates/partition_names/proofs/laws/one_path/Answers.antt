use Rattle.partition_names.proofs.PathLemmas as paths
use Rattle.partition_names.proofs.laws.one_path.Goals as goal

pub returns : goal.returns
returns c = paths.one_path
