use Rattle.arch_time.proofs.IsoLemmas as iso
use Rattle.arch_time.proofs.laws.one_moment.Goals as goal

pub returns : goal.returns
returns c = iso.one_moment
