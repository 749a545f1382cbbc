use Rattle.pb_wire.proofs.SignedLemmas.{unzigzag-zigzag, zigzag-unzigzag}
use Rattle.pb_wire.proofs.laws.zigzags.Goals as goal

pub returns-clause-back : goal.returns-clause-back
returns-clause-back c = unzigzag-zigzag

pub returns-clause-forth : goal.returns-clause-forth
returns-clause-forth c = zigzag-unzigzag
