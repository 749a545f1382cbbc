use Rattle.store_reopen.proofs.Verdicts.{holds_nothing}
use Rattle.store_reopen.proofs.laws.an_empty_disk_holds_nothing.Goals as goal

pub returns : goal.returns
returns c = holds_nothing
