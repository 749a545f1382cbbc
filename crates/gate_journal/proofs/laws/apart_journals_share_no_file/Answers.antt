use Rattle.gate_journal.proofs.FileNames.{own_apart}
use Rattle.gate_journal.proofs.laws.apart_journals_share_no_file.Goals as goal

pub returns : goal.returns
returns c = own_apart
