use Rattle.gate_journal.proofs.Turns.{tells_none}
use Rattle.gate_journal.proofs.told.Told.new.Goals as goal

pub returns : goal.returns
returns c = tells_none
