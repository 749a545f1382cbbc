use Rattle.json_out.proofs.Lines.{message_meant}
use Rattle.json_out.proofs.laws.lines.Goals as goal

pub returns : goal.returns
returns c = message_meant
