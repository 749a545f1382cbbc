use Rattle.pb_lines.proofs.Whole as whole
use Rattle.pb_lines.proofs.laws.every_stream.Goals as goal

pub returns : goal.returns
returns c = whole.every_stream
