use Rattle.pb_lines.proofs.Unique as unique
use Rattle.pb_lines.proofs.laws.one_stream.Goals as goal

pub returns : goal.returns
returns c = unique.one_stream
