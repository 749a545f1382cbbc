use Rattle.pb_lines.proofs.FileMeaning as meaning
use Rattle.pb_file.proofs.laws.one_file.Goals as goal

pub returns : goal.returns
returns c = meaning.one_file
