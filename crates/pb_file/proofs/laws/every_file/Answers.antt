use Rattle.pb_lines.proofs.FileMeaning as meaning
use Rattle.pb_file.proofs.laws.every_file.Goals as goal

pub returns : goal.returns
returns c = meaning.every_file
