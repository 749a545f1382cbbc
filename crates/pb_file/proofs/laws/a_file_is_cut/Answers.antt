use Rattle.pb_lines.proofs.FileMeaning as meaning
use Rattle.pb_file.proofs.laws.a_file_is_cut.Goals as goal

pub returns : goal.returns
returns c = meaning.is_cut
