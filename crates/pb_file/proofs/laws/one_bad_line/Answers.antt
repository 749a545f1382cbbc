use Rattle.pb_lines.proofs.FileMeaning as meaning
use Rattle.pb_file.proofs.laws.one_bad_line.Goals as goal

pub returns : goal.returns
returns c = record { place = meaning.one_place; excluded = meaning.excluded }
