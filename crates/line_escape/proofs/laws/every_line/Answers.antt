use Rattle.line_escape.proofs.EscapingLemmas as lemmas
use Rattle.line_escape.proofs.laws.every_line.Goals as goal

pub returns : goal.returns
returns c = lemmas.every_line
