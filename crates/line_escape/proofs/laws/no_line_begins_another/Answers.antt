use Rattle.line_escape.proofs.EscapingLemmas.{escaped_no_front}
use Rattle.line_escape.proofs.laws.no_line_begins_another.Goals as goal

pub returns : goal.returns
returns c = escaped_no_front
