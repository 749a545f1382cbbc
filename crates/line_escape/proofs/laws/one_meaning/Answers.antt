use Rattle.line_escape.proofs.EscapingLemmas.{meaning_unique}
use Rattle.line_escape.proofs.laws.one_meaning.Goals as goal

pub returns : goal.returns
returns c = meaning_unique
