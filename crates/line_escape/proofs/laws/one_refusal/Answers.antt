use Rattle.line_escape.proofs.EscapingLemmas.{bad_means_nothing, one_bad_place}
use Rattle.line_escape.proofs.laws.one_refusal.Goals as goal

pub returns-clause-nothing : goal.returns-clause-nothing
returns-clause-nothing c = bad_means_nothing

pub returns-clause-first : goal.returns-clause-first
returns-clause-first c = one_bad_place
