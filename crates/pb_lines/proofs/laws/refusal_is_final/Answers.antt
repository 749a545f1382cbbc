use Rattle.pb_lines.proofs.Final as final
use Rattle.pb_lines.proofs.laws.refusal_is_final.Goals as goal

pub returns-clause-whole_line : goal.returns-clause-whole_line
returns-clause-whole_line c = final.whole_line_is_final

pub returns-clause-any_line : goal.returns-clause-any_line
returns-clause-any_line c = final.refusal_is_final
