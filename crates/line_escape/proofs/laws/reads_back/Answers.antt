use Rattle.line_escape.proofs.EscapingLemmas.{escaped-Means, escaped-HasNoNewline, read_back, never_refused}
use Rattle.line_escape.proofs.laws.reads_back.Goals as goal

pub returns-clause-whole : goal.returns-clause-whole
returns-clause-whole c = escaped-HasNoNewline

pub returns-clause-means : goal.returns-clause-means
returns-clause-means c = escaped-Means

pub returns-clause-back : goal.returns-clause-back
returns-clause-back c = read_back

pub returns-clause-accepted : goal.returns-clause-accepted
returns-clause-accepted c = never_refused
