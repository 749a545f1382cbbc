use Rattle.std.proofs.Common.{arith}
use Rattle.line_escape.proofs.EscapingLemmas.{escaped-Means}
use Rattle.pb_messages.specs.Spelling.{event_text}
use Rattle.drill_feed.specs.Workload.{event_at, second_at, value_at}
use Rattle.drill_feed.proofs.Lines.{event_read}
use Rattle.drill_feed.proofs.Moments.{value_small}
use Rattle.drill_feed.proofs.laws.samples_tell.Goals as goal

pub returns-clause-means : goal.returns-clause-means
returns-clause-means c hours variable minute = escaped-Means (event_text (event_at hours variable minute))

pub returns-clause-read : goal.returns-clause-read
returns-clause-read c hours variable minute range few within = event_read (second_at variable minute) (value_at hours variable minute) (omega (arith, range.1)) (value_small hours variable minute range)
