use Rattle.feed_session.proofs.Reading.{refused_name}
use Rattle.feed_session.proofs.asking.name_of.Goals as goal

pub returns-in-Err-BadName : goal.returns-in-Err-BadName
returns-in-Err-BadName c = λ good. refused_name c.args.info.now.name c.in-Err-BadName.field-0-0 (rw c.bytes.ensures at (rw c.in-Err-BadName.field-0-is at c.in-Err-BadName.ensures.err)) good
