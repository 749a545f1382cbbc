use Rattle.arch_time.proofs.CalendarLemmas.{same_date}
use Rattle.arch_time.proofs.laws.one_date.Goals as goal

pub returns : goal.returns
returns c = same_date
