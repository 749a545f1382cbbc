use Rattle.arch_time.proofs.CalendarLemmas.{jiff_day}
use Rattle.arch_time.proofs.laws.jiff_days.Goals as goal

pub returns : goal.returns
returns c = jiff_day
