use Rattle.intake.proofs.HistoryLemmas.{keeps_history}
use Rattle.intake.proofs.laws.history.Goals as goal

pub returns : goal.returns
returns c = record { keeps = keeps_history }
