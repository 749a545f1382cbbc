use Rattle.gate_journal.proofs.Files.{unmoved, then_loosely}
use Rattle.gate_journal.proofs.anew.empty.Goals as goal

pub returns-in-Some-clause-any_moment : goal.returns-in-Some-clause-any_moment
returns-in-Some-clause-any_moment g c tells = then_loosely _ _ _ _ _ (unmoved _ _ _ (c.size.ensures.crash tells)) (c.cut.ensures.crash tells)

pub returns-in-None-clause-any_moment : goal.returns-in-None-clause-any_moment
returns-in-None-clause-any_moment g c tells = then_loosely _ _ _ _ _ (unmoved _ _ _ (c.size.ensures.crash tells)) (c.create.ensures.crash tells)
