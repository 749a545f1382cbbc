use Rattle.std.proofs.Common.{sym, ◌∙◌, subst}
use Rattle.etl_mover.specs.Move.{IsMove}
use Rattle.etl_mover.proofs.Steps.{finish_keeps}
use Rattle.etl_mover.proofs.moving.Move.pass.Goals as goal

pub returns-in-Some-clause-running : goal.returns-in-Some-clause-running
returns-in-Some-clause-running c fine is = subst (IsMove fine) (sym c.finish.ensures.finished) (finish_keeps fine c.args.self.now c.in-Some.part c.args.len is (sym c.next_part.ensures ∙ c.in-Some.is))
