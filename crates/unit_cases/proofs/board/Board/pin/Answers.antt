use Rattle.std.proofs.Common.{refl}
use Rattle.act_model.specs.declared.acts.Act.TheVariants.{Pin}
use Rattle.unit_cases.proofs.OnBoards.{wants, pin_made}
use Rattle.unit_cases.proofs.board.Board.pin.Goals as goal

pub returns-then-not-is_free : goal.returns-then-not-is_free
returns-then-not-is_free c = wants c.args.who (Pin c.args.name.now c.args.query) _ refl

pub returns-in_default : goal.returns-in_default
returns-in_default c = wants c.args.who (Pin c.args.name.now c.args.query) _ refl

pub returns : goal.returns
returns c = λ m st. let free = c.is_free.ensures c.if-not-is_free.false in rw (free.0, c.in-Ok.ensures.0, c.in-Ok.ensures.1, c.no_samples-tail.ensures) (pin_made c.args.who c.args.self.now c.args.query free.1 m st)
