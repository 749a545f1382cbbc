use Rattle.std.proofs.Common.{refl}
use Rattle.act_model.specs.declared.acts.Act.TheVariants.{Tick}
use Rattle.unit_cases.proofs.OnBoards.{no_row, tick_none, wants}
use Rattle.unit_cases.proofs.board.Board.tick.Goals as goal

pub returns-then-row-ne0 : goal.returns-then-row-ne0
returns-then-row-ne0 c = λ who now. no_row who c.args.self.now c.args.row now c.if-row-ne0.true

pub returns-in-Monitor : goal.returns-in-Monitor
returns-in-Monitor c = λ who now. rw c.if-row-ne0.false (tick_none who c.args.self.now now c.in-Monitor.is)

pub returns-in-Scan : goal.returns-in-Scan
returns-in-Scan c = λ who now. wants who (Tick c.args.row now) c.args.self.now refl
