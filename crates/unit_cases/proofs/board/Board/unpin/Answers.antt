use Rattle.unit_cases.proofs.OnBoards.{none_made}
use Rattle.unit_cases.proofs.board.Board.unpin.Goals as goal

pub returns-in-None : goal.returns-in-None
returns-in-None c = none_made c.args.who c.args.self.now c.args.pin c.in-None.is
