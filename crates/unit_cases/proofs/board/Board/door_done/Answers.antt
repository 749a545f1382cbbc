use Rattle.unit_cases.proofs.OnBoards.{door_done}
use Rattle.unit_cases.proofs.board.Board.door_done.Goals as goal

pub returns : goal.returns
returns c = λ who. rw c.saturating_sub-self.ensures (door_done who c.args.self.now)
