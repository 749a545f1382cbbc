use Rattle.std.proofs.Common.{refl}
use Rattle.unit_cases.proofs.OnBoards.{first_stands}
use Rattle.unit_cases.proofs.board.Board.new.Goals as goal

pub returns-clause-stands : goal.returns-clause-stands
returns-clause-stands c = first_stands _ refl
