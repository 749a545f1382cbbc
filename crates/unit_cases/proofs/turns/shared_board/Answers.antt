use Rattle.unit_cases.proofs.Seats.{first_seated, both_seated}
use Rattle.unit_cases.proofs.turns.shared_board.Goals as goal

pub returns : goal.returns
returns g c = both_seated _ _ _ _ _ _ c.in-Ok-part.ensures.parts (first_seated _ _ _ _ _ c.in-Ok-new.ensures.ok (rw c.new-2.ensures c.in-Ok.ensures.stands))
