use Rattle.unit_cases.specs.Counting.{counts_acts}
use Rattle.turn_rooms.proofs.Joining.{last_back}
use Rattle.unit_cases.proofs.rooms.worked.Goals as goal

pub close-counter-requires-clause-last : goal.close-counter-requires-clause-last
close-counter-requires-clause-last g c = last_back counts_acts c.in-Ok.rooms _ c.in-Ok.pass c.in-Some.pass c.in-Ok.ensures.ok c.in-Some.ensures.1
