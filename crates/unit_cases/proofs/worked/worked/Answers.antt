use Rattle.unit_cases.proofs.Seats.{first_seated}
use Rattle.unit_cases.proofs.TwoActs.{last_still}
use Rattle.unit_cases.proofs.worked.worked.Goals as goal

pub two_acts-requires-clause-stands : goal.two_acts-requires-clause-stands
two_acts-requires-clause-stands g c = first_seated _ _ _ _ _ c.in-Ok-new.ensures.ok (rw c.new-2.ensures c.in-Ok.ensures.stands)

pub close-requires-clause-last : goal.close-requires-clause-last
close-requires-clause-last g c = last_still c.in-Some.pass c.turn_once-refused.new.pass c.turn_once-refused.ensures.goes.same_standing c.in-Some.ensures.last
