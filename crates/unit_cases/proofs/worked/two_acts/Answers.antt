use Rattle.unit_cases.proofs.Seats.{both_seated, met_seated}
use Rattle.unit_cases.proofs.TwoActs.{two_known, two_last}
use Rattle.unit_cases.proofs.worked.two_acts.Goals as goal

pub turn_once-requires-2-clause-stands : goal.turn_once-requires-2-clause-stands
turn_once-requires-2-clause-stands g c = (both_seated _ _ c.args.rooms.now c.turn_once.new.pass c.part.new.pass c.in-Ok.note c.in-Ok.ensures.parts c.turn_once.ensures.stands).1

pub returns-clause-stands : goal.returns-clause-stands
returns-clause-stands g c =
    met_seated _ _ _ (λ old new who n act answer step. step.0) c.args.rooms.now c.part.new.pass c.meet.new.pass c.turn_once-2.new.pass c.meet.ensures
    (both_seated _ _ c.args.rooms.now c.turn_once.new.pass c.part.new.pass c.in-Ok.note c.in-Ok.ensures.parts c.turn_once.ensures.stands).0

pub returns-clause-last : goal.returns-clause-last
returns-clause-last g c =
    two_last _ c.args.rooms.now c.requires.first.0 c.args.pass c.turn_once.new.pass c.part.new.pass c.meet.new.pass c.in-Ok.note c.turn_once-2.new.pass c.requires.first.1 c.turn_once.ensures.goes c.in-Ok.ensures.parts c.turn_once-2.ensures.goes c.meet.ensures

pub returns-clause-knows : goal.returns-clause-knows
returns-clause-knows g c =
    two_known _ c.args.rooms.now c.requires.first.0 c.args.pass c.turn_once.new.pass c.part.new.pass c.meet.new.pass c.in-Ok.note c.turn_once-2.new.pass c.requires.first.1 c.turn_once.ensures.goes c.in-Ok.ensures.parts c.turn_once-2.ensures.goes c.meet.ensures
    c.args.one c.args.two c.in-Some.first c.in-Some-turn_once.second c.in-Some.ensures.adds c.in-Some-turn_once.ensures.adds
