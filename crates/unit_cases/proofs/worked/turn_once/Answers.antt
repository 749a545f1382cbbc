use Rattle.archive_actors.proofs.Learning.{stands_later, stands_on}
use Rattle.unit_cases.proofs.worked.turn_once.Goals as goal

pub turn-requires-clause-fits : goal.turn-requires-clause-fits
turn-requires-clause-fits g c = λ acts legal follows few. stands_later _ _ _ (λ old new who n act answer step. step.0) c.args.rooms.now c.args.pass.now c.requires.stands.0 acts c.requires.stands.1 legal

pub returns-in-Done-clause-stands : goal.returns-in-Done-clause-stands
returns-in-Done-clause-stands g c = stands_on _ _ _ (λ old new who n act answer step. step.0) c.args.rooms.now c.args.pass.now c.turn.new.pass c.requires.stands.0 c.turn.ensures.goes c.requires.stands.1

pub returns-in-Done-clause-adds : goal.returns-in-Done-clause-adds
returns-in-Done-clause-adds g c = let adds = c.in-Done.ensures.turns.1 in (adds.after, adds.own)

pub returns-clause-stands : goal.returns-clause-stands
returns-clause-stands g c = stands_on _ _ _ (λ old new who n act answer step. step.0) c.args.rooms.now c.args.pass.now c.turn.new.pass c.requires.stands.0 c.turn.ensures.goes c.requires.stands.1
