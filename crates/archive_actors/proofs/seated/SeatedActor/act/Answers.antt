use Rattle.std.proofs.Common.{ap, List, rules}
use Rattle.std.specs.Prelude.{map}
use Rattle.act_model.specs.History.{Entry, done_of}
use Rattle.archive_actors.proofs.Learning.{stands_later, stands_on}
use Rattle.archive_actors.proofs.Turns.{taken_turn, no_turn}
use Rattle.archive_actors.proofs.seated.SeatedActor.act.Goals as goal

pub turn-requires-clause-fits : goal.turn-requires-clause-fits
turn-requires-clause-fits g c = λ acts legal follows few. stands_later _ _ _ (λ old new who n act answer step. step.0) c.args.self.now.rooms.now c.args.self.now.pass.now c.requires.stands.0 acts c.requires.stands.1 legal

pub returns-in-Done-clause-done : goal.returns-in-Done-clause-done
returns-in-Done-clause-done g c =
    let turn = taken_turn _ _ c.args.self.now.rooms.now c.args.self.now.pass.now c.turn.new.pass _ c.args.act c.in-Done.answer c.turn.ensures.goes c.in-Done.ensures.turns.1 in
    record { others = turn.0; leads = (search rules, turn.1); not_mine = turn.2 }

pub returns-in-Done-clause-stands : goal.returns-in-Done-clause-stands
returns-in-Done-clause-stands g c = stands_on _ _ _ (λ old new who n act answer step. step.0) c.args.self.now.rooms.now c.args.self.now.pass.now c.turn.new.pass c.requires.stands.0 c.turn.ensures.goes c.requires.stands.1

pub returns-clause-spent : goal.returns-clause-spent
returns-clause-spent g c =
    let turn = no_turn _ _ c.args.self.now.rooms.now c.args.self.now.pass.now c.turn.new.pass _ c.turn.ensures.goes c.in-Spent.ensures.turns.1.1 in
    (record { entries = turn.0; leads = (search rules, turn.1); just_these = ap (λ (w : List Entry). map done_of w) turn.2 }, turn.3)

pub returns-clause-stands : goal.returns-clause-stands
returns-clause-stands g c = stands_on _ _ _ (λ old new who n act answer step. step.0) c.args.self.now.rooms.now c.args.self.now.pass.now c.turn.new.pass c.requires.stands.0 c.turn.ensures.goes c.requires.stands.1
