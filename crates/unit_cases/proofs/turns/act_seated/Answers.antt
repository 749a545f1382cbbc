use Rattle.std.proofs.Common.{◌∙◌, rules}
use Rattle.unit_cases.proofs.Seats.{same_seated}
use Rattle.unit_cases.proofs.turns.act_seated.Goals as goal

pub act-requires-clause-stands : goal.act-requires-clause-stands
act-requires-clause-stands g c = rw (c.new.ensures.rooms, c.new.ensures.pass) c.requires.stands

pub returns-in-Ok : goal.returns-in-Ok
returns-in-Ok g c =
    let leads = c.in-Ok.ensures.done.leads in
    record { stands = same_seated _ _ c.args.rooms.now c.act.new.self.rooms.now _ c.act.new.self.pass.now (leads.1.same_rooms ∙ c.new.ensures.rooms) (search (rules, leads.0, c.new.ensures.same_reference)) c.act.ensures.stands }

pub returns-in-Err : goal.returns-in-Err
returns-in-Err g c =
    let leads = c.in-Err.ensures.spent.0.leads in
    record { stands = same_seated _ _ c.args.rooms.now c.act.new.self.rooms.now _ c.act.new.self.pass.now (leads.1.same_rooms ∙ c.new.ensures.rooms) (search (rules, leads.0, c.new.ensures.same_reference)) c.act.ensures.stands }
