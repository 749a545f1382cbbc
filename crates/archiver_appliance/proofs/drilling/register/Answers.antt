use Rattle.std.proofs.Common.{rules, ◌∙◌}
use Rattle.act_model.specs.Asks.{registered_reply}
use Rattle.archiver_appliance.proofs.DrillReads.{acts_given_back, made_one}
use Rattle.archiver_appliance.proofs.DrillRuns.{registered_as}
use Rattle.archiver_appliance.proofs.drilling.register.Goals as goal

pub ask_register-requires : goal.ask_register-requires
ask_register-requires g c = rw c.new-actor.ensures.archive (record { stands = c.requires.stands })

pub returns-in-Ok-Registered : goal.returns-in-Ok-Registered
returns-in-Ok-Registered g c =
    let row = c.in-Ok-Registered.field-0-0 in
    let made = made_one g.D.Disk c.args.archive.now c.archive-1.given.0 c.new-actor.result c.ask_register.new.actor c.new-actor.ensures.number c.new-actor.ensures.archive (λ same. search (rules, same, c.new-actor.ensures.same_reference)) registered_reply _ _ _ c.in-Ok-Registered.field-0-is c.in-Ok-Registered.ensures.asked.done in
    let given = acts_given_back g.D.Disk c.args.archive.now c.archive-1.given.0 c.new-actor.result c.ask_register.new.actor c.new-actor.ensures.number c.new-actor.ensures.archive (λ same. search (rules, same, c.new-actor.ensures.same_reference)) _ made in
    (row, registered_as g.D.Disk c.args.archive.now c.archive-1.given.0 _ _ c.args.variable row (c.in-Ok.ensures.ok.0 ∙ (c.as_bytes.ensures.value ∙ c.name_of.ensures)) c.about.ensures given)
