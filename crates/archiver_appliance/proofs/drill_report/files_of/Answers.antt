use Rattle.std.proofs.Common.{rules, ℕ, List, ◌∙◌, subst}
use Rattle.act_model.specs.Asks.{details_told_reply}
use Rattle.archiver_appliance.specs.Drilling.{CameTo, HasFiles, TellsOn}
use Rattle.archiver_appliance.proofs.DrillReads.{asked_acts, made_one, stands_behind, tells_files}
use Rattle.archiver_appliance.proofs.drill_report.files_of.Goals as goal

pub ask_details-requires : goal.ask_details-requires
ask_details-requires g c = rw c.new-actor.ensures.archive c.requires

pub returns-in-Ok-Described-clause-stands : goal.returns-in-Ok-Described-clause-stands
returns-in-Ok-Described-clause-stands g c =
    let acts = asked_acts g.D.Disk c.args.archive.now c.archive-1.given.0 c.new-actor.result c.ask_details.new.actor c.new-actor.ensures.number c.new-actor.ensures.archive (λ same. search (rules, same, c.new-actor.ensures.same_reference)) details_told_reply _ c.ask_details.result c.ask_details.ensures.asked in
    stands_behind g.D.Disk c.args.archive.now c.archive-1.given.0 acts.0 c.requires.stands acts.1

pub returns-in-Ok-Described-clause-files : goal.returns-in-Ok-Described-clause-files
returns-in-Ok-Described-clause-files g c =
    let d = c.in-Ok-Described.details in
    let made = made_one g.D.Disk c.args.archive.now c.archive-1.given.0 c.new-actor.result c.ask_details.new.actor c.new-actor.ensures.number c.new-actor.ensures.archive (λ same. search (rules, same, c.new-actor.ensures.same_reference)) details_told_reply _ _ _ c.in-Ok-Described.field-0-is c.in-Ok-Described.ensures.asked.done in
    let told = tells_files g.D.Disk c.args.archive.now c.archive-1.given.0 c.new-actor.result c.ask_details.new.actor c.new-actor.ensures.number c.new-actor.ensures.archive (λ same. search (rules, same, c.new-actor.ensures.same_reference)) c.from-name.result d made in
    let named = c.from-name.ensures ∙ (c.in_ok-from_slice.ensures.items ∙ c.as_bytes.ensures.value) in
    subst (λ (n : List ℕ). TellsOn g.D.Disk c.args.archive.now c.archive-1.given.0 (λ m entries. CameTo m entries (HasFiles n d.files))) named told

pub returns-in-Ok : goal.returns-in-Ok
returns-in-Ok g c =
    let acts = asked_acts g.D.Disk c.args.archive.now c.archive-1.given.0 c.new-actor.result c.ask_details.new.actor c.new-actor.ensures.number c.new-actor.ensures.archive (λ same. search (rules, same, c.new-actor.ensures.same_reference)) details_told_reply _ c.ask_details.result c.ask_details.ensures.asked in
    record { stands = stands_behind g.D.Disk c.args.archive.now c.archive-1.given.0 acts.0 c.requires.stands acts.1; files = tt }
