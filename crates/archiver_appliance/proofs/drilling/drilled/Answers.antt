use Rattle.std.proofs.Common.{sym, subst}
use Rattle.std.proofs.lemmas.Result.{IfOk-weaker}
use Rattle.disk_model.specs.Disk.{DiskRecord}
use Rattle.disk_model.specs.Record.{files_of, opened_of, past_of}
use Rattle.store_reopen.specs.Reopen.{IsUnopened, stores_of}
use Rattle.archiver_appliance.specs.Drilling.{IsDrillText, OfHeld, OpensWell, WereSpent, nothing_held, shipped}
use Rattle.archiver_appliance.proofs.DrillRuns.{empty_opens, empty_unopened, of_nothing}
use Rattle.archiver_appliance.proofs.drilling.drilled.Goals as goal

pub drill_on-requires-clause-unopened : goal.drill_on-requires-clause-unopened
drill_on-requires-clause-unopened g c κs within told = subst (λ (d : DiskRecord). IsUnopened (files_of d.calls) (opened_of d.calls)) (sym c.in_ok-new.ensures) empty_unopened

pub drill_on-requires-clause-opens : goal.drill_on-requires-clause-opens
drill_on-requires-clause-opens g c κs within = subst (λ (d : DiskRecord). OpensWell (stores_of shipped) (past_of d.calls)) (sym c.in_ok-new.ensures) (empty_opens c.an_empty_disk_holds_nothing.ensures (stores_of shipped))

pub returns-clause-text : goal.returns-clause-text
returns-clause-text g c =
    let hours = c.args.drill.hours in
    let nothing = of_nothing c.an_empty_disk_holds_nothing.ensures (stores_of shipped) in
    IfOk-weaker c.drill_on.result (λ text. OfHeld (stores_of shipped) (past_of c.in_ok-new.field-0.calls) (λ held. IsDrillText hours held text.items)) (λ text. IsDrillText hours nothing_held text.items)
    (λ text of. nothing (λ held. IsDrillText hours held text.items) (subst (λ (d : DiskRecord). OfHeld (stores_of shipped) (past_of d.calls) (λ held. IsDrillText hours held text.items)) c.in_ok-new.ensures of)) c.drill_on.ensures.text

pub returns-clause-spent : goal.returns-clause-spent
returns-clause-spent g c is =
    let hours = c.args.drill.hours in
    of_nothing c.an_empty_disk_holds_nothing.ensures (stores_of shipped) (WereSpent hours) (subst (λ (d : DiskRecord). OfHeld (stores_of shipped) (past_of d.calls) (WereSpent hours)) c.in_ok-new.ensures (c.drill_on.ensures.spent is))
