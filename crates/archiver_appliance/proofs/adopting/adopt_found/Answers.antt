use Rattle.std.proofs.Common.{refl, sym, subst}
use Rattle.store_reopen.specs.Adoption.{adopt_disk_in, cause_of}
use Rattle.store_reopen.specs.NotOpened.{IsCauseOf}
use Rattle.store_reopen.specs.Reopen.{stores_of}
use Rattle.command_words.specs.declared.command.Command.TheVariants.{OverStore}
use Rattle.command_words.specs.declared.command.StoreCommand.TheVariants as command
use Rattle.command_words.specs.declared.status.Status.{Status}
use Rattle.archiver_appliance.specs.Adopting.{beside}
use Rattle.archiver_appliance.specs.Run.{Does}
use Rattle.archiver_appliance.proofs.Adoptions.{adopted_does, stopped_does}
use Rattle.archiver_appliance.proofs.Judgements.{OneVerdict}
use Rattle.archiver_appliance.proofs.adopting.adopt_found.Goals as goal

pub returns-in-Ok-clause-does : goal.returns-in-Ok-clause-does
returns-in-Ok-clause-does g c source clock reads =
    let config = c.args.config.now in
    let old = beside source clock reads g.K.Sink g.D.Disk c.args.sink.now c.args.disk in
    let verdict : OneVerdict = record { whole = c.one_verdict.ensures.whole; same = c.one_verdict.ensures.same; undamaged = c.one_verdict.ensures.undamaged } in
    subst (λ d. Does config g.D.Disk.tells (OverStore command.Adopt) old (beside source clock reads g.K.Sink g.D.Disk c.tell_adopted.new.sink d) c.tell_adopted.result) (sym c.into_disk.ensures)
    (adopted_does g.K.Sink g.D.Disk config c.args.disk c.in-Ok.store verdict source clock reads c.args.sink.now c.tell_adopted.new.sink c.in-Ok.adopted c.tell_adopted.result c.in-Ok.ensures.ready.granularity c.tell_adopted.ensures.told
    (λ told. c.in-Ok.ensures.whole told refl) c.in-Ok.ensures.adopts c.in-Ok.ensures.adopted c.in-Ok.ensures.finished)

pub returns-in-Err-clause-does : goal.returns-in-Err-clause-does
returns-in-Err-clause-does g c source clock reads =
    let config = c.args.config.now in
    let err = c.in-Err.err in
    let old = beside source clock reads g.K.Sink g.D.Disk c.args.sink.now c.args.disk in
    let verdict : OneVerdict = record { whole = c.one_verdict.ensures.whole; same = c.one_verdict.ensures.same; undamaged = c.one_verdict.ensures.undamaged } in
    subst (λ d. Does config g.D.Disk.tells (OverStore command.Adopt) old (beside source clock reads g.K.Sink g.D.Disk c.args.sink.now d) c.stopped.result.status) (sym c.stopped.ensures.disk)
    (subst (λ (s : Status). Does config g.D.Disk.tells (OverStore command.Adopt) old (beside source clock reads g.K.Sink g.D.Disk c.args.sink.now (adopt_disk_in err)) s) (sym c.stopped.ensures.status)
    (stopped_does g.K.Sink g.D.Disk config c.args.disk verdict source clock reads c.args.sink.now err (λ told d name at is. subst (λ x. IsCauseOf g.D.Disk (stores_of config) c.args.disk (cause_of x)) is c.in-Err.ensures.told told)
    (λ told d kept other is. subst (λ x. IsCauseOf g.D.Disk (stores_of config) c.args.disk (cause_of x)) is c.in-Err.ensures.told told) c.in-Err.ensures.adopts (λ told. g.met.D.Disk.seen c.args.disk told)))
