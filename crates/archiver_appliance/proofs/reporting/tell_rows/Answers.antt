use Rattle.std.proofs.Common.{inl, sym, subst}
use Rattle.tier_store.specs.Seen.{seen}
use Rattle.store_reopen.specs.Reopen.{IsUnopened, lists_of}
use Rattle.store_reopen.proofs.Swept.{open_unopened}
use Rattle.store_reports.specs.Status.{status_text}
use Rattle.archiver_appliance.specs.Reporting.{Tells, TellsListed}
use Rattle.command_words.specs.declared.status.Status.{Status}
use Rattle.archiver_appliance.proofs.Checking.{told_rows}
use Rattle.archiver_appliance.proofs.Outcomes.{tells_of}
use Rattle.archiver_appliance.proofs.reporting.tell_rows.Goals as goal

pub returns-clause-held : goal.returns-clause-held
returns-clause-held g c = λ held has stands told.
    let a = g.K.Sink.written c.args.sink.now in
    let b = g.K.Sink.written c.status-reported.new.sink in
    subst (λ (s : Status). Tells (status_text held) a b s) (sym c.reported_status.ensures) (tells_of (status_text held) a b c.status-reported.result (c.status-reported.ensures.held held has stands told))

pub returns-clause-listed : goal.returns-clause-listed
returns-clause-listed g c =
    let a = g.K.Sink.written c.args.sink.now in
    let b = g.K.Sink.written c.status-reported.new.sink in
    subst (λ (s : Status). TellsListed c.args.store.catalogue.rows (lists_of c.args.store.manifests.items 0) (lists_of c.args.store.manifests.items 1) (lists_of c.args.store.manifests.items 2) a b s) (sym c.reported_status.ensures) (told_rows g.D.Disk.tells (seen g.D.Disk c.args.store) a b c.status-reported.result c.status-reported.ensures.reports)

pub returns-clause-unopened : goal.returns-clause-unopened
returns-clause-unopened g c = λ told.
    let has = c.requires.has in
    let later = c.status-reported.new.store in
    subst (λ d. IsUnopened (g.D.Disk.files d) (g.D.Disk.opened d)) (sym c.into_disk.ensures)
    (open_unopened g.D.Disk.tells (seen g.D.Disk later) has.0 has.0 told (g.met.D.Disk.seen later.disk told) (inl (c.status-reported.ensures.stores.has has.0 has.1)))
