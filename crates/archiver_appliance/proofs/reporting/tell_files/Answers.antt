use Rattle.std.proofs.Common.{Bool, inl, sym, subst}
use Rattle.tier_store.specs.Seen.{seen}
use Rattle.store_reopen.specs.Reopen.{IsUnopened, lists_of}
use Rattle.store_reopen.proofs.Swept.{open_unopened}
use Rattle.store_reports.specs.Check.{Checks}
use Rattle.store_reports.specs.Listing.{files_listed}
use Rattle.archiver_appliance.specs.Judging.{IsOfOpened}
use Rattle.archiver_appliance.specs.Reporting.{ChecksAll}
use Rattle.archiver_appliance.specs.Run.{NoDamage}
use Rattle.command_words.specs.declared.status.Status.{Status}
use Rattle.archiver_appliance.proofs.Checking.{checks_all, files_are}
use Rattle.archiver_appliance.proofs.Outcomes.{check_opened, check_stands}
use Rattle.archiver_appliance.proofs.reporting.tell_files.Goals as goal

pub returns-clause-held : goal.returns-clause-held
returns-clause-held g c = λ held has stands told. subst NoDamage (sym c.checked_status-status.ensures.status) (check_stands c.check-checked.result (c.check-checked.ensures.stands held has stands told))

pub returns-clause-checks : goal.returns-clause-checks
returns-clause-checks g c = λ told.
    let rows = c.args.store.catalogue.rows in
    let files = g.D.Disk.files c.args.store.disk in
    let ms = c.args.store.manifests.items in
    let a = g.K.Sink.written c.args.sink.now in
    let b = g.K.Sink.written c.check-checked.new.sink in
    subst (λ (s : Status). ChecksAll rows files (lists_of ms 0) (lists_of ms 1) (lists_of ms 2) a b s) (sym c.checked_status-status.ensures.status)
    (checks_all rows files (lists_of ms 0) (lists_of ms 1) (lists_of ms 2) (files_listed ms) a b c.check-checked.result (files_are ms) (subst (λ (t : Bool). Checks t rows files (files_listed ms) a b c.check-checked.result) told c.check-checked.ensures.checks))

pub returns-clause-unopened : goal.returns-clause-unopened
returns-clause-unopened g c = λ told.
    let has = c.requires.has in
    let later = c.check-checked.new.store in
    subst (λ d. IsUnopened (g.D.Disk.files d) (g.D.Disk.opened d)) (sym c.into_disk.ensures)
    (open_unopened g.D.Disk.tells (seen g.D.Disk later) has.0 has.0 told (g.met.D.Disk.seen later.disk told) (inl (c.check-checked.ensures.leaves.stores.has has.0 has.1)))

pub returns-clause-opened : goal.returns-clause-opened
returns-clause-opened g c = subst IsOfOpened (sym c.checked_status-status.ensures.status) (check_opened c.check-checked.result)
