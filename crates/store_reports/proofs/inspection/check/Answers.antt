use Rattle.std.proofs.Common.{refl}
use Rattle.store_reports.specs.Listing.{files_listed}
use Rattle.store_reports.proofs.Telling.{leaves_ended, all_stand, told_none}
use Rattle.store_reports.proofs.inspection.check.Goals as goal

pub returns-clause-checks : goal.returns-clause-checks
returns-clause-checks g c =
    let old = c.args.store.now in
    let tells = g.D.Disk.tells in
    let a = g.K.Sink.written c.args.sink.now in
    let none = told_none tells old.catalogue.rows (g.D.Disk.files old.disk) a c.new-report.result.buffer c.new-report.result.first c.new-report.ensures.buffer c.new-report.ensures.first in
    c.ended.ensures.checks tells old.catalogue.rows (g.D.Disk.files old.disk) (files_listed old.manifests.items) a (c.check_stores-told.ensures.told old.catalogue.rows (g.D.Disk.files old.disk) (record { rows = refl; files = λ told. refl }) a none)

pub returns-clause-stands : goal.returns-clause-stands
returns-clause-stands g c held has stands told = all_stand g.D.Disk.tells _ held _ _ c.ended.result has stands told (g.met.D.Disk.seen c.args.store.now.disk told) (returns-clause-checks g c)

pub returns-clause-leaves : goal.returns-clause-leaves
returns-clause-leaves g c = leaves_ended g.D.Disk g.D.Reader.ReadAt.faults _ _ _ _ _ c.check_stores-told.result c.ended.result c.check_stores-told.ensures.leaves c.ended.ensures.faults c.ended.ensures.cause
