use Rattle.std.proofs.Common.{inl, ◌<◌, List, [], ◌∷◌, length, Ok, Err, sym, ◌∙◌, ap, subst, arith}
use Rattle.std.proofs.lemmas.Result.{err_from_is_err_and}
use Rattle.pins.specs.declared.choosing.Listed.{Listed}
use Rattle.pv_catalog.specs.Catalogue.{CatalogueState}
use Rattle.pv_catalog.specs.declared.row.Row.{Row}
use Rattle.tier_store.proofs.Places.{row_listed}
use Rattle.store_reports.specs.Check.{Inspected}
use Rattle.store_reports.proofs.Telling.{leaves_ended, leaves_put, leaves_written, unwritten, found_before, told_err, told_more, untold}
use Rattle.store_reports.proofs.inspection.check_entry.Goals as goal

pub tell-requires : goal.tell-requires
tell-requires g c =
    let was = c.requires.has in
    let rows = c.rows.ensures.value ∙ ap (λ (k : CatalogueState). k.rows) (c.catalogue.ensures ∙ (c.find.ensures.leaves 0).stores.catalogue) in
    subst (λ (l : List Row). c.args.entry.now.series < length l) (sym rows) (row_listed g.D.Disk.tells _ was.0 c.args.number c.args.entry.now was.1 c.requires.listed)

pub returns-in_err-finding-clause-told : goal.returns-in_err-finding-clause-told
returns-in_err-finding-clause-told g c rows files shows before a told =
    let p = err_from_is_err_and c.from_residual.result c.from_residual.ensures.1 in
    let e = c.in_err-finding.field-0.0 in
    let file : Listed = record { store = c.args.number; entry = c.args.entry.now } in
    rw (p.1, p.2) (untold g.D.Disk.tells rows files before (file ∷ []) a (g.K.Sink.written c.args.sink.now) c.args.report.now.buffer c.args.report.now.first e (unwritten g.D.Reader.ReadAt.faults e (c.in_err-finding.ensures.leaves 0).cause) told)

pub returns-in_err-finding-clause-leaves : goal.returns-in_err-finding-clause-leaves
returns-in_err-finding-clause-leaves g c =
    let p = err_from_is_err_and c.from_residual.result c.from_residual.ensures.1 in
    let writes = g.K.Sink.write_faults c.args.sink.now in
    rw (p.1, p.2) (leaves_ended g.D.Disk g.D.Reader.ReadAt.faults _ _ writes writes writes c.find.result (Err c.in_err-finding.field-0.0) (c.find.ensures.leaves writes) (omega arith) (inl c.in_err-finding.was))

pub returns-in_err-tell-clause-told : goal.returns-in_err-tell-clause-told
returns-in_err-tell-clause-told g c rows files shows before a told =
    let p = err_from_is_err_and c.from_residual-in_err-tell.result c.from_residual-in_err-tell.ensures.1 in
    let i : Inspected = record { file = record { store = c.args.number; entry = c.args.entry.now }; finding = c.in_ok-finding.finding } in
    let same = c.rows.ensures.value ∙ ap (λ (k : CatalogueState). k.rows) (c.catalogue.ensures ∙ (c.find.ensures.leaves 0).stores.catalogue) ∙ shows.rows in
    rw (p.1, p.2) (told_err g.D.Disk.tells rows files _ before a (g.K.Sink.written c.args.sink.now) (g.K.Sink.written c.tell.new.sink) c.args.report.now.buffer c.tell.new.self.buffer c.args.report.now.first i c.rows.result.now c.in_err-tell.field-0.0 same told (found_before g.D.Disk.tells _ rows files i shows c.in_ok-finding.ensures.found)
    (λ is. c.tell.ensures.memory (c.in_err-tell.was ∙ ap Err is)) (λ is. c.tell.ensures.fault (c.in_err-tell.was ∙ ap Err is)))

pub returns-in_err-tell-clause-leaves : goal.returns-in_err-tell-clause-leaves
returns-in_err-tell-clause-leaves g c =
    let p = err_from_is_err_and c.from_residual-in_err-tell.result c.from_residual-in_err-tell.ensures.1 in
    let writes = g.K.Sink.write_faults c.args.sink.now in
    rw (p.1, p.2) (leaves_put g.D.Disk g.D.Reader.ReadAt.faults _ _ writes writes _ c.find.result c.in_err-tell.field-0.0 (c.find.ensures.leaves writes) c.tell.ensures.faults (λ is. c.tell.ensures.cause (c.in_err-tell.was ∙ ap Err is)))

pub returns-clause-told : goal.returns-clause-told
returns-clause-told g c rows files shows before a told =
    let i : Inspected = record { file = record { store = c.args.number; entry = c.args.entry.now }; finding = c.in_ok-finding.finding } in
    let same = c.rows.ensures.value ∙ ap (λ (k : CatalogueState). k.rows) (c.catalogue.ensures ∙ (c.find.ensures.leaves 0).stores.catalogue) ∙ shows.rows in
    told_more g.D.Disk.tells rows files before a (g.K.Sink.written c.args.sink.now) (g.K.Sink.written c.tell.new.sink) c.args.report.now.buffer c.tell.new.self.buffer c.args.report.now.first c.tell.new.self.first i c.rows.result.now same told (found_before g.D.Disk.tells _ rows files i shows c.in_ok-finding.ensures.found) c.in_ok-tell.ensures.line c.in_ok-tell.ensures.first

pub returns-clause-leaves : goal.returns-clause-leaves
returns-clause-leaves g c =
    let writes = g.K.Sink.write_faults c.args.sink.now in
    leaves_written g.D.Disk g.D.Reader.ReadAt.faults _ _ writes writes _ c.find.result (Ok tt) (c.find.ensures.leaves writes) c.tell.ensures.faults (λ failed. failed) tt
