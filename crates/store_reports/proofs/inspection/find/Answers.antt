use Rattle.std.proofs.Common.{length, refl, ap, arith}
use Rattle.std.proofs.lemmas.List.{length-take-le}
use Rattle.std.proofs.lemmas.Result.{err_from_is_err_and}
use Rattle.store_reports.specs.declared.report.Finding.TheVariants as found
use Rattle.store_reports.proofs.Telling.{counted_first, leaves_opened, leaves_unopened, front_found}
use Rattle.store_reports.proofs.inspection.find.Goals as goal

pub check_file-requires : goal.check_file-requires
check_file-requires g c = record {
  file = λ tells.
      let front = c.in_ok-reader.ensures.front (g.met.D.Disk.readers tells) in
      let bytes = front.1.holds.1 in
      let len = length-take-le c.args.entry.now.len front.1.bytes front.1.holds.0 in
      let long = ap length bytes in
      omega (arith, len, long);
}

pub returns-in-Good-clause-found : goal.returns-in-Good-clause-found
returns-in-Good-clause-found g c =
    front_found g.D.Disk.tells c.args.store.now.catalogue.rows (g.D.Disk.files c.args.store.now.disk) (record { file = record { store = c.args.number; entry = c.args.entry.now }; finding = found.Good c.in-Good.count }) (g.D.Reader.ReadAt.bytes c.in_ok-reader.reader)
    (λ told. let front = c.in_ok-reader.ensures.front told in (front.1, record { first = _; last = _; good = c.in-Good.ensures.verdict front.0 }))

pub returns-in-Damaged-clause-found : goal.returns-in-Damaged-clause-found
returns-in-Damaged-clause-found g c =
    front_found g.D.Disk.tells c.args.store.now.catalogue.rows (g.D.Disk.files c.args.store.now.disk) (record { file = record { store = c.args.number; entry = c.args.entry.now }; finding = found.Damaged c.in-Damaged.at }) (g.D.Reader.ReadAt.bytes c.in_ok-reader.reader)
    (λ told. let front = c.in_ok-reader.ensures.front told in (front.1, c.in-Damaged.ensures.verdict front.0))

pub returns-in_err-reader-clause-leaves : goal.returns-in_err-reader-clause-leaves
returns-in_err-reader-clause-leaves g c writes =
    let p = err_from_is_err_and c.from_residual.result c.from_residual.ensures.1 in
    let e = c.open_listed.ensures in
    rw (p.1, p.2) (leaves_unopened g.D.Disk g.D.Reader.ReadAt.faults _ _ writes c.open_listed.result c.in_err-reader.field-0.0 c.in_err-reader.was
    (record { has = e.kept; catalogue = e.same.0; manifests = e.same.1; pinned = e.pins; limbo = e.limbo; shown = e.shown; reads = e.reads }))

pub returns-in-Good-clause-leaves : goal.returns-in-Good-clause-leaves
returns-in-Good-clause-leaves g c writes =
    let e = c.open_listed.ensures in
    leaves_opened g.D.Disk g.D.Reader.ReadAt.faults _ _ writes c.open_listed.result _ (record { has = e.kept; catalogue = e.same.0; manifests = e.same.1; pinned = e.pins; limbo = e.limbo; shown = e.shown; reads = e.reads }) (λ quiet. absurd quiet) tt

pub returns-in-Damaged-clause-leaves : goal.returns-in-Damaged-clause-leaves
returns-in-Damaged-clause-leaves g c writes =
    let e = c.open_listed.ensures in
    leaves_opened g.D.Disk g.D.Reader.ReadAt.faults _ _ writes c.open_listed.result _ (record { has = e.kept; catalogue = e.same.0; manifests = e.same.1; pinned = e.pins; limbo = e.limbo; shown = e.shown; reads = e.reads }) (λ quiet. absurd quiet) tt

pub returns-in-ReadFault-clause-leaves : goal.returns-in-ReadFault-clause-leaves
returns-in-ReadFault-clause-leaves g c writes =
    let e = c.open_listed.ensures in
    leaves_opened g.D.Disk g.D.Reader.ReadAt.faults _ _ writes c.open_listed.result _ (record { has = e.kept; catalogue = e.same.0; manifests = e.same.1; pinned = e.pins; limbo = e.limbo; shown = e.shown; reads = e.reads }) (λ quiet. absurd quiet)
    (counted_first _ _ c.in_ok-reader.ensures.fresh (c.in-ReadFault.ensures.cause refl))

pub returns-in-Memory-clause-leaves : goal.returns-in-Memory-clause-leaves
returns-in-Memory-clause-leaves g c writes =
    let e = c.open_listed.ensures in
    leaves_opened g.D.Disk g.D.Reader.ReadAt.faults _ _ writes c.open_listed.result _ (record { has = e.kept; catalogue = e.same.0; manifests = e.same.1; pinned = e.pins; limbo = e.limbo; shown = e.shown; reads = e.reads }) (λ quiet. absurd quiet) tt
