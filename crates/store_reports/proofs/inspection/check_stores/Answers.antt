use Rattle.std.proofs.Common.{List, [], ◌++◌, ◌∙◌, ap, subst}
use Rattle.std.proofs.lemmas.Result.{err_from_is_err_and}
use Rattle.store_manifest.specs.Manifest.{ManifestState}
use Rattle.store_reports.specs.Check.{InspectsSome}
use Rattle.store_reports.specs.Listing.{files_at}
use Rattle.store_reports.specs.Telling.{AreTold, Remains, Tells}
use Rattle.store_reports.proofs.Telling.{leaves_then, shows_still, some_longer}
use Rattle.store_reports.proofs.inspection.check_stores.Goals as goal

pub check_rows-requires-2-clause-has : goal.check_rows-requires-2-clause-has
check_rows-requires-2-clause-has g c = let was = c.requires in (was.0, c.in_ok-check_rows.ensures.leaves.stores.has was.0 was.1)

pub check_rows-requires-3-clause-has : goal.check_rows-requires-3-clause-has
check_rows-requires-3-clause-has g c = let was = c.requires in (was.0, c.in_ok-check_rows-2.ensures.leaves.stores.has was.0 (c.in_ok-check_rows.ensures.leaves.stores.has was.0 was.1))

pub returns-in_err-check_rows-clause-told : goal.returns-in_err-check_rows-clause-told
returns-in_err-check_rows-clause-told g c rows files shows a told =
    let tells = g.D.Disk.tells in
    let ms = c.args.store.now.manifests.items in
    let p = err_from_is_err_and c.from_residual.result c.from_residual.ensures.1 in
    let P = Remains c.in_err-check_rows.field-0.0 a (g.K.Sink.written c.check_rows.new.sink) c.check_rows.new.report.buffer in
    rw (p.1, p.2) (some_longer tells rows files (files_at 1 ms ++ files_at 2 ms) (files_at 3 ms) P (some_longer tells rows files (files_at 1 ms) (files_at 2 ms) P (c.in_err-check_rows.ensures.told rows files shows [] a told)))

pub returns-in_err-check_rows-clause-leaves : goal.returns-in_err-check_rows-clause-leaves
returns-in_err-check_rows-clause-leaves g c =
    let p = err_from_is_err_and c.from_residual.result c.from_residual.ensures.1 in
    rw (p.1, p.2) c.in_err-check_rows.ensures.leaves

pub returns-in_err-check_rows-2-clause-told : goal.returns-in_err-check_rows-2-clause-told
returns-in_err-check_rows-2-clause-told g c rows files shows a told =
    let tells = g.D.Disk.tells in
    let ms = c.args.store.now.manifests.items in
    let one = c.in_ok-check_rows.ensures in
    let p = err_from_is_err_and c.from_residual-in_err-check_rows-2.result c.from_residual-in_err-check_rows-2.ensures.1 in
    let P = Remains c.in_err-check_rows-2.field-0.0 a (g.K.Sink.written c.check_rows-2.new.sink) c.check_rows-2.new.report.buffer in
    let stopped = c.in_err-check_rows-2.ensures.told rows files (shows_still g.D.Disk g.D.Reader.ReadAt.faults _ _ _ _ _ rows files one.leaves shows) (files_at 1 ms) a (one.told rows files shows [] a told) in
    let here = subst (λ (l : List ManifestState). InspectsSome tells rows files (files_at 1 ms ++ files_at 2 l) P) (ap (λ m. m.items) one.leaves.stores.manifests) stopped in
    rw (p.1, p.2) (some_longer tells rows files (files_at 1 ms ++ files_at 2 ms) (files_at 3 ms) P here)

pub returns-in_err-check_rows-2-clause-leaves : goal.returns-in_err-check_rows-2-clause-leaves
returns-in_err-check_rows-2-clause-leaves g c =
    let p = err_from_is_err_and c.from_residual-in_err-check_rows-2.result c.from_residual-in_err-check_rows-2.ensures.1 in
    rw (p.1, p.2) (leaves_then g.D.Disk g.D.Reader.ReadAt.faults _ _ _ _ _ _ _ _ c.in_ok-check_rows.ensures.leaves c.in_err-check_rows-2.ensures.leaves)

pub returns-clause-told : goal.returns-clause-told
returns-clause-told g c rows files shows a told =
    let tells = g.D.Disk.tells in
    let ms = c.args.store.now.manifests.items in
    let one = c.in_ok-check_rows.ensures in
    let two = c.in_ok-check_rows-2.ensures in
    let mid = ap (λ m. m.items) one.leaves.stores.manifests in
    let last = ap (λ m. m.items) two.leaves.stores.manifests ∙ mid in
    let shown = shows_still g.D.Disk g.D.Reader.ReadAt.faults _ _ _ _ _ rows files one.leaves shows in
    let still = shows_still g.D.Disk g.D.Reader.ReadAt.faults _ _ _ _ _ rows files two.leaves shown in
    let second = subst (λ (l : List ManifestState). AreTold tells rows files (files_at 1 ms ++ files_at 2 l) a (g.K.Sink.written c.check_rows-2.new.sink) c.check_rows-2.new.report.buffer c.check_rows-2.new.report.first) mid (two.told rows files shown (files_at 1 ms) a (one.told rows files shows [] a told)) in
    subst (λ (l : List ManifestState). Tells tells rows files ((files_at 1 ms ++ files_at 2 ms) ++ files_at 3 l) a (g.K.Sink.written c.check_rows-3.new.sink) c.check_rows-3.new.report.buffer c.check_rows-3.new.report.first c.check_rows-3.result) last
    (c.check_rows-3.ensures.told rows files still (files_at 1 ms ++ files_at 2 ms) a second)

pub returns-clause-leaves : goal.returns-clause-leaves
returns-clause-leaves g c =
    let disk = g.D.Disk in
    let faults = g.D.Reader.ReadAt.faults in
    leaves_then disk faults _ _ _ _ _ _ _ c.check_rows-3.result (leaves_then disk faults _ _ _ _ _ _ _ _ c.in_ok-check_rows.ensures.leaves c.in_ok-check_rows-2.ensures.leaves) c.check_rows-3.ensures.leaves
