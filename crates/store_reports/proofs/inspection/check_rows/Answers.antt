use Rattle.std.proofs.Common.{◌<◌, ◌++◌, List, Ok, length, refl, sym, ◌∙◌, ap, subst, arith}
use Rattle.std.specs.Prelude.{All}
use Rattle.std.proofs.lemmas.Result.{err_from_is_err_and}
use Rattle.std.proofs.lemmas.List.Elements.{All-weaker}
use Rattle.pins.specs.declared.choosing.Listed.{Listed}
use Rattle.pv_catalog.specs.Catalogue.{CatalogueState}
use Rattle.store_manifest.specs.declared.entry.Entry.{Entry}
use Rattle.tier_store.specs.Seen.{seen}
use Rattle.store_reports.specs.Check.{InspectsSome}
use Rattle.store_reports.specs.Listing.{entries_at}
use Rattle.store_reports.specs.Telling.{AreTold, Remains}
use Rattle.store_reports.proofs.Telling.{leaves_none, leaves_then, shows_still, ordered, rows_all, rows_more, rows_none, rows_rest, till, mine, some_longer}
use Rattle.store_reports.proofs.inspection.check_rows.Goals as goal

pub loop-row-init : goal.loop-row-init
loop-row-init g c = record {
  told = λ rows files shows before a told.
      let old = c.args.store.now in
      let was = c.requires.has in
      let order = ordered g.D.Disk.tells (seen g.D.Disk old) was.0 c.args.number was.1 c.requires.first c.requires.last in
      let ms = old.manifests.items in
      subst (λ (l : List Listed). AreTold g.D.Disk.tells rows files l a (g.K.Sink.written c.args.sink.now) c.args.report.now.buffer c.args.report.now.first) (sym (rows_none c.args.number before ms ms refl order.rise)) told;
  leaves = leaves_none g.D.Disk g.D.Reader.ReadAt.faults _ _;
}

pub check_row-requires-clause-has : goal.check_row-requires-clause-has
check_row-requires-clause-has g c = let was = c.requires.has in (was.0, c.loop-row.invariant.leaves.stores.has was.0 was.1)

pub returns-in_err-check_row-clause-told : goal.returns-in_err-check_row-clause-told
returns-in_err-check_row-clause-told g c rows files shows before a told =
    let known = c.loop-row.invariant in
    let old = c.args.store.now in
    let ms = old.manifests.items in
    let mid = c.loop-row.store.manifests.items in
    let k = c.loop-row.row in
    let n = c.args.number in
    let was = c.requires.has in
    let order = ordered g.D.Disk.tells (seen g.D.Disk old) was.0 n was.1 c.requires.first c.requires.last in
    let same = ap (λ m. m.items) known.leaves.stores.manifests in
    let rest = rows_rest n before ms mid same order.rise k in
    let p = err_from_is_err_and c.from_residual.result c.from_residual.ensures.1 in
    let front = till n before ms mid same order.rise k in
    let stopped = c.in_err-check_row.ensures.told rows files (shows_still g.D.Disk g.D.Reader.ReadAt.faults _ _ _ _ _ rows files known.leaves shows) front a (known.told rows files shows before a told) in
    let P = Remains c.in_err-check_row.field-0.0 a (g.K.Sink.written c.check_row.new.sink) c.check_row.new.report.buffer in
    rw (p.1, p.2) (subst (λ (l : List Listed). InspectsSome g.D.Disk.tells rows files l P) rest.1 (some_longer g.D.Disk.tells rows files (front ++ mine n before ms mid same order.rise k) rest.0 P stopped))

pub returns-in_err-check_row-clause-leaves : goal.returns-in_err-check_row-clause-leaves
returns-in_err-check_row-clause-leaves g c =
    let p = err_from_is_err_and c.from_residual.result c.from_residual.ensures.1 in
    rw (p.1, p.2) (leaves_then g.D.Disk g.D.Reader.ReadAt.faults _ _ _ _ _ _ _ _ c.loop-row.invariant.leaves c.in_err-check_row.ensures.leaves)

pub loop-row-preserved : goal.loop-row-preserved
loop-row-preserved g c =
    let known = c.loop-row.invariant in
    let old = c.args.store.now in
    let ms = old.manifests.items in
    let mid = c.loop-row.store.manifests.items in
    let k = c.loop-row.row in
    let n = c.args.number in
    let was = c.requires.has in
    let order = ordered g.D.Disk.tells (seen g.D.Disk old) was.0 n was.1 c.requires.first c.requires.last in
    let same = ap (λ m. m.items) known.leaves.stores.manifests in
    record {
      told = λ rows files shows before a told.
          let front = till n before ms mid same order.rise k in
          let more = c.in_ok-check_row.ensures.told rows files (shows_still g.D.Disk g.D.Reader.ReadAt.faults _ _ _ _ _ rows files known.leaves shows) front a (known.told rows files shows before a told) in
          subst (λ (l : List Listed). AreTold g.D.Disk.tells rows files l a (g.K.Sink.written c.check_row.new.sink) c.check_row.new.report.buffer c.check_row.new.report.first) (rows_more n before ms mid same order.rise k) more;
      leaves = leaves_then g.D.Disk g.D.Reader.ReadAt.faults _ _ _ _ _ _ _ (Ok tt) known.leaves c.in_ok-check_row.ensures.leaves;
    }

pub returns-clause-told : goal.returns-clause-told
returns-clause-told g c rows files shows before a told =
    let old = c.args.store.now in
    let ms = old.manifests.items in
    let n = c.args.number in
    let k = c.loop-row.row in
    let was = c.requires.has in
    let order = ordered g.D.Disk.tells (seen g.D.Disk old) was.0 n was.1 c.requires.first c.requires.last in
    let count = ap length (c.rows.ensures.value ∙ ap (λ (s : CatalogueState). s.rows) c.catalogue.ensures) in
    let within : All (λ (e : Entry). e.series < k) (entries_at n ms) =
    All-weaker (λ (e : Entry). e.series < length old.catalogue.rows) (λ (e : Entry). e.series < k) (λ e lt. let end = c.loop-row-test.false in omega (arith, lt, end, count)) (entries_at n ms) order.within in
    subst (λ (l : List Listed). AreTold g.D.Disk.tells rows files l a (g.K.Sink.written c.loop-row.sink) c.loop-row.report.buffer c.loop-row.report.first) (rows_all n before ms ms refl order.rise k within) (c.loop-row.invariant.told rows files shows before a told)
