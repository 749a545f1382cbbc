use Rattle.std.proofs.Common.{◌≡◌, List, [], ℕ, length, Err, sym, ◌∙◌, ap, subst, arith}
use Rattle.std.proofs.lemmas.Result.{err_from_is_err_and}
use Rattle.pv_catalog.specs.Catalogue.{CatalogueState}
use Rattle.edge_io.specs.Sent.{Sends}
use Rattle.edge_io.proofs.Sending.{sends_none, sends_then}
use Rattle.tier_store.specs.Seen.{seen}
use Rattle.store_reports.specs.Status.{IsLine, RowLines, end_of_status, status_of_put}
use Rattle.store_reports.proofs.Telling.{keeps_as, keeps_none, keeps_then}
use Rattle.store_reports.proofs.Summing.{line_before, line_err, lines_stopped, no_lines, one_more, put_quiet}
use Rattle.store_reports.proofs.summary.write_rows.Goals as goal

pub loop-row-init : goal.loop-row-init
loop-row-init g c =
    let a = g.K.Sink.written c.args.sink.now in
    record {
      told = λ empty. no_lines g.D.Disk.tells (seen g.D.Disk c.args.store.now) (λ text. Sends a a text c.args.buffer.now) (subst (Sends a a []) (sym empty) (sends_none a));
      stores = keeps_none g.D.Disk c.args.store.now _ (λ failed. failed);
      faults = omega arith;
    }

pub fill_row-requires-clause-row : goal.fill_row-requires-clause-row
fill_row-requires-clause-row g c =
    let rows = ap (λ (s : CatalogueState). length s.rows) c.loop-row.invariant.stores.catalogue in
    let count = ap length (c.rows.ensures.value ∙ ap (λ (s : CatalogueState). s.rows) c.catalogue.ensures) in
    omega (arith, rows, count, c.loop-row-test.true)

pub fill_row-requires-clause-has : goal.fill_row-requires-clause-has
fill_row-requires-clause-has g c = let was = c.requires in (was.0, c.loop-row.invariant.stores.has was.0 was.1)

pub returns-in_err-fill_row-clause-told : goal.returns-in_err-fill_row-clause-told
returns-in_err-fill_row-clause-told g c empty =
    let p = err_from_is_err_and c.from_residual.result c.from_residual.ensures.1 in
    let e = c.in_err-fill_row.field-0.0 in
    rw (p.1, p.2) (lines_stopped g.D.Disk.tells (seen g.D.Disk c.args.store.now) c.loop-row.row (g.K.Sink.written c.args.sink.now) (g.K.Sink.written c.loop-row.sink) c.loop-row.buffer e (λ is. c.fill_row.ensures.never (c.in_err-fill_row.was ∙ ap Err is)) (c.loop-row.invariant.told empty))

pub returns-in_err-fill_row-clause-stores : goal.returns-in_err-fill_row-clause-stores
returns-in_err-fill_row-clause-stores g c =
    let p = err_from_is_err_and c.from_residual.result c.from_residual.ensures.1 in
    rw (p.1, p.2) (keeps_then g.D.Disk _ _ _ _ _ c.loop-row.invariant.stores c.in_err-fill_row.ensures.stores)

pub returns-in_err-put-clause-told : goal.returns-in_err-put-clause-told
returns-in_err-put-clause-told g c empty =
    let p = err_from_is_err_and c.from_residual-in_err-put.result c.from_residual-in_err-put.ensures.1 in
    let line = c.deref.result.now in
    let at = seen g.D.Disk c.loop-row.store in
    let made : IsLine g.D.Disk.tells at c.loop-row.row line = subst (λ (u : List ℕ). IsLine g.D.Disk.tells at c.loop-row.row u) (sym c.deref.ensures.value) c.in_ok-fill_row.ensures.line in
    let is = line_before g.D.Disk c.args.store.now c.loop-row.store _ c.loop-row.row line c.loop-row.invariant.stores made in
    rw (p.1, p.2) (line_err g.D.Disk.tells (seen g.D.Disk c.args.store.now) c.loop-row.row (g.K.Sink.written c.args.sink.now) (g.K.Sink.written c.loop-row.sink) (g.K.Sink.written c.put.new.sink) c.loop-row.buffer c.put.new.self line c.in_err-put.field-0.0 (c.loop-row.invariant.told empty) is
    (λ same. c.put.ensures.memory (c.in_err-put.was ∙ ap Err same)) c.in_err-put.ensures.front)

pub returns-in_err-put-clause-stores : goal.returns-in_err-put-clause-stores
returns-in_err-put-clause-stores g c =
    let p = err_from_is_err_and c.from_residual-in_err-put.result c.from_residual-in_err-put.ensures.1 in
    let e = c.in_err-put.field-0.0 in
    rw (p.1, p.2) (keeps_as g.D.Disk _ _ _ (end_of_status (Err (status_of_put e))) (λ failed. absurd (put_quiet e failed)) (keeps_then g.D.Disk _ _ _ _ _ c.loop-row.invariant.stores c.in_ok-fill_row.ensures.stores))

pub loop-row-preserved : goal.loop-row-preserved
loop-row-preserved g c =
    let line = c.deref.result.now in
    let at = seen g.D.Disk c.loop-row.store in
    let made : IsLine g.D.Disk.tells at c.loop-row.row line = subst (λ (u : List ℕ). IsLine g.D.Disk.tells at c.loop-row.row u) (sym c.deref.ensures.value) c.in_ok-fill_row.ensures.line in
    let is = line_before g.D.Disk c.args.store.now c.loop-row.store _ c.loop-row.row line c.loop-row.invariant.stores made in
    record {
      told = λ empty. one_more g.D.Disk.tells (seen g.D.Disk c.args.store.now) c.loop-row.row line _ _ (c.loop-row.invariant.told empty) is
          (λ text sends. sends_then (g.K.Sink.written c.args.sink.now) (g.K.Sink.written c.loop-row.sink) (g.K.Sink.written c.put.new.sink) text c.loop-row.buffer line c.put.new.self sends c.in_ok-put.ensures.ok);
      stores = keeps_then g.D.Disk _ _ _ _ _ c.loop-row.invariant.stores c.in_ok-fill_row.ensures.stores;
      faults = omega (arith, c.loop-row.invariant.faults, c.put.ensures.faults);
    }

pub returns-clause-told : goal.returns-clause-told
returns-clause-told g c empty =
    let old = c.args.store.now in
    let at = seen g.D.Disk old in
    let a = g.K.Sink.written c.args.sink.now in
    let b = g.K.Sink.written c.loop-row.sink in
    let count = ap length (c.rows.ensures.value ∙ ap (λ (s : CatalogueState). s.rows) c.catalogue.ensures) in
    let end = c.loop-row-test.false in
    let is : c.loop-row.row ≡ length old.catalogue.rows = omega (arith, count, end) in
    subst (λ (n : ℕ). RowLines g.D.Disk.tells at n (λ text. Sends a b text c.loop-row.buffer)) is (c.loop-row.invariant.told empty)
