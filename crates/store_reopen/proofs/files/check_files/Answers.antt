use Rattle.std.proofs.Common.{subst, arith}
use Rattle.std.specs.Prelude.{All}
use Rattle.std.proofs.lemmas.Result.{err_from_is_err_and}
use Rattle.disk_model.specs.Files.{Files}
use Rattle.gate_journal.specs.DiskShown.{shown_by}
use Rattle.tier_store.proofs.Lines.{then_reads}
use Rattle.store_reopen.specs.NotOpened.{IsToldShort}
use Rattle.store_reopen.specs.Verdict.{IsThere}
use Rattle.store_reopen.proofs.Verdicts.{here_from, next_place, at_all, told_short}
use Rattle.store_reopen.proofs.files.check_files.Goals as goal

pub loop-place-preserved : goal.loop-place-preserved
loop-place-preserved g c =
    let m = c.index-manifests-from.result in
    let rows = c.args.rows.now in
    let was = c.loop-place.invariant in
    let here = here_from c.args.manifests.now c.loop-place.place c.from.result m c.index-manifests-from.is c.from.ensures (omega (arith, c.requires.three, c.loop-place-test.true)) in
    record {
      few = omega (arith, c.loop-place-test.true);
      there = λ tells. next_place (λ k es. All (IsThere k (g.D.Disk.files c.args.disk.now) rows) es) c.args.manifests.now c.loop-place.place m here (was.there tells)
          (subst (λ (f : Files). All (IsThere c.loop-place.place f rows) m.entries) (was.reads tells).same (c.in_ok-check_store.ensures.there tells));
      reads = λ tells. then_reads (shown_by g.D.Disk c.args.disk.now) (shown_by g.D.Disk c.loop-place.disk) (shown_by g.D.Disk c.check_store.new.disk) (was.reads tells) (c.check_store.ensures.reads tells);
      faults = omega (arith, was.faults, c.check_store.ensures.faults);
    }

pub returns-in_err-check_store-clause-told : goal.returns-in_err-check_store-clause-told
returns-in_err-check_store-clause-told g c tells gs seen three said same =
    let p = err_from_is_err_and c.from_residual.result c.from_residual.ensures.1 in
    let m = c.index-manifests-from.result in
    let was = c.loop-place.invariant in
    let here = here_from c.args.manifests.now c.loop-place.place c.from.result m c.index-manifests-from.is c.from.ensures (omega (arith, c.requires.three, c.loop-place-test.true)) in
    let e = c.in_err-check_store.field-0.0 in
    let short = subst (λ (f : Files). IsToldShort c.loop-place.place f c.args.rows.now m.entries e) (was.reads tells).same (c.in_err-check_store.ensures.told tells) in
    rw (p.1, p.2) (told_short gs seen (g.D.Disk.files c.args.disk.now) c.args.rows.now c.args.manifests.now c.loop-place.place m e three c.requires.three said c.requires.of_rows same c.loop-place-test.true here (was.there tells) short)

pub returns-clause-there : goal.returns-clause-there
returns-clause-there g c tells = at_all (λ k es. All (IsThere k (g.D.Disk.files c.args.disk.now) c.args.rows.now) es) c.args.manifests.now c.loop-place.place c.requires.three c.loop-place-test.false (c.loop-place.invariant.there tells)
