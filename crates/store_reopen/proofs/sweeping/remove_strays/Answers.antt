use Rattle.std.proofs.Common.{◌≡◌, ◌+◌, List, sym, subst, arith}
use Rattle.std.specs.Prelude.{All}
use Rattle.std.proofs.lemmas.List.{take_all}
use Rattle.disk_model.specs.Files.{Name}
use Rattle.store_reopen.specs.Strays.{IsGoneIf, IsStrayOf}
use Rattle.store_reopen.proofs.Marking.{removes_by, removes_then, at_store, is_none, not_one, one_more}
use Rattle.store_reopen.proofs.sweeping.remove_strays.Goals as goal

pub loop-name-preserved-then-not-stray : goal.loop-name-preserved-then-not-stray
loop-name-preserved-then-not-stray g c = record {
  removes = c.loop-name.invariant.removes;
  gone = λ tells place all.
      let Goes : Name → Type 0 = IsStrayOf place c.args.manifest.now.granularity c.args.catalogue.now.rows c.args.manifest.now.entries in
      let store = at_store (place + 1) c.args.names.now c.loop-name.name-index c.name-item.result c.loop-name-test.true c.name-item.is all in
      not_one Goes c.args.names.now c.loop-name.name-index c.name-item.result (g.D.Disk.files c.loop-name.disk) (g.D.Disk.past c.loop-name.disk) c.loop-name-test.true c.name-item.is
      (is_none (Goes c.name-item.result) c.in_ok-stray.stray (c.in_ok-stray.ensures place store) c.if-not-stray.true) (c.loop-name.invariant.gone tells place all);
  faults = c.loop-name.invariant.faults;
}

pub returns-in_err-remove_for_good-clause-removes : goal.returns-in_err-remove_for_good-clause-removes
returns-in_err-remove_for_good-clause-removes g c tells place all =
    let Goes : Name → Type 0 = IsStrayOf place c.args.manifest.now.granularity c.args.catalogue.now.rows c.args.manifest.now.entries in
    let store = at_store (place + 1) c.args.names.now c.loop-name.name-index c.name-item.result c.loop-name-test.true c.name-item.is all in
    let stray : Goes c.name-item.result = (c.in_ok-stray.ensures place store).0 c.if-not-stray.false in
    removes_then g.D.Disk Goes _ _ _ (c.loop-name.invariant.removes tells place all)
    (removes_by g.D.Disk (λ (n : Name). n ≡ c.name-item.result) Goes (λ n is. subst Goes (sym is) stray) _ _ (c.remove_for_good.ensures.removes tells))

pub loop-name-preserved : goal.loop-name-preserved
loop-name-preserved g c = record {
  removes = λ tells place all.
      let Goes : Name → Type 0 = IsStrayOf place c.args.manifest.now.granularity c.args.catalogue.now.rows c.args.manifest.now.entries in
      let store = at_store (place + 1) c.args.names.now c.loop-name.name-index c.name-item.result c.loop-name-test.true c.name-item.is all in
      let stray : Goes c.name-item.result = (c.in_ok-stray.ensures place store).0 c.if-not-stray.false in
      removes_then g.D.Disk Goes _ _ _ (c.loop-name.invariant.removes tells place all)
      (removes_by g.D.Disk (λ (n : Name). n ≡ c.name-item.result) Goes (λ n is. subst Goes (sym is) stray) _ _ (c.remove_for_good.ensures.removes tells));
  gone = λ tells place all.
      let Goes : Name → Type 0 = IsStrayOf place c.args.manifest.now.granularity c.args.catalogue.now.rows c.args.manifest.now.entries in
      let store = at_store (place + 1) c.args.names.now c.loop-name.name-index c.name-item.result c.loop-name-test.true c.name-item.is all in
      let stray : Goes c.name-item.result = (c.in_ok-stray.ensures place store).0 c.if-not-stray.false in
      let one = removes_by g.D.Disk (λ (n : Name). n ≡ c.name-item.result) Goes (λ n is. subst Goes (sym is) stray) c.loop-name.disk c.remove_for_good.new.disk (c.remove_for_good.ensures.removes tells) in
      one_more Goes c.args.names.now c.loop-name.name-index c.name-item.result (g.D.Disk.files c.loop-name.disk) (g.D.Disk.files c.remove_for_good.new.disk) (g.D.Disk.past c.loop-name.disk) (g.D.Disk.past c.remove_for_good.new.disk)
      c.loop-name-test.true c.name-item.is one.now one.any_moment (c.in_ok-remove_for_good.ensures.gone tells) (c.loop-name.invariant.gone tells place all);
  faults = omega (arith, c.loop-name.invariant.faults, c.remove_for_good.ensures.faults);
}

pub returns-clause-gone : goal.returns-clause-gone
returns-clause-gone g c tells place all =
    let Goes : Name → Type 0 = IsStrayOf place c.args.manifest.now.granularity c.args.catalogue.now.rows c.args.manifest.now.entries in
    subst (λ (ns : List Name). All (IsGoneIf Goes (g.D.Disk.files c.loop-name.disk) (g.D.Disk.past c.loop-name.disk)) ns) (take_all c.loop-name.name-index c.args.names.now (omega (arith, c.loop-name-test.false))) (c.loop-name.invariant.gone tells place all)
