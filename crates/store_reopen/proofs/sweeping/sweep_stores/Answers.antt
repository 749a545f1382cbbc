use Rattle.std.proofs.Common.{◌≡◌, ◌<◌, ◌+◌, Some, arith}
use Rattle.std.specs.Prelude.{slice_get}
use Rattle.store_manifest.specs.Manifest.{ManifestState}
use Rattle.store_reopen.specs.Strays.{IsStrayBelow, IsStrayOf}
use Rattle.store_reopen.proofs.Marking.{removes_by, removes_then, below_all, lower, of_place, stores_gone}
use Rattle.store_reopen.proofs.Verdicts.{here_from}
use Rattle.store_reopen.proofs.sweeping.sweep_stores.Goals as goal

pub returns-in_err-sweep_store-clause-removes : goal.returns-in_err-sweep_store-clause-removes
returns-in_err-sweep_store-clause-removes g c tells =
    let rows = c.args.catalogue.now.rows in
    let ms = c.args.manifests.now in
    let p = c.loop-place.place in
    let m : ManifestState = c.index-manifests-from.result in
    let here : slice_get ms p ≡ Some m = here_from ms p c.from.result m c.index-manifests-from.is c.from.ensures (omega (arith, c.requires.three, c.loop-place-test.true)) in
    let low : p + 1 < 4 = omega (arith, c.loop-place-test.true) in
    removes_then g.D.Disk (IsStrayBelow 3 rows ms) _ _ _
    (removes_by g.D.Disk (IsStrayBelow p rows ms) (IsStrayBelow 3 rows ms) (λ n s. below_all rows ms (p + 1) n low (lower rows ms p n s)) _ _ (c.loop-place.invariant.removes tells))
    (removes_by g.D.Disk (IsStrayOf p m.granularity rows m.entries) (IsStrayBelow 3 rows ms) (λ n s. below_all rows ms (p + 1) n low (of_place rows ms p m here n s)) _ _ (c.sweep_store.ensures.removes tells))

pub loop-place-preserved : goal.loop-place-preserved
loop-place-preserved g c =
    let rows = c.args.catalogue.now.rows in
    let ms = c.args.manifests.now in
    let p = c.loop-place.place in
    let m : ManifestState = c.index-manifests-from.result in
    let here : slice_get ms p ≡ Some m = here_from ms p c.from.result m c.index-manifests-from.is c.from.ensures (omega (arith, c.requires.three, c.loop-place-test.true)) in
    let was = c.loop-place.invariant in
    record {
      few = omega (arith, c.loop-place-test.true);
      removes = λ tells.
          removes_then g.D.Disk (IsStrayBelow (p + 1) rows ms) _ _ _
          (removes_by g.D.Disk (IsStrayBelow p rows ms) (IsStrayBelow (p + 1) rows ms) (λ n s. lower rows ms p n s) _ _ (was.removes tells))
          (removes_by g.D.Disk (IsStrayOf p m.granularity rows m.entries) (IsStrayBelow (p + 1) rows ms) (λ n s. of_place rows ms p m here n s) _ _ (c.sweep_store.ensures.removes tells));
      gone = λ tells.
          let swept = c.sweep_store.ensures.removes tells in
          stores_gone rows ms p m (g.D.Disk.files c.args.disk.now) (g.D.Disk.files c.loop-place.disk) (g.D.Disk.files c.sweep_store.new.disk) (g.D.Disk.past c.loop-place.disk) (g.D.Disk.past c.sweep_store.new.disk) here (was.removes tells).now (was.gone tells) swept.now swept.any_moment (c.in_ok-sweep_store.ensures.gone tells);
      faults = omega (arith, was.faults, c.sweep_store.ensures.faults);
    }
