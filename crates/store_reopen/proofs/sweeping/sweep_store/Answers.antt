use Rattle.std.proofs.Common.{◌≡◌, ◌+◌, Ok, Err, sym, subst}
use Rattle.std.specs.Prelude.{All, OnOk, Result}
use Rattle.disk_model.specs.Files.{Name, Lists}
use Rattle.disk_model.specs.declared.disk.DiskErr.{DiskErr}
use Rattle.store_reopen.specs.Strays.{AreGone, IsGoneIf, IsStrayOf}
use Rattle.store_reopen.proofs.Marking.{removes_read, removes_then, in_store, store_gone}
use Rattle.store_reopen.proofs.sweeping.sweep_store.Goals as goal

pub returns-clause-removes : goal.returns-clause-removes
returns-clause-removes g c tells =
    let Goes : Name → Type 0 = IsStrayOf c.args.place c.args.manifest.now.granularity c.args.catalogue.now.rows c.args.manifest.now.entries in
    let lists = subst (Lists (c.args.place + 1) (g.D.Disk.files c.args.disk.now)) (sym c.as_slice.ensures.value) (c.in_ok-names.ensures.listed tells) in
    removes_then g.D.Disk Goes _ _ _ (removes_read g.D.Disk Goes c.args.disk.now c.names.new.self (c.names.ensures.same tells) (c.names.ensures.opened tells) (c.names.ensures.crash tells))
    (c.remove_strays.ensures.removes tells c.args.place (in_store (c.args.place + 1) (g.D.Disk.files c.args.disk.now) c.as_slice.result.now lists))

pub returns-clause-gone : goal.returns-clause-gone
returns-clause-gone g c tells = by c.remove_strays.result (c.remove_strays.ensures.gone tells c.args.place in_it)
  where
    Goes : Name → Type 0
    Goes = IsStrayOf c.args.place c.args.manifest.now.granularity c.args.catalogue.now.rows c.args.manifest.now.entries

    lists : Lists (c.args.place + 1) (g.D.Disk.files c.args.disk.now) c.as_slice.result.now
    lists = subst (Lists (c.args.place + 1) (g.D.Disk.files c.args.disk.now)) (sym c.as_slice.ensures.value) (c.in_ok-names.ensures.listed tells)

    in_it : All (λ (n : Name). n.0 ≡ c.args.place + 1) c.as_slice.result.now
    in_it = in_store (c.args.place + 1) (g.D.Disk.files c.args.disk.now) c.as_slice.result.now lists

    by : (r : Result (Unit {0}) DiskErr) → OnOk r (All (IsGoneIf (IsStrayOf c.args.place c.args.manifest.now.granularity c.args.catalogue.now.rows c.args.manifest.now.entries) (g.D.Disk.files c.remove_strays.new.disk) (g.D.Disk.past c.remove_strays.new.disk)) c.as_slice.result.now)
        → OnOk r (AreGone (IsStrayOf c.args.place c.args.manifest.now.granularity c.args.catalogue.now.rows c.args.manifest.now.entries) (g.D.Disk.files c.args.disk.now) (g.D.Disk.files c.remove_strays.new.disk) (g.D.Disk.past c.remove_strays.new.disk))
    by (Ok x) gone =
        store_gone (IsStrayOf c.args.place c.args.manifest.now.granularity c.args.catalogue.now.rows c.args.manifest.now.entries) (c.args.place + 1) (g.D.Disk.files c.args.disk.now) (g.D.Disk.files c.names.new.self) (g.D.Disk.files c.remove_strays.new.disk) c.as_slice.result.now (g.D.Disk.past c.remove_strays.new.disk)
        (λ n stray. stray.store) (c.names.ensures.same tells) lists (c.remove_strays.ensures.removes tells c.args.place in_it).now gone
    by (Err e) gone = tt
