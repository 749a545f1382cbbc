use Rattle.std.proofs.Common.{◌≡◌, None, Ok, Err, ◌∙◌, ap, subst}
use Rattle.std.specs.Prelude.{OnOk, Result}
use Rattle.disk_model.specs.Files.{Content, Files}
use Rattle.disk_model.specs.Past.{Only}
use Rattle.disk_model.specs.declared.disk.DiskErr.{DiskErr}
use Rattle.store_reopen.specs.Strays.{IsGone}
use Rattle.store_reopen.proofs.Marking.{removes_read, removes_then}
use Rattle.store_reopen.proofs.sweeping.remove_for_good.Goals as goal

pub returns-clause-removes : goal.returns-clause-removes
returns-clause-removes g c tells =
    removes_then g.D.Disk (λ n. n ≡ c.args.name.now) _ _ _ (c.remove_file.ensures.removes tells)
    (removes_read g.D.Disk (λ n. n ≡ c.args.name.now) c.remove_file.new.disk c.sync.new.self (c.sync.ensures.same tells) (c.sync.ensures.opened tells) (c.sync.ensures.crash tells))

pub returns-clause-gone : goal.returns-clause-gone
returns-clause-gone g c tells = by c.sync.result (c.sync.ensures.durable tells)
  where
    none : g.D.Disk.files c.remove_file.new.disk c.args.name.now ≡ None
    none = c.in_ok-remove_file.ensures.gone tells

    by : (r : Result (Unit {0}) DiskErr) → OnOk r (Only (g.D.Disk.past c.sync.new.self) c.args.name.now (g.D.Disk.files c.remove_file.new.disk c.args.name.now)) → OnOk r (IsGone (g.D.Disk.files c.sync.new.self) (g.D.Disk.past c.sync.new.self) c.args.name.now)
    by (Ok x) only = (ap (λ (f : Files). f c.args.name.now) (c.sync.ensures.same tells) ∙ none, subst (λ (b : Content). Only (g.D.Disk.past c.sync.new.self) c.args.name.now b) none only)
    by (Err e) only = tt
