use Rattle.std.proofs.Common.{◌≡◌, subst}
use Rattle.std.specs.Prelude.{OnOk}
use Rattle.disk_model.specs.Files.{Name}
use Rattle.store_reopen.specs.Strays.{IsGone, Removes}
use Rattle.store_reopen.proofs.Marking.{marks_gone}
use Rattle.store_reopen.proofs.unfinished.end_adoption.Goals as goal

pub returns-clause-gone : goal.returns-clause-gone
returns-clause-gone g c tells = subst (λ (n : Name). OnOk c.remove_for_good.result (IsGone (g.D.Disk.files c.remove_for_good.new.disk) (g.D.Disk.past c.remove_for_good.new.disk) n)) c.in_ok-name.ensures (c.remove_for_good.ensures.gone tells)

pub returns-clause-marks : goal.returns-clause-marks
returns-clause-marks g c tells =
    marks_gone g.D.Disk c.args.disk.now c.remove_for_good.new.disk (subst (λ (m : Name). Removes g.D.Disk (λ (n : Name). n ≡ m) c.args.disk.now c.remove_for_good.new.disk) c.in_ok-name.ensures (c.remove_for_good.ensures.removes tells))
