use Rattle.std.proofs.Common.{List, None, subst, sym}
use Rattle.std.specs.Prelude.{OnOk}
use Rattle.disk_model.specs.Past.{Only}
use Rattle.gate_journal.specs.DiskShown.{shown_by}
use Rattle.tier_store.specs.Limbo.{Removes, AreFree, AreRemovable, IsUseless}
use Rattle.tier_store.specs.declared.limbo.Retired.{Retired}
use Rattle.tier_store.proofs.removing.clear_limbo.Goals as goal

pub remove_for_good-removed-requires : goal.remove_for_good-removed-requires
remove_for_good-removed-requires g c tells =
    subst (λ (rs : List Retired). AreRemovable (IsUseless c.args.pinned.now c.args.copied.now) rs (g.D.Disk.files c.args.disk.now) c.args.removable.now) (sym c.as_slice.ensures.value) (c.requires tells)

pub returns-clause-removes : goal.returns-clause-removes
returns-clause-removes g c tells =
    let old = c.args.disk.now in
    let new = c.remove_for_good-removed.new.disk in
    subst (λ (rs : List Retired). Removes c.args.pinned.now c.args.copied.now rs (shown_by g.D.Disk old) (shown_by g.D.Disk new)) c.as_slice.ensures.value (c.remove_for_good-removed.ensures.removes tells)

pub returns-clause-gone : goal.returns-clause-gone
returns-clause-gone g c tells =
    subst (λ (rs : List Retired). OnOk c.remove_for_good-removed.result (AreFree c.args.pinned.now c.args.copied.now (λ n. Only (g.D.Disk.past c.remove_for_good-removed.new.disk) n None) rs)) c.as_slice.ensures.value (c.remove_for_good-removed.ensures.gone tells)
