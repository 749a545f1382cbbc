use Rattle.std.proofs.Common.{None, refl}
use Rattle.disk_model.specs.Files.{At, KeptOr}
use Rattle.disk_model.proofs.Passing.{passes_weaker}
use Rattle.tier_store.specs.Limbo.{Elsewhere}
use Rattle.tier_store.proofs.Removals.{some_file, removed_none, removed_elsewhere, removed_fewer}
use Rattle.tier_store.proofs.removing.remove_file.Goals as goal

pub remove-requires : goal.remove-requires
remove-requires g c tells = some_file (g.D.Disk.files c.args.disk.now) c.args.name.now (c.requires tells)

pub returns-clause-gone : goal.returns-clause-gone
returns-clause-gone g c tells = removed_none c.remove.result c.args.name.now _ _ (c.remove.ensures.removed tells)

pub returns-clause-elsewhere : goal.returns-clause-elsewhere
returns-clause-elsewhere g c tells = removed_elsewhere c.remove.result c.args.name.now _ _ _ refl (c.remove.ensures.removed tells) (c.remove.ensures.unremoved tells)

pub returns-clause-any_moment : goal.returns-clause-any_moment
returns-clause-any_moment g c tells = passes_weaker (At c.args.name.now (KeptOr None)) (Elsewhere c.args.name.now) _ _ (c.remove.ensures.crash tells) (λ a b left step. step.elsewhere)

pub returns-clause-fewer : goal.returns-clause-fewer
returns-clause-fewer g c tells = removed_fewer c.args.name.now _ (g.D.Disk.opened c.args.disk.now) _ refl (c.remove.ensures.opened tells) (c.remove.ensures.no_more tells)
