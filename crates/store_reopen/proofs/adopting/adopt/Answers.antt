use Rattle.std.proofs.Common.{sym, subst}
use Rattle.tier_store.proofs.Retirements.{seen_new}
use Rattle.store_reopen.specs.Adoption.{Adopts}
use Rattle.store_reopen.specs.Reopen.{stores_of}
use Rattle.store_reopen.specs.Strays.{IsGone, adoption_name}
use Rattle.store_reopen.proofs.AdoptedDisk.{adopted_stores}
use Rattle.store_reopen.proofs.adopting.adopt.Goals as goal

pub returns-in-Ok-clause-adopts : goal.returns-in-Ok-clause-adopts
returns-in-Ok-clause-adopts g c tells = subst (λ d. Adopts g.D.Disk (stores_of c.args.config.now) c.args.disk d) (sym c.new.ensures.disk) (c.adopt_files.ensures.adopts tells)

pub returns-in-Ok-clause-adopted : goal.returns-in-Ok-clause-adopted
returns-in-Ok-clause-adopted g c tells before after opens =
    adopted_stores g.D.Disk (stores_of c.args.config.now) c.args.disk c.in-Ok.catalogue c.in-Ok.manifests.items c.adopt_files.new.disk c.in-Ok.adopted before after c.new.result c.new.ensures.disk
    (seen_new g.D.Disk c.new.result c.in-Ok.catalogue c.in-Ok.manifests.items c.adopt_files.new.disk c.new.ensures.rows c.new.ensures.lists c.new.ensures.disk) (c.in-Ok.ensures.adopted tells before after opens)

pub returns-in-Ok-clause-finished : goal.returns-in-Ok-clause-finished
returns-in-Ok-clause-finished g c tells = subst (λ d. IsGone (g.D.Disk.files d) (g.D.Disk.past d) adoption_name) (sym c.new.ensures.disk) (c.in-Ok.ensures.finished tells)
