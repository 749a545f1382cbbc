use Rattle.std.proofs.Common.{ap, ◌∙◌, refl, inr}
use Rattle.pv_catalog.specs.Catalogue.{CatalogueState}
use Rattle.act_model.specs.declared.acts.Act.TheVariants.{Names}
use Rattle.act_model.specs.declared.acts.Answer.TheVariants.{Memory}
use Rattle.archive_core.specs.Parts.{parts_beside}
use Rattle.archive_core.proofs.Acting.{acted_alone}
use Rattle.archive_core.proofs.Opened.{reads_none}
use Rattle.archive_core.proofs.KeptRows.{names_step}
use Rattle.archive_core.proofs.archive.StoreHalf.names.Goals as goal

pub returns-in-Ok : goal.returns-in-Ok
returns-in-Ok g c w who =
    let p = parts_beside g.D.Disk c.args.self.now w in
    acted_alone g.D.Disk.tells who (Names c.args.from c.args.most) p _ p (λ m f. refl) (λ m f. refl) refl refl
    (λ m s. (m, (names_step m c.args.self.now.store.catalogue.rows c.rows-rows.result.now _ _ s.rows (c.rows-rows.ensures.value ∙ ap (λ (x : CatalogueState). x.rows) c.catalogue.ensures) c.args.from c.args.most c.from.result c.from-in-Ok.result c.from.ensures c.from-in-Ok.ensures c.in-Ok.names (c.in-Ok.ensures {u = tt}), λ told. tt), s))
    (reads_none g.D.Disk.tells p p refl) tt tt

pub returns-in-Err : goal.returns-in-Err
returns-in-Err g c w who =
    let p = parts_beside g.D.Disk c.args.self.now w in
    acted_alone g.D.Disk.tells who (Names c.args.from c.args.most) p Memory p (λ m f. refl) (λ m f. refl) refl refl (λ m s. (m, (inr (refl, refl), λ told. tt), s)) (reads_none g.D.Disk.tells p p refl) tt tt
