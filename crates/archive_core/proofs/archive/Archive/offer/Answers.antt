use Rattle.std.proofs.Common.{sym, ap, subst, ◌∙◌, refl}
use Rattle.std.specs.Prelude.{slice_get}
use Rattle.std.proofs.lemmas.Option.{slice_get_within}
use Rattle.pv_catalog.specs.Catalogue.{CatalogueState}
use Rattle.tier_store.specs.Pinned.{seen_all}
use Rattle.act_model.specs.declared.acts.Act.TheVariants.{Offer}
use Rattle.archive_core.specs.Memory.{AreRowsOf}
use Rattle.archive_core.specs.Parts.{parts}
use Rattle.archive_core.proofs.Acting.{acted_alone, answered_as}
use Rattle.archive_core.proofs.Opened.{reads_none}
use Rattle.archive_core.proofs.KeptRows.{find_is, memory_there}
use Rattle.archive_core.proofs.Standing.{offer_unknown}
use Rattle.archive_core.proofs.archive.Archive.offer.Goals as goal

pub offer_to-requires-clause-there : goal.offer_to-requires-clause-there
offer_to-requires-clause-there g c =
    let was = c.requires.stands in
    let found = (c.in-Some.ensures {u = tt}).found in
    let here = ap (λ (x : CatalogueState). slice_get x.rows c.in-Some.row) (sym c.catalogue.ensures) ∙ found.here in
    memory_there c.args.self.now.half.store.catalogue.rows _ _ was.0.rows was.1.rows c.in-Some.row (slice_get_within c.args.self.now.half.store.catalogue.rows c.in-Some.row found.row here)

pub returns-in-None-clause-acted : goal.returns-in-None-clause-acted
returns-in-None-clause-acted g c who =
    let p = parts g.D.Disk c.args.self.now in
    acted_alone g.D.Disk.tells who (Offer c.args.name.now c.args.ty c.args.sample.t c.args.sample.line c.args.now) p _ p (λ m f. refl) (λ m f. refl) refl refl
    (λ m s.
    let are = subst (λ (x : CatalogueState). AreRowsOf x.rows c.args.self.now.rows.items c.args.self.now.intake m.rows) (sym c.catalogue.ensures) s.rows in
    let found = find_is m c.catalogue.result.now.rows _ _ c.args.name.now c.find.result are c.find.ensures.found c.find.ensures.only in
    (m, (offer_unknown m c.args.name.now c.args.ty c.args.sample c.args.now (sym found ∙ c.in-None.is), λ told. absurd (cc (told))), s))
    (reads_none g.D.Disk.tells p p refl) tt tt

pub returns-in-Some-clause-acted : goal.returns-in-Some-clause-acted
returns-in-Some-clause-acted g c who =
    let p = parts g.D.Disk c.args.self.now in
    let q = parts g.D.Disk c.offer_to.new.self in
    let act = Offer c.args.name.now c.args.ty c.args.sample.t c.args.sample.line c.args.now in
    let still = ap (seen_all g.D.Disk) c.offer_to.ensures.store in
    answered_as g.D.Disk.tells who act p _ _ q c.offered.ensures (acted_alone g.D.Disk.tells who act p _ q (λ m f. refl) (λ m f. refl) still (ap (λ t. t.slots.items) c.offer_to.ensures.moves)
    (λ m s.
    let are = subst (λ (x : CatalogueState). AreRowsOf x.rows c.args.self.now.rows.items c.args.self.now.intake m.rows) (sym c.catalogue.ensures) s.rows in
    let found = find_is m c.catalogue.result.now.rows _ _ c.args.name.now c.find.result are c.find.ensures.found c.find.ensures.only in
    c.offer_to.ensures.step m c.args.name.now s (sym found ∙ c.in-Some.is))
    (reads_none g.D.Disk.tells p q still) tt tt)
