use Rattle.std.proofs.Common.{◌<◌, rules, length, refl, sym, ap, ◌∙◌}
use Rattle.std.specs.Option.{option_copied}
use Rattle.std.specs.Prelude.{slice_get, slice_set}
use Rattle.std.proofs.lemmas.Option.{slice_get_within}
use Rattle.pv_catalog.specs.Catalogue.{CatalogueState}
use Rattle.act_model.specs.declared.acts.Act.TheVariants.{Tick}
use Rattle.archive_core.specs.Parts.{parts}
use Rattle.archive_core.proofs.Acting.{acted_alone, answered_as}
use Rattle.archive_core.proofs.Opened.{reads_none}
use Rattle.archive_core.proofs.KeptRows.{no_row, memory_there, row_with}
use Rattle.archive_core.proofs.Lists.{read_at}
use Rattle.archive_core.proofs.Standing.{tick_no_row, tick_stands, held_time}
use Rattle.intake_half.proofs.Ending.{tick_case}
use Rattle.archive_core.proofs.archive.Archive.tick.Goals as goal

pub returns-in_default-clause-acted : goal.returns-in_default-clause-acted
returns-in_default-clause-acted g c who =
    let p = parts g.D.Disk c.args.self.now in
    acted_alone g.D.Disk.tells who (Tick c.args.row c.args.now) p _ p (λ m f. refl) (λ m f. refl) refl refl
    (λ m s.
    let none = ap (λ (x : CatalogueState). slice_get x.rows c.args.row) (sym c.catalogue.ensures) ∙ (sym c.row.ensures ∙ ap option_copied c.in_default.is) in
    (m, (tick_no_row m c.args.row c.args.now (no_row c.args.self.now.half.store.catalogue.rows _ _ m.rows s.rows c.args.row none), λ told. absurd (cc (told))), s))
    (reads_none g.D.Disk.tells p p refl) tt tt

pub index_mut-requires : goal.index_mut-requires
index_mut-requires g c =
    let was = c.requires.stands in
    let here = ap (λ (x : CatalogueState). slice_get x.rows c.args.row) (sym c.catalogue.ensures) ∙ (sym c.row.ensures ∙ ap option_copied c.in-Some.is) in
    let low : c.args.row < length c.args.self.now.rows.items = memory_there c.args.self.now.half.store.catalogue.rows _ _ was.0.rows was.1.rows c.args.row (slice_get_within c.args.self.now.half.store.catalogue.rows c.args.row c.in-Some.variable.now here) in
    search rules

pub tick_row-requires : goal.tick_row-requires
tick_row-requires g c = record {
  time = λ sampled x scan held.
      let was = c.requires.stands in
      let here = ap (λ (x : CatalogueState). slice_get x.rows c.args.row) (sym c.catalogue.ensures) ∙ (sym c.row.ensures ∙ ap option_copied c.in-Some.is) in
      let low = memory_there c.args.self.now.half.store.catalogue.rows _ _ was.0.rows was.1.rows c.args.row (slice_get_within c.args.self.now.half.store.catalogue.rows c.args.row c.in-Some.variable.now here) in
      let there = read_at c.args.self.now.rows.items c.args.row c.index_mut.result.now c.index_mut.ensures.value low in
      let at = row_with c.args.self.now.half.store.catalogue.rows _ _ was.0.rows was.1.rows c.args.row c.in-Some.variable.now c.index_mut.result.now here there in
      held_time at.0 c.index_mut.result.now.scan sampled x (was.1.sound.lines c.args.row at.0 at.1) at.2.cell scan held;
}

pub returns-clause-acted : goal.returns-clause-acted
returns-clause-acted g c who =
    let p = parts g.D.Disk c.args.self.now in
    let q = record p { kept = slice_set p.kept c.args.row c.tick_row.new.memory; tails = c.tick_row.new.intake } in
    answered_as g.D.Disk.tells who (Tick c.args.row c.args.now) p _ _ q c.ticked.ensures (acted_alone g.D.Disk.tells who (Tick c.args.row c.args.now) p _ q (λ m f. refl) (λ m f. refl) refl refl
    (λ m s.
    let here = ap (λ (x : CatalogueState). slice_get x.rows c.args.row) (sym c.catalogue.ensures) ∙ (sym c.row.ensures ∙ ap option_copied c.in-Some.is) in
    let low = memory_there c.args.self.now.half.store.catalogue.rows _ _ m.rows s.rows c.args.row (slice_get_within c.args.self.now.half.store.catalogue.rows c.args.row c.in-Some.variable.now here) in
    let there = read_at c.args.self.now.rows.items c.args.row c.index_mut.result.now c.index_mut.ensures.value low in
    let at = row_with c.args.self.now.half.store.catalogue.rows _ _ m.rows s.rows c.args.row c.in-Some.variable.now c.index_mut.result.now here there in
    tick_stands g.D.Disk.tells p m s c.args.row c.in-Some.variable.now c.index_mut.result.now at.0 here at.1 at.2 there c.args.now c.runs-is_running.result c.runs-is_running.ensures c.tick_row.result c.tick_row.new.intake c.tick_row.new.memory
    (tick_case p.tails c.tick_row.new.intake c.index_mut.result.now c.tick_row.new.memory c.runs-is_running.result c.args.row c.args.now c.tick_row.result c.tick_row.ensures.none c.tick_row.ensures.early c.tick_row.ensures.due))
    (reads_none g.D.Disk.tells p q refl) tt tt)
