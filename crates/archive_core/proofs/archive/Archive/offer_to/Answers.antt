use Rattle.std.proofs.Common.{sym, ap, ◌∙◌}
use Rattle.pv_catalog.specs.Catalogue.{CatalogueState}
use Rattle.archive_core.specs.Parts.{parts}
use Rattle.archive_core.proofs.Lists.{read_in, read_at}
use Rattle.archive_core.proofs.KeptRows.{row_at, row_with}
use Rattle.archive_core.proofs.Standing.{offer_dropped, offer_stands}
use Rattle.intake_half.proofs.Ending.{event_time}
use Rattle.archive_core.proofs.archive.Archive.offer_to.Goals as goal

pub returns-in-Some-clause-step : goal.returns-in-Some-clause-step
returns-in-Some-clause-step g c = λ m name s found.
    let here = read_in c.args.self.now.half.store.catalogue.rows c.rows.result.now c.args.row c.index-rows-at.result (c.rows.ensures.value ∙ ap (λ (x : CatalogueState). x.rows) c.catalogue.ensures) c.index-rows-at.is c.requires.here in
    let at = row_at c.args.self.now.half.store.catalogue.rows _ _ m.rows s.rows c.args.row c.index-rows-at.result here in
    offer_dropped g.D.Disk.tells (parts g.D.Disk c.args.self.now) m s c.args.row c.index-rows-at.result at.2 at.0 here at.1 at.4 at.3 name c.args.ty c.args.sample c.args.now found c.in-Some.reason (sym c.in-Some.is ∙ c.reason_by_row.ensures)

pub offer_row-requires : goal.offer_row-requires
offer_row-requires g c = record { time = event_time c.args.ty c.args.sample c.requires.event }

pub returns-in-None-clause-step : goal.returns-in-None-clause-step
returns-in-None-clause-step g c = λ m name s found.
    let here = read_in c.args.self.now.half.store.catalogue.rows c.rows.result.now c.args.row c.index-rows-at.result (c.rows.ensures.value ∙ ap (λ (x : CatalogueState). x.rows) c.catalogue.ensures) c.index-rows-at.is c.requires.here in
    let there = read_at c.args.self.now.rows.items c.args.row c.index_mut.result.now c.index_mut.ensures.value c.requires.there in
    let at = row_with c.args.self.now.half.store.catalogue.rows _ _ m.rows s.rows c.args.row c.index-rows-at.result c.index_mut.result.now here there in
    offer_stands g.D.Disk.tells (parts g.D.Disk c.args.self.now) m s c.args.row c.index-rows-at.result c.index_mut.result.now at.0 here at.1 at.2 there name c.args.ty c.args.sample c.args.now found c.requires.event (sym c.in-None.is ∙ c.reason_by_row.ensures) c.offer_row.result c.offer_row.new.intake c.offer_row.new.memory c.offer_row.ensures
