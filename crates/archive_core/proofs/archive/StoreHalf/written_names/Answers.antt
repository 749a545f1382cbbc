use Rattle.std.proofs.Common.{List, Option, Some, ◌≡◌, ap, subst, sym, ◌∙◌}
use Rattle.etl_mover.specs.Move.{Moving}
use Rattle.pv_catalog.specs.Catalogue.{CatalogueState}
use Rattle.pv_catalog.specs.declared.row.Row.{Row}
use Rattle.moves.specs.Table.{at}
use Rattle.moves.specs.declared.table.Running.{Running}
use Rattle.archive_core.specs.Parts.{parts_beside}
use Rattle.archive_core.specs.Written.{IsListable}
use Rattle.archive_core.proofs.MoveTable.{listable}
use Rattle.archive_core.proofs.archive.StoreHalf.written_names.Goals as goal

pub written_names-requires : goal.written_names-requires
written_names-requires g c = record {
  listable = λ n running there.
      let rests = c.requires.rests in
      let rows = c.rows.ensures.value ∙ ap (λ (x : CatalogueState). x.rows) c.catalogue.ensures in
      let runs = subst (λ (slots : List (Option (Running Moving))). at slots n ≡ Some running) c.slots.ensures there in
      subst (λ (xs : List Row). IsListable xs running) (sym rows) (listable g.D.Disk.tells (parts_beside g.D.Disk c.args.self.now rests.0) rests.1 rests.2 n running runs);
}
