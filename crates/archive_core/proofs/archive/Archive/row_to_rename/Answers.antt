use Rattle.std.proofs.Common.{ℕ, Some, Err, Result, sym, ◌∙◌, ap, subst}
use Rattle.std.specs.Prelude.{IfErr}
use Rattle.std.proofs.lemmas.Option.{slice_get_within}
use Rattle.std.proofs.lemmas.Result.{err_from_is_err_and}
use Rattle.pb_messages.specs.declared.about.State.TheVariants.{Paused}
use Rattle.pv_catalog.specs.Catalogue.{CatalogueState, HasState, Refuses}
use Rattle.pv_catalog.specs.declared.error.RegisterErr.{RegisterErr}
use Rattle.archive_core.specs.Parts.{parts}
use Rattle.archive_core.specs.Renaming.{IsUnnamed, IsUnpaused, has_tail, is_taken, is_unpaused}
use Rattle.archive_core.specs.Switching.{IsFound}
use Rattle.archive_core.specs.declared.renaming.Unnamed.{Unnamed}
use Rattle.archive_core.proofs.archive.Archive.row_to_rename.Goals.{After-refuse_taken, After-refuse_tail}
use Rattle.archive_core.proofs.archive.Archive.row_to_rename.Goals as goal

-- the row of the name is paused
found : (g : _) (c : After-refuse_taken g) → IsFound c.args.self.now.half.store.catalogue.rows c.args.name.now (Some c.in_ok-row.row) × HasState c.args.self.now.half.store.catalogue.rows c.in_ok-row.row Paused
found g c = subst (λ (x : CatalogueState). IsFound x.rows c.args.name.now (Some c.in_ok-row.row) × HasState x.rows c.in_ok-row.row Paused) c.catalogue-catalogue.ensures c.in_ok-row.ensures.found

-- and nothing refuses the new one
free : (g : _) (c : After-refuse_tail g) (e : RegisterErr) → Refuses c.args.self.now.half.store.catalogue.rows c.args.newname.now e → ⊥
free g c = subst (λ (x : CatalogueState). (e : RegisterErr) → Refuses x.rows c.args.newname.now e → ⊥) c.catalogue-catalogue.ensures c.in_ok-refuse_taken.ensures.free

pub returns-in_err-row-clause-refused : goal.returns-in_err-row-clause-refused
returns-in_err-row-clause-refused g c =
    let e = err_from_is_err_and c.from_residual.result c.from_residual.ensures.1 in
    subst (λ (x : Result ℕ Unnamed). IfErr x (IsUnnamed (parts g.D.Disk c.args.self.now) c.args.name.now c.args.newname.now c.args.change)) (sym (e.1 ∙ ap (λ (d : Unnamed). Err d) e.2))
    (is_unpaused (subst (λ (x : CatalogueState). IsUnpaused x.rows c.args.name.now c.args.change c.in_err-row.field-0.0) c.catalogue-catalogue.ensures c.in_err-row.ensures.refused))

pub returns-in_err-refuse_taken-clause-refused : goal.returns-in_err-refuse_taken-clause-refused
returns-in_err-refuse_taken-clause-refused g c =
    let e = err_from_is_err_and c.from_residual-in_err-refuse_taken.result c.from_residual-in_err-refuse_taken.ensures.1 in
    let is = found g (goal.at.returns-in_err-refuse_taken-clause-refused g c).After-refuse_taken in
    subst (λ (x : Result ℕ Unnamed). IfErr x (IsUnnamed (parts g.D.Disk c.args.self.now) c.args.name.now c.args.newname.now c.args.change)) (sym (e.1 ∙ ap (λ (d : Unnamed). Err d) e.2))
    (is_taken c.in_ok-row.row c.in_err-refuse_taken.field-0.0 is.0 is.1 (subst (λ (x : CatalogueState). Refuses x.rows c.args.newname.now c.in_err-refuse_taken.field-0.0) c.catalogue-catalogue.ensures c.in_err-refuse_taken.ensures.refuses))

pub refuse_tail-requires-clause-row : goal.refuse_tail-requires-clause-row
refuse_tail-requires-clause-row g c = let has = (found g (goal.at.refuse_tail-requires-clause-row g c).After-refuse_taken).1 in slice_get_within c.args.self.now.half.store.catalogue.rows c.in_ok-row.row has.row has.here

pub returns-in_err-refuse_tail-clause-refused : goal.returns-in_err-refuse_tail-clause-refused
returns-in_err-refuse_tail-clause-refused g c =
    let e = err_from_is_err_and c.from_residual-in_err-refuse_tail.result c.from_residual-in_err-refuse_tail.ensures.1 in
    let at = goal.at.returns-in_err-refuse_tail-clause-refused g c in
    let is = found g at.After-refuse_taken in
    subst (λ (x : Result ℕ Unnamed). IfErr x (IsUnnamed (parts g.D.Disk c.args.self.now) c.args.name.now c.args.newname.now c.args.change)) (sym (e.1 ∙ ap (λ (d : Unnamed). Err d) e.2))
    (has_tail c.in_ok-row.row is.0 is.1 (free g at.After-refuse_tail) c.in_err-refuse_tail.ensures.refused)

pub returns-clause-found : goal.returns-clause-found
returns-clause-found g c =
    let at = goal.at.returns-clause-found g c in
    let is = found g at.After-refuse_taken in
    (is.0, record { paused = is.1; free = free g at.After-refuse_tail; none = c.in_ok-refuse_tail.ensures.none })
