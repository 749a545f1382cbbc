use Rattle.std.proofs.Common.{◌≡◌, ℕ, ◌<◌, [], ◌++◌, List, Option, Some, None, reverse, ◌∙◌, ap, subst, sym, refl, arith}
use Rattle.std.specs.Prelude.{slice_get}
use Rattle.std.proofs.lemmas.Option.{slice_get_read, slice_get_past}
use Rattle.pv_catalog.specs.Lines.{line_known, lines}
use Rattle.pv_catalog.specs.Rows.{AreRows}
use Rattle.pv_catalog.specs.declared.row.Row.{Row}
use Rattle.pv_catalog.proofs.Lines.{line_step, no_line}
use Rattle.pv_catalog.proofs.line.line_of.Goals as goal
use Rattle.pv_catalog.proofs.line.line_of.Goals.{After-push, in-Some+in_default-get, in_default}
use Rattle.pv_catalog.proofs.line.line_of.Invariants.{rows_below}

found : (c : After-push) → slice_get c.args.rows.now c.in-Some.id ≡ Some c.in-Some-get.row.now
found c = slice_get_read c.args.rows.now _ c.in-Some.id c.in-Some-get.row.now refl c.in-Some-get.ensures.lookup.3.0 c.in-Some-get.ensures.lookup.1

-- a base has a smaller number
lower : (rows : List Row) → AreRows rows → (next : Option ℕ) (id : ℕ) (row : Row) → next ≡ Some id → slice_get rows id ≡ Some row → rows_below row.base < rows_below next
lower rows are next id row is here = subst (λ (o : Option ℕ). rows_below row.base < rows_below o) (sym is) (by_base row.base refl)
  where
    by_base : (base : Option ℕ) → row.base ≡ base → rows_below base < rows_below (Some id)
    by_base None same = omega arith
    by_base (Some b) same = let below = (are.over id row b here same).below in omega arith

pub loop-next-smaller : goal.loop-next-smaller
loop-next-smaller c = lower c.args.rows.now c.requires c.loop-next.next c.in-Some.id c.in-Some-get.row.now c.in-Some.is (found (goal.at.loop-next-smaller c).After-push)

pub loop-next-preserved : goal.loop-next-preserved
loop-next-preserved c =
    let rows = c.args.rows.now in
    c.loop-next.invariant
    ∙ ap (λ (o : Option ℕ). line_known (lines [] rows) o ++ reverse c.loop-next.ids.items) c.in-Some.is
    ∙ line_step rows c.requires c.in-Some.id c.in-Some-get.row.now c.loop-next.ids.items (found (goal.at.loop-next-preserved c).After-push)
    ∙ ap (λ (l : List ℕ). line_known (lines [] rows) c.in-Some-get.row.now.base ++ reverse l) (sym c.in_ok-push.ensures.items)

none_there : (rows : List Row) (next : Option ℕ) → ((i : ℕ) → next ≡ Some i → ⊥) → line_known (lines [] rows) next ≡ []
none_there rows None none = refl
none_there rows (Some i) none = absurd (none i refl)

pub returns : goal.returns
returns c = c.reverse.ensures.items ∙ sym (c.loop-next.invariant ∙ ap (λ (l : List ℕ). l ++ reverse c.loop-next.ids.items) (elim c.match-next.branch as (λ b. line_known (lines [] c.args.rows.now) c.loop-next.next ≡ []) [
  | in-Some+in_default-get w ↦ ap (line_known (lines [] c.args.rows.now)) w.in-Some.is ∙ no_line c.args.rows.now w.in-Some.id (slice_get_past c.args.rows.now w.in-Some.id w.in_default-get.ensures.lookup.3)
  | in_default w ↦ none_there c.args.rows.now c.loop-next.next w.in_default.not-Some
]))
