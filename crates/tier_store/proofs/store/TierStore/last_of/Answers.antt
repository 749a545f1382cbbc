use Rattle.std.proofs.Common.{◌≡◌, ◌<◌, ℕ, [], List, Option, Some, length, get_or, refl, sym, ◌∙◌, subst}
use Rattle.std.specs.Prelude.{slice_get}
use Rattle.std.specs.List.{flat_map}
use Rattle.std.proofs.lemmas.Option.{same_Some, slice_get-get_or, slice_get_within}
use Rattle.pv_catalog.specs.Lines.{line_known, lines}
use Rattle.pv_catalog.specs.declared.row.Row.{Row}
use Rattle.tier_store.specs.Counting.{behind}
use Rattle.tier_store.specs.Stores.{whole_in}
use Rattle.tier_store.specs.Tallying.{end_of_files, entries_in, entries_of_line}
use Rattle.tier_store.proofs.Tallies.{ends_last, base_before, step_down, whole_end}
use Rattle.tier_store.proofs.store.TierStore.last_of.Goals as goal
use Rattle.tier_store.proofs.store.TierStore.last_of.Goals.{After-index-rows-id}

pub loop-next-init : goal.loop-next-init
loop-next-init g c = record {
  within = λ i is. subst (λ (k : ℕ). k < length c.args.self.now.catalogue.rows) (same_Some c.args.row i is) c.requires.row;
  left = refl;
}

-- the row that the walk has come to
here : (g : _) (c : After-index-rows-id g) (found : Row) → slice_get c.args.self.now.catalogue.rows c.in-Some.id ≡ Some (get_or c.rows-rows.result.now c.in-Some.id found)
here g c found =
    let id = c.in-Some.id in
    let rows = c.rows-rows.result.now in
    let same : rows ≡ c.args.self.now.catalogue.rows = c.rows-rows.ensures.value in
    let low : id < length rows = subst (λ (rs : List Row). id < length rs) (sym same) (c.loop-next.invariant.within id c.in-Some.is) in
    subst (λ (rs : List Row). slice_get rs id ≡ Some (get_or rows id found)) same (slice_get-get_or rows id found low)

pub loop-next-smaller : goal.loop-next-smaller
loop-next-smaller g c =
    let id = c.in-Some.id in
    let row = get_or c.rows-rows.result.now id c.index-rows-id.result in
    subst (λ (o : Option ℕ). behind row.base < behind o) (sym c.in-Some.is) (base_before c.args.self.now.catalogue.rows c.rows-rows.ensures.are id row (here g c c.index-rows-id.result))

pub loop-next-preserved : goal.loop-next-preserved
loop-next-preserved g c =
    let id = c.in-Some.id in
    let rows = c.args.self.now.catalogue.rows in
    let ms = c.args.self.now.manifests.items in
    let are = c.rows-rows.ensures.are in
    let row = get_or c.rows-rows.result.now id c.index-rows-id.result in
    let there = here g c c.index-rows-id.result in
    let last = behind c.loop-next.last in
    record {
      within = λ b is. let o = are.over id row b there is in slice_get_within rows b o.base o.here;
      left = step_down ms rows are id row there last (behind c.last_own-last.result) c.last_own-last.ensures
          ∙ subst (λ (o : Option ℕ). end_of_files last (flat_map (λ (k : ℕ). entries_in k ms) (line_known (lines [] rows) o)) ≡ end_of_files 0 (entries_of_line c.args.row rows ms)) c.in-Some.is c.loop-next.invariant.left;
    }

pub returns-clause-last : goal.returns-clause-last
returns-clause-last g c held known stands =
    let catalogue = c.args.self.now.catalogue in
    let ms = c.args.self.now.manifests.items in
    let row = c.args.row in
    let last = c.loop-next.last in
    let listed : behind last ≡ end_of_files 0 (entries_of_line row catalogue.rows ms) =
    subst (λ (o : Option ℕ). end_of_files (behind last) (flat_map (λ (k : ℕ). entries_in k ms) (line_known (lines [] catalogue.rows) o)) ≡ end_of_files 0 (entries_of_line row catalogue.rows ms)) c.in_default.is c.loop-next.invariant.left in
    ends_last last (whole_in row held) (listed ∙ whole_end catalogue ms held known stands row)
