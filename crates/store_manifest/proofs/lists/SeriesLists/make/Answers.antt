use Rattle.std.proofs.Common.{◌≡◌, ℕ, sym, ◌∙◌, ap, subst, nat_cmp}
use Rattle.std.specs.BTreeMap.{is_at}
use Rattle.std.specs.Map.{set_value}
use Rattle.store_manifest.specs.Entries.{place_of}
use Rattle.store_manifest.specs.Listing.{list_of}
use Rattle.store_manifest.proofs.InMemory.{own_series, changed_lists, changed_entries}
use Rattle.store_manifest.proofs.lists.SeriesLists.make.Goals as goal

pub change_list-requires-clause-own : goal.change_list-requires-clause-own
change_list-requires-clause-own c =
    let there = ap (λ (k : ℕ). list_of k c.args.self.now.listed.entries) (sym c.series-series.ensures) ∙ sym c.in-Some.ensures.value in
    own_series (place_of c.args.change.now).0 c.args.self.now.listed.entries c.in-Some.list.now c.requires.good there

pub returns-in-Some-clause-good : goal.returns-in-Some-clause-good
returns-in-Some-clause-good c =
    let w = c.change_list.new.list in
    let old = c.args.self.now.listed.entries in
    let new = (c.get_mut.follows.lender w).entries in
    let there = ap (λ (k : ℕ). list_of k old) (sym c.series-series.ensures) ∙ sym c.in-Some.ensures.value in
    let P : ℕ → Type 0 = λ k. new ≡ set_value (is_at (nat_cmp k)) old w in
    changed_lists c.args.change.now c.in-Some.list.now w old new c.requires.good there c.change_list.ensures.items (subst P c.series-series.ensures (c.get_mut.follows.holds w).0) (c.get_mut.follows.holds w).4

pub returns-in-Some-clause-entries : goal.returns-in-Some-clause-entries
returns-in-Some-clause-entries c =
    let w = c.change_list.new.list in
    let old = c.args.self.now.listed.entries in
    let new = (c.get_mut.follows.lender w).entries in
    let there = ap (λ (k : ℕ). list_of k old) (sym c.series-series.ensures) ∙ sym c.in-Some.ensures.value in
    let P : ℕ → Type 0 = λ k. new ≡ set_value (is_at (nat_cmp k)) old w in
    changed_entries c.args.change.now c.in-Some.list.now w old new c.requires.good there c.change_list.ensures.items (subst P c.series-series.ensures (c.get_mut.follows.holds w).0)
