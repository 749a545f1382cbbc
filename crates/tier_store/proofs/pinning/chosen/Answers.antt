use Rattle.std.proofs.Common.{◌∙◌, List, subst, take, ℕ}
use Rattle.std.specs.List.{flat_map}
use Rattle.std.proofs.lemmas.List.{take_all}
use Rattle.pins.specs.Choosing.{IsChoice}
use Rattle.tier_store.specs.Pinning.{listed_in}
use Rattle.tier_store.proofs.PinnedFiles.{told_more}
use Rattle.tier_store.proofs.pinning.chosen.Goals as goal

pub loop-row-preserved : goal.loop-row-preserved
loop-row-preserved c =
    let rows = c.args.rows.now in
    let ms = c.args.manifests.now in
    let i = c.loop-row.row-index in
    let so_far = c.loop-row.invariant in
    (told_more ms rows i c.add_row.new.choice c.loop-row-test.true (c.in_ok-add_row.ensures.chosen (flat_map (λ k. listed_in k ms) (take i rows)) so_far.0), c.add_row.ensures.from ∙ so_far.1, c.add_row.ensures.to ∙ so_far.2)

pub returns-clause-told : goal.returns-clause-told
returns-clause-told c =
    let ms = c.args.manifests.now in
    subst (λ (l : List ℕ). IsChoice (flat_map (λ k. listed_in k ms) l) c.loop-row.choice) (take_all c.loop-row.row-index c.args.rows.now c.loop-row-test.false) c.loop-row.invariant.0
