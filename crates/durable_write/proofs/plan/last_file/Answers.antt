use Rattle.std.proofs.Common.{◌≡◌, ◌∷◌, [], ◌++◌, ◌+◌, ◌∙◌, take, sym, ap}
use Rattle.std.proofs.lemmas.List.{take_more}
use Rattle.store_manifest.specs.declared.entry.Entry.{Entry}
use Rattle.durable_write.specs.Plan.{later_of, last_with}
use Rattle.durable_write.proofs.Batches.{last_more}
use Rattle.durable_write.proofs.plan.last_file.Goals as goal

pub loop-entry-preserved : goal.loop-entry-preserved
loop-entry-preserved c =
    let series = c.args.series in
    let limbo = c.args.limbo.now in
    let i = c.loop-entry.entry-index in
    let e = c.entry-item.result in
    let first = c.last_listed-last.result in
    let more : take (i + 1) limbo ≡ take i limbo ++ e ∷ [] = take_more limbo i e c.loop-entry-test.true ∙ ap (λ (x : Entry). take i limbo ++ x ∷ []) (sym c.entry-item.is) in
    c.later_of-last.ensures
    ∙ (ap (λ last. later_of series last e) c.loop-entry.invariant
    ∙ (sym (last_more series first (take i limbo) e) ∙ ap (last_with series first) (sym more)))
