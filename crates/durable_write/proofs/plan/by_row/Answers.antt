use Rattle.std.proofs.Common.{rules, ◌∙◌}
use Rattle.std.proofs.lemmas.List.{take_all}
use Rattle.std.proofs.lemmas.List.Sorted.{answers_always, IsPermutation-map, IsNonDecreasingBy-from_sort_by_key}
use Rattle.durable_write.proofs.Batches.{keeps_rows}
use Rattle.durable_write.proofs.plan.by_row.Goals as goal

pub returns-clause-same : goal.returns-clause-same
returns-clause-same c =
    let all = c.loop-part.invariant ∙ take_all c.loop-part.part-index c.args.parts.now c.loop-part-test.false in
    keeps_rows (λ p. p.now) c.loop-part.order.items c.sort_by_key.new.self.items c.args.parts.now all (c.in_ok-sort_by_key.ensures.stable (λ p. p.now.row) (answers_always _ _ _ (λ f a r g h. search rules)))

pub returns-clause-moved : goal.returns-clause-moved
returns-clause-moved c =
    let all = c.loop-part.invariant ∙ take_all c.loop-part.part-index c.args.parts.now c.loop-part-test.false in
    rw all at (IsPermutation-map (λ p. p.now) c.loop-part.order.items c.sort_by_key.new.self.items c.in_ok-sort_by_key.ensures.permutation)

pub returns-clause-sorted : goal.returns-clause-sorted
returns-clause-sorted c = IsNonDecreasingBy-from_sort_by_key (λ p. p.now.row) _ c.in_ok-sort_by_key.ensures.sorted (λ a r q k. search rules)
