use Rattle.std.proofs.Common.{◌≡◌, sym, subst, ◌∙◌, arith}
use Rattle.std.specs.BTreeMap.{get}
use Rattle.std.specs.Ordering.{nat_cmp}
use Rattle.moves.specs.Search.{IsSearchStep, answer}
use Rattle.moves.specs.Series.{IsToMove, parts_in}
use Rattle.moves.proofs.Search.{many_of, goes_on}
use Rattle.moves.proofs.series.move_to_make.Goals as goal

pub loop-s-preserved : goal.loop-s-preserved
loop-s-preserved c =
    let many = many_of c.args.rule.now c.args.source.now.entries c.args.destination.now.entries c.entries.result.now c.entries-in-loop-s.result.now c.loop-s.s-counter c.in_ok-parts.parts c.in_ok-parts.ensures.parts c.entries.ensures c.entries-in-loop-s.ensures in
    goes_on (parts_in c.args.rule.now c.args.source.now.entries c.args.destination.now.entries) (get nat_cmp c.args.running.now) c.loop-s.s-counter c.in_ok-parts.parts c.copied.result c.loop-s.first c.in-On.next many
    (c.copied.ensures ∙ c.get.ensures.value) (subst (λ t. IsSearchStep c.in_ok-parts.parts c.copied.result c.loop-s.first t) c.in-On.is c.look.ensures) c.loop-s.invariant

pub returns : goal.returns
returns c =
    let parts = parts_in c.args.rule.now c.args.source.now.entries c.args.destination.now.entries in
    let at_end : c.loop-s.s-counter ≡ c.args.series = omega (arith, c.loop-s-test.false, c.loop-s.auto.s-counter-end) in
    subst (λ a. IsToMove parts (get nat_cmp c.args.running.now) c.args.series a) (sym c.answer.ensures)
    (subst (λ n. IsToMove parts (get nat_cmp c.args.running.now) n (answer c.loop-s.first)) at_end c.loop-s.invariant)
