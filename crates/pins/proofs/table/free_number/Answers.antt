use Rattle.std.proofs.Common.{◌≡◌, ◌+◌, ◌∙◌}
use Rattle.std.specs.BTreeMap.{keys}
use Rattle.pins.proofs.EntryLemmas.{taken_below, free_before, free_at_end, counts_on}
use Rattle.pins.proofs.table.free_number.Goals as goal

pub returns-then-number-free-clause-free : goal.returns-then-number-free-clause-free
returns-then-number-free-clause-free c =
    let w = c.loop-number in
    free_before c.args.pins.now w.free c.in-Some.number.now c.next.new.self c.keys-number-items.ensures.ordered w.invariant.counts (w.invariant.rest ∙ c.in-Some.ensures.steps) c.if-number-free.true

pub returns-then-number-free-clause-least : goal.returns-then-number-free-clause-least
returns-then-number-free-clause-least c = taken_below c.args.pins.now c.loop-number.free c.keys-number-items.ensures.ordered c.loop-number.invariant.counts

pub loop-number-preserved : goal.loop-number-preserved
loop-number-preserved c =
    let w = c.loop-number in
    let step : c.in_ok-free.free ≡ w.free + 1 = (rw c.in_ok-free.ensures.ok_part at c.checked_add.ensures).1 in
    let on = counts_on (keys c.args.pins.now) w.free c.in-Some.number.now c.in_ok-free.free c.next.new.self w.invariant.counts (w.invariant.rest ∙ c.in-Some.ensures.steps) c.if-number-free.false step in
    record { counts = on.0; rest = on.1 }

pub returns-clause-free : goal.returns-clause-free
returns-clause-free c = free_at_end c.args.pins.now c.loop-number.free c.keys-number-items.ensures.ordered c.loop-number.invariant.counts (c.loop-number.invariant.rest ∙ c.in-None.ensures.steps.0)

pub returns-clause-least : goal.returns-clause-least
returns-clause-least c = taken_below c.args.pins.now c.loop-number.free c.keys-number-items.ensures.ordered c.loop-number.invariant.counts
