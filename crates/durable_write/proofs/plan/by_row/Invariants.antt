use Rattle.std.proofs.Common.{◌≡◌, take, map}
use Rattle.durable_write.proofs.plan.by_row.Given as goal

abbrev pub invariant-loop-part : goal.invariant-loop-part
invariant-loop-part l = map (λ p. p.now) l.order.items ≡ take l.part-index l.parts
