use Rattle.std.proofs.Common.{inl, inr}
use Rattle.etl_mover.proofs.moving.Move.left.Goals as goal

pub returns-then-from-len-clause-none : goal.returns-then-from-len-clause-none
returns-then-from-len-clause-none c is = inl c.if-from-len.true

pub returns-clause-none : goal.returns-clause-none
returns-clause-none c is = inr (c.next_start.ensures.nowhere is)

pub returns-then-from-len-clause-ends : goal.returns-then-from-len-clause-ends
returns-then-from-len-clause-ends c is = inl c.if-from-len.true

pub returns-clause-ends : goal.returns-clause-ends
returns-clause-ends c is = inr (c.next_start.ensures.ends is)
