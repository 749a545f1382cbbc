use Rattle.gate_journal.proofs.Turns.{still_out, now_out, one_more_told}
use Rattle.gate_journal.proofs.told.ToldBatchFold.take.Goals as goal

pub returns-then-self : goal.returns-then-self
returns-then-self c batches took counted = still_out c.args.self.now.out_of_turn c.args.self.now.generation batches c.args.batch.now c.if-self.true took

pub returns-then-not-is_next : goal.returns-then-not-is_next
returns-then-not-is_next c batches took counted =
    now_out c.args.self.now.out_of_turn c.args.self.now.generation batches c.args.batch.now c.if-self.false took (λ small spelled.
    let yes = c.is_next.ensures.1 (small, spelled) in
    let not_so = c.if-not-is_next.true in cc (yes, not_so))

pub returns : goal.returns
returns c batches took counted =
    let next = c.is_next.ensures.0 c.if-not-is_next.false in one_more_told c.args.self.now.out_of_turn c.args.self.now.generation batches c.args.batch.now c.if-self.false took next.0 next.1
