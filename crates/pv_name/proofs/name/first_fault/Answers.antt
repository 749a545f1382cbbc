use Rattle.std.proofs.Common.{ℕ, ◌≤◌, ◌+◌, ◌<◌, length, List, ⊎_elim, arith, below_more}
use Rattle.pv_name.specs.Name.{IsFault}
use Rattle.pv_name.proofs.name.first_fault.Goals as goal

IsFault-within : (name : List ℕ) (at : ℕ) → IsFault name at → at < length name + 1
IsFault-within name at fault = ⊎_elim (λ byte. let h : at < length name = byte.0 in omega arith) (λ start. let h : at ≤ length name = start.0 in omega arith) fault

pub loop-at-preserved : goal.loop-at-preserved
loop-at-preserved c = below_more _ _ c.loop-at.invariant (λ fault. cc (c.if-is_fault.ensures.1 fault))

pub returns-else-is_fault : goal.returns-else-is_fault
returns-else-is_fault c at fault =
    let within : at < length c.args.bytes.now + 1 = IsFault-within c.args.bytes.now at fault in
    below_more _ _ c.loop-at.invariant (λ here. cc (c.if-is_fault.ensures.1 here)) at (omega arith) fault
