use Rattle.std.proofs.Common.{arith}
use Rattle.durable_write.proofs.plan.push.Goals as goal

pub returns : goal.returns
returns c = record { write = c.append.new.write; appended = c.in_ok-append.ensures; are = c.in_ok-push.ensures.items; room = omega arith }
