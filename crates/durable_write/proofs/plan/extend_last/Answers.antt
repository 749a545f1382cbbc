use Rattle.std.proofs.Common.{arith}
use Rattle.durable_write.proofs.Places.{last_set}
use Rattle.durable_write.proofs.plan.extend_last.Goals as goal

pub returns : goal.returns
returns c =
    let writes = c.args.writes.now.items in
    let at = last_set writes c.index_mut.result.now c.append.new.write c.len-last.result (omega arith) c.requires c.index_mut.ensures.value in
    record { rest = at.0; start = c.index_mut.result.now; write = c.append.new.write; are = at.1; appended = c.in_ok-append.ensures; becomes = at.2 }
