use Rattle.std.proofs.Common.{rules}
use Rattle.http_front.proofs.Sending.{sends_on}
use Rattle.http_front.proofs.coding.send.Goals as goal

pub loop-from-preserved : goal.loop-from-preserved
loop-from-preserved g c =
    let written = g.K.Sink.written in
    record {
      within = search rules;
      sent = sends_on (written c.args.link.now) (written c.loop-from.link) (written c.write.new.self) c.args.bytes.now c.args.from.now c.loop-from.from c.in_ok-from.field-0 c.loop-from.invariant.sent c.in_ok-from.ensures.bytes;
      faults = search rules;
    }
