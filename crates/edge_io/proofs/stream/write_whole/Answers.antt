use Rattle.std.proofs.Common.{rules}
use Rattle.std.proofs.KnownBytes.{Appends-trans}
use Rattle.edge_io.proofs.Slices.{front_more}
use Rattle.edge_io.proofs.stream.write_whole.Goals as goal

pub loop-at-preserved : goal.loop-at-preserved
loop-at-preserved g c =
    let written = g.K.Sink.written in
    record {
      within = search rules;
      front = rw (front_more c.args.bytes.now c.loop-at.at c.in_ok-at.field-0) (Appends-trans (written c.args.sink.now) (written c.loop-at.sink) (written c.write.new.self) _ _ c.loop-at.invariant.front c.in_ok-at.ensures.bytes);
      faults = search rules;
      beside = search rules;
    }
