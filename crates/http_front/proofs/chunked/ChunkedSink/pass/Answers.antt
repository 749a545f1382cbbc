use Rattle.std.proofs.Common.{take}
use Rattle.http_front.proofs.Standing.{passed}
use Rattle.http_front.proofs.chunked.ChunkedSink.pass.Goals as goal

pub returns-clause-bytes : goal.returns-clause-bytes
returns-clause-bytes g c =
    let s = c.args.self.now in
    let piece = take c.in_ok-count.count c.args.bytes.now in
    rw (c.requires.plain, c.requires.out, c.then-self.ensures)
    (passed (g.K.Sink.written s.start.value) (g.K.Sink.written s.link.now) (g.K.Sink.written c.write.new.self) s.link.ghost_name s.taken.bytes s.held.items piece c.in_ok-count.ensures.bytes)
