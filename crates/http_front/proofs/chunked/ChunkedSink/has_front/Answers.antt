use Rattle.std.proofs.Common.{drop}
use Rattle.http_front.proofs.Standing.{has_front}
use Rattle.http_front.proofs.chunked.ChunkedSink.has_front.Goals as goal

pub returns : goal.returns
returns g c =
    let s = c.args.self.now in
    has_front (g.K.Sink.written s.start.value) (g.K.Sink.written s.link.now) s.link.ghost_name s.in_chunks s.taken.bytes s.held.items (drop s.from s.room.items)
