use Rattle.http_front.proofs.Standing.{chunk_closed}
use Rattle.http_front.proofs.chunked.ChunkedSink.close_chunk.Goals as goal

pub returns-clause-kept : goal.returns-clause-kept
returns-clause-kept g c =
    let s = c.args.self.now in
    rw (c.requires.chunks, c.requires.out, c.then-self.ensures, c.clear-2.ensures, c.put_chunk.ensures.chunk, c.as_slice.ensures.value, c.as_slice-2.ensures.value)
    (chunk_closed (g.K.Sink.written s.start.value) (g.K.Sink.written s.link.now) s.link.ghost_name s.taken.bytes s.held.items c.requires.full)
