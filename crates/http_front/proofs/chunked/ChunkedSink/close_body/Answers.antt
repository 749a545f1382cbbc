use Rattle.std.proofs.Common.{◌≤◌, length, ap, arith}
use Rattle.http_front.proofs.Standing.{body_closed}
use Rattle.http_front.proofs.chunked.ChunkedSink.close_body.Goals as goal

pub returns-clause-kept : goal.returns-clause-kept
returns-clause-kept g c =
    let s = c.args.self.now in
    let short : length s.held.items ≤ 8192 = omega (arith, c.as_slice.ensures.fits, ap length c.as_slice.ensures.value) in
    rw (c.requires.chunks, c.requires.out, c.chunked-self.ensures, c.put_end.ensures, c.as_slice.ensures.value, c.as_slice-2.ensures.value)
    (body_closed (g.K.Sink.written s.start.value) (g.K.Sink.written s.link.now) s.link.ghost_name s.taken.bytes s.held.items short)
