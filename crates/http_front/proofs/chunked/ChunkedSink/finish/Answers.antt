use Rattle.std.proofs.Common.{◌≡◌, ◌∙◌, false, drop}
use Rattle.http_front.proofs.Standing.{ends}
use Rattle.http_front.proofs.chunked.ChunkedSink.finish.Goals as goal

pub returns-clause-ends : goal.returns-clause-ends
returns-clause-ends g c =
    let written = g.K.Sink.written in
    let s = c.flush-2.new.self in
    let plain : s.in_chunks ≡ false = c.flush-2.ensures.rest.0 ∙ c.close.ensures.plain in
    let last = rw plain at c.flush-2.ensures.kept in
    rw plain (ends _ _ _ (written s.link.now) (written s.start.value) s.link.ghost_name s.taken.bytes s.held.items (drop s.from s.room.items) c.flush-2.result c.in_ok-flush.ensures.kept c.close.ensures.kept last c.flush-2.ensures.all)
