use Rattle.std.proofs.Common.{◌≡◌, false, length, take, drop, ◌∙◌, arith, rules}
use Rattle.std.proofs.lemmas.List.{length-take}
use Rattle.std.proofs.KnownBytes.{Keeps-trans}
use Rattle.http_front.proofs.Standing.{gathered, kept_appends, kept_writes}
use Rattle.http_front.proofs.Taking.{plain_takes, chunk_takes}
use Rattle.http_front.proofs.chunked.ChunkedSinkSink.write.Goals as goal

pub returns-clause-bytes : goal.returns-clause-bytes
returns-clause-bytes g c =
    let written = g.K.Sink.written in
    let s = c.make_room.new.self in
    let chunks = c.in_ok-make_room.ensures.room.0 in
    let both = Keeps-trans _ _ _ c.in_ok-flush.ensures.kept c.in_ok-make_room.ensures.kept in
    let kept = rw chunks at both in
    let piece = take c.gather.result c.args.bytes.now in
    rw (chunks, c.gather.ensures.items) (kept_appends _ _ _ piece kept (gathered (written s.start.value) (written s.link.now) s.link.ghost_name s.taken.bytes s.held.items (drop s.from s.room.items) piece))

pub returns-then-not-self-clause-bytes : goal.returns-then-not-self-clause-bytes
returns-then-not-self-clause-bytes g c = kept_writes _ _ _ c.pass.result c.args.bytes.now c.in_ok-flush.ensures.kept c.pass.ensures.bytes

pub returns-then-not-self-clause-same_reference : goal.returns-then-not-self-clause-same_reference
returns-then-not-self-clause-same_reference g c = c.pass.ensures.same_reference ∙ c.in_ok-flush.ensures.same_reference

pub returns-then-not-self-clause-takes : goal.returns-then-not-self-clause-takes
returns-then-not-self-clause-takes g c =
    let written = g.K.Sink.written in
    let mid = c.flush.new.self in
    let new = c.pass.new.self in
    let plain : mid.in_chunks ≡ false = search rules in
    let kept = rw plain at c.in_ok-flush.ensures.kept in
    rw (c.pass.ensures.rest.0, c.pass.ensures.rest.1) (plain_takes _ (written mid.start.value) (written mid.link.now) (written new.start.value) (written new.link.now) mid.link.ghost_name new.link.ghost_name mid.taken.bytes mid.held.items (drop mid.from mid.room.items) new.taken.bytes new.held.items (length c.args.bytes.now) c.pass.result kept)

pub returns-clause-takes : goal.returns-clause-takes
returns-clause-takes g c =
    let written = g.K.Sink.written in
    let s = c.make_room.new.self in
    let chunks = c.in_ok-make_room.ensures.room.0 in
    let out = c.in_ok-make_room.ensures.out in
    let both = Keeps-trans _ _ _ c.in_ok-flush.ensures.kept c.in_ok-make_room.ensures.kept in
    let kept = rw (chunks, out) at both in
    let bytes = c.args.bytes.now in
    let n = c.gather.result in
    let long : length (take n bytes) ≡ n = omega (arith, length-take n bytes, c.gather.ensures.within) in
    rw (chunks, out, c.gather.ensures.items) (chunk_takes _ (written s.start.value) (written s.link.now) s.link.ghost_name s.taken.bytes s.held.items (take n bytes) (length bytes) n kept c.in_ok-make_room.ensures.room.1 c.gather.ensures.count long c.gather.ensures.least)
