use Rattle.std.proofs.Common.{drop}
use Rattle.service.proofs.Bodies.{link_stays}
use Rattle.service.proofs.body.give_in_chunks.Goals as goal

pub returns-clause-same_reference : goal.returns-clause-same_reference
returns-clause-same_reference g c =
    let written = g.K.Sink.written in
    let s = c.args.body.now in
    let t = c.give_text.new.sink in
    let some = c.give_text.ensures.answers.some in
    link_stays c.args.format (written s.start.value) (written s.link.now) (written t.start.value) (written t.link.now) s.link.ghost_name t.link.ghost_name s.in_chunks t.in_chunks s.taken.bytes s.held.items (drop s.from s.room.items) t.taken.bytes t.held.items (drop t.from t.room.items) c.requires.told.0 _ some.given c.give_text.result c.requires.told.1 some.writes
