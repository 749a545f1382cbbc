use Rattle.std.proofs.Common.{inl}
use Rattle.service.proofs.Replying.{acts_of, whole_of}
use Rattle.service.proofs.data.reply_with_data.Goals as goal

pub returns-in-Ok-clause-acts : goal.returns-in-Ok-clause-acts
returns-in-Ok-clause-acts g c =
    let A = g.A.Actor in
    let R = g.A.Reader.ReadAt in
    let written = g.K.Sink.written in
    acts_of A R _ c.args.actor.now c.pin_variable.new.actor c.reply_pinned.new.actor (written c.args.link.now) (written c.reply_pinned.new.link) c.args.format c.args.version c.args.name.now c.args.query c.reply_pinned.result
    c.in-Ok.variable c.in-Ok.ensures.pins c.reply_pinned.ensures.replies

pub returns-in-Ok-clause-whole : goal.returns-in-Ok-clause-whole
returns-in-Ok-clause-whole g c telling m is told headers =
    let A = g.A.Actor in
    let R = g.A.Reader.ReadAt in
    let written = g.K.Sink.written in
    whole_of A R _ c.args.actor.now c.pin_variable.new.actor c.reply_pinned.new.actor (written c.args.link.now) (written c.reply_pinned.new.link) c.args.format c.args.version c.args.name.now c.args.query c.reply_pinned.result
    g.met.A.Actor.legal g.met.A.Actor.sound g.met.A.Actor.joined g.met.A.Actor.number_stays m is told headers telling c.in-Ok.variable c.in-Ok.ensures.pins c.reply_pinned.ensures.replies

pub returns-in-Err-clause-acts : goal.returns-in-Err-clause-acts
returns-in-Err-clause-acts g c = inl (record { why = c.in-Err.why; fails = c.in-Err.ensures.fails; tells = c.refuse_pin.ensures.tells })

pub returns-in-Err-clause-whole : goal.returns-in-Err-clause-whole
returns-in-Err-clause-whole g c telling m is told headers = inl (record { why = c.in-Err.why; fails = c.in-Err.ensures.fails; tells = c.refuse_pin.ensures.tells })
