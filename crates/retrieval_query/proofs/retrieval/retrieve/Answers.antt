use Rattle.std.proofs.Common.{inl, inr, refl}
use Rattle.retrieval_query.proofs.Answered.{refuses_so, whole_answer}
use Rattle.retrieval_query.proofs.Behind.{read_behind, read_none}
use Rattle.retrieval_query.proofs.retrieval.retrieve.Goals as goal

pub returns-in-Ok-clause-acts : goal.returns-in-Ok-clause-acts
returns-in-Ok-clause-acts g c =
    let v = c.in-Ok.variable in
    let answers = c.read_pinned.ensures.answers in
    inr (record { pin = v.pin; name_told = v.name; about = v.about; pieces = v.pieces; tail = v.tail; pinned = c.pin_variable.new.actor; pins = c.in-Ok.ensures.pins; reads = answers.reads; writes = answers.some })

pub returns-in-Ok-clause-whole : goal.returns-in-Ok-clause-whole
returns-in-Ok-clause-whole g c tells m is told headers =
    let A = g.A.Actor in
    let O = g.O.Out in
    let R = g.A.Reader.ReadAt in
    inr (whole_answer A.number A.between A.stands g.met.A.Actor.legal g.met.A.Actor.sound g.met.A.Actor.joined g.met.A.Actor.number_stays A.is_spent R.tells R.faults O.finished O.broke _ c.args.actor.now c.pin_variable.new.actor c.read_pinned.new.actor c.args.name.now c.args.query c.in-Ok.variable m c.args.out.now c.read_pinned.new.out c.read_pinned.result
    c.in-Ok.ensures.pins is told headers tells c.read_pinned.ensures.answers)

pub returns-in-Err-clause-acts : goal.returns-in-Err-clause-acts
returns-in-Err-clause-acts g c =
    rw c.from.ensures (inl (record { refuses = refuses_so g.A.Actor.number g.A.Actor.between g.A.Actor.is_spent _ c.args.actor.now c.pin_variable.new.actor c.args.name.now c.args.query c.in-Err.why c.in-Err.ensures.fails; untouched = refl }))

pub returns-in-Err-clause-whole : goal.returns-in-Err-clause-whole
returns-in-Err-clause-whole g c tells m is told headers =
    rw c.from.ensures (inl (record { refuses = refuses_so g.A.Actor.number g.A.Actor.between g.A.Actor.is_spent _ c.args.actor.now c.pin_variable.new.actor c.args.name.now c.args.query c.in-Err.why c.in-Err.ensures.fails; untouched = refl }))

pub returns-in-Ok-clause-read : goal.returns-in-Ok-clause-read
returns-in-Ok-clause-read g c tells =
    let v = c.in-Ok.variable in
    read_behind g.A.Actor.number g.A.Actor.between g.O.Out.finished c.args.actor.now c.pin_variable.new.actor c.read_pinned.new.actor c.args.name.now c.args.query v.pin v.name v.about v.pieces v.tail c.args.out.now c.read_pinned.new.out c.read_pinned.result c.in-Ok.ensures.pins (c.read_pinned.ensures.read tells)

pub returns-in-Err-clause-read : goal.returns-in-Err-clause-read
returns-in-Err-clause-read g c tells = rw c.from.ensures (read_none g.A.Actor.number g.A.Actor.between g.O.Out.finished c.args.actor.now _ c.pin_variable.new.actor c.args.name.now c.args.query c.args.out.now c.args.out.now c.in-Err.why)
