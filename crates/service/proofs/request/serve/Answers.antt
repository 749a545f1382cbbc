use Rattle.std.proofs.Common.{refl}
use Rattle.edge_io.specs.Stream.{Rose}
use Rattle.service.specs.Data.{AnswersData}
use Rattle.service.specs.declared.served.Served.TheVariants.{Finished}
use Rattle.service.proofs.Replying.{is_managed, manages}
use Rattle.service.proofs.request.serve.Goals as goal

pub admin-requires-clause-management : goal.admin-requires-clause-management
admin-requires-clause-management g c = is_managed c.args.request.now.call c.in_default.not-Raw c.in_default.not-Json

pub returns-in-Raw-clause-replies : goal.returns-in-Raw-clause-replies
returns-in-Raw-clause-replies g c = rw c.in-Raw.is (
  c.reply_with_data.result,
  c.from.ensures,
  record {
    acts = rw c.bytes.ensures.value at c.reply_with_data.ensures.acts;
    whole = λ telling m is told headers. rw c.bytes.ensures.value at c.reply_with_data.ensures.whole telling m is told headers;
  },
)

pub returns-in-Json-clause-replies : goal.returns-in-Json-clause-replies
returns-in-Json-clause-replies g c = rw c.in-Json.is (
  c.reply_with_data-in-Json.result,
  c.from-in-Json.ensures,
  record {
    acts = rw c.bytes-in-Json.ensures.value at c.reply_with_data-in-Json.ensures.acts;
    whole = λ telling m is told headers. rw c.bytes-in-Json.ensures.value at c.reply_with_data-in-Json.ensures.whole telling m is told headers;
  },
)

pub returns-in-Ok-clause-replies : goal.returns-in-Ok-clause-replies
returns-in-Ok-clause-replies g c =
    let A = g.A.Actor in
    let R = g.A.Reader.ReadAt in
    let K = g.K.Sink in
    let old = c.args.link.now in
    let new = c.admin.new.sink in
    manages A (AnswersData A R (Rose (K.write_faults old) (K.write_faults new)) c.args.actor.now (K.written old) c.admin.new.actor (K.written new))
    c.args.request.now.version c.args.actor.now c.admin.new.actor c.args.request.now.call (K.written old) (K.written new) Finished c.admin.result (is_managed c.args.request.now.call c.in_default.not-Raw c.in_default.not-Json) (rw c.in-Ok.is refl) c.admin.ensures.serves

pub reply_with_data-requires-clause-wide : goal.reply_with_data-requires-clause-wide
reply_with_data-requires-clause-wide g c = rw c.in-Raw.is at c.requires.wide
