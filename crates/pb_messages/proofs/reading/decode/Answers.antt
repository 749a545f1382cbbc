use Rattle.std.proofs.Common.{sym, ◌∙◌}
use Rattle.std.proofs.lemmas.Result.{err_from_is_err_and}
use Rattle.pb_wire.specs.Message.{view}
use Rattle.pb_messages.proofs.DecodeLemmas.{fault_stays, members_stay, take_fails, decoded}
use Rattle.pb_messages.proofs.KindLemmas.{event_kind}
use Rattle.pb_messages.proofs.reading.decode.Goals as goal

pub loop-members-preserved : goal.loop-members-preserved
loop-members-preserved c =
    let old = c.loop-members.fields in
    let new = c.next.new.self in
    let x = view c.in-Some.field in
    let taken = rw c.in-Some.is at c.in_ok-field.ensures.next in
    let step = rw c.place.ensures at c.in_ok-take.ensures in
    record {
      fault = fault_stays c.of-layout.result old new x _ taken step.0 c.loop-members.invariant.fault;
      members = members_stay c.of-layout.result old new x c.loop-members.members c.take.new.self _ taken step.1 c.loop-members.invariant.members;
    }

pub returns-in_err-take-clause-event : goal.returns-in_err-take-clause-event
returns-in_err-take-clause-event c =
    let old = c.loop-members.fields in
    let new = c.next.new.self in
    let x = view c.in-Some.field in
    let taken = rw c.in-Some.is at c.in_ok-field.ensures.next in
    let p = err_from_is_err_and c.from_residual-in_err-take.result c.from_residual-in_err-take.ensures.1 in
    rw (p.1, p.2) (take_fails (Unit {0}) c.args.ty c.args.bytes.now c.of-layout.result old new x c.place.result c.loop-members.members c.take.new.self c.in_err-take.field-0.0 taken c.of-layout.ensures c.place.ensures c.loop-members.invariant.fault c.in_err-take.ensures)

pub returns-in_err-into_event-clause-event : goal.returns-in_err-into_event-clause-event
returns-in_err-into_event-clause-event c =
    let p = err_from_is_err_and c.from_residual-in_err-into_event.result c.from_residual-in_err-into_event.ensures.1 in
    let event = decoded c.args.ty c.args.bytes.now c.of-layout.result c.loop-members.fields c.next.new.self c.in_ok-field.field-0 c.loop-members.members c.in_default.not-Some c.in_ok-field.ensures.next c.of-layout.ensures c.loop-members.invariant.fault c.loop-members.invariant.members in
    rw (p.1, p.2) (event ∙ sym c.in_err-into_event.ensures)

pub returns-clause-event : goal.returns-clause-event
returns-clause-event c =
    let event = decoded c.args.ty c.args.bytes.now c.of-layout.result c.loop-members.fields c.next.new.self c.in_ok-field.field-0 c.loop-members.members c.in_default.not-Some c.in_ok-field.ensures.next c.of-layout.ensures c.loop-members.invariant.fault c.loop-members.invariant.members in
    event ∙ sym c.in_ok-into_event.ensures

pub returns-clause-kind : goal.returns-clause-kind
returns-clause-kind c =
    let event = decoded c.args.ty c.args.bytes.now c.of-layout.result c.loop-members.fields c.next.new.self c.in_ok-field.field-0 c.loop-members.members c.in_default.not-Some c.in_ok-field.ensures.next c.of-layout.ensures c.loop-members.invariant.fault c.loop-members.invariant.members in
    event_kind c.args.ty c.args.bytes.now c.in_ok-into_event.field-0 (event ∙ sym c.in_ok-into_event.ensures)
