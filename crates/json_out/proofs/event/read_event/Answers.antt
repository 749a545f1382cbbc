use Rattle.json_out.proofs.Lines.{never_refused, never_faulty, event_read}
use Rattle.json_out.proofs.event.read_event.Goals as goal

pub unreachable-requires : goal.unreachable-requires
unreachable-requires c =
    never_refused c.args.ty (record { t = c.args.t; line = c.args.line.now }) c.in-Err-BadEscape.field-0 c.in-Err-BadEscape.field-0-0 c.requires c.in-Err-BadEscape.field-0-is c.in-Err-BadEscape.ensures.refused

pub unreachable-requires-in-Err-Fault : goal.unreachable-requires-in-Err-Fault
unreachable-requires-in-Err-Fault c =
    never_faulty c.args.ty (record { t = c.args.t; line = c.args.line.now }) c.in-Ok.message.now c.in-Err-Fault.field-0 c.in-Err-Fault.field-0-0 c.requires c.in-Ok.ensures.ok c.in-Err-Fault.field-0-is c.in-Err-Fault.ensures.event

pub returns-in-Ok-decode-clause-ok : goal.returns-in-Ok-decode-clause-ok
returns-in-Ok-decode-clause-ok c = event_read c.args.ty c.args.line.now c.in-Ok.message.now c.in-Ok-decode.event c.in-Ok.ensures.ok c.in-Ok-decode.ensures.event
