use Rattle.std.proofs.lemmas.Result.{on_ok_weaker}
use Rattle.pb_messages.proofs.RoundTrip.{event_back}
use Rattle.pb_messages.proofs.spelling.encode.Goals as goal

pub returns-else-is_err-clause-back : goal.returns-else-is_err-clause-back
returns-else-is_err-clause-back c = on_ok_weaker c.put_event-done.result (event_back c.args.ty c.args.event.now c.requires) c.put_event-done.ensures.fits
