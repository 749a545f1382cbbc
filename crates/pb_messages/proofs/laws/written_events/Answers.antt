use Rattle.pb_messages.proofs.RoundTrip.{event_back}
use Rattle.pb_messages.proofs.laws.written_events.Goals as goal

pub returns : goal.returns
returns c = event_back
