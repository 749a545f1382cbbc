use Rattle.pb_messages.proofs.InfoRoundTrip.{info_back}
use Rattle.pb_messages.proofs.laws.written_headers.Goals as goal

pub returns : goal.returns
returns c = info_back
