use Rattle.std.proofs.Common.{inr}
use Rattle.http_front.proofs.reading.read_request.Goals as goal

pub returns-clause-memory : goal.returns-clause-memory
returns-clause-memory g c = λ e. inr (c.read_into.ensures.memory e)
