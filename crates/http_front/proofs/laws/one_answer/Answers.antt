use Rattle.http_front.proofs.Answering
use Rattle.http_front.proofs.laws.one_answer.Goals as goal

pub returns : goal.returns
returns c = Answering.one_answer
