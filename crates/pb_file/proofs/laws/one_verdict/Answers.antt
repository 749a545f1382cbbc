use Rattle.pb_file.proofs.Verdicts as verdicts
use Rattle.pb_file.proofs.laws.one_verdict.Goals as goal

pub returns : goal.returns
returns c = verdicts.one_verdict
