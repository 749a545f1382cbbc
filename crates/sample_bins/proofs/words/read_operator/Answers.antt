use Rattle.sample_bins.proofs.Asking.{if_none, no_operator_of}
use Rattle.sample_bins.proofs.words.read_operator.Goals as goal

pub returns-clause-none : goal.returns-clause-none
returns-clause-none c = if_none c.spelled.result (no_operator_of c.args.text.now c.cut_at.result.0.now c.cut_at.result.1.now c.cut_at.ensures) c.spelled.ensures.none
