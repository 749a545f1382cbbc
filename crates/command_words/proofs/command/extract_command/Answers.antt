use Rattle.command_words.proofs.Words.{not_extract}
use Rattle.command_words.proofs.command.extract_command.Goals as goal

pub returns-in_err-query-clause-none : goal.returns-in_err-query-clause-none
returns-in_err-query-clause-none c = rw c.from_residual.ensures (not_extract c.args.word.now c.args.from.now c.args.to.now c.in_err-query.ensures.none)
