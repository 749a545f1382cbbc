use Rattle.std.proofs.Common.{[]}
use Rattle.std.specs.Prelude.{if◌then◌else◌}
use Rattle.stream_extract.proofs.Answers.{held_back}
use Rattle.stream_extract.proofs.answer.ChunkAnswer.finish.Goals as goal

pub returns-clause-ok : goal.returns-clause-ok
returns-clause-ok c = λ xs h. (if c.args.self.now.reached then [] else c.args.self.now.earlier, held_back c.args.self.now xs h, c.in_ok-give_held.ensures.ok)
