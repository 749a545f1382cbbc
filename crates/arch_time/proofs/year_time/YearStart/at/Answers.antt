use Rattle.std.proofs.Common.{arith}
use Rattle.arch_time.proofs.YearLemmas.{start_bounds}
use Rattle.arch_time.proofs.year_time.YearStart.at.Goals as goal

pub overflow_add-result : goal.overflow_add-result
overflow_add-result c = let bounds = start_bounds c.args.self.year c.args.self.year_in in let start = c.args.self.start_is in let length = c.args.self.length_is in omega arith

pub overflow_add-result-2 : goal.overflow_add-result-2
overflow_add-result-2 c = let bounds = start_bounds c.args.self.year c.args.self.year_in in let start = c.args.self.start_is in let length = c.args.self.length_is in omega arith
