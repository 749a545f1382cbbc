use Rattle.std.proofs.Common.{arith}
use Rattle.edge_io.proofs.Ahead.{gives_line}
use Rattle.edge_io.proofs.lines.Lines.answer.Goals as goal

pub returns-in-Some-clause-some : goal.returns-in-Some-clause-some
returns-in-Some-clause-some c =
    let found = c.in-Some.ensures.place in
    gives_line c.args.self.now c.pass.new.self c.in-Some.len c.requires (omega arith) found.0 found.1 found.2 c.pass.ensures.line c.pass.ensures.held c.pass.ensures.number c.pass.ensures.passed c.pass.ensures.stop c.pass.ensures.bound
