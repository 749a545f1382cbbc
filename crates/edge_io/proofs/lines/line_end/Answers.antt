use Rattle.std.proofs.Common.{false}
use Rattle.edge_io.proofs.Ahead.{line_end_at}
use Rattle.edge_io.proofs.lines.line_end.Goals as goal

pub returns-in-Some-newline_from-clause-end : goal.returns-in-Some-newline_from-clause-end
returns-in-Some-newline_from-clause-end c =
    let h = c.in-Some-newline_from.ensures.place in
    line_end_at c.args.bytes.now c.args.mark c.in-Some-newline_from.at false h.0 h.1 h.2 (λ free. cc)
