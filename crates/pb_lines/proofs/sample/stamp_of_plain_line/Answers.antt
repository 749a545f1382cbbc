use Rattle.std.proofs.Common.{sym}
use Rattle.line_escape.proofs.EscapingLemmas.{plain_means}
use Rattle.pb_lines.proofs.sample.stamp_of_plain_line.Goals as goal

pub returns-in-Ok : goal.returns-in-Ok
returns-in-Ok c = (c.args.line.now, plain_means c.args.line.now c.requires.plain c.requires.whole, sym c.in-Ok.ensures)
