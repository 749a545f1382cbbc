use Rattle.std.proofs.Common.{sym, ◌∙◌, arith}
use Rattle.gate_journal.proofs.LoadingBoth.{sized_long, sized_short}
use Rattle.gate_journal.proofs.load.is_there.Goals as goal

pub returns-then-generation-eq0-clause-there : goal.returns-then-generation-eq0-clause-there
returns-then-generation-eq0-clause-there g c tells so later short = omega (arith, later, c.if-generation-eq0.true)

pub returns-then-size-lt2-clause-short : goal.returns-then-size-lt2-clause-short
returns-then-size-lt2-clause-short g c tells not_so = (omega (arith, c.if-generation-eq0.false), sized_short ((g.D.Disk.files c.args.disk.now) c.args.file.now) c.in-Some.size (sym (c.in_ok-size.ensures.size tells) ∙ c.in-Some.is) c.if-size-lt2.true)

pub returns-clause-there : goal.returns-clause-there
returns-clause-there g c tells so later short = sized_long ((g.D.Disk.files c.args.disk.now) c.args.file.now) c.in-Some.size (sym (c.in_ok-size.ensures.size tells) ∙ c.in-Some.is) c.if-size-lt2.false short
