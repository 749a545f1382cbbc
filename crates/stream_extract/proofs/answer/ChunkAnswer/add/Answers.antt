use Rattle.stream_extract.proofs.Answers.{takes_past, takes_earlier, takes_within, takes_later}
use Rattle.stream_extract.proofs.answer.ChunkAnswer.add.Goals as goal

pub returns-in-Past-clause-ok : goal.returns-in-Past-clause-ok
returns-in-Past-clause-ok c = takes_past c.args.self.now (record { t = c.args.t; line = c.args.line.now }) c.args.out.now.items c.in-Past.ensures

pub returns-in_ok-hold-in-Earlier-clause-ok : goal.returns-in_ok-hold-in-Earlier-clause-ok
returns-in_ok-hold-in-Earlier-clause-ok c = takes_earlier c.args.self.now c.hold.new.self (record { t = c.args.t; line = c.args.line.now }) c.args.out.now.items c.in-Earlier.ensures.0 c.in-Earlier.ensures.1 c.in_ok-hold-in-Earlier.ensures.ok

pub returns-in_ok-add_line-in-Within-clause-ok : goal.returns-in_ok-add_line-in-Within-clause-ok
returns-in_ok-add_line-in-Within-clause-ok c = takes_within c.args.self.now c.reach.new.self (record { t = c.args.t; line = c.args.line.now }) c.args.out.now.items c.reach.new.out.items c.add_line.new.out.items c.in-Within.ensures.0 c.in-Within.ensures.1 c.in-Within.ensures.2 c.in_ok-reach-in-Within.ensures.ok c.in_ok-reach-in-Within.ensures.out c.in_ok-add_line-in-Within.ensures.ok

pub returns-in_ok-reach-in-Later-clause-ok : goal.returns-in_ok-reach-in-Later-clause-ok
returns-in_ok-reach-in-Later-clause-ok c = takes_later c.args.self.now c.reach-in-Later.new.self (record { t = c.args.t; line = c.args.line.now }) c.args.out.now.items c.reach-in-Later.new.out.items c.in-Later.ensures.0 c.in-Later.ensures.1 c.in-Later.ensures.2 c.in_ok-reach-in-Later.ensures.ok c.in_ok-reach-in-Later.ensures.out
