use Rattle.std.proofs.Common.{sym}
use Rattle.command_words.proofs.Words.{dash_faulty, asked_command, asked_none}
use Rattle.command_words.proofs.command.command_of.Goals as goal

pub returns-then-have_dash-clause-none : goal.returns-then-have_dash-clause-none
returns-then-have_dash-clause-none c = dash_faulty c.args.words.now c.have_dash.result c.have_dash.ensures (sym c.if-have_dash.true)

pub returns-clause-found : goal.returns-clause-found
returns-clause-found c = asked_command c.args.words.now c.have_dash.result c.asked_for.result c.have_dash.ensures (sym c.if-have_dash.false) c.asked_for.ensures.found

pub returns-clause-none : goal.returns-clause-none
returns-clause-none c = asked_none c.args.words.now c.asked_for.result c.asked_for.ensures.none
