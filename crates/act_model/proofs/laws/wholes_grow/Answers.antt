use Rattle.act_model.proofs.WholeLaws.{whole_list, whole_over_base, whole_grows, follows_from_end}
use Rattle.act_model.proofs.laws.wholes_grow.Goals as goal

pub returns-clause-list : goal.returns-clause-list
returns-clause-list c = whole_list

pub returns-clause-over_base : goal.returns-clause-over_base
returns-clause-over_base c = whole_over_base

pub returns-clause-run : goal.returns-clause-run
returns-clause-run c = whole_grows

pub returns-clause-follows : goal.returns-clause-follows
returns-clause-follows c = follows_from_end
