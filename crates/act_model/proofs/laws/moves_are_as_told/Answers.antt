use Rattle.act_model.proofs.ToldLaws.{begun_new, retired_whole, none_damaged}
use Rattle.act_model.proofs.laws.moves_are_as_told.Goals as goal

pub returns-clause-begun : goal.returns-clause-begun
returns-clause-begun c = λ who store now n row parts old new answer step is. begun_new store now n row parts old new answer step is

pub returns-clause-retired : goal.returns-clause-retired
returns-clause-retired c = λ who n parts old new answer step is. retired_whole n parts old new answer step is

pub returns-clause-damaged : goal.returns-clause-damaged
returns-clause-damaged c = λ who n at name old new answer told step is. none_damaged n at name old new answer told step is
