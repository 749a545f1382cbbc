use Rattle.act_model.proofs.StepLeft.{details_of_row}
use Rattle.act_model.proofs.laws.details_are_of_rows.Goals as goal

pub returns : goal.returns
returns c = λ who name details old new answer told step is. details_of_row name details old new answer told step is
