use Rattle.pb_file.proofs.Fronts as fronts
use Rattle.pb_file.proofs.laws.one_front.Goals as goal

pub returns-clause-one : goal.returns-clause-one
returns-clause-one c = fronts.one_front

pub returns-clause-excluded : goal.returns-clause-excluded
returns-clause-excluded c = fronts.front_excluded
