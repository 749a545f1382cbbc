use Rattle.intake_half.proofs.Counting.{same_held}
use Rattle.intake_half.proofs.trying.examine.Goals as goal

pub returns-in-Ok-clause-held : goal.returns-in-Ok-clause-held
returns-in-Ok-clause-held c = same_held c.reserve.new.self c.args.intake.now c.reserve.ensures.tails

pub returns-in-Err-clause-held : goal.returns-in-Err-clause-held
returns-in-Err-clause-held c = same_held c.reserve.new.self c.args.intake.now c.reserve.ensures.tails
