use Rattle.sample_bins.proofs.Whole.{bins_are_whole, numbers_rise}
use Rattle.sample_bins.proofs.Given.{numbers_have_bins}
use Rattle.sample_bins.proofs.laws.bins.Goals as goal

pub returns-clause-whole : goal.returns-clause-whole
returns-clause-whole c = bins_are_whole

pub returns-clause-each : goal.returns-clause-each
returns-clause-each c = numbers_have_bins

pub returns-clause-rise : goal.returns-clause-rise
returns-clause-rise c = numbers_rise
