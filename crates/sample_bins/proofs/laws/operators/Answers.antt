use Rattle.sample_bins.proofs.Given.{firsts_are_earliest, lasts_are_latest, given_rise, counts_are_whole}
use Rattle.sample_bins.proofs.laws.operators.Goals as goal

pub returns-clause-firsts : goal.returns-clause-firsts
returns-clause-firsts c = firsts_are_earliest

pub returns-clause-lasts : goal.returns-clause-lasts
returns-clause-lasts c = lasts_are_latest

pub returns-clause-rise : goal.returns-clause-rise
returns-clause-rise c = given_rise

pub returns-clause-counts : goal.returns-clause-counts
returns-clause-counts c = counts_are_whole
