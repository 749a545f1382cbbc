use Rattle.tier_store.proofs.Tallies.{rename_keeps, rename_stays}
use Rattle.tier_store.proofs.laws.a_rename_keeps_the_whole.Goals as goal

pub returns-clause-new : goal.returns-clause-new
returns-clause-new c catalogue ms row name old made known stands are are_made by = rename_keeps catalogue ms old known stands are row name made are_made by

pub returns-clause-others : goal.returns-clause-others
returns-clause-others c = rename_stays
