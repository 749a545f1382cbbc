use Rattle.store_manifest.proofs.folding.make_batch.Goals as goal

pub returns-in_default-clause-bad : goal.returns-in_default-clause-bad
returns-in_default-clause-bad c same last is = let none = rw c.in_default.is at c.in_ok-behind.ensures.none in none last ((c.loop-rest.invariant.says last).1 is.1)
