use Rattle.std.proofs.Common.{inr}
use Rattle.tier_store.proofs.Retirements.{stays_there, free_leaves, pinned_by}
use Rattle.tier_store.proofs.retiring.remains.Goals as goal

pub returns-then-not-leaves-clause-stays : goal.returns-then-not-leaves-clause-stays
returns-then-not-leaves-clause-stays c t = stays_there c.args.pinned.now c.args.files.now c.args.name.now c.leaves.result c.leaves.ensures c.if-not-leaves.true

pub returns-else-not-leaves-clause-stays : goal.returns-else-not-leaves-clause-stays
returns-else-not-leaves-clause-stays c t = inr (pinned_by c.args.pinned.now c.args.name.now (c.is_needed.ensures.0 t))

pub returns-else-not-leaves-clause-leaves : goal.returns-else-not-leaves-clause-leaves
returns-else-not-leaves-clause-leaves c none = free_leaves c.args.pinned.now c.args.files.now c.args.name.now c.leaves.result c.is_needed.result c.leaves.ensures c.if-not-leaves.false c.is_needed.ensures.1 none
