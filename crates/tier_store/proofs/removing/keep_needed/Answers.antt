use Rattle.std.proofs.Common.{rules}
use Rattle.tier_store.specs.Limbo.{IsNeeded}
use Rattle.tier_store.proofs.Removals.{retained}
use Rattle.tier_store.proofs.removing.keep_needed.Goals as goal

pub returns-clause-needed : goal.returns-clause-needed
returns-clause-needed c = retained _ (λ r. IsNeeded c.args.pinned.now c.args.copied.now r.name) (λ r. IsNeeded c.args.pinned.now c.args.copied.now r.name → ⊥) _ (λ r b f k. search rules) _ _ c.retain.ensures.filtered
