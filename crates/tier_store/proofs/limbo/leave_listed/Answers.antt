use Rattle.std.proofs.Common.{rules}
use Rattle.tier_store.specs.Limbo.{ListsPlace}
use Rattle.tier_store.proofs.Removals.{retained}
use Rattle.tier_store.proofs.limbo.leave_listed.Goals as goal

pub returns : goal.returns
returns c order = retained _ (λ r. ListsPlace c.args.manifests.now r → ⊥) (ListsPlace c.args.manifests.now) _ (λ r b f k. search rules) _ _ c.retain.ensures.filtered
