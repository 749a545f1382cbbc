use Rattle.tier_store.proofs.Removals.{limbo_kept}
use Rattle.tier_store.proofs.laws.limbo_stands.Goals as goal

pub returns : goal.returns
returns g c old new catalogue later ms ns limbo keeps same stands = limbo_kept _ _ limbo keeps same stands
