-- Calls that tell what they make of stores of which something more is true: beside which a running move has written files, or which stand no
-- further than the files in limbo do.
use Rattle.std.specs.Prelude.{Bool, IsTrue}
use Rattle.disk_model.specs.Past.{Passes}
use Rattle.durable_write.specs.Ends.{End}
use Rattle.tier_store.specs.Stores.{Stores}
use Rattle.tier_store.specs.Seen.{Seen, granularities}
use Rattle.tier_store.specs.Change.{Has, StoreCall, Costs, EndsFrom, HoldsBy}

-- A call where nothing stands in doubt, of stores of which this is true: see Changes.
pub record ChangesGiven {A E : Type 0} (Is : Stores → Type 0) (tells : Bool) (call : StoreCall A E) (old new : Seen) (end : End A E) : Type 0 where
  pub ends : (held : Stores) → Has tells old held → Is held → EndsFrom tells call new held end
  pub any_moment : IsTrue tells → (held : Stores) → Has tells old held → Is held → Passes (HoldsBy (granularities old.manifests) call.by held) old.past new.past
  pub costs : Costs old new end
