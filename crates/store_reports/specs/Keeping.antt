-- What a report leaves of the stores.
use Rattle.std.specs.Prelude.{◌≡◌}
use Rattle.disk_model.specs.declared.disk.Disk.{Ghosts}
use Rattle.durable_write.specs.Ends.{End}
use Rattle.tier_store.specs.Change.{Has, OnlyReads}
use Rattle.tier_store.specs.Pinned.{KeepsShown, seen_all}
use Rattle.tier_store.specs.Seen.{seen}
use Rattle.tier_store.specs.Stores.{Stores}
use Rattle.tier_store.specs.declared.store.TierStore.{TierStore}

-- They have what they had. The rows, the lists, the pins and what is in limbo are as they were, what was shown is shown, and the disk
-- was only read.
pub record KeepsStores {D R A E : Type 0} (disk : Ghosts D R) (old new : TierStore D R) (end : End A E) : Type 0 where
  pub has : (held : Stores) → Has disk.tells (seen disk old) held → Has disk.tells (seen disk new) held
  pub catalogue : new.catalogue ≡ old.catalogue
  pub manifests : new.manifests ≡ old.manifests
  pub pinned : new.pinned ≡ old.pinned
  pub limbo : new.limbo ≡ old.limbo
  pub shown : KeepsShown disk.tells (seen_all disk old) (seen_all disk new)
  pub reads : OnlyReads disk.tells (seen disk old) (seen disk new) end
