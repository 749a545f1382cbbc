use Rattle.std.proofs.Common.{take}
use Rattle.store_manifest.specs.Entries.{InOrder}
use Rattle.tier_store.specs.Revival.{AreUnlistedIn}
use Rattle.tier_store.specs.Seen.{AtEach}
use Rattle.tier_store.proofs.limbo.unlisted_entries.Given as goal

abbrev pub invariant-loop-file : goal.invariant-loop-file
invariant-loop-file l = AtEach l.manifests (λ i m. InOrder m.entries) → AreUnlistedIn l.manifests l.store (take l.file-index l.limbo) l.entries.items
