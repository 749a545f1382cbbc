use Rattle.std.proofs.Common.{◌≡◌, ◌≤◌, ◌<◌, ◌-◌, ◌+◌, ℕ, Some, length, slice_get}
use Rattle.store_manifest.specs.Manifest.{ManifestState}
use Rattle.store_manifest.specs.declared.entry.Entry.{Entry}
use Rattle.etl_mover.specs.Copying.{last_of}
use Rattle.etl_mover.specs.Move.{of_series}
use Rattle.tier_store.specs.Reviving.{IsCovered}
use Rattle.tier_store.proofs.store.TierStore.first_uncovered.Given as goal

abbrev pub invariant-loop-n : goal.invariant-loop-n
invariant-loop-n g l = record {
  low : l.first ≤ l.n;
  high : l.n ≤ length l.moving.files;
  each : (m : ManifestState) → slice_get l.self.manifests.items l.place ≡ Some m → (k : ℕ) (e : Entry) → l.first ≤ k → k < l.n → slice_get (of_series l.moving.series m.entries) k ≡ Some e → IsCovered l.self.limbo.items (l.place + 2) l.moving.series (last_of l.moving.pending l.moving.listed) e;
}

abbrev pub decreases-loop-n : goal.decreases-loop-n
decreases-loop-n g l = length l.moving.files - l.n
