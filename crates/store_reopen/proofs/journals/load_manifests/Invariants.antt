use Rattle.std.proofs.Common.{◌≡◌, ◌≤◌, ◌<◌, ◌+◌, ℕ, IsTrue, length, true, Some}
use Rattle.std.specs.Prelude.{slice_get}
use Rattle.disk_model.specs.Files.{Name}
use Rattle.gate_journal.specs.Generations.{IsOwn}
use Rattle.gate_journal.specs.Kept.{Says}
use Rattle.gate_journal.specs.DiskShown.{shown_by}
use Rattle.pv_catalog.specs.Catalogue.{CatalogueState, catalogue_name, IsStored}
use Rattle.store_manifest.specs.Batches.{Folds}
use Rattle.store_manifest.specs.Entries.{AreEntries}
use Rattle.store_manifest.specs.Manifest.{IsKept, manifest_name}
use Rattle.tier_store.specs.Beginning.{AreNested}
use Rattle.tier_store.specs.Seen.{AtEach}
use Rattle.store_reopen.specs.Loading.{KeepsSaid}
use Rattle.store_reopen.specs.Reopen.{stores_of}
use Rattle.store_reopen.proofs.journals.load_manifests.Given as goal

abbrev pub invariant-loop-place : goal.invariant-loop-place
invariant-loop-place g l = record {
  few : l.place ≤ 3;
  count : length l.manifests.items ≡ l.place;
  kept : IsTrue g.D.Disk.tells → AtEach l.manifests.items (λ i m. IsKept m (shown_by g.D.Disk l.disk));
  said : IsTrue g.D.Disk.tells → AtEach l.manifests.items (λ i m. Says (Folds m.granularity) m.entries (manifest_name (i + 1)) (g.D.Disk.files l.fn.disk));
  names : AtEach l.manifests.items (λ i m. m.journal.name ≡ manifest_name (i + 1));
  sound : AtEach l.manifests.items (λ i m. m.journal.sound ≡ true);
  granularity : AtEach l.manifests.items (λ i m. slice_get (stores_of l.config) i ≡ Some m.granularity);
  nested : (i : ℕ) → i < 2 → i + 1 < l.place → AreNested i (stores_of l.config);
  are : AtEach l.manifests.items (λ i m. AreEntries m.granularity m.entries);
  rest : IsTrue g.D.Disk.tells → (i : ℕ) (n : Name) → l.place ≤ i → i < 3 → IsOwn (manifest_name (i + 1)) n → g.D.Disk.files l.disk n ≡ g.D.Disk.files l.fn.disk n;
  catalogue : IsTrue g.D.Disk.tells → (s : CatalogueState) → s.journal.name ≡ catalogue_name → IsStored s (shown_by g.D.Disk l.fn.disk) → IsStored s (shown_by g.D.Disk l.disk);
  keeps : IsTrue g.D.Disk.tells → KeepsSaid (stores_of l.config) (shown_by g.D.Disk l.fn.disk) (shown_by g.D.Disk l.disk);
  faults : g.D.Disk.faults l.fn.disk ≤ g.D.Disk.faults l.disk;
}
