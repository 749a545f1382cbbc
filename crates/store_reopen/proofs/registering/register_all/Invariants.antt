use Rattle.std.proofs.Common.{◌≤◌, [], List, IsTrue, drop, length}
use Rattle.partition_names.specs.declared.granularity.Granularity.{Granularity}
use Rattle.store_manifest.specs.Manifest.{ManifestState}
use Rattle.tier_store.specs.Change.{Has}
use Rattle.tier_store.specs.Stores.{Stores}
use Rattle.store_reopen.specs.Adoption.{GetRows}
use Rattle.store_reopen.specs.Reopen.{ChangesJournals, IsReady, loaded}
use Rattle.store_reopen.specs.Runs.{Goes}
use Rattle.store_reopen.proofs.registering.register_all.Given as goal

abbrev pub invariant-loop-file : goal.invariant-loop-file
invariant-loop-file g l = record {
  goes : IsTrue g.D.Disk.tells → (ms : List ManifestState) → ((held : Stores) × Has g.D.Disk.tells (loaded g.D.Disk l.fn.catalogue ms l.fn.disk) held)
      → Goes g.D.Disk (λ whole. GetRows whole l.fn.catalogue.rows [] l.unlisted) (λ whole. GetRows whole l.catalogue.rows l.long.items (drop l.file-index l.unlisted)) l.fn.catalogue ms l.fn.disk l.catalogue ms l.disk;
  sound : IsTrue l.catalogue.journal.sound;
  more : length l.fn.catalogue.rows ≤ length l.catalogue.rows;
  ready : (gs : List Granularity) (ms : List ManifestState) → IsReady gs l.fn.catalogue ms → IsReady gs l.catalogue ms;
  spares : IsTrue g.D.Disk.tells → ChangesJournals g.D.Disk l.fn.disk l.disk;
  faults : g.D.Disk.faults l.fn.disk ≤ g.D.Disk.faults l.disk;
}
