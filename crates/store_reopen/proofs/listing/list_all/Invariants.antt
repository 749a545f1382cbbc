use Rattle.std.proofs.Common.{◌≤◌, ◌-◌, List, length}
use Rattle.std.specs.Prelude.{IsTrue}
use Rattle.disk_model.specs.Files.{Files}
use Rattle.partition_names.specs.declared.granularity.Granularity.{Granularity}
use Rattle.tier_store.specs.Change.{Has}
use Rattle.tier_store.specs.Stores.{Stores}
use Rattle.store_reopen.specs.Adoption.{TakesTurns}
use Rattle.store_reopen.specs.Listing.{AreTurns, turns_of}
use Rattle.store_reopen.specs.Reopen.{ChangesJournals, IsReady, SameStores, loaded}
use Rattle.store_reopen.specs.Runs.{Goes}
use Rattle.store_reopen.specs.declared.finding.Unlisted.{Unlisted}
use Rattle.store_reopen.proofs.listing.list_all.Given as goal

abbrev pub invariant-loop-turn : goal.invariant-loop-turn
invariant-loop-turn g l = record {
  ready : (gs : List Granularity) → IsReady gs l.catalogue l.fn.manifests.items → IsReady gs l.catalogue l.manifests.items;
  has : IsTrue g.D.Disk.tells → (held : Stores) × Has g.D.Disk.tells (loaded g.D.Disk l.catalogue l.manifests.items l.disk) held;
  goes : IsTrue g.D.Disk.tells → (image : Files) (held : Stores) (unlisted : List Unlisted) → SameStores image (g.D.Disk.files l.fn.disk) → AreTurns held l.catalogue.rows unlisted (turns_of l.turns)
      → Goes g.D.Disk (λ whole. TakesTurns image held l.catalogue.rows unlisted whole 0 (length l.turns)) (λ whole. TakesTurns image held l.catalogue.rows unlisted whole l.turn (length l.turns - l.turn)) l.catalogue l.fn.manifests.items l.fn.disk l.catalogue l.manifests.items l.disk;
  spares : IsTrue g.D.Disk.tells → ChangesJournals g.D.Disk l.fn.disk l.disk;
  faults : g.D.Disk.faults l.fn.disk ≤ g.D.Disk.faults l.disk;
}
