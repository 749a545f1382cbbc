use Rattle.std.proofs.Common.{◌≡◌, ◌≤◌, ℕ, List, [], take, IsTrue}
use Rattle.std.specs.List.{flat_map}
use Rattle.gate_journal.specs.DiskShown.{shown_by, ReadsDisk}
use Rattle.store_manifest.specs.declared.entry.Entry.{Entry}
use Rattle.tier_store.specs.Change.{Has}
use Rattle.tier_store.specs.Counting.{behind}
use Rattle.tier_store.specs.Details.{IsTally}
use Rattle.tier_store.specs.Seen.{seen}
use Rattle.tier_store.specs.Stores.{Stores, overs}
use Rattle.tier_store.specs.Tallying.{RiseFrom, end_of_files, entries_in, listed_count}
use Rattle.tier_store.proofs.store.TierStore.tally_line.Given as goal

abbrev pub invariant-loop-id : goal.invariant-loop-id
invariant-loop-id g l =
    let rows : List ℕ = take l.id-index l.id-items in
    let entries : List Entry = flat_map (λ (k : ℕ). entries_in k l.fn.self.manifests.items) rows in
    record {
      tally : IsTrue g.D.Disk.tells → (held : Stores) → Has g.D.Disk.tells (seen g.D.Disk l.fn.self) held → IsTrue held.stands → IsTally (overs held [] rows) l.tally;
      listed : RiseFrom 0 entries → l.tally.count ≡ listed_count entries;
      ends : behind l.tally.last ≡ end_of_files 0 entries;
      kept : (held : Stores) → Has g.D.Disk.tells (seen g.D.Disk l.fn.self) held → Has g.D.Disk.tells (seen g.D.Disk l.self) held;
      same : (l.self.catalogue ≡ l.fn.self.catalogue) × (l.self.manifests ≡ l.fn.self.manifests) × (l.self.pinned ≡ l.fn.self.pinned) × (l.self.limbo ≡ l.fn.self.limbo);
      reads : IsTrue g.D.Disk.tells → ReadsDisk (shown_by g.D.Disk l.fn.self.disk) (shown_by g.D.Disk l.self.disk);
      faults : g.D.Disk.faults l.fn.self.disk ≤ g.D.Disk.faults l.self.disk;
    }
