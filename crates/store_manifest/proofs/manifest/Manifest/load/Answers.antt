use Rattle.std.proofs.Common.{rules, ◌≡◌, List, refl, sym, subst}
use Rattle.disk_model.specs.Files.{Name}
use Rattle.gate_journal.specs.Generations.{HasBatchesOf}
use Rattle.gate_journal.specs.DiskShown.{shown_by}
use Rattle.partition_names.specs.declared.granularity.Granularity.{Granularity}
use Rattle.store_manifest.specs.declared.entry.Entry.{Entry}
use Rattle.gate_journal.proofs.Results.{if_ok}
use Rattle.store_manifest.specs.Batches.{Configured}
use Rattle.store_manifest.specs.Listing.{entries_of}
use Rattle.store_manifest.proofs.Committing.{load_leaves, load_means, load_kept, begun_leaves, nothing_folded, good_folded}
use Rattle.store_manifest.proofs.Meaning.{configured_folds}
use Rattle.store_manifest.proofs.Order.{configured_entries}
use Rattle.store_manifest.proofs.manifest.Manifest.load.Goals as goal

pub returns-in_err-journal-clause-leaves : goal.returns-in_err-journal-clause-leaves
returns-in_err-journal-clause-leaves g c tells =
    load_leaves c.args.g _ _ c.in_ok-name.ensures (shown_by g.D.Disk c.args.disk.now) (shown_by g.D.Disk c.load_into.new.disk) (c.load_into.ensures.leaves tells)

pub returns-in-Good-clause-leaves : goal.returns-in-Good-clause-leaves
returns-in-Good-clause-leaves g c tells =
    load_leaves c.args.g _ _ c.in_ok-name.ensures (shown_by g.D.Disk c.args.disk.now) (shown_by g.D.Disk c.load_into.new.disk) (c.load_into.ensures.leaves tells)

pub returns-clause-leaves : goal.returns-clause-leaves
returns-clause-leaves g c tells =
    load_leaves c.args.g _ _ c.in_ok-name.ensures (shown_by g.D.Disk c.args.disk.now) (shown_by g.D.Disk c.load_into.new.disk) (c.load_into.ensures.leaves tells)

pub returns-in_err-manifest-in-Nothing-clause-leaves : goal.returns-in_err-manifest-in-Nothing-clause-leaves
returns-in_err-manifest-in-Nothing-clause-leaves g c tells =
    let took = c.in_ok-journal.ensures.took in
    let made = c.configure.ensures in
    begun_leaves c.args.g _ _ c.in_ok-name.ensures c.in_ok-journal.journal c.in_ok-journal.ensures.journal.0 (shown_by g.D.Disk c.load_into.new.disk) took.0 (nothing_folded took.0 _ c.in-Nothing.is took.1) (took.2 tells).1
    (shown_by g.D.Disk c.args.disk.now) (shown_by g.D.Disk c.configure.new.disk) (c.load_into.ensures.leaves tells) (took.2 tells).0 (made.any_moment tells) (g.met.D.Disk.seen c.configure.new.disk tells) (made.elsewhere tells) (made.opened tells)

pub returns-in-Nothing-clause-leaves : goal.returns-in-Nothing-clause-leaves
returns-in-Nothing-clause-leaves g c tells =
    let took = c.in_ok-journal.ensures.took in
    let made = c.configure.ensures in
    begun_leaves c.args.g _ _ c.in_ok-name.ensures c.in_ok-journal.journal c.in_ok-journal.ensures.journal.0 (shown_by g.D.Disk c.load_into.new.disk) took.0 (nothing_folded took.0 _ c.in-Nothing.is took.1) (took.2 tells).1
    (shown_by g.D.Disk c.args.disk.now) (shown_by g.D.Disk c.configure.new.disk) (c.load_into.ensures.leaves tells) (took.2 tells).0 (made.any_moment tells) (g.met.D.Disk.seen c.configure.new.disk tells) (made.elsewhere tells) (made.opened tells)

pub returns-in-Good-clause-loaded : goal.returns-in-Good-clause-loaded
returns-in-Good-clause-loaded g c =
    let took = c.in_ok-journal.ensures.took in
    let folded = good_folded took.0 _ c.in-Good.kept c.in-Good.lists c.in-Good.is took.1 in
    if_ok c.opened.result (λ m good.
    let P : Granularity → Type 0 = λ k. Configured k took.0 (entries_of c.in-Good.lists.listed.entries) in
    let Q : List Entry → Type 0 = λ l. Configured c.args.g took.0 l in
    let granularity : c.in-Good.kept ≡ c.args.g = cc good.2 in
    let entries : m.entries ≡ entries_of c.in-Good.lists.listed.entries = rw c.in-Good.is at good.3 in
    record {
      kept = λ tells. load_kept m c.args.g c.in-Good.kept c.in_ok-journal.journal (shown_by g.D.Disk c.load_into.new.disk) took.0 (entries_of c.in-Good.lists.listed.entries) good.0 good.1 granularity entries (took.2 tells).1 folded.1;
      entries = λ tells.
          let N : Name → Type 0 = λ n. HasBatchesOf n (g.D.Disk.files c.args.disk.now) took.0 in
          record {
            batches = took.0;
            has = subst N c.in_ok-name.ensures (took.2 tells).0;
            means = configured_folds c.args.g took.0 m.entries (load_means c.args.g c.in-Good.kept c.args.g took.0 (entries_of c.in-Good.lists.listed.entries) m.entries granularity refl entries folded.1);
          };
      are = configured_entries c.args.g took.0 m.entries (subst Q (sym entries) (subst P granularity folded.1));
      manifest = search rules;
    }) c.opened.ensures.good
