use Rattle.std.proofs.Common.{◌≡◌, ◌<◌, List, Err, length, take, refl, sym, ◌∙◌, ap, subst}
use Rattle.std.proofs.lemmas.List.Elements.{All-contains}
use Rattle.std.proofs.lemmas.Result.{err_from_is_err_and}
use Rattle.disk_model.specs.Files.{HasFile, Name}
use Rattle.disk_model.specs.declared.disk.DiskErr.{DiskErr}
use Rattle.gate_journal.specs.DiskShown.{shown_by}
use Rattle.pb_lines.specs.File.{IsFile}
use Rattle.pv_catalog.specs.declared.row.Row.{Row}
use Rattle.store_manifest.specs.declared.entry.Entry.{Entry}
use Rattle.durable_write.specs.Ends.{IsFailed, end_of_disk}
use Rattle.durable_write.specs.Held.{IsFiled, file_of}
use Rattle.tier_store.specs.Copying.{OnlyLooks}
use Rattle.tier_store.specs.Pinned.{beside, seen_all}
use Rattle.tier_store.specs.Seen.{seen_by}
use Rattle.tier_store.specs.Stores.{list_at}
use Rattle.tier_store.proofs.OnePlace.{only_reads}
use Rattle.tier_store.proofs.CopySteps.{looks_ends, looks_err, looks_none}
use Rattle.tier_store.proofs.RunningMoves.{read_leaves}
use Rattle.tier_store.proofs.ReadCalls.{has_read}
use Rattle.tier_store.proofs.Showing.{read_shown}
use Rattle.tier_store.proofs.Places.{row_listed, listed_file, file_there, front_there}
use Rattle.tier_store.specs.Finding.{SaysFile}
use Rattle.tier_store.proofs.store.TierStore.find_later.Goals.{After-find_next}
use Rattle.tier_store.proofs.store.TierStore.find_later.Goals as goal

pub file_name-requires : goal.file_name-requires
file_name-requires g c = subst (λ (rs : List Row). c.args.entry.now.series < length rs) (sym c.rows.ensures.value) (row_listed g.D.Disk.tells _ c.requires.has.0 c.args.store c.args.entry.now c.requires.has.1 c.requires.listed)

pub find_next-requires : goal.find_next-requires
find_next-requires g c =
    let self = c.args.self.now in
    let was = c.requires.has in
    let named : c.in_ok-name.name ≡ file_of (c.args.store, self.catalogue.rows) c.args.entry.now = c.in_ok-name.ensures ∙ ap (λ (r : List Row). file_of (c.args.store, r) c.args.entry.now) c.rows.ensures.value in
    record { there = λ tells. file_there g.D.Disk.tells _ was.0 c.args.store c.args.entry.now c.in_ok-name.name (listed_file g.D.Disk.tells _ was.0 c.args.store c.args.entry.now c.in_ok-name.name was.1 c.requires.listed named) was.1 tells }

pub returns-clause-found : goal.returns-clause-found
returns-clause-found g c tells held stands was =
    let self = c.args.self.now in
    let e = c.args.entry.now in
    let named : c.in_ok-name.name ≡ file_of (c.args.store, self.catalogue.rows) e = c.in_ok-name.ensures ∙ ap (λ (r : List Row). file_of (c.args.store, r) e) c.rows.ensures.value in
    let l = listed_file g.D.Disk.tells _ held c.args.store e c.in_ok-name.name was c.requires.listed named in
    let there = file_there g.D.Disk.tells _ held c.args.store e c.in_ok-name.name l was tells in
    let front = front_there g.D.Disk.tells _ held c.args.store e c.in_ok-name.name l there.bytes was tells stands (g.met.D.Disk.seen self.disk tells) there.file in
    let filed = All-contains (IsFiled l.manifest.granularity held.rows) (list_at l.place held) l.file ((was.known.each l.place l.manifest l.here).valid.filed.filed stands) l.listed in
    let file : IsFile _ l.file.head filed.info l.file.samples = subst (λ (b : List _). IsFile b l.file.head filed.info l.file.samples) (sym front) filed.file in
    (l.place, l.is, l.file, l.listed, l.entry, c.in_ok-later.ensures.next tells l.file.head filed.info l.file.samples (record { bytes = there.bytes; file = there.file; holds = file }) (ap (λ (x : Entry). x.head_len) (sym l.entry) ∙ filed.head_len))

-- the file was read alone
looked : (g : _) (c : After-find_next g) → OnlyLooks g.D.Disk.tells (seen_all g.D.Disk c.args.self.now) (beside (seen_by g.D.Disk c.args.self.now.catalogue c.args.self.now.manifests.items c.find_next.new.disk) c.args.self.now.limbo.items) (end_of_disk c.find_next.result)
looked g c =
    let disk = g.D.Disk in
    let self = c.args.self.now in
    let says = c.find_next.ensures in
    record {
      kept = has_read (shown_by disk) disk.faults disk.tells self.catalogue self.manifests.items self.disk c.find_next.new.disk says.reads;
      catalogue = refl;
      manifests = refl;
      limbo = refl;
      shown = read_shown (shown_by disk) disk.faults disk.tells self.catalogue self.manifests.items self.limbo.items self.disk c.find_next.new.disk (λ tells. (says.reads tells).same);
      leaves = read_leaves disk.tells _ _ refl (λ tells. (says.reads tells).same) (λ tells. (says.reads tells).same_opened) (λ tells. (says.reads tells).any_moment);
      opened = λ tells. (says.reads tells).same_opened;
      reads = only_reads disk.tells _ _ c.find_next.result (λ tells. (says.reads tells).same) (λ tells. (says.reads tells).any_moment) says.faults says.cause;
    }

pub returns-in_err-name-clause-looks : goal.returns-in_err-name-clause-looks
returns-in_err-name-clause-looks g c =
    let p = err_from_is_err_and c.from_residual.result c.from_residual.ensures.1 in
    looks_none g.D.Disk.tells _ (end_of_disk c.from_residual.result) (λ failed. subst (λ r. IsFailed (end_of_disk r)) (p.1 ∙ ap (λ (x : DiskErr). Err x) p.2) failed)

pub returns-in_err-later-clause-looks : goal.returns-in_err-later-clause-looks
returns-in_err-later-clause-looks g c =
    let p = err_from_is_err_and c.from_residual-in_err-later.result c.from_residual-in_err-later.ensures.1 in
    looks_err g.D.Disk.tells _ _ c.find_next.result c.from_residual-in_err-later.result _ (c.in_err-later.was ∙ ap (λ (x : DiskErr). Err x) (sym p.2)) p.1 (looked g (goal.at.returns-in_err-later-clause-looks g c).After-find_next)

pub returns-clause-looks : goal.returns-clause-looks
returns-clause-looks g c = looks_ends g.D.Disk.tells _ _ _ _ (λ failed. failed) (looked g (goal.at.returns-clause-looks g c).After-find_next)

pub returns-clause-told : goal.returns-clause-told
returns-clause-told g c tells =
    let e = c.args.entry.now in
    let named : c.in_ok-name.name ≡ file_of (c.args.store, c.args.self.now.catalogue.rows) e = c.in_ok-name.ensures ∙ ap (λ (r : List Row). file_of (c.args.store, r) e) c.rows.ensures.value in
    subst (λ (n : Name). HasFile (g.D.Disk.files c.args.self.now.disk) n (λ b. SaysFile e.head_len (take e.len b) c.in_ok-later.later)) named (c.in_ok-later.ensures.told tells)
