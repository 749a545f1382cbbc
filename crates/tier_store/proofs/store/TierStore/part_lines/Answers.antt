use Rattle.std.proofs.Common.{◌≡◌, ◌<◌, ◌+◌, ℕ, List, Err, length, refl, sym, ◌∙◌, ap, subst, arith}
use Rattle.std.specs.Prelude.{Contains}
use Rattle.std.proofs.lemmas.Result.{err_from_is_err_and}
use Rattle.disk_model.specs.Files.{Files}
use Rattle.disk_model.specs.declared.disk.DiskErr.{DiskErr}
use Rattle.pv_catalog.specs.declared.row.Row.{Row}
use Rattle.durable_write.specs.Ends.{IsFailed, end_of_disk}
use Rattle.durable_write.specs.Held.{Filed, file_of}
use Rattle.tier_store.specs.Finding.{IsNext}
use Rattle.tier_store.specs.Reviving.{reviving}
use Rattle.tier_store.specs.Stores.{list_at}
use Rattle.tier_store.proofs.CopySteps.{looks_ends, looks_err, looks_none}
use Rattle.tier_store.proofs.CopyParts.{lists_it, next_found, next_never, part_finds}
use Rattle.tier_store.proofs.Places.{row_listed}
use Rattle.tier_store.proofs.store.TierStore.part_lines.Goals as goal

pub manifest-requires-clause-last : goal.manifest-requires-clause-last
manifest-requires-clause-last g c = let three = c.requires.runs.3.known.three in omega (arith, three, c.requires.within)

pub unreachable-requires : goal.unreachable-requires
unreachable-requires g c =
    let runs = c.requires.runs in
    next_never g.D.Disk.tells _ c.args.place (reviving c.args.moving.now runs.0) runs.1 runs.2 runs.3 runs.4 c.manifest.result.now (c.manifest.ensures c.args.place refl) c.next_entry.result c.next_entry.ensures c.in_default.is

pub file_name-requires : goal.file_name-requires
file_name-requires g c =
    let runs = c.requires.runs in
    let q = next_found g.D.Disk.tells _ c.args.place (reviving c.args.moving.now runs.0) runs.1 runs.2 runs.3 runs.4 c.manifest.result.now (c.manifest.ensures c.args.place refl) c.next_entry.result c.next_entry.ensures c.in-Some.entry c.in-Some.is in
    subst (λ (rs : List Row). c.in-Some.entry.series < length rs) (sym c.rows.ensures.value) (row_listed g.D.Disk.tells _ runs.2 (c.args.place + 1) c.in-Some.entry runs.3 (lists_it g.D.Disk.tells _ c.args.place (reviving c.args.moving.now runs.0) runs.1 runs.2 runs.3 runs.4 q.0 q.1 c.in-Some.entry q.2))

pub find_later-requires-clause-listed : goal.find_later-requires-clause-listed
find_later-requires-clause-listed g c =
    let runs = c.requires.runs in
    let q = next_found g.D.Disk.tells _ c.args.place (reviving c.args.moving.now runs.0) runs.1 runs.2 runs.3 runs.4 c.manifest.result.now (c.manifest.ensures c.args.place refl) c.next_entry.result c.next_entry.ensures c.in-Some.entry c.in-Some.is in
    lists_it g.D.Disk.tells _ c.args.place (reviving c.args.moving.now runs.0) runs.1 runs.2 runs.3 runs.4 q.0 q.1 c.in-Some.entry q.2

pub find_later-requires-clause-has : goal.find_later-requires-clause-has
find_later-requires-clause-has g c = let runs = c.requires.runs in (runs.2, runs.3)

pub returns-clause-finds : goal.returns-clause-finds
returns-clause-finds g c revived files held after has is =
    let q = next_found g.D.Disk.tells _ c.args.place (reviving c.args.moving.now revived) files held has is c.manifest.result.now (c.manifest.ensures c.args.place refl) c.next_entry.result c.next_entry.ensures c.in-Some.entry c.in-Some.is in
    let own : c.in_ok-name.name ≡ file_of (c.args.place + 1, c.args.self.now.catalogue.rows) c.in-Some.entry = c.in_ok-name.ensures ∙ ap (λ (r : List Row). file_of (c.args.place + 1, r) c.in-Some.entry) c.rows.ensures.value in
    let named : c.in_ok-name.name ≡ file_of (c.args.place + 1, held.rows) c.in-Some.entry = own ∙ ap (λ (r : List Row). file_of (c.args.place + 1, r) c.in-Some.entry) has.known.rows in
    part_finds g.D.Disk.tells _ c.args.place (reviving c.args.moving.now revived) files held has is q.0 q.1 c.in_ok-name.name c.in-Some.entry.len c.in_ok-later.later c.in-Some.entry q.2 named refl c.in_ok-later.ensures.behind c.in_ok-later.ensures.within
    (λ stands.
    subst (λ (k : ℕ). (i : ℕ) × (c.args.place + 1 ≡ i + 1) × (f : Filed) × Contains (list_at i held) f × (f.entry ≡ c.in-Some.entry) × IsNext f.samples k c.in-Some.entry.head_len c.in_ok-later.later) after
    (c.in_ok-later.ensures.found (is.told stands) held stands has))
    (g.D.Disk.files c.find_later.new.self.disk) (λ tell.
    let told = c.in_ok-later.ensures.told tell in
    record { bytes = told.bytes; file = ap (λ (f : Files). f c.in_ok-name.name) (c.in_ok-later.ensures.looks.reads.files tell) ∙ (ap (g.D.Disk.files c.args.self.now.disk) own ∙ told.file); holds = told.holds })

pub returns-in_err-name-clause-looks : goal.returns-in_err-name-clause-looks
returns-in_err-name-clause-looks g c =
    let p = err_from_is_err_and c.from_residual.result c.from_residual.ensures.1 in
    looks_none g.D.Disk.tells _ (end_of_disk c.from_residual.result) (λ failed. subst (λ r. IsFailed (end_of_disk r)) (p.1 ∙ ap (λ (x : DiskErr). Err x) p.2) failed)

pub returns-clause-looks : goal.returns-clause-looks
returns-clause-looks g c = looks_ends g.D.Disk.tells _ _ _ _ (λ failed. failed) c.in_ok-later.ensures.looks

pub returns-in_err-later-clause-looks : goal.returns-in_err-later-clause-looks
returns-in_err-later-clause-looks g c =
    let p = err_from_is_err_and c.from_residual-in_err-later.result c.from_residual-in_err-later.ensures.1 in
    looks_err g.D.Disk.tells _ _ c.find_later.result c.from_residual-in_err-later.result _ (c.in_err-later.was ∙ ap (λ (x : DiskErr). Err x) (sym p.2)) p.1 c.find_later.ensures.looks
