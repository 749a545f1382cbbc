use Rattle.std.proofs.Common.{◌≡◌, ◌<◌, ◌++◌, ℕ, List, length, refl, sym, ◌∙◌, ap, subst, arith}
use Rattle.std.specs.Prelude.{All, IfOk, slice_get}
use Rattle.pv_catalog.specs.declared.row.Row.{Row}
use Rattle.series_model.specs.Series.{over}
use Rattle.series_model.specs.declared.sample.Sample.{Sample}
use Rattle.gate_journal.specs.DiskShown.{shown_by}
use Rattle.store_manifest.specs.Manifest.{ManifestState}
use Rattle.store_manifest.specs.declared.entry.Entry.{Entry}
use Rattle.durable_write.specs.Held.{Shelf, samples_of}
use Rattle.durable_write.specs.Plan.{of_row}
use Rattle.tier_store.specs.Details.{IsLong, IsTally}
use Rattle.tier_store.specs.Pinning.{entries_of}
use Rattle.tier_store.specs.Seen.{seen_on}
use Rattle.tier_store.specs.Counting.{behind}
use Rattle.tier_store.specs.Tallying.{Adds, end_of_files}
use Rattle.tier_store.proofs.Tallies.{adds_both, ends_both, ok_weaker, own_rows, own_long, own_files, own_whole, over_three}
use Rattle.tier_store.proofs.store.TierStore.tally_row.Goals as goal
use Rattle.tier_store.proofs.store.TierStore.tally_row.Goals.{After-add_files-3}

-- what each store lists of the row
listed : (g : _) (c : After-add_files-3 g) → (c.own_entries-long.result.now ≡ entries_of c.args.row (slice_get c.args.self.now.manifests.items 2)) × (c.own_entries-medium.result.now ≡ entries_of c.args.row (slice_get c.args.self.now.manifests.items 1))
    × (c.own_entries-short.result.now ≡ entries_of c.args.row (slice_get c.args.self.now.manifests.items 0))
listed g c =
    let row = c.args.row in (
      c.own_entries-long.ensures ∙ ap (λ (ms : List ManifestState). entries_of row (slice_get ms 2)) c.deref.ensures.value,
      c.own_entries-medium.ensures ∙ ap (λ (ms : List ManifestState). entries_of row (slice_get ms 1)) c.deref-2.ensures.value,
      c.own_entries-short.ensures ∙ ap (λ (ms : List ManifestState). entries_of row (slice_get ms 0)) c.deref-3.ensures.value,
    )

pub add_files-requires-clause-rows : goal.add_files-requires-clause-rows
add_files-requires-clause-rows g c =
    let rows = c.rows-rows.result.now in
    let low : c.args.row < length rows = subst (λ (rs : List Row). c.args.row < length rs) (sym c.rows-rows.ensures.value) c.requires.row in
    subst (All (λ (e : Entry). e.series < length rows)) (sym c.own_entries-long.ensures) (own_rows c.deref.result.now 2 c.args.row (length rows) low)

pub add_files-requires-2-clause-rows : goal.add_files-requires-2-clause-rows
add_files-requires-2-clause-rows g c =
    let rows = c.rows-rows.result.now in
    let low : c.args.row < length rows = subst (λ (rs : List Row). c.args.row < length rs) (sym c.rows-rows.ensures.value) c.requires.row in
    subst (All (λ (e : Entry). e.series < length rows)) (sym c.own_entries-medium.ensures) (own_rows c.deref-2.result.now 1 c.args.row (length rows) low)

pub add_files-requires-3-clause-rows : goal.add_files-requires-3-clause-rows
add_files-requires-3-clause-rows g c =
    let rows = c.rows-rows.result.now in
    let low : c.args.row < length rows = subst (λ (rs : List Row). c.args.row < length rs) (sym c.rows-rows.ensures.value) c.requires.row in
    subst (All (λ (e : Entry). e.series < length rows)) (sym c.own_entries-short.ensures) (own_rows c.deref-3.result.now 0 c.args.row (length rows) low)

pub add_files-requires-clause-there : goal.add_files-requires-clause-there
add_files-requires-clause-there g c told =
    let self = c.args.self.now in
    let disk = g.D.Disk in
    let at = seen_on (shown_by disk) disk.faults self.catalogue self.manifests.items self.disk in
    let rows = c.rows-rows.result.now in
    let shelf : Shelf = (3, rows) in
    let entries = c.own_entries-long.ensures ∙ ap (λ (ms : List ManifestState). entries_of c.args.row (slice_get ms 2)) c.deref.ensures.value in
    subst (All (IsLong (disk.files self.disk) shelf)) (sym entries) (own_long disk.tells at c.requires.has.0 c.requires.has.1 2 c.args.row (omega arith) told (disk.files self.disk) rows refl c.rows-rows.ensures.value)

pub add_files-requires-2-clause-there : goal.add_files-requires-2-clause-there
add_files-requires-2-clause-there g c told =
    let self = c.args.self.now in
    let disk = g.D.Disk in
    let at = seen_on (shown_by disk) disk.faults self.catalogue self.manifests.items self.disk in
    let rows = c.rows-rows.result.now in
    let shelf : Shelf = (2, rows) in
    let later = disk.files c.add_files.new.disk in
    let entries = c.own_entries-medium.ensures ∙ ap (λ (ms : List ManifestState). entries_of c.args.row (slice_get ms 1)) c.deref-2.ensures.value in
    subst (All (IsLong later shelf)) (sym entries) (own_long disk.tells at c.requires.has.0 c.requires.has.1 1 c.args.row (omega arith) told later rows (c.in_ok-tally.ensures.reads told).same c.rows-rows.ensures.value)

pub add_files-requires-3-clause-there : goal.add_files-requires-3-clause-there
add_files-requires-3-clause-there g c told =
    let self = c.args.self.now in
    let disk = g.D.Disk in
    let at = seen_on (shown_by disk) disk.faults self.catalogue self.manifests.items self.disk in
    let rows = c.rows-rows.result.now in
    let shelf : Shelf = (1, rows) in
    let later = disk.files c.add_files-2.new.disk in
    let same : later ≡ disk.files self.disk = (c.in_ok-tally-2.ensures.reads told).same ∙ (c.in_ok-tally.ensures.reads told).same in
    let entries = c.own_entries-short.ensures ∙ ap (λ (ms : List ManifestState). entries_of c.args.row (slice_get ms 0)) c.deref-3.ensures.value in
    subst (All (IsLong later shelf)) (sym entries) (own_long disk.tells at c.requires.has.0 c.requires.has.1 0 c.args.row (omega arith) told later rows same c.rows-rows.ensures.value)

pub returns-clause-tally : goal.returns-clause-tally
returns-clause-tally g c told held samples has stands was =
    let self = c.args.self.now in
    let disk = g.D.Disk in
    let row = c.args.row in
    let at = seen_on (shown_by disk) disk.faults self.catalogue self.manifests.items self.disk in
    let rows = c.rows-rows.result.now in
    let are_rows = c.rows-rows.ensures.value in
    let seen = g.met.D.Disk.seen self.disk told in
    let mid = (c.in_ok-tally.ensures.reads told).same in
    let last : disk.files c.add_files-2.new.disk ≡ disk.files self.disk = (c.in_ok-tally-2.ensures.reads told).same ∙ mid in
    let long = own_whole disk.tells at held has 2 row (omega arith) told stands seen (disk.files self.disk) rows refl are_rows in
    let medium = own_whole disk.tells at held has 1 row (omega arith) told stands seen (disk.files c.add_files.new.disk) rows mid are_rows in
    let short = own_whole disk.tells at held has 0 row (omega arith) told stands seen (disk.files c.add_files-2.new.disk) rows last are_rows in
    let entries = listed g c in
    let files = λ (k : ℕ) (low : k < 3). own_files disk.tells at held has k row low in
    let a = samples_of row held.long in
    let b = samples_of row held.medium in
    let d = samples_of row held.short in
    let first = c.in_ok-tally.ensures.tally told long.granularity (of_row row held.long) samples (entries.0 ∙ files 2 (omega arith)) long.whole long.rises was in
    let second = c.in_ok-tally-2.ensures.tally told medium.granularity (of_row row held.medium) (over samples a) (entries.1 ∙ files 1 (omega arith)) medium.whole medium.rises first in
    let third = c.add_files-3.ensures.tally told short.granularity (of_row row held.short) (over (over samples a) b) (entries.2 ∙ files 0 (omega arith)) short.whole short.rises second in
    subst (λ (l : List Sample). IfOk c.add_files-3.result (IsTally l)) (over_three samples a b d long.rises medium.rises) third

pub returns-clause-listed : goal.returns-clause-listed
returns-clause-listed g c =
    let ms = c.args.self.now.manifests.items in
    let row = c.args.row in
    let are = listed g c in
    let a = entries_of row (slice_get ms 2) in
    let b = entries_of row (slice_get ms 1) in
    let d = entries_of row (slice_get ms 0) in
    let one = c.in_ok-tally.tally in
    let two = c.in_ok-tally-2.tally in
    ok_weaker _ _ c.add_files-3.result
    (λ t more. adds_both c.args.tally two t (a ++ b) d
    (adds_both c.args.tally one two a b (subst (λ (es : List Entry). Adds c.args.tally es one) are.0 c.in_ok-tally.ensures.listed) (subst (λ (es : List Entry). Adds one es two) are.1 c.in_ok-tally-2.ensures.listed))
    (subst (λ (es : List Entry). Adds two es t) are.2 more))
    c.add_files-3.ensures.listed

pub returns-clause-ends : goal.returns-clause-ends
returns-clause-ends g c =
    let ms = c.args.self.now.manifests.items in
    let row = c.args.row in
    let are = listed g c in
    let a = entries_of row (slice_get ms 2) in
    let b = entries_of row (slice_get ms 1) in
    let d = entries_of row (slice_get ms 0) in
    let n = behind c.args.tally.last in
    let one = behind c.in_ok-tally.tally.last in
    let two = behind c.in_ok-tally-2.tally.last in
    ok_weaker _ _ c.add_files-3.result
    (λ t more. ends_both n two (behind t.last) (a ++ b) d
    (ends_both n one two a b (subst (λ (es : List Entry). one ≡ end_of_files n es) are.0 c.in_ok-tally.ensures.ends) (subst (λ (es : List Entry). two ≡ end_of_files one es) are.1 c.in_ok-tally-2.ensures.ends))
    (subst (λ (es : List Entry). behind t.last ≡ end_of_files two es) are.2 more))
    c.add_files-3.ensures.ends
