use Rattle.std.proofs.Common.{◌≡◌, ◌<◌, ℕ, List, [], ◌∷◌, ◌++◌, length, take, Some, Ok, Err, Result, sym, ◌∙◌, ap, subst, rules}
use Rattle.std.specs.Prelude.{slice_get, slice_set}
use Rattle.std.proofs.lemmas.Option.{same_Some, slice_get_within}
use Rattle.std.proofs.lemmas.Result.{err_from_is_err_and}
use Rattle.disk_model.specs.declared.disk.DiskErr.{DiskErr}
use Rattle.disk_model.specs.declared.disk.DiskErr.TheVariants.{Memory}
use Rattle.pv_catalog.specs.declared.row.Row.{Row}
use Rattle.tier_store.proofs.Frames.{nothing_fronts}
use Rattle.act_model.specs.Machine.{Renames}
use Rattle.archive_core.specs.Acting.{Changed}
use Rattle.archive_core.specs.Ends.{ChangesTo}
use Rattle.archive_core.specs.Leaving.{files_of}
use Rattle.archive_core.specs.Memory.{ClearsRow, RenamesRow, with_row}
use Rattle.intake_half.specs.Memory.{cleared, renamed_memory}
use Rattle.archive_core.specs.Parts.{InMemory, memory_in, parts, parts_beside}
use Rattle.intake_half.specs.declared.memory.RowMemory.{RowMemory}
use Rattle.archive_core.proofs.Acting.{not_called}
use Rattle.archive_core.proofs.Lists.{read_at, read_in}
use Rattle.archive_core.proofs.Registered.{rows_cut_short, can_kept, can_low, old_kept}
use Rattle.archive_core.proofs.archive.Archive.rename_row.Goals.{After-rename_row}
use Rattle.archive_core.proofs.archive.Archive.rename_row.Goals as goal

-- what was kept of it
there : (g : _) (c : After-rename_row g) → slice_get c.args.self.now.rows.items c.args.row ≡ Some c.index.result.now
there g c = read_at c.args.self.now.rows.items c.args.row c.index.result.now c.index.ensures (can_kept g.D.Disk.tells (parts g.D.Disk c.args.self.now) c.requires.rests.0 c.requires.rests.1 c.args.newname.now c.args.row c.requires.can)

-- with the memory of the new row, which was taken before
abbrev taken : (g : _) → After-rename_row g → List RowMemory
taken g c = take (length c.args.self.now.half.store.catalogue.rows) c.args.self.now.rows.items ++ renamed_memory c.requires.can.paused.row.about c.index.result.now.next ∷ []

kept : (g : _) (c : After-rename_row g) → c.add_memory.new.kept.items ≡ taken g c
kept g c =
    let old = c.args.self.now.rows.items in
    let rows = c.rows-rows.ensures.value ∙ ap (λ x. x.rows) c.catalogue.ensures in
    let here = read_in c.args.self.now.half.store.catalogue.rows c.rows-rows.result.now c.args.row c.index-rows-row.result rows c.index-rows-row.is (can_low (parts g.D.Disk c.args.self.now) c.args.newname.now c.args.row c.requires.can) in
    let same : c.index-rows-row.result ≡ c.requires.can.paused.row = same_Some c.index-rows-row.result c.requires.can.paused.row (sym here ∙ c.requires.can.paused.here) in
    c.in_ok-add_memory.ensures.ok
    ∙ (ap (λ (w : Row). take (length c.rows-rows.result.now) old ++ renamed_memory w.about c.index.result.now.next ∷ []) (sym c.index-rows-row.is ∙ same)
    ∙ ap (λ (rs : List Row). take (length rs) old ++ renamed_memory c.requires.can.paused.row.about c.index.result.now.next ∷ []) rows)

pub index-requires : goal.index-requires
index-requires g c = let low = can_kept g.D.Disk.tells (parts g.D.Disk c.args.self.now) c.requires.rests.0 c.requires.rests.1 c.args.newname.now c.args.row c.requires.can in search rules

pub bounds-rows-row : goal.bounds-rows-row
bounds-rows-row g c = subst (λ (rs : List Row). c.args.row < length rs) (sym (c.rows-rows.ensures.value ∙ ap (λ x. x.rows) c.catalogue.ensures)) (can_low (parts g.D.Disk c.args.self.now) c.args.newname.now c.args.row c.requires.can)

pub returns-in_err-add_memory-clause-changed : goal.returns-in_err-add_memory-clause-changed
returns-in_err-add_memory-clause-changed g c =
    let p = parts g.D.Disk c.args.self.now in
    let old = c.args.self.now.rows.items in
    let change = Renames c.args.row c.args.newname.now in
    let rows = c.rows-rows.ensures.value ∙ ap (λ x. x.rows) c.catalogue.ensures in
    let left = c.in_err-add_memory.ensures.err ∙ ap (λ (rs : List Row). take (length rs) old) rows in
    let end = err_from_is_err_and c.from_residual.result c.from_residual.ensures.1 in
    subst (λ (x : Result ℕ DiskErr). Changed g.D.Disk.tells change p (record p { kept = c.add_memory.new.kept.items }) x) (sym (end.1 ∙ ap (λ (d : DiskErr). Err d) end.2)) (record {
      changes = λ m r. subst (λ (k : List RowMemory). ChangesTo {A = ℕ} g.D.Disk.tells change p m (record p { kept = k }) (Err Memory)) (sym left) (not_called g.D.Disk.tells change p m r (take (length p.at.catalogue.rows) old) (rows_cut_short p.at.catalogue.rows old p.tails m.rows r.stands.rows));
      fronts = nothing_fronts g.D.Disk.tells (files_of p);
      tidy = tt;
    })

pub rename_row-requires : goal.rename_row-requires
rename_row-requires g c = let was = c.requires.rests in record { rests = (memory_in c.args.self.now, was.0, c.requires.can, was.1) }

-- so it is by any that stands for the old row and what was kept of it
added : (g : _) (c : After-rename_row g) (r : Row) (memory : RowMemory) → slice_get c.args.self.now.half.store.catalogue.rows c.args.row ≡ Some r → slice_get c.args.self.now.rows.items c.args.row ≡ Some memory
    → c.add_memory.new.kept.items ≡ (with_row c.args.self.now.half.store.catalogue.rows r.about memory.next (memory_in c.args.self.now)).kept
added g c r memory here at =
    let first : List RowMemory = take (length c.args.self.now.half.store.catalogue.rows) c.args.self.now.rows.items in
    let same_row = same_Some c.requires.can.paused.row r (sym c.requires.can.paused.here ∙ here) in
    kept g c ∙ (ap (λ (x : Row). first ++ renamed_memory x.about c.index.result.now.next ∷ []) same_row ∙ ap (λ (x : RowMemory). first ++ renamed_memory r.about x.next ∷ []) (same_Some c.index.result.now memory (sym (there g c) ∙ at)))

-- where it isn't done, that is all
pub returns-in_err-id-clause-changed : goal.returns-in_err-id-clause-changed
returns-in_err-id-clause-changed g c =
    let a = (goal.at.returns-in_err-id-clause-changed g c).After-rename_row in
    let e = err_from_is_err_and c.from_residual-in_err-id.result c.from_residual-in_err-id.ensures.1 in
    let w = memory_in c.args.self.now in
    let after : InMemory = record w { kept = c.add_memory.new.kept.items } in
    let rows = c.args.self.now.half.store.catalogue.rows in
    let Changes : Result ℕ DiskErr → Type 0 = Changed g.D.Disk.tells (Renames c.args.row c.args.newname.now) (parts g.D.Disk c.args.self.now) (parts_beside g.D.Disk c.rename_row.new.self after) in
    subst Changes (sym (e.1 ∙ ap (λ (d : DiskErr). Err d) e.2))
    (subst (λ (x : Result ℕ DiskErr). RenamesRow rows c.args.row w after x → Changes x) c.in_err-id.was (c.rename_row.ensures.changed w after c.requires.can)
    (λ r memory here at. ap (λ (k : List RowMemory). let x : InMemory = record w { kept = k } in x) (added g a r memory here at)))

-- what was kept of the old row is there still
still : (g : _) (c : After-rename_row g) → slice_get c.add_memory.new.kept.items c.args.row ≡ Some c.index.result.now
still g c = let was = c.requires.rests in ap (λ (k : List RowMemory). slice_get k c.args.row) (kept g c) ∙ old_kept g.D.Disk.tells (parts g.D.Disk c.args.self.now) was.0 was.1 c.args.row c.args.newname.now c.requires.can c.index.result.now (there g c)

pub index_mut-requires : goal.index_mut-requires
index_mut-requires g c = let low = slice_get_within c.add_memory.new.kept.items c.args.row c.index.result.now (still g (goal.at.index_mut-requires g c).After-rename_row) in search rules

pub returns-clause-changed : goal.returns-clause-changed
returns-clause-changed g c =
    let a = (goal.at.returns-clause-changed g c).After-rename_row in
    let w = memory_in c.args.self.now in
    let rows = c.args.self.now.half.store.catalogue.rows in
    let more = c.add_memory.new.kept.items in
    let after : InMemory = record w { kept = slice_set more c.args.row c.clear.new.memory } in
    let own = read_at more c.args.row c.index_mut.result.now c.index_mut.ensures.value (slice_get_within more c.args.row c.index.result.now (still g a)) in
    let clears : ClearsRow {A = ℕ} c.args.row (record w { kept = more }) after (Ok c.in_ok-id.id) =
    λ old at. ap (λ (x : RowMemory). let kept_so : InMemory = record w { kept = slice_set more c.args.row x } in kept_so) (c.clear.ensures ∙ ap cleared (same_Some c.index_mut.result.now old (sym own ∙ at))) in
    let renames : RenamesRow {A = ℕ} rows c.args.row w after (Ok c.in_ok-id.id) = λ r memory here at. subst (λ (k : List RowMemory). ClearsRow {A = ℕ} c.args.row (record w { kept = k }) after (Ok c.in_ok-id.id)) (added g a r memory here at) clears in
    subst (λ (x : Result ℕ DiskErr). RenamesRow rows c.args.row w after x → Changed g.D.Disk.tells (Renames c.args.row c.args.newname.now) (parts g.D.Disk c.args.self.now) (parts_beside g.D.Disk c.rename_row.new.self after) x) c.in_ok-id.was (c.rename_row.ensures.changed w after c.requires.can) renames
