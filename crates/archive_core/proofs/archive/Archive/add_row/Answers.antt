use Rattle.std.proofs.Common.{◌≡◌, ℕ, List, [], ◌∷◌, ◌++◌, length, take, Err, Result, sym, ◌∙◌, ap, subst}
use Rattle.std.proofs.lemmas.Result.{err_from_is_err_and}
use Rattle.disk_model.specs.declared.disk.DiskErr.{DiskErr}
use Rattle.disk_model.specs.declared.disk.DiskErr.TheVariants.{Memory}
use Rattle.pv_catalog.specs.declared.row.Row.{Row}
use Rattle.tier_store.proofs.Frames.{nothing_fronts}
use Rattle.act_model.specs.Machine.{AddsRow}
use Rattle.archive_core.specs.Acting.{Changed}
use Rattle.archive_core.specs.Ends.{ChangesTo}
use Rattle.archive_core.specs.Leaving.{files_of}
use Rattle.intake_half.specs.Memory.{renamed_memory}
use Rattle.archive_core.specs.Parts.{InMemory, memory_in, parts, parts_beside}
use Rattle.intake_half.specs.declared.memory.RowMemory.{RowMemory}
use Rattle.archive_core.proofs.Acting.{not_called}
use Rattle.archive_core.proofs.Registered.{rows_cut_short}
use Rattle.archive_core.proofs.archive.Archive.add_row.Goals as goal

pub returns-in_err-add_memory-clause-changed : goal.returns-in_err-add_memory-clause-changed
returns-in_err-add_memory-clause-changed g c =
    let p = parts g.D.Disk c.args.self.now in
    let old = c.args.self.now.rows.items in
    let rows = c.rows-count.ensures.value ∙ ap (λ x. x.rows) c.catalogue.ensures in
    let left = c.in_err-add_memory.ensures.err ∙ ap (λ (rs : List Row). take (length rs) old) rows in
    let end = err_from_is_err_and c.from_residual.result c.from_residual.ensures.1 in
    subst (λ (x : Result ℕ DiskErr). Changed g.D.Disk.tells (AddsRow c.args.name.now c.args.about.now) p (record p { kept = c.add_memory.new.kept.items }) x) (sym (end.1 ∙ ap (λ (d : DiskErr). Err d) end.2)) (record {
      changes = λ m r. subst (λ (k : List RowMemory). ChangesTo {A = ℕ} g.D.Disk.tells (AddsRow c.args.name.now c.args.about.now) p m (record p { kept = k }) (Err Memory)) (sym left) (not_called g.D.Disk.tells (AddsRow c.args.name.now c.args.about.now) p m r (take (length p.at.catalogue.rows) old) (rows_cut_short p.at.catalogue.rows old p.tails m.rows r.stands.rows));
      fronts = nothing_fronts g.D.Disk.tells (files_of p);
      tidy = tt;
    })

pub add_row-requires-clause-rests : goal.add_row-requires-clause-rests
add_row-requires-clause-rests g c = let was = c.requires.rests in (memory_in c.args.self.now, was.0, was.1)

pub returns-clause-changed : goal.returns-clause-changed
returns-clause-changed g c =
    let p = parts g.D.Disk c.args.self.now in
    let w = memory_in c.args.self.now in
    let kept = c.in_ok-add_memory.ensures.ok ∙ ap (λ (rs : List Row). take (length rs) w.kept ++ renamed_memory c.args.about.now 0 ∷ []) (c.rows-count.ensures.value ∙ ap (λ x. x.rows) c.catalogue.ensures) in
    subst (λ (k : List RowMemory). Changed g.D.Disk.tells (AddsRow c.args.name.now c.args.about.now) p (parts_beside g.D.Disk c.add_row.new.self (record w { kept = k })) c.add_row.result) (sym kept) (c.add_row.ensures.changed w)
