use Rattle.std.proofs.Common.{Err, List, refl, ap, subst, ◌∙◌}
use Rattle.std.proofs.lemmas.Result.{err_from_is_err_and}
use Rattle.disk_model.specs.declared.disk.DiskErr.{DiskErr}
use Rattle.pv_catalog.specs.Catalogue.{CatalogueState}
use Rattle.pv_catalog.specs.declared.row.Row.{Row}
use Rattle.archive_core.specs.Memory.{IsCleared}
use Rattle.archive_core.specs.Parts.{InMemory, memory_in, parts, parts_beside}
use Rattle.archive_core.proofs.Acting.{settling_done, settling_failed}
use Rattle.archive_core.proofs.archive.Archive.settle.Goals as goal

pub settle-requires : goal.settle-requires
settle-requires g c = let was = c.requires.stands in record { stands = (memory_in c.args.self.now, was.0, was.1) }

pub returns-in_err-doubt-clause-still : goal.returns-in_err-doubt-clause-still
returns-in_err-doubt-clause-still g c = let p = err_from_is_err_and c.from_residual.result c.from_residual.ensures.1 in rw p.1 (c.in_err-doubt.ensures.still (memory_in c.args.self.now))

pub returns-in_err-doubt-clause-settling : goal.returns-in_err-doubt-clause-settling
returns-in_err-doubt-clause-settling g c =
    let p = err_from_is_err_and c.from_residual.result c.from_residual.ensures.1 in
    let w = memory_in c.args.self.now in
    settling_failed g.D.Disk.tells (parts g.D.Disk c.args.self.now) (parts_beside g.D.Disk c.settle.new.self w) c.settle.result c.from_residual.result c.in_err-doubt.field-0.0 c.in_err-doubt.was (p.1 ∙ ap (λ (e : DiskErr). Err e) p.2) (c.settle.ensures.settling w w)

pub trim_flushed-requires : goal.trim_flushed-requires
trim_flushed-requires g c = record { three = c.in_ok-doubt.ensures.three }

pub returns-clause-settled : goal.returns-clause-settled
returns-clause-settled g c =
    let w = memory_in c.args.self.now in
    let after : InMemory = record w { kept = c.clear_set.new.kept.items; tails = c.trim_flushed.new.intake } in
    let kept = subst (λ (rows : List Row). IsCleared rows c.in_ok-doubt.doubt w.kept after.kept) (c.rows.ensures.value ∙ ap (λ (x : CatalogueState). x.rows) c.catalogue.ensures) c.clear_set.ensures in
    c.in_ok-doubt.ensures.settled w after (record { kept = kept; tails = c.trim_flushed.ensures; doors = refl })

pub returns-clause-settling : goal.returns-clause-settling
returns-clause-settling g c =
    let w = memory_in c.args.self.now in
    let after : InMemory = record w { kept = c.clear_set.new.kept.items; tails = c.trim_flushed.new.intake } in
    settling_done g.D.Disk.tells (parts g.D.Disk c.args.self.now) (parts_beside g.D.Disk c.settle.new.self after) c.settle.result tt (c.settle.ensures.settling w after)
