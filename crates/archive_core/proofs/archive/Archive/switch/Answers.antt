use Rattle.std.proofs.Common.{◌<◌, length, Ok, Err, Result, refl, sym, ◌∙◌, ap, subst, rules}
use Rattle.std.specs.Prelude.{slice_set}
use Rattle.std.proofs.lemmas.Option.{same_Some, slice_get_within}
use Rattle.std.proofs.lemmas.Result.{err_from_is_err_and}
use Rattle.disk_model.specs.declared.disk.DiskErr.{DiskErr}
use Rattle.act_model.specs.Machine.{SetsState}
use Rattle.archive_core.specs.Acting.{Changed}
use Rattle.archive_core.specs.Memory.{ClearsRow}
use Rattle.intake_half.specs.Memory.{cleared}
use Rattle.archive_core.specs.Parts.{InMemory, memory_in, parts, parts_beside}
use Rattle.archive_core.specs.Switching.{to_of}
use Rattle.intake_half.specs.declared.memory.RowMemory.{RowMemory}
use Rattle.archive_core.proofs.KeptRows.{memory_there}
use Rattle.archive_core.proofs.Lists.{read_at}
use Rattle.archive_core.proofs.archive.Archive.switch.Goals.{After-switch}
use Rattle.archive_core.proofs.archive.Archive.switch.Goals as goal

pub switch-requires-clause-rests : goal.switch-requires-clause-rests
switch-requires-clause-rests g c = let was = c.requires.rests in (memory_in c.args.self.now, was.0, was.1)

pub returns-in_err-switch : goal.returns-in_err-switch
returns-in_err-switch g c =
    let e = err_from_is_err_and c.from_residual.result c.from_residual.ensures.1 in
    let w = memory_in c.args.self.now in
    let left = parts_beside g.D.Disk c.switch.new.self w in
    let Changes : Result (Unit {0}) DiskErr → Type 0 = Changed g.D.Disk.tells (SetsState c.args.row (to_of c.args.switch)) (parts g.D.Disk c.args.self.now) left in
    subst Changes (sym (e.1 ∙ ap (λ (d : DiskErr). Err d) e.2)) (subst (λ (x : Result (Unit {0}) DiskErr). ClearsRow c.args.row w w x → Changes x) c.in_err-switch.was (c.switch.ensures w w) refl)

-- the row's memory is there
low : (g : _) (c : After-switch g) → c.args.row < length c.args.self.now.rows.items
low g c =
    let was = c.requires.rests in
    memory_there c.args.self.now.half.store.catalogue.rows _ _ was.0.rows was.1.stands.rows c.args.row (slice_get_within c.args.self.now.half.store.catalogue.rows c.args.row c.requires.state.row c.requires.state.here)

pub index_mut-requires : goal.index_mut-requires
index_mut-requires g c = let there = low g (goal.at.index_mut-requires g c).After-switch in search rules

pub returns : goal.returns
returns g c =
    let w = memory_in c.args.self.now in
    let after : InMemory = record w { kept = slice_set w.kept c.args.row c.clear.new.memory } in
    let there = read_at w.kept c.args.row c.index_mut.result.now c.index_mut.ensures.value (low g (goal.at.returns g c).After-switch) in
    let clears : ClearsRow {A = Unit {0}} c.args.row w after (Ok tt) =
    λ memory here. ap (λ (x : RowMemory). let cleared_one : InMemory = record w { kept = slice_set w.kept c.args.row x } in cleared_one) (c.clear.ensures ∙ ap cleared (same_Some c.index_mut.result.now memory (sym there ∙ here))) in
    subst (λ (x : Result (Unit {0}) DiskErr). ClearsRow c.args.row w after x → Changed g.D.Disk.tells (SetsState c.args.row (to_of c.args.switch)) (parts g.D.Disk c.args.self.now) (parts_beside g.D.Disk c.switch.new.self after) x) c.in_ok-switch.was (c.switch.ensures w after) clears
