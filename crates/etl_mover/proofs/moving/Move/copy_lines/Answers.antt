use Rattle.std.proofs.Common.{rules, ◌≡◌, ◌≤◌, ◌++◌, inr, List, length, sym, ◌∙◌, ap, subst, arith}
use Rattle.disk_model.specs.Files.{Name, HasFile}
use Rattle.gate_journal.specs.DiskShown.{shown_by}
use Rattle.store_manifest.specs.declared.entry.Entry.{Entry}
use Rattle.etl_mover.specs.Copying.{SetsLast}
use Rattle.etl_mover.specs.Move.{Moving}
use Rattle.etl_mover.specs.Step.{IsLongUnopened, source_file, target_file}
use Rattle.etl_mover.specs.Writing.{LeavesFile, WritesFile}
use Rattle.etl_mover.proofs.Steps.{reads_none, reads_leave, reads_then_leave, reads_room, has_copied, copied_none}
use Rattle.etl_mover.proofs.moving.Move.copy_lines.Goals as goal

pub read_part-requires-clause-there : goal.read_part-requires-clause-there
read_part-requires-clause-there g c tells =
    let name = c.in_ok-source.ensures ∙ ap (λ (m : Moving). source_file m c.args.part.now) c.self.view_is in
    subst (λ (n : Name). HasFile (g.D.Disk.files c.args.disk.now) n (λ b. c.args.len ≤ length b)) (sym name) (c.requires.there tells)

pub write_file-requires : goal.write_file-requires
write_file-requires g c = record {
  there = λ tells n some.
      let name = c.in_ok-target.ensures ∙ ap (λ (m : Moving). target_file m c.args.start.now) c.self.view_is in
      reads_room _ n _ _ (c.in_ok-load.ensures.reads tells)
      (subst (λ (x : Name). IsLongUnopened n x (g.D.Disk.files c.args.disk.now) (g.D.Disk.opened c.args.disk.now)) (sym name) (c.requires.room tells n some));
}

pub returns-clause-copies : goal.returns-clause-copies
returns-clause-copies g c tells b is =
    let move = c.args.self.now in
    let start = c.args.start.now in
    let load = c.in_ok-load.load in
    let source = c.in_ok-source.ensures ∙ ap (λ (m : Moving). source_file m c.args.part.now) c.self.view_is in
    let target = c.in_ok-target.ensures ∙ ap (λ (m : Moving). target_file m start) c.self.view_is in
    let takes = c.in_ok-load.ensures.takes tells b (ap (λ (n : Name). g.D.Disk.files c.args.disk.now n) source ∙ is) in
    let reads = c.in_ok-load.ensures.reads tells in
    let mid = shown_by g.D.Disk c.read_part.new.disk in
    let new = shown_by g.D.Disk c.write_file.new.disk in
    let pending : c.reserve.new.self.items ≡ move.pending = c.reserve.ensures.items ∙ ap (λ (m : Moving). m.pending) c.self.view_is in (
      load.lines.items,
      sym (c.len.ensures ∙ load.lines.ok.0),
      has_copied (target_file move start) start c.args.part.now load.entry c.args.from c.args.len 1_048_576 b load.head.items load.lines.items move.pending c.set_last.new.pending.items (shown_by g.D.Disk c.args.disk.now) mid new
          reads c.in_ok-load.ensures.keeps.0 c.in_ok-load.ensures.keeps.1 takes.0 takes.1
          (λ n some. subst (λ (x : Name). WritesFile x start.at load.lines.items mid.files new) target (subst (λ (l : List _). WritesFile c.in_ok-target.target start.at l mid.files new) c.deref-2.ensures.value (c.in_ok-write_file.ensures.grows tells n some)))
          (λ none. subst (λ (x : Name). WritesFile x start.at (load.head.items ++ load.lines.items) mid.files new) target
          (subst (λ (h : List _). WritesFile c.in_ok-target.target start.at (h ++ load.lines.items) mid.files new) c.deref.ensures.value
          (subst (λ (l : List _). WritesFile c.in_ok-target.target start.at (c.deref.result.now ++ l) mid.files new) c.deref-2.ensures.value (c.in_ok-write_file.ensures.makes tells none))))
          (subst (λ (l : List Entry). SetsLast load.entry l c.set_last.new.pending.items) pending c.set_last.ensures),
    )

pub returns-clause-leaves : goal.returns-clause-leaves
returns-clause-leaves g c tells =
    let start = c.args.start.now in
    let target = c.in_ok-target.ensures ∙ ap (λ (m : Moving). target_file m start) c.self.view_is in
    subst (λ (x : Name). LeavesFile x start.at (shown_by g.D.Disk c.args.disk.now) (shown_by g.D.Disk c.write_file.new.disk)) target
    (reads_then_leave _ start.at _ _ _ (c.in_ok-load.ensures.reads tells) (c.write_file.ensures.leaves tells))

pub returns-clause-sets : goal.returns-clause-sets
returns-clause-sets g c =
    let move = c.args.self.now in
    let load = c.in_ok-load.load in
    let pending : c.reserve.new.self.items ≡ move.pending = c.reserve.ensures.items ∙ ap (λ (m : Moving). m.pending) c.self.view_is in
    inr (load.entry, c.in_ok-load.ensures.keeps.0, c.in_ok-load.ensures.keeps.1, (let long = c.in_ok-load.ensures.keeps.2 in omega (arith, long)), subst (λ (l : List Entry). SetsLast load.entry l c.set_last.new.pending.items) pending c.set_last.ensures)

pub returns-in_err-source-clause-leaves : goal.returns-in_err-source-clause-leaves
returns-in_err-source-clause-leaves g c tells = reads_leave _ _ _ _ (c.requires.room tells) (reads_none _)

pub returns-in_err-load-clause-leaves : goal.returns-in_err-load-clause-leaves
returns-in_err-load-clause-leaves g c tells = reads_leave _ _ _ _ (c.requires.room tells) (c.read_part.ensures.reads tells)

pub returns-in_err-target-clause-leaves : goal.returns-in_err-target-clause-leaves
returns-in_err-target-clause-leaves g c tells = reads_leave _ _ _ _ (c.requires.room tells) (c.read_part.ensures.reads tells)

pub returns-in_err-reserve-clause-leaves : goal.returns-in_err-reserve-clause-leaves
returns-in_err-reserve-clause-leaves g c tells = reads_leave _ _ _ _ (c.requires.room tells) (c.read_part.ensures.reads tells)

pub returns-in_err-write_file-clause-leaves : goal.returns-in_err-write_file-clause-leaves
returns-in_err-write_file-clause-leaves g c tells =
    let start = c.args.start.now in
    let target = c.in_ok-target.ensures ∙ ap (λ (m : Moving). target_file m start) c.self.view_is in
    subst (λ (x : Name). LeavesFile x start.at (shown_by g.D.Disk c.args.disk.now) (shown_by g.D.Disk c.write_file.new.disk)) target
    (reads_then_leave _ start.at _ _ _ (c.in_ok-load.ensures.reads tells) (c.write_file.ensures.leaves tells))

pub returns-then-is_empty-clause-leaves : goal.returns-then-is_empty-clause-leaves
returns-then-is_empty-clause-leaves g c tells = reads_leave _ _ _ _ (c.requires.room tells) (c.read_part.ensures.reads tells)

pub returns-then-is_empty-clause-copies : goal.returns-then-is_empty-clause-copies
returns-then-is_empty-clause-copies g c tells b is =
    let move = c.args.self.now in
    let load = c.in_ok-load.load in
    let source = c.in_ok-source.ensures ∙ ap (λ (m : Moving). source_file m c.args.part.now) c.self.view_is in
    let takes = c.in_ok-load.ensures.takes tells b (ap (λ (n : Name). g.D.Disk.files c.args.disk.now n) source ∙ is) in
    let none : length load.lines.items ≡ 0 = search (arith, rules) in
    (load.lines.items, none, copied_none _ c.args.start.now c.args.part.now load.entry c.args.from c.args.len 1_048_576 b load.lines.items move.pending _ _ c.in_ok-load.ensures.keeps.0 c.in_ok-load.ensures.keeps.1 takes.1 none (c.in_ok-load.ensures.reads tells).same)
