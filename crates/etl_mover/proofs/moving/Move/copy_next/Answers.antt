use Rattle.std.proofs.Common.{◌≡◌, inl, inr, Some, sym, subst, arith}
use Rattle.std.specs.Prelude.{OnOk}
use Rattle.gate_journal.specs.DiskShown.{shown_by}
use Rattle.store_manifest.specs.declared.entry.Entry.{Entry}
use Rattle.etl_mover.specs.declared.copying.Start.{Start}
use Rattle.etl_mover.specs.Move.{Moving, IsMove}
use Rattle.etl_mover.specs.Step.{Advances, CopiesPart, source_file, target_file}
use Rattle.etl_mover.specs.Writing.{LeavesFile}
use Rattle.etl_mover.proofs.Steps.{finish_keeps, advances_covered, by_one, ends_covered, still_running, reads_none, reads_leave}
use Rattle.etl_mover.proofs.moving.Move.copy_next.Goals as goal

pub copy_part-requires-clause-there : goal.copy_part-requires-clause-there
copy_part-requires-clause-there g c tells = (c.requires.can tells).source c.args.part.now c.requires.next

pub copy_part-requires-clause-room : goal.copy_part-requires-clause-room
copy_part-requires-clause-room g c tells n some = (c.requires.can tells).target c.args.part.now c.in-Some.start n c.in-Some.ensures.goes some

pub returns-in-Some-clause-copies : goal.returns-in-Some-clause-copies
returns-in-Some-clause-copies g c tells part start b goes is =
    by_one c.args.self.now c.args.revived c.args.part.now part c.in-Some.start start
    (λ (q : Entry) (t : Start). g.D.Disk.files c.args.disk.now (source_file c.args.self.now q) ≡ Some b → OnOk c.copy_part.result (CopiesPart c.args.self.now c.copy_part.new.self t q c.args.from c.args.len 1_048_576 b (g.D.Disk.files c.args.disk.now) (shown_by g.D.Disk c.copy_part.new.disk)))
    c.in-Some.ensures.goes goes (c.copy_part.ensures.copies tells b) is

pub returns-in-Some-clause-leaves : goal.returns-in-Some-clause-leaves
returns-in-Some-clause-leaves g c tells part start goes =
    by_one c.args.self.now c.args.revived c.args.part.now part c.in-Some.start start
    (λ (q : Entry) (t : Start). LeavesFile (target_file c.args.self.now t) t.at (shown_by g.D.Disk c.args.disk.now) (shown_by g.D.Disk c.copy_part.new.disk))
    c.in-Some.ensures.goes goes (c.copy_part.ensures.leaves tells)

pub returns-in-Some-clause-nowhere : goal.returns-in-Some-clause-nowhere
returns-in-Some-clause-nowhere g c tells never = absurd (never c.args.part.now c.in-Some.start c.in-Some.ensures.goes)

pub returns-in-Some-clause-running : goal.returns-in-Some-clause-running
returns-in-Some-clause-running g c fine is = still_running fine c.args.self.now c.copy_part.new.self c.args.revived c.args.len c.copy_part.result (c.copy_part.ensures.advances c.args.revived c.in-Some.ensures.goes) c.copy_part.ensures.unchanged is c.requires.revived

pub returns-in-Some-clause-advances : goal.returns-in-Some-clause-advances
returns-in-Some-clause-advances g c = c.copy_part.ensures.advances c.args.revived c.in-Some.ensures.goes

pub returns-in-Some-clause-done : goal.returns-in-Some-clause-done
returns-in-Some-clause-done g c = c.copy_part.ensures.done

pub returns-in-None-clause-copies : goal.returns-in-None-clause-copies
returns-in-None-clause-copies g c tells part start b goes is =
    elim (c.left.ensures.none c.in-None.is) [
      | inl same ↦
          let at = shown_by g.D.Disk c.args.disk.now in
          subst (λ (m : Moving). CopiesPart c.args.self.now m start part c.args.from c.args.len 1_048_576 b at.files at) (sym c.finish.ensures.finished)
          (ends_covered c.args.self.now start c.args.part.now part c.args.from c.args.len 1_048_576 b at same)
      | inr never ↦ absurd (never part start goes)
    ]

pub returns-in-None-clause-leaves : goal.returns-in-None-clause-leaves
returns-in-None-clause-leaves g c tells part start goes = reads_leave _ _ _ _ (λ n some. (c.requires.can tells).target part start n goes some) (reads_none _)

pub returns-in-None-clause-nowhere : goal.returns-in-None-clause-nowhere
returns-in-None-clause-nowhere g c tells never = reads_none _

pub returns-in-None-clause-running : goal.returns-in-None-clause-running
returns-in-None-clause-running g c fine is = subst (IsMove fine) (sym c.finish.ensures.finished) (finish_keeps fine c.args.self.now c.args.part.now c.args.len is c.requires.next)

pub returns-in-None-clause-advances : goal.returns-in-None-clause-advances
returns-in-None-clause-advances g c = subst (λ (m : Moving). Advances c.args.self.now m c.args.revived c.args.len) (sym c.finish.ensures.finished) (advances_covered c.args.self.now c.args.revived c.args.part.now c.args.len c.requires.next)

pub returns-in-None-clause-done : goal.returns-in-None-clause-done
returns-in-None-clause-done g c = c.finish.ensures.done

pub returns-in-Some-clause-either : goal.returns-in-Some-clause-either
returns-in-Some-clause-either g c low = inl (c.in-Some.start, c.in-Some.ensures.goes)

pub returns-in-None-clause-either : goal.returns-in-None-clause-either
returns-in-None-clause-either g c low = elim (c.left.ensures.ends c.in-None.is) [ inl same ↦ absurd (omega (arith, same, low)) | inr ends ↦ inr ends ]
