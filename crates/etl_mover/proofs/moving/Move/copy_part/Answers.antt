use Rattle.std.proofs.Common.{sym, subst, arith}
use Rattle.gate_journal.specs.DiskShown.{shown_by}
use Rattle.etl_mover.specs.Move.{Moving}
use Rattle.etl_mover.specs.Step.{Advances, CopiesPart}
use Rattle.etl_mover.proofs.Steps.{advances_more, advances_whole, ends_more, ends_whole, not_all, still_next}
use Rattle.etl_mover.proofs.moving.Move.copy_part.Goals as goal

pub returns-in_err-copied-clause-leaves : goal.returns-in_err-copied-clause-leaves
returns-in_err-copied-clause-leaves g c tells = c.copy_lines.ensures.leaves tells

pub returns-then-copied-len-clause-copies : goal.returns-then-copied-len-clause-copies
returns-then-copied-len-clause-copies g c tells b is =
    let all = c.in_ok-copied.ensures.copies tells b is in
    ends_more c.args.self.now c.copy_lines.new.self c.args.start.now c.args.part.now c.args.from c.args.len 1_048_576 c.in_ok-copied.copied b all.0 (g.D.Disk.files c.args.disk.now) (shown_by g.D.Disk c.copy_lines.new.disk) c.copy_lines.ensures.moves all.1 c.if-copied-len.true all.2

pub returns-then-copied-len-clause-leaves : goal.returns-then-copied-len-clause-leaves
returns-then-copied-len-clause-leaves g c tells = c.copy_lines.ensures.leaves tells

pub returns-then-copied-len-clause-advances : goal.returns-then-copied-len-clause-advances
returns-then-copied-len-clause-advances g c revived goes = advances_more c.args.self.now c.copy_lines.new.self revived c.args.part.now c.args.start.now c.args.len goes c.copy_lines.ensures.moves c.in_ok-copied.ensures.sets

pub returns-then-copied-len-clause-done : goal.returns-then-copied-len-clause-done
returns-then-copied-len-clause-done g c = (λ is. absurd (cc (is)), λ all. absurd (not_all c.args.self.now c.copy_lines.new.self c.args.part.now c.copy_lines.ensures.moves c.requires.next all))

pub returns-clause-copies : goal.returns-clause-copies
returns-clause-copies g c tells b is =
    let all = c.in_ok-copied.ensures.copies tells b is in
    let new = shown_by g.D.Disk c.copy_lines.new.disk in
    subst (λ (m : Moving). CopiesPart c.args.self.now m c.args.start.now c.args.part.now c.args.from c.args.len 1_048_576 b (g.D.Disk.files c.args.disk.now) new) (sym c.finish.ensures.finished)
    (ends_whole c.args.self.now c.copy_lines.new.self c.args.start.now c.args.part.now c.args.part.now c.args.from c.args.len 1_048_576 c.in_ok-copied.copied b all.0 (g.D.Disk.files c.args.disk.now) new (omega (arith, c.requires.some)) c.copy_lines.ensures.moves all.1 c.if-copied-len.false all.2)

pub returns-clause-leaves : goal.returns-clause-leaves
returns-clause-leaves g c tells = c.copy_lines.ensures.leaves tells

pub returns-clause-advances : goal.returns-clause-advances
returns-clause-advances g c revived goes =
    subst (λ (m : Moving). Advances c.args.self.now m revived c.args.len) (sym c.finish.ensures.finished)
    (advances_whole c.args.self.now c.copy_lines.new.self revived c.args.part.now c.args.start.now c.args.len goes c.copy_lines.ensures.moves c.in_ok-copied.ensures.sets)

pub returns-clause-done : goal.returns-clause-done
returns-clause-done g c = c.finish.ensures.done

pub finish-requires : goal.finish-requires
finish-requires g c = record { next = still_next c.args.self.now c.copy_lines.new.self c.args.part.now c.copy_lines.ensures.moves c.requires.next }
