use Rattle.std.proofs.Common.{◌≡◌, length, None, sym, ap, ◌∙◌, arith}
use Rattle.std.proofs.lemmas.List.{length-map}
use Rattle.archive_core.specs.declared.memory.RowEnd.{RowEnd}
use Rattle.archive_core.specs.Memory.{row_end}
use Rattle.intake_half.proofs.Telling.{since_start}
use Rattle.archive_core.proofs.Batches.{next_part, gives_more, gives_all}
use Rattle.archive_core.proofs.flushing.give_up.Goals as goal

pub loop-end-init : goal.loop-end-init
loop-end-init c = λ batch are i rises. sym (since_start _)

pub loop-end-preserved : goal.loop-end-preserved
loop-end-preserved c = λ batch are.
    let none : RowEnd = record { row = 0; last = None } in
    let next = next_part batch c.args.ends.now c.loop-end.end-index none are c.loop-end-test.true in
    gives_more batch c.loop-end.end-index next.0 c.args.intake.now c.loop-end.intake c.give_up_row.new.intake next.1 next.2 (c.loop-end.invariant batch are) (c.give_up_row.ensures next.0 next.3)

pub returns : goal.returns
returns c = λ batch are.
    let long : length batch ≡ length c.args.ends.now = sym (length-map batch row_end) ∙ ap length are in
    gives_all batch c.loop-end.end-index c.args.intake.now c.loop-end.intake (omega (arith, long, c.loop-end-test.false)) (c.loop-end.invariant batch are)
