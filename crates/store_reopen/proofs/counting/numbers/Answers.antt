use Rattle.std.proofs.Common.{List, take, subst, sym, ap, arith}
use Rattle.std.specs.Prelude.{Vec}
use Rattle.std.specs.declared.alloc.Global.{Global}
use Rattle.std.proofs.lemmas.List.{take_all}
use Rattle.store_reopen.specs.Listing.{turns_of}
use Rattle.store_reopen.specs.Turns.{Adds, all_taken}
use Rattle.store_reopen.specs.declared.adopted.Adopted.{Adopted}
use Rattle.store_reopen.specs.declared.finding.TakenFile.{TakenFile}
use Rattle.store_reopen.proofs.Stages.{adds_then, taken_more}
use Rattle.store_reopen.proofs.counting.numbers.Goals as goal

pub loop-taken-preserved : goal.loop-taken-preserved
loop-taken-preserved c =
    let zero : Adopted = record { files = 0; samples = 0; rows = c.args.rows; skipped = 0; cut = 0 } in
    let before = all_taken (turns_of (take c.loop-taken.taken-index c.args.turns.now)) in
    let more = taken_more c.args.turns.now c.loop-taken.taken-index c.taken-item.result c.loop-taken-test.true c.taken-item.is in
    let one = subst (λ (l : List TakenFile). Adds c.loop-taken.told l c.add-told.result) c.as_slice.ensures.value c.add-told.ensures in
    subst (λ (l : List TakenFile). Adds zero l c.add-told.result) (sym more) (adds_then zero c.loop-taken.told c.add-told.result before c.taken-item.result.items c.loop-taken.invariant one)

pub returns : goal.returns
returns c =
    let zero : Adopted = record { files = 0; samples = 0; rows = c.args.rows; skipped = 0; cut = 0 } in
    let same = ap (λ (vs : List (Vec TakenFile Global)). all_taken (turns_of vs)) (take_all c.loop-taken.taken-index c.args.turns.now (omega (arith, c.loop-taken-test.false))) in
    let all = subst (λ (l : List TakenFile). Adds zero l c.loop-taken.told) same c.loop-taken.invariant in
    record { files = omega (arith, all.files); samples = omega (arith, all.samples); cut = omega (arith, all.cut); rows = all.rows; skipped = c.saturating_sub.ensures }
