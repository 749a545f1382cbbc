use Rattle.std.proofs.Common.{◌<◌, List, Option, length, sym, ◌∙◌, ap, arith}
use Rattle.std.proofs.lemmas.List.{map-id}
use Rattle.std.proofs.lemmas.Iterator.Consumers.{YieldsList-end, YieldsList-turn}
use Rattle.std.proofs.lemmas.Iterator.Adapters.{YieldsList-from_vec}
use Rattle.two_histories.specs.ArchiveStore.{RegisteredRow}
use Rattle.intake_half.specs.Taking.{all_told, told_in}
use Rattle.intake_half.specs.declared.known.KnownRow.{KnownRow}
use Rattle.intake_half.proofs.Elements.{read_at}
use Rattle.intake_half.proofs.Telling.{told_long, told_more}
use Rattle.intake_half.proofs.taking.take_rows.Goals as goal

pub take_row-requires : goal.take_row-requires
take_row-requires c =
    let all = YieldsList-from_vec {s = c.into_iter-told-iterator.result} c.args.rows.items c.into_iter-told-iterator.ensures.into_iter_gives.0 (omega (arith, c.into_iter-told-iterator.ensures.into_iter_gives.1, c.args.rows.ok.0)) in
    let t = YieldsList-turn all c.loop-told.yielded _ c.loop-told.yielded_by c.next.result c.next.new.self c.in-Some.told c.in-Some.is c.next.ensures.steps in
    let low : c.in-Some.told.row < length c.args.slots.now.items = c.requires (length c.loop-told.yielded) c.in-Some.told (read_at c.args.rows.items (length c.loop-told.yielded) c.in-Some.told t.1 t.0) in
    omega (arith, low, c.loop-told.invariant.long)

pub loop-told-preserved : goal.loop-told-preserved
loop-told-preserved c =
    let done = c.take_row.ensures ∙ ap (λ (xs : List (Option KnownRow)). told_in c.in-Some.told xs) c.loop-told.invariant.done in
    record {
      done = done ∙ sym (told_more c.loop-told.yielded c.in-Some.told c.args.slots.now.items);
      long = ap length c.take_row.ensures ∙ (told_long c.in-Some.told c.loop-told.slots.items ∙ c.loop-told.invariant.long);
    }

pub returns : goal.returns
returns c =
    let all = YieldsList-from_vec {s = c.into_iter-told-iterator.result} c.args.rows.items c.into_iter-told-iterator.ensures.into_iter_gives.0 (omega (arith, c.into_iter-told-iterator.ensures.into_iter_gives.1, c.args.rows.ok.0)) in
    let t = YieldsList-end all c.loop-told.yielded _ c.loop-told.yielded_by c.next.result c.next.new.self c.in-None.is c.next.ensures.steps in
    c.loop-told.invariant.done ∙ ap (λ (xs : List RegisteredRow). all_told xs c.args.slots.now.items) (sym (map-id c.loop-told.yielded) ∙ t.0)
