use Rattle.std.proofs.Common.{◌≡◌, ◌≤◌, List, [], All, length, map, take, sym, ap, subst, arith, Bor}
use Rattle.std.specs.List.Sorted.{IsPermutation, IsNonDecreasingBy}
use Rattle.std.proofs.lemmas.List.{take_all, length-map}
use Rattle.std.proofs.lemmas.List.Elements.{All-nil}
use Rattle.std.proofs.lemmas.List.Sorted.{All-permutation}
use Rattle.std.proofs.lemmas.Option.{slice_get_within}
use Rattle.series_model.specs.declared.batch.RowSamples.{RowSamples}
use Rattle.partition_names.specs.Part.{IsPart}
use Rattle.durable_write.specs.declared.file_write.FileWrite.{FileWrite}
use Rattle.durable_write.specs.Flush.{IsOfRow}
use Rattle.durable_write.specs.Plan.{Plans}
use Rattle.durable_write.proofs.Batches.{counted_next, counted_within, plans_none, plans_next, plans_kept, flushes, each_seen, rows_follow}
use Rattle.durable_write.proofs.plan.plan_flush.Goals as goal

pub loop-part-init : goal.loop-part-init
loop-part-init c =
    let none = c.new-writes.ensures.items in
    let g = c.args.manifest.now.granularity in
    let Part : FileWrite → Type 0 = λ p. IsPart g p.entry.part in
    let P : List FileWrite → Type 0 = λ l. All Part l in
    let Q : List FileWrite → Type 0 = λ l. Plans g c.args.rows.now c.args.manifest.now.entries c.args.limbo.now [] 0 l in
    record {
      parts = subst P (sym none) (All-nil Part);
      few = omega (arith, ap length none);
      rows = λ j e within. absurd (omega (arith, ap length none, within));
      before = λ k d low lt j e within. absurd (omega (arith, ap length none, within));
      counted = omega arith;
      plans = subst Q (sym none) (plans_none g c.args.rows.now c.args.manifest.now.entries c.args.limbo.now);
    }

pub add_part-requires-clause-part : goal.add_part-requires-clause-part
add_part-requires-clause-part c =
    let P : RowSamples → Type 0 = λ p. IsOfRow c.args.rows.now p in
    let R : List (Bor RowSamples) → Type 0 = λ l. All P (map (λ p. p.now) l) in
    let all = All-permutation P c.args.batch.now (map (λ p. p.now) c.in_ok-order.order.items) c.in_ok-order.ensures.moved c.requires.can.each in
    each_seen (λ p. p.now) P c.deref-part-items.result.now c.loop-part.part-index c.part-item.result (subst R (sym c.deref-part-items.ensures.value) all) c.loop-part-test.true c.part-item.is

pub add_part-requires-clause-draft : goal.add_part-requires-clause-draft
add_part-requires-clause-draft c = record {
  parts = c.loop-part.invariant.parts;
  few = c.loop-part.invariant.few;
  rows =
      let Before : Bor RowSamples → Type 0 = λ b. All (λ (p : FileWrite). p.entry.series ≤ b.now.row) c.loop-part.writes.items in
      subst Before (sym c.part-item.is) (c.loop-part.invariant.before c.loop-part.part-index c.part-item.result (omega arith) c.loop-part-test.true);
}

pub overflow_add-count : goal.overflow_add-count
overflow_add-count c =
    let items = c.deref-part-items.result.now in
    let Moved : List (Bor RowSamples) → Type 0 = λ l. IsPermutation c.args.batch.now (map (λ p. p.now) l) in
    omega (arith, counted_within (λ p. p.now) items c.args.batch.now c.loop-part.part-index c.loop-part.count c.in_ok-more.more c.part-item.result (subst Moved (sym c.deref-part-items.ensures.value) c.in_ok-order.ensures.moved) c.requires.can.few c.loop-part-test.true c.part-item.is c.loop-part.invariant.counted c.in_ok-more.ensures.few)

pub loop-part-preserved : goal.loop-part-preserved
loop-part-preserved c =
    let g = c.args.manifest.now.granularity in
    let items = c.deref-part-items.result.now in
    let i = c.loop-part.part-index in
    let S : List (Bor RowSamples) → Type 0 = λ l. IsNonDecreasingBy (λ p. p.now.row) l in
    let sorted = subst S (sym c.deref-part-items.ensures.value) c.in_ok-order.ensures.sorted in
    let IsOf : RowSamples → Type 0 = λ p. IsOfRow c.args.rows.now p in
    let R : List (Bor RowSamples) → Type 0 = λ l. All IsOf (map (λ p. p.now) l) in
    let all = All-permutation IsOf c.args.batch.now (map (λ p. p.now) c.in_ok-order.order.items) c.in_ok-order.ensures.moved c.requires.can.each in
    let part = each_seen (λ p. p.now) IsOf items i c.part-item.result (subst R (sym c.deref-part-items.ensures.value) all) c.loop-part-test.true c.part-item.is in
    record {
      parts = c.in_ok-more.ensures.draft.parts;
      few = c.in_ok-more.ensures.draft.few;
      rows = λ j e within.
          let before = c.in_ok-more.ensures.draft.rows j e within in
          let here = slice_get_within c.args.rows.now c.part-item.result.now.row part.row part.stands in
          omega (arith, before, here);
      before = λ k d low lt j e within.
          let before = c.in_ok-more.ensures.draft.rows j e within in
          let follows = rows_follow (λ p. p.now) items i c.part-item.result sorted c.loop-part-test.true c.part-item.is k d low lt in
          omega (arith, before, follows);
      counted = counted_next (λ p. p.now) items i c.loop-part.count c.in_ok-more.more c.part-item.result c.loop-part-test.true c.part-item.is c.loop-part.invariant.counted c.in_ok-more.ensures.few;
      plans = plans_next (λ p. p.now) g c.args.rows.now c.args.manifest.now.entries c.args.limbo.now items i c.loop-part.count c.in_ok-more.more c.part-item.result c.loop-part.writes.items c.add_part.new.writes.items c.loop-part-test.true c.part-item.is c.loop-part.invariant.plans c.in_ok-more.ensures.added;
    }

pub returns-clause-flushes : goal.returns-clause-flushes
returns-clause-flushes c =
    let g = c.args.manifest.now.granularity in
    let rows = c.args.rows.now in
    let entries = c.args.manifest.now.entries in
    let limbo = c.args.limbo.now in
    let items = c.deref-part-items.result.now in
    let count = c.loop-part.count in
    let writes = c.loop-part.writes.items in
    let end : take c.loop-part.part-index (map (λ p. p.now) items) ≡ map (λ p. p.now) items = take_all c.loop-part.part-index (map (λ p. p.now) items) (omega (arith, c.loop-part-test.false, length-map items (λ p. p.now))) in
    let P : List RowSamples → Type 0 = λ l. Plans g rows entries limbo l count writes in
    let Q : List (Bor RowSamples) → Type 0 = λ l. Plans g rows entries limbo (map (λ p. p.now) l) count writes in
    let all = subst Q c.deref-part-items.ensures.value (subst P end c.loop-part.invariant.plans) in
    flushes g rows entries limbo c.args.batch.now count writes (plans_kept g rows entries limbo c.args.batch.now (map (λ p. p.now) c.in_ok-order.order.items) count writes c.in_ok-order.ensures.same all)
