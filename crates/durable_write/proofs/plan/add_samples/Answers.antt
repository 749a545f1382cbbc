use Rattle.std.proofs.Common.{◌≡◌, ◌≤◌, ◌+◌, ℕ, Bool, true, false, cond, take, refl, sym, subst, arith}
use Rattle.series_model.specs.declared.sample.Sample.{Sample}
use Rattle.durable_write.specs.Flush.{IsSampleOf}
use Rattle.durable_write.specs.Plan.{Adds}
use Rattle.durable_write.proofs.Batches.{adds_next}
use Rattle.durable_write.proofs.plan.add_samples.Goals as goal
use Rattle.durable_write.proofs.plan.add_samples.Goals.{then-branch, else-branch}

at_most_one : (b : Bool) → cond b 1 0 ≤ 1
at_most_one true = omega arith
at_most_one false = omega arith

pub add_sample-requires-clause-sample : goal.add_sample-requires-clause-sample
add_sample-requires-clause-sample c =
    let P : Sample → Type 0 = λ s. IsSampleOf c.args.row.now s in
    subst P (sym c.sample-item.is) (c.requires.samples c.loop-sample.sample-index c.sample-item.result c.loop-sample-test.true)

pub loop-sample-preserved : goal.loop-sample-preserved
loop-sample-preserved c =
    let target = c.args.target.now in
    let row = c.args.row.now in
    let xs = c.args.samples.now in
    let i = c.loop-sample.sample-index in
    let taken = c.in_ok-add_sample.field-0 in
    let count : c.if-branch.count ≡ c.loop-sample.count + cond taken 1 0 =
    elim c.if-branch.branch [
      | then-branch w ↦ rw (w.count-is, w.if-branch.true) refl
      | else-branch w ↦ rw (w.count-is, w.if-branch.false) (omega arith)
    ] in
    let few : c.if-branch.count ≤ i + 1 = omega (arith, count, c.loop-sample.invariant.counted, at_most_one taken) in
    let P : ℕ → Type 0 = λ n. Adds target row (take (i + 1) xs) n c.args.writes.now.items c.add_sample.new.writes.items in
    record {
      draft = c.in_ok-add_sample.ensures.draft;
      counted = few;
      added = subst P (sym count) (adds_next target row xs i c.loop-sample.count (cond taken 1 0) c.sample-item.result c.args.writes.now.items c.loop-sample.writes.items c.add_sample.new.writes.items c.loop-sample-test.true c.sample-item.is c.requires.rising c.loop-sample.invariant.added c.in_ok-add_sample.ensures.added);
    }
