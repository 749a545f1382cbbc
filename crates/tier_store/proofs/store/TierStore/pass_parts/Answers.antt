use Rattle.std.proofs.Common.{Err, Ok, inl, ◌∙◌, ap, refl, subst, sym, arith}
use Rattle.std.proofs.lemmas.Result.{err_from_is_err_and}
use Rattle.disk_model.specs.declared.disk.DiskErr.{DiskErr}
use Rattle.tier_store.specs.Copying.{SaysPassed}
use Rattle.tier_store.proofs.CopySteps.{err_says, looks_ends, looks_err, looks_none, looks_then}
use Rattle.tier_store.proofs.CopyParts.{at_left, at_none, copies_if_left, has_if_none, passes_none, passes_then}
use Rattle.tier_store.proofs.store.TierStore.pass_parts.Goals as goal

pub loop-self-init : goal.loop-self-init
loop-self-init g c = record {
  finds = λ files held has is. inl is;
  passes = passes_none c.args.moving.now;
  looks = looks_none g.D.Disk.tells _ _ (λ failed. failed);
  same = (refl, refl);
}

pub pass_next-requires-clause-runs : goal.pass_next-requires-clause-runs
pass_next-requires-clause-runs g c =
    let runs = c.requires.runs in
    let inv = c.loop-self.invariant in
    let low = at_left c.at.result c.loop-self.moving.parts c.loop-self.moving.at (sym c.is_some.ensures ∙ c.loop-self-test.true) c.at.ensures in
    (runs.0, runs.1, inv.looks.kept runs.1 runs.2, copies_if_left c.args.place g.D.Disk.tells _ c.loop-self.moving runs.0 runs.1 low (inv.finds runs.0 runs.1 runs.2 runs.3))

pub returns-in_err-next-clause-finds : goal.returns-in_err-next-clause-finds
returns-in_err-next-clause-finds g c files held has is =
    let inv = c.loop-self.invariant in
    let low = at_left c.at.result c.loop-self.moving.parts c.loop-self.moving.at (sym c.is_some.ensures ∙ c.loop-self-test.true) c.at.ensures in
    let p = err_from_is_err_and c.from_residual.result c.from_residual.ensures.1 in
    let copies = copies_if_left c.args.place g.D.Disk.tells _ c.loop-self.moving files held low (inv.finds files held has is) in
    err_says _ _ c.from_residual.result _ (p.1 ∙ ap (λ (x : DiskErr). Err x) p.2) (c.in_err-next.ensures.finds files held (inv.looks.kept held has) copies).1

pub returns-in_err-next-clause-looks : goal.returns-in_err-next-clause-looks
returns-in_err-next-clause-looks g c =
    let p = err_from_is_err_and c.from_residual.result c.from_residual.ensures.1 in
    looks_then g.D.Disk.tells _ _ _ _ _ c.loop-self.invariant.looks (looks_err g.D.Disk.tells _ _ c.pass_next.result c.from_residual.result _ (c.in_err-next.was ∙ ap (λ (x : DiskErr). Err x) (sym p.2)) p.1 c.pass_next.ensures.looks)

pub returns-in-Some-clause-finds : goal.returns-in-Some-clause-finds
returns-in-Some-clause-finds g c files held has is =
    let inv = c.loop-self.invariant in
    let low = at_left c.at.result c.loop-self.moving.parts c.loop-self.moving.at (sym c.is_some.ensures ∙ c.loop-self-test.true) c.at.ensures in
    let copies = copies_if_left c.args.place g.D.Disk.tells _ c.loop-self.moving files held low (inv.finds files held has is) in
    (subst (SaysPassed c.args.place g.D.Disk.tells _ c.pass_next.new.moving files held) c.in-Some.is (c.in_ok-next.ensures.finds files held (inv.looks.kept held has) copies).0, tt)

pub returns-in-Some-clause-looks : goal.returns-in-Some-clause-looks
returns-in-Some-clause-looks g c = looks_then g.D.Disk.tells _ _ _ _ _ c.loop-self.invariant.looks (looks_ends g.D.Disk.tells _ _ _ _ (λ failed. failed) c.in_ok-next.ensures.looks)

pub loop-self-smaller : goal.loop-self-smaller
loop-self-smaller g c =
    let low = at_left c.at.result c.loop-self.moving.parts c.loop-self.moving.at (sym c.is_some.ensures ∙ c.loop-self-test.true) c.at.ensures in
    let more = c.in_ok-next.ensures.further (ap (λ o. Ok o) c.in_default.is) in
    let long = c.in_ok-next.ensures.passes.long in
    omega (arith, low, more, long)

pub loop-self-preserved : goal.loop-self-preserved
loop-self-preserved g c =
    let inv = c.loop-self.invariant in
    let low = at_left c.at.result c.loop-self.moving.parts c.loop-self.moving.at (sym c.is_some.ensures ∙ c.loop-self-test.true) c.at.ensures in
    record {
      finds = λ files held has is.
          let copies = copies_if_left c.args.place g.D.Disk.tells _ c.loop-self.moving files held low (inv.finds files held has is) in
          subst (SaysPassed c.args.place g.D.Disk.tells _ c.pass_next.new.moving files held) c.in_default.is (c.in_ok-next.ensures.finds files held (inv.looks.kept held has) copies).0;
      passes = passes_then c.args.moving.now c.loop-self.moving c.pass_next.new.moving inv.passes c.in_ok-next.ensures.passes;
      looks = looks_then g.D.Disk.tells _ _ _ _ _ inv.looks (looks_ends g.D.Disk.tells _ _ _ _ (λ failed. failed) c.in_ok-next.ensures.looks);
      same = (c.in_ok-next.ensures.same.0 ∙ inv.same.0, c.in_ok-next.ensures.same.1 ∙ inv.same.1);
    }

pub returns-clause-finds : goal.returns-clause-finds
returns-clause-finds g c files held has is =
    (has_if_none c.args.place g.D.Disk.tells _ c.loop-self.moving files held (at_none c.at.result c.loop-self.moving.parts c.loop-self.moving.at (sym c.is_some.ensures ∙ c.loop-self-test.false) c.at.ensures) (c.loop-self.invariant.finds files held has is), tt)
