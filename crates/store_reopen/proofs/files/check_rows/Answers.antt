use Rattle.std.proofs.Common.{arith}
use Rattle.std.specs.Prelude.{All}
use Rattle.store_reopen.specs.Verdict.{stranger, HasRow}
use Rattle.store_reopen.proofs.Verdicts.{here_from, next_place, at_all, told_stranger}
use Rattle.store_reopen.proofs.files.check_rows.Goals as goal

pub loop-place-preserved : goal.loop-place-preserved
loop-place-preserved c =
    let m = c.index-manifests-from.result in
    let here = here_from c.args.manifests.now c.loop-place.place c.from.result m c.index-manifests-from.is c.from.ensures (omega (arith, c.requires.three, c.loop-place-test.true)) in
    record {
      few = omega (arith, c.loop-place-test.true);
      of_rows = next_place (λ k es. All (HasRow c.args.rows.now) es) c.args.manifests.now c.loop-place.place m here c.loop-place.invariant.of_rows (c.have_rows.ensures.each c.if-not-have_rows.false);
    }

pub returns-then-not-have_rows-clause-told : goal.returns-then-not-have_rows-clause-told
returns-then-not-have_rows-clause-told c gs seen three said =
    let m = c.index-manifests-from.result in
    let here = here_from c.args.manifests.now c.loop-place.place c.from.result m c.index-manifests-from.is c.from.ensures (omega (arith, c.requires.three, c.loop-place-test.true)) in
    let one = c.have_rows.ensures.one c.if-not-have_rows.true in
    stranger (told_stranger gs seen c.args.rows.now c.args.manifests.now c.loop-place.place m c.in_ok-name.name three c.requires.three said c.loop-place-test.true here c.loop-place.invariant.of_rows one.0 one.1 one.2 c.in_ok-name.ensures)

pub returns-clause-of_rows : goal.returns-clause-of_rows
returns-clause-of_rows c = at_all (λ k es. All (HasRow c.args.rows.now) es) c.args.manifests.now c.loop-place.place c.requires.three c.loop-place-test.false c.loop-place.invariant.of_rows
