use Rattle.std.proofs.Common.{◌≡◌, ◌∷◌, [], ℕ, List, length, sym, ◌∙◌, ap, subst, arith, length-append}
use Rattle.std.proofs.lemmas.List.{map-id}
use Rattle.std.proofs.lemmas.Iterator.Consumers.{YieldsList-end, YieldsList-turn}
use Rattle.std.proofs.lemmas.Iterator.Adapters.{YieldsList-from_vec}
use Rattle.pv_catalog.specs.declared.row.Row.{Row}
use Rattle.store_reopen.specs.Finding.{IsOfPlace}
use Rattle.store_reopen.specs.declared.finding.Unlisted.{Unlisted}
use Rattle.store_reopen.proofs.Stages.{SoFar, so_all, so_more, so_none, turn_old}
use Rattle.store_reopen.proofs.taking.by_turn.Goals as goal

pub loop-one-init : goal.loop-one-init
loop-one-init c = record {
  count = omega (arith, c.in_ok-turns.ensures.count, ap (λ (l : List Row). length l) c.rows.ensures.value);
  takes = λ turn taken here. so_none c.args.manifests.now c.args.catalogue.now.rows turn c.args.unlisted.items taken (c.in_ok-turns.ensures.empty turn taken here);
  fewer = omega (arith, c.in_ok-turns.ensures.none);
}

pub take-requires-clause-place : goal.take-requires-clause-place
take-requires-clause-place c =
    let all = YieldsList-from_vec {s = c.into_iter-one-iterator.result} c.args.unlisted.items c.into_iter-one-iterator.ensures.into_iter_gives.0 (omega (arith, c.into_iter-one-iterator.ensures.into_iter_gives.1, c.args.unlisted.ok.0)) in
    let t = YieldsList-turn all c.loop-one.yielded _ c.loop-one.yielded_by c.next.result c.next.new.self c.in-Some.one c.in-Some.is c.next.ensures.steps in
    subst (λ (x : Unlisted). IsOfPlace c.args.manifests.now x) (sym t.1) (c.requires.places (length c.loop-one.yielded) c.in-Some.one t.0)

pub loop-one-preserved : goal.loop-one-preserved
loop-one-preserved c =
    let xs = c.args.unlisted.items in
    let n = length c.loop-one.yielded in
    let one = c.in-Some.one in
    let all = YieldsList-from_vec {s = c.into_iter-one-iterator.result} xs c.into_iter-one-iterator.ensures.into_iter_gives.0 (omega (arith, c.into_iter-one-iterator.ensures.into_iter_gives.1, c.args.unlisted.ok.0)) in
    let t = YieldsList-turn all c.loop-one.yielded _ c.loop-one.yielded_by c.next.result c.next.new.self one c.in-Some.is c.next.ensures.steps in
    record {
      count = omega (arith, c.in_ok-take.ensures.count, c.loop-one.invariant.count);
      takes = λ turn taken here.
          let old = turn_old c.loop-one.turns.items c.take.new.turns.items turn taken c.in_ok-take.ensures.count here in
          let so = so_more c.args.manifests.now c.args.catalogue.now.rows turn xs n one old.0 taken t.0 t.1 (c.in_ok-take.ensures.takes turn old.0 taken old.1 here) (c.loop-one.invariant.takes turn old.0 old.1) in
          subst (λ (k : ℕ). SoFar c.args.manifests.now c.args.catalogue.now.rows turn xs k taken) (sym (length-append c.loop-one.yielded (one ∷ []))) so;
      fewer = omega (arith, c.in_ok-take.ensures.one_more, c.loop-one.invariant.fewer, length-append c.loop-one.yielded (one ∷ []));
    }

pub returns-clause-takes : goal.returns-clause-takes
returns-clause-takes c turn taken here =
    let xs = c.args.unlisted.items in
    let all = YieldsList-from_vec {s = c.into_iter-one-iterator.result} xs c.into_iter-one-iterator.ensures.into_iter_gives.0 (omega (arith, c.into_iter-one-iterator.ensures.into_iter_gives.1, c.args.unlisted.ok.0)) in
    let t = YieldsList-end all c.loop-one.yielded _ c.loop-one.yielded_by c.next.result c.next.new.self c.in-None.is c.next.ensures.steps in
    so_all c.args.manifests.now c.args.catalogue.now.rows turn xs (length c.loop-one.yielded) taken (omega (arith, t.1)) (c.loop-one.invariant.takes turn taken here)

pub returns-clause-fewer : goal.returns-clause-fewer
returns-clause-fewer c =
    let all = YieldsList-from_vec {s = c.into_iter-one-iterator.result} c.args.unlisted.items c.into_iter-one-iterator.ensures.into_iter_gives.0 (omega (arith, c.into_iter-one-iterator.ensures.into_iter_gives.1, c.args.unlisted.ok.0)) in
    let t = YieldsList-end all c.loop-one.yielded _ c.loop-one.yielded_by c.next.result c.next.new.self c.in-None.is c.next.ensures.steps in
    let same : length c.loop-one.yielded ≡ length c.args.unlisted.items = ap (λ (l : List Unlisted). length l) (sym (map-id c.loop-one.yielded) ∙ t.0) in
    omega (arith, c.loop-one.invariant.fewer, same)
