use Rattle.std.proofs.Common.{List, length, Some, sym, ◌∙◌, ap, arith}
use Rattle.std.proofs.lemmas.Result.{err_from_is_err_and}
use Rattle.tier_store.proofs.Places.{granularity_at, manifest_at}
use Rattle.store_reopen.specs.Adoption.{place_of, row_of}
use Rattle.store_reopen.specs.declared.finding.TakenFile.{TakenFile}
use Rattle.store_reopen.proofs.Swept.{journals_same, spares_none, spares_then}
use Rattle.store_reopen.proofs.Having.{count_of}
use Rattle.store_reopen.proofs.Counts.{may_later, still_at, turn_here, turns_begin, turns_end, turns_on, turns_stop, unopened_later}
use Rattle.store_reopen.proofs.listing.list_all.Goals as goal

pub loop-turn-init : goal.loop-turn-init
loop-turn-init g c = record {
  ready = λ gs ready. ready;
  has = c.requires.has;
  goes = λ tells image held unlisted same are. turns_begin g.D.Disk image held c.args.catalogue.now.rows unlisted (length c.args.turns.now) c.args.catalogue.now c.args.manifests.now.items c.args.disk.now;
  spares = λ tells. spares_none g.D.Disk c.args.disk.now;
  faults = omega arith;
}

pub list_taken-requires-clause-ready : goal.list_taken-requires-clause-ready
list_taken-requires-clause-ready g c = (c.requires.ready.0, c.requires.ready.1, c.loop-turn.invariant.ready c.requires.ready.0 c.requires.ready.2)

pub list_taken-requires-clause-parts : goal.list_taken-requires-clause-parts
list_taken-requires-clause-parts g c m here =
    let t = c.loop-turn.turn in
    let taken = turn_here c.args.turns.now t c.index-turns-turn.result c.loop-turn-test.true c.index-turns-turn.is ∙ ap (λ (ys : List TakenFile). Some ys) (sym c.as_slice.ensures.value) in
    c.requires.parts t c.as_slice.result.now taken m.granularity
    (still_at c.requires.ready.0 c.args.manifests.now.items c.loop-turn.manifests.items (place_of t) m c.requires.ready.2.granularity (c.loop-turn.invariant.ready c.requires.ready.0 c.requires.ready.2).granularity here)

pub list_taken-requires-clause-may : goal.list_taken-requires-clause-may
list_taken-requires-clause-may g c tells m here =
    let t = c.loop-turn.turn in
    let taken = turn_here c.args.turns.now t c.index-turns-turn.result c.loop-turn-test.true c.index-turns-turn.is ∙ ap (λ (ys : List TakenFile). Some ys) (sym c.as_slice.ensures.value) in
    may_later m.granularity (g.D.Disk.files c.args.disk.now) (g.D.Disk.files c.loop-turn.disk) c.args.catalogue.now.rows (row_of t) (place_of t) c.as_slice.result.now (journals_same g.D.Disk _ _ (c.loop-turn.invariant.spares tells).now)
    (c.requires.may tells t c.as_slice.result.now taken m.granularity
    (still_at c.requires.ready.0 c.args.manifests.now.items c.loop-turn.manifests.items (place_of t) m c.requires.ready.2.granularity (c.loop-turn.invariant.ready c.requires.ready.0 c.requires.ready.2).granularity here))

pub list_taken-requires-clause-unopened : goal.list_taken-requires-clause-unopened
list_taken-requires-clause-unopened g c tells =
    let t = c.loop-turn.turn in
    let taken = turn_here c.args.turns.now t c.index-turns-turn.result c.loop-turn-test.true c.index-turns-turn.is ∙ ap (λ (ys : List TakenFile). Some ys) (sym c.as_slice.ensures.value) in
    unopened_later (g.D.Disk.opened c.args.disk.now) (g.D.Disk.opened c.loop-turn.disk) c.as_slice.result.now (c.loop-turn.invariant.spares tells).fewer (c.requires.unopened tells t c.as_slice.result.now taken)

pub list_taken-requires-clause-few : goal.list_taken-requires-clause-few
list_taken-requires-clause-few g c tells =
    let t = c.loop-turn.turn in
    let taken = turn_here c.args.turns.now t c.index-turns-turn.result c.loop-turn-test.true c.index-turns-turn.is ∙ ap (λ (ys : List TakenFile). Some ys) (sym c.as_slice.ensures.value) in
    c.requires.few tells t c.as_slice.result.now taken

pub returns-in_err-list_taken-clause-stops : goal.returns-in_err-list_taken-clause-stops
returns-in_err-list_taken-clause-stops g c tells image held unlisted same are =
    let t = c.loop-turn.turn in
    let taken = turn_here c.args.turns.now t c.index-turns-turn.result c.loop-turn-test.true c.index-turns-turn.is ∙ ap (λ (ys : List TakenFile). Some ys) (sym c.as_slice.ensures.value) in
    let ms = c.args.manifests.now.items in
    let m = manifest_at ms (place_of t) (omega (arith, count_of c.requires.ready.0 ms c.requires.ready.1 c.requires.ready.2.granularity)) in
    let p = err_from_is_err_and c.from_residual.result c.from_residual.ensures.1 in
    rw p.1
    (turns_stop g.D.Disk image held c.args.catalogue.now.rows unlisted (length c.args.turns.now) c.args.catalogue.now ms c.args.disk.now c.loop-turn.manifests.items c.loop-turn.disk t (c.loop-turn.invariant.goes tells image held unlisted same are) c.loop-turn-test.true m.0.granularity c.as_slice.result.now
    (are t c.as_slice.result.now taken) (c.requires.may tells t c.as_slice.result.now taken m.0.granularity (granularity_at ms (place_of t) m.0 m.1)) (λ n other. journals_same g.D.Disk _ _ (c.loop-turn.invariant.spares tells).now n other ∙ same n other) c.list_taken.new.manifests.items c.list_taken.new.disk (c.in_err-list_taken.ensures.stops tells))

pub returns-in_err-list_taken-clause-spares : goal.returns-in_err-list_taken-clause-spares
returns-in_err-list_taken-clause-spares g c tells = spares_then g.D.Disk c.args.disk.now c.loop-turn.disk c.list_taken.new.disk (c.loop-turn.invariant.spares tells) (c.list_taken.ensures.spares tells)

pub loop-turn-preserved : goal.loop-turn-preserved
loop-turn-preserved g c =
    let t = c.loop-turn.turn in
    let taken = turn_here c.args.turns.now t c.index-turns-turn.result c.loop-turn-test.true c.index-turns-turn.is ∙ ap (λ (ys : List TakenFile). Some ys) (sym c.as_slice.ensures.value) in
    let ms = c.args.manifests.now.items in
    let m = manifest_at ms (place_of t) (omega (arith, count_of c.requires.ready.0 ms c.requires.ready.1 c.requires.ready.2.granularity)) in
    let was = c.loop-turn.invariant in
    record {
      ready = λ gs ready. c.in_ok-list_taken.ensures.ready gs (was.ready gs ready);
      has = λ tells. let made = (c.in_ok-list_taken.ensures.lists tells).makes in let has = was.has tells in (_, made.ends has.0 has.1);
      goes = λ tells image held unlisted same are.
          turns_on g.D.Disk image held c.args.catalogue.now.rows unlisted (length c.args.turns.now) c.args.catalogue.now ms c.args.disk.now c.loop-turn.manifests.items c.loop-turn.disk t (was.goes tells image held unlisted same are) c.loop-turn-test.true m.0.granularity c.as_slice.result.now
          (are t c.as_slice.result.now taken) (c.requires.may tells t c.as_slice.result.now taken m.0.granularity (granularity_at ms (place_of t) m.0 m.1)) (λ n other. journals_same g.D.Disk _ _ (was.spares tells).now n other ∙ same n other) c.list_taken.new.manifests.items c.list_taken.new.disk (c.in_ok-list_taken.ensures.lists tells);
      spares = λ tells. spares_then g.D.Disk c.args.disk.now c.loop-turn.disk c.list_taken.new.disk (was.spares tells) (c.list_taken.ensures.spares tells);
      faults = omega (arith, was.faults, c.list_taken.ensures.faults);
    }

pub returns-clause-goes : goal.returns-clause-goes
returns-clause-goes g c tells image held unlisted same are =
    turns_end g.D.Disk image held c.args.catalogue.now.rows unlisted (length c.args.turns.now) c.args.catalogue.now c.args.manifests.now.items c.args.disk.now c.loop-turn.manifests.items c.loop-turn.disk c.loop-turn.turn (c.loop-turn.invariant.goes tells image held unlisted same are) (omega (arith, c.loop-turn-test.false))
