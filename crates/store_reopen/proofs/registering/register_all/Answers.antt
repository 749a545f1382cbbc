use Rattle.std.proofs.Common.{◌≡◌, ◌+◌, ◌∷◌, [], ℕ, List, drop, sym, subst, arith}
use Rattle.std.proofs.lemmas.List.{drop_all}
use Rattle.store_reopen.specs.Adoption.{GetRows, done, other}
use Rattle.store_reopen.specs.Runs.{Rule}
use Rattle.store_reopen.specs.Steps.{Step}
use Rattle.store_reopen.specs.declared.finding.Unlisted.{Unlisted}
use Rattle.store_reopen.proofs.Swept.{spares_none, spares_then}
use Rattle.store_reopen.proofs.TakenFiles.{goes_none, on_err}
use Rattle.store_reopen.proofs.Stages.{goes_by, goes_has, goes_stops, goes_then, next_item, none_of}
use Rattle.store_reopen.proofs.registering.register_all.Goals as goal

pub loop-file-init : goal.loop-file-init
loop-file-init g c = record {
  goes = λ told ms has. goes_none g.D.Disk c.args.catalogue.now ms c.args.disk.now (λ whole. GetRows whole c.args.catalogue.now.rows [] c.args.unlisted.now) (λ whole. GetRows whole c.args.catalogue.now.rows c.new-long.result.items c.args.unlisted.now) (λ whole more left.
      subst (λ (l : List (List ℕ)). GetRows whole c.args.catalogue.now.rows l c.args.unlisted.now more) c.new-long.ensures.items left);
  sound = c.requires.sound;
  more = omega arith;
  ready = λ gs ms ready. ready;
  spares = λ told. spares_none g.D.Disk c.args.disk.now;
  faults = omega arith;
}

pub loop-file-preserved-in_default : goal.loop-file-preserved-in_default
loop-file-preserved-in_default g c = record {
  goes = λ told ms has.
      let x = c.file-item.result in
      let next = next_item c.args.unlisted.now c.loop-file.file-index x c.loop-file-test.true c.file-item.is in
      let rule : Rule = λ whole. GetRows whole c.args.catalogue.now.rows [] c.args.unlisted.now in
      let left : Rule = λ whole. GetRows whole c.loop-file.catalogue.rows c.loop-file.long.items (drop c.loop-file.file-index c.args.unlisted.now) in
      let less : Rule = λ whole. GetRows whole c.loop-file.catalogue.rows c.loop-file.long.items (drop (c.loop-file.file-index + 1) c.args.unlisted.now) in
      goes_by g.D.Disk c.args.catalogue.now ms c.args.disk.now c.loop-file.catalogue ms c.loop-file.disk rule left less (c.loop-file.invariant.goes told ms has) (λ whole more rest.
      subst (λ (l : List Unlisted). GetRows whole c.loop-file.catalogue.rows c.loop-file.long.items l more) (sym next) (other (none_of x.candidate c.in_default.not-Some) rest));
  sound = c.loop-file.invariant.sound;
  more = c.loop-file.invariant.more;
  ready = c.loop-file.invariant.ready;
  spares = c.loop-file.invariant.spares;
  faults = c.loop-file.invariant.faults;
}

pub register-requires-clause-has : goal.register-requires-clause-has
register-requires-clause-has g c told =
    let r = c.requires.has told in
    let rule : Rule = λ whole. GetRows whole c.args.catalogue.now.rows [] c.args.unlisted.now in
    let left : Rule = λ whole. GetRows whole c.loop-file.catalogue.rows c.loop-file.long.items (drop c.loop-file.file-index c.args.unlisted.now) in
    let now = goes_has g.D.Disk c.args.catalogue.now r.0 c.args.disk.now c.loop-file.catalogue r.0 c.loop-file.disk rule left (c.loop-file.invariant.goes told r.0 (r.1, r.2)) (r.1, r.2) in
    (r.0, now.0, now.1)

pub loop-file-preserved : goal.loop-file-preserved
loop-file-preserved g c = record {
  goes = λ told ms has.
      let x = c.file-item.result in
      let xs = drop (c.loop-file.file-index + 1) c.args.unlisted.now in
      let next = next_item c.args.unlisted.now c.loop-file.file-index x c.loop-file-test.true c.file-item.is in
      let rule : Rule = λ whole. GetRows whole c.args.catalogue.now.rows [] c.args.unlisted.now in
      let mid : Rule = λ whole. GetRows whole c.loop-file.catalogue.rows c.loop-file.long.items (drop c.loop-file.file-index c.args.unlisted.now) in
      let mine : Rule = λ whole. GetRows whole c.loop-file.catalogue.rows c.loop-file.long.items (x ∷ xs) in
      let less : Rule = λ whole. GetRows whole c.register.new.catalogue.rows c.register.new.long.items xs in
      let so = c.loop-file.invariant.goes told ms has in
      let now = goes_has g.D.Disk c.args.catalogue.now ms c.args.disk.now c.loop-file.catalogue ms c.loop-file.disk rule mid so has in
      let one = goes_by g.D.Disk c.args.catalogue.now ms c.args.disk.now c.loop-file.catalogue ms c.loop-file.disk rule mid mine so (λ whole more rest. subst (λ (l : List Unlisted). GetRows whole c.loop-file.catalogue.rows c.loop-file.long.items l more) (sym next) rest) in
      goes_then g.D.Disk c.args.catalogue.now ms c.args.disk.now c.loop-file.catalogue ms c.loop-file.disk c.register.new.catalogue ms c.register.new.disk rule mine less one (c.in_ok-register.ensures.goes told ms now x xs c.in-Some.is);
  sound = c.in_ok-register.ensures.sound;
  more = omega (arith, c.loop-file.invariant.more, c.in_ok-register.ensures.more);
  ready = λ gs ms ready. c.in_ok-register.ensures.ready gs ms (c.loop-file.invariant.ready gs ms ready);
  spares = λ told. spares_then g.D.Disk c.args.disk.now c.loop-file.disk c.register.new.disk (c.loop-file.invariant.spares told) (c.register.ensures.spares told);
  faults = omega (arith, c.loop-file.invariant.faults, c.register.ensures.faults);
}

pub returns-in_err-register-clause-stops : goal.returns-in_err-register-clause-stops
returns-in_err-register-clause-stops g c told ms has =
    let x = c.file-item.result in
    let xs = drop (c.loop-file.file-index + 1) c.args.unlisted.now in
    let next = next_item c.args.unlisted.now c.loop-file.file-index x c.loop-file-test.true c.file-item.is in
    let rule : Rule = λ whole. GetRows whole c.args.catalogue.now.rows [] c.args.unlisted.now in
    let mid : Rule = λ whole. GetRows whole c.loop-file.catalogue.rows c.loop-file.long.items (drop c.loop-file.file-index c.args.unlisted.now) in
    let mine : Rule = λ whole. GetRows whole c.loop-file.catalogue.rows c.loop-file.long.items (x ∷ xs) in
    let so = c.loop-file.invariant.goes told ms has in
    let now = goes_has g.D.Disk c.args.catalogue.now ms c.args.disk.now c.loop-file.catalogue ms c.loop-file.disk rule mid so has in
    let one = goes_by g.D.Disk c.args.catalogue.now ms c.args.disk.now c.loop-file.catalogue ms c.loop-file.disk rule mid mine so (λ whole more rest. subst (λ (l : List Unlisted). GetRows whole c.loop-file.catalogue.rows c.loop-file.long.items l more) (sym next) rest) in
    on_err c.from_residual.result (goes_stops g.D.Disk c.args.catalogue.now ms c.args.disk.now c.loop-file.catalogue ms c.loop-file.disk c.register.new.catalogue ms c.register.new.disk rule mine one (c.in_err-register.ensures.stops told ms now x xs c.in-Some.is))

pub returns-in_err-register-clause-spares : goal.returns-in_err-register-clause-spares
returns-in_err-register-clause-spares g c told = spares_then g.D.Disk c.args.disk.now c.loop-file.disk c.register.new.disk (c.loop-file.invariant.spares told) (c.register.ensures.spares told)

pub returns-clause-goes : goal.returns-clause-goes
returns-clause-goes g c told ms has =
    let rule : Rule = λ whole. GetRows whole c.args.catalogue.now.rows [] c.args.unlisted.now in
    let mid : Rule = λ whole. GetRows whole c.loop-file.catalogue.rows c.loop-file.long.items (drop c.loop-file.file-index c.args.unlisted.now) in
    let none = drop_all c.loop-file.file-index c.args.unlisted.now (omega (arith, c.loop-file-test.false)) in
    goes_by g.D.Disk c.args.catalogue.now ms c.args.disk.now c.loop-file.catalogue ms c.loop-file.disk rule mid (λ whole steps. steps ≡ []) (c.loop-file.invariant.goes told ms has) (λ whole more is.
    subst (λ (l : List Step). mid whole l) (sym is) (subst (λ (l : List Unlisted). GetRows whole c.loop-file.catalogue.rows c.loop-file.long.items l []) (sym none) done))
