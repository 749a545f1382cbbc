use Rattle.std.proofs.Common.{◌≡◌, ◌+◌, ℕ, [], ◌∷◌, ◌++◌, length, List, Ok, Err, ◌∙◌, ap, subst, arith}
use Rattle.std.proofs.lemmas.List.{length_push}
use Rattle.std.proofs.lemmas.Result.{err_from_is_err_and}
use Rattle.disk_model.specs.Files.{Files}
use Rattle.disk_model.proofs.Passing.{passes_then}
use Rattle.gate_journal.proofs.Loading.{one_more_read, all_read, cut_off_at}
use Rattle.gate_journal.specs.declared.load_plain.PlainErr.{PlainErr}
use Rattle.gate_journal.specs.declared.load_plain.PlainErr.TheVariants.{BadJournal}
use Rattle.gate_journal.proofs.load_plain.walk.Goals as goal

pub returns-in_err-batch-clause-bad : goal.returns-in_err-batch-clause-bad
returns-in_err-batch-clause-bad g c =
    let p = err_from_is_err_and c.from_residual-in_err-batch.result c.from_residual-in_err-batch.ensures.1 in
    rw (p.1, p.2) (λ tells b is at failed.
    let same : c.in_err-batch.field-0.0 ≡ BadJournal at = cc failed in
    let there = ap (λ (f : Files). f c.args.name.now) (c.loop-window.invariant.reads tells).same ∙ is in
    let read = c.loop-window.invariant.took in
    cut_off_at b c.loop-window.place at read.0 (read.3 tells b is) (c.in_err-batch.ensures.bad tells b there at (ap (λ (x : PlainErr). Err x) same)))

pub take-requires : goal.take-requires
take-requires g c = let read = c.loop-window.invariant.took in (read.0, read.1, read.2)

pub loop-window-preserved : goal.loop-window-preserved
loop-window-preserved g c =
    let fits = rw c.in-Some.is at c.in_ok-batch.ensures.fits in
    let moved : c.loop-window.place + (5 + c.len.result) ≡ c.loop-window.place + 5 + length c.in-Some.batch.items = omega (arith, c.len.ensures) in
    let read = c.loop-window.invariant.took in
    record {
      within = omega (arith, fits.1, moved, c.loop-window.invariant.size);
      counted = omega (arith, c.loop-window.invariant.counted);
      size = c.next.ensures.size ∙ c.loop-window.invariant.size;
      piece = λ tells b is. c.in_ok-batch.ensures.piece tells b (ap (λ (f : Files). f c.args.name.now) (c.loop-window.invariant.reads tells).same ∙ is);
      took = (
        read.0 ++ c.in-Some.batch.items ∷ [],
        let P : List ℕ → Type 0 = λ l. g.F.BatchFold.took c.take.new.self (read.0 ++ l ∷ []) in subst P c.deref.ensures.value (c.in_ok-take.ensures read.0 read.1 read.2),
        omega (arith, read.2, length_push read.0 c.in-Some.batch.items),
        λ tells b is.
            let there = ap (λ (f : Files). f c.args.name.now) (c.loop-window.invariant.reads tells).same ∙ is in
            let whole = rw c.in-Some.is at (c.in_ok-batch.ensures.whole tells b there) in
            rw moved (one_more_read b c.in-Some.batch.items c.loop-window.place read.0 (read.3 tells b is) fits.0 whole),
      );
      reads = λ tells.
          let before = c.loop-window.invariant.reads tells in
          let step = c.next.ensures.reads tells in
          record {
            same = step.same ∙ before.same;
            same_opened = step.same_opened ∙ before.same_opened;
            any_moment = passes_then _ _ _ _ _ before.any_moment step.any_moment (λ a b d was earlier now more. more ∙ earlier);
          };
      faults = omega (arith, c.next.ensures.faults, c.loop-window.invariant.faults);
    }

pub returns-clause-loaded : goal.returns-clause-loaded
returns-clause-loaded g c =
    let read = c.loop-window.invariant.took in (
      read.0,
      read.1,
      λ tells b is.
          let there = ap (λ (f : Files). f c.args.name.now) (c.loop-window.invariant.reads tells).same ∙ is in
          let shut = c.next.ensures.shut tells b there (c.in_ok-batch.was ∙ ap (λ x. Ok x) c.in_default.is) in
          (all_read b c.loop-window.place read.0 (read.3 tells b is) shut, (read.3 tells b is).is_at),
    )
