use Rattle.std.proofs.Common.{◌≡◌, ◌+◌, ◌-◌, ◌∙◌, Err, ℕ, sym, ap, subst, arith}
use Rattle.std.proofs.lemmas.Result.{err_from_is_err_and}
use Rattle.pb_file.specs.declared.search.SearchErr.{SearchErr}
use Rattle.pb_file.specs.declared.search.SearchErr.TheVariants as search_err
use Rattle.pb_file.proofs.Reading.{same_err}
use Rattle.series_model.specs.Series.{before}
use Rattle.pb_file.specs.Search.{IsLastLine}
use Rattle.series_model.proofs.AnswerLemmas.{before_none}
use Rattle.pb_file.proofs.search.last_before.Goals as goal

pub returns-then-t-eq0-clause-place : goal.returns-then-t-eq0-clause-place
returns-then-t-eq0-clause-place g c tells head info samples file first = before_none c.args.t 0 samples file.rising (omega (arith, c.if-t-eq0.true))

pub returns-clause-place : goal.returns-clause-place
returns-clause-place g c tells head info samples file first =
    let n : (c.args.t - 1) + 1 ≡ c.args.t = omega (arith, c.if-t-eq0.false) in
    let P : ℕ → Type 0 = λ m. IsLastLine head (before m samples) c.in_ok-parted.parted.last in
    subst P n (c.in_ok-parted.ensures.parted tells head info samples file first).1

pub returns-in_err-parted-clause-refused : goal.returns-in_err-parted-clause-refused
returns-in_err-parted-clause-refused g c tells at is =
    let p = err_from_is_err_and c.from_residual.result c.from_residual.ensures.1 in
    let st : c.in_err-parted.field-0.0 ≡ search_err.Damaged at = sym p.2 ∙ same_err c.from_residual.result p.0 (search_err.Damaged at) p.1 is in
    c.in_err-parted.ensures.refused tells at (ap (λ (x : SearchErr). Err x) st)

pub returns-clause-begins : goal.returns-clause-begins
returns-clause-begins g c tells head info b = (c.in_ok-parted.ensures.begins tells head info b).1
