use Rattle.std.proofs.Common.{◌≡◌, ℕ, ◌≤◌, inr, List, Option, sym, subst, take, ◌∙◌, Err, ap}
use Rattle.std.proofs.lemmas.Result.{err_from_is_err_and}
use Rattle.pb_file.specs.declared.search.SearchErr.{SearchErr}
use Rattle.pb_file.specs.declared.search.SearchErr.TheVariants as search_err
use Rattle.pb_file.proofs.Reading.{same_err}
use Rattle.std.specs.Prelude.{IfSome}
use Rattle.series_model.specs.Series.{before}
use Rattle.pb_messages.specs.declared.info.PayloadInfo.{PayloadInfo}
use Rattle.pb_file.specs.Search.{BeginsWithHeader, HasSampleAt, IsLastLine, IsLineStart, MayBegin}
use Rattle.stream_merge.proofs.Starting.{went, at_line, begins_first, begins_last}
use Rattle.stream_merge.proofs.beginning.skip_earlier.Goals as goal

pub returns-in-Some-clause-at_line : goal.returns-in-Some-clause-at_line
returns-in-Some-clause-at_line g c tells line =
    let R = g.R.ReadAt in
    let old = c.args.walk.now in
    let at = c.in-Some.at in
    let e = c.skip_to.ensures in
    let W : Option ℕ → Type 0 = λ o. IfSome o (λ n. n ≤ c.args.len) in
    let P : ℕ → Type 0 = λ n. at ≤ n in
    let within : at ≤ old.len = subst P (sym c.requires.len) (subst W c.in-Some.is c.in_ok-at.ensures.within) in
    let O : Option ℕ → Type 0 = λ o. IfSome o (λ n. IsLineStart (take c.args.len (R.bytes c.args.file.now)) c.args.head_len n) in
    let S : ℕ → Type 0 = λ n. IsLineStart (take n (R.bytes c.args.file.now)) c.args.head_len at in
    let from : (head : List ℕ) (info : PayloadInfo) → BeginsWithHeader (take c.args.len (R.bytes c.args.file.now)) head info → MayBegin info (take c.args.len (R.bytes c.args.file.now)) c.args.head_len at =
    λ head info begins. inr (inr (subst (λ (o : Option ℕ). IfSome o (λ n. HasSampleAt info (take c.args.len (R.bytes c.args.file.now)) n)) c.in-Some.is (c.in_ok-at.ensures.begins tells head info begins))) in
    let F : ℕ → Type 0 = λ n. (head : List ℕ) (info : PayloadInfo) → BeginsWithHeader (take n (R.bytes c.args.file.now)) head info → MayBegin info (take n (R.bytes c.args.file.now)) c.args.head_len at in
    at_line c.args.head_len old c.skip_to.new.self (R.bytes c.args.file.now) at (went old c.skip_to.new.self at within e.skips e.stays) (subst S (sym c.requires.len) (subst O c.in-Some.is (c.in_ok-at.ensures.start tells))) (subst F (sym c.requires.len) from) e.skipped within line

pub returns-in-Some-clause-begins : goal.returns-in-Some-clause-begins
returns-in-Some-clause-begins g c tells head info samples file size first =
    let old = c.args.walk.now in
    let at = c.in-Some.at in
    let e = c.skip_to.ensures in
    let W : Option ℕ → Type 0 = λ o. IfSome o (λ n. n ≤ c.args.len) in
    let P : ℕ → Type 0 = λ n. at ≤ n in
    let within : at ≤ old.len = subst P (sym c.requires.len) (subst W c.in-Some.is c.in_ok-at.ensures.within) in
    let L : Option ℕ → Type 0 = λ o. IsLastLine head (before c.args.from samples) o in
    begins_last c.args.from head samples old c.skip_to.new.self at file.rising (subst L c.in-Some.is (c.in_ok-at.ensures.place tells head info samples file size)) (first ∙ size) (went old c.skip_to.new.self at within e.skips e.stays)

pub returns-in-None-clause-begins : goal.returns-in-None-clause-begins
returns-in-None-clause-begins g c tells head info samples file size first =
    let L : Option ℕ → Type 0 = λ o. IsLastLine head (before c.args.from samples) o in
    begins_first c.args.from head samples c.args.walk.now.place (subst L c.in-None.is (c.in_ok-at.ensures.place tells head info samples file size)) (first ∙ size)

pub returns-in_err-at-clause-refused : goal.returns-in_err-at-clause-refused
returns-in_err-at-clause-refused g c tells at is =
    let p = err_from_is_err_and c.from_residual.result c.from_residual.ensures.1 in
    let st : c.in_err-at.field-0.0 ≡ search_err.Damaged at = sym p.2 ∙ same_err c.from_residual.result p.0 (search_err.Damaged at) p.1 is in
    c.in_err-at.ensures.refused tells at (ap (λ (x : SearchErr). Err x) st)
