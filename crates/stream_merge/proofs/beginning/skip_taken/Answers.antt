use Rattle.std.proofs.Common.{◌≡◌, ℕ, ◌+◌, ◌≤◌, List, sym, subst, take, Err, ap, ◌∙◌}
use Rattle.std.proofs.lemmas.Result.{err_from_is_err_and}
use Rattle.pb_file.specs.declared.search.SearchErr.{SearchErr}
use Rattle.pb_file.specs.declared.search.SearchErr.TheVariants as search_err
use Rattle.pb_file.proofs.Reading.{same_err}
use Rattle.pb_messages.specs.declared.info.PayloadInfo.{PayloadInfo}
use Rattle.pb_file.specs.Search.{BeginsWithHeader, IsLineStart, MayBegin}
use Rattle.stream_merge.proofs.Starting.{went, at_line, begins_from}
use Rattle.stream_merge.proofs.beginning.skip_taken.Goals as goal

pub returns-clause-at_line : goal.returns-clause-at_line
returns-clause-at_line g c tells line =
    let R = g.R.ReadAt in
    let old = c.args.walk.now in
    let at = c.in_ok-at.at in
    let e = c.skip_to.ensures in
    let within : at ≤ old.len = let P : ℕ → Type 0 = λ n. at ≤ n in subst P (sym c.requires.len) c.in_ok-at.ensures.within in
    let S : ℕ → Type 0 = λ n. IsLineStart (take n (R.bytes c.args.file.now)) c.args.head_len at in
    let F : ℕ → Type 0 = λ n. (head : List ℕ) (info : PayloadInfo) → BeginsWithHeader (take n (R.bytes c.args.file.now)) head info → MayBegin info (take n (R.bytes c.args.file.now)) c.args.head_len at in
    at_line c.args.head_len old c.skip_to.new.self (R.bytes c.args.file.now) at (went old c.skip_to.new.self at within e.skips e.stays) (subst S (sym c.requires.len) (c.in_ok-at.ensures.start tells)) (subst F (sym c.requires.len) (c.in_ok-at.ensures.begins tells)) e.skipped within line

pub returns-clause-begins : goal.returns-clause-begins
returns-clause-begins g c tells head info samples here file size split =
    let old = c.args.walk.now in
    let at = c.in_ok-at.at in
    let e = c.skip_to.ensures in
    let within : at ≤ old.len = let P : ℕ → Type 0 = λ n. at ≤ n in subst P (sym c.requires.len) c.in_ok-at.ensures.within in
    begins_from (c.args.last + 1) head samples here old c.skip_to.new.self at file.rising (c.in_ok-at.ensures.place tells head info samples file size) split (went old c.skip_to.new.self at within e.skips e.stays)

pub returns-in_err-at-clause-refused : goal.returns-in_err-at-clause-refused
returns-in_err-at-clause-refused g c tells at is =
    let p = err_from_is_err_and c.from_residual.result c.from_residual.ensures.1 in
    let st : c.in_err-at.field-0.0 ≡ search_err.Damaged at = sym p.2 ∙ same_err c.from_residual.result p.0 (search_err.Damaged at) p.1 is in
    c.in_err-at.ensures.refused tells at (ap (λ (x : SearchErr). Err x) st)
