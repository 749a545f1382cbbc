use Rattle.std.proofs.Common.{◌≡◌, ℕ, ◌+◌, List, Option, sym, ap, subst, take, ◌∙◌, Err}
use Rattle.std.proofs.lemmas.Result.{err_from_is_err_and}
use Rattle.pb_file.specs.declared.search.SearchErr.{SearchErr}
use Rattle.pb_file.specs.declared.search.SearchErr.TheVariants as search_err
use Rattle.pb_file.proofs.Reading.{same_err}
use Rattle.pb_lines.specs.File.{IsFile, HasNoHeader}
use Rattle.pb_file.specs.Walk.{behind}
use Rattle.stream_merge.specs.Beginning.{BeginsWell, BeginsFrom}
use Rattle.stream_merge.proofs.Starting.{begins_well_first, begins_well, behind_none, on_ok}
use Rattle.stream_merge.proofs.beginning.skip.Goals as goal

pub returns-in_default-clause-begins : goal.returns-in_default-clause-begins
returns-in_default-clause-begins g c tells head info samples file first =
    let place = c.place-head_len.ensures.place in
    let b = c.in_ok-skip_earlier.ensures.begins tells head info samples file (place ∙ first) (sym place) in
    let N : ℕ → Type 0 = λ n. BeginsWell n c.args.query head samples c.skip_earlier.new.walk.place in
    subst N (sym (behind_none c.args.last c.in_default.not-Some)) (begins_well_first c.args.query head samples c.skip_earlier.new.walk.place file.rising b)

pub returns-clause-begins : goal.returns-clause-begins
returns-clause-begins g c tells head info samples file first =
    let R = g.R.ReadAt in
    let place = c.place-head_len.ensures.place in
    let last = c.in-Some.last in
    let e = c.in_ok-skip_earlier.ensures in
    let b = e.begins tells head info samples file (place ∙ first) (sym place) in
    let F : List ℕ → Type 0 = λ l. IsFile (take c.args.len l) head info samples in
    let N : Option ℕ → Type 0 = λ o. BeginsWell (behind o) c.args.query head samples c.skip_taken.new.walk.place in
    on_ok c.skip_taken.result (BeginsFrom (last + 1) head samples b.here c.skip_taken.new.walk.place) (BeginsWell (behind c.args.last) c.args.query head samples c.skip_taken.new.walk.place)
    (λ f. subst N (sym c.in-Some.is) (begins_well (last + 1) c.args.query head samples c.skip_earlier.new.walk.place c.skip_taken.new.walk.place file.rising b f))
    (c.skip_taken.ensures.begins tells head info samples b.here (subst F (sym (e.same tells)) file) (place ∙ first) b.split)

pub returns-clause-refused : goal.returns-clause-refused
returns-clause-refused g c tells at is =
    let R = g.R.ReadAt in
    let B : List ℕ → Type 0 = λ l. HasNoHeader (take c.args.len l) in
    let bad = c.skip_taken.ensures.refused tells at is in
    (bad.0, subst B (c.in_ok-skip_earlier.ensures.same tells) bad.1)

pub returns-in_err-skip_earlier-clause-refused : goal.returns-in_err-skip_earlier-clause-refused
returns-in_err-skip_earlier-clause-refused g c tells at is =
    let p = err_from_is_err_and c.from_residual.result c.from_residual.ensures.1 in
    let st : c.in_err-skip_earlier.field-0.0 ≡ search_err.Damaged at = sym p.2 ∙ same_err c.from_residual.result p.0 (search_err.Damaged at) p.1 is in
    c.in_err-skip_earlier.ensures.refused tells at (ap (λ (x : SearchErr). Err x) st)
