use Rattle.std.proofs.Common.{◌≡◌, ◌∙◌, Err, sym, ap}
use Rattle.std.proofs.lemmas.Result.{err_from_is_err_and}
use Rattle.pb_file.specs.declared.search.SearchErr.{SearchErr}
use Rattle.pb_file.specs.declared.search.SearchErr.TheVariants as search_err
use Rattle.pb_file.proofs.Reading.{same_err}
use Rattle.pb_file.proofs.search.first_after.Goals as goal

pub returns-in_err-parted-clause-refused : goal.returns-in_err-parted-clause-refused
returns-in_err-parted-clause-refused g c tells at is =
    let p = err_from_is_err_and c.from_residual.result c.from_residual.ensures.1 in
    let st : c.in_err-parted.field-0.0 ≡ search_err.Damaged at = sym p.2 ∙ same_err c.from_residual.result p.0 (search_err.Damaged at) p.1 is in
    c.in_err-parted.ensures.refused tells at (ap (λ (x : SearchErr). Err x) st)

pub returns-clause-begins : goal.returns-clause-begins
returns-clause-begins g c tells head info b = (c.in_ok-parted.ensures.begins tells head info b).0
