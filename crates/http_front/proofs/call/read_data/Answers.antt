use Rattle.std.proofs.Common.{[], ◌∷◌}
use Rattle.std.proofs.lemmas.Result.{err_from_is_err_and}
use Rattle.http_front.specs.declared.request.Param.TheVariants.{PvOrBins, From, To}
use Rattle.http_front.proofs.Readings.{first_refused, later_refused}
use Rattle.http_front.proofs.call.read_data.Goals as goal

pub returns-in_err-asked : goal.returns-in_err-asked
returns-in_err-asked c =
    let p = err_from_is_err_and c.from_residual.result c.from_residual.ensures.1 in
    rw (p.1, p.2) (first_refused c.args.query.now PvOrBins (From ∷ To ∷ []) c.in_err-asked.field-0.0 c.in_err-asked.ensures)

pub returns-in_err-interval : goal.returns-in_err-interval
returns-in_err-interval c =
    let p = err_from_is_err_and c.from_residual-in_err-interval.result c.from_residual-in_err-interval.ensures.1 in
    rw (p.1, p.2) (later_refused c.args.query.now PvOrBins (From ∷ To ∷ []) c.in_err-interval.field-0.0 (c.in_ok-asked.asked.0, c.in_ok-asked.asked.1, c.in_ok-asked.ensures) c.in_err-interval.ensures)
