use Rattle.std.proofs.Common.{[], ◌∷◌}
use Rattle.std.proofs.lemmas.Result.{err_from_is_err_and}
use Rattle.http_front.specs.declared.request.Param.TheVariants.{From, To}
use Rattle.http_front.proofs.Readings.{first_refused, later_refused}
use Rattle.http_front.proofs.query.read_interval.Goals as goal

pub returns-in_err-from : goal.returns-in_err-from
returns-in_err-from c =
    let p = err_from_is_err_and c.from_residual.result c.from_residual.ensures.1 in
    rw (p.1, p.2) (first_refused c.args.query.now From (To ∷ []) c.in_err-from.field-0.0 c.in_err-from.ensures)

pub returns-in_err-to : goal.returns-in_err-to
returns-in_err-to c =
    let p = err_from_is_err_and c.from_residual-in_err-to.result c.from_residual-in_err-to.ensures.1 in
    rw (p.1, p.2) (later_refused c.args.query.now From (To ∷ []) c.in_err-to.field-0.0 (c.in_ok-from.from, c.in_ok-from.ensures) c.in_err-to.ensures)
