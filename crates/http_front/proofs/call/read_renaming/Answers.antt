use Rattle.std.proofs.Common.{[], ◌∷◌}
use Rattle.std.proofs.lemmas.Result.{err_from_is_err_and}
use Rattle.http_front.specs.declared.request.Param.TheVariants.{Pv, NewName}
use Rattle.http_front.proofs.Readings.{first_refused, later_refused}
use Rattle.http_front.proofs.call.read_renaming.Goals as goal

pub returns-in_err-pv : goal.returns-in_err-pv
returns-in_err-pv c =
    let p = err_from_is_err_and c.from_residual.result c.from_residual.ensures.1 in
    rw (p.1, p.2) (first_refused c.args.query.now Pv (NewName ∷ []) c.in_err-pv.field-0.0 c.in_err-pv.ensures)

pub returns-in_err-newname : goal.returns-in_err-newname
returns-in_err-newname c =
    let p = err_from_is_err_and c.from_residual-in_err-newname.result c.from_residual-in_err-newname.ensures.1 in
    rw (p.1, p.2) (later_refused c.args.query.now Pv (NewName ∷ []) c.in_err-newname.field-0.0 (c.in_ok-pv.pv, c.in_ok-pv.ensures) c.in_err-newname.ensures)
