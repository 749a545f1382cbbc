use Rattle.std.proofs.Common.{[], ◌∷◌}
use Rattle.std.proofs.lemmas.Result.{err_from_is_err_and}
use Rattle.http_front.specs.declared.request.Param.TheVariants.{Pv, TypeName, SamplingMethod, SamplingPeriod}
use Rattle.http_front.proofs.Readings.{first_refused, later_refused}
use Rattle.http_front.proofs.call.read_archiving.Goals as goal

pub returns-in_err-pv : goal.returns-in_err-pv
returns-in_err-pv c =
    let p = err_from_is_err_and c.from_residual.result c.from_residual.ensures.1 in
    rw (p.1, p.2) (first_refused c.args.query.now Pv (TypeName ∷ SamplingMethod ∷ SamplingPeriod ∷ []) c.in_err-pv.field-0.0 c.in_err-pv.ensures)

pub returns-in_err-ty : goal.returns-in_err-ty
returns-in_err-ty c =
    let p = err_from_is_err_and c.from_residual-in_err-ty.result c.from_residual-in_err-ty.ensures.1 in
    let query = c.args.query.now in
    let rest = first_refused query TypeName (SamplingMethod ∷ SamplingPeriod ∷ []) c.in_err-ty.field-0.0 c.in_err-ty.ensures in
    rw (p.1, p.2) (later_refused query Pv (TypeName ∷ SamplingMethod ∷ SamplingPeriod ∷ []) c.in_err-ty.field-0.0 (c.in_ok-pv.pv, c.in_ok-pv.ensures) rest)

pub returns-in_err-method : goal.returns-in_err-method
returns-in_err-method c =
    let p = err_from_is_err_and c.from_residual-in_err-method.result c.from_residual-in_err-method.ensures.1 in
    let query = c.args.query.now in
    let rest = later_refused query TypeName (SamplingMethod ∷ SamplingPeriod ∷ []) c.in_err-method.field-0.0 (c.in_ok-ty.ty, c.in_ok-ty.ensures) c.in_err-method.ensures in
    rw (p.1, p.2) (later_refused query Pv (TypeName ∷ SamplingMethod ∷ SamplingPeriod ∷ []) c.in_err-method.field-0.0 (c.in_ok-pv.pv, c.in_ok-pv.ensures) rest)
