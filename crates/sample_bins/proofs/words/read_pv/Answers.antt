use Rattle.std.proofs.Common.{◌≡◌, ◌≢◌, [], refl, rules}
use Rattle.sample_bins.proofs.Asking.{on_none, closed_only, no_name, no_operator}
use Rattle.sample_bins.proofs.words.read_pv.Goals as goal

pub returns-then-has_end-clause-none : goal.returns-then-has_end-clause-none
returns-then-has_end-clause-none c =
    let empty : c.cut_at.result.1.now ≡ [] = search rules in
    closed_only c.args.text.now c.cut_at.result.0.now c.cut_at.result.1.now c.cut_at.ensures empty (c.if-has_end.ensures.some refl)

pub returns-in_err-name-clause-none : goal.returns-in_err-name-clause-none
returns-in_err-name-clause-none c =
    let some : c.cut_at.result.1.now ≢ [] = search rules in
    on_none c.from_residual.result (no_name c.args.text.now c.cut_at.result.0.now c.cut_at.result.1.now c.cut_at.ensures some c.in_err-name.ensures.none)

pub returns-in_err-op-clause-none : goal.returns-in_err-op-clause-none
returns-in_err-op-clause-none c =
    let some : c.cut_at.result.1.now ≢ [] = search rules in
    on_none c.from_residual-in_err-op.result (no_operator c.args.text.now c.cut_at.result.0.now c.cut_at.result.1.now c.cut_at.ensures some c.in_err-op.ensures.none)
