use Rattle.std.proofs.Common.{◌≡◌, ℕ, refl, sym, ap, ◌∙◌, arith}
use Rattle.intake.specs.Tails.{tail_at}
use Rattle.series_model.specs.Series.{since}
use Rattle.intake_half.proofs.Telling.{since_start}
use Rattle.intake_half.proofs.taking.trim_tail.Goals as goal

pub returns-else-end-gt0 : goal.returns-else-end-gt0
returns-else-end-gt0 c =
    let tail = (tail_at c.args.intake.now c.args.row).samples in
    let none : 0 ≡ c.args.end = omega (arith, c.if-end-gt0.false) in
    record { own = sym (since_start tail) ∙ ap (λ (n : ℕ). since n tail) none; others = λ other apart. refl }
