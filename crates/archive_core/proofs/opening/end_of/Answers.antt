use Rattle.std.proofs.Common.{ℕ, ◌-◌, length, min, sym, ◌∙◌, ap, arith}
use Rattle.std.specs.Option.{option_copied}
use Rattle.std.proofs.lemmas.Option.{slice_get_within}
use Rattle.archive_core.proofs.MoveChoice.{last_end}
use Rattle.archive_core.proofs.opening.end_of.Goals as goal

pub returns-in-Some : goal.returns-in-Some
returns-in-Some c =
    let entries = c.args.entries.now in
    let here = sym c.last.ensures.value ∙ ap option_copied c.in-Some.is in
    let low = slice_get_within entries (length entries - 1) c.in-Some.entry.now here in
    c.saturating_add.ensures ∙ ap (λ (n : ℕ). min n 18446744073709551615) (sym (last_end 0 entries c.in-Some.entry.now (length entries - 1) here (omega (arith, low))))
