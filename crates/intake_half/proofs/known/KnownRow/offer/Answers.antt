use Rattle.std.proofs.Common.{refl, sym, ◌∙◌}
use Rattle.intake_half.proofs.known.KnownRow.offer.Goals as goal

pub returns-in-Some : goal.returns-in-Some
returns-in-Some c = rw (sym c.reason_by_row.ensures ∙ c.in-Some.is) (refl, refl, refl)

pub returns-in-None : goal.returns-in-None
returns-in-None c = rw (sym c.reason_by_row.ensures ∙ c.in-None.is) (c.offer_row.new.memory, c.offer_row.ensures, refl)
