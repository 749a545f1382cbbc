use Rattle.std.proofs.Common.{subst}
use Rattle.std.specs.Prelude.{IfSome}
use Rattle.unit_cases.specs.Counting.{counts_acts}
use Rattle.turn_rooms.specs.Passes.{IsPassOf, TakesBack}
use Rattle.turn_rooms.proofs.Joining.{meets_back}
use Rattle.unit_cases.proofs.rooms.four_work.Goals as goal

pub returns-in-Some-Some : goal.returns-in-Some-Some
returns-in-Some-Some g c =
    let r = c.args.rooms.now in let both = c.join-pass.ensures in let met = c.meet.ensures in let these = c.in-Some-Some in
    let mine = subst (λ o. IfSome o (λ p. IsPassOf counts_acts r p × TakesBack c.part.new.pass p)) these.is-0 both.first in
    let theirs = subst (λ o. IfSome o (λ p. IsPassOf counts_acts r p × TakesBack c.in-Ok.note p)) these.is-1 both.second in
    (met.rooms, meets_back counts_acts r c.args.pass c.part.new.pass these.pass c.meet.new.pass c.in-Ok.note these.note c.in-Ok.ensures.parts mine.1 theirs.1 met)
