use Rattle.std.proofs.Common.{◌≡◌, ◌≤◌, ◌<◌, ◌+◌, ℕ, Result, Ok, Err, refl, arith, ◌↔◌}
use Rattle.std.specs.Prelude.{OnOk}
use Rattle.intake.specs.declared.intake.OfferErr.{OfferErr}
use Rattle.intake.specs.declared.intake.OfferErr.TheVariants.{IntakeFull, Memory}
use Rattle.intake_half.proofs.trying.keep.Goals as goal

-- an offer for which there is room and memory is held
is_held : {X : Type 0} (r : Result (Unit {0}) OfferErr) (held len spare : ℕ) → OnOk r X → ((h : ℕ) → (r ≡ Err (IntakeFull h)) ↔ ((h ≡ held) × (67108864 < held + (len + 1)))) → (r ≡ Err Memory → spare ≡ 0) → held + (len + 1) ≤ 67108864 → 1 ≤ spare → X
is_held {X} (Ok a) held len spare ok full memory room some = ok
is_held {X} (Err (IntakeFull h)) held len spare ok full memory room some = absurd (let over = ((full h).0 refl).1 in omega (arith, over, room))
is_held {X} (Err Memory) held len spare ok full memory room some = absurd (let none = memory refl in omega (arith, none, some))

pub returns-clause-tail : goal.returns-clause-tail
returns-clause-tail c = is_held c.offer.result _ _ _ c.offer.ensures.held c.offer.ensures.full c.offer.ensures.memory c.requires.room c.requires.spare
