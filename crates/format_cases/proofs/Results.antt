-- Facts of results, put together.
use Rattle.std.specs.Prelude.{OnOk, IfOk, Ok, Err, Bool, true, false, ◌≡◌}
use Rattle.std.proofs.Common.{Result, refl}

pub both_on_ok : {T E : Type 0} → (r : Result T E) (P Q R : Type 0) → (P → Q → R) → OnOk r P → OnOk r Q → OnOk r R
both_on_ok (Ok x) P Q R f p q = f p q
both_on_ok (Err e) P Q R f p q = tt

-- an answer that tells which of two facts holds
pub either_if_ok : {E : Type 0} → (r : Result Bool E) (P Q R S : Type 0) → (P → Q → S) → (P → R → S) → OnOk r P → IfOk r (λ b. b ≡ true → Q) → IfOk r (λ b. b ≡ false → R) → OnOk r S
either_if_ok (Ok true) P Q R S f g p q r = f p (q refl)
either_if_ok (Ok false) P Q R S f g p q r = g p (r refl)
either_if_ok (Err e) P Q R S f g p q r = tt
