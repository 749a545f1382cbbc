-- Lists by their places.
use Rattle.std.proofs.Common.{◌≡◌, ℕ, zero, suc, ◌<◌, List, [], ◌∷◌, length, get_or, Some, refl, sym, ◌∙◌, ap}
use Rattle.std.specs.Prelude.{slice_get, slice_set}
use Rattle.std.proofs.lemmas.Option.{same_Some, slice_get-get_or}

-- what is read at a place is the element there
pub read_at : {A : Type 0} (xs : List A) (i : ℕ) (x : A) → x ≡ get_or xs i x → i < length xs → slice_get xs i ≡ Some x
read_at {A} xs i x is low = slice_get-get_or xs i x low ∙ ap (λ (y : A). Some y) (sym is)

-- setting what is there changes nothing
pub set_same : {A : Type 0} (xs : List A) (i : ℕ) (x : A) → slice_get xs i ≡ Some x → slice_set xs i x ≡ xs
set_same {A} [] i x here = refl
set_same {A} (y ∷ xs) zero x here = ap (λ (w : A). w ∷ xs) (sym (same_Some y x here))
set_same {A} (y ∷ xs) (suc i) x here = ap (λ (l : List A). y ∷ l) (set_same xs i x here)
