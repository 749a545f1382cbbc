-- Edits of a list behind a front of it that is left out.
use Rattle.std.proofs.Common.{◌≡◌, ℕ, suc, ◌+◌, ◌≤◌, ◌<◌, List, ◌++◌, ◌∷◌, length, take, drop, sym, ◌∙◌, ap, arith}
use Rattle.std.proofs.lemmas.List.{drop-take, drop-drop, drop-append-le, drop-set-add, set_split, length-take-le}
use Rattle.std.specs.List.{insert, slice_set}

module _ {X : Type 0} (front at : ℕ) (xs : List X) where
  pub behind : (rest : List X) → front + at ≤ length xs → drop front (take (front + at) xs ++ rest) ≡ take at (drop front xs) ++ rest
  behind rest within =
      drop-append-le front (take (front + at) xs) rest (omega (arith, within, length-take-le (front + at) xs within))
      ∙ ap (λ (l : List X). l ++ rest) (drop-take front at xs)

  pub inserted : (x : X) → front + at ≤ length xs → drop front (insert xs (front + at) x) ≡ take at (drop front xs) ++ x ∷ drop at (drop front xs)
  inserted x within =
      behind (x ∷ drop (front + at) xs) within
      ∙ ap (λ (l : List X). take at (drop front xs) ++ x ∷ l) (sym (drop-drop at front xs))

  pub removed : front + at ≤ length xs → drop front (take (front + at) xs ++ drop (front + at + 1) xs) ≡ take at (drop front xs) ++ drop (at + 1) (drop front xs)
  removed within =
      let far : front + at + 1 ≡ front + (at + 1) = omega arith in
      behind (drop (front + at + 1) xs) within
      ∙ ap (λ (l : List X). take at (drop front xs) ++ l) (ap (λ (k : ℕ). drop k xs) far ∙ sym (drop-drop (at + 1) front xs))

  pub replaced : (x : X) → at < length (drop front xs) → drop front (slice_set xs (front + at) x) ≡ take at (drop front xs) ++ x ∷ drop (at + 1) (drop front xs)
  replaced x within =
      let far : suc at ≡ at + 1 = omega arith in
      drop-set-add front xs at x
      ∙ set_split (drop front xs) at x within
      ∙ ap (λ (k : ℕ). take at (drop front xs) ++ x ∷ drop k (drop front xs)) far
