-- One worker more or less, and a clock that gave no moment.
use Rattle.std.proofs.Common.{◌≡◌, ℕ, zero, suc, ◌+◌, List, [], ◌∷◌, ◌++◌, Option, Some, None, map, sym, ap, ◌∙◌, arith}
use Rattle.std.specs.List.{range_with_len}
use Rattle.std.proofs.lemmas.List.{map-append}
use Rattle.edge_io.specs.Moments.{Moments, Gives}
use Rattle.workers.specs.declared.worker.Worker.{Worker}

module _ {R C E A B : Type 0} where
  pub passes_pushed : (all rest : List (Worker R C E A B)) (w : Worker R C E A B) → all ≡ rest ++ w ∷ [] → map (λ (v : Worker R C E A B). v.pass) all ≡ map (λ (v : Worker R C E A B). v.pass) rest ++ w.pass ∷ []
  passes_pushed all rest w is = ap (λ (l : List (Worker R C E A B)). map (λ (v : Worker R C E A B). v.pass) l) is ∙ map-append (λ (v : Worker R C E A B). v.pass) rest (w ∷ [])

  pub no_passes : (all : List (Worker R C E A B)) → all ≡ [] → map (λ (v : Worker R C E A B). v.pass) all ≡ []
  no_passes all is = ap (λ (l : List (Worker R C E A B)). map (λ (v : Worker R C E A B). v.pass) l) is

  pub places_pushed : (all rest : List (Worker R C E A B)) (w : Worker R C E A B) (n : ℕ) → all ≡ rest ++ w ∷ [] → w.place ≡ n → map (λ (v : Worker R C E A B). v.place) rest ≡ range_with_len 0 n
      → map (λ (v : Worker R C E A B). v.place) all ≡ range_with_len 0 (n + 1)
  places_pushed all rest w n is place before =
      ap (λ (l : List (Worker R C E A B)). map (λ (v : Worker R C E A B). v.place) l) is ∙ (map-append (λ (v : Worker R C E A B). v.place) rest (w ∷ [])
      ∙ (ap (λ (l : List ℕ). l ++ w.place ∷ []) before ∙ (ap (λ (k : ℕ). range_with_len 0 n ++ k ∷ []) place ∙ sym (range_more 0 n n (omega arith)))))
    where
      range_more : (a n j : ℕ) → a + n ≡ j → range_with_len a (n + 1) ≡ range_with_len a n ++ j ∷ []
      range_more a zero j is = let same : a ≡ j = omega arith in ap (λ (k : ℕ). k ∷ []) same
      range_more a (suc n) j is = let long : suc n + 1 ≡ suc (n + 1) = omega arith in rw long (ap (λ (l : List ℕ). a ∷ l) (range_more (a + 1) n j (omega arith)))

pub gives_none : (clock : Option Moments) → Gives clock clock []
gives_none None = tt
gives_none (Some coming) = (tt, λ k. ap coming (omega arith))
