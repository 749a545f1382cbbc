-- How one's own list grows, and how a part of a history gives the law's premises.
use Rattle.std.proofs.Common.{◌≡◌, ℕ, ◌+◌, List, [], ◌∷◌, ◌++◌, length, Bool, true, false, refl, ap, sym, ◌∙◌, arith, subst}
use Rattle.std.specs.Prelude.{◌==◌, map, filter}
use Rattle.std.proofs.lemmas.List.Elements.{filter-append}
use Rattle.act_model.specs.declared.acts.Answer.TheVariants.{NoRow}
use Rattle.act_model.specs.History.{Entry, Done, own}
use Rattle.serving.specs.Rounds.{IsTick, AreTicks, EndsAtNoRow}

-- ONE MORE ACT

pub ticks_more : (now row : ℕ) (ds : List Done) (d : Done) → AreTicks now row ds → IsTick now (row + length ds) d.act → AreTicks now row (ds ++ d ∷ [])
ticks_more now row [] d are one = let plain : row + 0 ≡ row = omega arith in (subst (λ n. IsTick now n d.act) plain one, tt)
ticks_more now row (x ∷ ds) d are one = let next : row + length (x ∷ ds) ≡ (row + 1) + length ds = omega arith in (are.0, ticks_more now (row + 1) ds d are.1 (subst (λ n. IsTick now n d.act) next one))

-- the last tick found no row
pub ticks_end : (ds : List Done) (d : Done) → d.answer ≡ NoRow → EndsAtNoRow (ds ++ d ∷ [])
ticks_end ds d none = record { rows = ds; last = d; is = refl; answered = none }

-- OF A HISTORY

-- entries of another kind, as those of a room, seen as entries
pub own_map : {X : Type 0} (see : X → Entry) (who : X → ℕ) → ((x : X) → (see x).who ≡ who x) → (q : ℕ) (xs : List X) → own q (map see xs) ≡ map see (filter (λ x. who x == q) xs)
own_map see who same q [] = refl
own_map {X} see who same q (x ∷ xs) = by_test (who x == q) refl (own_map see who same q xs)
  where
    by_test : (b : Bool) → (who x == q) ≡ b → own q (map see xs) ≡ map see (filter (λ (y : X). who y == q) xs) → own q (map see (x ∷ xs)) ≡ map see (filter (λ (y : X). who y == q) (x ∷ xs))
    by_test true hit more = let seen : ((see x).who == q) ≡ true = ap (λ n. n == q) (same x) ∙ hit in rw (seen, hit) (ap (λ (w : List Entry). see x ∷ w) more)
    by_test false miss more = let seen : ((see x).who == q) ≡ false = ap (λ n. n == q) (same x) ∙ miss in rw (seen, miss) more

no_more : {X : Type 0} (xs ys : List X) → xs ++ ys ≡ xs → ys ≡ []
no_more [] ys is = is
no_more (x ∷ xs) ys is = no_more xs ys cc

-- a number that did nothing since
pub nothing_since : (q : ℕ) (xs ys : List Entry) → own q (xs ++ ys) ≡ own q xs → own q ys ≡ []
nothing_since q xs ys is = no_more (own q xs) (own q ys) (sym (filter-append (λ (e : Entry). e.who == q) xs ys) ∙ is)

-- a number that did nothing before
pub nothing_before : (q : ℕ) (xs ys : List Entry) → own q xs ≡ [] → own q (xs ++ ys) ≡ own q ys
nothing_before q xs ys none = filter-append (λ (e : Entry). e.who == q) xs ys ∙ ap (λ (w : List Entry). w ++ own q ys) none
