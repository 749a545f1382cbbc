-- The moments that clocks give, over several calls.
use Rattle.std.proofs.Common.{◌≡◌, ℕ, ◌+◌, List, [], ◌∷◌, ◌++◌, Some, None, length, arith, sym, ◌∙◌, ap, refl}
use Rattle.std.proofs.lemmas.List.{length-append}
use Rattle.edge_io.specs.Moments.{Moments, BeginWith, GivesOn, GivesOneList}

-- the same moments begin with the same
same_begin : (a b : Moments) (xs : List ℕ) → ((k : ℕ) → b k ≡ a k) → BeginWith b xs → BeginWith a xs
same_begin a b [] e h = tt
same_begin a b (t ∷ ts) e h = (sym (e 0) ∙ h.0, same_begin (λ k. a (k + 1)) (λ k. b (k + 1)) ts (λ k. e (k + 1)) h.1)

begin_more : (a b : Moments) (xs ys : List ℕ) → BeginWith a xs → ((k : ℕ) → b k ≡ a (length xs + k)) → BeginWith b ys → BeginWith a (xs ++ ys)
begin_more a b [] ys h e later = same_begin a b ys (λ k. e k ∙ ap a (omega arith)) later
begin_more a b (t ∷ ts) ys h e later =
    (h.0, begin_more (λ k. a (k + 1)) b ts ys h.1 (λ k. e k ∙ ap a (omega arith)) later)

begin_once : (a : Moments) (xs ys : List ℕ) → length xs ≡ length ys → BeginWith a xs → BeginWith a ys → xs ≡ ys
begin_once a [] [] e h other = refl
begin_once a [] (t ∷ ts) e h other = absurd (omega (arith, e))
begin_once a (t ∷ ts) [] e h other = absurd (omega (arith, e))
begin_once a (t ∷ ts) (u ∷ us) e h other =
    ap (λ (v : ℕ). v ∷ ts) (sym h.0 ∙ other.0) ∙ ap (λ (v : List ℕ). u ∷ v) (begin_once (λ k. a (k + 1)) ts us (omega (arith, e)) h.1 other.1)

pub gives_on : GivesOn
gives_on None b c xs ys first later = tt
gives_on (Some a) None c xs ys first later = absurd first
gives_on (Some a) (Some b) None xs ys first later = later
gives_on (Some a) (Some b) (Some c) xs ys first later =
    (begin_more a b xs ys first.0 first.1 later.0, λ k. later.1 k ∙ first.1 (length ys + k) ∙ ap a (omega (arith, length-append xs ys)))

pub gives_one_list : GivesOneList
gives_one_list a None c xs ys e h other = absurd h
gives_one_list a (Some b) None xs ys e h other = absurd other
gives_one_list a (Some b) (Some c) xs ys e h other = begin_once a xs ys e h.0 other.0
