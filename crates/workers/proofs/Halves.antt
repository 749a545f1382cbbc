-- Pairs by halves.
use Rattle.std.proofs.Common.{◌≡◌, List, [], ◌∷◌, ◌++◌, refl, arith, length}
use Rattle.workers.specs.Pairs.{AllCan, AllGive}

module _ {T U : Type 0} where
  pub can_front : (C : T → U → Type 0) (xs xs' : List T) (ys ys' : List U) → AllCan C (xs ++ xs') (ys ++ ys') → length xs ≡ length ys → AllCan C xs ys
  can_front C [] xs' [] ys' a l = tt
  can_front C [] xs' (y ∷ ys) ys' a l = absurd (omega arith)
  can_front C (x ∷ xs) xs' [] ys' a l = absurd (omega arith)
  can_front C (x ∷ xs) xs' (y ∷ ys) ys' a l = (a.0, can_front C xs xs' ys ys' a.1 (omega arith))

  pub can_back : (C : T → U → Type 0) (xs xs' : List T) (ys ys' : List U) → AllCan C (xs ++ xs') (ys ++ ys') → length xs ≡ length ys → AllCan C xs' ys'
  can_back C [] xs' [] ys' a l = a
  can_back C [] xs' (y ∷ ys) ys' a l = absurd (omega arith)
  can_back C (x ∷ xs) xs' [] ys' a l = absurd (omega arith)
  can_back C (x ∷ xs) xs' (y ∷ ys) ys' a l = can_back C xs xs' ys ys' a.1 (omega arith)

  pub give_append : (G : T → U → T → U → Type 0) (a b a' b' : List T) (c d c' d' : List U) → AllGive G a c a' c' → AllGive G b d b' d' → length a ≡ length c → AllGive G (a ++ b) (c ++ d) (a' ++ b') (c' ++ d')
  give_append G [] b a' b' [] d c' d' x y l = rw (x.0, x.1) y
  give_append G [] b a' b' (e ∷ c) d c' d' x y l = absurd (omega arith)
  give_append G (e ∷ a) b a' b' [] d c' d' x y l = absurd x
  give_append G (e ∷ a) b [] b' (f ∷ c) d c' d' x y l = absurd x
  give_append G (e ∷ a) b (e' ∷ a') b' (f ∷ c) d [] d' x y l = absurd x
  give_append G (e ∷ a) b (e' ∷ a') b' (f ∷ c) d (f' ∷ c') d' x y l = (x.0, give_append G a b a' b' c d c' d' x.1 y (omega arith))

  pub gives_none : (G : T → U → T → U → Type 0) (a : List T) (c : List U) → length a ≡ 0 → AllGive G a c a c
  gives_none G [] c l = (refl, refl)
  gives_none G (x ∷ a) c l = absurd (omega arith)

  -- the same of what each pair became
  pub give_map : (G G' : T → U → T → U → Type 0) (a : List T) (c : List U) (a' : List T) (c' : List U) → ((x : T) (y : U) (x' : T) (y' : U) → G x y x' y' → G' x y x' y') → AllGive G a c a' c' → AllGive G' a c a' c'
  give_map G G' [] c a' c' h x = x
  give_map G G' (e ∷ a) [] a' c' h x = absurd x
  give_map G G' (e ∷ a) (f ∷ c) [] c' h x = absurd x
  give_map G G' (e ∷ a) (f ∷ c) (e' ∷ a') [] h x = absurd x
  give_map G G' (e ∷ a) (f ∷ c) (e' ∷ a') (f' ∷ c') h x = (h e f e' f' x.0, give_map G G' a c a' c' h x.1)
