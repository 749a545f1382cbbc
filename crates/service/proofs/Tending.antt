-- Two who work beside others.
use Rattle.std.proofs.Common.{◌≡◌, ℕ, List, [], ◌∷◌, ◌++◌, length, map, take, drop, refl, sym, ap, ◌∙◌, arith, append-nil}
use Rattle.std.specs.List.{range_with_len}
use Rattle.std.proofs.lemmas.List.{drop_all, length-map, take_all}
use Rattle.std.proofs.lemmas.List.FromFn.{length-range_with_len}
use Rattle.std.specs.Prelude.{All}
use Rattle.std.proofs.lemmas.List.Elements.{All-cons, All-head, All-nil, All-tail}
use Rattle.workers.specs.Pairs.{AllCan, AllGive}

-- a list of two
pub are_two : {X : Type 0} (xs : List X) → length xs ≡ 2 → (x y : X) × (xs ≡ x ∷ y ∷ [])
are_two [] many = absurd (omega (arith, many))
are_two (x ∷ []) many = absurd (omega (arith, many))
are_two (x ∷ y ∷ []) many = (x, y, refl)
are_two (x ∷ y ∷ z ∷ zs) many = absurd (omega (arith, many))

-- what two became
pub record BecameTwo {X Y : Type 0} (G : X → Y → X → Y → Type 0) (x y : X) (s t : Y) (xs : List X) : Type 0 where
  pub one : X
  pub other : X
  pub one' : Y
  pub other' : Y
  pub are : xs ≡ one ∷ other ∷ []
  pub first : G x s one one'
  pub second : G y t other other'

pub became_two : {X Y : Type 0} (G : X → Y → X → Y → Type 0) (x y : X) (s t : Y) (xs : List X) (ys : List Y) → AllGive G (x ∷ y ∷ []) (s ∷ t ∷ []) xs ys → BecameTwo G x y s t xs
became_two G x y s t [] ys g = absurd g
became_two G x y s t (x' ∷ xs) [] g = absurd g
became_two G x y s t (x' ∷ []) (s' ∷ ys) g = absurd g.1
became_two G x y s t (x' ∷ y' ∷ xs) (s' ∷ []) g = absurd g.1
became_two G x y s t (x' ∷ y' ∷ xs) (s' ∷ t' ∷ ys) g = record { one = x'; other = y'; one' = s'; other' = t'; are = rw g.1.1.0 refl; first = g.0; second = g.1.0 }

-- what holds of each of a list holds of each pair
pub can_all : {X Y : Type 0} (P : X → Type 0) (C : X → Y → Type 0) → ((x : X) (y : Y) → P x → C x y) → (xs : List X) (ys : List Y) → All P xs → length xs ≡ length ys → AllCan C xs ys
can_all P C each [] [] all many = tt
can_all P C each [] (y ∷ ys) all many = absurd (omega (arith, many))
can_all P C each (x ∷ xs) [] all many = absurd (omega (arith, many))
can_all P C each (x ∷ xs) (y ∷ ys) all many = (each x y (All-head P x xs all), can_all P C each xs ys (All-tail P x xs all) (omega (arith, many)))

pub all_parts : {X : Type 0} (P : X → Type 0) (xs ys : List X) → All P (xs ++ ys) → All P xs × All P ys
all_parts P [] ys a = (All-nil P, a)
all_parts P (x ∷ xs) ys a = let rest = all_parts P xs ys (All-tail P x (xs ++ ys) a) in (All-cons P x xs (All-head P x (xs ++ ys) a) rest.0, rest.1)

-- as many are left as there were
pub give_length : {X Y : Type 0} (G : X → Y → X → Y → Type 0) (xs : List X) (ys : List Y) (xs' : List X) (ys' : List Y) → AllGive G xs ys xs' ys' → length xs' ≡ length xs
give_length G [] ys xs' ys' g = rw g.0 refl
give_length G (x ∷ xs) [] xs' ys' g = absurd g
give_length G (x ∷ xs) (y ∷ ys) [] ys' g = absurd g
give_length G (x ∷ xs) (y ∷ ys) (x' ∷ xs') [] g = absurd g
give_length G (x ∷ xs) (y ∷ ys) (x' ∷ xs') (y' ∷ ys') g = let rest = give_length G xs ys xs' ys' g.1 in omega arith

-- what was written through a slice of all
pub written_back : {X : Type 0} (n : ℕ) (old new : List X) → n ≡ length old → length new ≡ length old → take n (new ++ drop (length new) old) ≡ new
written_back n old new a b = rw (drop_all (length new) old (omega (arith, b)), append-nil new) (take_all n new (omega (arith, a, b)))

-- each has a place of its own among so many
pub placed : {X : Type 0} (place : X → ℕ) (xs : List X) (n : ℕ) → map place xs ≡ range_with_len 0 n → length xs ≡ n
placed place xs n is = sym (length-map xs place) ∙ (ap length is ∙ length-range_with_len 0 n)
