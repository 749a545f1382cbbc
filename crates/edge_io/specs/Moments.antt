-- The moments that a clock gives.
use Rattle.std.specs.Prelude.{◌≡◌, ℕ, ◌+◌, ◌-◌, List, [], ◌∷◌, ◌++◌, length, get_or, Option, Some, None}

-- the moments to come, by their place from 0 on
abbrev pub Moments : Type 0
Moments = ℕ → ℕ

-- they begin with these
abbrev pub BeginWith : Moments → List ℕ → Type 0
BeginWith coming [] = Unit {0}
BeginWith coming (t ∷ ts) = (coming 0 ≡ t) × BeginWith (λ k. coming (k + 1)) ts

-- Where the moments are told, these were given, and the later ones are to come still.
abbrev pub Gives : Option Moments → Option Moments → List ℕ → Type 0
Gives None new given = Unit {0}
Gives (Some old) None given = ⊥
Gives (Some old) (Some new) given = BeginWith old given × ((k : ℕ) → new k ≡ old (length given + k))

-- What is given in two steps is given in one.
abbrev pub GivesOn : Type 0
GivesOn = (a b c : Option Moments) (xs ys : List ℕ) → Gives a b xs → Gives b c ys → Gives a c (xs ++ ys)

-- Where nothing is done, nothing is given.
abbrev pub GivesNothing : Type 0
GivesNothing = (a : Option Moments) → Gives a a []

-- Where the moments are told, so many of them are given in one way only.
abbrev pub GivesOneList : Type 0
GivesOneList = (a : Moments) (b c : Option Moments) (xs ys : List ℕ) → length xs ≡ length ys → Gives (Some a) b xs → Gives (Some a) c ys → xs ≡ ys

-- a clock in memory: the moments left in its list, the one that it repeats at their end, and the lists for its splits
pub record ListedMoments : Type 0 where
  pub left : List ℕ
  pub end : ℕ
  pub splits : List (List ℕ)

-- a clock that has just been made of a list, which repeats the list's last moment, or 0 where there is none
abbrev pub listed : List ℕ → List (List ℕ) → ListedMoments
listed moments splits = record { left = moments; end = get_or moments (length moments - 1) 0; splits = splits }

-- a clock that gives one moment again and again
abbrev pub repeating : ℕ → ListedMoments
repeating moment = record { left = []; end = moment; splits = [] }

-- what it gives: its list, and at the end of it one moment again and again
abbrev pub coming_of : ListedMoments → Moments
coming_of c = λ k. get_or c.left k c.end

-- The second clock has the last of the lists that are left, and where none is left the moment that the first repeats.
pub record IsSplit (old new second : ListedMoments) : Type 0 where
  pub kept : (new.left ≡ old.left) × (new.end ≡ old.end)
  pub none : old.splits ≡ [] → (new.splits ≡ []) × (second ≡ repeating old.end)
  pub some : (rest : List (List ℕ)) (moments : List ℕ) → old.splits ≡ rest ++ moments ∷ [] → (new.splits ≡ rest) × (second ≡ listed moments [])
