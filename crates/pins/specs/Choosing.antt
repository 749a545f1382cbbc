-- Which of the files that are listed, one after another, an answer about an interval needs.
use Rattle.std.specs.Prelude.{◌≡◌, ◌⊎◌, ◌<◌, ◌↔◌, ℕ, List, [], ◌∷◌, ◌++◌, map, All, Option, Some, None}
use Rattle.store_manifest.specs.declared.entry.Entry.{Entry}
use Rattle.pins.specs.declared.choosing.Listed.{Listed}
use Rattle.pins.specs.declared.choosing.Choice.{Choice}

-- the entries of a store
abbrev pub listed : ℕ → List Entry → List Listed
listed store entries = map (λ (e : Entry). record { store = store; entry = e }) entries

-- AT THE FRONT

-- all its samples are earlier
abbrev pub ends_before : ℕ → Listed → Type 0
ends_before n f = f.entry.last < n

-- the file begins before the moment, and behind all these
abbrev pub Cuts : ℕ → List Listed → Listed → Type 0
Cuts from before f = (f.entry.first < from) × All (ends_before f.entry.first) before

-- the first of these does
abbrev pub StartsBehind : ℕ → List Listed → List Listed → Type 0
StartsBehind from before [] = ⊥
StartsBehind from before (f ∷ fs) = Cuts from before f

-- none of these does, each with those before it
abbrev pub NoneCuts : ℕ → List Listed → List Listed → Type 0
NoneCuts from before [] = Unit {0}
NoneCuts from before (f ∷ fs) = (Cuts from before f → ⊥) × NoneCuts from (before ++ f ∷ []) fs

-- none but the first does
abbrev pub NoOtherCuts : ℕ → List Listed → List Listed → Type 0
NoOtherCuts from before [] = Unit {0}
NoOtherCuts from before (f ∷ fs) = NoneCuts from (before ++ f ∷ []) fs

-- Of all files these are the rest: the last one that begins before the moment and behind all that stand before it, and those behind it;
-- all of them, where there is none such.
pub record IsRest (from : ℕ) (all rest : List Listed) : Type 0 where
  pub closed : List Listed
  pub split : all ≡ closed ++ rest
  pub first : (closed ≡ []) ⊎ StartsBehind from closed rest
  pub last : NoOtherCuts from closed rest

-- AT THE END

-- the moment is later than both ends of the interval; no moment is later than one with no end
abbrev pub IsPast : ℕ → Option ℕ → ℕ → Type 0
IsPast from None t = ⊥
IsPast from (Some to) t = (from < t) × (to < t)

-- the file begins so late
abbrev pub StartsPast : ℕ → Option ℕ → Listed → Type 0
StartsPast from to f = IsPast from to f.entry.first

-- the last of these, if there is one, doesn't
abbrev pub EndsWithin : ℕ → Option ℕ → List Listed → Type 0
EndsWithin from to files = (others : List Listed) (last : Listed) → files ≡ others ++ last ∷ [] → StartsPast from to last → ⊥

-- Of all files these are opened: the rest, up to the last one that doesn't begin later than both ends of the interval. Those behind it do.
pub record IsChosen (from : ℕ) (to : Option ℕ) (all opened : List Listed) : Type 0 where
  pub behind : List Listed
  pub rest : IsRest from all (opened ++ behind)
  pub past : All (StartsPast from to) behind
  pub within : EndsWithin from to opened

-- THE CHOICE

-- the greatest of some numbers, if there are any, is below this one
abbrev pub IsBelow : Option ℕ → ℕ → Type 0
IsBelow None n = Unit {0}
IsBelow (Some last) n = last < n

-- the choice of the files that were told
pub record IsChoice (told : List Listed) (c : Choice) : Type 0 where
  pub rest : IsRest c.from told c.rest.items
  pub greatest : (n : ℕ) → IsBelow c.greatest n ↔ All (ends_before n) told
