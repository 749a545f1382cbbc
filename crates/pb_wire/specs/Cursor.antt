-- A message read item by item, and all of it. The items are fields, or varints where numbers are packed.
use Rattle.std.specs.Prelude.{◌≡◌, ℕ, zero, suc, ◌-◌, ◌<◌, List, [], ◌∷◌, ◌++◌, length, map, Option, Some, None, Result, Ok, Err}
use Rattle.pb_wire.specs.declared.error.WireErr.{WireErr}
use Rattle.pb_wire.specs.Grammar.{IsSequence}
use Rattle.pb_wire.specs.Reading.{◌>>=◌, Reader}

-- A cursor: the bytes that are left, and the place behind the last of them.
pub record Cursor : Type 0 where
  pub rest : List ℕ
  pub end : ℕ

-- So many bytes stand before the cursor.
abbrev pub place_of : Cursor → ℕ
place_of c = c.end - length c.rest

-- The item that `at` reads at the front with the cursor behind it, None at the end, or the first fault.
unfoldable pub next_of : {A : Type 0} → Reader A → Cursor → Result (Option (A × Cursor)) WireErr
next_of {A} at c = next_at c.end c.rest
  where
    next_at : ℕ → List ℕ → Result (Option (A × Cursor)) WireErr
    next_at end [] = Ok None
    next_at end (b ∷ text) = at end (b ∷ text) >>= λ x. Ok (Some (x.0, record { rest = x.1; end = end }))

-- An item, and the place behind its last byte.
pub record Placed (A : Type 0) : Type 0 where
  pub item : A
  pub behind : ℕ

-- What a message holds: its items in order up to the first fault, and that fault.
pub record Contents (A : Type 0) : Type 0 where
  pub items : List (Placed A)
  pub fault : Option WireErr

-- One item comes before the others.
abbrev pub with_first : {A : Type 0} → Placed A → Contents A → Contents A
with_first x c = record { items = x ∷ c.items; fault = c.fault }

-- The first item comes before what the cursor behind it holds; the end and a fault are all that there is.
abbrev pub begun : {A : Type 0} → Result (Option (A × Cursor)) WireErr → (Cursor → Contents A) → Contents A
begun (Err e) behind = record { items = []; fault = Some e }
begun (Ok None) behind = record { items = []; fault = None }
begun (Ok (Some x)) behind = with_first (record { item = x.0; behind = place_of x.1 }) (behind x.1)

-- The contents, by n items at most.
unfoldable pub contents_within : {A : Type 0} → Reader A → ℕ → Cursor → Contents A
contents_within at zero c = record { items = []; fault = None }
contents_within at (suc n) c = begun (next_of at c) (contents_within at n)

-- Each item has a byte at least, so there are no more items than bytes.
unfoldable pub contents_of : {A : Type 0} → Reader A → Cursor → Contents A
contents_of at c = contents_within at (length c.rest) c

-- The items are told without their places.
abbrev pub items_of : {A : Type 0} → Contents A → List A
items_of c = map (λ x. x.item) c.items

abbrev pub ok_unless : {A : Type 0} → Option WireErr → List A → Result (List A) WireErr
ok_unless None items = Ok items
ok_unless (Some e) items = Err e

-- A message is all of its items, or its first fault.
abbrev pub all_of : {A : Type 0} → Reader A → Cursor → Result (List A) WireErr
all_of at c = ok_unless (contents_of at c).fault (items_of (contents_of at c))

-- The end comes here, or the fault stands at the front.
abbrev pub StopsAt : {A : Type 0} → Reader A → ℕ → List ℕ → Option WireErr → Type 0
StopsAt at end text None = text ≡ []
StopsAt at end text (Some e) = next_of at (record { rest = text; end = end }) ≡ Err e

-- The bytes begin with these items, one after another, and behind them reading stops.
abbrev pub BeginsWith : {A : Type 0} → (List ℕ → A → Type 0) → Reader A → ℕ → List ℕ → Contents A → Type 0
BeginsWith IsItem at end text c = (front rest : List ℕ) × (text ≡ front ++ rest) × IsSequence IsItem front (items_of c) × StopsAt at end rest c.fault

-- A call of next took the item at the front.
pub record TakesItem {A : Type 0} (at : Reader A) (old new : Cursor) (x : A) : Type 0 where
  pub read : next_of at old ≡ Ok (Some (x, new))
  pub contents : contents_of at old ≡ with_first (record { item = x; behind = place_of new }) (contents_of at new)
  pub shorter : length new.rest < length old.rest

-- A call of next gives the item at the front, as `seen` shows it, and moves behind it, or stays at the end or at the first fault.
abbrev pub GivesNext : {A X : Type 0} → Reader A → (X → A) → Cursor → Cursor → Result (Option X) WireErr → Type 0
GivesNext at seen old new (Ok (Some x)) = TakesItem at old new (seen x)
GivesNext at seen old new (Ok None) = (next_of at old ≡ Ok None) × (contents_of at old ≡ record { items = []; fault = None }) × (new ≡ old)
GivesNext at seen old new (Err e) = (next_of at old ≡ Err e) × (contents_of at old ≡ record { items = []; fault = Some e }) × (new ≡ old)
