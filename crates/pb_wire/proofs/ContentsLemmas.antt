-- The contents of a message unroll by the item at the front.
use Rattle.std.proofs.Common.{◌≡◌, ℕ, suc, zero, ◌<◌, ◌≤◌, List, [], ◌∷◌, Option, Some, None, Result, Ok, Err, length, arith, refl, sym, ◌∙◌, ap, subst}
use Rattle.pb_wire.specs.declared.error.WireErr.{WireErr}
use Rattle.pb_wire.specs.Reading.{Reader}
use Rattle.pb_wire.specs.Cursor.{Cursor, next_of, Contents, begun, contents_within, contents_of, TakesItem, GivesNext}
use Rattle.pb_wire.proofs.GrammarLemmas.{bind_ok, done, ok_is}

-- an item that is read uses bytes up
abbrev pub Shrinks : {A : Type 0} → Reader A → Type 0
Shrinks {A} at = (end : ℕ) (text rest : List ℕ) (x : A) → at end text ≡ Ok (x, rest) → length rest < length text

-- at the end
pub next_end : {A : Type 0} (at : Reader A) (end : ℕ) → next_of at (record { rest = []; end = end }) ≡ Ok None
unfolding next_of
next_end at end = refl

-- an item is read at the front
pub next_item : {A : Type 0} (at : Reader A) → Shrinks at → (end : ℕ) (text rest : List ℕ) (x : A) → at end text ≡ Ok (x, rest) → next_of at (record { rest = text; end = end }) ≡ Ok (Some (x, record { rest = rest; end = end }))
unfolding next_of
next_item at shrinks end [] rest x e = let fewer : length rest < 0 = shrinks end [] rest x e in absurd (omega arith)
next_item at shrinks end (b ∷ text) rest x e = rw e refl

-- a fault is met at the front
pub next_fault : {A : Type 0} (at : Reader A) (end b : ℕ) (text : List ℕ) (e : WireErr) → at end (b ∷ text) ≡ Err e → next_of at (record { rest = b ∷ text; end = end }) ≡ Err e
unfolding next_of
next_fault at end b text e h = rw h refl

pair_of : {A : Type 0} → A × Cursor → Option (A × Cursor) → A × Cursor
pair_of x None = x
pair_of x (Some y) = y

some_is : {A : Type 0} (x y : A × Cursor) → done (Some x) ≡ done (Some y) → x ≡ y
unfolding pair_of
some_is x y e = ap (pair_of x) (ok_is (Some x) (Some y) e)

-- what next_of gives was read at the front
pub item_next : {A : Type 0} (at : Reader A) (end : ℕ) (text : List ℕ) (x : A) (d : Cursor) → next_of at (record { rest = text; end = end }) ≡ Ok (Some (x, d)) → (at end text ≡ Ok (x, d.rest)) × (d.end ≡ end)
unfolding next_of
item_next at end [] x d e = absurd cc
item_next {A} at end (b ∷ text) x d e =
    let read = bind_ok (at end (b ∷ text)) (λ y. Ok (Some (y.0, record { rest = y.1; end = end }))) (Some (x, d)) e in
    let P : A × Cursor → Type 0 = λ y. (at end (b ∷ text) ≡ Ok (y.0, y.1.rest)) × (y.1.end ≡ end) in
    subst P (some_is (read.0.0, record { rest = read.0.1; end = end }) (x, d) read.2) (read.1, refl)

-- nothing but the end gives None
pub none_end : {A : Type 0} (at : Reader A) (end : ℕ) (text : List ℕ) → next_of at (record { rest = text; end = end }) ≡ Ok None → text ≡ []
unfolding next_of
none_end at end [] e = refl
none_end at end (b ∷ text) e =
    let read = bind_ok (at end (b ∷ text)) (λ x. Ok (Some (x.0, record { rest = x.1; end = end }))) None e in
    absurd cc

-- the cursor moves behind the item's bytes
pub next_shorter : {A : Type 0} (at : Reader A) → Shrinks at → (c : Cursor) (x : A) (d : Cursor) → next_of at c ≡ Ok (Some (x, d)) → length d.rest < length c.rest
next_shorter at shrinks c x d e = shrinks c.end c.rest d.rest x (item_next at c.end c.rest x d e).0

-- what is begun goes by the cursor behind the item alone
begun_same : {A : Type 0} (r : Result (Option (A × Cursor)) WireErr) (F G : Cursor → Contents A) → ((x : A) (d : Cursor) → r ≡ Ok (Some (x, d)) → F d ≡ G d) → begun r F ≡ begun r G
begun_same (Err e) F G h = refl
begun_same (Ok None) F G h = refl
begun_same {A} (Ok (Some x)) F G h = ap (λ (c : Contents A). begun (Ok (Some x)) (λ _. c)) (h x.0 x.1 refl)

nothing_left : {A : Type 0} (at : Reader A) (F : Cursor → Contents A) (c : Cursor) → length c.rest ≡ 0 → record { items = []; fault = None } ≡ begun (next_of at c) F
nothing_left at F c empty = at_end c.rest c.end empty
  where
    at_end : (rest : List ℕ) (end : ℕ) → length rest ≡ 0 → record { items = []; fault = None } ≡ begun (next_of at (record { rest = rest; end = end })) F
    at_end [] end h = rw (next_end at end) refl
    at_end (b ∷ rest) end h = absurd (omega arith)

-- as many items as bytes are enough
within_enough : {A : Type 0} (at : Reader A) → Shrinks at → (n m : ℕ) (c : Cursor) → length c.rest ≤ n → length c.rest ≤ m → contents_within at n c ≡ contents_within at m c
unfolding contents_within
within_enough at shrinks zero zero c h k = refl
within_enough at shrinks zero (suc m) c h k = nothing_left at (contents_within at m) c (omega arith)
within_enough at shrinks (suc n) zero c h k = sym (nothing_left at (contents_within at n) c (omega arith))
within_enough {A} at shrinks (suc n) (suc m) c h k =
    begun_same (next_of at c) (contents_within at n) (contents_within at m) (λ (x : A) (d : Cursor) (e : next_of at c ≡ Ok (Some (x, d))).
    let fewer = next_shorter at shrinks c x d e in within_enough at shrinks n m d (omega arith) (omega arith))

-- the contents are the item at the front and the contents behind it
pub contents_unrolled : {A : Type 0} (at : Reader A) → Shrinks at → (c : Cursor) → contents_of at c ≡ begun (next_of at c) (contents_of at)
unfolding contents_of contents_within
contents_unrolled {A} at shrinks c =
    within_enough at shrinks (length c.rest) (suc (length c.rest)) c (omega arith) (omega arith)
    ∙ begun_same (next_of at c) (contents_within at (length c.rest)) (contents_of at) (λ (x : A) (d : Cursor) (e : next_of at c ≡ Ok (Some (x, d))).
    let fewer = next_shorter at shrinks c x d e in within_enough at shrinks (length c.rest) (length d.rest) d (omega arith) (omega arith))

pub contents_by : {A : Type 0} (at : Reader A) → Shrinks at → (c : Cursor) (r : Result (Option (A × Cursor)) WireErr) → next_of at c ≡ r → contents_of at c ≡ begun r (contents_of at)
contents_by {A} at shrinks c r e = contents_unrolled at shrinks c ∙ ap (λ (r : Result (Option (A × Cursor)) WireErr). begun r (contents_of at)) e

-- no bytes hold nothing
pub contents_end : {A : Type 0} (at : Reader A) → Shrinks at → (end : ℕ) → contents_of at (record { rest = []; end = end }) ≡ record { items = []; fault = None }
contents_end at shrinks end = contents_by at shrinks (record { rest = []; end = end }) (Ok None) (next_end at end)

-- a call of next at the end
pub next_ended : {A X : Type 0} (at : Reader A) (seen : X → A) → Shrinks at → (c : Cursor) → length c.rest ≡ 0 → GivesNext at seen c c (Ok None)
next_ended {A} {X} at seen shrinks c empty = at_end c.rest c.end empty
  where
    at_end : (rest : List ℕ) (end : ℕ) → length rest ≡ 0 → GivesNext at seen (record { rest = rest; end = end }) (record { rest = rest; end = end }) (Ok None)
    at_end [] end h = (next_end at end, contents_end at shrinks end, refl)
    at_end (b ∷ rest) end h = absurd (omega arith)

-- at a fault
pub next_refused : {A X : Type 0} (at : Reader A) (seen : X → A) → Shrinks at → (c : Cursor) (e : WireErr) → 0 < length c.rest → at c.end c.rest ≡ Err e → GivesNext at seen c c (Err e)
next_refused {A} {X} at seen shrinks c e some fault = at_fault c.rest c.end some fault
  where
    at_fault : (rest : List ℕ) (end : ℕ) → 0 < length rest → at end rest ≡ Err e → GivesNext at seen (record { rest = rest; end = end }) (record { rest = rest; end = end }) (Err e)
    at_fault [] end some fault = absurd (omega arith)
    at_fault (b ∷ rest) end some fault =
        let next = next_fault at end b rest e fault in
        (next, contents_by at shrinks (record { rest = b ∷ rest; end = end }) (Err e) next, refl)

-- and at an item
pub next_taken : {A : Type 0} (at : Reader A) → Shrinks at → (c : Cursor) (x : A) (rest : List ℕ) → at c.end c.rest ≡ Ok (x, rest) → TakesItem at c (record { rest = rest; end = c.end }) x
next_taken at shrinks c x rest read =
    let d : Cursor = record { rest = rest; end = c.end } in
    let next = next_item at shrinks c.end c.rest rest x read in
    record {
      read = next;
      contents = contents_by at shrinks c (Ok (Some (x, d))) next;
      shorter = next_shorter at shrinks c x d next;
    }
