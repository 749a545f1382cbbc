-- The contents of a message against the grammar of its items.
use Rattle.std.proofs.Common.{◌≡◌, ℕ, suc, zero, ◌≤◌, List, [], ◌∷◌, ◌++◌, Option, Some, None, Result, Ok, Err, length, arith, refl, sym, ◌∙◌, ap, subst, append_assoc}
use Rattle.std.proofs.lemmas.List.{length-append, append-nil}
use Rattle.pb_wire.specs.declared.error.WireErr.{WireErr}
use Rattle.pb_wire.specs.Grammar.{IsSequence}
use Rattle.pb_wire.specs.Reading.{Reader}
use Rattle.pb_wire.specs.Cursor.{Cursor, next_of, begun, contents_of, ok_unless, all_of, items_of, BeginsWith}
use Rattle.pb_wire.proofs.GrammarLemmas.{done, ok_is}
use Rattle.pb_wire.proofs.ContentsLemmas.{Shrinks, next_item, item_next, none_end, next_shorter, contents_unrolled, contents_by, contents_end}

-- what is read is an item, each byte of it, and an item is read, whatever follows
abbrev pub Found : {A : Type 0} → Reader A → (List ℕ → A → Type 0) → Type 0
Found {A} at IsItem = (end : ℕ) (text rest : List ℕ) (x : A) → at end text ≡ Ok (x, rest) → (s : List ℕ) × IsItem s x × (text ≡ s ++ rest)

abbrev pub Only : {A : Type 0} → Reader A → (List ℕ → A → Type 0) → Type 0
Only {A} at IsItem = (end : ℕ) (s rest : List ℕ) (x : A) → IsItem s x → at end (s ++ rest) ≡ Ok (x, rest)

-- the items of a sequence come first in the contents of what begins with it
sequence_first : {A : Type 0} (at : Reader A) (IsItem : List ℕ → A → Type 0) → Shrinks at → Only at IsItem
    → (end : ℕ) (items : List A) (s rest : List ℕ) → IsSequence IsItem s items
    → (items_of (contents_of at (record { rest = s ++ rest; end = end })) ≡ items ++ items_of (contents_of at (record { rest = rest; end = end })))
    × ((contents_of at (record { rest = s ++ rest; end = end })).fault ≡ (contents_of at (record { rest = rest; end = end })).fault)
sequence_first at IsItem shrinks only end [] s rest h = rw h (refl, refl)
sequence_first {A} at IsItem shrinks only end (x ∷ items) s rest h =
    let text = h.0 ++ (h.1 ++ rest) in
    let regrouped : s ++ rest ≡ text = ap (λ (u : List ℕ). u ++ rest) h.2 ∙ append_assoc h.0 h.1 rest in
    let next = next_item at shrinks end text (h.1 ++ rest) x (only end h.0 (h.1 ++ rest) x h.3) in
    let all = contents_by at shrinks (record { rest = text; end = end }) (Ok (Some (x, record { rest = h.1 ++ rest; end = end }))) next in
    let more = sequence_first at IsItem shrinks only end items h.1 rest h.4 in
    rw (regrouped, all) (ap (λ (xs : List A). x ∷ xs) more.0, more.1)

-- a sequence is read whole
pub sequence_read : {A : Type 0} (at : Reader A) (IsItem : List ℕ → A → Type 0) → Shrinks at → Only at IsItem
    → (end : ℕ) (text : List ℕ) (items : List A) → IsSequence IsItem text items → all_of at (record { rest = text; end = end }) ≡ Ok items
sequence_read {A} at IsItem shrinks only end text items h =
    let c : Cursor = record { rest = text; end = end } in
    let first = sequence_first at IsItem shrinks only end items text [] h in
    let same : text ++ [] ≡ text = append-nil text in
    let whole = rw (same, contents_end at shrinks end, append-nil items) at first in
    ap (λ (o : Option WireErr). ok_unless o (items_of (contents_of at c))) whole.1 ∙ ap (λ (xs : List A). done xs) whole.0

-- the bytes begin with the contents' items, and the end or the fault comes behind them
begins_by : {A : Type 0} (at : Reader A) (IsItem : List ℕ → A → Type 0) → Shrinks at → Found at IsItem
    → (n end : ℕ) (text : List ℕ) → length text ≤ suc n → ((rest : List ℕ) → length rest ≤ n → BeginsWith IsItem at end rest (contents_of at (record { rest = rest; end = end })))
    → (r : Result (Option (A × Cursor)) WireErr) → next_of at (record { rest = text; end = end }) ≡ r → BeginsWith IsItem at end text (begun r (contents_of at))
begins_by at IsItem shrinks found n end text short others (Err e) is = ([], text, refl, refl, is)
begins_by at IsItem shrinks found n end text short others (Ok None) is = ([], [], none_end at end text is, refl, refl)
begins_by at IsItem shrinks found n end text short others (Ok (Some x)) is =
    let read = item_next at end text x.0 x.1 is in
    let item = found end text x.1.rest x.0 read.0 in
    let fewer = next_shorter at shrinks (record { rest = text; end = end }) x.0 x.1 is in
    let P : ℕ → Type 0 = λ m. BeginsWith IsItem at end x.1.rest (contents_of at (record { rest = x.1.rest; end = m })) in
    let more = subst P (sym read.1) (others x.1.rest (omega (arith, fewer))) in
    let split : text ≡ (item.0 ++ more.0) ++ more.1 = item.2 ∙ ap (λ (u : List ℕ). item.0 ++ u) more.2 ∙ sym (append_assoc item.0 more.0 more.1) in
    (item.0 ++ more.0, more.1, split, (item.0, more.0, refl, item.1, more.3), more.4)

begins_within : {A : Type 0} (at : Reader A) (IsItem : List ℕ → A → Type 0) → Shrinks at → Found at IsItem
    → (n end : ℕ) (text : List ℕ) → length text ≤ n → BeginsWith IsItem at end text (contents_of at (record { rest = text; end = end }))
begins_within at IsItem shrinks found zero end [] short = subst (BeginsWith IsItem at end []) (sym (contents_end at shrinks end)) ([], [], refl, refl, refl)
begins_within at IsItem shrinks found zero end (b ∷ text) short = absurd (omega arith)
begins_within at IsItem shrinks found (suc n) end text short =
    let c : Cursor = record { rest = text; end = end } in
    subst (BeginsWith IsItem at end text) (sym (contents_unrolled at shrinks c)) (begins_by at IsItem shrinks found n end text short (begins_within at IsItem shrinks found n end) (next_of at c) refl)

pub sequence_found : {A : Type 0} (at : Reader A) (IsItem : List ℕ → A → Type 0) → Shrinks at → Found at IsItem
    → (c : Cursor) → BeginsWith IsItem at c.end c.rest (contents_of at c)
sequence_found at IsItem shrinks found c = begins_within at IsItem shrinks found (length c.rest) c.end c.rest (omega arith)

-- no front that is a sequence is longer than the one behind which a fault is met
pub no_longer : {A : Type 0} (at : Reader A) (IsItem : List ℕ → A → Type 0) → Shrinks at → Only at IsItem
    → (end : ℕ) (e : WireErr) (xs ys : List A) (s r p q : List ℕ) → s ++ r ≡ p ++ q → IsSequence IsItem s xs → IsSequence IsItem p ys → next_of at (record { rest = r; end = end }) ≡ Err e → length p ≤ length s
no_longer at IsItem shrinks only end e xs [] s r p q same h k fault = omega (arith, ap length k)
no_longer at IsItem shrinks only end e [] (y ∷ ys) s r p q same h k fault =
    let front : r ≡ k.0 ++ (k.1 ++ q) = ap (λ (u : List ℕ). u ++ r) (sym h) ∙ same ∙ ap (λ (u : List ℕ). u ++ q) k.2 ∙ append_assoc k.0 k.1 q in
    let next = next_item at shrinks end (k.0 ++ (k.1 ++ q)) (k.1 ++ q) y (only end k.0 (k.1 ++ q) y k.3) in
    let other = rw front at fault in
    absurd cc
no_longer {A} at IsItem shrinks only end e (x ∷ xs) (y ∷ ys) s r p q same h k fault =
    let left : s ++ r ≡ h.0 ++ (h.1 ++ r) = ap (λ (u : List ℕ). u ++ r) h.2 ∙ append_assoc h.0 h.1 r in
    let right : p ++ q ≡ k.0 ++ (k.1 ++ q) = ap (λ (u : List ℕ). u ++ q) k.2 ∙ append_assoc k.0 k.1 q in
    let one = only end h.0 (h.1 ++ r) x h.3 in
    let two = only end k.0 (k.1 ++ q) y k.3 in
    let pair = ok_is (x, h.1 ++ r) (y, k.1 ++ q) (sym one ∙ ap (at end) (sym left ∙ same ∙ right) ∙ two) in
    let behind : h.1 ++ r ≡ k.1 ++ q = ap (λ (z : A × List ℕ). z.1) pair in
    let more = no_longer at IsItem shrinks only end e xs ys h.1 r k.1 q behind h.4 k.4 fault in
    omega (arith, more, ap length left, ap length right, ap length same, ap length behind, ap length h.2, ap length k.2, length-append h.0 h.1, length-append k.0 k.1, length-append h.0 (h.1 ++ r), length-append k.0 (k.1 ++ q))
