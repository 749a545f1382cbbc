-- The rows that are seen of slots and tails: by number, by place and by name, and as one slot changes.
use Rattle.std.proofs.Common.{◌≡◌, ◌≢◌, ℕ, zero, suc, ◌+◌, ◌<◌, ◌≤◌, List, [], ◌∷◌, length, map, Option, Some, None, Bool, true, false, cond, refl, ◌∙◌, ap, subst, arith}
use Rattle.std.specs.Prelude.{◌==◌, slice_get, slice_set}
use Rattle.std.proofs.lemmas.Bool.Decides.{nat_tests}
use Rattle.intake.specs.Tails.{TailState, tail_at}
use Rattle.act_model.specs.Changes.{each, at}
use Rattle.act_model.specs.Machine.{same_bytes}
use Rattle.act_model.specs.Machine as machine
use Rattle.act_model.specs.Rows.{RowState}
use Rattle.act_model.proofs.RowActs.{same_bytes_is, same_bytes-refl}
use Rattle.two_histories.specs.ArchiveIntake.{IntakeRow, known_at, known_as, position, as_row, kept_row, kept_rows}
use Rattle.two_histories.proofs.KnownRows.{Ascends, none_below}
use Rattle.series_model.specs.declared.sample.Sample.{Sample}
use Rattle.intake_half.specs.Known.{slot_at, seen, seen_from}
use Rattle.intake_half.specs.declared.known.KnownRow.{KnownRow}

pub some_same : {A : Type 0} {a b : A} → Some a ≡ Some b → a ≡ b
some_same is = cc

-- SLOTS

pub set_own : (slots : List (Option KnownRow)) (i : ℕ) (slot : Option KnownRow) → i < length slots → slot_at (slice_set slots i slot) i ≡ slot
set_own [] i slot within = absurd (omega arith)
set_own (x ∷ slots) zero slot within = refl
set_own (x ∷ slots) (suc i) slot within = set_own slots i slot (omega arith)

pub set_other : (slots : List (Option KnownRow)) (i j : ℕ) (slot : Option KnownRow) → j ≢ i → slot_at (slice_set slots i slot) j ≡ slot_at slots j
set_other [] i j slot apart = refl
set_other (x ∷ slots) zero zero slot apart = absurd (apart refl)
set_other (x ∷ slots) zero (suc j) slot apart = refl
set_other (x ∷ slots) (suc i) zero slot apart = refl
set_other (x ∷ slots) (suc i) (suc j) slot apart = set_other slots i j slot (λ same. apart (omega (arith, same)))

pub slot_within : (slots : List (Option KnownRow)) (i : ℕ) (k : KnownRow) → slot_at slots i ≡ Some k → i < length slots
slot_within [] i k here = absurd cc
slot_within (x ∷ slots) zero k here = omega arith
slot_within (x ∷ slots) (suc i) k here = let low = slot_within slots i k here in omega arith

-- WHAT IS SEEN

pub seen_same : (old new : List TailState) (i : ℕ) (k : KnownRow) → (tail_at new i).samples ≡ (tail_at old i).samples → seen new i k ≡ seen old i k
seen_same old new i k same = ap (λ (xs : List Sample). record (seen old i k) { tail = xs }) same

-- where the tails from a number on are the same
pub others_seen : (old new : List TailState) (j : ℕ) (slots : List (Option KnownRow)) → ((n : ℕ) → j ≤ n → (tail_at new n).samples ≡ (tail_at old n).samples) → seen_from new j slots ≡ seen_from old j slots
others_seen old new j [] same = refl
others_seen old new j (None ∷ slots) same = others_seen old new (j + 1) slots (λ n high. same n (omega (arith, high)))
others_seen old new j (Some k ∷ slots) same =
    ap (λ (x : IntakeRow). x ∷ seen_from new (j + 1) slots) (seen_same old new j k (same j (omega arith)))
    ∙ ap (λ (xs : List IntakeRow). seen old j k ∷ xs) (others_seen old new (j + 1) slots (λ n high. same n (omega (arith, high))))

-- slots behind the last that are empty are not seen
pub slots_same : (tails : List TailState) (j : ℕ) (a b : List (Option KnownRow)) → ((i : ℕ) → slot_at a i ≡ slot_at b i) → seen_from tails j a ≡ seen_from tails j b
slots_same tails j [] [] same = refl
slots_same tails j [] (None ∷ b) same = slots_same tails (j + 1) [] b (λ i. same (suc i))
slots_same tails j [] (Some k ∷ b) same = absurd (let bad = same 0 in cc)
slots_same tails j (None ∷ a) [] same = slots_same tails (j + 1) a [] (λ i. same (suc i))
slots_same tails j (Some k ∷ a) [] same = absurd (let bad = same 0 in cc)
slots_same tails j (None ∷ a) (None ∷ b) same = slots_same tails (j + 1) a b (λ i. same (suc i))
slots_same tails j (None ∷ a) (Some k ∷ b) same = absurd (let bad = same 0 in cc)
slots_same tails j (Some k ∷ a) (None ∷ b) same = absurd (let bad = same 0 in cc)
slots_same tails j (Some k ∷ a) (Some h ∷ b) same =
    let first : k ≡ h = some_same (same 0) in
    ap (λ (x : KnownRow). seen tails j x ∷ seen_from tails (j + 1) a) first ∙ ap (λ (xs : List IntakeRow). seen tails j h ∷ xs) (slots_same tails (j + 1) a b (λ i. same (suc i)))

pub weaker : (n m : ℕ) (ks : List IntakeRow) → n ≤ m → Ascends m ks → Ascends n ks
weaker n m [] low up = tt
weaker n m (k ∷ ks) low up = ((let first = up.0 in omega arith), up.1)

pub seen_ascends : (tails : List TailState) (j : ℕ) (slots : List (Option KnownRow)) → Ascends j (seen_from tails j slots)
seen_ascends tails j [] = tt
seen_ascends tails j (None ∷ slots) = weaker j (j + 1) (seen_from tails (j + 1) slots) (omega arith) (seen_ascends tails (j + 1) slots)
seen_ascends tails j (Some k ∷ slots) = (omega arith, seen_ascends tails (j + 1) slots)

-- A ROW THAT ISN'T KNOWN

pub unknown_seen : (tails : List TailState) (j : ℕ) (slots : List (Option KnownRow)) (n i : ℕ) → n ≡ j + i → slot_at slots i ≡ None → known_at (seen_from tails j slots) n ≡ None
unknown_seen tails j [] n i is none = refl
unknown_seen tails j (None ∷ slots) n zero is none = none_below (j + 1) n (seen_from tails (j + 1) slots) (seen_ascends tails (j + 1) slots) (omega arith)
unknown_seen tails j (None ∷ slots) n (suc i) is none = unknown_seen tails (j + 1) slots n i (omega arith) none
unknown_seen tails j (Some k ∷ slots) n zero is none = absurd cc
unknown_seen tails j (Some k ∷ slots) n (suc i) is none =
    let apart : (j == n) ≡ false = grind (arith, nat_tests) in rw apart (unknown_seen tails (j + 1) slots n i (omega arith) none)

pub no_position : (ks : List IntakeRow) (n : ℕ) → known_at ks n ≡ None → position n ks ≡ None
no_position [] n none = refl
no_position (k ∷ ks) n none = by_test (k.row == n) refl none (no_position ks n)
  where
    by_test : (b : Bool) → (k.row == n) ≡ b → cond b (Some k) (known_at ks n) ≡ None → (known_at ks n ≡ None → position n ks ≡ None) → position n (k ∷ ks) ≡ None
    by_test true is none more = absurd cc
    by_test false is none more = rw (is, more none) refl

-- none has the name
pub data Unnamed (name : List ℕ) (rows : List IntakeRow) : Type 0 where
  is_unnamed : known_as rows name ≡ None → ((q : ℕ) → machine.place (λ row. same_bytes row.name name) q (map as_row rows) ≡ None) → Unnamed name rows

pub unnamed_seen : (tails : List TailState) (j : ℕ) (slots : List (Option KnownRow)) (name : List ℕ) → ((i : ℕ) (k : KnownRow) → slot_at slots i ≡ Some k → k.name ≢ name) → Unnamed name (seen_from tails j slots)
unnamed_seen tails j [] name none = is_unnamed refl (λ q. refl)
unnamed_seen tails j (None ∷ slots) name none = unnamed_seen tails (j + 1) slots name (λ i k here. none (suc i) k here)
unnamed_seen tails j (Some k ∷ slots) name none = by_name (same_bytes k.name name) refl (unnamed_seen tails (j + 1) slots name (λ i h here. none (suc i) h here))
  where
    by_name : (b : Bool) → same_bytes k.name name ≡ b → Unnamed name (seen_from tails (j + 1) slots) → Unnamed name (seen_from tails j (Some k ∷ slots))
    by_name true is rest = absurd (none 0 k refl (same_bytes_is k.name name is))
    by_name false is (is_unnamed none_known place) = is_unnamed (rw is none_known) (λ q. rw is (place (q + 1)))

-- A ROW THAT IS KNOWN

-- no other row has its name
abbrev pub IsOnly : List (Option KnownRow) → ℕ → KnownRow → Type 0
IsOnly slots i k = (o : ℕ) (x : KnownRow) → slot_at slots o ≡ Some x → x.name ≡ k.name → o ≡ i

-- where the row with this number, which is kept in the slot i, stands among those that are seen
pub record Placed (tails : List TailState) (j : ℕ) (slots : List (Option KnownRow)) (n i : ℕ) (k : KnownRow) : Type 0 where
  pub spot : ℕ
  pub here : slice_get (seen_from tails j slots) spot ≡ Some (seen tails n k)
  pub position_is : position n (seen_from tails j slots) ≡ Some spot
  pub known_is : known_at (seen_from tails j slots) n ≡ Some (seen tails n k)
  pub changes : (new : List TailState) (now : KnownRow) → ((other : ℕ) → other ≢ n → (tail_at new other).samples ≡ (tail_at tails other).samples)
      → seen_from new j (slice_set slots i (Some now)) ≡ slice_set (seen_from tails j slots) spot (seen new n now)
  pub found : IsOnly slots i k → (q : ℕ) → machine.place (λ row. same_bytes row.name k.name) q (map as_row (seen_from tails j slots)) ≡ Some (q + spot)
  pub named : IsOnly slots i k → known_as (seen_from tails j slots) k.name ≡ Some (seen tails n k)

fewer : (slot : Option KnownRow) (slots : List (Option KnownRow)) (i : ℕ) (k : KnownRow) → IsOnly (slot ∷ slots) (suc i) k → IsOnly slots i k
fewer slot slots i k only o x here same = let up : suc o ≡ suc i = only (suc o) x here same in omega arith

first_placed : (tails : List TailState) (j : ℕ) (slots : List (Option KnownRow)) (k : KnownRow) → Placed tails j (Some k ∷ slots) j zero k
first_placed tails j slots k =
    let own : (j == j) ≡ true = grind (arith, nat_tests) in
    record {
      spot = 0;
      here = refl;
      position_is = rw own refl;
      known_is = rw own refl;
      changes = λ new now same. ap (λ (xs : List IntakeRow). seen new j now ∷ xs) (others_seen tails new (j + 1) slots (λ n high. same n (λ is. omega (arith, high, is))));
      found = λ only q. rw (same_bytes-refl k.name) (ap (λ (n : ℕ). Some n) (let e : q ≡ q + 0 = omega arith in e));
      named = λ only. rw (same_bytes-refl k.name) refl;
    }

pub placed : (tails : List TailState) (j : ℕ) (slots : List (Option KnownRow)) (n i : ℕ) (k : KnownRow) → n ≡ j + i → slot_at slots i ≡ Some k → Placed tails j slots n i k
placed tails j [] n i k is here = absurd cc
placed tails j (None ∷ slots) n zero k is here = absurd cc
placed tails j (None ∷ slots) n (suc i) k is here =
    let p = placed tails (j + 1) slots n i k (omega arith) here in
    record {
      spot = p.spot;
      here = p.here;
      position_is = p.position_is;
      known_is = p.known_is;
      changes = p.changes;
      found = λ only. p.found (fewer None slots i k only);
      named = λ only. p.named (fewer None slots i k only);
    }
placed tails j (Some x ∷ slots) n zero k is here =
    let same : x ≡ k = some_same here in
    let number : j ≡ n = omega arith in
    subst (λ (m : ℕ). Placed tails j (Some x ∷ slots) m zero k) number (subst (λ (w : KnownRow). Placed tails j (Some x ∷ slots) j zero w) same (first_placed tails j slots x))
placed tails j (Some x ∷ slots) n (suc i) k is here = by_rest (placed tails (j + 1) slots n i k (omega arith) here)
  where
    apart : (j == n) ≡ false
    apart = grind (arith, nat_tests)

    found_by : (q : ℕ) (p : Placed tails (j + 1) slots n i k) → IsOnly (Some x ∷ slots) (suc i) k → (b : Bool) → same_bytes x.name k.name ≡ b
        → machine.place (λ row. same_bytes row.name k.name) q (map as_row (seen_from tails j (Some x ∷ slots))) ≡ Some (q + suc p.spot)
    found_by q p only true same = absurd (let bad : 0 ≡ suc i = only 0 x refl (same_bytes_is x.name k.name same) in omega arith)
    found_by q p only false same = rw same (p.found (fewer (Some x) slots i k only) (q + 1) ∙ ap (λ (m : ℕ). Some m) (let e : q + 1 + p.spot ≡ q + suc p.spot = omega arith in e))

    named_by : (p : Placed tails (j + 1) slots n i k) → IsOnly (Some x ∷ slots) (suc i) k → (b : Bool) → same_bytes x.name k.name ≡ b → known_as (seen_from tails j (Some x ∷ slots)) k.name ≡ Some (seen tails n k)
    named_by p only true same = absurd (let bad : 0 ≡ suc i = only 0 x refl (same_bytes_is x.name k.name same) in omega arith)
    named_by p only false same = rw same (p.named (fewer (Some x) slots i k only))

    by_rest : Placed tails (j + 1) slots n i k → Placed tails j (Some x ∷ slots) n (suc i) k
    by_rest p =
        record {
          spot = suc p.spot;
          here = p.here;
          position_is = rw (apart, p.position_is) (ap (λ (m : ℕ). Some m) (let e : p.spot + 1 ≡ suc p.spot = omega arith in e));
          known_is = rw apart p.known_is;
          changes = λ new now same.
              ap (λ (h : IntakeRow). h ∷ seen_from new (j + 1) (slice_set slots i (Some now))) (seen_same tails new j x (same j (λ e. omega (arith, e, is))))
              ∙ ap (λ (xs : List IntakeRow). seen tails j x ∷ xs) (p.changes new now same);
          found = λ only q. found_by q p only (same_bytes x.name k.name) refl;
          named = λ only. named_by p only (same_bytes x.name k.name) refl;
        }

-- ROWS OF A MACHINE AGAIN

pub all_kept : (ks : List IntakeRow) → kept_rows ks (map as_row ks) ≡ ks
all_kept [] = refl
all_kept (k ∷ ks) = ap (λ (xs : List IntakeRow). k ∷ xs) (all_kept ks)

past_kept : (f : RowState → RowState) (q j : ℕ) (ks : List IntakeRow) → q < j → kept_rows ks (each (at q f) j (map as_row ks)) ≡ ks
past_kept f q j [] past = refl
past_kept f q j (k ∷ ks) past =
    let apart : (j == q) ≡ false = grind (arith, nat_tests) in
    let rest = past_kept f q (j + 1) ks (omega arith) in
    rw apart (ap (λ (xs : List IntakeRow). k ∷ xs) rest)

pub one_kept : (f : RowState → RowState) (q j p : ℕ) (ks : List IntakeRow) (k : IntakeRow) → q ≡ j + p → slice_get ks p ≡ Some k
    → kept_rows ks (each (at q f) j (map as_row ks)) ≡ slice_set ks p (kept_row k (f (as_row k)))
one_kept f q j p [] k is here = absurd cc
one_kept f q j zero (x ∷ ks) k is here =
    let own : (j == q) ≡ true = grind (arith, nat_tests) in
    let same : x ≡ k = some_same here in
    rw own (ap (λ (w : IntakeRow). kept_row w (f (as_row w)) ∷ kept_rows ks (each (at q f) (j + 1) (map as_row ks))) same
    ∙ ap (λ (xs : List IntakeRow). kept_row k (f (as_row k)) ∷ xs) (past_kept f q (j + 1) ks (omega arith)))
one_kept f q j (suc p) (x ∷ ks) k is here =
    let apart : (j == q) ≡ false = grind (arith, nat_tests) in
    rw apart (ap (λ (xs : List IntakeRow). x ∷ xs) (one_kept f q (j + 1) p ks k (omega arith) here))

pub row_mapped : (ks : List IntakeRow) (p : ℕ) (k : IntakeRow) → slice_get ks p ≡ Some k → slice_get (map as_row ks) p ≡ Some (as_row k)
row_mapped [] p k here = absurd cc
row_mapped (x ∷ ks) zero k here = ap (λ (w : IntakeRow). Some (as_row w)) (some_same here)
row_mapped (x ∷ ks) (suc p) k here = row_mapped ks p k here
