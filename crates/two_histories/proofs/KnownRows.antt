-- The rows that the intake knows, after an offer or a tick, and after a Take.
use Rattle.std.proofs.Common.{◌≡◌, ℕ, ◌+◌, ◌<◌, ◌≤◌, List, [], ◌∷◌, ◌++◌, length, map, Option, Some, None, Bool, true, false, cond, zero, suc, refl, ap, sym, ◌∙◌, subst, arith}
use Rattle.std.specs.Prelude.{◌==◌, max, slice_get, nat_lt}
use Rattle.std.specs.List.{AllByRecursion}
use Rattle.std.proofs.lemmas.Bool.Decides.{nat_tests}
use Rattle.pb_messages.specs.declared.about.State.{State}
use Rattle.act_model.specs.Event.{IsEvent}
use Rattle.act_model.specs.Machine.{held_bytes}
use Rattle.act_model.specs.Rows.{RowState, size_of}
use Rattle.act_model.specs.Sound.{IsHeld}
use Rattle.two_histories.specs.ArchiveIntake.{IntakeRow, known_at, as_row, kept_row, kept_rows, trimmed, first_known, taken_over, with_row, with_rows}
use Rattle.two_histories.specs.ArchiveStore.{RegisteredRow}
use Rattle.series_model.specs.Sampling.{first_cell}
use Rattle.two_histories.proofs.Gaining.{RowGains, same_row, one_more}
use Rattle.act_model.proofs.MadeLaws.{since_lines, since_size}

-- numbers rise, from a number on
abbrev pub Ascends : ℕ → List IntakeRow → Type 0
Ascends n [] = Unit {0}
Ascends n (k ∷ rows) = (n ≤ k.row) × Ascends (k.row + 1) rows

-- what is kept and held of a row is an event of its type
abbrev pub HasEvents : IntakeRow → Type 0
HasEvents k = AllByRecursion (IsEvent k.about.ty) k.tail × IsHeld k.about.ty k.cell.held

-- none has a smaller number
pub none_below : (n i : ℕ) (rows : List IntakeRow) → Ascends n rows → i < n → known_at rows i ≡ None
none_below n i [] up low = refl
none_below n i (k ∷ rows) up low = by_test (k.row == i) refl (none_below (k.row + 1) i rows up.1 (let first : n ≤ k.row = up.0 in omega arith))
  where
    by_test : (b : Bool) → (k.row == i) ≡ b → known_at rows i ≡ None → cond b (Some k) (known_at rows i) ≡ None
    by_test true is more = absurd (let same : k.row ≡ i = grind (arith, nat_tests) in let first : n ≤ k.row = up.0 in omega arith)
    by_test false is more = more

-- AN OFFER OR A TICK

abbrev pub AreKept : List IntakeRow → List RowState → Type 0
AreKept [] [] = Unit {0}
AreKept [] (row ∷ rows) = ⊥
AreKept (k ∷ ks) [] = ⊥
AreKept (k ∷ ks) (row ∷ rows) = RowGains (as_row k) row × AreKept ks rows

pub are_kept : (ks : List IntakeRow) (rows : List RowState) → length rows ≡ length (map as_row ks) → ((i : ℕ) (row : RowState) → slice_get (map as_row ks) i ≡ Some row → (new : RowState) × (slice_get rows i ≡ Some new) × RowGains row new) → AreKept ks rows
are_kept [] [] same each = tt
are_kept [] (row ∷ rows) same each = absurd (omega arith)
are_kept (k ∷ ks) [] same each = absurd (omega arith)
are_kept (k ∷ ks) (row ∷ rows) same each =
    let first = each 0 (as_row k) refl in
    let is : row ≡ first.0 = some_same first.1 in
    (subst (λ r. RowGains (as_row k) r) (sym is) first.2, are_kept ks rows (omega arith) (λ i r here. each (suc i) r here))
  where
    some_same : {a b : RowState} → Some a ≡ Some b → a ≡ b
    some_same is = cc

-- a row by its number
pub data KeptAt (ks : List IntakeRow) (rows : List RowState) (r : ℕ) : Type 0 where
  not_known : known_at ks r ≡ None → known_at (kept_rows ks rows) r ≡ None → KeptAt ks rows r
  is_known : (k : IntakeRow) (row : RowState) → known_at ks r ≡ Some k → known_at (kept_rows ks rows) r ≡ Some (kept_row k row) → RowGains (as_row k) row → KeptAt ks rows r

pub kept_at : (ks : List IntakeRow) (rows : List RowState) (r : ℕ) → AreKept ks rows → KeptAt ks rows r
kept_at [] [] r all = not_known refl refl
kept_at [] (row ∷ rows) r all = absurd all
kept_at (k ∷ ks) [] r all = absurd all
kept_at (k ∷ ks) (row ∷ rows) r all = by_test (k.row == r) refl (kept_at ks rows r all.1)
  where
    by_test : (b : Bool) → (k.row == r) ≡ b → KeptAt ks rows r → KeptAt (k ∷ ks) (row ∷ rows) r
    by_test true is rest = is_known k row (rw is refl) (rw is refl) all.0
    by_test false is (not_known a b) = not_known (rw is a) (rw is b)
    by_test false is (is_known k' row' a b gain) = is_known k' row' (rw is a) (rw is b) gain

pub kept_ascends : (n : ℕ) (ks : List IntakeRow) (rows : List RowState) → Ascends n ks → Ascends n (kept_rows ks rows)
kept_ascends n [] rows up = tt
kept_ascends n (k ∷ ks) [] up = tt
kept_ascends n (k ∷ ks) (row ∷ rows) up = (up.0, kept_ascends (k.row + 1) ks rows up.1)

all_more : {A : Type 0} (P : A → Type 0) (xs : List A) (x : A) → AllByRecursion P xs → P x → AllByRecursion P (xs ++ x ∷ [])
all_more P [] x all one = (one, tt)
all_more P (y ∷ xs) x all one = (all.0, all_more P xs x all.1 one)

kept_events : (k : IntakeRow) (row : RowState) → HasEvents k → RowGains (as_row k) row → HasEvents (kept_row k row)
kept_events k row has (same_row tail next held) = (subst (λ w. AllByRecursion (IsEvent k.about.ty) w) (sym tail) has.0, held)
kept_events k row has (one_more s up tail next late event held) = (subst (λ w. AllByRecursion (IsEvent k.about.ty) w) (sym tail) (all_more (IsEvent k.about.ty) k.tail s has.0 event), held)

pub kept_lines : (ks : List IntakeRow) (rows : List RowState) → AreKept ks rows → AllByRecursion HasEvents ks → AllByRecursion HasEvents (kept_rows ks rows)
kept_lines [] rows all lines = tt
kept_lines (k ∷ ks) [] all lines = absurd all
kept_lines (k ∷ ks) (row ∷ rows) all lines = (kept_events k row lines.0 all.0, kept_lines ks rows all.1 lines.1)

pub kept_bytes : (ks : List IntakeRow) (rows : List RowState) → AreKept ks rows → held_bytes (map as_row (kept_rows ks rows)) ≡ held_bytes rows
kept_bytes [] [] all = refl
kept_bytes [] (row ∷ rows) all = absurd all
kept_bytes (k ∷ ks) [] all = absurd all
kept_bytes (k ∷ ks) (row ∷ rows) all = let more = kept_bytes ks rows all.1 in ap (λ n. size_of row.tail + n) more

pub held_fits : (ks : List IntakeRow) (i : ℕ) (row : RowState) → AllByRecursion HasEvents ks → slice_get (map as_row ks) i ≡ Some row → IsHeld row.about.ty row.cell.held
held_fits [] i row lines here = absurd cc
held_fits (k ∷ ks) zero row lines here = let same : as_row k ≡ row = cc in subst (λ (r : RowState). IsHeld r.about.ty r.cell.held) same lines.0.1
held_fits (k ∷ ks) (suc i) row lines here = held_fits ks i row lines.1 here

-- A TAKE

pub data TrimmedAt (ends : ℕ → ℕ) (ks : List IntakeRow) (r : ℕ) : Type 0 where
  trims_none : known_at ks r ≡ None → known_at (map (trimmed ends) ks) r ≡ None → TrimmedAt ends ks r
  trims_one : (k : IntakeRow) → known_at ks r ≡ Some k → k.row ≡ r → known_at (map (trimmed ends) ks) r ≡ Some (trimmed ends k) → TrimmedAt ends ks r

pub trimmed_at : (ends : ℕ → ℕ) (ks : List IntakeRow) (r : ℕ) → TrimmedAt ends ks r
trimmed_at ends [] r = trims_none refl refl
trimmed_at ends (k ∷ ks) r = by_test (k.row == r) refl (trimmed_at ends ks r)
  where
    by_test : (b : Bool) → (k.row == r) ≡ b → TrimmedAt ends ks r → TrimmedAt ends (k ∷ ks) r
    by_test true is rest = trims_one k (rw is refl) (grind (arith, nat_tests)) (rw is refl)
    by_test false is (trims_none a b) = trims_none (rw is a) (rw is b)
    by_test false is (trims_one k' a own b) = trims_one k' (rw is a) own (rw is b)

pub trimmed_ascends : (ends : ℕ → ℕ) (n : ℕ) (ks : List IntakeRow) → Ascends n ks → Ascends n (map (trimmed ends) ks)
trimmed_ascends ends n [] up = tt
trimmed_ascends ends n (k ∷ ks) up = (up.0, trimmed_ascends ends (k.row + 1) ks up.1)

pub trimmed_lines : (ends : ℕ → ℕ) (ks : List IntakeRow) → AllByRecursion HasEvents ks → AllByRecursion HasEvents (map (trimmed ends) ks)
trimmed_lines ends [] lines = tt
trimmed_lines ends (k ∷ ks) lines = ((since_lines (IsEvent k.about.ty) (ends k.row) k.tail lines.0.0, lines.0.1), trimmed_lines ends ks lines.1)

pub trimmed_bytes : (ends : ℕ → ℕ) (ks : List IntakeRow) → held_bytes (map as_row (map (trimmed ends) ks)) ≤ held_bytes (map as_row ks)
trimmed_bytes ends [] = omega arith
trimmed_bytes ends (k ∷ ks) = let one = since_size (ends k.row) k.tail in let more = trimmed_bytes ends ks in omega arith

-- a row that was known before is of the same variable, with what was accepted, and no change of it is forgotten
pub record SameKnown (k new : IntakeRow) : Type 0 where
  pub about : new.about ≡ k.about
  pub name : new.name ≡ k.name
  pub tail : new.tail ≡ k.tail
  pub next : new.next ≡ k.next
  pub up : k.changed ≤ new.changed

same_known : (k : IntakeRow) → SameKnown k k
same_known k = record { about = refl; name = refl; tail = refl; next = refl; up = omega arith }

known_trans : (a b c : IntakeRow) → SameKnown a b → SameKnown b c → SameKnown a c
known_trans a b c p q =
    record { about = q.about ∙ p.about; name = q.name ∙ p.name; tail = q.tail ∙ p.tail; next = q.next ∙ p.next; up = (let one : a.changed ≤ b.changed = p.up in let two : b.changed ≤ c.changed = q.up in omega arith) }

over_same : (reg : RegisteredRow) (k : IntakeRow) → SameKnown k (taken_over reg k)
over_same reg k = record { about = refl; name = refl; tail = refl; next = refl; up = omega arith }

-- where a row that is known afterwards comes from
pub data FromTake (regs : List RegisteredRow) (ks : List IntakeRow) (r : ℕ) (new : IntakeRow) : Type 0 where
  was_known : (k : IntakeRow) → known_at ks r ≡ Some k → SameKnown k new → FromTake regs ks r new
  is_told : (reg : RegisteredRow) (front back : List RegisteredRow) → regs ≡ front ++ reg ∷ back → reg.row ≡ r → known_at ks r ≡ None → new.about ≡ reg.about → new.name ≡ reg.name → new.tail ≡ [] → FromTake regs ks r new

-- the rows known afterwards, by number
pub data TookAt (regs : List RegisteredRow) (ks news : List IntakeRow) (r : ℕ) : Type 0 where
  takes_none : known_at ks r ≡ None → known_at news r ≡ None → TookAt regs ks news r
  takes_one : (new : IntakeRow) → known_at news r ≡ Some new → FromTake regs ks r new → TookAt regs ks news r

-- one row that is told
pub data OneTook (all : List IntakeRow) (reg : RegisteredRow) (ks news : List IntakeRow) (r : ℕ) : Type 0 where
  same_as : known_at news r ≡ known_at ks r → OneTook all reg ks news r
  took_over : (k : IntakeRow) → reg.row ≡ r → known_at ks r ≡ Some k → known_at news r ≡ Some (taken_over reg k) → OneTook all reg ks news r
  came_new : reg.row ≡ r → known_at ks r ≡ None → known_at news r ≡ Some (first_known all reg) → OneTook all reg ks news r

one_took : (all : List IntakeRow) (n : ℕ) (reg : RegisteredRow) (ks : List IntakeRow) (r : ℕ) → Ascends n ks → OneTook all reg ks (with_row reg (first_known all reg) ks) r
one_took all n reg [] r up = by_own (reg.row == r) refl
  where
    by_own : (b : Bool) → (reg.row == r) ≡ b → OneTook all reg [] (first_known all reg ∷ []) r
    by_own true is = came_new (grind (arith, nat_tests)) refl (rw is refl)
    by_own false is = same_as (rw is refl)
one_took all n reg (k ∷ ks) r up = by_same (one_took all (k.row + 1) reg ks r up.1) (k.row == reg.row) refl
  where
    over_head : (k.row == reg.row) ≡ true → (b : Bool) → (k.row == r) ≡ b → OneTook all reg (k ∷ ks) (taken_over reg k ∷ ks) r
    over_head same true is = took_over k (grind (arith, nat_tests)) (rw is refl) (rw is refl)
    over_head same false is = same_as (rw is refl)

    before_head : reg.row < k.row → (b : Bool) → (reg.row == r) ≡ b → OneTook all reg (k ∷ ks) ((first_known all reg) ∷ (k ∷ ks)) r
    before_head low true is = let same : reg.row ≡ r = grind (arith, nat_tests) in came_new same (none_below k.row r (k ∷ ks) (omega arith, up.1) (omega arith)) (rw is refl)
    before_head low false is = same_as (rw is refl)

    behind_head : (b : Bool) → (k.row == r) ≡ b → OneTook all reg ks (with_row reg (first_known all reg) ks) r → OneTook all reg (k ∷ ks) (k ∷ with_row reg (first_known all reg) ks) r
    behind_head true is rest = same_as (rw is refl)
    behind_head false is (same_as same) = same_as (rw is same)
    behind_head false is (took_over k' own a b) = took_over k' own (rw is a) (rw is b)
    behind_head false is (came_new own a b) = came_new own (rw is a) (rw is b)

    by_order : OneTook all reg ks (with_row reg (first_known all reg) ks) r → (b : Bool) → nat_lt reg.row k.row ≡ b → (k.row == reg.row) ≡ false → OneTook all reg (k ∷ ks) (with_row reg (first_known all reg) (k ∷ ks)) r
    by_order rest true is apart = rw (apart, is) (before_head (grind (arith, nat_tests)) (reg.row == r) refl)
    by_order rest false is apart = rw (apart, is) (behind_head (k.row == r) refl rest)

    by_same : OneTook all reg ks (with_row reg (first_known all reg) ks) r → (b : Bool) → (k.row == reg.row) ≡ b → OneTook all reg (k ∷ ks) (with_row reg (first_known all reg) (k ∷ ks)) r
    by_same rest true is = rw is (over_head is (k.row == r) refl)
    by_same rest false is = by_order rest (nat_lt reg.row k.row) refl is

with_ascends : (all : List IntakeRow) (n : ℕ) (reg : RegisteredRow) (ks : List IntakeRow) → n ≤ reg.row → Ascends n ks → Ascends n (with_row reg (first_known all reg) ks)
with_ascends all n reg [] low up = (low, tt)
with_ascends all n reg (k ∷ ks) low up = by_same (λ past. with_ascends all (k.row + 1) reg ks past up.1) (k.row == reg.row) refl
  where
    by_order : (k.row + 1 ≤ reg.row → Ascends (k.row + 1) (with_row reg (first_known all reg) ks)) → (b : Bool) → nat_lt reg.row k.row ≡ b → (k.row == reg.row) ≡ false → Ascends n (with_row reg (first_known all reg) (k ∷ ks))
    by_order rest true is apart = rw (apart, is) (low, ((let less : reg.row < k.row = grind (arith, nat_tests) in omega arith), up.1))
    by_order rest false is apart = rw (apart, is) (up.0, rest (grind (arith, nat_tests)))

    by_same : (k.row + 1 ≤ reg.row → Ascends (k.row + 1) (with_row reg (first_known all reg) ks)) → (b : Bool) → (k.row == reg.row) ≡ b → Ascends n (with_row reg (first_known all reg) (k ∷ ks))
    by_same rest true is = rw is (up.0, up.1)
    by_same rest false is = by_order rest (nat_lt reg.row k.row) refl is

over_events : (reg : RegisteredRow) (k : IntakeRow) → HasEvents k → HasEvents (taken_over reg k)
over_events reg k has = (has.0, by_test (nat_lt k.changed reg.changed))
  where
    by_test : (b : Bool) → IsHeld k.about.ty (cond b first_cell k.cell).held
    by_test true = tt
    by_test false = has.1

with_lines : (all : List IntakeRow) (reg : RegisteredRow) (ks : List IntakeRow) → AllByRecursion HasEvents ks → AllByRecursion HasEvents (with_row reg (first_known all reg) ks)
with_lines all reg [] lines = ((tt, tt), tt)
with_lines all reg (k ∷ ks) lines = by_tests (k.row == reg.row) (nat_lt reg.row k.row) (with_lines all reg ks lines.1)
  where
    by_tests : (b c : Bool) → AllByRecursion HasEvents (with_row reg (first_known all reg) ks) → AllByRecursion HasEvents (cond b (taken_over reg k ∷ ks) (cond c ((first_known all reg) ∷ (k ∷ ks)) (k ∷ with_row reg (first_known all reg) ks)))
    by_tests true c more = (over_events reg k lines.0, lines.1)
    by_tests false true more = ((tt, tt), lines)
    by_tests false false more = (lines.0, more)

with_bytes : (all : List IntakeRow) (reg : RegisteredRow) (ks : List IntakeRow) → held_bytes (map as_row (with_row reg (first_known all reg) ks)) ≡ held_bytes (map as_row ks)
with_bytes all reg [] = refl
with_bytes all reg (k ∷ ks) = by_tests (k.row == reg.row) (nat_lt reg.row k.row) (with_bytes all reg ks)
  where
    by_tests : (b c : Bool) → held_bytes (map as_row (with_row reg (first_known all reg) ks)) ≡ held_bytes (map as_row ks) → held_bytes (map as_row (cond b (taken_over reg k ∷ ks) (cond c ((first_known all reg) ∷ (k ∷ ks)) (k ∷ with_row reg (first_known all reg) ks)))) ≡ held_bytes (map as_row (k ∷ ks))
    by_tests true c more = refl
    by_tests false true more = omega arith
    by_tests false false more = ap (λ n. size_of k.tail + n) more

-- all that are told
pub record Took (regs : List RegisteredRow) (ks news : List IntakeRow) : Type 0 where
  pub ascends : Ascends 0 news
  pub lines : AllByRecursion HasEvents news
  pub bytes : held_bytes (map as_row news) ≡ held_bytes (map as_row ks)
  pub at : (r : ℕ) → TookAt regs ks news r

some_same : {a b : IntakeRow} → Some a ≡ Some b → a ≡ b
some_same is = cc

pub took : (regs : List RegisteredRow) (ks : List IntakeRow) → Ascends 0 ks → AllByRecursion HasEvents ks → Took regs ks (with_rows regs ks)
took [] ks up lines = record { ascends = up; lines = lines; bytes = refl; at = λ r. by_known r (known_at ks r) refl }
  where
    by_known : (r : ℕ) (o : Option IntakeRow) → known_at ks r ≡ o → TookAt [] ks ks r
    by_known r None is = takes_none is is
    by_known r (Some k) is = takes_one k is (was_known k is (same_known k))
took (reg ∷ regs) ks up lines =
    let rest = took regs (with_row reg (first_known ks reg) ks) (with_ascends ks 0 reg ks (omega arith) up) (with_lines ks reg ks lines) in
    record { ascends = rest.ascends; lines = rest.lines; bytes = rest.bytes ∙ with_bytes ks reg ks; at = λ r. by_rest r (rest.at r) (one_took ks 0 reg ks r up) }
  where
    from_none : (r : ℕ) → known_at (with_row reg (first_known ks reg) ks) r ≡ None → OneTook ks reg ks (with_row reg (first_known ks reg) ks) r → known_at ks r ≡ None
    from_none r none (same_as same) = sym same ∙ none
    from_none r none (took_over k own a b) = absurd (let bad = sym none ∙ b in cc)
    from_none r none (came_new own a b) = a

    from_some : (r : ℕ) (new k' : IntakeRow) → known_at (with_row reg (first_known ks reg) ks) r ≡ Some k' → SameKnown k' new → OneTook ks reg ks (with_row reg (first_known ks reg) ks) r → FromTake (reg ∷ regs) ks r new
    from_some r new k' here same (same_as is) = was_known k' (sym is ∙ here) same
    from_some r new k' here same (took_over k own a b) =
        let is : k' ≡ taken_over reg k = some_same (sym here ∙ b) in was_known k a (known_trans k (taken_over reg k) new (over_same reg k) (subst (λ x. SameKnown x new) is same))
    from_some r new k' here same (came_new own a b) =
        let is : k' ≡ first_known ks reg = some_same (sym here ∙ b) in
        is_told reg [] regs refl own a (same.about ∙ ap (λ (x : IntakeRow). x.about) is) (same.name ∙ ap (λ (x : IntakeRow). x.name) is) (same.tail ∙ ap (λ (x : IntakeRow). x.tail) is)

    by_from : (r : ℕ) (new : IntakeRow) → FromTake regs (with_row reg (first_known ks reg) ks) r new → OneTook ks reg ks (with_row reg (first_known ks reg) ks) r → FromTake (reg ∷ regs) ks r new
    by_from r new (was_known k' here same) first = from_some r new k' here same first
    by_from r new (is_told other front back is own none about name tail) first = is_told other (reg ∷ front) back (ap (λ w. reg ∷ w) is) own (from_none r none first) about name tail

    by_rest : (r : ℕ) → TookAt regs (with_row reg (first_known ks reg) ks) (with_rows regs (with_row reg (first_known ks reg) ks)) r → OneTook ks reg ks (with_row reg (first_known ks reg) ks) r → TookAt (reg ∷ regs) ks (with_rows regs (with_row reg (first_known ks reg) ks)) r
    by_rest r (takes_none none none') first = takes_none (from_none r none first) none'
    by_rest r (takes_one new there from) first = takes_one new there (by_from r new from first)

-- WHERE A STATE COMES FROM

over_was : (P : ℕ → State → Type 0) (reg : RegisteredRow) (k : IntakeRow) → P reg.changed reg.state → P k.changed k.state → P (taken_over reg k).changed (taken_over reg k).state
over_was P reg k told was = by_test (nat_lt k.changed reg.changed) refl
  where
    by_test : (b : Bool) → nat_lt k.changed reg.changed ≡ b → P (max k.changed reg.changed) (cond b reg.state k.state)
    by_test true is = let low : k.changed < reg.changed = grind (arith, nat_tests) in let later : max k.changed reg.changed ≡ reg.changed = omega arith in subst (λ n. P n reg.state) (sym later) told
    by_test false is = let low : reg.changed ≤ k.changed = grind (arith, nat_tests) in let same : max k.changed reg.changed ≡ k.changed = omega arith in subst (λ n. P n k.state) (sym same) was

-- what holds of each state that was known or is told, with its change number, holds of each that is known afterwards
pub took_was : (P : ℕ → ℕ → State → Type 0) (regs : List RegisteredRow) (ks : List IntakeRow) → Ascends 0 ks → ((reg : RegisteredRow) (front back : List RegisteredRow) → regs ≡ front ++ reg ∷ back → P reg.row reg.changed reg.state)
    → ((r : ℕ) (k : IntakeRow) → known_at ks r ≡ Some k → P r k.changed k.state) → (r : ℕ) (k : IntakeRow) → known_at (with_rows regs ks) r ≡ Some k → P r k.changed k.state
took_was P [] ks up told was r k here = was r k here
took_was P (reg ∷ regs) ks up told was r k here =
    took_was P regs (with_row reg (first_known ks reg) ks) (with_ascends ks 0 reg ks (omega arith) up) (λ other front back is. told other (reg ∷ front) back (ap (λ w. reg ∷ w) is)) (λ i x there. by_one i x there (one_took ks 0 reg ks i up)) r k here
  where
    own : (i : ℕ) → reg.row ≡ i → P i reg.changed reg.state
    own i at = subst (λ n. P n reg.changed reg.state) at (told reg [] regs refl)

    by_one : (i : ℕ) (x : IntakeRow) → known_at (with_row reg (first_known ks reg) ks) i ≡ Some x → OneTook ks reg ks (with_row reg (first_known ks reg) ks) i → P i x.changed x.state
    by_one i x there (same_as same) = was i x (sym same ∙ there)
    by_one i x there (took_over old at a b) = subst (λ (y : IntakeRow). P i y.changed y.state) (some_same (sym b ∙ there)) (over_was (P i) reg old (own i at) (was i old a))
    by_one i x there (came_new at a b) = subst (λ (y : IntakeRow). P i y.changed y.state) (some_same (sym b ∙ there)) (own i at)
