-- The intake of a state acts as the machine: its rows are the machine's without what stands in files, of which an offer or a tick reads nothing.
use Rattle.std.proofs.Common.{◌≡◌, inl, inr, ℕ, zero, suc, ◌+◌, List, [], ◌∷◌, map, Option, Some, None, Bool, true, false, refl, ap, sym, ◌∙◌, subst, arith}
use Rattle.std.specs.Prelude.{◌-◌, ◌<◌, ◌==◌, length, slice_get, if◌then◌else◌, nat_lt, nat_le}
use Rattle.std.proofs.lemmas.Bool.Decides.{nat_tests}
use Rattle.std.proofs.lemmas.Option.{same_Some}
use Rattle.pb_messages.specs.declared.about.Method.{Method}
use Rattle.pb_messages.specs.declared.about.Method.TheVariants.{Monitor, Scan}
use Rattle.pb_wire.specs.declared.payload.PayloadType.{PayloadType}
use Rattle.series_model.specs.Limits.{intake_room}
use Rattle.series_model.specs.Admission.{refused_by_row, refused_by_time}
use Rattle.series_model.specs.declared.admission.Reason.{Reason}
use Rattle.series_model.specs.declared.admission.Reason.TheVariants.{Unknown}
use Rattle.series_model.specs.declared.sample.Sample.{Sample}
use Rattle.act_model.specs.declared.acts.Act.{Act}
use Rattle.act_model.specs.declared.acts.Act.TheVariants.{Register, Pause, Resume, Rename, Offer, Tick, Flush, MoveBegin, MoveStep, Sweep, Pin, OpenPiece, Unpin, Names, Details, Doors, DoorDone}
use Rattle.act_model.specs.declared.acts.Answer.TheVariants.{Dropped, DoorsLeft, IntakeFull, Kept, Held, NoRow, TickNone, NotDue, TickKept}
use Rattle.act_model.specs.Changes.{each, at, with_rows}
use Rattle.act_model.specs.Machine.{Machine, place, find_row, same_bytes, held_bytes}
use Rattle.act_model.specs.Offer.{gains, with_held, tried, offered_to, offered}
use Rattle.act_model.specs.Outcome.{Outcome, Ends}
use Rattle.act_model.specs.Reply.{Reply}
use Rattle.act_model.specs.Rows.{RowState, number_of, standing, is_running, period_of, size_of}
use Rattle.act_model.specs.Step.{Step}
use Rattle.act_model.specs.Tick.{moved_on, ticked_due, ticked}
use Rattle.two_histories.specs.ArchiveHistories.{IsIntakeOf, first_row, first_rows, intake_first, store_first, unnumbered}
use Rattle.two_histories.specs.ArchiveIntake.{IntakeHalf, IntakeRow, as_row, intake_of, kept_row, kept_rows, machine_of, position}
use Rattle.two_histories.specs.ArchiveLaws.{IntakeActsAlone, StepsTo, act_of}
use Rattle.two_histories.specs.ArchiveStore.{StoreRow, left_row, left_rows}
use Rattle.two_histories.specs.IntakeStep.{IntakeAnswer, IntakePart, IntakeStep, IsOfIntake, Replies, offers, ticks, no_row, sees_doors, sees_batch, sees_row, takes, takes_flush, TakesMemory, lacks_memory, Offers, Ticks, LooksForDoors, LooksForBatch, LooksAt, Takes, TakesFlush}

-- ROWS

-- a row without what stands in files
abbrev bare : RowState → RowState
bare row = as_row (first_row 0 row)

-- no more of the row has changed than an offer or a tick may change
abbrev IsAs : RowState → RowState → Type 0
IsAs row new = new ≡ record row { next = new.next; tail = new.tail; cell = new.cell }

abbrev AreAs : List RowState → List RowState → Type 0
AreAs [] [] = Unit {0}
AreAs [] (new ∷ news) = ⊥
AreAs (row ∷ rows) [] = ⊥
AreAs (row ∷ rows) (new ∷ news) = IsAs row new × AreAs rows news

as_same : (rows : List RowState) → AreAs rows rows
as_same [] = tt
as_same (row ∷ rows) = (refl, as_same rows)

as_each : (i j : ℕ) (f : RowState → RowState) → ((q : RowState) → IsAs q (f q)) → (rows : List RowState) → AreAs rows (each (at i f) j rows)
as_each i j f plain [] = tt
as_each i j f plain (row ∷ rows) = (by_test (j == i) refl, as_each i (j + 1) f plain rows)
  where
    by_test : (b : Bool) → (j == i) ≡ b → IsAs row (at i f j row)
    by_test true is = rw is (plain row)
    by_test false is = rw is refl

first_same : (k r : IntakeRow) (ks rs : List IntakeRow) → k ∷ ks ≡ r ∷ rs → k ≡ r
first_same k r ks rs is = cc

rest_same : (k r : IntakeRow) (ks rs : List IntakeRow) → k ∷ ks ≡ r ∷ rs → ks ≡ rs
rest_same k r ks rs is = cc

rows_bare : (j : ℕ) (ks : List IntakeRow) (rows : List RowState) → map unnumbered ks ≡ first_rows j rows → map as_row ks ≡ map bare rows
rows_bare j [] [] is = refl
rows_bare j [] (row ∷ rows) is = absurd (cc (is))
rows_bare j (k ∷ ks) [] is = absurd (cc (is))
rows_bare j (k ∷ ks) (row ∷ rows) is =
    let head = first_same (unnumbered k) (first_row j row) (map unnumbered ks) (first_rows (j + 1) rows) is in
    let rest = rest_same (unnumbered k) (first_row j row) (map unnumbered ks) (first_rows (j + 1) rows) is in
    let one : as_row k ≡ bare row = ap (λ (x : IntakeRow). as_row x) head in
    ap (λ (x : RowState). x ∷ map as_row ks) one ∙ ap (λ (xs : List RowState). bare row ∷ xs) (rows_bare (j + 1) ks rows rest)

find_bare : (name : List ℕ) (k : ℕ) (rows : List RowState) → place (λ row. same_bytes row.name name) k (map bare rows) ≡ place (λ row. same_bytes row.name name) k rows
find_bare name k [] = refl
find_bare name k (row ∷ rows) = ap (λ (o : Option ℕ). if same_bytes row.name name then Some k else o) (find_bare name (k + 1) rows)

get_bare : (rows : List RowState) (i : ℕ) (row : RowState) → slice_get rows i ≡ Some row → slice_get (map bare rows) i ≡ Some (bare row)
get_bare [] i row here = absurd (cc (here))
get_bare (x ∷ rows) zero row here = ap (λ (w : RowState). Some (bare w)) (same_Some x row here)
get_bare (x ∷ rows) (suc i) row here = get_bare rows i row here

none_bare : (rows : List RowState) (i : ℕ) → slice_get rows i ≡ None → slice_get (map bare rows) i ≡ None
none_bare [] i none = refl
none_bare (x ∷ rows) zero none = absurd (cc (none))
none_bare (x ∷ rows) (suc i) none = none_bare rows i none

bytes_bare : (rows : List RowState) → held_bytes (map bare rows) ≡ held_bytes rows
bytes_bare [] = refl
bytes_bare (row ∷ rows) = ap (λ n. size_of row.tail + n) (bytes_bare rows)

each_bare : (i j : ℕ) (f : RowState → RowState) → ((q : RowState) → bare (f q) ≡ f (bare q)) → (rows : List RowState) → each (at i f) j (map bare rows) ≡ map bare (each (at i f) j rows)
each_bare i j f through [] = refl
each_bare i j f through (row ∷ rows) =
    ap (λ (x : RowState). x ∷ each (at i f) (j + 1) (map bare rows)) (by_test (j == i) refl) ∙ ap (λ (xs : List RowState). bare (at i f j row) ∷ xs) (each_bare i (j + 1) f through rows)
  where
    by_test : (b : Bool) → (j == i) ≡ b → at i f j (bare row) ≡ bare (at i f j row)
    by_test true is = rw is (sym (through row))
    by_test false is = rw is refl

-- the rows that the intake keeps of bare ones are those of the state
kept_first : (j : ℕ) (ks : List IntakeRow) (rows news : List RowState) → AreAs rows news → map unnumbered ks ≡ first_rows j rows → map unnumbered (kept_rows ks (map bare news)) ≡ first_rows j news
kept_first j [] [] [] same is = refl
kept_first j [] [] (new ∷ news) same is = absurd same
kept_first j [] (row ∷ rows) news same is = absurd (cc (is))
kept_first j (k ∷ ks) [] news same is = absurd (cc (is))
kept_first j (k ∷ ks) (row ∷ rows) [] same is = absurd same
kept_first j (k ∷ ks) (row ∷ rows) (new ∷ news) same is =
    let head = first_same (unnumbered k) (first_row j row) (map unnumbered ks) (first_rows (j + 1) rows) is in
    let rest = rest_same (unnumbered k) (first_row j row) (map unnumbered ks) (first_rows (j + 1) rows) is in
    let one : unnumbered (kept_row k (bare new)) ≡ first_row j new = ap (λ (x : IntakeRow). record x { next = new.next; tail = new.tail; cell = new.cell }) head ∙ ap (λ (w : RowState). first_row j w) (sym same.0) in
    ap (λ (x : IntakeRow). x ∷ map unnumbered (kept_rows ks (map bare news))) one ∙ ap (λ (xs : List IntakeRow). first_row j new ∷ xs) (kept_first (j + 1) ks rows news same.1 rest)

-- the store has the same rows
left_same : (j : ℕ) (rows news : List RowState) → AreAs rows news → left_rows 0 [] j news ≡ left_rows 0 [] j rows
left_same j [] [] same = refl
left_same j [] (new ∷ news) same = absurd same
left_same j (row ∷ rows) [] same = absurd same
left_same j (row ∷ rows) (new ∷ news) same =
    let one : left_row 0 None new ≡ left_row 0 None row = ap (λ (w : RowState). left_row 0 None w) same.0 in
    ap (λ (x : StoreRow). x ∷ left_rows 0 [] (j + 1) news) one ∙ ap (λ (xs : List StoreRow). left_row 0 None row ∷ xs) (left_same (j + 1) rows news same.1)

-- A ROW'S NUMBER IS ITS PLACE

position_is : (n i j : ℕ) (ks : List IntakeRow) (rows : List RowState) → map unnumbered ks ≡ first_rows j rows → position n ks ≡ Some i → n ≡ j + i
position_is n i j [] rows is there = absurd (cc (there))
position_is n i j (k ∷ ks) [] is there = absurd (cc (is))
position_is n i j (k ∷ ks) (row ∷ rows) is there = by_test (k.row == n) refl (position n ks) refl (λ p at_rest. position_is n p (j + 1) ks rows rest at_rest)
  where
    head : unnumbered k ≡ first_row j row
    head = first_same (unnumbered k) (first_row j row) (map unnumbered ks) (first_rows (j + 1) rows) is

    rest : map unnumbered ks ≡ first_rows (j + 1) rows
    rest = rest_same (unnumbered k) (first_row j row) (map unnumbered ks) (first_rows (j + 1) rows) is

    own : k.row ≡ j
    own = ap (λ (x : IntakeRow). x.row) head

    by_test : (b : Bool) → (k.row == n) ≡ b → (o : Option ℕ) → position n ks ≡ o → ((p : ℕ) → position n ks ≡ Some p → n ≡ (j + 1) + p) → n ≡ j + i
    by_test true one o later_is later =
        let spot : position n (k ∷ ks) ≡ Some 0 = rw one refl in
        let first : 0 ≡ i = same_Some 0 i (sym spot ∙ there) in
        let same : k.row ≡ n = grind (arith, nat_tests) in
        omega (arith, first, same, own)
    by_test false one None later_is later =
        let spot : position n (k ∷ ks) ≡ None = rw (one, later_is) refl in
        absurd (let bad = sym spot ∙ there in cc (bad))
    by_test false one (Some p) later_is later =
        let spot : position n (k ∷ ks) ≡ Some (p + 1) = rw (one, later_is) refl in
        let next : p + 1 ≡ i = same_Some (p + 1) i (sym spot ∙ there) in
        let far : n ≡ (j + 1) + p = later p later_is in
        omega (arith, next, far)

position_none : (n i j : ℕ) (ks : List IntakeRow) (rows : List RowState) → map unnumbered ks ≡ first_rows j rows → n ≡ j + i → position n ks ≡ None → slice_get rows i ≡ None
position_none n i j ks [] is at_is none = refl
position_none n i j [] (row ∷ rows) is at_is none = absurd (cc (is))
position_none n zero j (k ∷ ks) (row ∷ rows) is at_is none =
    let head = first_same (unnumbered k) (first_row j row) (map unnumbered ks) (first_rows (j + 1) rows) is in
    let own : k.row ≡ j = ap (λ (x : IntakeRow). x.row) head in
    let test : (k.row == n) ≡ true = let same : k.row ≡ n = omega (arith, own, at_is) in grind (arith, nat_tests) in
    let spot : position n (k ∷ ks) ≡ Some 0 = rw test refl in
    absurd (let bad = sym spot ∙ none in cc (bad))
position_none n (suc i) j (k ∷ ks) (row ∷ rows) is at_is none = by_rest (position n ks) refl (λ gone. position_none n i (j + 1) ks rows rest (omega (arith, at_is)) gone)
  where
    rest : map unnumbered ks ≡ first_rows (j + 1) rows
    rest = rest_same (unnumbered k) (first_row j row) (map unnumbered ks) (first_rows (j + 1) rows) is

    own : k.row ≡ j
    own = ap (λ (x : IntakeRow). x.row) (first_same (unnumbered k) (first_row j row) (map unnumbered ks) (first_rows (j + 1) rows) is)

    apart : (k.row == n) ≡ false
    apart = let low : k.row < n = omega (arith, own, at_is) in grind (arith, nat_tests)

    by_rest : (o : Option ℕ) → position n ks ≡ o → (position n ks ≡ None → slice_get rows i ≡ None) → slice_get rows i ≡ None
    by_rest None gone later = later gone
    by_rest (Some p) found later =
        let spot : position n (k ∷ ks) ≡ Some (p + 1) = rw (apart, found) refl in
        absurd (let bad = sym spot ∙ none in cc (bad))

-- TWO MACHINES

-- two ends with one answer, where the machines stay, or one row of each changes alike, as by an offer or a tick
data Alike (s m : Machine) : Outcome → Outcome → Type 0 where
  stays : (reply : Reply) → Alike s m (record { answer = reply; after = s }) (record { answer = reply; after = m })
  sets : (reply : Reply) (i : ℕ) (f : RowState → RowState) → ((q : RowState) → IsAs q (f q)) → ((q : RowState) → bare (f q) ≡ f (bare q))
      → Alike s m (record { answer = reply; after = with_rows s (at i f) }) (record { answer = reply; after = with_rows m (at i f) })

-- such an end of the one leads the other to a state of which the first has the bare rows
record Led (m : Machine) (end : Outcome) (reply : Reply) (after : Machine) : Type 0 where
  to : Machine
  ends : Ends end m reply to
  rows : after.rows ≡ map bare to.rows
  doors : after.doors ≡ to.doors
  same : AreAs m.rows to.rows
  store : store_first to ≡ store_first m

module _ (s m : Machine) (bares : s.rows ≡ map bare m.rows) (doors : s.doors ≡ m.doors) where
  bytes : held_bytes s.rows ≡ held_bytes m.rows
  bytes = ap held_bytes bares ∙ bytes_bare m.rows

  tried_alike : (row : RowState) (x : Sample) (now : ℕ) (one other : Outcome) → Alike s m one other → Alike s m (tried s (bare row) x now one) (tried m row x now other)
  tried_alike row x now one other alike = by_time (refused_by_time row.next x.t now) refl
    where
      by_room : refused_by_time row.next x.t now ≡ None → (b : Bool) → nat_lt intake_room (held_bytes m.rows + (length x.line + 1)) ≡ b → Alike s m (tried s (bare row) x now one) (tried m row x now other)
      by_room late true full = rw (late, bytes, full) (stays (IntakeFull (held_bytes m.rows)))
      by_room late false full = rw (late, bytes, full) alike

      by_time : (o : Option Reason) → refused_by_time row.next x.t now ≡ o → Alike s m (tried s (bare row) x now one) (tried m row x now other)
      by_time (Some reason) late = rw late (stays (Dropped reason))
      by_time None late = by_room late (nat_lt intake_room (held_bytes m.rows + (length x.line + 1))) refl

  offered_to_alike : (i : ℕ) (row : RowState) (ty : PayloadType) (x : Sample) (now : ℕ) → Alike s m (offered_to s i (bare row) ty x now) (offered_to m i row ty x now)
  offered_to_alike i row ty x now = by_reason (refused_by_row (Some (standing row)) (number_of ty)) refl
    where
      by_method : (d : Method) → row.about.method ≡ d → refused_by_row (Some (standing row)) (number_of ty) ≡ None → Alike s m (offered_to s i (bare row) ty x now) (offered_to m i row ty x now)
      by_method Monitor is why =
          rw (why, is) (tried_alike row x now (record { answer = Kept; after = with_rows s (at i (gains x)) }) (record { answer = Kept; after = with_rows m (at i (gains x)) }) (sets Kept i (gains x) (λ q. refl) (λ q. refl)))
      by_method (Scan period) is why = rw (why, is) (sets Held i (with_held x) (λ q. refl) (λ q. refl))

      by_reason : (o : Option Reason) → refused_by_row (Some (standing row)) (number_of ty) ≡ o → Alike s m (offered_to s i (bare row) ty x now) (offered_to m i row ty x now)
      by_reason (Some reason) why = rw why (stays (Dropped reason))
      by_reason None why = by_method row.about.method refl why

  offered_alike : (name : List ℕ) (ty : PayloadType) (x : Sample) (now : ℕ) → Alike s m (offered s name ty x now) (offered m name ty x now)
  offered_alike name ty x now = by_name (find_row m name) refl
    where
      found : find_row s name ≡ find_row m name
      found = ap (λ (rs : List RowState). place (λ row. same_bytes row.name name) 0 rs) bares ∙ find_bare name 0 m.rows

      by_row : (i : ℕ) → (o : Option RowState) → slice_get m.rows i ≡ o → find_row m name ≡ Some i → Alike s m (offered s name ty x now) (offered m name ty x now)
      by_row i None none is =
          let there : slice_get s.rows i ≡ None = ap (λ (rs : List RowState). slice_get rs i) bares ∙ none_bare m.rows i none in
          rw (found ∙ is, is, there, none) (stays (Dropped Unknown))
      by_row i (Some row) here is =
          let there : slice_get s.rows i ≡ Some (bare row) = ap (λ (rs : List RowState). slice_get rs i) bares ∙ get_bare m.rows i row here in
          rw (found ∙ is, is, there, here) (offered_to_alike i row ty x now)

      by_name : (o : Option ℕ) → find_row m name ≡ o → Alike s m (offered s name ty x now) (offered m name ty x now)
      by_name None is = rw (found ∙ is, is) (stays (Dropped Unknown))
      by_name (Some i) is = by_row i (slice_get m.rows i) refl is

  due_alike : (i : ℕ) (row : RowState) (period now : ℕ) → Alike s m (ticked_due s i (bare row) period now) (ticked_due m i row period now)
  due_alike i row period now = by_held row.cell.held refl
    where
      by_room : (x : Sample) → row.cell.held ≡ Some x → refused_by_time row.next x.t now ≡ None → (b : Bool) → nat_lt intake_room (held_bytes m.rows + (length x.line + 1)) ≡ b
          → Alike s m (ticked_due s i (bare row) period now) (ticked_due m i row period now)
      by_room x is late true full = rw (is, late, bytes, full) (stays (IntakeFull (held_bytes m.rows)))
      by_room x is late false full = rw (is, late, bytes, full) (sets (TickKept x.t) i (λ r. moved_on period now (gains x r)) (λ q. refl) (λ q. refl))

      by_reason : (x : Sample) → row.cell.held ≡ Some x → (o : Option Reason) → refused_by_time row.next x.t now ≡ o → Alike s m (ticked_due s i (bare row) period now) (ticked_due m i row period now)
      by_reason x is (Some reason) late = rw (is, late) (sets (Dropped reason) i (moved_on period now) (λ q. refl) (λ q. refl))
      by_reason x is None late = by_room x is late (nat_lt intake_room (held_bytes m.rows + (length x.line + 1))) refl

      by_held : (o : Option Sample) → row.cell.held ≡ o → Alike s m (ticked_due s i (bare row) period now) (ticked_due m i row period now)
      by_held None is = rw is (sets TickNone i (moved_on period now) (λ q. refl) (λ q. refl))
      by_held (Some x) is = by_reason x is (refused_by_time row.next x.t now) refl

  ticked_alike : (i now : ℕ) → Alike s m (ticked s i now) (ticked m i now)
  ticked_alike i now = by_row (slice_get m.rows i) refl
    where
      there : (row : RowState) → slice_get m.rows i ≡ Some row → slice_get s.rows i ≡ Some (bare row)
      there row here = ap (λ (rs : List RowState). slice_get rs i) bares ∙ get_bare m.rows i row here

      by_due : (row : RowState) (period : ℕ) → slice_get m.rows i ≡ Some row → period_of row.about.method ≡ Some period → is_running row.state ≡ true → (b : Bool) → nat_le row.cell.due now ≡ b → Alike s m (ticked s i now) (ticked m i now)
      by_due row period here is up true due = rw (there row here, here, is, up, due) (due_alike i row period now)
      by_due row period here is up false due = rw (there row here, here, is, up, due) (stays (NotDue row.cell.due))

      by_state : (row : RowState) (period : ℕ) → slice_get m.rows i ≡ Some row → period_of row.about.method ≡ Some period → (b : Bool) → is_running row.state ≡ b → Alike s m (ticked s i now) (ticked m i now)
      by_state row period here is true up = by_due row period here is up (nat_le row.cell.due now) refl
      by_state row period here is false up = rw (there row here, here, is, up) (stays TickNone)

      by_period : (row : RowState) → slice_get m.rows i ≡ Some row → (o : Option ℕ) → period_of row.about.method ≡ o → Alike s m (ticked s i now) (ticked m i now)
      by_period row here None is = rw (there row here, here, is) (stays TickNone)
      by_period row here (Some period) is = by_state row period here is (is_running row.state) refl

      by_row : (o : Option RowState) → slice_get m.rows i ≡ o → Alike s m (ticked s i now) (ticked m i now)
      by_row None none =
          let gone : slice_get s.rows i ≡ None = ap (λ (rs : List RowState). slice_get rs i) bares ∙ none_bare m.rows i none in
          rw (gone, none) (stays NoRow)
      by_row (Some row) here = by_period row here (period_of row.about.method) refl

  led_same : (end : Outcome) (reply : Reply) (after : Machine) → Ends end m reply m → after ≡ s → Led m end reply after
  led_same end reply after ends is =
      record { to = m; ends = ends; rows = ap (λ (x : Machine). x.rows) is ∙ bares; doors = ap (λ (x : Machine). x.doors) is ∙ doors; same = as_same m.rows; store = refl }

  led : {one other : Outcome} → Alike s m one other → (reply : Reply) (after : Machine) → Ends one s reply after → Led m other reply after
  led (stays told) reply after (inl p) = led_same (record { answer = told; after = m }) reply after (inl (p.0, refl)) p.1
  led (stays told) reply after (inr p) = led_same (record { answer = told; after = m }) reply after (inr (p.0, refl)) p.1
  led (sets told i f plain through) reply after (inl p) =
      let same = as_each i 0 f plain m.rows in
      record {
        to = with_rows m (at i f);
        ends = inl (p.0, refl);
        rows = ap (λ (x : Machine). x.rows) p.1 ∙ (ap (λ (rs : List RowState). each (at i f) 0 rs) bares ∙ each_bare i 0 f through m.rows);
        doors = ap (λ (x : Machine). x.doors) p.1 ∙ doors;
        same = same;
        store = ap (λ (rows : List StoreRow). record (store_first m) { rows = rows }) (left_same 0 m.rows (each (at i f) 0 m.rows) same);
      }
  led (sets told i f plain through) reply after (inr p) = led_same (record { answer = told; after = with_rows m (at i f) }) reply after (inr (p.0, refl)) p.1

-- THE INTAKE OF A STATE

first_numbers : (j : ℕ) (rows : List RowState) → map unnumbered (first_rows j rows) ≡ first_rows j rows
first_numbers j [] = refl
first_numbers j (row ∷ rows) = ap (λ (ks : List IntakeRow). first_row j row ∷ ks) (first_numbers (j + 1) rows)

-- the one with which the histories begin
pub intake_begins : (m : Machine) → IsIntakeOf m (intake_first m)
intake_begins m = record { rows = first_numbers 0 m.rows; doors = refl }

module _ (who : ℕ) (m : Machine) (old : IntakeHalf) (of : IsIntakeOf m old) where
  abbrev s : Machine
  s = machine_of old

  bares : s.rows ≡ map bare m.rows
  bares = rows_bare 0 old.rows m.rows of.rows

  -- the half that is left of a state with the same rows, but for what an offer or a tick changes
  is_intake : (after to : Machine) → after.rows ≡ map bare to.rows → after.doors ≡ to.doors → AreAs m.rows to.rows → IsIntakeOf to (intake_of old after)
  is_intake after to rows doors same =
      record {
        rows = ap (λ (rs : List RowState). map unnumbered (kept_rows old.rows rs)) rows ∙ kept_first 0 old.rows m.rows to.rows same of.rows;
        doors = doors;
      }

  -- a step of this act leads there
  steps_to : (act : Act) (reply : Reply) (end : Outcome) (after : Machine) (l : Led m end reply after) → Step who act m reply l.to → StepsTo who act m reply (intake_of old after)
  steps_to act reply end after l step = record { after = l.to; step = step; intake = is_intake after l.to l.rows l.doors l.same; store = l.store }

  act_alone : (act : Act) (reply : Reply) (after : Machine) → IsOfIntake act → Step who act s reply after → StepsTo who act m reply (intake_of old after)
  act_alone (Offer name ty t line now) reply after is step =
      let x : Sample = record { t = t; line = line } in
      let l = led s m bares of.doors (offered_alike s m bares of.doors name ty x now) reply after step in
      steps_to (Offer name ty t line now) reply (offered m name ty x now) after l l.ends
  act_alone Doors reply after is step =
      let rows : after.rows ≡ map bare m.rows = ap (λ (w : Machine). w.rows) step.1 ∙ bares in
      let doors : after.doors ≡ m.doors = ap (λ (w : Machine). w.doors) step.1 ∙ of.doors in
      record { after = m; step = (step.0 ∙ ap (λ n. DoorsLeft n) of.doors, refl); intake = is_intake after m rows doors (as_same m.rows); store = refl }
  act_alone DoorDone reply after is step =
      let rows : after.rows ≡ map bare m.rows = ap (λ (w : Machine). w.rows) step.1 ∙ bares in
      let fewer : old.doors - 1 ≡ m.doors - 1 = ap (λ n. n - 1) of.doors in
      let doors : after.doors ≡ m.doors - 1 = ap (λ (w : Machine). w.doors) step.1 ∙ fewer in
      record {
        after = record m { doors = m.doors - 1 };
        step = (step.0 ∙ ap (λ n. DoorsLeft n) fewer, refl);
        intake = is_intake after (record m { doors = m.doors - 1 }) rows doors (as_same m.rows);
        store = refl;
      }
  act_alone (Register name about) reply after is step = absurd is
  act_alone (Pause name) reply after is step = absurd is
  act_alone (Resume name) reply after is step = absurd is
  act_alone (Rename name newname) reply after is step = absurd is
  act_alone (Tick row now) reply after is step = absurd is
  act_alone (Flush limit) reply after is step = absurd is
  act_alone (MoveBegin store now) reply after is step = absurd is
  act_alone (MoveStep n) reply after is step = absurd is
  act_alone Sweep reply after is step = absurd is
  act_alone (Pin name query) reply after is step = absurd is
  act_alone (OpenPiece pin i) reply after is step = absurd is
  act_alone (Unpin pin) reply after is step = absurd is
  act_alone (Names from most) reply after is step = absurd is
  act_alone (Details name) reply after is step = absurd is

  tick_alone : (row now : ℕ) (reply : Reply) (after : Machine) → Step who (Tick row now) s reply after → StepsTo who (Tick row now) m reply (intake_of old after)
  tick_alone row now reply after step = let l = led s m bares of.doors (ticked_alike s m bares of.doors row now) reply after step in steps_to (Tick row now) reply (ticked m row now) after l l.ends

  no_tick_alone : (row now : ℕ) → position row old.rows ≡ None → StepsTo who (Tick row now) m NoRow old
  no_tick_alone row now none =
      let gone : slice_get m.rows row ≡ None = position_none row row 0 old.rows m.rows of.rows (omega arith) none in
      record { after = m; step = rw gone (inl (refl, refl)); intake = of; store = refl }

-- a part that takes memory is no act
no_act : (part : IntakePart) → TakesMemory part → (act : Act) → act_of part ≡ Some act → ⊥
no_act (Offers other) a act is = a
no_act (Ticks row now) a act is = a
no_act LooksForDoors a act is = a
no_act (LooksForBatch limit) a act is = cc
no_act (LooksAt name) a act is = cc
no_act (Takes ends rows) a act is = cc
no_act (TakesFlush len ends rows) a act is = cc

alone : {who : ℕ} {old new : IntakeHalf} {part : IntakePart} {answer : IntakeAnswer} → IntakeStep who old part answer new → (m : Machine) (act : Act) (reply : Reply) → IsIntakeOf m old → act_of part ≡ Some act → answer ≡ Replies reply → StepsTo who act m reply new
alone {who} {old} (offers after asked told is may step) m act reply of act_is told_is =
    let same : asked ≡ act = same_Some asked act act_is in
    let said : told ≡ reply = cc (told_is) in
    subst (λ (a : Act). StepsTo who a m reply (intake_of old after)) same (subst (λ (r : Reply). StepsTo who asked m r (intake_of old after)) said (act_alone who m old of asked told after is step))
alone {who} {old} (ticks after row now i told there step) m act reply of act_is told_is =
    let same : Tick row now ≡ act = same_Some (Tick row now) act act_is in
    let said : told ≡ reply = cc (told_is) in
    let number : row ≡ 0 + i = position_is row i 0 old.rows m.rows of.rows there in
    let own : i ≡ row = omega (arith, number) in
    let steps = subst (λ (n : ℕ). StepsTo who (Tick n now) m told (intake_of old after)) own (tick_alone who m old of i now told after step) in
    subst (λ (a : Act). StepsTo who a m reply (intake_of old after)) same (subst (λ (r : Reply). StepsTo who (Tick row now) m r (intake_of old after)) said steps)
alone {who} {old} (no_row row now none) m act reply of act_is told_is =
    let same : Tick row now ≡ act = same_Some (Tick row now) act act_is in
    let said : NoRow ≡ reply = cc (told_is) in
    subst (λ (a : Act). StepsTo who a m reply old) same (subst (λ (r : Reply). StepsTo who (Tick row now) m r old) said (no_tick_alone who m old of row now none))
alone sees_doors m act reply of act_is told_is = absurd (cc (act_is))
alone (sees_batch limit most) m act reply of act_is told_is = absurd (cc (act_is))
alone (sees_row name) m act reply of act_is told_is = absurd (cc (act_is))
alone (takes ends rows) m act reply of act_is told_is = absurd (cc (act_is))
alone (takes_flush len ends rows) m act reply of act_is told_is = absurd (cc (act_is))
alone (lacks_memory part a) m act reply of act_is told_is = absurd (no_act part a act act_is)

pub intake_acts_alone : IntakeActsAlone
intake_acts_alone who m old new part act reply of act_is step = alone step m act reply of act_is refl
