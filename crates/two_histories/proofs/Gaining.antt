-- What an offer or a tick comes to: each row's tail and its end stay, or gain one event that is not before that end.
use Rattle.std.proofs.Common.{◌≡◌, ℕ, ◌+◌, ◌≤◌, List, [], ◌∷◌, ◌++◌, length, Option, Some, None, Bool, true, false, cond, refl, ap, sym, ◌∙◌, subst, arith}
use Rattle.std.specs.Prelude.{◌-◌, ◌==◌, ◌^◌, min, slice_get, if◌then◌else◌, nat_lt, nat_le}
use Rattle.std.proofs.lemmas.Bool.Decides.{nat_tests}
use Rattle.pb_messages.specs.declared.about.Method.{Method}
use Rattle.pb_messages.specs.declared.about.Method.TheVariants.{Monitor, Scan}
use Rattle.pb_wire.specs.declared.payload.PayloadType.{PayloadType}
use Rattle.series_model.specs.Limits.{intake_room}
use Rattle.series_model.specs.Admission.{refused_by_row, refused_by_time}
use Rattle.series_model.specs.declared.admission.Reason.{Reason}
use Rattle.series_model.specs.declared.sample.Sample.{Sample}
use Rattle.act_model.specs.declared.acts.Answer.TheVariants.{Kept}
use Rattle.act_model.specs.Changes.{each, at, with_rows}
use Rattle.act_model.specs.Event.{IsEvent}
use Rattle.act_model.specs.Machine.{Machine, find_row, held_bytes}
use Rattle.act_model.specs.Offer.{gains, with_held, offered_to, offered}
use Rattle.act_model.specs.Outcome.{Outcome}
use Rattle.act_model.specs.Rows.{RowState, number_of, standing, is_running, period_of}
use Rattle.act_model.specs.Sound.{IsHeld}
use Rattle.act_model.specs.Tick.{moved_on, ticked_due, ticked}
use Rattle.act_model.proofs.Onward.{each_forward}
use Rattle.act_model.proofs.RowActs.{tried_is, one_type, gains_bytes, same_bytes_at}
use Rattle.act_model.proofs.Rows.{length-each}

-- what becomes of a row: one that runs may gain a sample
pub data RowGains (row new : RowState) : Type 0 where
  same_row : new.tail ≡ row.tail → new.next ≡ row.next → IsHeld row.about.ty new.cell.held → RowGains row new
  one_more : (s : Sample) → is_running row.state ≡ true → new.tail ≡ row.tail ++ s ∷ [] → new.next ≡ s.t + 1 → row.next ≤ s.t → IsEvent row.about.ty s → IsHeld row.about.ty new.cell.held → RowGains row new

pub record Gains (m : Machine) (after : Machine) : Type 0 where
  pub each_row : (i : ℕ) (row : RowState) → slice_get m.rows i ≡ Some row → (new : RowState) × (slice_get after.rows i ≡ Some new) × RowGains row new
  pub as_many : length after.rows ≡ length m.rows
  pub bytes : held_bytes after.rows ≤ 67108864

-- what is held of each row is an event of its type, and the intake is not too full
pub record Fits (m : Machine) : Type 0 where
  pub held : (i : ℕ) (row : RowState) → slice_get m.rows i ≡ Some row → IsHeld row.about.ty row.cell.held
  pub bytes : held_bytes m.rows ≤ 67108864

abbrev Good : Machine → Outcome → Type 0
Good m end = Gains m end.after

pub gains_none : (m : Machine) → Fits m → Gains m m
gains_none m fits = record { each_row = λ i row here. (row, here, same_row refl refl (fits.held i row here)); as_many = refl; bytes = fits.bytes }

gains_at : (m : Machine) (p : ℕ) (f : RowState → RowState) (row : RowState) → Fits m → slice_get m.rows p ≡ Some row → RowGains row (f row) → held_bytes (each (at p f) 0 m.rows) ≤ 67108864 → Gains m (with_rows m (at p f))
gains_at m p f row fits here gain bytes = record { each_row = λ i r there. let plain : 0 + i ≡ i = omega arith in (at p f i r, each_forward (at p f) 0 m.rows i r there ∙ ap (λ n. Some (at p f n r)) plain, by_test i r there (i == p) refl); as_many = length-each (at p f) 0 m.rows; bytes = bytes }
  where
    some_same : {a b : RowState} → Some a ≡ Some b → a ≡ b
    some_same is = cc

    by_test : (i : ℕ) (r : RowState) → slice_get m.rows i ≡ Some r → (b : Bool) → (i == p) ≡ b → RowGains r (if b then f r else r)
    by_test i r there true is = let same : i ≡ p = grind (arith, nat_tests) in let one : row ≡ r = some_same (sym here ∙ (ap (λ n. slice_get m.rows n) (sym same) ∙ there)) in subst (λ x. RowGains x (f x)) one gain
    by_test i r there false is = same_row refl refl (fits.held i r there)

-- the first three reasons don't apply: the row runs, and the type is its own
right_type : (row : RowState) (ty : PayloadType) → refused_by_row (Some (standing row)) (number_of ty) ≡ None → (is_running row.state ≡ true) × (row.about.ty ≡ ty)
right_type row ty none = by_running (is_running row.state) refl none
  where
    by_type : (b : Bool) → (number_of row.about.ty == number_of ty) ≡ b → is_running row.state ≡ true → refused_by_row (Some (standing row)) (number_of ty) ≡ None → (is_running row.state ≡ true) × (row.about.ty ≡ ty)
    by_type true is up none = (up, one_type row.about.ty ty (grind (arith, nat_tests)))
    by_type false is up none = absurd (let bad = rw (up, is) at none in cc)

    by_running : (b : Bool) → is_running row.state ≡ b → refused_by_row (Some (standing row)) (number_of ty) ≡ None → (is_running row.state ≡ true) × (row.about.ty ≡ ty)
    by_running true is none = by_type (number_of row.about.ty == number_of ty) refl is none
    by_running false is none = absurd (let bad = rw is at none in cc)

offered_to_gains : (m : Machine) (i : ℕ) (row : RowState) (ty : PayloadType) (s : Sample) (now : ℕ) → Fits m → slice_get m.rows i ≡ Some row → IsEvent ty s → Good m (offered_to m i row ty s now)
offered_to_gains m i row ty s now fits here event = by_reason (refused_by_row (Some (standing row)) (number_of ty)) refl
  where
    by_method : (d : Method) → row.about.method ≡ d → refused_by_row (Some (standing row)) (number_of ty) ≡ None → Good m (offered_to m i row ty s now)
    by_method Monitor is none =
        let own : IsEvent row.about.ty s = subst (λ w. IsEvent w s) (sym (right_type row ty none).1) event in
        rw (none, is) (tried_is (λ o. Good m o) m row s now (record { answer = Kept; after = with_rows m (at i (gains s)) }) (λ reason. gains_none m fits) (gains_none m fits)
        (λ late room_for. gains_at m i (gains s) row fits here (one_more s (right_type row ty none).0 refl refl late own (fits.held i row here)) (gains_bytes m i (gains s) s (λ r. refl) room_for)))
    by_method (Scan period) is none =
        let own : IsEvent row.about.ty s = subst (λ w. IsEvent w s) (sym (right_type row ty none).1) event in
        rw (none, is) (gains_at m i (with_held s) row fits here (same_row refl refl own) (same_bytes_at m i (with_held s) (λ r. refl) fits.bytes))

    by_reason : (o : Option Reason) → refused_by_row (Some (standing row)) (number_of ty) ≡ o → Good m (offered_to m i row ty s now)
    by_reason (Some reason) is = rw is (gains_none m fits)
    by_reason None is = by_method row.about.method refl is

pub offered_gains : (m : Machine) (name : List ℕ) (ty : PayloadType) (s : Sample) (now : ℕ) → Fits m → IsEvent ty s → Gains m (offered m name ty s now).after
offered_gains m name ty s now fits event = by_name (find_row m name) refl
  where
    by_row : (i : ℕ) → (o : Option RowState) → slice_get m.rows i ≡ o → find_row m name ≡ Some i → Good m (offered m name ty s now)
    by_row i None none is = rw (is, none) (gains_none m fits)
    by_row i (Some row) here is = rw (is, here) (offered_to_gains m i row ty s now fits here event)

    by_name : (o : Option ℕ) → find_row m name ≡ o → Good m (offered m name ty s now)
    by_name None is = rw is (gains_none m fits)
    by_name (Some i) is = by_row i (slice_get m.rows i) refl is

-- TICKS

moved_held : (row cell_of : RowState) (period now : ℕ) → IsHeld row.about.ty cell_of.cell.held → IsHeld row.about.ty (moved_on period now cell_of).cell.held
moved_held row cell_of period now held = by_test (nat_le cell_of.cell.due now) held
  where
    by_test : (b : Bool) → IsHeld row.about.ty cell_of.cell.held → IsHeld row.about.ty (cond b (record { held = None; due = min (now + period) (2 ^ 64 - 1) }) cell_of.cell).held
    by_test true held = tt
    by_test false held = held

ticked_due_gains : (m : Machine) (i : ℕ) (row : RowState) (period now : ℕ) → Fits m → slice_get m.rows i ≡ Some row → is_running row.state ≡ true → Good m (ticked_due m i row period now)
ticked_due_gains m i row period now fits here up = by_held row.cell.held refl
  where
    moves : Gains m (with_rows m (at i (moved_on period now)))
    moves = gains_at m i (moved_on period now) row fits here (same_row refl refl (moved_held row row period now (fits.held i row here))) (same_bytes_at m i (moved_on period now) (λ r. refl) fits.bytes)

    keeps : (s : Sample) → row.cell.held ≡ Some s → row.next ≤ s.t → held_bytes m.rows + (length s.line + 1) ≤ intake_room → Gains m (with_rows m (at i (λ r. moved_on period now (gains s r))))
    keeps s is late room_for =
        let event : IsEvent row.about.ty s = subst (λ o. IsHeld row.about.ty o) is (fits.held i row here) in
        gains_at m i (λ r. moved_on period now (gains s r)) row fits here (one_more s up refl refl late event (moved_held row (gains s row) period now (fits.held i row here))) (gains_bytes m i (λ r. moved_on period now (gains s r)) s (λ r. refl) room_for)

    by_reason : (s : Sample) → row.cell.held ≡ Some s → (o : Option Reason) → refused_by_time row.next s.t now ≡ o → Good m (ticked_due m i row period now)
    by_reason s is (Some reason) why = rw (is, why) moves
    by_reason s is None why = by_room (nat_lt intake_room (held_bytes m.rows + (length s.line + 1))) refl
      where
        late_of : (n t now : ℕ) → refused_by_time n t now ≡ None → n ≤ t
        late_of n t now why = grind (arith, nat_tests)

        by_room : (b : Bool) → nat_lt intake_room (held_bytes m.rows + (length s.line + 1)) ≡ b → Good m (ticked_due m i row period now)
        by_room true full = rw (is, why, full) (gains_none m fits)
        by_room false full = rw (is, why, full) (keeps s is (late_of row.next s.t now why) (grind (arith, nat_tests)))

    by_held : (o : Option Sample) → row.cell.held ≡ o → Good m (ticked_due m i row period now)
    by_held None is = rw is moves
    by_held (Some s) is = by_reason s is (refused_by_time row.next s.t now) refl

pub ticked_gains : (m : Machine) (i now : ℕ) → Fits m → Gains m (ticked m i now).after
ticked_gains m i now fits = by_row (slice_get m.rows i) refl
  where
    by_due : (row : RowState) (period : ℕ) → slice_get m.rows i ≡ Some row → period_of row.about.method ≡ Some period → is_running row.state ≡ true → (b : Bool) → nat_le row.cell.due now ≡ b → Good m (ticked m i now)
    by_due row period here is up true due = rw (here, is, up, due) (ticked_due_gains m i row period now fits here up)
    by_due row period here is up false due = rw (here, is, up, due) (gains_none m fits)

    by_state : (row : RowState) (period : ℕ) → slice_get m.rows i ≡ Some row → period_of row.about.method ≡ Some period → (b : Bool) → is_running row.state ≡ b → Good m (ticked m i now)
    by_state row period here is true up = by_due row period here is up (nat_le row.cell.due now) refl
    by_state row period here is false up = rw (here, is, up) (gains_none m fits)

    by_period : (row : RowState) → slice_get m.rows i ≡ Some row → (o : Option ℕ) → period_of row.about.method ≡ o → Good m (ticked m i now)
    by_period row here None is = rw (here, is) (gains_none m fits)
    by_period row here (Some period) is = by_state row period here is (is_running row.state) refl

    by_row : (o : Option RowState) → slice_get m.rows i ≡ o → Good m (ticked m i now)
    by_row None none = rw none (gains_none m fits)
    by_row (Some row) here = by_period row here (period_of row.about.method) refl
