-- The worked histories.
use Rattle.std.proofs.Common.{◌≡◌, ◌≢◌, ℕ, zero, suc, ◌+◌, ◌<◌, List, [], ◌∷◌, length, Option, Some, None, true, false, refl, ap, sym, ◌∙◌, subst, arith, inl, inr}
use Rattle.std.specs.Prelude.{◌⊎◌, ◌==◌, ◌*◌, nat_lt, slice_get}
use Rattle.std.specs.List.{AllByRecursion}
use Rattle.std.proofs.lemmas.Bool.Decides.{nat_tests}
use Rattle.std.specs.Ordering.{nat_cmp}
use Rattle.std.specs.FinMap.{FinMap, get, insert, remove, empty, get-empty, gets}
use Rattle.series_model.specs.Limits.{intake_room}
use Rattle.pb_messages.specs.declared.about.Method.TheVariants.{Monitor, Scan}
use Rattle.pb_wire.specs.declared.payload.PayloadType.TheVariants.{ScalarInt}
use Rattle.act_model.specs.declared.acts.Answer.TheVariants.{KeyTaken, NotRunning, NotPaused, Done, RenameNotPaused, NotDurable, Renamed, IntakeFull, Flushed, Pinned, NotYours, NoPin, NoPiece, Unpinned}
use Rattle.act_model.specs.Reply.{Reply}
use Rattle.act_model.specs.Limbo.{RowFile}
use Rattle.act_model.specs.Rows.{RowState, Store, Short, Medium, Long, fresh_row, tier, window, is_empty}
use Rattle.act_model.specs.Rule.{Rule}
use Rattle.pb_messages.specs.declared.about.State.{State}
use Rattle.pb_messages.specs.declared.about.State.TheVariants.{Running, Paused}
use Rattle.act_model.specs.Machine.{Machine, MoveState, PinState, Change, Appends, SetsState, Renames, held_bytes}
use Rattle.act_model.specs.Changes.{made, Settles, no_doubt, as_not_made, as_made}
use Rattle.act_model.specs.Outcome.{Outcome, Ends, Acts, refused_at_once, refused, runs, faults_first, faults_between, faults_within, faults_removing, wants_memory, wants_memory_settled}
use Rattle.act_model.specs.Offer.{offered}
use Rattle.act_model.specs.Tick.{ticked}
use Rattle.act_model.specs.Pause.{Sets}
use Rattle.act_model.specs.Rename.{IsRenamed}
use Rattle.act_model.specs.Flush.{Flushes, batch_of, count_in}
use Rattle.act_model.specs.Pin.{MakesPin, pins, IsPieceOf}
use Rattle.act_model.specs.OpenPiece.{Opens, refused_open, no_piece, opens, faults_opening, wants_memory_opening}
use Rattle.act_model.specs.Unpin.{Unpins, refused_unpin, unpins, pin_refused}
use Rattle.act_model.specs.Examples.{IsFailure, LateAndEarlyOffers, APauseGivesUpWhatIsHeld, three_lines, four_lines, AFullIntakeIsFlushed, PinsAreTheirOwners, ARenamedVariableGoesOn, ANewNameWaitsForTheFlush, new_name, with_two, sample_at, all_moments, t0, second, line, name, about, with_row, with_tail}

-- NO OTHER ANSWER

-- of an act that touches no file
ends_only : {end : Outcome} {said : Reply} {old : Machine} → end.answer ≡ said → (other : Reply) (new : Machine) → Ends end old other new → (other ≡ said) ⊎ IsFailure other
ends_only is other new (inl p) = inl (p.0 ∙ is)
ends_only is other new (inr p) = inr (inl p.0)

module _ (refuse : Machine → Option Reply) (run : Machine → Reply → Machine → Type 0) (change : Machine → Option Change) (stopped : FinMap nat_cmp MoveState → FinMap nat_cmp MoveState) where
  -- of an act that is refused at once
  refused_only : {old new : Machine} {other : Reply} (said : Reply) → refuse old ≡ Some said → Acts refuse run change stopped old other new → (other ≡ said) ⊎ IsFailure other
  refused_only said is (refused_at_once answer p) = inl (cc)
  refused_only said is (refused answer p settles q same r) = absurd cc
  refused_only said is (runs answer p settles q ran r) = absurd cc
  refused_only said is (faults_first p same q) = inr (inr refl)
  refused_only said is (faults_between p settles same q) = inr (inr refl)
  refused_only said is (faults_within doubted p settles q r same t) = inr (inr refl)
  refused_only said is (faults_removing done gone p settles q ran t) = inr (inr refl)
  refused_only said is (wants_memory same q) = inr (inl refl)
  refused_only said is (wants_memory_settled p settles same q) = inr (inl refl)

  -- without a doubt nothing is settled
  settled_same : {old mid : Machine} → old.doubt ≡ None → Settles old mid → mid ≡ old
  settled_same none (no_doubt p) = refl
  settled_same none (as_not_made one p) = absurd cc
  settled_same none (as_made one into p q) = absurd cc

  -- of an act that is not refused, where no change is in doubt
  pub runs_only : {old new : Machine} {other : Reply} (said : Reply) → refuse old ≡ None → old.doubt ≡ None → ((after : Machine) (answer : Reply) → run old answer after → answer ≡ said)
      → Acts refuse run change stopped old other new → (other ≡ said) ⊎ IsFailure other
  runs_only said free none says (refused_at_once answer p) = absurd cc
  runs_only {old} said free none says (refused {mid = mid} answer p settles q same r) = let as_it_was : mid ≡ old = settled_same none settles in absurd (let again : refuse mid ≡ None = ap refuse as_it_was ∙ free in cc)
  runs_only {old} {new} said free none says (runs {mid = mid} answer p settles q ran r) = inl (says new answer (subst (λ m. run m answer new) (settled_same none settles) ran))
  runs_only said free none says (faults_first p same q) = inr (inr refl)
  runs_only said free none says (faults_between p settles same q) = inr (inr refl)
  runs_only said free none says (faults_within doubted p settles q r same t) = inr (inr refl)
  runs_only said free none says (faults_removing done gone p settles q ran t) = inr (inr refl)
  runs_only said free none says (wants_memory same q) = inr (inl refl)
  runs_only said free none says (wants_memory_settled p settles same q) = inr (inl refl)

-- of an Unpin
refused_unpin_only : {who pin : ℕ} {old new : Machine} {other : Reply} (said : Reply) → pin_refused who (get old.pins pin) ≡ Some said → Unpins who pin old other new → other ≡ said
refused_unpin_only said is (refused_unpin reply p) = cc
refused_unpin_only said is (unpins p) = absurd cc

pub unpinned_only : {who pin : ℕ} {old new : Machine} {other : Reply} → pin_refused who (get old.pins pin) ≡ None → Unpins who pin old other new → other ≡ Unpinned
unpinned_only is (refused_unpin reply p) = absurd cc
unpinned_only is (unpins p) = refl

-- of an OpenPiece
owner_may : (who : ℕ) (o : Option PinState) (p : PinState) → o ≡ Some p → p.owner ≡ who → pin_refused who o ≡ None
owner_may who o p here mine = let same : (p.owner == who) ≡ true = grind (arith, nat_tests) in rw (here, same) refl

refused_open_only : {who pin i : ℕ} {old new : Machine} {other : Reply} (said : Reply) → pin_refused who (get old.pins pin) ≡ Some said → Opens who pin i old other new → (other ≡ said) ⊎ IsFailure other
refused_open_only said is (refused_open reply p) = inl cc
refused_open_only {who} {pin} {old = old} said is (no_piece p here mine none) = absurd (let free = owner_may who (get old.pins pin) p here mine in cc)
refused_open_only {who} {pin} {old = old} said is (opens p piece reader file head_len len here mine at faults shows named enough same more) = absurd (let free = owner_may who (get old.pins pin) p here mine in cc)
refused_open_only said is (faults_opening p piece here mine at same rose) = inr (inr refl)
refused_open_only said is (wants_memory_opening same more) = inr (inl refl)

no_piece_only : {who pin i : ℕ} {old new : Machine} {other : Reply} (said : PinState) → get old.pins pin ≡ Some said → said.owner ≡ who → slice_get said.pieces i ≡ None → Opens who pin i old other new → (other ≡ NoPiece (length said.pieces)) ⊎ IsFailure other
no_piece_only {who} {pin} {old = old} said there own gone (refused_open reply p) = absurd (let free = owner_may who (get old.pins pin) said there own in cc)
no_piece_only said there own gone (no_piece p here mine none) = inl (let same : p ≡ said = cc in ap (λ (x : PinState). NoPiece (length x.pieces)) same)
no_piece_only {i = i} said there own gone (opens p piece reader file head_len len here mine at faults shows named enough same more) = absurd (let same : p ≡ said = cc in let none : slice_get p.pieces i ≡ None = ap (λ (x : PinState). slice_get x.pieces i) same ∙ gone in cc)
no_piece_only said there own gone (faults_opening p piece here mine at same rose) = inr (inr refl)
no_piece_only said there own gone (wants_memory_opening same more) = inr (inl refl)

-- of a Pause or a Resume that sets the state
set_only : (to : State) (n : List ℕ) (m after : Machine) (answer : Reply) → Sets to n m answer after → answer ≡ Done
set_only to n m after answer ran = ran.0

-- of a Rename that gives the name
renamed_only : (n newname : List ℕ) (m after : Machine) (answer : Reply) → IsRenamed n newname m answer after → answer ≡ Renamed (length m.rows)
renamed_only n newname m after answer ran = ran.0

-- of a Flush
flushed_only : (limit samples left : ℕ) (m : Machine) → m.told ≡ true → count_in (batch_of limit m) ≡ samples → held_bytes (made [] (Appends (batch_of limit m)) m).rows ≡ left
    → (after : Machine) (answer : Reply) → Flushes limit m answer after → answer ≡ Flushed samples left m.doors
flushed_only limit samples left m told some rest after answer ran =
    let count : ran.0.0 ≡ samples = ran.0.1 told ∙ some in
    let bytes : held_bytes after.rows ≡ left = ap (λ (m : Machine). held_bytes m.rows) ran.1 ∙ rest in
    let doors : after.doors ≡ m.doors = ap (λ (m : Machine). m.doors) ran.1 in
    ran.0.2 ∙ rw (count, bytes, doors) refl

-- ADMISSION AND SAMPLING

-- the state after an offer, and after a tick
abbrev after_offer : Machine → ℕ → ℕ → Machine
after_offer m t now = (offered m name ScalarInt (record { t = t; line = line }) now).after

abbrev after_tick : Machine → ℕ → Machine
after_tick m now = (ticked m 0 now).after

pub late_and_early : LateAndEarlyOffers
late_and_early =
    let now = t0 + 3600 * second in
    let m0 = with_row (with_tail (record { t = t0; line = line } ∷ []) (t0 + 1)) in
    let m1 = after_offer m0 (t0 + 1) now in
    let m2 = after_offer m1 (t0 + 5400 * second) now in
    (m0, inl (refl, refl), ends_only refl, (m1, inl (refl, refl), ends_only refl, (m2, inl (refl, refl), ends_only refl, (m2, inl (refl, refl), ends_only refl, tt))))

-- the state after a pause or a resume of the row
abbrev after_set : Machine → State → Machine
after_set m to = made [] (SetsState 0 to) m

pub pause_gives_up : APauseGivesUpWhatIsHeld
pause_gives_up =
    let m0 = with_row (fresh_row name (about (Scan (10 * second)))) in
    let m1 = after_offer m0 t0 t0 in
    let m2 = after_tick m1 t0 in
    let m3 = after_offer m2 (t0 + 1 * second) (t0 + 1 * second) in
    let m4 = after_set m3 Paused in
    let m5 = after_set m4 Running in
    let m6 = after_tick m5 (t0 + 3 * second) in (
      m1,
      inl (refl, refl),
      ends_only refl,
      (
        m2,
        inl (refl, refl),
        ends_only refl,
        (
          m3,
          inl (refl, refl),
          ends_only refl,
          (
            m3,
            refused_at_once NotPaused refl,
            (λ other new step. refused_only _ _ _ _ NotPaused refl step),
            (
              m4,
              runs _ refl (no_doubt refl) refl (refl, (0, refl, refl)) (omega arith),
              (λ other new step. runs_only _ _ _ _ Done refl refl (set_only Paused name m3) step),
              (
                m4,
                refused_at_once NotRunning refl,
                (λ other new step. refused_only _ _ _ _ NotRunning refl step),
                (
                  m4,
                  inl (refl, refl),
                  ends_only refl,
                  (
                    m4,
                    inl (refl, refl),
                    ends_only refl,
                    (
                      m5,
                      runs _ refl (no_doubt refl) refl (refl, (0, refl, refl)) (omega arith),
                      (λ other new step. runs_only _ _ _ _ Done refl refl (set_only Running name m4) step),
                      (
                        m6,
                        inl (refl, refl),
                        ends_only refl,
                        (m6, inl (refl, refl), ends_only refl, tt),
                      ),
                    ),
                  ),
                ),
              ),
            ),
          ),
        ),
      ),
    )

-- A FULL INTAKE

-- no room is left beside four such lines
full_bytes : (a b c d : List ℕ) → length a ≡ 16777215 → length b ≡ 16777215 → length c ≡ 16777215 → length d ≡ 16777215 → held_bytes (four_lines a b c d ∷ []) ≡ 67108864
full_bytes a b c d p q r s = omega arith

no_room : (n : ℕ) → n ≡ 67108864 → nat_lt intake_room (n + (length line + 1)) ≡ true
no_room n is = rw is refl

-- one more such line just fits beside three
just_fits : (a b c d : List ℕ) → length a ≡ 16777215 → length b ≡ 16777215 → length c ≡ 16777215 → length d ≡ 16777215 → nat_lt intake_room (held_bytes (three_lines a b c ∷ []) + (length d + 1)) ≡ false
just_fits a b c d p q r s = let all : held_bytes (three_lines a b c ∷ []) + (length d + 1) ≡ 67108864 = omega arith in rw all refl

pub full_intake : AFullIntakeIsFlushed
full_intake a b c d p q r s =
    let fits : nat_lt intake_room (held_bytes (three_lines a b c ∷ []) + (length d + 1)) ≡ false = just_fits a b c d p q r s in
    let m0 = with_row (four_lines a b c d) in
    let m1 = made [] (Appends (batch_of 67108864 m0)) m0 in
    let m2 = after_offer m1 (t0 + 5) t0 in
    let bytes : held_bytes m0.rows ≡ 67108864 = full_bytes a b c d p q r s in
    let full : nat_lt intake_room (held_bytes m0.rows + (length line + 1)) ≡ true = no_room (held_bytes m0.rows) bytes in (
      m0,
      inl (rw fits refl, rw fits refl),
      ends_only (rw fits refl),
      (
        m0,
        inl (refl, refl),
        ends_only refl,
        (
          m0,
          inl (rw full (ap (λ n. IntakeFull n) (sym bytes)), rw full refl),
          ends_only (rw full (ap (λ n. IntakeFull n) bytes)),
          (
            m1,
            runs _ refl (no_doubt refl) refl ((4, (λ t. refl), refl), refl) (omega arith),
            (λ other new step. runs_only _ _ _ _ (Flushed 4 0 0) refl refl (flushed_only 67108864 4 0 m0 refl refl refl) step),
            (m2, inl (refl, refl), ends_only refl, tt),
          ),
        ),
      ),
    )

-- RENAMES

-- the state after a rename of the row
abbrev after_rename : Machine → Machine
after_rename m = made [] (Renames 0 new_name) m

-- and after an offer to the new row
abbrev after_new_offer : Machine → ℕ → Machine
after_new_offer m seconds = (offered m new_name ScalarInt (sample_at seconds) (t0 + seconds * second)).after

pub renamed_goes_on : ARenamedVariableGoesOn
renamed_goes_on =
    let m0 = with_row with_two in
    let m1 = after_set m0 Paused in
    let m2 = after_rename m1 in
    let m3 = made [] (SetsState 1 Running) m2 in
    let m4 = after_new_offer m3 9 in (
      m0,
      (None, refused_at_once (RenameNotPaused Running 0 0) refl),
      (λ other new step. refused_only _ _ _ _ (RenameNotPaused Running 0 0) refl step.1),
      (
        m1,
        runs _ refl (no_doubt refl) refl (refl, (0, refl, refl)) (omega arith),
        (λ other new step. runs_only _ _ _ _ Done refl refl (set_only Paused name m0) step),
        (
          m1,
          (None, refused_at_once (KeyTaken 0) refl),
          (λ other new step. refused_only _ _ _ _ (KeyTaken 0) refl step.1),
          (
            m2,
            (None, runs _ refl (no_doubt refl) refl (refl, (0, refl, refl)) (omega arith)),
            (λ other new step. runs_only _ _ _ _ (Renamed 1) refl refl (renamed_only name new_name m1) step.1),
            (
              m2,
              refused_at_once NotRunning refl,
              (λ other new step. refused_only _ _ _ _ NotRunning refl step),
              (
                m2,
                refused_at_once NotPaused refl,
                (λ other new step. refused_only _ _ _ _ NotPaused refl step),
                (
                  m2,
                  inl (refl, refl),
                  ends_only refl,
                  (
                    m3,
                    runs _ refl (no_doubt refl) refl (refl, (1, refl, refl)) (omega arith),
                    (λ other new step. runs_only _ _ _ _ Done refl refl (set_only Running new_name m2) step),
                    (m3, inl (refl, refl), ends_only refl, (m4, inl (refl, refl), ends_only refl, tt)),
                  ),
                ),
              ),
            ),
          ),
        ),
      ),
    )

pub waits_for_the_flush : ANewNameWaitsForTheFlush
waits_for_the_flush =
    let m0 = with_row (record with_two { state = Paused; tail = sample_at 9 ∷ []; next = t0 + 9 * second + 1 }) in
    let m1 = made [] (Appends (batch_of 1 m0)) m0 in
    let m2 = after_rename m1 in (
      m0,
      (None, refused_at_once (NotDurable (t0 + 9 * second) (Some (t0 + 5 * second))) refl),
      (λ other new step. refused_only _ _ _ _ (NotDurable (t0 + 9 * second) (Some (t0 + 5 * second))) refl step.1),
      (
        m1,
        runs _ refl (no_doubt refl) refl ((1, (λ t. refl), refl), refl) (omega arith),
        (λ other new step. runs_only _ _ _ _ (Flushed 1 0 0) refl refl (flushed_only 1 1 0 m0 refl refl refl) step),
        (m2, (None, runs _ refl (no_doubt refl) refl (refl, (0, refl, refl)) (omega arith)), (λ other new step. runs_only _ _ _ _ (Renamed 1) refl refl (renamed_only name new_name m1) step.1), tt),
      ),
    )

-- PINS

-- one pin in the map
one_there : (all : FinMap nat_cmp PinState) (n : ℕ) (p : PinState) → get (insert all n p) n ≡ Some p
one_there all n p = grind (arith, gets, nat_tests)

one_gone : (all : FinMap nat_cmp PinState) (n : ℕ) → get (remove all n) n ≡ None
one_gone all n = grind (arith, gets, nat_tests)

-- the variable of the example, with one sample in the intake
abbrev one_row : RowState
one_row = with_tail (record { t = t0; line = line } ∷ []) (t0 + 1)

-- its stores list nothing
nothing_listed : (store : Store) → tier one_row store ≡ []
nothing_listed Short = refl
nothing_listed Medium = refl
nothing_listed Long = refl

only_row : (k : ℕ) (own : RowState) → slice_get (one_row ∷ []) k ≡ Some own → own ≡ one_row
only_row zero own is = cc
only_row (suc k) own is = absurd cc

no_pieces : (rule : Rule) (i : ℕ) (row : RowState) (pieces : List RowFile) → AllByRecursion (IsPieceOf rule (one_row ∷ []) i row) pieces → pieces ≡ []
no_pieces rule i row [] listed = refl
no_pieces rule i row (f ∷ rest) listed =
    let p = listed.0 in
    let own : p.own ≡ one_row = only_row f.row p.own p.here in
    let none : f.samples ≡ [] = p.listed.samples ∙ (ap (λ (r : RowState). window f.part (tier r f.store)) own ∙ ap (λ xs. window f.part xs) (nothing_listed f.store)) in
    let empty_one : is_empty f.samples ≡ true = ap (λ xs. is_empty xs) none in
    absurd (let some : is_empty f.samples ≡ false = p.listed.some in cc)

-- the least free number, where there is no pin
least_free : (n : ℕ) → ((k : ℕ) → k < n → get (empty {X = PinState} {R = nat_cmp}) k ≢ None) → n ≡ 0
least_free zero least = refl
least_free (suc n) least = absurd (least 0 (omega arith) (get-empty nat_cmp 0))

pinned_only : (after : Machine) (answer : Reply) → MakesPin 0 name all_moments (with_row one_row) answer after → answer ≡ Pinned 0 name (about Monitor) 0 one_row.tail
pinned_only after answer (pins i row pin pieces found here free least listed order gives few same) =
    let at : i ≡ 0 = cc in
    let row_is : row ≡ one_row = (let there : slice_get (one_row ∷ []) 0 ≡ Some row = subst (λ k. slice_get (one_row ∷ []) k ≡ Some row) at here in cc) in
    let none : pieces ≡ [] = no_pieces (with_row one_row).rule i row pieces (listed refl) in
    let first : pin ≡ 0 = least_free pin least in
    rw (first, row_is, none) refl

pub owners : PinsAreTheirOwners
owners =
    let m0 = with_row one_row in
    let pin : PinState = record { owner = 0; pieces = [] } in
    let m1 : Machine = record m0 { pins = insert m0.pins 0 pin } in
    let m2 : Machine = record m1 { pins = remove m1.pins 0 } in
    let there : get m1.pins 0 ≡ Some pin = one_there m0.pins 0 pin in
    let gone : get m2.pins 0 ≡ None = one_gone m1.pins 0 in (
      m1,
      runs _ refl (no_doubt refl) refl (pins 0 one_row 0 [] refl refl (get-empty nat_cmp 0) (λ k low. absurd (omega arith)) (λ t. tt) (λ t. tt) (λ t. refl) (omega arith) refl) (omega arith),
      (λ other new step. runs_only _ _ _ _ _ refl refl pinned_only step),
      (
        m1,
        refused_open (NotYours 0) (rw there refl),
        (λ other new step. refused_open_only (NotYours 0) (rw there refl) step),
        (
          m1,
          no_piece pin there refl refl,
          (λ other new step. no_piece_only pin there refl refl step),
          (
            m1,
            refused_unpin (NotYours 0) (rw there refl),
            (λ other new step. inl (refused_unpin_only (NotYours 0) (rw there refl) step)),
            (
              m2,
              unpins (rw there refl),
              (λ other new step. inl (unpinned_only (rw there refl) step)),
              (
                m2,
                refused_open NoPin (rw gone refl),
                (λ other new step. refused_open_only NoPin (rw gone refl) step),
                (m2, refused_unpin NoPin (rw gone refl), (λ other new step. inl (refused_unpin_only NoPin (rw gone refl) step)), tt),
              ),
            ),
          ),
        ),
      ),
    )
