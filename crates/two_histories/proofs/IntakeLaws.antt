-- What a step of the intake leaves of its half, beside what is accepted.
use Rattle.std.proofs.Common.{◌≡◌, ℕ, ◌+◌, ◌≤◌, List, [], ◌∷◌, ◌++◌, length, drop, map, Some, None, true, false, refl, ap, sym, ◌∙◌, subst, arith, append-nil, inl, inr}
use Rattle.std.specs.Prelude.{slice_get, max}
use Rattle.std.specs.List.{AllByRecursion}
use Rattle.series_model.specs.declared.sample.Sample.{Sample}
use Rattle.series_model.specs.Series.{since, end_of}
use Rattle.series_model.proofs.RisingLists.{end_from-append}
use Rattle.act_model.specs.declared.acts.Act.{Act}
use Rattle.act_model.specs.declared.acts.Act.TheVariants.{Register, Pause, Resume, Rename, Offer, Tick, Flush, MoveBegin, MoveStep, Sweep, Pin, OpenPiece, Unpin, Names, Details, Doors, DoorDone}
use Rattle.pb_messages.specs.declared.about.State.{State}
use Rattle.act_model.specs.Machine.{Machine, held_bytes}
use Rattle.act_model.specs.Reply.{Reply}
use Rattle.act_model.specs.Rows.{RowState, is_running}
use Rattle.act_model.specs.Step.{Step, MayAsk}
use Rattle.two_histories.specs.Store.{Lists}
use Rattle.two_histories.specs.ArchiveIntake.{IntakeRow, IntakeHalf, known_at, tail_at, as_row, machine_of, kept_row, kept_rows, intake_of, trimmed, with_rows, taken}
use Rattle.two_histories.specs.IntakeStep.{IntakePart, Offers, Ticks, LooksForDoors, LooksForBatch, LooksAt, Takes, TakesFlush, IntakeAnswer, IsOfIntake, IntakeStep, told_rows, offers, ticks, no_row, sees_doors, sees_batch, sees_row, takes, takes_flush, TakesMemory, lacks_memory}
use Rattle.two_histories.specs.ArchiveStore.{RegisteredRow}
use Rattle.two_histories.specs.ArchiveHistories.{added}
use Rattle.two_histories.proofs.Gaining.{same_row, one_more, Gains, Fits, gains_none, offered_gains, ticked_gains}
use Rattle.two_histories.proofs.KnownRows.{Ascends, HasEvents, AreKept, are_kept, KeptAt, not_known, is_known, kept_at, kept_ascends, kept_lines, kept_bytes, held_fits, TrimmedAt, trims_none, trims_one, trimmed_at, trimmed_ascends, trimmed_lines, trimmed_bytes, was_known, is_told, TookAt, takes_none, takes_one, took, took_was}

-- of the rows that are known `next` isn't before the end of what is accepted; of others nothing is
pub record IntakeSound (m : IntakeHalf) (accepted : Lists) : Type 0 where
  pub up : Ascends 0 m.rows
  pub next : (r : ℕ) (k : IntakeRow) → known_at m.rows r ≡ Some k → end_of (accepted r) ≤ k.next
  pub unknown : (r : ℕ) → known_at m.rows r ≡ None → accepted r ≡ []
  pub lines : AllByRecursion HasEvents m.rows
  pub bytes : held_bytes (map as_row m.rows) ≤ 67108864

-- a row's accepted samples and its tail: they stay, gain one, or the tail is trimmed
pub data RowDid (n : ℕ) (accepted tail more left : List Sample) : Type 0 where
  did_stay : more ≡ accepted → left ≡ tail → RowDid n accepted tail more left
  did_gain : (s : Sample) → more ≡ accepted ++ s ∷ [] → left ≡ tail ++ s ∷ [] → end_of accepted ≤ s.t → RowDid n accepted tail more left
  did_trim : more ≡ accepted → left ≡ since n tail → RowDid n accepted tail more left

-- where the name and the type of a row that is known come from
pub data AboutFrom (regs : List RegisteredRow) (ks : List IntakeRow) (r : ℕ) (new : IntakeRow) : Type 0 where
  about_was : (k : IntakeRow) → known_at ks r ≡ Some k → new.about ≡ k.about → new.name ≡ k.name → AboutFrom regs ks r new
  about_told : (reg : RegisteredRow) (front back : List RegisteredRow) → regs ≡ front ++ reg ∷ back → reg.row ≡ r → new.about ≡ reg.about → new.name ≡ reg.name → AboutFrom regs ks r new

abbrev pub trims : IntakePart → ℕ → ℕ
trims (Offers act) r = 0
trims (Ticks row now) r = 0
trims LooksForDoors r = 0
trims (LooksForBatch limit) r = 0
trims (LooksAt name) r = 0
trims (Takes ends rows) r = ends r
trims (TakesFlush len ends rows) r = ends r

-- the state of a row, with its change number, was known or is told
pub data StateFrom (regs : List RegisteredRow) (ks : List IntakeRow) (r changed : ℕ) (state : State) : Type 0 where
  state_was : (k : IntakeRow) → known_at ks r ≡ Some k → k.changed ≡ changed → k.state ≡ state → StateFrom regs ks r changed state
  state_told : (reg : RegisteredRow) (front back : List RegisteredRow) → regs ≡ front ++ reg ∷ back → reg.row ≡ r → reg.changed ≡ changed → reg.state ≡ state → StateFrom regs ks r changed state

-- What a step did. No change of a row is forgotten, and a row that doesn't run gains nothing.
pub record IntakeDid (regs : List RegisteredRow) (n : ℕ → ℕ) (old new : IntakeHalf) (accepted more : Lists) : Type 0 where
  pub sound : IntakeSound new more
  pub did : (r : ℕ) → RowDid (n r) (accepted r) (tail_at old.rows r) (more r) (tail_at new.rows r)
  pub abouts : (r : ℕ) (k : IntakeRow) → known_at new.rows r ≡ Some k → AboutFrom regs old.rows r k
  pub states : (r : ℕ) (k : IntakeRow) → known_at new.rows r ≡ Some k → StateFrom regs old.rows r k.changed k.state
  pub up : (r : ℕ) (k : IntakeRow) → known_at old.rows r ≡ Some k → (now : IntakeRow) × (known_at new.rows r ≡ Some now) × (k.changed ≤ now.changed)
  pub idle : (r : ℕ) (k : IntakeRow) → known_at old.rows r ≡ Some k → is_running k.state ≡ false → more r ≡ accepted r

-- TAILS BY NUMBER

some_same : {A : Type 0} {a b : A} → Some a ≡ Some b → a ≡ b
some_same is = cc

pub tail_known : (rows : List IntakeRow) (r : ℕ) (k : IntakeRow) → known_at rows r ≡ Some k → tail_at rows r ≡ k.tail
tail_known rows r k is = rw is refl

pub tail_unknown : (rows : List IntakeRow) (r : ℕ) → known_at rows r ≡ None → tail_at rows r ≡ []
tail_unknown rows r is = rw is refl

drop_all : (xs : List Sample) → drop (length xs) xs ≡ []
drop_all [] = refl
drop_all (x ∷ xs) = drop_all xs

pub drop_more : (xs ys : List Sample) → drop (length xs) (xs ++ ys) ≡ ys
drop_more [] ys = refl
drop_more (x ∷ xs) ys = drop_more xs ys

-- AN OFFER OR A TICK

module _ (old : IntakeHalf) (after : Machine) (accepted : Lists) (s : IntakeSound old accepted) (gains : Gains (machine_of old) after) where
  abbrev news : List IntakeRow
  news = kept_rows old.rows after.rows

  abbrev more : Lists
  more r = accepted r ++ drop (length (tail_at old.rows r)) (tail_at news r)

  kept : AreKept old.rows after.rows
  kept = are_kept old.rows after.rows gains.as_many gains.each_row

  -- a row that gains nothing
  same_more : (r : ℕ) (k : IntakeRow) (row : RowState) → known_at old.rows r ≡ Some k → known_at news r ≡ Some (kept_row k row) → row.tail ≡ k.tail → more r ≡ accepted r
  same_more r k row here there tail =
      let same : tail_at news r ≡ tail_at old.rows r = tail_known news r (kept_row k row) there ∙ (tail ∙ sym (tail_known old.rows r k here)) in
      ap (λ w. accepted r ++ w) (ap (λ w. drop (length (tail_at old.rows r)) w) same ∙ drop_all (tail_at old.rows r)) ∙ append-nil (accepted r)

  did_at : (r : ℕ) → KeptAt old.rows after.rows r → RowDid 0 (accepted r) (tail_at old.rows r) (more r) (tail_at news r)
  did_at r (not_known none none') =
      let before : tail_at old.rows r ≡ [] = tail_unknown old.rows r none in
      let now : tail_at news r ≡ [] = tail_unknown news r none' in
      let nothing : drop (length (tail_at old.rows r)) (tail_at news r) ≡ [] = ap (λ w. drop (length w) (tail_at news r)) before ∙ now in
      did_stay (ap (λ w. accepted r ++ w) nothing ∙ append-nil (accepted r)) (now ∙ sym before)
  did_at r (is_known k row here there (same_row tail next held)) =
      let before : tail_at old.rows r ≡ k.tail = tail_known old.rows r k here in
      let now : tail_at news r ≡ row.tail = tail_known news r (kept_row k row) there in
      did_stay (same_more r k row here there tail) (now ∙ (tail ∙ sym before))
  did_at r (is_known k row here there (one_more x runs tail next late event held)) =
      let before : tail_at old.rows r ≡ k.tail = tail_known old.rows r k here in
      let now : tail_at news r ≡ row.tail = tail_known news r (kept_row k row) there in
      let longer : tail_at news r ≡ tail_at old.rows r ++ x ∷ [] = now ∙ (tail ∙ ap (λ w. w ++ x ∷ []) (sym before)) in
      let one : drop (length (tail_at old.rows r)) (tail_at news r) ≡ x ∷ [] = ap (λ w. drop (length (tail_at old.rows r)) w) longer ∙ drop_more (tail_at old.rows r) (x ∷ []) in
      did_gain x (ap (λ w. accepted r ++ w) one) longer (let end = s.next r k here in let low : k.next ≤ x.t = late in omega arith)

  next_at : (r : ℕ) (k' : IntakeRow) → known_at news r ≡ Some k' → KeptAt old.rows after.rows r → end_of (more r) ≤ k'.next
  next_at r k' there (not_known none none') = absurd (let bad = sym none' ∙ there in cc)
  next_at r k' there' (is_known k row here there (same_row tail next held)) =
      let is : k' ≡ kept_row k row = some_same (sym there' ∙ there) in
      let now : k'.next ≡ k.next = ap (λ (x : IntakeRow). x.next) is ∙ next in
      let all = ap end_of (same_more r k row here there tail) in
      let low = s.next r k here in
      omega arith
  next_at r k' there' (is_known k row here there (one_more x runs tail next late event held)) =
      let is : k' ≡ kept_row k row = some_same (sym there' ∙ there) in
      let now : k'.next ≡ x.t + 1 = ap (λ (y : IntakeRow). y.next) is ∙ next in
      let longer : tail_at news r ≡ tail_at old.rows r ++ x ∷ [] = tail_known news r (kept_row k row) there ∙ (tail ∙ ap (λ w. w ++ x ∷ []) (sym (tail_known old.rows r k here))) in
      let all : more r ≡ accepted r ++ x ∷ [] = ap (λ w. accepted r ++ w) (ap (λ w. drop (length (tail_at old.rows r)) w) longer ∙ drop_more (tail_at old.rows r) (x ∷ [])) in
      let ends : end_of (more r) ≡ x.t + 1 = ap end_of all ∙ end_from-append 0 (accepted r) (x ∷ []) in
      omega arith

  unknown_at : (r : ℕ) → known_at news r ≡ None → KeptAt old.rows after.rows r → more r ≡ []
  unknown_at r gone (not_known none none') =
      let before : tail_at old.rows r ≡ [] = tail_unknown old.rows r none in
      let now : tail_at news r ≡ [] = tail_unknown news r none' in
      let nothing : drop (length (tail_at old.rows r)) (tail_at news r) ≡ [] = ap (λ w. drop (length w) (tail_at news r)) before ∙ now in
      ap (λ w. accepted r ++ w) nothing ∙ (append-nil (accepted r) ∙ s.unknown r none)
  unknown_at r gone (is_known k row here there gain) = absurd (let bad = sym there ∙ gone in cc)

  about_at : (r : ℕ) (k' : IntakeRow) → known_at news r ≡ Some k' → KeptAt old.rows after.rows r → AboutFrom [] old.rows r k'
  about_at r k' there (not_known none none') = absurd (let bad = sym none' ∙ there in cc)
  about_at r k' there' (is_known k row here there gain) = let is : k' ≡ kept_row k row = some_same (sym there' ∙ there) in about_was k here (ap (λ (x : IntakeRow). x.about) is) (ap (λ (x : IntakeRow). x.name) is)

  state_at : (r : ℕ) (k' : IntakeRow) → known_at news r ≡ Some k' → KeptAt old.rows after.rows r → StateFrom [] old.rows r k'.changed k'.state
  state_at r k' there (not_known none none') = absurd (let bad = sym none' ∙ there in cc)
  state_at r k' there' (is_known k row here there gain) = let is : kept_row k row ≡ k' = some_same (sym there ∙ there') in state_was k here (ap (λ (x : IntakeRow). x.changed) is) (ap (λ (x : IntakeRow). x.state) is)

  up_at : (r : ℕ) (k : IntakeRow) → known_at old.rows r ≡ Some k → KeptAt old.rows after.rows r → (now : IntakeRow) × (known_at news r ≡ Some now) × (k.changed ≤ now.changed)
  up_at r k here (not_known none none') = absurd (let bad = sym none ∙ here in cc)
  up_at r k here (is_known k' row here' there gain) = let same : k ≡ k' = some_same (sym here ∙ here') in let number = ap (λ (x : IntakeRow). x.changed) same in (kept_row k' row, there, omega arith)

  idle_at : (r : ℕ) (k : IntakeRow) → known_at old.rows r ≡ Some k → is_running k.state ≡ false → KeptAt old.rows after.rows r → more r ≡ accepted r
  idle_at r k here down (not_known none none') = absurd (let bad = sym none ∙ here in cc)
  idle_at r k here down (is_known k' row here' there (same_row tail next held)) = same_more r k' row here' there tail
  idle_at r k here down (is_known k' row here' there (one_more x runs tail next late event held)) =
      absurd (let same : k ≡ k' = some_same (sym here ∙ here') in let bad : true ≡ false = sym runs ∙ (ap (λ (y : IntakeRow). is_running y.state) (sym same) ∙ down) in cc)

  pub gains_did : IntakeDid [] (λ r. 0) old (intake_of old after) accepted more
  gains_did =
      record {
        sound = record {
          up = kept_ascends 0 old.rows after.rows s.up;
          next = λ r k there. next_at r k there (kept_at old.rows after.rows r kept);
          unknown = λ r gone. unknown_at r gone (kept_at old.rows after.rows r kept);
          lines = kept_lines old.rows after.rows kept s.lines;
          bytes = (let same = kept_bytes old.rows after.rows kept in let most = gains.bytes in omega arith);
        };
        did = λ r. did_at r (kept_at old.rows after.rows r kept);
        abouts = λ r k there. about_at r k there (kept_at old.rows after.rows r kept);
        states = λ r k there. state_at r k there (kept_at old.rows after.rows r kept);
        up = λ r k here. up_at r k here (kept_at old.rows after.rows r kept);
        idle = λ r k here down. idle_at r k here down (kept_at old.rows after.rows r kept);
      }

-- NOTHING

nothing_did : (rows : List RegisteredRow) (ends : ℕ → ℕ) (old : IntakeHalf) (accepted : Lists) → IntakeSound old accepted → IntakeDid rows ends old old accepted (λ r. accepted r ++ [])
nothing_did rows ends old accepted s =
    record {
      sound = record {
        up = s.up;
        next = λ r k here. let low = s.next r k here in let same = ap end_of (append-nil (accepted r)) in omega arith;
        unknown = λ r none. append-nil (accepted r) ∙ s.unknown r none;
        lines = s.lines;
        bytes = s.bytes;
      };
      did = λ r. did_stay (append-nil (accepted r)) refl;
      abouts = λ r k here. about_was k here refl refl;
      states = λ r k here. state_was k here refl refl;
      up = λ r k here. (k, here, omega arith);
      idle = λ r k here down. append-nil (accepted r);
    }

-- A TAKE

module _ (old : IntakeHalf) (ends : ℕ → ℕ) (regs : List RegisteredRow) (accepted : Lists) (s : IntakeSound old accepted) where
  abbrev cut : List IntakeRow
  cut = map (trimmed ends) old.rows

  abbrev took_rows : List IntakeRow
  took_rows = with_rows regs cut

  tail_cut : (r : ℕ) → TrimmedAt ends old.rows r → tail_at cut r ≡ since (ends r) (tail_at old.rows r)
  tail_cut r (trims_none a b) = tail_unknown cut r b ∙ sym (ap (λ w. since (ends r) w) (tail_unknown old.rows r a))
  tail_cut r (trims_one k a own b) = tail_known cut r (trimmed ends k) b ∙ (ap (λ n. since (ends n) k.tail) own ∙ sym (ap (λ w. since (ends r) w) (tail_known old.rows r k a)))

  tail_took : (r : ℕ) → TookAt regs cut took_rows r → tail_at took_rows r ≡ tail_at cut r
  tail_took r (takes_none a b) = tail_unknown took_rows r b ∙ sym (tail_unknown cut r a)
  tail_took r (takes_one new there (was_known k here same)) = tail_known took_rows r new there ∙ (same.tail ∙ sym (tail_known cut r k here))
  tail_took r (takes_one new there (is_told reg front back is own none about name tail)) = tail_known took_rows r new there ∙ (tail ∙ sym (tail_unknown cut r none))

  cut_none : (r : ℕ) → known_at cut r ≡ None → TrimmedAt ends old.rows r → known_at old.rows r ≡ None
  cut_none r none (trims_none a b) = a
  cut_none r none (trims_one k a own b) = absurd (let bad = sym none ∙ b in cc)

  cut_some : (r : ℕ) (k' : IntakeRow) → known_at cut r ≡ Some k' → TrimmedAt ends old.rows r → (k : IntakeRow) × (known_at old.rows r ≡ Some k) × (k' ≡ trimmed ends k)
  cut_some r k' here (trims_none a b) = absurd (let bad = sym b ∙ here in cc)
  cut_some r k' here (trims_one k a own b) = (k, a, some_same (sym here ∙ b))

  next_took : (r : ℕ) (k' : IntakeRow) → known_at took_rows r ≡ Some k' → TookAt regs cut took_rows r → end_of (accepted r) ≤ k'.next
  next_took r k' here (takes_none a b) = absurd (let bad = sym b ∙ here in cc)
  next_took r k' here (takes_one new there (was_known k before same)) =
      let c = cut_some r k before (trimmed_at ends old.rows r) in
      let now : k'.next ≡ c.0.next = ap (λ (x : IntakeRow). x.next) (some_same (sym here ∙ there)) ∙ (same.next ∙ ap (λ (x : IntakeRow). x.next) c.2) in
      let low = s.next r c.0 c.1 in
      omega arith
  next_took r k' here (takes_one new there (is_told reg front back is own none about name tail)) =
      let nothing = ap end_of (s.unknown r (cut_none r none (trimmed_at ends old.rows r))) in omega arith

  unknown_took : (r : ℕ) → known_at took_rows r ≡ None → TookAt regs cut took_rows r → accepted r ≡ []
  unknown_took r gone (takes_none a b) = s.unknown r (cut_none r a (trimmed_at ends old.rows r))
  unknown_took r gone (takes_one new there from) = absurd (let bad = sym gone ∙ there in cc)

  about_took : (r : ℕ) (k' : IntakeRow) → known_at took_rows r ≡ Some k' → TookAt regs cut took_rows r → AboutFrom regs old.rows r k'
  about_took r k' here (takes_none a b) = absurd (let bad = sym b ∙ here in cc)
  about_took r k' here (takes_one new there (was_known k before same)) =
      let c = cut_some r k before (trimmed_at ends old.rows r) in
      let is : k' ≡ new = some_same (sym here ∙ there) in
      about_was c.0 c.1 (ap (λ (x : IntakeRow). x.about) is ∙ (same.about ∙ ap (λ (x : IntakeRow). x.about) c.2)) (ap (λ (x : IntakeRow). x.name) is ∙ (same.name ∙ ap (λ (x : IntakeRow). x.name) c.2))
  about_took r k' here (takes_one new there (is_told reg front back is own none about name tail)) =
      let same : k' ≡ new = some_same (sym here ∙ there) in about_told reg front back is own (ap (λ (x : IntakeRow). x.about) same ∙ about) (ap (λ (x : IntakeRow). x.name) same ∙ name)

  up_took : (r : ℕ) (k : IntakeRow) → known_at old.rows r ≡ Some k → TrimmedAt ends old.rows r → TookAt regs cut took_rows r → (now : IntakeRow) × (known_at took_rows r ≡ Some now) × (k.changed ≤ now.changed)
  up_took r k here (trims_none a b) took = absurd (let bad = sym a ∙ here in cc)
  up_took r k here (trims_one k' a own b) (takes_none c d) = absurd (let bad = sym c ∙ b in cc)
  up_took r k here (trims_one k' a own b) (takes_one new there (is_told reg front back is own' none about name tail)) = absurd (let bad = sym none ∙ b in cc)
  up_took r k here (trims_one k' a own b) (takes_one new there (was_known x before same)) =
      let first : k ≡ k' = some_same (sym here ∙ a) in
      let second : x ≡ trimmed ends k' = some_same (sym before ∙ b) in
      let numbers = ap (λ (y : IntakeRow). y.changed) first in
      let trims = ap (λ (y : IntakeRow). y.changed) second in
      let up : x.changed ≤ new.changed = same.up in
      (new, there, omega arith)

  pub taken_did : (upto : ℕ) → IntakeDid regs ends old (record (taken ends regs old) { upto = upto }) accepted (λ r. accepted r ++ [])
  taken_did upto =
      let t = took regs cut (trimmed_ascends ends 0 old.rows s.up) (trimmed_lines ends old.rows s.lines) in
      record {
        sound = record {
          up = t.ascends;
          next = λ r k here. let low = next_took r k here (t.at r) in let same = ap end_of (append-nil (accepted r)) in omega arith;
          unknown = λ r gone. append-nil (accepted r) ∙ unknown_took r gone (t.at r);
          lines = t.lines;
          bytes = (let same = t.bytes in let less = trimmed_bytes ends old.rows in let most = s.bytes in omega arith);
        };
        did = λ r. did_trim (append-nil (accepted r)) (tail_took r (t.at r) ∙ tail_cut r (trimmed_at ends old.rows r));
        abouts = λ r k here. about_took r k here (t.at r);
        states = took_was (λ r changed state. StateFrom regs old.rows r changed state) regs cut (trimmed_ascends ends 0 old.rows s.up) (λ reg front back is. state_told reg front back is refl refl refl)
            (λ r k here. let c = cut_some r k here (trimmed_at ends old.rows r) in state_was c.0 c.1 (ap (λ (x : IntakeRow). x.changed) (sym c.2)) (ap (λ (x : IntakeRow). x.state) (sym c.2)));
        up = λ r k here. up_took r k here (trimmed_at ends old.rows r) (t.at r);
        idle = λ r k here down. append-nil (accepted r);
      }

-- ANY STEP

fits_of : (m : IntakeHalf) (accepted : Lists) → IntakeSound m accepted → Fits (machine_of m)
fits_of m accepted s = record { held = λ i row here. held_fits m.rows i row s.lines here; bytes = s.bytes }

rows_same : (m after : Machine) → Fits m → after.rows ≡ m.rows → Gains m after
rows_same m after fits is =
    let none = gains_none m fits in
    record {
      each_row = λ i row here. let x = none.each_row i row here in (x.0, ap (λ w. slice_get w i) is ∙ x.1, x.2);
      as_many = ap length is;
      bytes = subst (λ w. held_bytes w ≤ 67108864) (sym is) fits.bytes;
    }

act_gains : (who : ℕ) (act : Act) (m after : Machine) (reply : Reply) → IsOfIntake act → MayAsk act → Fits m → Step who act m reply after → Gains m after
act_gains who (Offer name ty time line now) m after reply is ask fits (inl p) = subst (λ x. Gains m x) (sym p.1) (offered_gains m name ty (record { t = time; line = line }) now fits ask)
act_gains who (Offer name ty time line now) m after reply is ask fits (inr p) = rows_same m after fits (ap (λ (x : Machine). x.rows) p.1)
act_gains who Doors m after reply is ask fits step = rows_same m after fits (ap (λ (x : Machine). x.rows) step.1)
act_gains who DoorDone m after reply is ask fits step = rows_same m after fits (ap (λ (x : Machine). x.rows) step.1)
act_gains who (Register name about) m after reply is ask fits step = absurd is
act_gains who (Pause name) m after reply is ask fits step = absurd is
act_gains who (Resume name) m after reply is ask fits step = absurd is
act_gains who (Rename name newname) m after reply is ask fits step = absurd is
act_gains who (Tick row now) m after reply is ask fits step = absurd is
act_gains who (Flush limit) m after reply is ask fits step = absurd is
act_gains who (MoveBegin store now) m after reply is ask fits step = absurd is
act_gains who (MoveStep n) m after reply is ask fits step = absurd is
act_gains who Sweep m after reply is ask fits step = absurd is
act_gains who (Pin name query) m after reply is ask fits step = absurd is
act_gains who (OpenPiece pin i) m after reply is ask fits step = absurd is
act_gains who (Unpin pin) m after reply is ask fits step = absurd is
act_gains who (Names from most) m after reply is ask fits step = absurd is
act_gains who (Details name) m after reply is ask fits step = absurd is

tick_gains : (who i now : ℕ) (m after : Machine) (reply : Reply) → Fits m → Step who (Tick i now) m reply after → Gains m after
tick_gains who i now m after reply fits (inl p) = subst (λ x. Gains m x) (sym p.1) (ticked_gains m i now fits)
tick_gains who i now m after reply fits (inr p) = rows_same m after fits (ap (λ (x : Machine). x.rows) p.1)

-- a tick of no row
no_tick : (old : IntakeHalf) (accepted : Lists) → IntakeSound old accepted → IntakeDid [] (λ r. 0) old old accepted (λ r. accepted r ++ drop (length (tail_at old.rows r)) (tail_at old.rows r))
no_tick old accepted s =
    let all : (r : ℕ) → accepted r ++ drop (length (tail_at old.rows r)) (tail_at old.rows r) ≡ accepted r = λ r. ap (λ w. accepted r ++ w) (drop_all (tail_at old.rows r)) ∙ append-nil (accepted r) in
    record {
      sound = record { up = s.up; next = λ r k here. let low = s.next r k here in let same = ap end_of (all r) in omega arith; unknown = λ r none. all r ∙ s.unknown r none; lines = s.lines; bytes = s.bytes };
      did = λ r. did_stay (all r) refl;
      abouts = λ r k here. about_was k here refl refl;
      states = λ r k here. state_was k here refl refl;
      up = λ r k here. (k, here, omega arith);
      idle = λ r k here down. all r;
    }

-- nothing was done for want of memory
no_memory : (part : IntakePart) → TakesMemory part → (old : IntakeHalf) (accepted : Lists) → IntakeSound old accepted → IntakeDid (told_rows part) (λ r. trims part r) old old accepted (λ r. accepted r ++ added part old old r)
no_memory (Offers act) a old accepted s = absurd a
no_memory (Ticks row now) a old accepted s = absurd a
no_memory LooksForDoors a old accepted s = absurd a
no_memory (LooksForBatch limit) a old accepted s = nothing_did [] (λ r. 0) old accepted s
no_memory (LooksAt name) a old accepted s = nothing_did [] (λ r. 0) old accepted s
no_memory (Takes ends rows) a old accepted s = nothing_did rows ends old accepted s
no_memory (TakesFlush len ends rows) a old accepted s = nothing_did rows ends old accepted s

pub intake_did : {who : ℕ} {old new : IntakeHalf} {part : IntakePart} {answer : IntakeAnswer} → IntakeStep who old part answer new → (accepted : Lists) → IntakeSound old accepted
    → IntakeDid (told_rows part) (λ r. trims part r) old new accepted (λ r. accepted r ++ added part old new r)
intake_did {who} {old} (offers after act reply is ask step) accepted s = gains_did old after accepted s (act_gains who act (machine_of old) after reply is ask (fits_of old accepted s) step)
intake_did {who} {old} (ticks after row now i reply here step) accepted s = gains_did old after accepted s (tick_gains who i now (machine_of old) after reply (fits_of old accepted s) step)
intake_did {old = old} (no_row row now none) accepted s = no_tick old accepted s
intake_did {old = old} sees_doors accepted s = nothing_did [] (λ r. 0) old accepted s
intake_did {old = old} (sees_batch limit most) accepted s = nothing_did [] (λ r. 0) old accepted s
intake_did {old = old} (sees_row name) accepted s = nothing_did [] (λ r. 0) old accepted s
intake_did {old = old} (takes ends rows) accepted s = taken_did old ends rows accepted s old.upto
intake_did {old = old} (takes_flush len ends rows) accepted s = taken_did old ends rows accepted s (max old.upto len)
intake_did {old = old} (lacks_memory part a) accepted s = no_memory part a old accepted s
