-- The acts on rows keep the machine sound.
use Rattle.std.proofs.Common.{◌≡◌, ℕ, ◌+◌, ◌<◌, ◌≤◌, List, [], ◌∷◌, ◌++◌, length, Option, Some, None, zero, suc, Bool, true, false, cond, refl, ap, sym, ◌∙◌, arith, subst, append-nil}
use Rattle.std.specs.Prelude.{◌-◌, ◌^◌, min, ◌==◌, ◌&&◌, nat_eq, nat_lt, nat_le, slice_get, if◌then◌else◌}
use Rattle.std.proofs.lemmas.Bool.Decides.{nat_tests}
use Rattle.std.specs.List.{AllByRecursion}
use Rattle.std.specs.Ordering.{nat_cmp}
use Rattle.std.specs.FinMap.{FinMap, get}
use Rattle.series_model.specs.Limits.{intake_room}
use Rattle.series_model.specs.declared.sample.Sample.{Sample}
use Rattle.series_model.specs.declared.admission.Reason.{Reason}
use Rattle.series_model.specs.declared.admission.Reason.TheVariants.{Unknown}
use Rattle.series_model.specs.Admission.{refused_by_row, refused_by_time}
use Rattle.series_model.specs.Series.{end_from, end_of}
use Rattle.series_model.proofs.RisingLists.{end_from-append, RisesFrom-append}
use Rattle.pb_messages.specs.declared.about.About.{About}
use Rattle.pb_messages.specs.declared.about.State.{State}
use Rattle.pb_messages.specs.declared.about.State.TheVariants.{Running, Paused, Retired}
use Rattle.pb_wire.specs.declared.payload.PayloadType.{PayloadType}
use Rattle.pb_wire.specs.declared.payload.PayloadType.TheVariants.{ScalarString, ScalarShort, ScalarFloat, ScalarEnum, ScalarByte, ScalarInt, ScalarDouble, WaveformString, WaveformShort, WaveformFloat, WaveformEnum, WaveformByte, WaveformInt, WaveformDouble}
use Rattle.pb_messages.specs.declared.about.Method.{Method}
use Rattle.pb_messages.specs.declared.about.Method.TheVariants.{Monitor, Scan}
use Rattle.act_model.specs.declared.acts.Answer.TheVariants.{Dropped, IntakeFull, CatalogueFull, Kept, Held, TickKept, TickNone, NotDue, NoRow}
use Rattle.act_model.specs.Reply.{Reply}
use Rattle.act_model.specs.Rows.{RowState, accepted, durable, size_of, is_empty, standing, number_of, period_of, is_running, is_paused}
use Rattle.pv_name.specs.Key.{key_of}
use Rattle.act_model.specs.Whole.{AllFollow}
use Rattle.act_model.specs.Machine.{Machine, MoveState, Change, AddsRow, SetsState, Renames, Appends, find_row, with_key, place, same_bytes, held_bytes}
use Rattle.act_model.specs.Changes.{with_rows, each, at, of_row}
use Rattle.act_model.specs.Outcome.{Outcome, all_go}
use Rattle.act_model.specs.Register.{RegisterStep, Registers, register_refused}
use Rattle.act_model.specs.Pause.{StateStep, Sets, sets_of, state_refused}
use Rattle.act_model.specs.Rename.{RenameStep, IsRenamed, changed_within, rename_refused, renames_of}
use Rattle.act_model.specs.Offer.{OfferStep, offered, offered_to, tried, gains, with_held}
use Rattle.act_model.specs.Tick.{TickStep, ticked, ticked_due, moved_on}
use Rattle.act_model.specs.Flush.{FlushStep, Flushes, batch_of, batch_from}
use Rattle.act_model.specs.Sound.{RowSound, LinesSound, IsHeld, IsLive, MayMake, MayAdd, MayRename, EndedMove, IsSound}
use Rattle.act_model.specs.Event.{IsEvent}
use Rattle.act_model.proofs.TailLaws.{Gain, no_gain, one_gain, RowTail, same_tail, tails_sound, tails_follow, at_bytes}
use Rattle.act_model.proofs.ChangeLaws.{at_row}
use Rattle.act_model.proofs.StepLaws.{Acts-sound, Ends-sound, own_change}

pub all_fewer : (moves : FinMap nat_cmp MoveState) (n : ℕ) (move : MoveState) → get (all_go moves) n ≡ Some move → get moves n ≡ Some move
all_fewer moves n move here = here

-- REGISTER

pub same_bytes-refl : (xs : List ℕ) → same_bytes xs xs ≡ true
same_bytes-refl [] = refl
same_bytes-refl (x ∷ xs) = let one : (x == x) ≡ true = grind (arith, nat_tests) in rw one (same_bytes-refl xs)

pub same_bytes_is : (a b : List ℕ) → same_bytes a b ≡ true → a ≡ b
same_bytes_is [] [] same = refl
same_bytes_is [] (y ∷ ys) same = absurd cc
same_bytes_is (x ∷ xs) [] same = absurd cc
same_bytes_is (x ∷ xs) (y ∷ ys) same = by_head (x == y) refl same (same_bytes_is xs ys)
  where
    by_head : (b : Bool) → (x == y) ≡ b → (b && same_bytes xs ys) ≡ true → (same_bytes xs ys ≡ true → xs ≡ ys) → (x ∷ xs) ≡ (y ∷ ys)
    by_head true is rest more = let head : x ≡ y = grind (arith, nat_tests) in let tail = more rest in cc
    by_head false is rest more = absurd cc

place_none : (p : RowState → Bool) (i : ℕ) (rows : List RowState) (j : ℕ) (row : RowState) → place p i rows ≡ None → slice_get rows j ≡ Some row → p row ≡ false
place_none p i [] j row none here = absurd cc
place_none p i (x ∷ rows) j row none here = by_test (p x) refl j here none (λ k there more. place_none p (i + 1) rows k row more there)
  where
    by_test : (b : Bool) → p x ≡ b → (j : ℕ) → slice_get (x ∷ rows) j ≡ Some row → cond b (Some i) (place p (i + 1) rows) ≡ None → ((k : ℕ) → slice_get rows k ≡ Some row → place p (i + 1) rows ≡ None → p row ≡ false) → p row ≡ false
    by_test true is j here none more = absurd cc
    by_test false is zero here none more = let same : x ≡ row = cc in subst (λ r. p r ≡ false) same is
    by_test false is (suc j) here none more = more j here none

abbrev full_at : Bool → Option Reply
full_at b = if b then Some CatalogueFull else None

pub register_may : (name : List ℕ) (m : Machine) → register_refused name m ≡ None → MayAdd m.rows name
register_may name m none = by_name (find_row m name) refl none
  where
    by_room : (b : Bool) → nat_le 65536 (length m.rows) ≡ b → (with_key m name ≡ None) → full_at b ≡ None → MayAdd m.rows name
    by_room true is no_key none = absurd cc
    by_room false is no_key none =
        record {
          room = grind (arith, nat_tests);
          free = λ i row here same.
              let apart : same_bytes (key_of row.name) (key_of name) ≡ false = place_none (λ r. same_bytes (key_of r.name) (key_of name)) 0 m.rows i row no_key here in
              let equal : same_bytes (key_of row.name) (key_of name) ≡ true = ap (λ w. same_bytes w (key_of name)) same ∙ same_bytes-refl (key_of name) in
              cc;
        }

    by_key : (o : Option ℕ) → with_key m name ≡ o → find_row m name ≡ None → register_refused name m ≡ None → MayAdd m.rows name
    by_key (Some i) is no_name none = absurd (let bad = rw (no_name, is) at none in cc)
    by_key None is no_name none = by_room (nat_le 65536 (length m.rows)) refl is (rw (no_name, is) at none)

    by_name : (o : Option ℕ) → find_row m name ≡ o → register_refused name m ≡ None → MayAdd m.rows name
    by_name (Some i) is none = absurd (let bad = rw is at none in cc)
    by_name None is none = by_key (with_key m name) refl is none

pub register_sound : (name : List ℕ) (about : About) (old new : Machine) (answer : Reply) → IsSound old → RegisterStep name about old answer new → IsSound new
register_sound name about old new answer s step =
    Acts-sound (register_refused name) (Registers name about) (λ m. Some (AddsRow name about)) all_go all_fewer
    (λ mid answer new s none free ran. own_change mid new [] (AddsRow name about) s none (register_may name mid free) tt refl ran.1)
    (λ mid one s none free is. let same : AddsRow name about ≡ one = cc in subst (λ c. MayMake mid.rule mid.told mid.rows mid.limbo c × EndedMove mid.moves c) same (register_may name mid free, tt))
    s step

-- PAUSE AND RESUME

-- a row that is paused or resumed isn't retired
pub state_live : (wrong : State → Option Reply) → (wrong Retired ≡ None → ⊥) → (name : List ℕ) (m : Machine) → state_refused wrong name m ≡ None → (i : ℕ) → find_row m name ≡ Some i → IsLive m.rows i
state_live wrong never name m none i found = λ row here gone. (let free : wrong row.state ≡ None = rw (found, here) at none in never (sym (ap wrong gone) ∙ free))

pub sets_may : (to : State) (mid : Machine) (o : Option ℕ) (one : Change) → ((i : ℕ) → o ≡ Some i → IsLive mid.rows i) → sets_of to o ≡ Some one → MayMake mid.rule mid.told mid.rows mid.limbo one × EndedMove mid.moves one
sets_may to mid (Some i) one live is = let same : SetsState i to ≡ one = cc in subst (λ c. MayMake mid.rule mid.told mid.rows mid.limbo c × EndedMove mid.moves c) same (live i refl, tt)
sets_may to mid None one live is = absurd cc

pub state_sound : (wrong : State → Option Reply) (to : State) → (wrong Retired ≡ None → ⊥) → (name : List ℕ) (old new : Machine) (answer : Reply) → IsSound old → StateStep wrong to name old answer new → IsSound new
state_sound wrong to never name old new answer s step =
    Acts-sound (state_refused wrong name) (Sets to name) (λ m. sets_of to (find_row m name)) all_go all_fewer
    (λ mid answer new s none free ran. own_change mid new [] (SetsState ran.1.0 to) s none (state_live wrong never name mid free ran.1.0 ran.1.1) tt refl ran.1.2)
    (λ mid one s none free is. sets_may to mid (find_row mid name) one (state_live wrong never name mid free) is)
    s step

-- RENAME

pub paused_is : (s : State) → is_paused s ≡ true → s ≡ Paused
paused_is Running is = absurd cc
paused_is Paused is = refl
paused_is Retired is = absurd cc

pub none_is : (xs : List Sample) → is_empty xs ≡ true → xs ≡ []
none_is [] is = refl
none_is (s ∷ xs) is = absurd cc

pub rename_may : (changed : ℕ) (found : Option ℕ) (name newname : List ℕ) (m : Machine) → rename_refused changed found name newname m ≡ None → (i : ℕ) → find_row m name ≡ Some i → MayRename m.rows i newname
rename_may changed found name newname m none i here = by_row (slice_get m.rows i) refl
  where
    one_row : (row other : RowState) → slice_get m.rows i ≡ Some row → slice_get m.rows i ≡ Some other → row ≡ other
    one_row row other there there' = by_some (sym there ∙ there')
      where
        by_some : {a b : RowState} → Some a ≡ Some b → a ≡ b
        by_some is = cc

    by_tail : (row : RowState) → slice_get m.rows i ≡ Some row → is_paused row.state ≡ true → register_refused newname m ≡ None → (b : Bool) → is_empty row.tail ≡ b → MayRename m.rows i newname
    by_tail row there is free true empty =
        record {
          add = register_may newname m free;
          paused = λ other there'. let same = one_row row other there there' in subst (λ (r : RowState). r.state ≡ Paused) same (paused_is row.state is);
          none = λ other there'. let same = one_row row other there there' in subst (λ (r : RowState). r.tail ≡ []) same (none_is row.tail empty);
        }
    by_tail row there is free false some = absurd (let bad = rw (here, there, is, free, some) at none in cc)

    by_newname : (row : RowState) → slice_get m.rows i ≡ Some row → is_paused row.state ≡ true → (o : Option Reply) → register_refused newname m ≡ o → MayRename m.rows i newname
    by_newname row there is None free = by_tail row there is free (is_empty row.tail) refl
    by_newname row there is (Some reply) taken = absurd (let bad = rw (here, there, is, taken) at none in cc)

    by_paused : (row : RowState) → slice_get m.rows i ≡ Some row → (b : Bool) → is_paused row.state ≡ b → MayRename m.rows i newname
    by_paused row there true is = by_newname row there is (register_refused newname m) refl
    by_paused row there false is = absurd (let bad = rw (here, there, is) at none in cc)

    by_row : (o : Option RowState) → slice_get m.rows i ≡ o → MayRename m.rows i newname
    by_row (Some row) there = by_paused row there (is_paused row.state) refl
    by_row None gone = absurd (let bad = rw (here, gone) at none in cc)

pub renames_may : (newname : List ℕ) (mid : Machine) (o : Option ℕ) (one : Change) → ((i : ℕ) → o ≡ Some i → MayRename mid.rows i newname) → renames_of newname o ≡ Some one → MayMake mid.rule mid.told mid.rows mid.limbo one × EndedMove mid.moves one
renames_may newname mid (Some i) one may is = let same : Renames i newname ≡ one = cc in subst (λ c. MayMake mid.rule mid.told mid.rows mid.limbo c × EndedMove mid.moves c) same (may i refl, tt)
renames_may newname mid None one may is = absurd cc

pub rename_sound : (name newname : List ℕ) (old new : Machine) (answer : Reply) → IsSound old → RenameStep name newname old answer new → IsSound new
rename_sound name newname old new answer s step =
    let changed = changed_within name old in
    Acts-sound (rename_refused changed step.0 name newname) (IsRenamed name newname) (λ m. renames_of newname (find_row m name)) all_go all_fewer
    (λ mid answer new s none free ran. own_change mid new [] (Renames ran.1.0 newname) s none (rename_may changed step.0 name newname mid free ran.1.0 ran.1.1) tt refl ran.1.2)
    (λ mid one s none free is. renames_may newname mid (find_row mid name) one (rename_may changed step.0 name newname mid free) is)
    s step.1

-- FLUSH

nat_eq-is : (i j : ℕ) → nat_eq i j ≡ true → i ≡ j
nat_eq-is i j is = grind (arith, nat_tests)

-- a batch of rows from k on has nothing of a row before
pub before_batch : (limit : ℕ) (rows : List RowState) (k taken i : ℕ) → i < k → of_row i (batch_from limit rows k taken) ≡ []
before_batch limit [] k taken i low = refl
before_batch limit (row ∷ rows) k taken i low = by_tests (nat_le limit taken) (is_empty row.tail) (nat_eq k i) refl (before_batch limit rows (k + 1) taken i (omega arith)) (before_batch limit rows (k + 1) (taken + size_of row.tail) i (omega arith))
  where
    by_tests : (b c d : Bool) → nat_eq k i ≡ d → of_row i (batch_from limit rows (k + 1) taken) ≡ [] → of_row i (batch_from limit rows (k + 1) (taken + size_of row.tail)) ≡ []
        → of_row i (cond b [] (cond c (batch_from limit rows (k + 1) taken) (record { row = k; samples = row.tail } ∷ batch_from limit rows (k + 1) (taken + size_of row.tail)))) ≡ []
    by_tests true c d is skip more = refl
    by_tests false true d is skip more = skip
    by_tests false false true is skip more = absurd (let same = nat_eq-is k i is in omega arith)
    by_tests false false false is skip more = rw is more

-- a batch has the whole tail of a row, or nothing of it
pub data OfTail (row : RowState) (xs : List Sample) : Type 0 where
  whole : xs ≡ row.tail → OfTail row xs
  nothing : xs ≡ [] → OfTail row xs

pub batch_tails : (limit : ℕ) (rows : List RowState) (k taken i : ℕ) (row : RowState) → slice_get rows i ≡ Some row → OfTail row (of_row (k + i) (batch_from limit rows k taken))
batch_tails limit [] k taken i row here = absurd cc
batch_tails limit (x ∷ rows) k taken i row here = by_tests (nat_le limit taken) (is_empty x.tail) refl i here (λ j t there. batch_tails limit rows (k + 1) t j row there)
  where
    empty_tail : (xs : List Sample) → is_empty xs ≡ true → xs ≡ []
    empty_tail [] is = refl
    empty_tail (s ∷ xs) is = absurd cc

    by_tests : (b c : Bool) → is_empty x.tail ≡ c → (i : ℕ) → slice_get (x ∷ rows) i ≡ Some row → ((j t : ℕ) → slice_get rows j ≡ Some row → OfTail row (of_row ((k + 1) + j) (batch_from limit rows (k + 1) t)))
        → OfTail row (of_row (k + i) (cond b [] (cond c (batch_from limit rows (k + 1) taken) (record { row = k; samples = x.tail } ∷ batch_from limit rows (k + 1) (taken + size_of x.tail)))))
    by_tests true c is i here more = nothing refl
    by_tests false true is zero here more =
        let same : x ≡ row = cc in
        let plain : k + 0 ≡ k = omega arith in
        whole (ap (λ n. of_row n (batch_from limit rows (k + 1) taken)) plain ∙ (before_batch limit rows (k + 1) taken k (omega arith) ∙ sym (empty_tail row.tail (subst (λ r. is_empty r.tail ≡ true) same is))))
    by_tests false true is (suc i) here more = let next : (k + 1) + i ≡ k + suc i = omega arith in subst (λ n. OfTail row (of_row n (batch_from limit rows (k + 1) taken))) next (more i taken here)
    by_tests false false is zero here more =
        let same : x ≡ row = cc in
        let own : nat_eq k (k + 0) ≡ true = grind (arith, nat_tests) in
        let plain : k ≡ k + 0 = omega arith in
        let rest : of_row (k + 0) (batch_from limit rows (k + 1) (taken + size_of x.tail)) ≡ [] = ap (λ n. of_row n (batch_from limit rows (k + 1) (taken + size_of x.tail))) (sym plain) ∙ before_batch limit rows (k + 1) (taken + size_of x.tail) k (omega arith) in
        whole (rw own (ap (λ w. x.tail ++ w) rest ∙ (append-nil x.tail ∙ ap (λ (r : RowState). r.tail) same)))
    by_tests false false is (suc i) here more =
        let other : nat_eq k (k + suc i) ≡ false = grind (arith, nat_tests) in
        let next : (k + 1) + i ≡ k + suc i = omega arith in
        rw other (subst (λ n. OfTail row (of_row n (batch_from limit rows (k + 1) (taken + size_of x.tail)))) next (more i (taken + size_of x.tail) here))

pub flush_may : (limit : ℕ) (m : Machine) → MayMake m.rule m.told m.rows m.limbo (Appends (batch_of limit m))
flush_may limit m = λ i row here. let plain : 0 + i ≡ i = omega arith in by_tail i row (subst (λ n. OfTail row (of_row n (batch_of limit m))) plain (batch_tails limit m.rows 0 0 i row here))
  where
    by_tail : (i : ℕ) (row : RowState) → OfTail row (of_row i (batch_of limit m)) → (rest : List Sample) × (row.tail ≡ of_row i (batch_of limit m) ++ rest)
    by_tail i row (whole is) = ([], sym is ∙ sym (append-nil (of_row i (batch_of limit m))))
    by_tail i row (nothing is) = (row.tail, rw is refl)

pub flush_sound : (limit : ℕ) (old new : Machine) (answer : Reply) → IsSound old → FlushStep limit old answer new → IsSound new
flush_sound limit old new answer s step =
    Acts-sound (λ m. None) (Flushes limit) (λ m. Some (Appends (batch_of limit m))) all_go all_fewer
    (λ mid answer new s none free ran. own_change mid new [] (Appends (batch_of limit mid)) s none (flush_may limit mid) tt refl ran.1)
    (λ mid one s none free is. let same : Appends (batch_of limit mid) ≡ one = cc in subst (λ c. MayMake mid.rule mid.told mid.rows mid.limbo c × EndedMove mid.moves c) same (flush_may limit mid, tt))
    s step

-- OFFER AND TICK

pub gains_tail : (told : Bool) (row : RowState) (s : Sample) → RowSound told row → LinesSound row → IsEvent row.about.ty s → is_running row.state ≡ true → row.next ≤ s.t → RowTail told row (gains s row)
gains_tail told row s sound lines event up late =
    let p = end_of (durable row) in
    let bound : end_from p row.tail ≤ row.next = sound.next in
    let ends : end_from p (row.tail ++ s ∷ []) ≡ s.t + 1 = end_from-append p row.tail (s ∷ []) in
    record {
      short = refl;
      medium = refl;
      long = refl;
      name = refl;
      about = refl;
      state = refl;
      base = refl;
      gain = one_gain s up late refl refl;
      more = (s ∷ [], refl);
      sound = record { short = sound.short; medium = sound.medium; long = sound.long; later = RisesFrom-append p row.tail (s ∷ []) sound.later (omega arith, tt); next = omega arith };
      lines = record { tail = more_lines row.tail lines.tail; held = lines.held };
    }
  where
    more_lines : (xs : List Sample) → AllByRecursion (IsEvent row.about.ty) xs → AllByRecursion (IsEvent row.about.ty) (xs ++ s ∷ [])
    more_lines [] all = (event, tt)
    more_lines (x ∷ xs) all = (all.0, more_lines xs all.1)

held_tail : (told : Bool) (row : RowState) (s : Sample) → RowSound told row → LinesSound row → IsEvent row.about.ty s → RowTail told row (with_held s row)
held_tail told row s sound lines event =
    record {
      short = refl;
      medium = refl;
      long = refl;
      name = refl;
      about = refl;
      state = refl;
      base = refl;
      gain = no_gain refl refl;
      more = ([], sym (append-nil row.tail));
      sound = record { short = sound.short; medium = sound.medium; long = sound.long; later = sound.later; next = sound.next };
      lines = record { tail = lines.tail; held = event };
    }

moved_gain : (row new : RowState) (period now : ℕ) → Gain row new → Gain row (moved_on period now new)
moved_gain row new period now (no_gain tail next) = no_gain tail next
moved_gain row new period now (one_gain s up late tail next) = one_gain s up late tail next

-- a row that ticked
moved_tail : (told : Bool) (row new : RowState) (period now : ℕ) → RowTail told row new → RowTail told row (moved_on period now new)
moved_tail told row new period now t =
    record {
      short = t.short;
      medium = t.medium;
      long = t.long;
      name = t.name;
      about = t.about;
      state = t.state;
      base = t.base;
      gain = moved_gain row new period now t.gain;
      more = t.more;
      sound = record { short = t.sound.short; medium = t.sound.medium; long = t.sound.long; later = t.sound.later; next = t.sound.next };
      lines = record { tail = t.lines.tail; held = by_due (nat_le new.cell.due now) };
    }
  where
    by_due : (b : Bool) → IsHeld new.about.ty (cond b (record { held = None; due = min (now + period) (2 ^ 64 - 1) }) new.cell).held
    by_due true = tt
    by_due false = t.lines.held

-- one row of a sound machine changes so, and the others stay
at_tails : (m : Machine) (i : ℕ) (f : RowState → RowState) (row : RowState) → IsSound m → slice_get m.rows i ≡ Some row → RowTail m.told row (f row) → (j : ℕ) (other : RowState) → slice_get m.rows j ≡ Some other → RowTail m.told other (at i f j other)
at_tails m i f row s here tail j other there =
    at_row i j f other (λ r. RowTail m.told other r) (same_tail m.told other (s.each_row j other there) (s.lines j other there))
    (λ is. let same : row ≡ other = by_some (sym here ∙ (ap (λ n. slice_get m.rows n) (sym is) ∙ there)) in subst (λ r. RowTail m.told r (f r)) same tail)
  where
    by_some : {a b : RowState} → Some a ≡ Some b → a ≡ b
    by_some is = cc

-- what an offer or a tick comes to: all stays, or one row's tail and held sample change
pub data RowAct (m : Machine) : Outcome → Type 0 where
  stays_act : (answer : Reply) → RowAct m (record { answer = answer; after = m })
  row_act : (answer : Reply) (i : ℕ) (f : RowState → RowState) (row : RowState) → slice_get m.rows i ≡ Some row → RowTail m.told row (f row) → held_bytes (each (at i f) 0 m.rows) ≤ 67108864 → RowAct m (record { answer = answer; after = with_rows m (at i f) })

pub act_sound : (m : Machine) (end : Outcome) → IsSound m → RowAct m end → IsSound end.after
act_sound m end s (stays_act answer) = s
act_sound m end s (row_act answer i f row here tail bytes) = tails_sound m (at i f) s (at_tails m i f row s here tail) bytes

pub act_follows : (m : Machine) (end : Outcome) → IsSound m → RowAct m end → m.told ≡ true → AllFollow accepted m.rows → AllFollow accepted end.after.rows
act_follows m end s (stays_act answer) t f = f
act_follows m end s (row_act answer i f row here tail bytes) t follows = tails_follow m (at i f) s (at_tails m i f row s here tail) bytes t follows

pub append_bytes : (xs : List Sample) (s : Sample) → size_of (xs ++ s ∷ []) ≡ size_of xs + (length s.line + 1)
append_bytes [] s = omega arith
append_bytes (x ∷ xs) s = let more = append_bytes xs s in omega arith

-- what is tried and kept is later than all that was accepted, and there is room for it
pub tried_is : (P : Outcome → Type 0) (m : Machine) (row : RowState) (s : Sample) (now : ℕ) (kept : Outcome) → ((reason : Reason) → P (record { answer = Dropped reason; after = m })) → P (record { answer = IntakeFull (held_bytes m.rows); after = m })
    → (row.next ≤ s.t → held_bytes m.rows + (length s.line + 1) ≤ intake_room → P kept) → P (tried m row s now kept)
tried_is P m row s now kept dropped full good = by_reason (refused_by_time row.next s.t now) refl
  where
    by_room : (b : Bool) → nat_lt intake_room (held_bytes m.rows + (length s.line + 1)) ≡ b → refused_by_time row.next s.t now ≡ None → P (if b then record { answer = IntakeFull (held_bytes m.rows); after = m } else kept)
    by_room true is none = full
    by_room false is none = good (grind (arith, nat_tests)) (grind (arith, nat_tests))

    by_reason : (o : Option Reason) → refused_by_time row.next s.t now ≡ o → P (tried m row s now kept)
    by_reason (Some reason) is = rw is (dropped reason)
    by_reason None is = rw is (by_room (nat_lt intake_room (held_bytes m.rows + (length s.line + 1))) refl is)

-- the type of a number
abbrev pub types : List PayloadType
types = ScalarString ∷ ScalarShort ∷ ScalarFloat ∷ ScalarEnum ∷ ScalarByte ∷ ScalarInt ∷ ScalarDouble ∷ WaveformString ∷ WaveformShort ∷ WaveformFloat ∷ WaveformEnum ∷ WaveformByte ∷ WaveformInt ∷ WaveformDouble ∷ []

pub own_number : (ty : PayloadType) → slice_get types (number_of ty) ≡ Some ty
own_number ScalarString = refl
own_number ScalarShort = refl
own_number ScalarFloat = refl
own_number ScalarEnum = refl
own_number ScalarByte = refl
own_number ScalarInt = refl
own_number ScalarDouble = refl
own_number WaveformString = refl
own_number WaveformShort = refl
own_number WaveformFloat = refl
own_number WaveformEnum = refl
own_number WaveformByte = refl
own_number WaveformInt = refl
own_number WaveformDouble = refl

pub one_type : (a b : PayloadType) → number_of a ≡ number_of b → a ≡ b
one_type a b same = by_some (sym (own_number a) ∙ (ap (λ n. slice_get types n) same ∙ own_number b))
  where
    by_some : Some a ≡ Some b → a ≡ b
    by_some is = cc

-- the first three reasons don't apply: the type is the row's
right_type : (row : RowState) (ty : PayloadType) → refused_by_row (Some (standing row)) (number_of ty) ≡ None → row.about.ty ≡ ty
right_type row ty none = by_running (is_running row.state) refl none
  where
    by_type : (b : Bool) → (number_of row.about.ty == number_of ty) ≡ b → is_running row.state ≡ true → refused_by_row (Some (standing row)) (number_of ty) ≡ None → row.about.ty ≡ ty
    by_type true is up none = one_type row.about.ty ty (grind (arith, nat_tests))
    by_type false is up none = absurd (let bad = rw (up, is) at none in cc)

    by_running : (b : Bool) → is_running row.state ≡ b → refused_by_row (Some (standing row)) (number_of ty) ≡ None → row.about.ty ≡ ty
    by_running true is none = by_type (number_of row.about.ty == number_of ty) refl is none
    by_running false is none = absurd (let bad = rw is at none in cc)

is_up : (row : RowState) (ty : PayloadType) → refused_by_row (Some (standing row)) (number_of ty) ≡ None → is_running row.state ≡ true
is_up row ty none = by_running (is_running row.state) refl
  where
    by_running : (b : Bool) → is_running row.state ≡ b → is_running row.state ≡ true
    by_running true is = is
    by_running false is = absurd (let bad = rw is at none in cc)

pub gains_bytes : (m : Machine) (i : ℕ) (f : RowState → RowState) (s : Sample) → ((row : RowState) → (f row).tail ≡ row.tail ++ s ∷ []) → held_bytes m.rows + (length s.line + 1) ≤ intake_room → held_bytes (each (at i f) 0 m.rows) ≤ 67108864
gains_bytes m i f s is fits = let more = at_bytes i 0 f m.rows (length s.line + 1) (λ row. let one = append_bytes row.tail s in let same = ap size_of (is row) in omega arith) in omega arith

pub same_bytes_at : (m : Machine) (i : ℕ) (f : RowState → RowState) → ((row : RowState) → (f row).tail ≡ row.tail) → held_bytes m.rows ≤ 67108864 → held_bytes (each (at i f) 0 m.rows) ≤ 67108864
same_bytes_at m i f is fits = let more = at_bytes i 0 f m.rows 0 (λ row. let same = ap size_of (is row) in omega arith) in omega arith

offered_to_act : (m : Machine) (i : ℕ) (row : RowState) (ty : PayloadType) (s : Sample) (now : ℕ) → IsSound m → slice_get m.rows i ≡ Some row → IsEvent ty s → RowAct m (offered_to m i row ty s now)
offered_to_act m i row ty s now sound here event = by_reason (refused_by_row (Some (standing row)) (number_of ty)) refl
  where
    by_method : (d : Method) → row.about.method ≡ d → refused_by_row (Some (standing row)) (number_of ty) ≡ None → RowAct m (offered_to m i row ty s now)
    by_method Monitor is none =
        let own : IsEvent row.about.ty s = subst (λ w. IsEvent w s) (sym (right_type row ty none)) event in
        rw (none, is) (tried_is (λ o. RowAct m o) m row s now (record { answer = Kept; after = with_rows m (at i (gains s)) }) (λ reason. stays_act (Dropped reason)) (stays_act (IntakeFull (held_bytes m.rows)))
        (λ late fits. row_act Kept i (gains s) row here (gains_tail m.told row s (sound.each_row i row here) (sound.lines i row here) own (is_up row ty none) late) (gains_bytes m i (gains s) s (λ r. refl) fits)))
    by_method (Scan period) is none =
        let own : IsEvent row.about.ty s = subst (λ w. IsEvent w s) (sym (right_type row ty none)) event in
        rw (none, is) (row_act Held i (with_held s) row here (held_tail m.told row s (sound.each_row i row here) (sound.lines i row here) own) (same_bytes_at m i (with_held s) (λ r. refl) sound.intake))

    by_reason : (o : Option Reason) → refused_by_row (Some (standing row)) (number_of ty) ≡ o → RowAct m (offered_to m i row ty s now)
    by_reason (Some reason) is = rw is (stays_act (Dropped reason))
    by_reason None is = by_method row.about.method refl is

pub offered_act : (m : Machine) (name : List ℕ) (ty : PayloadType) (s : Sample) (now : ℕ) → IsSound m → IsEvent ty s → RowAct m (offered m name ty s now)
offered_act m name ty s now sound event = by_name (find_row m name) refl
  where
    by_row : (i : ℕ) → (o : Option RowState) → slice_get m.rows i ≡ o → find_row m name ≡ Some i → RowAct m (offered m name ty s now)
    by_row i None none is = rw (is, none) (stays_act (Dropped Unknown))
    by_row i (Some row) here is = rw (is, here) (offered_to_act m i row ty s now sound here event)

    by_name : (o : Option ℕ) → find_row m name ≡ o → RowAct m (offered m name ty s now)
    by_name None is = rw is (stays_act (Dropped Unknown))
    by_name (Some i) is = by_row i (slice_get m.rows i) refl is

pub offer_sound : (name : List ℕ) (ty : PayloadType) (s : Sample) (now : ℕ) (old new : Machine) (answer : Reply) → IsSound old → IsEvent ty s → OfferStep name ty s now old answer new → IsSound new
offer_sound name ty s now old new answer sound event step = Ends-sound (offered old name ty s now) old new answer sound (act_sound old (offered old name ty s now) sound (offered_act old name ty s now sound event)) step

ticked_due_act : (m : Machine) (i : ℕ) (row : RowState) (period now : ℕ) → IsSound m → slice_get m.rows i ≡ Some row → is_running row.state ≡ true → RowAct m (ticked_due m i row period now)
ticked_due_act m i row period now sound here up = by_held row.cell.held refl
  where
    moves : (answer : Reply) → RowAct m (record { answer = answer; after = with_rows m (at i (moved_on period now)) })
    moves answer = row_act answer i (moved_on period now) row here (moved_tail m.told row row period now (same_tail m.told row (sound.each_row i row here) (sound.lines i row here))) (same_bytes_at m i (moved_on period now) (λ r. refl) sound.intake)

    keeps : (s : Sample) → row.cell.held ≡ Some s → row.next ≤ s.t → held_bytes m.rows + (length s.line + 1) ≤ intake_room → RowAct m (record { answer = TickKept s.t; after = with_rows m (at i (λ r. moved_on period now (gains s r))) })
    keeps s is late fits =
        let lines = sound.lines i row here in
        let event : IsEvent row.about.ty s = subst (λ o. IsHeld row.about.ty o) is lines.held in
        row_act (TickKept s.t) i (λ r. moved_on period now (gains s r)) row here (moved_tail m.told row (gains s row) period now (gains_tail m.told row s (sound.each_row i row here) lines event up late)) (gains_bytes m i (λ r. moved_on period now (gains s r)) s (λ r. refl) fits)

    by_reason : (s : Sample) → row.cell.held ≡ Some s → (o : Option Reason) → refused_by_time row.next s.t now ≡ o → RowAct m (ticked_due m i row period now)
    by_reason s is (Some reason) why = rw (is, why) (moves (Dropped reason))
    by_reason s is None why = by_room (nat_lt intake_room (held_bytes m.rows + (length s.line + 1))) refl
      where
        by_room : (b : Bool) → nat_lt intake_room (held_bytes m.rows + (length s.line + 1)) ≡ b → RowAct m (ticked_due m i row period now)
        by_room true full = rw (is, why, full) (stays_act (IntakeFull (held_bytes m.rows)))
        by_room false full = rw (is, why, full) (keeps s is (late_of row.next s.t now why) (grind (arith, nat_tests)))
          where
            late_of : (n t now : ℕ) → refused_by_time n t now ≡ None → n ≤ t
            late_of n t now why = grind (arith, nat_tests)

    by_held : (o : Option Sample) → row.cell.held ≡ o → RowAct m (ticked_due m i row period now)
    by_held None is = rw is (moves TickNone)
    by_held (Some s) is = by_reason s is (refused_by_time row.next s.t now) refl

pub ticked_act : (m : Machine) (i now : ℕ) → IsSound m → RowAct m (ticked m i now)
ticked_act m i now sound = by_row (slice_get m.rows i) refl
  where
    by_due : (row : RowState) (period : ℕ) → slice_get m.rows i ≡ Some row → period_of row.about.method ≡ Some period → is_running row.state ≡ true → (b : Bool) → nat_le row.cell.due now ≡ b → RowAct m (ticked m i now)
    by_due row period here is up true due = rw (here, is, up, due) (ticked_due_act m i row period now sound here up)
    by_due row period here is up false due = rw (here, is, up, due) (stays_act (NotDue row.cell.due))

    by_state : (row : RowState) (period : ℕ) → slice_get m.rows i ≡ Some row → period_of row.about.method ≡ Some period → (b : Bool) → is_running row.state ≡ b → RowAct m (ticked m i now)
    by_state row period here is true up = by_due row period here is up (nat_le row.cell.due now) refl
    by_state row period here is false up = rw (here, is, up) (stays_act TickNone)

    by_period : (row : RowState) → slice_get m.rows i ≡ Some row → (o : Option ℕ) → period_of row.about.method ≡ o → RowAct m (ticked m i now)
    by_period row here None is = rw (here, is) (stays_act TickNone)
    by_period row here (Some period) is = by_state row period here is (is_running row.state) refl

    by_row : (o : Option RowState) → slice_get m.rows i ≡ o → RowAct m (ticked m i now)
    by_row None none = rw none (stays_act NoRow)
    by_row (Some row) here = by_period row here (period_of row.about.method) refl

pub tick_sound : (i now : ℕ) (old new : Machine) (answer : Reply) → IsSound old → TickStep i now old answer new → IsSound new
tick_sound i now old new answer sound step = Ends-sound (ticked old i now) old new answer sound (act_sound old (ticked old i now) sound (ticked_act old i now sound)) step
