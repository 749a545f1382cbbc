-- An entry of the intake keeps what the two histories have to say to one another.
use Rattle.std.proofs.Common.{◌≡◌, ℕ, ◌+◌, ◌≤◌, List, [], ◌∷◌, ◌++◌, length, take, drop, Some, ap, sym, ◌∙◌, subst, arith, inl, inr, append_assoc}
use Rattle.std.specs.Prelude.{◌⊎◌, slice_get}
use Rattle.std.specs.List.{AllByRecursion}
use Rattle.std.proofs.lemmas.List.{take-append-drop}
use Rattle.closed_pairs.proofs.Cuts.{FrontOfMore, shorter, whole, front_of_more, cut_of_take}
use Rattle.series_model.specs.declared.sample.Sample.{Sample}
use Rattle.series_model.specs.Archive.{IsPrefix}
use Rattle.series_model.specs.Series.{IsRising, over, end_of}
use Rattle.series_model.proofs.RisingLists.{rises_more}
use Rattle.two_histories.specs.Histories.{left_by}
use Rattle.two_histories.proofs.Halves.{left_by_more, WasAccepted}
use Rattle.two_histories.proofs.Lists.{IsTail, prefix_same, prefix_of, prefix_through, prefix_rises, prefix_end, tail_trimmed, tail_more}
use Rattle.two_histories.specs.ArchiveIntake.{IntakeHalf, IntakeRow, known_at, tail_at}
use Rattle.two_histories.specs.IntakeStep.{IntakePart, Offers, Ticks, LooksForDoors, LooksForBatch, LooksAt, Takes, TakesFlush, IntakeEntry, told_rows}
use Rattle.two_histories.specs.ArchiveStore.{StoreHalf, StoreRow, RegisteredRow, registered, durable_at, doubted}
use Rattle.two_histories.specs.StoreStep.{StoreEntry}
use Rattle.two_histories.specs.ArchiveHistories.{IntakeAllowed, Once, WasRegistered, IntakeFits, intake_knows, added, first_accepted}
use Rattle.two_histories.proofs.IntakeLaws.{IntakeSound, RowDid, did_stay, did_gain, did_trim, AboutFrom, about_was, about_told, StateFrom, state_was, state_told, trims, IntakeDid, intake_did}
use Rattle.two_histories.proofs.ArchiveJoined.{A, T, D, Legal, accepted_more, KnowsRows, WasAt, IsIdle, IsJoined}
use Rattle.two_histories.proofs.Stepping.{IsClosedAt}
use Rattle.two_histories.proofs.Telling.{store_told, told_row}

-- what a step leaves of a row
record RowKeeps (durable accepted more left : List Sample) : Type 0 where
  grows : IsPrefix accepted more
  rising : IsRising more
  is_tail : IsTail durable more left

row_keeps : (n : ℕ) (durable accepted tail more left : List Sample) → n ≤ end_of durable → IsRising accepted → IsTail durable accepted tail → RowDid n accepted tail more left → RowKeeps durable accepted more left
row_keeps n durable accepted tail more left low rising is (did_stay a t) =
    record { grows = prefix_of accepted more (sym a); rising = subst IsRising (sym a) rising; is_tail = subst (λ w. IsTail durable w left) (sym a) (subst (λ w. IsTail durable accepted w) (sym t) is) }
row_keeps n durable accepted tail more left low rising is (did_gain s a t late) =
    record { grows = (s ∷ [], a); rising = subst IsRising (sym a) ((rises_more accepted s).1 (rising, late)); is_tail = subst (λ w. IsTail durable w left) (sym a) (subst (λ w. IsTail durable (accepted ++ s ∷ []) w) (sym t) (tail_more durable accepted tail s is)) }
row_keeps n durable accepted tail more left low rising is (did_trim a t) =
    record { grows = prefix_of accepted more (sym a); rising = subst IsRising (sym a) rising; is_tail = subst (λ w. IsTail durable w left) (sym a) (subst (λ w. IsTail durable accepted w) (sym t) (tail_trimmed durable accepted tail n low rising is)) }

module _ (s0 : StoreHalf) (i0 : IntakeHalf) where
  -- an end that was of what is durable once is no later than what is durable now
  end_was : (s front : List StoreEntry) (i : List IntakeEntry) (r n : ℕ) → IsJoined s0 i0 s i → IsPrefix front s → n ≡ end_of (D s0 i0 front r) → n ≤ end_of (D s0 i0 s r)
  end_was s front i r n j p is =
      let rises = prefix_rises (D s0 i0 s r) (A s0 i0 i r) (j.joined.at r).flushed (j.joined.rising r) in
      let up = prefix_end (D s0 i0 front r) (D s0 i0 s r) (j.grown.durable front p r) rises in
      omega arith

  within : (n : ℕ) (front s : List StoreEntry) → IsPrefix front (take n s) → IsPrefix front s
  within n front s p = prefix_through front (take n s) s p (drop n s, sym (take-append-drop n s))

  named_of : (s : List StoreEntry) (i : List IntakeEntry) (n : ℕ) (part : IntakePart) → Legal s0 i0 s i → IsJoined s0 i0 s i → IntakeAllowed s0 part (take n s) → (r : ℕ) → trims part r ≤ end_of (D s0 i0 s r)
  named_of s i n (Offers act) l j allowed r = omega arith
  named_of s i n (Ticks row now) l j allowed r = omega arith
  named_of s i n LooksForDoors l j allowed r = omega arith
  named_of s i n (LooksForBatch limit) l j allowed r = omega arith
  named_of s i n (LooksAt name) l j allowed r = omega arith
  named_of s i n (Takes ends rows) l j allowed r = by_end (allowed.each_end r)
    where
      by_end : (ends r ≡ 0) ⊎ Once (λ m. ends r ≡ end_of (durable_at m.rows r)) s0 (take n s) → ends r ≤ end_of (D s0 i0 s r)
      by_end (inl none) = omega arith
      by_end (inr once) = end_was s once.0 i r (ends r) j (within n once.0 s once.1) once.2
  named_of s i n (TakesFlush len ends rows) l j allowed r =
      let has = allowed.one in
      let cut = cut_of_take n s has.front has.back has.entry has.is in
      let step = (l.one has.front (has.back ++ drop n s) has.entry cut).0 in
      let told = store_told step has.such.0 ends rows len has.such.1 in
      let after : has.entry.after ≡ left_by s0 (has.front ++ has.entry ∷ []) = sym (left_by_more s0 has.front has.entry) in
      end_was s (has.front ++ has.entry ∷ []) i r (ends r) j (has.back ++ drop n s, cut ∙ sym (append_assoc has.front (has.entry ∷ []) (has.back ++ drop n s))) (told.0 (j.grown.told has.front (has.entry ∷ (has.back ++ drop n s), cut)) r ∙ ap (λ (m : StoreHalf). end_of (durable_at m.rows r)) after)

  -- a row that a Take names is one of the store, and was so once
  pub record ToldRow (s : List StoreEntry) (reg : RegisteredRow) : Type 0 where
    pub row : StoreRow
    pub here : slice_get (left_by s0 s).rows reg.row ≡ Some row
    pub same : (row.about ≡ reg.about) × (row.name ≡ reg.name)
    pub was : WasAt s0 i0 s reg.row reg.changed reg.state

  was_there : (s front : List StoreEntry) (i : List IntakeEntry) (reg : RegisteredRow) → IsJoined s0 i0 s i → IsPrefix front s → WasRegistered reg (left_by s0 front) → ToldRow s reg
  was_there s front i reg j p was =
      let now = j.grown.rows front p reg.row was.0 was.1 in
      record {
        row = now.0;
        here = now.1;
        same = (now.2.about ∙ ap (λ (x : RegisteredRow). x.about) was.2, now.2.name ∙ ap (λ (x : RegisteredRow). x.name) was.2);
        was = record { front = front; before = p; row = was.0; here = was.1; number = ap (λ (x : RegisteredRow). x.changed) was.2; state_is = ap (λ (x : RegisteredRow). x.state) was.2 };
      }

  all_at : (P : RegisteredRow → Type 0) (front back : List RegisteredRow) (reg : RegisteredRow) (rows : List RegisteredRow) → rows ≡ front ++ reg ∷ back → AllByRecursion P rows → P reg
  all_at P front back reg rows is all = at_front front (subst (λ w. AllByRecursion P w) is all)
    where
      at_front : (front : List RegisteredRow) → AllByRecursion P (front ++ reg ∷ back) → P reg
      at_front [] all = all.0
      at_front (x ∷ front) all = at_front front all.1

  none_there : (reg : RegisteredRow) (front back : List RegisteredRow) → [] ≡ front ++ reg ∷ back → ⊥
  none_there reg [] back is = cc
  none_there reg (x ∷ front) back is = cc

  pub told_of : (s : List StoreEntry) (i : List IntakeEntry) (n : ℕ) (part : IntakePart) → Legal s0 i0 s i → IsJoined s0 i0 s i → IntakeAllowed s0 part (take n s) → (reg : RegisteredRow) (front back : List RegisteredRow) → told_rows part ≡ front ++ reg ∷ back → ToldRow s reg
  told_of s i n (Offers act) l j allowed reg front back is = absurd (none_there reg front back is)
  told_of s i n (Ticks row now) l j allowed reg front back is = absurd (none_there reg front back is)
  told_of s i n LooksForDoors l j allowed reg front back is = absurd (none_there reg front back is)
  told_of s i n (LooksForBatch limit) l j allowed reg front back is = absurd (none_there reg front back is)
  told_of s i n (LooksAt name) l j allowed reg front back is = absurd (none_there reg front back is)
  told_of s i n (Takes ends rows) l j allowed reg front back is =
      let once = all_at (λ r. Once (WasRegistered r) s0 (take n s)) front back reg rows is allowed.each_row in
      was_there s once.0 i reg j (within n once.0 s once.1) once.2
  told_of s i n (TakesFlush len ends rows) l j allowed reg front back is =
      let has = allowed.one in
      let cut = cut_of_take n s has.front has.back has.entry has.is in
      let step = (l.one has.front (has.back ++ drop n s) has.entry cut).0 in
      let told = store_told step has.such.0 ends rows len has.such.1 in
      let row = told_row told.1.0 0 has.entry.after.rows front back reg (sym told.1.1 ∙ is) in
      let plain : 0 + row.0 ≡ row.0 = omega arith in
      let own : registered row.0 row.1 ≡ reg = ap (λ k. registered k row.1) (sym plain) ∙ row.3 in
      let at : slice_get has.entry.after.rows reg.row ≡ Some row.1 = ap (λ (x : RegisteredRow). slice_get has.entry.after.rows x.row) (sym own) ∙ row.2 in
      let after : has.entry.after ≡ left_by s0 (has.front ++ has.entry ∷ []) = sym (left_by_more s0 has.front has.entry) in
      let there : slice_get (left_by s0 (has.front ++ has.entry ∷ [])).rows reg.row ≡ Some row.1 = ap (λ (m : StoreHalf). slice_get m.rows reg.row) (sym after) ∙ at in
      let again : registered reg.row row.1 ≡ reg = ap (λ k. registered k row.1) (ap (λ (x : RegisteredRow). x.row) (sym own)) ∙ own in
      was_there s (has.front ++ has.entry ∷ []) i reg j (has.back ++ drop n s, cut ∙ sym (append_assoc has.front (has.entry ∷ []) (has.back ++ drop n s))) (row.1, there, again)

  module _ (s : List StoreEntry) (i : List IntakeEntry) (f : IntakeEntry) (l : Legal s0 i0 s i) (j : IsJoined s0 i0 s i) (low : intake_knows f ≤ length s) (fit : IntakeFits s0 i0 i f (take (intake_knows f) s)) where
    abbrev all : List IntakeEntry
    all = i ++ f ∷ []

    after_is : f.after ≡ left_by i0 all
    after_is = sym (left_by_more i0 i f)

    did : IntakeDid (told_rows f.part) (λ r. trims f.part r) (left_by i0 i) f.after (A s0 i0 i) (λ r. A s0 i0 i r ++ added f.part (left_by i0 i) f.after r)
    did = intake_did fit.0 (A s0 i0 i) (j.joined.sounds i (prefix_same i))

    more_is : (r : ℕ) → A s0 i0 all r ≡ A s0 i0 i r ++ added f.part (left_by i0 i) f.after r
    more_is r = accepted_more (first_accepted s0 i0) i0 i f r

    tail_is : (r : ℕ) → tail_at f.after.rows r ≡ T s0 i0 all r
    tail_is r = ap (λ (m : IntakeHalf). tail_at m.rows r) after_is

    now : (r : ℕ) → RowKeeps (D s0 i0 s r) (A s0 i0 i r) (A s0 i0 all r) (T s0 i0 all r)
    now r =
        let one = row_keeps (trims f.part r) (D s0 i0 s r) (A s0 i0 i r) (T s0 i0 i r) (A s0 i0 i r ++ added f.part (left_by i0 i) f.after r) (tail_at f.after.rows r)
        (named_of s i f.other f.part l j fit.1 r) (j.joined.rising r) ((j.joined.at r).each i (prefix_same i)).is_tail (did.did r) in
        subst (λ w. RowKeeps (D s0 i0 s r) (A s0 i0 i r) (A s0 i0 all r) w) (tail_is r) (subst (λ w. RowKeeps (D s0 i0 s r) (A s0 i0 i r) w (tail_at f.after.rows r)) (sym (more_is r)) one)

    sound_now : IntakeSound f.after (A s0 i0 all)
    sound_now =
        let own = did.sound in
        record { up = own.up; next = λ r k here. let low = own.next r k here in let same = ap end_of (more_is r) in omega arith; unknown = λ r none. more_is r ∙ own.unknown r none; lines = own.lines; bytes = own.bytes }

    told_row_of : (reg : RegisteredRow) (front back : List RegisteredRow) → told_rows f.part ≡ front ++ reg ∷ back → ToldRow s reg
    told_row_of = told_of s i f.other f.part l j fit.1

    knows_now : KnowsRows s0 i0 (left_by s0 s) f.after
    knows_now r k here = by_from (did.abouts r k here)
      where
        by_from : AboutFrom (told_rows f.part) (left_by i0 i).rows r k → (row : StoreRow) × (slice_get (left_by s0 s).rows r ≡ Some row) × ((row.about ≡ k.about) × (row.name ≡ k.name))
        by_from (about_was k' before about name) = let own = j.joined.knows i (prefix_same i) r k' before in (own.0, own.1, (own.2.0 ∙ sym about, own.2.1 ∙ sym name))
        by_from (about_told reg front back is at about name) =
            let own = told_row_of reg front back is in (own.row, ap (λ n. slice_get (left_by s0 s).rows n) (sym at) ∙ own.here, (own.same.0 ∙ sym about, own.same.1 ∙ sym name))

    -- a state that is known now was the store's
    state_now : (r : ℕ) (k : IntakeRow) → known_at f.after.rows r ≡ Some k → WasAt s0 i0 s r k.changed k.state
    state_now r k here = by_from (did.states r k here)
      where
        by_from : StateFrom (told_rows f.part) (left_by i0 i).rows r k.changed k.state → WasAt s0 i0 s r k.changed k.state
        by_from (state_was k' before number state) =
            let was = j.changes.was i (prefix_same i) r k' before in record { front = was.front; before = was.before; row = was.row; here = was.here; number = was.number ∙ number; state_is = was.state_is ∙ state }
        by_from (state_told reg front back is at number state) =
            let was = (told_row_of reg front back is).was in
            record { front = was.front; before = was.before; row = was.row; here = ap (λ n. slice_get (left_by s0 was.front).rows n) (sym at) ∙ was.here; number = was.number ∙ number; state_is = was.state_is ∙ state }

    rows_are : f.after.rows ≡ (left_by i0 all).rows
    rows_are = ap (λ (m : IntakeHalf). m.rows) after_is

    state_at : (ahead : List IntakeEntry) → FrontOfMore i f ahead → (r : ℕ) (k : IntakeRow) → known_at (left_by i0 ahead).rows r ≡ Some k → WasAt s0 i0 s r k.changed k.state
    state_at ahead (shorter rest is) r k here = j.changes.was ahead (rest, is) r k here
    state_at ahead (whole is) r k here = state_now r k (ap (λ w. known_at w r) rows_are ∙ (ap (λ w. known_at (left_by i0 w).rows r) (sym is) ∙ here))

    -- what is known now of a row that was known
    up_now : (r : ℕ) (k : IntakeRow) → known_at (left_by i0 i).rows r ≡ Some k → (now : IntakeRow) × (known_at (left_by i0 all).rows r ≡ Some now) × (k.changed ≤ now.changed)
    up_now r k here = let on = did.up r k here in (on.0, ap (λ w. known_at w r) (sym rows_are) ∙ on.1, on.2)

    onward_at : (ahead : List IntakeEntry) → FrontOfMore i f ahead → (r : ℕ) (k : IntakeRow) → known_at (left_by i0 ahead).rows r ≡ Some k → (now : IntakeRow) × (known_at (left_by i0 all).rows r ≡ Some now) × (k.changed ≤ now.changed)
    onward_at ahead (shorter rest is) r k here =
        let old = j.changes.onward ahead (rest, is) r k here in
        let on = up_now r old.0 old.1 in
        let one : k.changed ≤ old.0.changed = old.2 in
        let two : old.0.changed ≤ on.0.changed = on.2 in
        (on.0, on.1, omega arith)
    onward_at ahead (whole is) r k here = (k, ap (λ w. known_at (left_by i0 w).rows r) (sym is) ∙ here, omega arith)

    first_at : (ahead : List IntakeEntry) → FrontOfMore i f ahead → (r : ℕ) (row : StoreRow) → slice_get (left_by s0 s).rows r ≡ Some row → row.changed ≡ 0 → (k : IntakeRow) × (known_at (left_by i0 ahead).rows r ≡ Some k)
    first_at ahead (shorter rest is) r row there zero = j.changes.first ahead (rest, is) r row there zero
    first_at ahead (whole is) r row there zero =
        let old = j.changes.first i (prefix_same i) r row there zero in let on = up_now r old.0 old.1 in (on.0, ap (λ w. known_at (left_by i0 w).rows r) is ∙ on.1)

    -- of a row that isn't running nothing more is accepted
    closed_now : (r : ℕ) → IsClosedAt (left_by s0 s) r → IsIdle s0 i0 (left_by s0 s) s all r
    closed_now r c =
        let o = j.closed r c in
        let k = o.known.0 in
        let on = up_now r k o.known.1 in
        let one : o.from ≤ k.changed = o.known.2 in
        let two : k.changed ≤ on.0.changed = on.2 in
        let down = o.idle k.changed k.state (j.changes.was i (prefix_same i) r k o.known.1) one in
        record { from = o.from; known = (on.0, on.1, omega arith); idle = o.idle; all = more_is r ∙ (did.idle r k o.known.1 down ∙ o.all) }

    was_at : (r : ℕ) (ahead : List IntakeEntry) → FrontOfMore i f ahead → WasAccepted (D s0 i0 s r) (A s0 i0 ahead r) (T s0 i0 ahead r) (A s0 i0 all r)
    was_at r ahead (shorter rest is) =
        let old = (j.joined.at r).each ahead (rest, is) in
        record { prefix = prefix_through (A s0 i0 ahead r) (A s0 i0 i r) (A s0 i0 all r) old.prefix (now r).grows; is_tail = old.is_tail }
    was_at r ahead (whole is) =
        subst (λ w. WasAccepted (D s0 i0 s r) (A s0 i0 w r) (T s0 i0 w r) (A s0 i0 all r)) (sym is) (record { prefix = prefix_same (A s0 i0 all r); is_tail = (now r).is_tail })

    sound_at : (ahead : List IntakeEntry) → FrontOfMore i f ahead → IntakeSound (left_by i0 ahead) (A s0 i0 ahead)
    sound_at ahead (shorter rest is) = j.joined.sounds ahead (rest, is)
    sound_at ahead (whole is) = subst (λ w. IntakeSound (left_by i0 w) (A s0 i0 w)) (sym is) (subst (λ m. IntakeSound m (A s0 i0 all)) after_is sound_now)

    knows_at : (ahead : List IntakeEntry) → FrontOfMore i f ahead → KnowsRows s0 i0 (left_by s0 s) (left_by i0 ahead)
    knows_at ahead (shorter rest is) = j.joined.knows ahead (rest, is)
    knows_at ahead (whole is) = subst (λ w. KnowsRows s0 i0 (left_by s0 s) (left_by i0 w)) (sym is) (subst (λ m. KnowsRows s0 i0 (left_by s0 s) m) after_is knows_now)

    pub intake_more : IsJoined s0 i0 s (i ++ f ∷ [])
    intake_more =
        record {
          joined = record {
            sound = j.joined.sound;
            told = j.joined.told;
            rising = λ r. (now r).rising;
            at = λ r. record {
              flushed = prefix_through (D s0 i0 s r) (A s0 i0 i r) (A s0 i0 all r) (j.joined.at r).flushed (now r).grows;
              each = λ ahead p. was_at r ahead (front_of_more i f ahead p.0 p.1);
            };
            doubts = λ r row here. prefix_through (over (D s0 i0 s r) (doubted (left_by s0 s).doubt r)) (A s0 i0 i r) (A s0 i0 all r) (j.joined.doubts r row here) (now r).grows;
            sounds = λ ahead p. sound_at ahead (front_of_more i f ahead p.0 p.1);
            knows = λ ahead p. knows_at ahead (front_of_more i f ahead p.0 p.1);
          };
          grown = j.grown;
          changes = record {
            was = λ ahead p r k here. state_at ahead (front_of_more i f ahead p.0 p.1) r k here;
            onward = λ ahead p r k here. onward_at ahead (front_of_more i f ahead p.0 p.1) r k here;
            first = λ ahead p r row there zero. first_at ahead (front_of_more i f ahead p.0 p.1) r row there zero;
          };
          closed = closed_now;
        }
