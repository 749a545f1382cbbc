-- An entry of the store keeps what the two histories have to say to one another.
use Rattle.std.proofs.Common.{◌≡◌, ℕ, ◌+◌, ◌≤◌, List, [], ◌∷◌, ◌++◌, length, take, drop, Option, Some, None, true, false, refl, ap, sym, ◌∙◌, subst, arith, inl, inr, append-nil, length-append}
use Rattle.std.specs.Prelude.{◌⊎◌, slice_get}
use Rattle.std.specs.List.{AllByRecursion}
use Rattle.std.proofs.lemmas.Option.{same_Some}
use Rattle.closed_pairs.proofs.Cuts.{FrontOfMore, shorter, whole, front_of_more, cut_of_take}
use Rattle.pb_messages.specs.declared.about.State.TheVariants.{Paused}
use Rattle.series_model.specs.declared.batch.RowSamples.{RowSamples}
use Rattle.series_model.specs.declared.sample.Sample.{Sample}
use Rattle.series_model.specs.Archive.{IsPrefix}
use Rattle.series_model.specs.Series.{IsRising, over, since, end_of}
use Rattle.series_model.proofs.RisingLists.{since-since, since_none, RisesFrom-lower}
use Rattle.act_model.specs.Changes.{of_row}
use Rattle.act_model.specs.Event.{IsEvent}
use Rattle.act_model.specs.Rows.{RowState, durable, is_running}
use Rattle.two_histories.specs.Histories.{left_by}
use Rattle.two_histories.specs.Store.{Lists}
use Rattle.two_histories.proofs.Halves.{left_by_more}
use Rattle.two_histories.proofs.Lists.{prefix_same, prefix_end, prefix_rises, prefix_of, prefix_through, tail_longer, longer_within, suffix_rises}
use Rattle.two_histories.specs.ArchiveIntake.{IntakeHalf, IntakeRow, RowLook, known_at, bytes_in}
use Rattle.two_histories.specs.IntakeStep.{IntakeEntry}
use Rattle.two_histories.specs.ArchiveStore.{StoreHalf, StoreRow, durable_at, doubted, machine_of, rows_with}
use Rattle.two_histories.specs.StoreStep.{StorePart, Does, BeginsMove, Flushes, PinsAt, DescribesAt, RenamesAt, StoreEntry, seen_by}
use Rattle.two_histories.specs.ArchiveHistories.{StoreAllowed, StoreFits, store_knows}
use Rattle.two_histories.proofs.Batches.{BatchFits}
use Rattle.two_histories.proofs.Durables.{durable_is, in_ended, in_rows_with}
use Rattle.two_histories.proofs.Idle.{all_between, closed_still, gains_none, IsIdleSince, look_of, looked, LookTold, nothing_later, seen_low, was_more}
use Rattle.two_histories.proofs.IntakeLaws.{tail_known, tail_unknown}
use Rattle.two_histories.proofs.ArchiveJoined.{A, T, D, Legal, AtRow, at_more, JoinedAt, Grown, IsLater, KnowsChanges, IsIdle, IsJoined}
use Rattle.two_histories.proofs.Looking.{batch_tails, batch_bytes, known_events}
use Rattle.two_histories.proofs.Settling.{NoneDoubted}
use Rattle.two_histories.proofs.Stepping.{SettledTo, Stays, HalfWent, half_rested, half_failed, half_flushed, batch_of_part, StoreDid, store_did, half_back, half_forth, IsClosedAt, Follows, NumberFrom, is_new, was_there, GoesOn, ClosedBy, was_closed_at, has_new_name}
use Rattle.two_histories.proofs.Telling.{batch_told}

module _ (s0 : StoreHalf) (i0 : IntakeHalf) where
  -- what a batch has of each row: the tail that there was at some time, or nothing
  pub record WasSeen (i : List IntakeEntry) (batch : List RowSamples) : Type 0 where
    pub ahead : List IntakeEntry
    pub before : IsPrefix ahead i
    pub tails : (r : ℕ) → (of_row r batch ≡ T s0 i0 ahead r) ⊎ (of_row r batch ≡ [])
    pub bytes : bytes_in batch ≤ 67108864

  nothing_seen : (i : List IntakeEntry) → WasSeen i []
  nothing_seen i = record { ahead = i; before = prefix_same i; tails = λ r. inr refl; bytes = omega arith }

  pub seen_of : (s : List StoreEntry) (i : List IntakeEntry) (n : ℕ) (part : StorePart) → Legal s0 i0 s i → JoinedAt s0 i0 (left_by s0 s) i → StoreAllowed part (take n i) → WasSeen i (batch_of_part part)
  seen_of s i n (Does act) l j allowed = nothing_seen i
  seen_of s i n (BeginsMove store now doors) l j allowed = nothing_seen i
  seen_of s i n (PinsAt query look) l j allowed = nothing_seen i
  seen_of s i n (DescribesAt look) l j allowed = nothing_seen i
  seen_of s i n (RenamesAt newname look) l j allowed = nothing_seen i
  seen_of s i n (Flushes batch upto left doors) l j allowed =
      let has = allowed.1 in
      let cut = cut_of_take n i has.front has.back has.entry has.is in
      let step = (l.other has.front (has.back ++ drop n i) has.entry cut).0 in
      let told = batch_told step doors batch left upto has.such.1 in
      let p : IsPrefix has.front i = (has.entry ∷ (has.back ++ drop n i), cut) in
      let sound = j.sounds has.front p in
      let less = batch_bytes told.limit (left_by i0 has.front).rows 0 in
      record {
        ahead = has.front;
        before = p;
        tails = λ r. subst (λ b. (of_row r b ≡ T s0 i0 has.front r) ⊎ (of_row r b ≡ [])) (sym told.batch_is) (batch_tails told.limit 0 r (left_by i0 has.front).rows 0 sound.up);
        bytes = subst (λ b. bytes_in b ≤ 67108864) (sym told.batch_is) (let most = sound.bytes in omega arith);
      }

  rises_of : (i ahead : List IntakeEntry) (m : StoreHalf) (r : ℕ) → JoinedAt s0 i0 m i → IsPrefix ahead i → IsRising (T s0 i0 ahead r)
  rises_of i ahead m r j p =
      let was = (j.at r).each ahead p in
      let whole' : IsRising (A s0 i0 ahead r) = prefix_rises (A s0 i0 ahead r) (A s0 i0 i r) was.prefix (j.rising r) in
      let from = suffix_rises (T s0 i0 ahead r) (A s0 i0 ahead r) was.is_tail.suffix whole' in
      RisesFrom-lower 0 from.0 (T s0 i0 ahead r) from.1 (omega arith)

  -- the batch fits the store
  pub fits_of : (m : StoreHalf) (i : List IntakeEntry) (batch : List RowSamples) → JoinedAt s0 i0 m i → ((r : ℕ) → IsClosedAt m r → A s0 i0 i r ≡ durable_at m.rows r) → WasSeen i batch → BatchFits (machine_of 0 m).rows m.doubt batch
  fits_of m i batch j closed seen =
      record {
        rising = λ r. by_tail (λ w. IsRising w) r (seen.tails r) (rises_of i seen.ahead m r j seen.before) tt;
        lines = λ r row there. by_known r row there (known_at (left_by i0 seen.ahead).rows r) refl;
        past = λ r none. by_past r none (known_at (left_by i0 seen.ahead).rows r) refl (seen.tails r);
        closed = λ r row there c. by_tail (λ w. since (end_of (durable row)) w ≡ []) r (seen.tails r) (none_later r row there (closed r c)) refl;
        bytes = seen.bytes;
      }
    where
      by_tail : (P : List Sample → Type 0) (r : ℕ) → (of_row r batch ≡ T s0 i0 seen.ahead r) ⊎ (of_row r batch ≡ []) → P (T s0 i0 seen.ahead r) → P [] → P (of_row r batch)
      by_tail P r (inl is) tail none = subst P (sym is) tail
      by_tail P r (inr is) tail none = subst P (sym is) none

      -- of what is durable altogether no tail has more
      none_later : (r : ℕ) (row : RowState) → slice_get (machine_of 0 m).rows r ≡ Some row → A s0 i0 i r ≡ durable_at m.rows r → since (end_of (durable row)) (T s0 i0 seen.ahead r) ≡ []
      none_later r row there all =
          let d = durable_at m.rows r in
          let ends : durable row ≡ d = sym (durable_is (machine_of 0 m).rows r row there) ∙ (in_ended (rows_with (doubted m.doubt) 0 m.rows) r ∙ in_rows_with (doubted m.doubt) 0 m.rows r) in
          let was = (j.at r).each seen.ahead seen.before in
          let a = A s0 i0 seen.ahead r in
          let low = prefix_end a (A s0 i0 i r) was.prefix (j.rising r) in
          let same = ap end_of all in
          let none : since (end_of d) a ≡ [] = since_none (end_of d) 0 a (prefix_rises a (A s0 i0 i r) was.prefix (j.rising r)) (omega arith) in
          ap (λ w. since (end_of w) (T s0 i0 seen.ahead r)) ends ∙ (was.is_tail.later ∙ none)

      by_known : (r : ℕ) (row : RowState) → slice_get (machine_of 0 m).rows r ≡ Some row → (o : Option IntakeRow) → known_at (left_by i0 seen.ahead).rows r ≡ o → AllByRecursion (IsEvent row.about.ty) (of_row r batch)
      by_known r row there None none =
          let tail : T s0 i0 seen.ahead r ≡ [] = tail_unknown (left_by i0 seen.ahead).rows r none in
          by_tail (λ w. AllByRecursion (IsEvent row.about.ty) w) r (seen.tails r) (subst (λ w. AllByRecursion (IsEvent row.about.ty) w) (sym tail) tt) tt
      by_known r row there (Some k) here =
          let own = j.knows seen.ahead seen.before r k here in
          let back = half_back (doubted m.doubt) m.rows r row there in
          let same : back.of ≡ own.0 = some_same (sym back.here ∙ own.1) in
          let about : row.about ≡ k.about = back.about ∙ (ap (λ (x : StoreRow). x.about) same ∙ own.2.0) in
          let events = known_events (left_by i0 seen.ahead).rows r k (j.sounds seen.ahead seen.before).lines here in
          let tail : T s0 i0 seen.ahead r ≡ k.tail = tail_known (left_by i0 seen.ahead).rows r k here in
          let lines : AllByRecursion (IsEvent row.about.ty) (T s0 i0 seen.ahead r) = rw (about, tail) events.0 in
          by_tail (λ w. AllByRecursion (IsEvent row.about.ty) w) r (seen.tails r) lines tt
        where
          some_same : {a b : StoreRow} → Some a ≡ Some b → a ≡ b
          some_same is = cc

      by_past : (r : ℕ) → slice_get (machine_of 0 m).rows r ≡ None → (o : Option IntakeRow) → known_at (left_by i0 seen.ahead).rows r ≡ o → (of_row r batch ≡ T s0 i0 seen.ahead r) ⊎ (of_row r batch ≡ []) → of_row r batch ≡ []
      by_past r none o here (inr is) = is
      by_past r none None here (inl is) = is ∙ tail_unknown (left_by i0 seen.ahead).rows r here
      by_past r none (Some k) here (inl is) =
          let own = j.knows seen.ahead seen.before r k here in
          absurd (let on = half_forth (doubted m.doubt) m.rows r own.0 own.1 in let bad = sym none ∙ on in cc)

  -- a batch that was seen may be appended to whatever agrees
  may_append : (i : List IntakeEntry) (batch : List RowSamples) (r : ℕ) (d : List Sample) → IsRising (A s0 i0 i r) → WasSeen i batch → AtRow s0 i0 d i r → IsPrefix (over d (of_row r batch)) (A s0 i0 i r)
  may_append i batch r d rising seen at = by_kind (seen.tails r)
    where
      by_kind : (of_row r batch ≡ T s0 i0 seen.ahead r) ⊎ (of_row r batch ≡ []) → IsPrefix (over d (of_row r batch)) (A s0 i0 i r)
      by_kind (inl is) =
          let was = at.each seen.ahead seen.before in
          let longer = tail_longer d (A s0 i0 seen.ahead r) (T s0 i0 seen.ahead r) (A s0 i0 i r) rising at.flushed was.prefix was.is_tail in
          subst (λ w. IsPrefix (over d w) (A s0 i0 i r)) (sym is) (longer_within d (A s0 i0 seen.ahead r) (over d (T s0 i0 seen.ahead r)) (A s0 i0 i r) longer at.flushed was.prefix)
      by_kind (inr is) = prefix_through (over d (of_row r batch)) d (A s0 i0 i r) (prefix_of (over d (of_row r batch)) d (ap (λ w. over d w) is ∙ append-nil d)) at.flushed

  -- what a step leaves of each row
  record Leaves (old new : StoreHalf) (i : List IntakeEntry) : Type 0 where
    up : (r : ℕ) → IsPrefix (durable_at old.rows r) (durable_at new.rows r)
    at : (r : ℕ) → AtRow s0 i0 (durable_at new.rows r) i r
    doubts : (r : ℕ) (row : StoreRow) → slice_get new.rows r ≡ Some row → IsPrefix (over (durable_at new.rows r) (doubted new.doubt r)) (A s0 i0 i r)

  pub settled_at : (old : StoreHalf) (i : List IntakeEntry) (mid : Lists) (r : ℕ) → JoinedAt s0 i0 old i → SettledTo old mid r → IsPrefix (durable_at old.rows r) (mid r) × AtRow s0 i0 (mid r) i r
  settled_at old i mid r j (inl same) =
      let d = durable_at old.rows r in
      (prefix_of d (mid r) (sym same), subst (λ w. AtRow s0 i0 w i r) (sym same) (j.at r))
  settled_at old i mid r j (inr more) =
      let d = durable_at old.rows r in
      let up : IsPrefix d (mid r) = (since (end_of d) (doubted old.doubt r), more.2) in
      let low : IsPrefix (mid r) (A s0 i0 i r) = subst (λ w. IsPrefix w (A s0 i0 i r)) (sym more.2) (j.doubts r more.0 more.1) in
      (up, at_more s0 i0 d (mid r) i r (j.rising r) (j.at r) up low)

  none_doubted : (new : StoreHalf) (i : List IntakeEntry) (r : ℕ) → NoneDoubted new.doubt → AtRow s0 i0 (durable_at new.rows r) i r → IsPrefix (over (durable_at new.rows r) (doubted new.doubt r)) (A s0 i0 i r)
  none_doubted new i r none at =
      let d = durable_at new.rows r in
      prefix_through (over d (doubted new.doubt r)) d (A s0 i0 i r) (prefix_of (over d (doubted new.doubt r)) d (ap (λ w. over d w) (none r) ∙ append-nil d)) at.flushed

  leaves : (old new : StoreHalf) (i : List IntakeEntry) (batch : List RowSamples) → JoinedAt s0 i0 old i → WasSeen i batch → HalfWent old new batch → Leaves old new i
  leaves old new i batch j seen (half_rested settled doubt) =
      record {
        up = λ r. (settled_at old i (durable_at new.rows) r j (settled r)).0;
        at = λ r. (settled_at old i (durable_at new.rows) r j (settled r)).1;
        doubts = λ r row there. by_doubt r row there doubt;
      }
    where
      by_doubt : (r : ℕ) (row : StoreRow) → slice_get new.rows r ≡ Some row → NoneDoubted new.doubt ⊎ Stays old new → IsPrefix (over (durable_at new.rows r) (doubted new.doubt r)) (A s0 i0 i r)
      by_doubt r row there (inl none) = none_doubted new i r none (settled_at old i (durable_at new.rows) r j (settled r)).1
      by_doubt r row there (inr stays) =
          let was = stays.rows r row there in
          let old_doubt = j.doubts r was.0 was.1 in
          subst (λ w. IsPrefix (over w (doubted new.doubt r)) (A s0 i0 i r)) (sym (stays.durable r)) (subst (λ d. IsPrefix (over (durable_at old.rows r) (doubted d r)) (A s0 i0 i r)) (sym stays.doubt) old_doubt)
  leaves old new i batch j seen (half_failed settled doubt) =
      record {
        up = λ r. (settled_at old i (durable_at new.rows) r j (settled r)).0;
        at = λ r. (settled_at old i (durable_at new.rows) r j (settled r)).1;
        doubts = λ r row there.
            let d = durable_at new.rows r in
            let own = may_append i batch r d (j.rising r) seen (settled_at old i (durable_at new.rows) r j (settled r)).1 in
            let same : over d (doubted new.doubt r) ≡ over d (of_row r batch) = ap (λ w. over d w) (doubt r) ∙ ap (λ w. d ++ w) (since-since (end_of d) (end_of d) (of_row r batch) (omega arith)) in
            subst (λ w. IsPrefix w (A s0 i0 i r)) (sym same) own;
      }
  leaves old new i batch j seen (half_flushed mid settled all none) =
      record {
        up = λ r. (both r).0;
        at = λ r. (both r).1;
        doubts = λ r row there. none_doubted new i r none (both r).1;
      }
    where
      both : (r : ℕ) → IsPrefix (durable_at old.rows r) (durable_at new.rows r) × AtRow s0 i0 (durable_at new.rows r) i r
      both r =
          let first = settled_at old i mid r j (settled r) in
          let d = mid r in
          let up : IsPrefix d (durable_at new.rows r) = (since (end_of d) (of_row r batch), all r) in
          let low : IsPrefix (durable_at new.rows r) (A s0 i0 i r) = subst (λ w. IsPrefix w (A s0 i0 i r)) (sym (all r)) (may_append i batch r d (j.rising r) seen first.1) in
          (prefix_through (durable_at old.rows r) d (durable_at new.rows r) first.0 up, at_more s0 i0 d (durable_at new.rows r) i r (j.rising r) first.1 up low)

  -- THE ENTRY

  module _ (s : List StoreEntry) (i : List IntakeEntry) (e : StoreEntry) (l : Legal s0 i0 s i) (j : IsJoined s0 i0 s i) (low : store_knows e ≤ length i) (fit : StoreFits s0 s e (take (store_knows e) i)) where
    abbrev old : StoreHalf
    old = left_by s0 s

    abbrev all : List StoreEntry
    all = s ++ e ∷ []

    seen : WasSeen i (batch_of_part e.part)
    seen = seen_of s i e.other e.part l j.joined fit.1

    step : StoreDid (length s + 1) old e.part e.after (batch_of_part e.part)
    step = store_did fit.0 j.joined.sound j.joined.told (fits_of old i (batch_of_part e.part) j.joined (λ r c. (j.closed r c).all) seen)

    left : Leaves old e.after i
    left = leaves old e.after i (batch_of_part e.part) j.joined seen step.went

    is_left : e.after ≡ left_by s0 all
    is_left = sym (left_by_more s0 s e)

    long : length all ≡ length s + 1
    long = length-append s (e ∷ [])

    joined : JoinedAt s0 i0 e.after i
    joined = record {
      sound = step.sound;
      told = step.told;
      rising = j.joined.rising;
      at = left.at;
      doubts = left.doubts;
      sounds = j.joined.sounds;
      knows = λ ahead p r k here. let was = j.joined.knows ahead p r k here in let on = step.rows r was.0 was.1 in (on.0, on.1, (on.2.about ∙ was.2.0, on.2.name ∙ was.2.1));
    }

    by_durable : (front : List StoreEntry) (r : ℕ) → FrontOfMore s e front → IsPrefix (D s0 i0 front r) (durable_at e.after.rows r)
    by_durable front r (shorter rest is) = prefix_through (D s0 i0 front r) (D s0 i0 s r) (durable_at e.after.rows r) (j.grown.durable front (rest, is) r) (left.up r)
    by_durable front r (whole is) = prefix_of (D s0 i0 front r) (durable_at e.after.rows r) (ap (λ w. D s0 i0 w r) is ∙ ap (λ (m : StoreHalf). durable_at m.rows r) (sym is_left))

    by_told : (front : List StoreEntry) → FrontOfMore s e front → (left_by s0 front).told ≡ true
    by_told front (shorter rest is) = j.grown.told front (rest, is)
    by_told front (whole is) = ap (λ (w : List StoreEntry). (left_by s0 w).told) is ∙ (ap (λ (m : StoreHalf). m.told) (sym is_left) ∙ step.told)

    follows : (row mid last : StoreRow) → IsLater s0 i0 row mid → mid.changed ≤ length s → Follows (length s + 1) mid last → IsLater s0 i0 row last
    follows row mid last later few f = by_number f.number
      where
        by_number : ((last.changed ≡ mid.changed) × (last.state ≡ mid.state)) ⊎ (last.changed ≡ length s + 1) → IsLater s0 i0 row last
        by_number (inl same) =
            let up : row.changed ≤ mid.changed = later.up in
            let number = same.0 in
            record { about = f.about ∙ later.about; name = f.name ∙ later.name; up = omega arith; same = λ w. same.1 ∙ later.same (w ∙ number) }
        by_number (inr new) = let up : row.changed ≤ mid.changed = later.up in record { about = f.about ∙ later.about; name = f.name ∙ later.name; up = omega arith; same = λ w. absurd (omega arith) }

    by_rows : (front : List StoreEntry) (r : ℕ) (row : StoreRow) → slice_get (left_by s0 front).rows r ≡ Some row → FrontOfMore s e front → (new : StoreRow) × (slice_get e.after.rows r ≡ Some new) × IsLater s0 i0 row new
    by_rows front r row here (shorter rest is) = let was = j.grown.rows front (rest, is) r row here in let on = step.rows r was.0 was.1 in (on.0, on.1, follows row was.0 on.0 was.2 (j.grown.few r was.0 was.1) on.2)
    by_rows front r row here (whole is) =
        (row, ap (λ (m : StoreHalf). slice_get m.rows r) is_left ∙ (ap (λ w. slice_get (left_by s0 w).rows r) (sym is) ∙ here), record { about = refl; name = refl; up = omega arith; same = λ w. refl })

    few : (r : ℕ) (row : StoreRow) → NumberFrom (length s + 1) old.rows r row.changed → row.changed ≤ length all
    few r row (is_new new) = let size = long in omega arith
    few r row (was_there before here same) = let low : before.changed ≤ length s = j.grown.few r before here in let size = long in omega arith

    first : (ahead : List IntakeEntry) → IsPrefix ahead i → (r : ℕ) (row : StoreRow) → row.changed ≡ 0 → NumberFrom (length s + 1) old.rows r row.changed → (k : IntakeRow) × (known_at (left_by i0 ahead).rows r ≡ Some k)
    first ahead p r row zero (is_new new) = absurd (omega arith)
    first ahead p r row zero (was_there before here same) = j.changes.first ahead p r before here (sym same ∙ zero)

    -- what is closed wasn't running since a change, if it wasn't so before
    still : (r from : ℕ) → IsClosedAt e.after r → IsIdleSince s0 i0 s r from → IsIdleSince s0 i0 all r from
    still r from c idle changed state w high = by_front (front_of_more s e w.front w.before.0 w.before.1)
      where
        by_front : FrontOfMore s e w.front → is_running state ≡ false
        by_front (shorter rest is) = idle changed state (record { front = w.front; before = (rest, is); row = w.row; here = w.here; number = w.number; state_is = w.state_is }) high
        by_front (whole is) =
            let here : slice_get e.after.rows r ≡ Some w.row = ap (λ (m : StoreHalf). slice_get m.rows r) is_left ∙ (ap (λ h. slice_get (left_by s0 h).rows r) (sym is) ∙ w.here) in
            ap is_running (sym w.state_is) ∙ closed_still e.after step.sound r w.row here c

    -- a row that has kept its change number has kept its state
    since_paused : (r : ℕ) (row : StoreRow) → slice_get old.rows r ≡ Some row → row.state ≡ Paused → IsIdleSince s0 i0 s r row.changed
    since_paused r row here paused changed state w high =
        let later = j.grown.rows w.front w.before r w.row w.here in
        let one : later.0 ≡ row = same_Some later.0 row (sym later.1 ∙ here) in
        let up : w.row.changed ≤ later.0.changed = later.2.up in
        let number = ap (λ (x : StoreRow). x.changed) one in
        let is = w.number in
        let same : w.row.changed ≡ later.0.changed = omega arith in
        ap is_running (sym w.state_is ∙ (sym (later.2.same same) ∙ (ap (λ (x : StoreRow). x.state) one ∙ paused)))

    -- a variable's new name closes its row: all that the intake accepted of it is durable, and since the Look it accepted nothing more
    goes_on : (r : ℕ) (look : RowLook) → IsClosedAt e.after r → LookTold s0 i0 i look → GoesOn old e.after look r → IsIdle s0 i0 e.after all i r
    goes_on r look c t g =
        let from = g.row.changed in
        let x = looked s0 i0 s i j look t r g.row g.here g.name g.seen in
        let high : from ≤ seen_by look = g.seen in
        let seen = x.seen in
        let on = j.changes.onward t.ahead (t.behind, t.split) r x.k x.here in
        let up : x.k.changed ≤ on.0.changed = on.2 in
        let d = durable_at e.after.rows r in
        let idle = since_paused r g.row g.here g.paused in
        let same : A s0 i0 i r ≡ A s0 i0 t.ahead r = gains_none s0 i0 s i l j r from idle t.behind t.ahead t.split x.k x.here (omega arith) in
        let was = (left.at r).each t.ahead (t.behind, t.split) in
        let none : since (end_of d) (A s0 i0 i r) ≡ [] = ap (λ w. since (end_of d) w) same ∙ (sym was.is_tail.later ∙ (ap (λ w. since (end_of d) w) (sym x.tail) ∙ g.all)) in
        record { from = from; known = (on.0, on.1, omega arith); idle = still r from c idle; all = nothing_later d (A s0 i0 i r) (j.joined.rising r) (left.at r).flushed none }

    closed : (r : ℕ) → IsClosedAt e.after r → ClosedBy (length s + 1) old e.part e.after r → IsIdle s0 i0 e.after all i r
    closed r c (was_closed_at before) =
        let o = j.closed r before in
        record {
          from = o.from;
          known = o.known;
          idle = still r o.from c o.idle;
          all = all_between (D s0 i0 s r) (durable_at e.after.rows r) (A s0 i0 i r) (j.joined.rising r) (left.up r) (left.at r).flushed o.all;
        }
    closed r c (has_new_name newname look part goes) =
        let t = look_of s0 i0 s i e.other newname look l (subst (λ p. StoreAllowed p (take e.other i)) part fit.1) in
        let low' = seen_low s0 i0 s i j look t in
        goes_on r look c t (goes (omega arith))

    pub store_more : IsJoined s0 i0 all i
    store_more =
        record {
          joined = subst (λ m. JoinedAt s0 i0 m i) is_left joined;
          grown = subst (λ m. Grown s0 i0 m all) is_left (record {
            durable = λ front p r. by_durable front r (front_of_more s e front p.0 p.1);
            rows = λ front p r row here. by_rows front r row here (front_of_more s e front p.0 p.1);
            few = λ r row there. few r row (step.numbers r row there);
            told = λ front p. by_told front (front_of_more s e front p.0 p.1);
          });
          changes = subst (λ m. KnowsChanges s0 i0 m all i) is_left (record {
            was = λ ahead p r k here. was_more s0 i0 s e r k.changed k.state (j.changes.was ahead p r k here);
            onward = j.changes.onward;
            first = λ ahead p r row there zero. first ahead p r row zero (step.numbers r row there);
          });
          closed = subst (λ (m : StoreHalf). (r : ℕ) → IsClosedAt m r → IsIdle s0 i0 m all i r) is_left (λ r c. closed r c (step.closed r c));
        }
