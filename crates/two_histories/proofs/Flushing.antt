-- What a flush of a batch leaves: a sound half, and the batch's samples behind what is durable, or in doubt.
use Rattle.std.proofs.Common.{◌≡◌, ℕ, ◌+◌, List, [], ◌++◌, Option, Some, None, true, refl, ap, sym, ◌∙◌, subst, arith, append-nil, inl, length}
use Rattle.std.specs.Prelude.{slice_get}
use Rattle.series_model.specs.declared.batch.RowSamples.{RowSamples}
use Rattle.series_model.specs.Series.{over, since, end_of}
use Rattle.series_model.proofs.RisingLists.{since-since}
use Rattle.act_model.specs.declared.acts.Answer.TheVariants.{Flushed}
use Rattle.act_model.specs.Changes.{made, of_row, Settles}
use Rattle.act_model.specs.Growth.{Onward}
use Rattle.act_model.specs.Machine.{Machine, Change, Renames}
use Rattle.act_model.specs.Outcome.{Acts, all_go, Same, refused_at_once, refused, runs, faults_first, faults_between, faults_within, faults_removing, wants_memory, wants_memory_settled}
use Rattle.act_model.specs.Reply.{Reply}
use Rattle.act_model.specs.Rows.{RowState}
use Rattle.act_model.specs.Sound.{MayMake, IsSoundOf, IsSound}
use Rattle.act_model.proofs.Onward.{onward_settled, onward_made, each_forward}
use Rattle.act_model.proofs.StepLaws.{settled_sound, settled_none, same_sound, own_change, with_doubt}
use Rattle.act_model.proofs.Rows.{length-each, each_get}
use Rattle.two_histories.specs.ArchiveStore.{StoreRow, rows_with, with_end, with_ends, left_rows, doubted}
use Rattle.two_histories.specs.StoreStep.{later_than, ends_in, appends, tailed, with_batch, FlushesBatch}
use Rattle.two_histories.proofs.Batches.{BatchFits, batch_sound, fits_on, later_row, ends_are}
use Rattle.two_histories.proofs.Closing.{is_base, may_be_base, bases_same, made_bases, closed_settled}
use Rattle.two_histories.proofs.Durables.{durable_in, durable_is, made_durable}
use Rattle.two_histories.proofs.Keeping.{KeepsDurable, none_durable, past_durable}
use Rattle.two_histories.proofs.Retailed.{IsBase, ended_back, ended_forth, length-ended, same_stores}
use Rattle.two_histories.proofs.Settling.{HasDoubtedTails, SettledAt, settled_durable, Went, went_nowhere, NoneDoubted, no_samples, ClosesNone, closed_same}
use Rattle.two_histories.proofs.StoreSound.{AreAlike, likes_sound}

-- the half that is left of the machine is sound
abbrev pub LeavesSound : Machine → Type 0
LeavesSound m = (n : ℕ) (olds : List StoreRow) → IsSoundOf m.rule m.told (with_ends (rows_with (doubted m.doubt) 0 (left_rows n olds 0 m.rows))) m.limbo m.pins m.moves m.doubt

pub leaves_sound : (m : Machine) → IsSound m → LeavesSound m
leaves_sound m s n olds = likes_sound n olds m m.rows s refl (λ i new there. (new, there, same_stores new))

-- how it went: no sample was written, some may be, or all are
pub data FlushWent (old new : Machine) (batch : List RowSamples) : Type 0 where
  rested : Went old new → FlushWent old new batch
  failed : ((i : ℕ) → SettledAt old new.rows i) → ((i : ℕ) → doubted new.doubt i ≡ since (end_of (durable_in new.rows i)) (of_row i batch)) → FlushWent old new batch
  flushed : (mid : List RowState) → ((i : ℕ) → SettledAt old mid i) → ((i : ℕ) → durable_in new.rows i ≡ over (durable_in mid i) (of_row i batch)) → NoneDoubted new.doubt → FlushWent old new batch

-- each row stays one of its variable
abbrev pub RowsStay : List RowState → List RowState → Type 0
RowsStay rows news = (i : ℕ) (row : RowState) → slice_get rows i ≡ Some row → (now : RowState) × (slice_get news i ≡ Some now) × ((now.about ≡ row.about) × (now.name ≡ row.name))

pub stay_same : (rows news : List RowState) → news ≡ rows → RowsStay rows news
stay_same rows news is i row here = (row, ap (λ w. slice_get w i) is ∙ here, (refl, refl))

pub stay_trans : (a b c : List RowState) → RowsStay a b → RowsStay b c → RowsStay a c
stay_trans a b c p q i row here = let x = p i row here in let y = q i x.0 x.1 in (y.0, y.1, (y.2.0 ∙ x.2.0, y.2.1 ∙ x.2.1))

pub stay_on : (old new : Machine) → old.told ≡ true → Onward old new → RowsStay old.rows new.rows
stay_on old new t on i row here = let x = on.rows t i row here in (x.0, x.1, (x.2.about, x.2.name))

-- THE ROWS OF A BATCH

-- a row with what a batch has of it as its tail
abbrev pub batch_row : Machine → List RowSamples → ℕ → RowState → RowState
batch_row m batch i row = let later = later_than (ends_in m.rows) batch in with_end (tailed later m.rows) i (record row { tail = of_row i later })

with_forth : (m : Machine) (batch : List RowSamples) (i : ℕ) (row : RowState) → slice_get m.rows i ≡ Some row → slice_get (with_batch batch m).rows i ≡ Some (batch_row m batch i row)
with_forth m batch i row here =
    let later = later_than (ends_in m.rows) batch in
    let plain : 0 + i ≡ i = omega arith in
    let there : slice_get (tailed later m.rows) i ≡ Some (record row { tail = of_row i later }) =
    each_forward (λ k r. record r { tail = of_row k later }) 0 m.rows i row here ∙ ap (λ k. Some (record row { tail = of_row k later })) plain in
    ended_forth (tailed later m.rows) i (record row { tail = of_row i later }) there

pub with_back : (m : Machine) (batch : List RowSamples) (i : ℕ) (new : RowState) → slice_get (with_batch batch m).rows i ≡ Some new → (row : RowState) × (slice_get m.rows i ≡ Some row) × (new ≡ batch_row m batch i row)
with_back m batch i new there =
    let later = later_than (ends_in m.rows) batch in
    let e = ended_back (tailed later m.rows) i new there in
    let o = each_get (λ k r. record r { tail = of_row k later }) 0 m.rows i e.0 e.1 in
    let plain : 0 + i ≡ i = omega arith in
    (o.0, o.1, e.2 ∙ ap (λ r. with_end (tailed later m.rows) i r) (o.2 ∙ ap (λ k. record o.0 { tail = of_row k later }) plain))

pub with_length : (m : Machine) (batch : List RowSamples) → length (with_batch batch m).rows ≡ length m.rows
with_length m batch = let later = later_than (ends_in m.rows) batch in length-ended (tailed later m.rows) ∙ length-each (λ i row. record row { tail = of_row i later }) 0 m.rows

pub with_alike : (m : Machine) (batch : List RowSamples) → AreAlike (with_batch batch m).rows m.rows
with_alike m batch i new there = (batch_row m batch i new, with_forth m batch i new there, record { short = refl; medium = refl; long = refl; name = refl; about = refl; state = refl; base = refl })

pub with_stay : (m : Machine) (batch : List RowSamples) → RowsStay m.rows (with_batch batch m).rows
with_stay m batch i row here = (batch_row m batch i row, with_forth m batch i row here, (refl, refl))

with_none : (m : Machine) (batch : List RowSamples) (i : ℕ) → slice_get m.rows i ≡ None → slice_get (with_batch batch m).rows i ≡ None
with_none m batch i none = by_new (slice_get (with_batch batch m).rows i) refl
  where
    by_new : (o : Option RowState) → slice_get (with_batch batch m).rows i ≡ o → slice_get (with_batch batch m).rows i ≡ None
    by_new None is = is
    by_new (Some new) is = let o = with_back m batch i new is in absurd (let bad = sym none ∙ o.1 in cc)

pub with_bases : (m : Machine) (batch : List RowSamples) (i : ℕ) → IsBase (with_batch batch m).rows i → IsBase m.rows i
with_bases m batch i b = let o = with_back m batch b.at b.row b.here in record { at = b.at; row = o.0; here = o.1; base = ap (λ (r : RowState). r.base) (sym o.2) ∙ b.base }

pub with_keeps : (m : Machine) (batch : List RowSamples) → KeepsDurable m.rows (with_batch batch m).rows
with_keeps m batch i = by_row (slice_get m.rows i) refl
  where
    by_row : (o : Option RowState) → slice_get m.rows i ≡ o → durable_in (with_batch batch m).rows i ≡ durable_in m.rows i
    by_row (Some row) here = durable_is (with_batch batch m).rows i (batch_row m batch i row) (with_forth m batch i row here) ∙ sym (durable_is m.rows i row here)
    by_row None none = none_durable (with_batch batch m).rows i (with_none m batch i none) ∙ sym (none_durable m.rows i none)

may_append : (m : Machine) (batch : List RowSamples) → MayMake m.rule m.told (with_batch batch m).rows m.limbo (appends batch m)
may_append m batch i row there = let o = with_back m batch i row there in ([], ap (λ (r : RowState). r.tail) o.2 ∙ sym (append-nil (of_row i (later_than (ends_in m.rows) batch))))

-- once the batch is written, all of it is durable
written : (m : Machine) (batch : List RowSamples) → IsSound (with_batch batch m) → m.told ≡ true → BatchFits m.rows m.doubt batch → (i : ℕ)
    → durable_in (made [] (appends batch m) (with_batch batch m)).rows i ≡ over (durable_in m.rows i) (of_row i batch)
written m batch s t fits i = by_row (slice_get m.rows i) refl
  where
    by_row : (o : Option RowState) → slice_get m.rows i ≡ o → durable_in (made [] (appends batch m) (with_batch batch m)).rows i ≡ over (durable_in m.rows i) (of_row i batch)
    by_row None none =
        past_durable m.told m.limbo (appends batch m) (with_batch batch m).rows i (with_none m batch i none)
        ∙ sym (ap (λ w. over w (of_row i batch)) (none_durable m.rows i none) ∙ ap (λ w. over [] w) (fits.past i none))
    by_row (Some row) here =
        let later = later_than (ends_in m.rows) batch in
        let n = end_of (durable_in m.rows i) in
        let xs : of_row i later ≡ since n (of_row i batch) = later_row (ends_in m.rows) batch i ∙ ap (λ k. since k (of_row i batch)) (ends_are m.rows i) in
        made_durable (with_batch batch m) [] (appends batch m) s t (may_append m batch) i (batch_row m batch i row) (with_forth m batch i row here) refl
        ∙ (ap (λ w. over w (of_row i later)) (sym (durable_is m.rows i row here))
        ∙ (ap (λ w. over (durable_in m.rows i) w) xs ∙ ap (λ w. durable_in m.rows i ++ w) (since-since n n (of_row i batch) (omega arith))))

-- THE FLUSH

module _ (batch : List RowSamples) (left doors : ℕ) (old new : Machine) (s : IsSound old) (t : old.told ≡ true) (tails : HasDoubtedTails old) (fits : BatchFits old.rows old.doubt batch) where
  abbrev Result : Type 0
  Result = LeavesSound new × FlushWent old new batch × RowsStay old.rows new.rows × ClosesNone old new

  fits_mid : {mid : Machine} → Settles old mid → BatchFits mid.rows mid.doubt batch
  fits_mid {mid} settles =
      let on = onward_settled s settles in
      fits_on old mid batch t on (settled_sound settles s) fits (λ i none. by_old i none on (slice_get old.rows i) refl) (closed_settled settles)
    where
      by_old : (i : ℕ) → slice_get mid.rows i ≡ None → Onward old mid → (o : Option RowState) → slice_get old.rows i ≡ o → slice_get old.rows i ≡ None
      by_old i none on None is = is
      by_old i none on (Some was) is = absurd (let now = on.rows t i was is in let bad = sym none ∙ now.1 in cc)

  stays_so : new.rows ≡ old.rows → new.doubt ≡ old.doubt → IsSound new → Result
  stays_so rows doubt sound = (leaves_sound new sound, rested (went_nowhere old new rows doubt), stay_same old.rows new.rows rows, closed_same old new rows doubt)

  to_mid : {mid : Machine} → Settles old mid → RowsStay old.rows mid.rows
  to_mid {mid} settles = stay_on old mid t (onward_settled s settles)

  -- no row becomes a base, and no new name is in doubt
  closes_none : {mid : Machine} → Settles old mid → ((i : ℕ) → IsBase new.rows i → IsBase mid.rows i) → ((i : ℕ) (name : List ℕ) → new.doubt ≡ Some (Renames i name) → ⊥) → ClosesNone old new
  closes_none settles stay none i (is_base b) = closed_settled settles i (is_base (stay i b))
  closes_none settles stay none i (may_be_base name row here is) = absurd (none i name is)

  settles_so : {mid : Machine} → Settles old mid → Same mid new → Result
  settles_so {mid} settles same =
      let rows : new.rows ≡ mid.rows = ap (λ (m : Machine). m.rows) same in
      let none : new.doubt ≡ None = ap (λ (m : Machine). m.doubt) same ∙ settled_none settles in (
        leaves_sound new (same_sound mid new same (settled_sound settles s)),
        rested (record { settled = λ i. subst (λ w. SettledAt old w i) (sym rows) (settled_durable settles s t tails i); doubt = inl (no_samples new.doubt none) }),
        stay_trans old.rows mid.rows new.rows (to_mid settles) (stay_same mid.rows new.rows rows),
        λ i c. closed_settled settles i (closed_same mid new rows (ap (λ (m : Machine). m.doubt) same) i c),
      )

  told_mid : {mid : Machine} → Settles old mid → mid.told ≡ true
  told_mid settles = (onward_settled s settles).told ∙ t

  flushes_so : {mid : Machine} → Settles old mid → Same (made [] (appends batch mid) (with_batch batch mid)) new → Result
  flushes_so {mid} settles same =
      let sound : IsSound (with_batch batch mid) = batch_sound mid batch (settled_sound settles s) (settled_none settles) (fits_mid settles) in
      let rows : new.rows ≡ (made [] (appends batch mid) (with_batch batch mid)).rows = ap (λ (m : Machine). m.rows) same in
      let none : new.doubt ≡ None = ap (λ (m : Machine). m.doubt) same ∙ settled_none settles in (
        leaves_sound new (own_change (with_batch batch mid) new [] (appends batch mid) sound (settled_none settles) (may_append mid batch) tt refl same),
        flushed mid.rows (settled_durable settles s t tails) (λ i. ap (λ (m : Machine). durable_in m.rows i) same ∙ written mid batch sound (told_mid settles) (fits_mid settles) i) (no_samples new.doubt none),
        stay_trans old.rows mid.rows new.rows (to_mid settles)
            (stay_trans mid.rows (with_batch batch mid).rows new.rows (with_stay mid batch)
            (stay_trans (with_batch batch mid).rows (made [] (appends batch mid) (with_batch batch mid)).rows new.rows
            (stay_on (with_batch batch mid) (made [] (appends batch mid) (with_batch batch mid)) (told_mid settles) (onward_made (with_batch batch mid) [] (appends batch mid) sound (may_append mid batch)))
            (stay_same (made [] (appends batch mid) (with_batch batch mid)).rows new.rows rows))),
        closes_none settles
            (λ i b. with_bases mid batch i (made_bases mid.told mid.limbo (appends batch mid) (with_batch batch mid).rows (λ k name is. cc) i (bases_same (made [] (appends batch mid) (with_batch batch mid)).rows new.rows rows i b)))
            (λ i name is. let bad = sym none ∙ is in cc),
      )

  fails_so : {mid : Machine} (change : Change) → Settles old mid → Some (appends batch mid) ≡ Some change → Same (record mid { doubt = Some change }) new → Result
  fails_so {mid} change settles is same =
      let one : appends batch mid ≡ change = cc in
      let own : new ≡ record mid { doubt = Some (appends batch mid); faults = new.faults } = same ∙ ap (λ c. record mid { doubt = Some c; faults = new.faults }) (sym one) in
      let sound : IsSound (with_batch batch mid) = batch_sound mid batch (settled_sound settles s) (settled_none settles) (fits_mid settles) in
      let doubting : IsSound (record (with_batch batch mid) { doubt = Some (appends batch mid) }) = with_doubt mid.rule mid.told (with_batch batch mid).rows mid.limbo mid.pins mid.moves mid.doubt (appends batch mid) sound (may_append mid batch, tt) in
      let long : length mid.rows ≡ length (with_batch batch mid).rows = sym (with_length mid batch) in
      let leaves : LeavesSound (record mid { doubt = Some (appends batch mid); faults = new.faults }) = λ n olds. likes_sound n olds (record (with_batch batch mid) { doubt = Some (appends batch mid) }) mid.rows doubting long (with_alike mid batch) in
      let rows : new.rows ≡ mid.rows = ap (λ (m : Machine). m.rows) own in (
        subst (λ m. LeavesSound m) (sym own) leaves,
        failed (λ i. subst (λ w. SettledAt old w i) (sym rows) (settled_durable settles s t tails i))
            (λ i. ap (λ (m : Machine). doubted m.doubt i) own
            ∙ (later_row (ends_in mid.rows) batch i ∙ (ap (λ k. since k (of_row i batch)) (ends_are mid.rows i) ∙ ap (λ w. since (end_of (durable_in w i)) (of_row i batch)) (sym rows)))),
        stay_trans old.rows mid.rows new.rows (to_mid settles) (stay_same mid.rows new.rows rows),
        closes_none settles (λ i b. bases_same mid.rows new.rows rows i b) (λ i name bad. let two : Some (appends batch mid) ≡ Some (Renames i name) = sym (ap (λ (m : Machine). m.doubt) own) ∙ bad in cc),
      )

-- a flush that is done has settled a doubt, and then all of the batch is durable
abbrev pub FlushDone : Machine → Machine → List RowSamples → Type 0
FlushDone old new batch = (mid : List RowState) × ((i : ℕ) → SettledAt old mid i) × ((i : ℕ) → durable_in new.rows i ≡ over (durable_in mid i) (of_row i batch))

pub flush_done : (batch : List RowSamples) (left doors : ℕ) {old new : Machine} {reply : Reply} → IsSound old → old.told ≡ true → HasDoubtedTails old → BatchFits old.rows old.doubt batch
    → Acts (λ m. None) (FlushesBatch batch left doors) (λ m. Some (appends batch m)) all_go old reply new → (samples bytes doors_left : ℕ) → reply ≡ Flushed samples bytes doors_left → FlushDone old new batch
flush_done batch left doors s t tails fits (refused_at_once answer p) samples bytes doors_left is = absurd cc
flush_done batch left doors s t tails fits (refused answer p settles q same r) samples bytes doors_left is = absurd cc
flush_done batch left doors {old} {new} s t tails fits (runs {mid = mid} answer p settles q ran r) samples bytes doors_left is =
    let fit = fits_mid batch left doors old new s t tails fits settles in
    let sound : IsSound (with_batch batch mid) = batch_sound mid batch (settled_sound settles s) (settled_none settles) fit in (
      mid.rows,
      settled_durable settles s t tails,
      λ i. ap (λ (m : Machine). durable_in m.rows i) ran.1 ∙ written mid batch sound (told_mid batch left doors old new s t tails fits settles) fit i,
    )
flush_done batch left doors s t tails fits (faults_first p same q) samples bytes doors_left is = absurd cc
flush_done batch left doors s t tails fits (faults_between p settles same q) samples bytes doors_left is = absurd cc
flush_done batch left doors s t tails fits (faults_within change p settles q r same u) samples bytes doors_left is = absurd cc
flush_done batch left doors s t tails fits (faults_removing answer removes p settles q ran r) samples bytes doors_left is = absurd cc
flush_done batch left doors s t tails fits (wants_memory same q) samples bytes doors_left is = absurd cc
flush_done batch left doors s t tails fits (wants_memory_settled p settles same q) samples bytes doors_left is = absurd cc

pub flush_went : (batch : List RowSamples) (left doors : ℕ) {old new : Machine} {reply : Reply} → IsSound old → old.told ≡ true → HasDoubtedTails old → BatchFits old.rows old.doubt batch
    → Acts (λ m. None) (FlushesBatch batch left doors) (λ m. Some (appends batch m)) all_go old reply new → LeavesSound new × FlushWent old new batch × RowsStay old.rows new.rows × ClosesNone old new
flush_went batch left doors s t tails fits (refused_at_once answer p) = absurd cc
flush_went batch left doors s t tails fits (refused answer p settles q same r) = absurd cc
flush_went batch left doors {old} {new} s t tails fits (runs answer p settles q ran r) = flushes_so batch left doors old new s t tails fits settles ran.1
flush_went batch left doors {old} {new} s t tails fits (faults_first p same q) =
    stays_so batch left doors old new s t tails fits (ap (λ (m : Machine). m.rows) same) (ap (λ (m : Machine). m.doubt) same) (same_sound old new same s)
flush_went batch left doors {old} {new} s t tails fits (faults_between p settles same q) = settles_so batch left doors old new s t tails fits settles same
flush_went batch left doors {old} {new} s t tails fits (faults_within change p settles q is same u) = fails_so batch left doors old new s t tails fits change settles is same
flush_went batch left doors {old} {new} s t tails fits (faults_removing answer removes p settles q ran r) = flushes_so batch left doors old new s t tails fits settles ran.1
flush_went batch left doors {old} {new} s t tails fits (wants_memory same q) =
    stays_so batch left doors old new s t tails fits (ap (λ (m : Machine). m.rows) same) (ap (λ (m : Machine). m.doubt) same) (same_sound old new same s)
flush_went batch left doors {old} {new} s t tails fits (wants_memory_settled p settles same q) = settles_so batch left doors old new s t tails fits settles same
