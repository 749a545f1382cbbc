-- A variable gets a new name by what a Look told: what isn't refused, and that the machine stays sound.
use Rattle.std.proofs.Common.{◌≡◌, ℕ, ◌+◌, ◌<◌, ◌≤◌, List, [], ◌∷◌, length, Option, Some, None, Bool, true, false, cond, suc, refl, ap, sym, ◌∙◌, subst, arith, inl, inr}
use Rattle.std.specs.Prelude.{◌⊎◌, nat_le, slice_get}
use Rattle.std.proofs.lemmas.Bool.Decides.{nat_tests}
use Rattle.std.proofs.lemmas.Option.{same_Some}
use Rattle.pb_messages.specs.declared.about.State.{State}
use Rattle.pb_messages.specs.declared.about.State.TheVariants.{Paused}
use Rattle.pv_name.specs.Key.{key_of}
use Rattle.series_model.specs.Series.{since, end_of}
use Rattle.act_model.specs.Changes.{changed_rows, made, Settles}
use Rattle.act_model.specs.Machine.{Machine, Change, Renames, find_row, place, same_bytes}
use Rattle.act_model.specs.Outcome.{Acts, all_go, Makes, Same, refused_at_once, refused, runs, faults_first, faults_between, faults_within, faults_removing, wants_memory, wants_memory_settled}
use Rattle.act_model.specs.Register.{register_refused}
use Rattle.act_model.specs.Rename.{renames_of}
use Rattle.act_model.specs.Reply.{Reply}
use Rattle.act_model.specs.Rows.{RowState, durable, is_empty, is_paused}
use Rattle.act_model.specs.Sound.{MayRename, IsSound}
use Rattle.act_model.proofs.Onward.{onward_settled, onward_made}
use Rattle.act_model.proofs.RowActs.{register_may, paused_is, none_is, same_bytes_is}
use Rattle.act_model.proofs.StepLaws.{settled_sound, settled_none, same_sound, own_change, with_doubt}
use Rattle.two_histories.specs.ArchiveIntake.{RowLook}
use Rattle.two_histories.specs.ArchiveStore.{appended}
use Rattle.two_histories.specs.StoreStep.{ends_in, rename_refused_at, seen_by, HasNewName, with_batch}
use Rattle.two_histories.proofs.Batches.{BatchFits, batch_sound, end_is}
use Rattle.two_histories.proofs.Closing.{IsClosed, bases_same, MakesBase, made_base}
use Rattle.two_histories.proofs.Flushing.{LeavesSound, leaves_sound, RowsStay, stay_same, stay_trans, stay_on, batch_row, with_length, with_back, with_alike, with_stay, with_bases, with_keeps}
use Rattle.two_histories.proofs.Keeping.{KeepsDurable, keep_same, keep_trans, renames_keeps}
use Rattle.two_histories.proofs.Retailed.{IsBase}
use Rattle.two_histories.proofs.Settling.{HasDoubtedTails, Went, Closes, acts_went}
use Rattle.two_histories.proofs.StoreSound.{likes_sound}

-- ROWS BY NAME

-- the row at a place passes
place_passes : (p : RowState → Bool) (k : ℕ) (rows : List RowState) (i : ℕ) → place p k rows ≡ Some i → (j : ℕ) × (i ≡ k + j) × ((row : RowState) × (slice_get rows j ≡ Some row) × (p row ≡ true))
place_passes p k [] i here = absurd cc
place_passes p k (row ∷ rows) i here = by_test (p row) refl here (place_passes p (k + 1) rows i)
  where
    by_test : (b : Bool) → p row ≡ b → cond b (Some k) (place p (k + 1) rows) ≡ Some i
        → (place p (k + 1) rows ≡ Some i → (j : ℕ) × (i ≡ (k + 1) + j) × ((other : RowState) × (slice_get rows j ≡ Some other) × (p other ≡ true)))
        → (j : ℕ) × (i ≡ k + j) × ((other : RowState) × (slice_get (row ∷ rows) j ≡ Some other) × (p other ≡ true))
    by_test true is here more = let same : k ≡ i = same_Some k i here in (0, omega arith, (row, refl, is))
    by_test false is here more = let rest = more here in let low = rest.1 in (suc rest.0, omega arith, (rest.2.0, rest.2.1, rest.2.2))

pub found_name : (m : Machine) (name : List ℕ) (i : ℕ) (row : RowState) → find_row m name ≡ Some i → slice_get m.rows i ≡ Some row → row.name ≡ name
found_name m name i row found here =
    let x = place_passes (λ r. same_bytes r.name name) 0 m.rows i found in
    let plain : x.0 ≡ i = (let at = x.1 in omega arith) in
    let same : x.2.0 ≡ row = same_Some x.2.0 row (sym x.2.1 ∙ (ap (λ n. slice_get m.rows n) plain ∙ here)) in
    ap (λ (r : RowState). r.name) (sym same) ∙ same_bytes_is x.2.0.name name x.2.2

-- WHAT ISN'T REFUSED

-- the row is paused, hasn't changed since the Look, and all of its tail is durable
pub record MayGoOn (number : ℕ → State → ℕ) (newname : List ℕ) (look : RowLook) (m : Machine) (i : ℕ) : Type 0 where
  pub row : RowState
  pub here : slice_get m.rows i ≡ Some row
  pub paused : row.state ≡ Paused
  pub seen : number i Paused ≤ seen_by look
  pub free : register_refused newname m ≡ None
  pub all : since (end_of (durable row)) look.tail ≡ []

pub rename_free : (number : ℕ → State → ℕ) (found : Option ℕ) (newname : List ℕ) (look : RowLook) (m : Machine) → rename_refused_at number found newname look m ≡ None → (i : ℕ) → find_row m look.name ≡ Some i → MayGoOn number newname look m i
rename_free number found newname look m none i here = by_row (slice_get m.rows i) refl
  where
    by_tail : (row : RowState) → slice_get m.rows i ≡ Some row → is_paused row.state ≡ true → nat_le (number i row.state) (seen_by look) ≡ true → register_refused newname m ≡ None → (b : Bool) → is_empty (since (ends_in m.rows i) look.tail) ≡ b → MayGoOn number newname look m i
    by_tail row there up seen free true empty =
        let paused : row.state ≡ Paused = paused_is row.state up in
        record {
          row = row;
          here = there;
          paused = paused;
          seen = subst (λ w. number i w ≤ seen_by look) paused (grind (arith, nat_tests));
          free = free;
          all = ap (λ k. since k look.tail) (sym (end_is m.rows i row there)) ∙ none_is (since (ends_in m.rows i) look.tail) empty;
        }
    by_tail row there up seen free false some = absurd (let bad = rw (here, there, up, seen, free, some) at none in cc)

    by_newname : (row : RowState) → slice_get m.rows i ≡ Some row → is_paused row.state ≡ true → nat_le (number i row.state) (seen_by look) ≡ true → (o : Option Reply) → register_refused newname m ≡ o → MayGoOn number newname look m i
    by_newname row there up seen None free = by_tail row there up seen free (is_empty (since (ends_in m.rows i) look.tail)) refl
    by_newname row there up seen (Some reply) taken = absurd (let bad = rw (here, there, up, seen, taken) at none in cc)

    by_seen : (row : RowState) → slice_get m.rows i ≡ Some row → is_paused row.state ≡ true → (b : Bool) → nat_le (number i row.state) (seen_by look) ≡ b → MayGoOn number newname look m i
    by_seen row there up true seen = by_newname row there up seen (register_refused newname m) refl
    by_seen row there up false seen = absurd (let bad = rw (here, there, up, seen) at none in cc)

    by_paused : (row : RowState) → slice_get m.rows i ≡ Some row → (b : Bool) → is_paused row.state ≡ b → MayGoOn number newname look m i
    by_paused row there true up = by_seen row there up (nat_le (number i row.state) (seen_by look)) refl
    by_paused row there false up = absurd (let bad = rw (here, there, up) at none in cc)

    by_row : (o : Option RowState) → slice_get m.rows i ≡ o → MayGoOn number newname look m i
    by_row (Some row) there = by_paused row there (is_paused row.state) refl
    by_row None gone = absurd (let bad = rw (here, gone) at none in cc)

-- WHAT IS LEFT

-- a part that settles a doubt leaves sound halves of rows that stay, if what it runs does, and its own doubt
module _ (refuse : Machine → Option Reply) (run : Machine → Reply → Machine → Type 0) (change : Machine → Option Change)
    (run_leaves : (mid : Machine) (answer : Reply) (new : Machine) → IsSound mid → mid.told ≡ true → mid.doubt ≡ None → refuse mid ≡ None → run mid answer new → LeavesSound new × RowsStay mid.rows new.rows × (new.told ≡ mid.told))
    (doubt_leaves : (mid new : Machine) (one : Change) → IsSound mid → mid.doubt ≡ None → refuse mid ≡ None → change mid ≡ Some one → Same (record mid { doubt = Some one }) new → LeavesSound new) where
  abbrev Left : Machine → Machine → Type 0
  Left old new = LeavesSound new × RowsStay old.rows new.rows × (new.told ≡ true)

  same_left : (old new : Machine) → IsSound old → old.told ≡ true → Same old new → Left old new
  same_left old new s t same = (leaves_sound new (same_sound old new same s), stay_same old.rows new.rows (ap (λ (m : Machine). m.rows) same), ap (λ (m : Machine). m.told) same ∙ t)

  told_mid : {old mid : Machine} → Settles old mid → IsSound old → old.told ≡ true → mid.told ≡ true
  told_mid settles s t = (onward_settled s settles).told ∙ t

  settled_left : {old mid : Machine} (new : Machine) → Settles old mid → IsSound old → old.told ≡ true → Left mid new → Left old new
  settled_left {old} {mid} new settles s t left = (left.0, stay_trans old.rows mid.rows new.rows (stay_on old mid t (onward_settled s settles)) left.1, left.2)

  ran_left : {old mid : Machine} (answer : Reply) (new : Machine) → Settles old mid → IsSound old → old.told ≡ true → refuse mid ≡ None → run mid answer new → Left old new
  ran_left {old} {mid} answer new settles s t free ran =
      let x = run_leaves mid answer new (settled_sound settles s) (told_mid settles s t) (settled_none settles) free ran in settled_left new settles s t (x.0, x.1, x.2 ∙ told_mid settles s t)

  pub acts_leave : {old new : Machine} {answer : Reply} → IsSound old → old.told ≡ true → Acts refuse run change all_go old answer new → Left old new
  acts_leave {old} {new} s t (refused_at_once answer p) = same_left old old s t refl
  acts_leave {old} {new} s t (refused {mid = mid} answer p settles q same r) = settled_left new settles s t (same_left mid new (settled_sound settles s) (told_mid settles s t) same)
  acts_leave {old} {new} s t (runs answer p settles q ran r) = ran_left answer new settles s t q ran
  acts_leave {old} {new} s t (faults_first p same q) = same_left old new s t same
  acts_leave {old} {new} s t (faults_between {mid = mid} p settles same q) = settled_left new settles s t (same_left mid new (settled_sound settles s) (told_mid settles s t) same)
  acts_leave {old} {new} s t (faults_within {mid = mid} one p settles q r same u) =
      settled_left new settles s t (
        doubt_leaves mid new one (settled_sound settles s) (settled_none settles) q r same,
        stay_same mid.rows new.rows (ap (λ (m : Machine). m.rows) same),
        ap (λ (m : Machine). m.told) same ∙ told_mid settles s t,
      )
  acts_leave {old} {new} s t (faults_removing answer removes p settles q ran r) = ran_left answer new settles s t q ran
  acts_leave {old} {new} s t (wants_memory same q) = same_left old new s t same
  acts_leave {old} {new} s t (wants_memory_settled {mid = mid} p settles same q) = settled_left new settles s t (same_left mid new (settled_sound settles s) (told_mid settles s t) same)

-- WITHOUT TAILS

fits_none : (rows : List RowState) (doubt : Option Change) → BatchFits rows doubt []
fits_none rows doubt = record { rising = λ i. tt; lines = λ i row here. tt; past = λ i none. refl; closed = λ i row here c. refl; bytes = omega arith }

module _ (number : ℕ → State → ℕ) (found : Option ℕ) (newname : List ℕ) (look : RowLook) where
  abbrev refuse : Machine → Option Reply
  refuse = rename_refused_at number found newname look

  may : (mid : Machine) (i : ℕ) → refuse mid ≡ None → find_row mid look.name ≡ Some i → MayRename (with_batch [] mid).rows i newname
  may mid i free here =
      let x = rename_free number found newname look mid free i here in
      let add = register_may newname mid x.free in
      record {
        add = record {
          room = (let room : length mid.rows < 65536 = add.room in let long = with_length mid [] in omega arith);
          free = λ k new there same. let o = with_back mid [] k new there in add.free k o.0 o.1 (ap (λ (r : RowState). key_of r.name) (sym o.2) ∙ same);
        };
        paused = λ new there. let o = with_back mid [] i new there in ap (λ (r : RowState). r.state) (o.2 ∙ ap (λ r. batch_row mid [] i r) (same_Some o.0 x.row (sym o.1 ∙ x.here))) ∙ x.paused;
        none = λ new there. let o = with_back mid [] i new there in ap (λ (r : RowState). r.tail) o.2;
      }

  bare_sound : (mid : Machine) → IsSound mid → mid.doubt ≡ None → IsSound (with_batch [] mid)
  bare_sound mid s none = batch_sound mid [] s none (fits_none mid.rows mid.doubt)

  run_leaves : (mid : Machine) (answer : Reply) (new : Machine) → IsSound mid → mid.told ≡ true → mid.doubt ≡ None → refuse mid ≡ None → HasNewName newname look mid answer new → LeavesSound new × RowsStay mid.rows new.rows × (new.told ≡ mid.told)
  run_leaves mid answer new s t none free ran =
      let i = ran.1.0 in
      let bare = with_batch [] mid in
      let sound = bare_sound mid s none in
      let ready = may mid i free ran.1.1 in (
        leaves_sound new (own_change bare new [] (Renames i newname) sound none ready tt refl ran.1.2),
        stay_trans mid.rows bare.rows new.rows (with_stay mid [])
            (stay_trans bare.rows (made [] (Renames i newname) bare).rows new.rows (stay_on bare (made [] (Renames i newname) bare) t (onward_made bare [] (Renames i newname) sound ready))
            (stay_same (made [] (Renames i newname) bare).rows new.rows (ap (λ (m : Machine). m.rows) ran.1.2))),
        ap (λ (m : Machine). m.told) ran.1.2,
      )

  doubt_leaves : (mid new : Machine) (one : Change) → IsSound mid → mid.doubt ≡ None → refuse mid ≡ None → renames_of newname (find_row mid look.name) ≡ Some one → Same (record mid { doubt = Some one }) new → LeavesSound new
  doubt_leaves mid new one s none free is same = by_row (find_row mid look.name) refl is
    where
      by_row : (o : Option ℕ) → find_row mid look.name ≡ o → renames_of newname o ≡ Some one → LeavesSound new
      by_row None gone is = absurd cc
      by_row (Some i) here is =
          let by : Renames i newname ≡ one = cc in
          let bare = with_batch [] mid in
          let doubting : IsSound (record bare { doubt = Some (Renames i newname) }) = with_doubt mid.rule mid.told bare.rows mid.limbo mid.pins mid.moves mid.doubt (Renames i newname) (bare_sound mid s none) (may mid i free here, tt) in
          let left : LeavesSound (record mid { doubt = Some (Renames i newname); faults = new.faults }) = λ n olds. likes_sound n olds (record bare { doubt = Some (Renames i newname) }) mid.rows doubting (sym (with_length mid [])) (with_alike mid []) in
          let all : new ≡ record mid { doubt = Some (Renames i newname); faults = new.faults } = same ∙ ap (λ c. record mid { doubt = Some c; faults = new.faults }) (sym by) in
          subst (λ m. LeavesSound m) (sym all) left

  renames_none : (m : Machine) (o : Option ℕ) (one : Change) → renames_of newname o ≡ Some one → ((i : ℕ) → appended one i ≡ []) × ((k : ℕ) (name : List ℕ) → one ≡ Renames k name → o ≡ Some k)
  renames_none m (Some i) one is =
      let same : Renames i newname ≡ one = cc in (subst (λ c. (k : ℕ) → appended c k ≡ []) same (λ k. refl), λ k name by. (let both = same ∙ by in let row : i ≡ k = cc in ap (λ n. Some n) row))
  renames_none m None one is = absurd cc

  renamed : (mid new : Machine) (k : ℕ) → find_row mid look.name ≡ Some k → Makes (Renames k newname) (with_batch [] mid) new
      → KeepsDurable mid.rows new.rows × ((i : ℕ) → IsBase new.rows i → IsBase mid.rows i ⊎ (find_row mid look.name ≡ Some i)) × (new.doubt ≡ mid.doubt)
  renamed mid new k here same =
      (keep_trans mid.rows bare new.rows (with_keeps mid []) (keep_trans bare all new.rows (renames_keeps mid.told mid.limbo k newname bare) (keep_same all new.rows rows)), λ i b. by_kind i (made_base mid.told mid.limbo (Renames k newname) bare i (bases_same all new.rows rows i b)), ap (λ (m : Machine). m.doubt) same)
    where
      bare : List RowState
      bare = (with_batch [] mid).rows

      all : List RowState
      all = changed_rows mid.told mid.limbo (Renames k newname) (with_batch [] mid).rows

      rows : new.rows ≡ changed_rows mid.told mid.limbo (Renames k newname) (with_batch [] mid).rows
      rows = ap (λ (m : Machine). m.rows) same

      by_kind : (i : ℕ) → IsBase (with_batch [] mid).rows i ⊎ MakesBase (Renames k newname) (with_batch [] mid).rows i → IsBase mid.rows i ⊎ (find_row mid look.name ≡ Some i)
      by_kind i (inl was) = inl (with_bases mid [] i was)
      by_kind i (inr made) = let two = made.is in let row : k ≡ i = cc in inr (here ∙ ap (λ n. Some n) row)

  -- what it closes is the row of the name
  pub renames_went : {old new : Machine} {reply : Reply} → IsSound old → old.told ≡ true → HasDoubtedTails old → Acts refuse (HasNewName newname look) (λ m. renames_of newname (find_row m look.name)) all_go old reply new
      → Went old new × ((i : ℕ) → IsClosed new.rows new.doubt i → Closes refuse (λ m i. find_row m look.name ≡ Some i) old new i)
  renames_went s t tails step =
      acts_went refuse (HasNewName newname look) (λ m. renames_of newname (find_row m look.name)) all_go (λ m i. find_row m look.name ≡ Some i)
      (λ mid answer new s t p. renamed mid new p.1.0 p.1.1 p.1.2) (λ m one is. renames_none m (find_row m look.name) one is) s t tails step

  pub renames_leave : {old new : Machine} {reply : Reply} → IsSound old → old.told ≡ true → Acts refuse (HasNewName newname look) (λ m. renames_of newname (find_row m look.name)) all_go old reply new
      → LeavesSound new × RowsStay old.rows new.rows × (new.told ≡ true)
  renames_leave s t step = acts_leave refuse (HasNewName newname look) (λ m. renames_of newname (find_row m look.name)) run_leaves doubt_leaves s t step
