-- Nothing more is accepted of a row whose variable has a new name, or may have one.
use Rattle.std.proofs.Common.{◌≡◌, ℕ, ◌+◌, ◌≤◌, List, [], ◌∷◌, ◌++◌, length, take, drop, Option, Some, None, Bool, true, false, cond, refl, ap, sym, ◌∙◌, subst, arith, append-nil, append_assoc}
use Rattle.std.specs.Prelude.{◌==◌, slice_get}
use Rattle.std.proofs.lemmas.Bool.Decides.{nat_tests}
use Rattle.std.proofs.lemmas.Option.{same_Some}
use Rattle.closed_pairs.proofs.Cuts.{cut_of_take}
use Rattle.pv_name.specs.Key.{key_of}
use Rattle.pb_messages.specs.declared.about.State.{State}
use Rattle.series_model.specs.declared.sample.Sample.{Sample}
use Rattle.series_model.specs.Archive.{IsPrefix}
use Rattle.series_model.specs.Series.{IsRising, RisesFrom, end_of, end_from, since}
use Rattle.series_model.proofs.RisingLists.{since_none, since_all, since-append}
use Rattle.act_model.specs.Machine.{same_bytes}
use Rattle.act_model.specs.Rows.{is_running}
use Rattle.act_model.specs.Sound.{IsSound}
use Rattle.two_histories.specs.Histories.{left_by}
use Rattle.two_histories.proofs.Halves.{left_by_more}
use Rattle.two_histories.proofs.Lists.{prefix_through, prefix_rises, prefix_end}
use Rattle.two_histories.specs.ArchiveIntake.{IntakeHalf, IntakeRow, RowLook, known_at, known_as, look_at}
use Rattle.two_histories.specs.IntakeStep.{IntakeEntry}
use Rattle.two_histories.specs.ArchiveStore.{StoreHalf, StoreRow, doubted, machine_of}
use Rattle.two_histories.specs.StoreStep.{StoreEntry, RenamesAt, seen_by}
use Rattle.two_histories.specs.ArchiveHistories.{StoreAllowed, first_accepted}
use Rattle.two_histories.proofs.Closing.{is_base, may_be_base}
use Rattle.two_histories.proofs.IntakeLaws.{intake_did, tail_known}
use Rattle.two_histories.proofs.ArchiveJoined.{A, T, Legal, accepted_more, WasAt, IsJoined}
use Rattle.two_histories.proofs.KnownRows.{Ascends}
use Rattle.two_histories.proofs.Stepping.{half_back, half_forth, IsClosedAt}
use Rattle.two_histories.proofs.Telling.{look_told}
use Rattle.act_model.proofs.RowActs.{same_bytes-refl, same_bytes_is}

-- LISTS

-- a front beyond which nothing is later is the whole
pub nothing_later : (d a : List Sample) → IsRising a → IsPrefix d a → since (end_of d) a ≡ [] → a ≡ d
nothing_later d a rises p none =
    let parts : RisesFrom 0 (d ++ p.0) = subst IsRising p.1 rises in
    let later = rest_later 0 d p.0 parts in
    let first : since (end_of d) d ≡ [] = since_none (end_of d) 0 d (prefix_rises d a p rises) (omega arith) in
    let rest : p.0 ≡ [] = sym (since_all (end_of d) (end_of d) p.0 later (omega arith)) ∙ (sym (since-append (end_of d) d p.0 ∙ ap (λ w. w ++ since (end_of d) p.0) first) ∙ (ap (λ w. since (end_of d) w) (sym p.1) ∙ none)) in
    p.1 ∙ (ap (λ w. d ++ w) rest ∙ append-nil d)
  where
    rest_later : (n : ℕ) (xs ys : List Sample) → RisesFrom n (xs ++ ys) → RisesFrom (end_from n xs) ys
    rest_later n [] ys all = all
    rest_later n (x ∷ xs) ys all = rest_later (x.t + 1) xs ys all.1

-- what begins with a list and is it is all between
pub all_between : (d e a : List Sample) → IsRising a → IsPrefix d e → IsPrefix e a → a ≡ d → a ≡ e
all_between d e a rises p q same =
    let low = prefix_end d e p (prefix_rises e a q rises) in
    let d_rises : IsRising d = subst IsRising same rises in
    nothing_later e a rises q (ap (λ w. since (end_of e) w) same ∙ since_none (end_of e) 0 d d_rises (omega arith))

-- ROWS BY NAME

-- the row that a name finds is known by its number
pub named_at : (n : ℕ) (rows : List IntakeRow) (name : List ℕ) (k : IntakeRow) → Ascends n rows → known_as rows name ≡ Some k → (known_at rows k.row ≡ Some k) × (k.name ≡ name) × (n ≤ k.row)
named_at n [] name k up here = absurd cc
named_at n (x ∷ rows) name k up here = by_name (same_bytes x.name name) refl here (λ h. named_at (x.row + 1) rows name k up.1 h)
  where
    by_name : (b : Bool) → same_bytes x.name name ≡ b → cond b (Some x) (known_as rows name) ≡ Some k → (known_as rows name ≡ Some k → (known_at rows k.row ≡ Some k) × (k.name ≡ name) × (x.row + 1 ≤ k.row))
        → (known_at (x ∷ rows) k.row ≡ Some k) × (k.name ≡ name) × (n ≤ k.row)
    by_name true is here more =
        let same : x ≡ k = same_Some x k here in
        let number = ap (λ (y : IntakeRow). y.row) same in
        let own : (x.row == k.row) ≡ true = grind (arith, nat_tests) in
        let low : n ≤ x.row = up.0 in
        (rw own here, ap (λ (y : IntakeRow). y.name) (sym same) ∙ same_bytes_is x.name name is, omega arith)
    by_name false is here more =
        let rest = more here in
        let past : x.row + 1 ≤ k.row = rest.2 in
        let low : n ≤ x.row = up.0 in
        let apart : (x.row == k.row) ≡ false = grind (arith, nat_tests) in
        (rw apart rest.0, rest.1, omega arith)

-- a row that is known is found by its name
pub named_so : (rows : List IntakeRow) (r : ℕ) (k : IntakeRow) → known_at rows r ≡ Some k → known_as rows k.name ≡ None → ⊥
named_so [] r k here none = cc
named_so (x ∷ rows) r k here none = by_own (x.row == r) here (same_bytes x.name k.name) refl none (λ h w. named_so rows r k h w)
  where
    by_own : (b : Bool) → cond b (Some x) (known_at rows r) ≡ Some k → (c : Bool) → same_bytes x.name k.name ≡ c → cond c (Some x) (known_as rows k.name) ≡ None → (known_at rows r ≡ Some k → known_as rows k.name ≡ None → ⊥) → ⊥
    by_own b here true is none more = cc
    by_own true here false is none more =
        let same : x ≡ k = same_Some x k here in let own : same_bytes x.name k.name ≡ true = ap (λ (y : IntakeRow). same_bytes y.name k.name) same ∙ same_bytes-refl k.name in cc
    by_own false here false is none more = more here none

-- THE STORE

-- a row that is closed doesn't run
pub closed_still : (m : StoreHalf) → IsSound (machine_of 0 m) → (r : ℕ) (row : StoreRow) → slice_get m.rows r ≡ Some row → IsClosedAt m r → is_running row.state ≡ false
closed_still m s r row here (is_base b) =
    let o = s.bases.over b.at b.row r b.here b.base in
    let h = half_back (doubted m.doubt) m.rows r o.base o.here in
    let same : h.of ≡ row = same_Some h.of row (sym h.here ∙ here) in
    ap is_running (ap (λ (x : StoreRow). x.state) (sym same) ∙ (sym h.state ∙ o.retired))
closed_still m s r row here (may_be_base name old there is) =
    let h = half_back (doubted m.doubt) m.rows r old there in
    let same : h.of ≡ row = same_Some h.of row (sym h.here ∙ here) in
    ap is_running (ap (λ (x : StoreRow). x.state) (sym same) ∙ (sym h.state ∙ ((s.doubted _ is).0.paused old there)))

-- one row has a name
pub one_name : (m : StoreHalf) → IsSound (machine_of 0 m) → (i j : ℕ) (a b : StoreRow) → slice_get m.rows i ≡ Some a → slice_get m.rows j ≡ Some b → a.name ≡ b.name → i ≡ j
one_name m s i j a b here there same = s.keys i j _ _ (half_forth (doubted m.doubt) m.rows i a here) (half_forth (doubted m.doubt) m.rows j b there) (ap key_of same)

module _ (s0 : StoreHalf) (i0 : IntakeHalf) where
  -- a row was once as it was
  pub was_more : (s : List StoreEntry) (e : StoreEntry) (r changed : ℕ) (state : State) → WasAt s0 i0 s r changed state → WasAt s0 i0 (s ++ e ∷ []) r changed state
  was_more s e r changed state was = record { front = was.front; before = prefix_through was.front s (s ++ e ∷ []) was.before (e ∷ [], refl); row = was.row; here = was.here; number = was.number; state_is = was.state_is }

  -- WHAT A LOOK TOLD

  pub record LookTold (i : List IntakeEntry) (look : RowLook) : Type 0 where
    pub ahead : List IntakeEntry
    pub behind : List IntakeEntry
    pub split : i ≡ ahead ++ behind
    pub told : look ≡ look_at look.name (known_as (left_by i0 ahead).rows look.name)

  pub look_of : (s : List StoreEntry) (i : List IntakeEntry) (n : ℕ) (newname : List ℕ) (look : RowLook) → Legal s0 i0 s i → StoreAllowed (RenamesAt newname look) (take n i) → LookTold i look
  look_of s i n newname look l allowed =
      let has = allowed.1 in
      let cut = cut_of_take n i has.front has.back has.entry has.is in
      record { ahead = has.front; behind = has.entry ∷ (has.back ++ drop n i); split = cut; told = look_told (l.other has.front (has.back ++ drop n i) has.entry cut).0 look.name allowed.0 look has.such.0 has.such.1 }

  module _ (s : List StoreEntry) (i : List IntakeEntry) (j : IsJoined s0 i0 s i) (look : RowLook) (t : LookTold i look) where
    abbrev rows : List IntakeRow
    rows = (left_by i0 t.ahead).rows

    before : IsPrefix t.ahead i
    before = (t.behind, t.split)

    look_is : (o : Option IntakeRow) → known_as rows look.name ≡ o → look ≡ look_at look.name o
    look_is o is = t.told ∙ ap (λ o. look_at look.name o) is

    -- it told no change number that the store's history hadn't reached
    pub seen_low : seen_by look ≤ length s
    seen_low = by_known (known_as rows look.name) refl
      where
        by_known : (o : Option IntakeRow) → known_as rows look.name ≡ o → seen_by look ≤ length s
        by_known None none = let zero : seen_by look ≡ 0 = ap seen_by (look_is None none) in omega arith
        by_known (Some k) here =
            let at = named_at 0 rows look.name k (j.joined.sounds t.ahead before).up here in
            let was = j.changes.was t.ahead before k.row k at.0 in
            let now = j.grown.rows was.front was.before k.row was.row was.here in
            let up : was.row.changed ≤ now.0.changed = now.2.up in
            let few : now.0.changed ≤ length s = j.grown.few k.row now.0 now.1 in
            let is = was.number in
            let seen : seen_by look ≡ k.changed = ap seen_by (look_is (Some k) here) in
            omega arith

    -- the row of its name, where that hasn't changed since
    pub record Looked (r : ℕ) : Type 0 where
      pub k : IntakeRow
      pub here : known_at rows r ≡ Some k
      pub seen : seen_by look ≡ k.changed
      pub tail : look.tail ≡ T s0 i0 t.ahead r

    pub looked : (r : ℕ) (row : StoreRow) → slice_get (left_by s0 s).rows r ≡ Some row → row.name ≡ look.name → row.changed ≤ seen_by look → Looked r
    looked r row there named low = by_known (known_as rows look.name) refl
      where
        by_known : (o : Option IntakeRow) → known_as rows look.name ≡ o → Looked r
        by_known None none =
            let zero : seen_by look ≡ 0 = ap seen_by (look_is None none) in
            let first = j.changes.first t.ahead before r row there (omega arith) in
            let own = j.joined.knows t.ahead before r first.0 first.1 in
            let same : own.0 ≡ row = same_Some own.0 row (sym own.1 ∙ there) in
            let name : first.0.name ≡ look.name = sym own.2.1 ∙ (ap (λ (x : StoreRow). x.name) same ∙ named) in
            absurd (named_so rows r first.0 first.1 (ap (λ w. known_as rows w) name ∙ none))
        by_known (Some k) here =
            let at = named_at 0 rows look.name k (j.joined.sounds t.ahead before).up here in
            let own = j.joined.knows t.ahead before k.row k at.0 in
            let number : k.row ≡ r = one_name (left_by s0 s) j.joined.sound k.row r own.0 row own.1 there (own.2.1 ∙ (at.1 ∙ sym named)) in
            let is = look_is (Some k) here in
            let known : known_at rows r ≡ Some k = ap (λ w. known_at rows w) (sym number) ∙ at.0 in
            record { k = k; here = known; seen = ap seen_by is; tail = ap (λ (w : RowLook). w.tail) is ∙ sym (tail_known rows r k known) }

  -- WHAT GAINS NOTHING

  -- it wasn't running since it had this change number
  abbrev pub IsIdleSince : List StoreEntry → ℕ → ℕ → Type 0
  IsIdleSince s r from = (changed : ℕ) (state : State) → WasAt s0 i0 s r changed state → from ≤ changed → is_running state ≡ false

  pub gains_none : (s : List StoreEntry) (i : List IntakeEntry) → Legal s0 i0 s i → IsJoined s0 i0 s i → (r from : ℕ) → IsIdleSince s r from
      → (behind ahead : List IntakeEntry) → i ≡ ahead ++ behind → (k : IntakeRow) → known_at (left_by i0 ahead).rows r ≡ Some k → from ≤ k.changed → A s0 i0 i r ≡ A s0 i0 ahead r
  gains_none s i l j r from idle [] ahead is k here low = ap (λ w. A s0 i0 w r) (is ∙ append-nil ahead)
  gains_none s i l j r from idle (f ∷ behind) ahead is k here low =
      let p : IsPrefix ahead i = (f ∷ behind, is) in
      let did = intake_did (l.other ahead behind f is).0 (A s0 i0 ahead) (j.joined.sounds ahead p) in
      let down = idle k.changed k.state (j.changes.was ahead p r k here) low in
      let same : A s0 i0 (ahead ++ f ∷ []) r ≡ A s0 i0 ahead r = accepted_more (first_accepted s0 i0) i0 ahead f r ∙ did.idle r k here down in
      let on = did.up r k here in
      let up : k.changed ≤ on.0.changed = on.2 in
      let after : f.after ≡ left_by i0 (ahead ++ f ∷ []) = sym (left_by_more i0 ahead f) in
      gains_none s i l j r from idle behind (ahead ++ f ∷ []) (is ∙ sym (append_assoc ahead (f ∷ []) behind)) on.0 (ap (λ (m : IntakeHalf). known_at m.rows r) (sym after) ∙ on.1) (omega arith) ∙ same
