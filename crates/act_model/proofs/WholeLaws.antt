-- The whole of a row rises, is known to admission by its end, and only grows; and what a crash leaves of it lies between what was durable
-- and what is accepted. Own lists go on to follow the wholes of their bases.
use Rattle.std.proofs.Common.{◌≡◌, ℕ, ◌<◌, List, [], ◌∷◌, ◌++◌, length, Option, Some, None, zero, suc, Bool, true, refl, ap, sym, ◌∙◌, arith, subst, append-nil, append_assoc}
use Rattle.std.specs.Prelude.{◌↔◌, slice_get}
use Rattle.std.proofs.lemmas.List.{length-append}
use Rattle.std.proofs.lemmas.Option.{same_Some}
use Rattle.series_model.specs.declared.sample.Sample.{Sample}
use Rattle.series_model.specs.Archive.{Extends, IsPrefix}
use Rattle.series_model.specs.Series.{since, end_of, over, IsRising, RisesFrom}
use Rattle.series_model.proofs.RisingLists.{RisesFrom-front, RisesFrom-rest, since-append}
use Rattle.series_model.proofs.OverLemmas.{over_rising}
use Rattle.pb_messages.specs.declared.about.State.TheVariants.{Retired}
use Rattle.act_model.specs.declared.acts.Act.{Act}
use Rattle.act_model.specs.Rows.{RowState, durable, accepted}
use Rattle.act_model.specs.Whole.{past, whole, AllFollow}
use Rattle.act_model.specs.Machine.{Machine}
use Rattle.act_model.specs.Sound.{BasesSound, IsSound}
use Rattle.act_model.specs.Step.{change_by, refuse_by}
use Rattle.act_model.specs.Crash.{LeftWithin, Between, of_row_there, of_no_row, WholesBetween}
use Rattle.act_model.specs.Growth.{RowOn, RowsOn, Onward}
use Rattle.act_model.specs.History.{Entry, Runs}
use Rattle.act_model.proofs.Wholes.{Beside, together, over_nothing, whole_is, whole_none, all_follow, past_stays, whole_goes}
use Rattle.act_model.proofs.Bases.{before_of, accepted_rises}
use Rattle.act_model.proofs.Onward.{durable_accepted, onward_trans, prefix_trans, rows_refl}
use Rattle.act_model.proofs.StepOnward.{crash_within, left_on}
use Rattle.act_model.proofs.Histories.{runs_onward, runs_sound}
use Rattle.act_model.proofs.NextLife.{left_bases}

-- A SOUND MACHINE

module _ (own : RowState → List Sample) (m : Machine) (s : IsSound m) where
  -- the whole of a row by that of its base
  by_base : (i : ℕ) (row : RowState) → slice_get m.rows i ≡ Some row → whole own m.rows i ≡ over (past own m.rows row.base) (own row)
  by_base i row here = whole_is own m.rows i row here (λ b is. (before_of m.told m.rows s.bases i row b here is).below)

pub whole_over_base : (own : RowState → List Sample) (m : Machine) → IsSound m → (i : ℕ) (row : RowState) → slice_get m.rows i ≡ Some row
    → (row.base ≡ None → whole own m.rows i ≡ own row) × ((b : ℕ) → row.base ≡ Some b → whole own m.rows i ≡ over (whole own m.rows b) (own row))
whole_over_base own m s i row here = (
  λ none. by_base own m s i row here ∙ (ap (λ o. over (past own m.rows o) (own row)) none ∙ over_nothing (own row)),
  λ b is. by_base own m s i row here ∙ ap (λ o. over (past own m.rows o) (own row)) is,
)

-- the whole of each row rises
rising : (m : Machine) → IsSound m → (n i : ℕ) (row : RowState) → i < n → slice_get m.rows i ≡ Some row → IsRising (whole accepted m.rows i)
rising m s zero i row low here = absurd (omega arith)
rising m s (suc n) i row low here =
    subst (λ w. IsRising w) (sym (by_base accepted m s i row here)) (over_base row.base refl (λ b base lower there. rising m s n b base lower there))
  where
    over_base : (o : Option ℕ) → row.base ≡ o → ((b : ℕ) (base : RowState) → b < n → slice_get m.rows b ≡ Some base → IsRising (whole accepted m.rows b)) → IsRising (over (past accepted m.rows o) (accepted row))
    over_base None is more = subst (λ w. IsRising w) (sym (over_nothing (accepted row))) (accepted_rises m.told row (s.each_row i row here))
    over_base (Some b) is more =
        let o = s.bases.over i row b here is in
        let lower : b < i = o.below in
        over_rising (whole accepted m.rows b) (accepted row) (more b o.base (omega arith) o.here) (accepted_rises m.told row (s.each_row i row here))

-- TWO STATES

prefix_over : (front xs ys : List Sample) → IsPrefix xs ys → IsPrefix (over front xs) (over front ys)
prefix_over front xs ys p =
    let e = end_of front in
    let both : since e ys ≡ since e xs ++ since e p.0 = ap (λ w. since e w) p.1 ∙ since-append e xs p.0 in
    (since e p.0, ap (λ w. front ++ w) both ∙ sym (append_assoc front (since e xs) (since e p.0)))

-- a base has no tail, so all that is accepted of it is durable
no_tail_durable : (row : RowState) → row.tail ≡ [] → accepted row ≡ durable row
no_tail_durable row none = ap (λ w. durable row ++ since (end_of (durable row)) w) none ∙ append-nil (durable row)

-- of two lists, each beginning with the other, there is one
no_longer : (a b c : List Sample) → IsPrefix a b → IsPrefix b c → c ≡ a → b ≡ a
no_longer a b c p q same = by_rest p.0 p.1 (let first = ap length p.1 in let second = ap length q.1 in let third = ap length same in let one = length-append a p.0 in let two = length-append b q.0 in omega arith)
  where
    by_rest : (rest : List Sample) → b ≡ a ++ rest → length rest ≡ 0 → b ≡ a
    by_rest [] is short = is ∙ append-nil a
    by_rest (x ∷ rest) is short = absurd (omega arith)

-- where rows go on, and the own lists of bases stay, the whole of a row changes as its own list does
module _ (own own' : RowState → List Sample) (told : Bool) (rows news : List RowState) (s : BasesSound told rows) (on : RowsOn rows news)
    (still : (row new : RowState) → row.tail ≡ [] → row.state ≡ Retired → RowOn row new → own' new ≡ own row) where
  beside : (i : ℕ) (row : RowState) → slice_get rows i ≡ Some row → Beside own own' rows news i row
  beside i row here =
      let x = on i row here in
      record {
        new = x.0;
        there = x.1;
        base = x.2.base;
        still = λ j above there is.
            let o = s.over j above i there is in
            let same : o.base ≡ row = same_Some o.base row (sym o.here ∙ here) in
            still row x.0 (ap (λ (r : RowState). r.tail) (sym same) ∙ o.none) (ap (λ (r : RowState). r.state) (sym same) ∙ o.retired) x.2;
      }

  past_on : (i : ℕ) (row : RowState) → slice_get rows i ≡ Some row → past own' news row.base ≡ past own rows row.base
  past_on i row here = past_stays own own' rows news (before_of told rows s) beside i row here

  whole_on : (i : ℕ) (row : RowState) (here : slice_get rows i ≡ Some row) → whole own' news i ≡ over (past own rows row.base) (own' (on i row here).0)
  unfolding beside
  whole_on i row here = whole_goes own own' rows news (before_of told rows s) beside i row here

  wholes_extend : ((row new : RowState) → RowOn row new → IsPrefix (own row) (own' new)) → Extends (whole own' news) (whole own rows)
  wholes_extend grows i = by_row (slice_get rows i) refl
    where
      by_row : (o : Option RowState) → slice_get rows i ≡ o → IsPrefix (whole own rows i) (whole own' news i)
      by_row (Some row) here =
          let x = on i row here in
          let old = whole_is own rows i row here (λ b is. (before_of told rows s i row b here is).below) in
          let p = prefix_over (past own rows row.base) (own row) (own' x.0) (grows row x.0 x.2) in
          (p.0, whole_on i row here ∙ (p.1 ∙ ap (λ w. w ++ p.0) (sym old)))
      by_row None none = (whole own' news i, ap (λ w. w ++ whole own' news i) (sym (whole_none own rows i none)))

-- of a base the same is accepted, and durable, and that is one
abbrev Stills : (RowState → List Sample) → (RowState → List Sample) → Type 0
Stills own own' = (row new : RowState) → row.tail ≡ [] → row.state ≡ Retired → RowOn row new → own' new ≡ own row

accepted_still : Stills accepted accepted
accepted_still row new none gone on = (on.retired gone).1

durable_still : Stills durable durable
durable_still row new none gone on = no_longer (durable row) (durable new) (accepted new) on.durable_on (durable_accepted new) ((on.retired gone).1 ∙ no_tail_durable row none)

durable_accepted_still : Stills durable accepted
durable_accepted_still row new none gone on = (on.retired gone).1 ∙ no_tail_durable row none

-- the whole of each row grows: of what is accepted, and of what is durable
accepted_extends : (m : Machine) (news : List RowState) → IsSound m → RowsOn m.rows news → Extends (whole accepted news) (whole accepted m.rows)
accepted_extends m news s on = wholes_extend accepted accepted m.told m.rows news s.bases on accepted_still (λ row new go. go.accepted_on)

pub durable_extends : (m : Machine) (news : List RowState) → IsSound m → RowsOn m.rows news → Extends (whole durable news) (whole durable m.rows)
durable_extends m news s on = wholes_extend durable durable m.told m.rows news s.bases on durable_still (λ row new go. go.durable_on)

pub whole_grows : (entries : List Entry) (old new : Machine) → old.told ≡ true → IsSound old → Runs old entries new → Extends (whole accepted new.rows) (whole accepted old.rows) × Extends (whole durable new.rows) (whole durable old.rows)
whole_grows entries old new t s p = let on = (runs_onward entries old new s p).rows t in (accepted_extends old new.rows s on, durable_extends old new.rows s on)

-- what is durable of a row is the front of what is accepted, in the whole too
pub whole_list : (m : Machine) → m.told ≡ true → IsSound m → (i : ℕ) (row : RowState) → slice_get m.rows i ≡ Some row
    → IsRising (whole accepted m.rows i) × (row.next ≡ end_of (whole accepted m.rows i)) × IsPrefix (whole durable m.rows i) (whole accepted m.rows i)
whole_list m t s i row here = (
  rising m s (suc i) i row (omega arith) here,
  s.bases.exact t i row here,
  wholes_extend durable accepted m.told m.rows m.rows s.bases (rows_refl m.rows) durable_accepted_still (λ r new on. prefix_trans (durable r) (accepted r) (accepted new) (durable_accepted r) on.accepted_on) i,
)

-- WHAT FOLLOWS ITS BASE

pub follows_from_end : (own : RowState → List Sample) (m : Machine) → IsSound m → AllFollow own m.rows ↔ ((i : ℕ) (row : RowState) → slice_get m.rows i ≡ Some row → RisesFrom (end_of (past own m.rows row.base)) (own row))
follows_from_end own m s = (
  λ follow i row here. let x = follow i row here in RisesFrom-rest 0 (past own m.rows row.base) (own row) (subst (λ w. IsRising w) x.0 x.1),
  λ from_end. all_follow own m.rows (before_of m.told m.rows s.bases) from_end,
)

-- what is durable follows where what is accepted does
pub durable_follow : (told : Bool) (rows : List RowState) → BasesSound told rows → AllFollow accepted rows → AllFollow durable rows
durable_follow told rows s follow i row here =
    let p = past durable rows row.base in
    let rest = since (end_of (durable row)) row.tail in
    let x = follow i row here in
    let same : past accepted rows row.base ≡ p = past_on durable accepted told rows rows s (rows_refl rows) durable_accepted_still i row here in
    let all : IsRising ((p ++ durable row) ++ rest) = subst (λ w. IsRising w) (x.0 ∙ (ap (λ w. w ++ accepted row) same ∙ sym (append_assoc p (durable row) rest))) x.1 in
    together (whole durable rows i) p (durable row) (whole_is durable rows i row here (λ b is. (before_of told rows s i row b here is).below)) (RisesFrom-front 0 (p ++ durable row) rest all)

-- A CRASH

-- what it leaves of the whole of a row that has something of its own is a front of what is accepted later
left_whole : (act : Act) (mid left end : Machine) → mid.told ≡ true → IsSound mid → LeftWithin (refuse_by act) (change_by act) mid left → Onward mid end → (i : ℕ) (row : RowState) → slice_get left.rows i ≡ Some row → (durable row ≡ [] → ⊥)
    → IsPrefix (whole durable left.rows i) (whole accepted end.rows i)
left_whole act mid left end t s is later i row here some = by_row (crash_within act mid left t s is i row here)
  where
    further : RowsOn mid.rows left.rows
    further = (left_on act mid left s is).rows t

    by_row : Between mid.rows i row → IsPrefix (whole durable left.rows i) (whole accepted end.rows i)
    by_row (of_no_row none) = absurd (some none)
    by_row (of_row_there m there base p q) =
        let x = further i m there in
        let y = later.rows t i m there in
        let before = past durable mid.rows m.base in
        let one : whole durable left.rows i ≡ over before (durable x.0) = whole_on durable durable mid.told mid.rows left.rows s.bases further durable_still i m there in
        let two : whole accepted end.rows i ≡ over before (accepted y.0) = whole_on durable accepted mid.told mid.rows end.rows s.bases (later.rows t) durable_accepted_still i m there in
        let same : x.0 ≡ row = same_Some x.0 row (sym x.1 ∙ here) in
        let z = prefix_over before (durable row) (accepted y.0) (prefix_trans (durable row) (accepted m) (accepted y.0) q y.2.accepted_on) in
        (z.0, two ∙ (z.1 ∙ ap (λ w. w ++ z.0) (sym (one ∙ ap (λ r. over before (durable r)) same))))

pub wholes_between : (xs ys : List Entry) (act : Act) (start mid end left : Machine) → start.told ≡ true → IsSound start → Runs start xs mid → Runs mid ys end → LeftWithin (refuse_by act) (change_by act) mid left → WholesBetween start left end
wholes_between xs ys act start mid end left t s before after is =
    let sound : IsSound mid = runs_sound xs start mid s before in
    let on : Onward start mid = runs_onward xs start mid s before in
    let later : Onward mid end = runs_onward ys mid end sound after in
    let further : Onward start left = onward_trans start mid left on (left_on act mid left sound is) in
    let bases = left_bases act mid left sound is in
    record {
      extend = durable_extends start left.rows s (further.rows t);
      extended = λ i row here some. left_whole act mid left end (on.told ∙ t) sound is later i row here some;
      follow = λ f. (durable_follow bases.0 left.rows bases.1 (further.follow t f), (onward_trans start mid end on later).follow t f);
    }

-- what lies between two states lies before any later one
pub wholes_on : (start left mid end : Machine) → mid.told ≡ true → IsSound mid → Onward mid end → WholesBetween start left mid → WholesBetween start left end
wholes_on start left mid end told sound later w =
    record {
      extend = w.extend;
      extended = λ i row here some. prefix_trans (whole durable left.rows i) (whole accepted mid.rows i) (whole accepted end.rows i) (w.extended i row here some) (accepted_extends mid end.rows sound (later.rows told) i);
      follow = λ f. let both = w.follow f in (both.0, later.follow told both.1);
    }
