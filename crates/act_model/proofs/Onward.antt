-- What never falls: what is durable and what is accepted of each row, which goes on to follow its base; and what never changes.
use Rattle.std.proofs.Common.{◌≡◌, ℕ, ◌+◌, List, [], ◌∷◌, ◌++◌, Option, Some, None, true, refl, ap, sym, ◌∙◌, arith, subst, append_assoc, append-nil}
use Rattle.std.specs.Prelude.{slice_get}
use Rattle.std.specs.Ordering.{nat_cmp}
use Rattle.std.specs.FinMap.{FinMap}
use Rattle.series_model.specs.declared.sample.Sample.{Sample}
use Rattle.series_model.specs.Archive.{IsPrefix}
use Rattle.series_model.specs.Series.{since, end_of}
use Rattle.act_model.specs.Reply.{Reply}
use Rattle.act_model.specs.Rows.{RowState, durable, accepted}
use Rattle.act_model.specs.Whole.{AllFollow}
use Rattle.act_model.specs.Machine.{Machine, MoveState, Change}
use Rattle.act_model.specs.Changes.{made, changed, changed_rows, added, each, Settles, no_doubt, as_not_made, as_made}
use Rattle.act_model.specs.Outcome.{Same, Acts, refused_at_once, refused, runs, faults_first, faults_between, faults_within, faults_removing, wants_memory, wants_memory_settled}
use Rattle.act_model.specs.Sound.{MayMake, IsSound}
use Rattle.act_model.specs.Crash.{LeftBetween, as_it_is, with_doubt, LeftWithin, before_it, settled_there, with_change, Between, of_row_there, of_no_row}
use Rattle.act_model.specs.Growth.{RowOn, RowsOn, Onward}
use Rattle.act_model.proofs.ChangeLaws.{RowGoes}
use Rattle.act_model.proofs.Rows.{Came, from_row, is_new, came}
pub use Rattle.act_model.proofs.Rows.{each_forward, append_forward}
use Rattle.act_model.proofs.MadeSound.{made_follows}
use Rattle.act_model.proofs.MadeLaws.{goes, IsFresh, fresh, fresh_over, added_fresh}
use Rattle.act_model.proofs.StepLaws.{settled_sound}

pub prefix_refl : (xs : List Sample) → IsPrefix xs xs
prefix_refl xs = ([], sym (append-nil xs))

pub prefix_trans : (xs ys zs : List Sample) → IsPrefix xs ys → IsPrefix ys zs → IsPrefix xs zs
prefix_trans xs ys zs p q = (p.0 ++ q.0, q.1 ∙ (ap (λ w. w ++ q.0) p.1 ∙ append_assoc xs p.0 q.0))

-- what is durable is a front of what is accepted, always
pub durable_accepted : (row : RowState) → IsPrefix (durable row) (accepted row)
durable_accepted row = (since (end_of (durable row)) row.tail, refl)

-- THE ROWS

pub row_refl : (row : RowState) → RowOn row row
row_refl row = record { name = refl; about = refl; base = refl; retired = λ is. (is, refl); durable_on = prefix_refl (durable row); accepted_on = prefix_refl (accepted row) }

pub rows_refl : (rows : List RowState) → RowsOn rows rows
rows_refl rows = λ i row here. (row, here, row_refl row)

rows_trans : (a b c : List RowState) → RowsOn a b → RowsOn b c → RowsOn a c
rows_trans a b c p q = λ i row here. let x = p i row here in let y = q i x.0 x.1 in
    (y.0, y.1, record { name = y.2.name ∙ x.2.name; about = y.2.about ∙ x.2.about; base = y.2.base ∙ x.2.base; retired = λ is. let p = x.2.retired is in let q = y.2.retired p.0 in (q.0, q.1 ∙ p.1); durable_on = prefix_trans (durable row) (durable x.0) (durable y.0) x.2.durable_on y.2.durable_on; accepted_on = prefix_trans (accepted row) (accepted x.0) (accepted y.0) x.2.accepted_on y.2.accepted_on })

-- one row that changes
pub each_on : (f : ℕ → RowState → RowState) (rows : List RowState) → ((i : ℕ) (row : RowState) → slice_get rows i ≡ Some row → RowOn row (f i row)) → RowsOn rows (each f 0 rows)
each_on f rows on = λ i row here. let plain : 0 + i ≡ i = omega arith in (f i row, each_forward f 0 rows i row here ∙ ap (λ n. Some (f n row)) plain, on i row here)

-- THE MACHINE

pub onward_refl : (m : Machine) → Onward m m
onward_refl m = record { told = refl; rule = refl; rows = λ t. rows_refl m.rows; follow = λ t f. f }

pub onward_trans : (a b c : Machine) → Onward a b → Onward b c → Onward a c
onward_trans a b c p q = record { told = q.told ∙ p.told; rule = q.rule ∙ p.rule; rows = λ t. rows_trans a.rows b.rows c.rows (p.rows t) (q.rows (p.told ∙ t)); follow = λ t f. q.follow (p.told ∙ t) (p.follow t f) }

-- where the rows stay, and what never changes
pub onward_same : (old new : Machine) → new.told ≡ old.told → new.rule ≡ old.rule → new.rows ≡ old.rows → Onward old new
onward_same old new a b c = record { told = a; rule = b; rows = λ t. subst (λ w. RowsOn old.rows w) (sym c) (rows_refl old.rows); follow = λ t f. subst (λ w. AllFollow accepted w) (sym c) f }

pub onward_counts : (old new : Machine) → Same old new → Onward old new
onward_counts old new same = onward_same old new (ap (λ (m : Machine). m.told) same) (ap (λ (m : Machine). m.rule) same) (ap (λ (m : Machine). m.rows) same)

pub onward_made : (m : Machine) (into : _) (change : Change) → IsSound m → MayMake m.rule m.told m.rows m.limbo change → Onward m (made into change m)
onward_made m into change s may =
    record {
      told = refl;
      rule = refl;
      rows = λ t i row here.
          let g : RowGoes m.told row (changed m.told m.limbo change i row) = goes m.rule m.told m.rows m.limbo change s.each_row s.each_file may i row here in
          let plain : 0 + i ≡ i = omega arith in
          let there : slice_get (each (changed m.told m.limbo change) 0 m.rows) i ≡ Some (changed m.told m.limbo change i row) = each_forward (changed m.told m.limbo change) 0 m.rows i row here ∙ ap (λ n. Some (changed m.told m.limbo change n row)) plain in
          (changed m.told m.limbo change i row, append_forward (each (changed m.told m.limbo change) 0 m.rows) (added change m.rows) i (changed m.told m.limbo change i row) there, record { name = g.name; about = g.about; base = g.base; retired = λ is. (g.stays_retired is, g.same t); durable_on = g.more t; accepted_on = ([], g.same t ∙ sym (append-nil (accepted row))) });
      follow = made_follows m change s may;
    }

pub onward_settled : {old mid : Machine} → IsSound old → Settles old mid → Onward old mid
onward_settled {old} s (no_doubt is) = onward_refl old
onward_settled {old} s (as_not_made change is) = onward_same old (record old { doubt = None }) refl refl refl
onward_settled {old} s (as_made change into is stays) = onward_trans old (made into change old) (record (made into change old) { doubt = None }) (onward_made old into change s (s.doubted change is).0) (onward_same (made into change old) (record (made into change old) { doubt = None }) refl refl refl)

module _ (refuse : Machine → Option Reply) (run : Machine → Reply → Machine → Type 0) (change : Machine → Option Change) (stopped : FinMap nat_cmp MoveState → FinMap nat_cmp MoveState)
    (run_on : (mid : Machine) (answer : Reply) (new : Machine) → IsSound mid → refuse mid ≡ None → run mid answer new → Onward mid new) where
  pub Acts-onward : {old new : Machine} {answer : Reply} → IsSound old → Acts refuse run change stopped old answer new → Onward old new
  Acts-onward {old} s (refused_at_once answer p) = onward_refl old
  Acts-onward {old} {new} s (refused {mid = mid} answer p settles q same r) = onward_trans old mid new (onward_settled s settles) (onward_counts mid new same)
  Acts-onward {old} {new} s (runs {mid = mid} answer p settles q ran r) = onward_trans old mid new (onward_settled s settles) (run_on mid answer new (settled_sound settles s) q ran)
  Acts-onward {old} {new} s (faults_first p same q) = onward_same old new (ap (λ (m : Machine). m.told) same) (ap (λ (m : Machine). m.rule) same) (ap (λ (m : Machine). m.rows) same)
  Acts-onward {old} {new} s (faults_between {mid = mid} p settles same q) = onward_trans old mid new (onward_settled s settles) (onward_same mid new (ap (λ (m : Machine). m.told) same) (ap (λ (m : Machine). m.rule) same) (ap (λ (m : Machine). m.rows) same))
  Acts-onward {old} {new} s (faults_within {mid = mid} doubted p settles q r same t) = onward_trans old mid new (onward_settled s settles) (onward_same mid new (ap (λ (m : Machine). m.told) same) (ap (λ (m : Machine). m.rule) same) (ap (λ (m : Machine). m.rows) same))
  Acts-onward {old} {new} s (faults_removing {mid = mid} done gone p settles q ran t) = onward_trans old mid new (onward_settled s settles) (run_on mid done new (settled_sound settles s) q ran)
  Acts-onward {old} {new} s (wants_memory same q) = onward_counts old new same
  Acts-onward {old} {new} s (wants_memory_settled {mid = mid} p settles same q) = onward_trans old mid new (onward_settled s settles) (onward_counts mid new same)

-- A CRASH

-- rows that a change leaves: the same is accepted over the same base, and no less is durable
data Kept (rows : List RowState) (i : ℕ) (left : RowState) : Type 0 where
  kept_row : (row : RowState) → slice_get rows i ≡ Some row → left.base ≡ row.base → IsPrefix (durable row) (durable left) → accepted left ≡ accepted row → Kept rows i left
  new_row : durable left ≡ [] → accepted left ≡ [] → Kept rows i left

no_more : (left : RowState) → accepted left ≡ [] → durable left ≡ []
no_more left none = let whole : durable left ++ since (end_of (durable left)) left.tail ≡ [] = none in by_list (durable left) (since (end_of (durable left)) left.tail) whole
  where
    by_list : (xs ys : List Sample) → xs ++ ys ≡ [] → xs ≡ []
    by_list [] ys none = refl
    by_list (x ∷ xs) ys none = absurd cc

kept_between : (rows : List RowState) (i : ℕ) (left : RowState) → Kept rows i left → Between rows i left
kept_between rows i left (kept_row row here base p same) = of_row_there row here base p (subst (λ w. IsPrefix (durable left) w) same (durable_accepted left))
kept_between rows i left (new_row none empty) = of_no_row none

fresh_empty : (change : Change) (rows : List RowState) (row : RowState) → IsFresh change rows row → (durable row ≡ []) × (accepted row ≡ [])
fresh_empty change rows row (fresh name about by is) = (rw is refl, rw is refl)
fresh_empty change rows row (fresh_over k name old by here is) = (rw is refl, rw is refl)

kept_self : (m : Machine) (i : ℕ) (left : RowState) → slice_get m.rows i ≡ Some left → Kept m.rows i left
kept_self m i left here = kept_row left here refl (prefix_refl (durable left)) refl

kept_made : (m : Machine) (change : Change) → m.told ≡ true → IsSound m → MayMake m.rule m.told m.rows m.limbo change → (i : ℕ) (left : RowState) → slice_get (changed_rows m.told m.limbo change m.rows) i ≡ Some left → Kept m.rows i left
kept_made m change t s may i left here = by_row (came m.told m.limbo change m.rows i left here)
  where
    by_row : Came m.told m.limbo change m.rows i left → Kept m.rows i left
    by_row (from_row row there is) =
        let g : RowGoes m.told row left = rw is (goes m.rule m.told m.rows m.limbo change s.each_row s.each_file may i row there) in
        kept_row row there g.base (g.more t) (g.same t)
    by_row (is_new j at there) = let none = fresh_empty change m.rows left (added_fresh change m.rows j left there).0 in new_row none.0 none.1

kept_trans : (rows mids : List RowState) (i : ℕ) (left : RowState) → ((j : ℕ) (mid : RowState) → slice_get mids j ≡ Some mid → Kept rows j mid) → Kept mids i left → Kept rows i left
kept_trans rows mids i left first (new_row none empty) = new_row none empty
kept_trans rows mids i left first (kept_row mid here base p same) = by_first (first i mid here)
  where
    by_first : Kept rows i mid → Kept rows i left
    by_first (kept_row row there base' q same') = kept_row row there (base ∙ base') (prefix_trans (durable row) (durable mid) (durable left) q p) (same ∙ same')
    by_first (new_row none empty) = new_row (no_more left (same ∙ empty)) (same ∙ empty)

kept_settled : {old mid : Machine} → old.told ≡ true → IsSound old → Settles old mid → (i : ℕ) (left : RowState) → slice_get mid.rows i ≡ Some left → Kept old.rows i left
kept_settled {old} t s (no_doubt is) i left here = kept_self old i left here
kept_settled {old} t s (as_not_made change is) i left here = kept_self old i left here
kept_settled {old} t s (as_made change into is stays) i left here = kept_made old change t s (s.doubted change is).0 i left here

-- a crash between acts
pub left_between : (old left : Machine) → old.told ≡ true → IsSound old → LeftBetween old left → (i : ℕ) (row : RowState) → slice_get left.rows i ≡ Some row → Between old.rows i row
left_between old left t s as_it_is i row here = kept_between old.rows i row (kept_self old i row here)
left_between old left t s (with_doubt change is) i row here = kept_between old.rows i row (kept_made old change t s (s.doubted change is).0 i row here)

-- a crash within an act, whose change may be made once a doubt is settled
pub left_within : (refuse : Machine → Option Reply) (change : Machine → Option Change) (old left : Machine) → old.told ≡ true → IsSound old → ((mid : Machine) (one : Change) → IsSound mid → refuse mid ≡ None → change mid ≡ Some one → MayMake mid.rule mid.told mid.rows mid.limbo one)
    → LeftWithin refuse change old left → (i : ℕ) (row : RowState) → slice_get left.rows i ≡ Some row → Between old.rows i row
left_within refuse change old left t s may (before_it left') i row here = left_between old left t s left' i row here
left_within refuse change old left t s may (settled_there settles) i row here = kept_between old.rows i row (kept_settled t s settles i row here)
left_within refuse change old left t s may (with_change {mid} one settles free is) i row here =
    let sound : IsSound mid = settled_sound settles s in
    let told : mid.told ≡ true = (onward_settled s settles).told ∙ t in
    kept_between old.rows i row (kept_trans old.rows mid.rows i row (kept_settled t s settles) (kept_made mid one told sound (may mid one sound free is) i row here))
