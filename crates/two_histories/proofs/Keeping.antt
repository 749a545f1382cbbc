-- Acts that carry no samples leave what is durable as it was, once a doubt is settled.
use Rattle.std.proofs.Common.{◌≡◌, ℕ, ◌+◌, List, [], length, Option, Some, None, Bool, true, refl, ap, sym, ◌∙◌, arith}
use Rattle.std.specs.Prelude.{slice_get}
use Rattle.std.proofs.lemmas.Option.{slice_get_within}
use Rattle.pb_messages.specs.declared.about.About.{About}
use Rattle.pb_messages.specs.declared.about.State.{State}
use Rattle.pb_messages.specs.declared.about.State.TheVariants.{Retired}
use Rattle.act_model.specs.Changes.{changed, changed_rows, added, each, at, without_held}
use Rattle.act_model.specs.Growth.{RowsLike}
use Rattle.act_model.specs.Limbo.{RowFile}
use Rattle.act_model.specs.Machine.{Machine, Change, AddsRow, SetsState, Renames, Publishes, Unlists}
use Rattle.act_model.specs.MoveStep.{GoesOn, copies, has_copied, publishes, retires, again, damaged}
use Rattle.act_model.specs.Reply.{Reply}
use Rattle.act_model.specs.Rows.{RowState, durable}
use Rattle.act_model.specs.Sound.{IsSound}
use Rattle.act_model.proofs.ChangeLaws.{at_row}
use Rattle.act_model.proofs.MadeLaws.{IsFresh, fresh, fresh_over, added_fresh}
use Rattle.act_model.proofs.MoveLaws.{goes_like}
use Rattle.act_model.proofs.Onward.{each_forward, append_forward}
use Rattle.act_model.proofs.Rows.{Came, from_row, is_new, came, more_rows, there_is_row}
use Rattle.two_histories.proofs.Durables.{durable_in, durable_is}

-- what is durable of each row stays, and no row comes with samples
abbrev pub KeepsDurable : List RowState → List RowState → Type 0
KeepsDurable rows news = (i : ℕ) → durable_in news i ≡ durable_in rows i

pub keep_same : (rows news : List RowState) → news ≡ rows → KeepsDurable rows news
keep_same rows news is i = ap (λ w. durable_in w i) is

pub keep_trans : (a b c : List RowState) → KeepsDurable a b → KeepsDurable b c → KeepsDurable a c
keep_trans a b c p q i = q i ∙ p i

pub none_durable : (rows : List RowState) (i : ℕ) → slice_get rows i ≡ None → durable_in rows i ≡ []
none_durable rows i none = rw none refl

keep_like : (rows news : List RowState) → RowsLike rows news → length news ≡ length rows → KeepsDurable rows news
keep_like rows news like same i = by_row (slice_get rows i) refl (slice_get news i) refl
  where
    by_row : (o : Option RowState) → slice_get rows i ≡ o → (p : Option RowState) → slice_get news i ≡ p → durable_in news i ≡ durable_in rows i
    by_row (Some row) here p there = let l = like i row here in durable_is news i l.0 l.1 ∙ (l.2.durable_is ∙ sym (durable_is rows i row here))
    by_row None none None none' = none_durable news i none' ∙ sym (none_durable rows i none)
    by_row None none (Some new) there = absurd (let low = slice_get_within news i new there in there_is_row rows i (omega arith) none)

-- a row that a change adds has no samples
pub past_durable : (told : Bool) (limbo : List RowFile) (change : Change) (rows : List RowState) (i : ℕ) → slice_get rows i ≡ None → durable_in (changed_rows told limbo change rows) i ≡ []
past_durable told limbo change rows i none = by_new (slice_get (changed_rows told limbo change rows) i) refl
  where
    fresh_durable : (row : RowState) → IsFresh change rows row → durable row ≡ []
    fresh_durable row (fresh name about by is) = ap durable is
    fresh_durable row (fresh_over k name old by here is) = ap durable is

    by_came : (new : RowState) → Came told limbo change rows i new → durable new ≡ []
    by_came new (from_row row here is) = absurd (let bad = sym none ∙ here in cc)
    by_came new (is_new j past there) = fresh_durable new (added_fresh change rows j new there).0

    by_new : (p : Option RowState) → slice_get (changed_rows told limbo change rows) i ≡ p → durable_in (changed_rows told limbo change rows) i ≡ []
    by_new None none' = none_durable (changed_rows told limbo change rows) i none'
    by_new (Some new) there = durable_is (changed_rows told limbo change rows) i new there ∙ by_came new (came told limbo change rows i new there)

-- a change that leaves each row's durable samples
made_keeps : (told : Bool) (limbo : List RowFile) (change : Change) (rows : List RowState) → ((i : ℕ) (row : RowState) → slice_get rows i ≡ Some row → durable (changed told limbo change i row) ≡ durable row)
    → KeepsDurable rows (changed_rows told limbo change rows)
made_keeps told limbo change rows same i = by_row (slice_get rows i) refl
  where
    by_row : (o : Option RowState) → slice_get rows i ≡ o → durable_in (changed_rows told limbo change rows) i ≡ durable_in rows i
    by_row (Some row) here =
        let plain : 0 + i ≡ i = omega arith in
        let on : slice_get (each (changed told limbo change) 0 rows) i ≡ Some (changed told limbo change i row) = each_forward (changed told limbo change) 0 rows i row here ∙ ap (λ n. Some (changed told limbo change n row)) plain in
        durable_is (changed_rows told limbo change rows) i (changed told limbo change i row) (append_forward (each (changed told limbo change) 0 rows) (added change rows) i (changed told limbo change i row) on) ∙ (same i row here ∙ sym (durable_is rows i row here))
    by_row None none = past_durable told limbo change rows i none ∙ sym (none_durable rows i none)

pub adds_keeps : (told : Bool) (limbo : List RowFile) (name : List ℕ) (about : About) (rows : List RowState) → KeepsDurable rows (changed_rows told limbo (AddsRow name about) rows)
adds_keeps told limbo name about rows = made_keeps told limbo (AddsRow name about) rows (λ i row here. refl)

pub sets_keeps : (told : Bool) (limbo : List RowFile) (k : ℕ) (state : State) (rows : List RowState) → KeepsDurable rows (changed_rows told limbo (SetsState k state) rows)
sets_keeps told limbo k state rows = made_keeps told limbo (SetsState k state) rows (λ i row here. at_row k i (without_held state) row (λ r. durable r ≡ durable row) refl (λ is. refl))

pub renames_keeps : (told : Bool) (limbo : List RowFile) (k : ℕ) (name : List ℕ) (rows : List RowState) → KeepsDurable rows (changed_rows told limbo (Renames k name) rows)
renames_keeps told limbo k name rows = made_keeps told limbo (Renames k name) rows (λ i row here. at_row k i (without_held Retired) row (λ r. durable r ≡ durable row) refl (λ is. refl))

-- a step of a move
pub goes_keeps : {n : ℕ} {mid new : Machine} {answer : Reply} → mid.told ≡ true → IsSound mid → GoesOn n mid answer new → KeepsDurable mid.rows new.rows
goes_keeps {n} {mid} {new} t s ran = keep_like mid.rows new.rows (goes_like t s ran) (as_many ran)
  where
    as_many : {answer : Reply} → GoesOn n mid answer new → length new.rows ≡ length mid.rows
    as_many (copies move first more next rest here at left same) = ap (λ (m : Machine). length m.rows) same
    as_many (has_copied move xs here at left same) = ap (λ (m : Machine). length m.rows) same
    as_many (publishes move here at same) = let more = more_rows mid.told mid.limbo (Publishes move.row move.store move.copied) mid.rows in ap (λ (m : Machine). length m.rows) same ∙ (more ∙ omega arith)
    as_many (retires move into here at covers stays named same) = let more = more_rows mid.told mid.limbo (Unlists move.row move.store move.to) mid.rows in ap (λ (m : Machine). length m.rows) same ∙ (more ∙ omega arith)
    as_many (again move len copied here at grown less part same) = ap (λ (m : Machine). length m.rows) same
    as_many (damaged name at untold same) = ap (λ (m : Machine). length m.rows) same
