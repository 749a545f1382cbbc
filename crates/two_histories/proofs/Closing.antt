-- Rows of which nothing more is accepted: one that is a base, and one of which it is in doubt whether it has become one.
use Rattle.std.proofs.Common.{◌≡◌, ℕ, List, Option, Some, None, Bool, true, false, refl, ap, sym, ◌∙◌, inl, inr}
use Rattle.std.specs.Prelude.{◌⊎◌, slice_get}
use Rattle.std.proofs.lemmas.Option.{same_Some}
use Rattle.series_model.specs.declared.sample.Sample.{Sample}
use Rattle.pb_messages.specs.declared.about.State.TheVariants.{Retired}
use Rattle.act_model.specs.Changes.{changed, changed_rows, published, retired, without_held, Settles, no_doubt, as_not_made, as_made}
use Rattle.act_model.specs.Limbo.{RowFile, files_of}
use Rattle.act_model.specs.Machine.{Machine, Change, AddsRow, SetsState, Renames, Appends, Publishes, Unlists}
use Rattle.act_model.specs.Rows.{RowState, Store, Short, Medium, Long, next_store, with_tier}
use Rattle.act_model.proofs.ChangeLaws.{at_row}
use Rattle.act_model.proofs.MadeLaws.{IsFresh, fresh, fresh_over, added_fresh}
use Rattle.act_model.proofs.Rows.{Came, from_row, is_new, came}
use Rattle.two_histories.proofs.Retailed.{IsBase}

pub data IsClosed (rows : List RowState) (doubt : Option Change) (i : ℕ) : Type 0 where
  is_base : IsBase rows i → IsClosed rows doubt i
  may_be_base : (name : List ℕ) (row : RowState) → slice_get rows i ≡ Some row → doubt ≡ Some (Renames i name) → IsClosed rows doubt i

pub bases_same : (rows news : List RowState) → news ≡ rows → (i : ℕ) → IsBase news i → IsBase rows i
bases_same rows news is i b = record { at = b.at; row = b.row; here = ap (λ w. slice_get w b.at) (sym is) ∙ b.here; base = b.base }

-- it gives no variable a new name
abbrev pub RenamesNone : Change → Type 0
RenamesNone change = (k : ℕ) (name : List ℕ) → change ≡ Renames k name → ⊥

-- WHAT A CHANGE MAKES

tier_base : (row : RowState) (store : Store) (xs : List Sample) → (with_tier row store xs).base ≡ row.base
tier_base row Short xs = refl
tier_base row Medium xs = refl
tier_base row Long xs = refl

published_base : (told : Bool) (limbo : List RowFile) (store : Store) (xs : List Sample) (row : RowState) → (published told limbo store xs row).base ≡ row.base
published_base true limbo store xs row = tier_base row store _
published_base false limbo store xs row = refl

retired_base : (told : Bool) (store : Store) (to : ℕ) (row : RowState) → (retired told store to row).base ≡ row.base
retired_base true store to row = tier_base row store _
retired_base false store to row = refl

changed_base : (told : Bool) (limbo : List RowFile) (change : Change) (i : ℕ) (row : RowState) → (changed told limbo change i row).base ≡ row.base
changed_base told limbo (AddsRow name about) i row = refl
changed_base told limbo (SetsState k state) i row = at_row k i (without_held state) row (λ r. r.base ≡ row.base) refl (λ is. refl)
changed_base told limbo (Renames k name) i row = at_row k i (without_held Retired) row (λ r. r.base ≡ row.base) refl (λ is. refl)
changed_base told limbo (Appends batch) i row = refl
changed_base told limbo (Publishes k store xs) i row = at_row k i (published told (files_of k (next_store store) limbo) (next_store store) xs) row (λ r. r.base ≡ row.base) refl (λ is. published_base told _ (next_store store) xs row)
changed_base told limbo (Unlists k store to) i row = at_row k i (retired told store to) row (λ r. r.base ≡ row.base) refl (λ is. retired_base told store to row)

-- the change makes this row a base
pub record MakesBase (change : Change) (rows : List RowState) (i : ℕ) : Type 0 where
  pub name : List ℕ
  pub row : RowState
  pub here : slice_get rows i ≡ Some row
  pub is : change ≡ Renames i name

-- a base was one, or the change has made it one
pub made_base : (told : Bool) (limbo : List RowFile) (change : Change) (rows : List RowState) (i : ℕ) → IsBase (changed_rows told limbo change rows) i → IsBase rows i ⊎ MakesBase change rows i
made_base told limbo change rows i b = by_came (came told limbo change rows b.at b.row b.here)
  where
    by_fresh : IsFresh change rows b.row → IsBase rows i ⊎ MakesBase change rows i
    by_fresh (fresh name about by is) = absurd (let bad : None ≡ Some i = ap (λ (r : RowState). r.base) (sym is) ∙ b.base in cc)
    by_fresh (fresh_over k name old by here is) =
        let same : k ≡ i = same_Some k i (ap (λ (r : RowState). r.base) (sym is) ∙ b.base) in inr (record { name = name; row = old; here = ap (λ n. slice_get rows n) (sym same) ∙ here; is = by ∙ ap (λ n. Renames n name) same })

    by_came : Came told limbo change rows b.at b.row → IsBase rows i ⊎ MakesBase change rows i
    by_came (from_row row here is) = inl (record { at = b.at; row = row; here = here; base = sym (changed_base told limbo change b.at row) ∙ (ap (λ (r : RowState). r.base) (sym is) ∙ b.base) })
    by_came (is_new j past there) = by_fresh (added_fresh change rows j b.row there).0

pub made_bases : (told : Bool) (limbo : List RowFile) (change : Change) (rows : List RowState) → RenamesNone change → (i : ℕ) → IsBase (changed_rows told limbo change rows) i → IsBase rows i
made_bases told limbo change rows none i b = by_kind (made_base told limbo change rows i b)
  where
    by_kind : IsBase rows i ⊎ MakesBase change rows i → IsBase rows i
    by_kind (inl was) = was
    by_kind (inr made) = absurd (none i made.name made.is)

-- settling a doubt closes no row
pub closed_settled : {old mid : Machine} → Settles old mid → (i : ℕ) → IsClosed mid.rows mid.doubt i → IsClosed old.rows old.doubt i
closed_settled (no_doubt none) i c = c
closed_settled {old} (as_not_made change is) i (is_base b) = is_base b
closed_settled {old} (as_not_made change is) i (may_be_base name row here bad) = absurd cc
closed_settled {old} (as_made change into is retires) i (is_base b) = by_kind (made_base old.told old.limbo change old.rows i b)
  where
    by_kind : IsBase old.rows i ⊎ MakesBase change old.rows i → IsClosed old.rows old.doubt i
    by_kind (inl was) = is_base was
    by_kind (inr made) = may_be_base made.name made.row made.here (is ∙ ap (λ c. Some c) made.is)
closed_settled {old} (as_made change into is retires) i (may_be_base name row here bad) = absurd cc
