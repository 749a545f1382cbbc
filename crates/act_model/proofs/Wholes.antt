-- The whole list of a row: its own over the whole of its base. Bases stay as they are, so the whole of each row changes as its own does.
-- Where an own list follows the whole of its base, it is all in the whole.
use Rattle.std.proofs.Common.{◌≡◌, ℕ, ◌+◌, ◌<◌, List, [], ◌∷◌, ◌++◌, length, get_or, Option, Some, None, zero, suc, refl, ap, sym, ◌∙◌, arith, subst}
use Rattle.std.specs.Prelude.{slice_get}
use Rattle.std.proofs.lemmas.List.{length-append, get_or_append_left, get_or_push, get_or_past}
use Rattle.std.proofs.lemmas.Option.{same_Some}
use Rattle.std.proofs.lemmas.Bool.Decides.{nat_tests}
use Rattle.series_model.specs.declared.sample.Sample.{Sample}
use Rattle.series_model.specs.Series.{IsRising, RisesFrom, end_of, over}
use Rattle.series_model.proofs.RisingLists.{RisesFrom-append, RisesFrom-rest, since_all}
use Rattle.act_model.specs.Rows.{RowState}
use Rattle.act_model.specs.Whole.{known, wholes, past, whole, FollowsBase, AllFollow}

-- ONE LIST OF ROWS

-- over nothing a list is as it is
pub over_nothing : (xs : List Sample) → over [] xs ≡ xs
over_nothing [] = refl
over_nothing (x ∷ xs) = grind (arith, nat_tests, over_nothing xs)

-- where one list and then another rise, the second over the first is both
pub together : (w front own : List Sample) → w ≡ over front own → IsRising (front ++ own) → (w ≡ front ++ own) × IsRising w
together w front own is rises =
    let same : w ≡ front ++ own = is ∙ ap (λ xs. front ++ xs) (since_all (end_of front) (end_of front) own (RisesFrom-rest 0 front own rises) (omega arith)) in
    (same, subst (λ xs. IsRising xs) (sym same) rises)

module _ (own : RowState → List Sample) where
  -- what is known stays so as rows follow
  known_stays : (rows : List RowState) (before : List (List Sample)) (i : ℕ) → i < length before → get_or (wholes own before rows) i [] ≡ get_or before i []
  known_stays [] before i low = refl
  known_stays (row ∷ rows) before i low =
      let one : List Sample = over (known before row.base) (own row) in
      let longer : length (before ++ one ∷ []) ≡ length before + 1 = length-append before (one ∷ []) in
      known_stays rows (before ++ one ∷ []) i (omega arith) ∙ get_or_append_left before (one ∷ []) [] i low

  base_stays : (rows : List RowState) (before : List (List Sample)) (base : Option ℕ) → ((b : ℕ) → base ≡ Some b → b < length before) → known (wholes own before rows) base ≡ known before base
  base_stays rows before None low = refl
  base_stays rows before (Some b) low = known_stays rows before b (low b refl)

  -- each list stands behind that of its base
  row_whole : (rows : List RowState) (before : List (List Sample)) (k : ℕ) (row : RowState) → slice_get rows k ≡ Some row → ((b : ℕ) → row.base ≡ Some b → b < length before + k)
      → get_or (wholes own before rows) (length before + k) [] ≡ over (known (wholes own before rows) row.base) (own row)
  row_whole [] before k row here low = absurd cc
  row_whole (x ∷ rows) before zero row here low =
      let same : x ≡ row = same_Some x row here in
      let one : List Sample = over (known before x.base) (own x) in
      let longer : length (before ++ one ∷ []) ≡ length before + 1 = length-append before (one ∷ []) in
      let plain : length before + 0 ≡ length before = omega arith in
      let below : (b : ℕ) → row.base ≡ Some b → b < length before = λ b is. (let l : b < length before + 0 = low b is in omega arith) in
      let kept : known (wholes own before (x ∷ rows)) row.base ≡ known before row.base = base_stays (x ∷ rows) before row.base below in
      ap (λ n. get_or (wholes own (before ++ one ∷ []) rows) n []) plain
      ∙ (known_stays rows (before ++ one ∷ []) (length before) (omega arith)
      ∙ (get_or_push before one [] (length before) refl
      ∙ (ap (λ (r : RowState). over (known before r.base) (own r)) same ∙ ap (λ w. over w (own row)) (sym kept))))
  row_whole (x ∷ rows) before (suc k) row here low =
      let one : List Sample = over (known before x.base) (own x) in
      let longer : length (before ++ one ∷ []) ≡ length before + 1 = length-append before (one ∷ []) in
      let next : length before + suc k ≡ length (before ++ one ∷ []) + k = omega arith in
      ap (λ n. get_or (wholes own (before ++ one ∷ []) rows) n []) next
      ∙ row_whole rows (before ++ one ∷ []) k row here (λ b is. (let l : b < length before + suc k = low b is in omega arith))

  -- the whole of a row whose base stands before it
  pub whole_is : (rows : List RowState) (i : ℕ) (row : RowState) → slice_get rows i ≡ Some row → ((b : ℕ) → row.base ≡ Some b → b < i) → whole own rows i ≡ over (past own rows row.base) (own row)
  whole_is rows i row here low =
      let plain : i ≡ 0 + i = omega arith in
      ap (λ n. get_or (wholes own [] rows) n []) plain ∙ row_whole rows [] i row here (λ b is. (let l : b < i = low b is in omega arith))

  -- a row that isn't there has nothing
  none_there : (rows : List RowState) (before : List (List Sample)) (i : ℕ) → slice_get rows i ≡ None → get_or (wholes own before rows) (length before + i) [] ≡ []
  none_there [] before i none = get_or_past before (length before + i) [] (omega arith)
  none_there (x ∷ rows) before zero none = absurd cc
  none_there (x ∷ rows) before (suc i) none =
      let one : List Sample = over (known before x.base) (own x) in
      let longer : length (before ++ one ∷ []) ≡ length before + 1 = length-append before (one ∷ []) in
      let next : length before + suc i ≡ length (before ++ one ∷ []) + i = omega arith in
      ap (λ n. get_or (wholes own (before ++ one ∷ []) rows) n []) next ∙ none_there rows (before ++ one ∷ []) i none

  pub whole_none : (rows : List RowState) (i : ℕ) → slice_get rows i ≡ None → whole own rows i ≡ []
  whole_none rows i none = let plain : i ≡ 0 + i = omega arith in ap (λ n. get_or (wholes own [] rows) n []) plain ∙ none_there rows [] i none

-- TWO LISTS OF ROWS

-- the row's base is there before it
pub record StandsBefore (rows : List RowState) (i b : ℕ) : Type 0 where
  pub base : RowState
  pub here : slice_get rows b ≡ Some base
  pub below : b < i

-- where each own list rises from the end of the whole of its base, it follows that
module _ (own : RowState → List Sample) (rows : List RowState) (lies : (i : ℕ) (row : RowState) (b : ℕ) → slice_get rows i ≡ Some row → row.base ≡ Some b → StandsBefore rows i b)
    (from_end : (i : ℕ) (row : RowState) → slice_get rows i ≡ Some row → RisesFrom (end_of (past own rows row.base)) (own row)) where
  follows_below : (n i : ℕ) (row : RowState) → i < n → slice_get rows i ≡ Some row → FollowsBase own rows i row
  follows_below zero i row low here = absurd (omega arith)
  follows_below (suc n) i row low here =
      together (whole own rows i) (past own rows row.base) (own row) (whole_is own rows i row here (λ b is. (lies i row b here is).below))
      (RisesFrom-append 0 (past own rows row.base) (own row) (by_base row.base refl (λ b base lower there. (follows_below n b base lower there).1)) (from_end i row here))
    where
      by_base : (o : Option ℕ) → row.base ≡ o → ((b : ℕ) (base : RowState) → b < n → slice_get rows b ≡ Some base → IsRising (whole own rows b)) → IsRising (past own rows o)
      by_base None is more = tt
      by_base (Some b) is more = let o = lies i row b here is in let lower : b < i = o.below in more b o.base (omega arith) o.here

  pub all_follow : AllFollow own rows
  all_follow i row here = follows_below (suc i) i row (omega arith) here

-- A row is there among the others too, over the same base; where it is a base, its own list stays.
pub record Beside (own own' : RowState → List Sample) (rows news : List RowState) (i : ℕ) (row : RowState) : Type 0 where
  pub new : RowState
  pub there : slice_get news i ≡ Some new
  pub base : new.base ≡ row.base
  pub still : (j : ℕ) (above : RowState) → slice_get rows j ≡ Some above → above.base ≡ Some i → own' new ≡ own row

module _ (own own' : RowState → List Sample) (rows news : List RowState)
    (lies : (i : ℕ) (row : RowState) (b : ℕ) → slice_get rows i ≡ Some row → row.base ≡ Some b → StandsBefore rows i b)
    (on : (i : ℕ) (row : RowState) → slice_get rows i ≡ Some row → Beside own own' rows news i row) where
  below : (i : ℕ) (row : RowState) → slice_get rows i ≡ Some row → (b : ℕ) → row.base ≡ Some b → b < i
  below i row here b is = (lies i row b here is).below

  -- the whole of a row, by that of its base
  pub new_whole : (i : ℕ) (row : RowState) (here : slice_get rows i ≡ Some row) → whole own' news i ≡ over (past own' news row.base) (own' (on i row here).new)
  new_whole i row here =
      let x = on i row here in
      whole_is own' news i x.new x.there (λ b is. below i row here b (sym x.base ∙ is)) ∙ ap (λ o. over (past own' news o) (own' x.new)) x.base

  pub old_whole : (i : ℕ) (row : RowState) → slice_get rows i ≡ Some row → whole own rows i ≡ over (past own rows row.base) (own row)
  old_whole i row here = whole_is own rows i row here (below i row here)

  -- the whole of a base stays
  pub base_whole : (n i : ℕ) (row : RowState) → i < n → slice_get rows i ≡ Some row → (j : ℕ) (above : RowState) → slice_get rows j ≡ Some above → above.base ≡ Some i → whole own' news i ≡ whole own rows i
  base_whole zero i row low here j above there is = absurd (omega arith)
  base_whole (suc n) i row low here j above there is =
      new_whole i row here
      ∙ (ap (λ w. over (past own' news row.base) w) ((on i row here).still j above there is)
      ∙ (ap (λ w. over w (own row)) (by_base row.base refl (λ b base lower here' of. base_whole n b base lower here' i row here of)) ∙ sym (old_whole i row here)))
    where
      by_base : (o : Option ℕ) → row.base ≡ o → ((b : ℕ) (base : RowState) → b < n → slice_get rows b ≡ Some base → row.base ≡ Some b → whole own' news b ≡ whole own rows b) → past own' news o ≡ past own rows o
      by_base None is more = refl
      by_base (Some b) is more = let o = lies i row b here is in let lower : b < i = o.below in more b o.base (omega arith) o.here is

  -- so what stands before a row stays
  pub past_stays : (i : ℕ) (row : RowState) → slice_get rows i ≡ Some row → past own' news row.base ≡ past own rows row.base
  past_stays i row here = by_base row.base refl
    where
      by_base : (o : Option ℕ) → row.base ≡ o → past own' news o ≡ past own rows o
      by_base None is = refl
      by_base (Some b) is = let o = lies i row b here is in base_whole (suc b) b o.base (omega arith) o.here i row here is

  -- and the whole of the row changes as its own list does
  pub whole_goes : (i : ℕ) (row : RowState) (here : slice_get rows i ≡ Some row) → whole own' news i ≡ over (past own rows row.base) (own' (on i row here).new)
  whole_goes i row here = new_whole i row here ∙ ap (λ w. over w (own' (on i row here).new)) (past_stays i row here)
