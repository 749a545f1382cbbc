-- The lines of rows: a row's line is that of its base, and then its own number.
use Rattle.std.proofs.Common.{◌≡◌, ◌⊎◌, inl, inr, ℕ, ◌+◌, ◌<◌, ◌≤◌, List, [], ◌∷◌, ◌++◌, length, get_or, reverse, Option, Some, None, zero, suc, refl, ap, sym, subst, ◌∙◌, append_assoc, arith}
use Rattle.std.specs.Prelude.{slice_get, All}
use Rattle.std.proofs.lemmas.List.{length-append, get_or_append_left, get_or_push, reverse-append}
use Rattle.std.proofs.lemmas.List.Elements.{All-nil, All-push, All-same, All-weaker}
use Rattle.std.proofs.lemmas.Bool.{cases_order}
use Rattle.std.proofs.lemmas.Option.{none-some, same_Some}
use Rattle.pv_catalog.specs.declared.row.Row.{Row}
use Rattle.pv_catalog.specs.Lines.{line_known, lines, line}
use Rattle.pv_catalog.specs.Rows.{AreRows, KeepsRows}

abbrev next_line : List (List ℕ) → Row → List ℕ
next_line before row = line_known before row.base ++ length before ∷ []

-- what is known stays so as rows follow
known_stays : (rows : List Row) (before : List (List ℕ)) (i : ℕ) → i < length before → get_or (lines before rows) i [] ≡ get_or before i []
known_stays [] before i low = refl
known_stays (row ∷ rows) before i low =
    let one : List ℕ = next_line before row in
    let longer : length (before ++ one ∷ []) ≡ length before + 1 = length-append before (one ∷ []) in
    known_stays rows (before ++ one ∷ []) i (omega arith) ∙ get_or_append_left before (one ∷ []) [] i low

base_stays : (rows : List Row) (before : List (List ℕ)) (base : Option ℕ) → ((b : ℕ) → base ≡ Some b → b < length before) → line_known (lines before rows) base ≡ line_known before base
base_stays rows before None low = refl
base_stays rows before (Some b) low = known_stays rows before b (low b refl)

row_line : (rows : List Row) (before : List (List ℕ)) (k : ℕ) (row : Row) → slice_get rows k ≡ Some row → ((b : ℕ) → row.base ≡ Some b → b < length before + k)
    → get_or (lines before rows) (length before + k) [] ≡ line_known (lines before rows) row.base ++ (length before + k) ∷ []
row_line [] before k row here low = absurd (none-some row here)
row_line (x ∷ rows) before zero row here low =
    let same : x ≡ row = same_Some x row here in
    let one : List ℕ = next_line before x in
    let longer : length (before ++ one ∷ []) ≡ length before + 1 = length-append before (one ∷ []) in
    let plain : length before + 0 ≡ length before = omega arith in
    let below : (b : ℕ) → row.base ≡ Some b → b < length before = λ b is. (let l : b < length before + 0 = low b is in omega arith) in
    let kept : line_known (lines before (x ∷ rows)) row.base ≡ line_known before row.base = base_stays (x ∷ rows) before row.base below in
    ap (λ n. get_or (lines (before ++ one ∷ []) rows) n []) plain
    ∙ (known_stays rows (before ++ one ∷ []) (length before) (omega arith)
    ∙ (get_or_push before one [] (length before) refl
    ∙ (ap (λ (r : Row). line_known before r.base ++ length before ∷ []) same
    ∙ (ap (λ (w : List ℕ). w ++ length before ∷ []) (sym kept) ∙ ap (λ (n : ℕ). line_known (lines before (x ∷ rows)) row.base ++ n ∷ []) (sym plain)))))
row_line (x ∷ rows) before (suc k) row here low =
    let one : List ℕ = next_line before x in
    let longer : length (before ++ one ∷ []) ≡ length before + 1 = length-append before (one ∷ []) in
    let next : length before + suc k ≡ length (before ++ one ∷ []) + k = omega arith in
    ap (λ n. get_or (lines (before ++ one ∷ []) rows) n []) next
    ∙ row_line rows (before ++ one ∷ []) k row here (λ b is. (let l : b < length before + suc k = low b is in omega arith))
    ∙ ap (λ (n : ℕ). line_known (lines (before ++ one ∷ []) rows) row.base ++ n ∷ []) (sym next)

-- the line of a row whose base stands before it
pub line_is : (rows : List Row) (i : ℕ) (row : Row) → slice_get rows i ≡ Some row → ((b : ℕ) → row.base ≡ Some b → b < i) → line rows i ≡ line_known (lines [] rows) row.base ++ i ∷ []
line_is rows i row here low =
    let plain : i ≡ 0 + i = omega arith in
    ap (λ n. get_or (lines [] rows) n []) plain
    ∙ row_line rows [] i row here (λ b is. (let l : b < i = low b is in omega arith))
    ∙ ap (λ (n : ℕ). line_known (lines [] rows) row.base ++ n ∷ []) (sym plain)

pub line_over : (rows : List Row) → AreRows rows → (i : ℕ) (row : Row) → slice_get rows i ≡ Some row → line rows i ≡ line_known (lines [] rows) row.base ++ i ∷ []
line_over rows are i row here = line_is rows i row here (λ b is. (are.over i row b here is).below)

-- where no row is there is no line
length_lines : (rows : List Row) (before : List (List ℕ)) → length (lines before rows) ≡ length before + length rows
length_lines [] before = omega arith
length_lines (row ∷ rows) before =
    let longer : length (before ++ next_line before row ∷ []) ≡ length before + 1 = length-append before (next_line before row ∷ []) in
    let rest = length_lines rows (before ++ next_line before row ∷ []) in omega arith

past_all : (ls : List (List ℕ)) (i : ℕ) → length ls ≤ i → get_or ls i [] ≡ []
past_all [] i beyond = refl
past_all (l ∷ ls) zero beyond = absurd (omega arith)
past_all (l ∷ ls) (suc i) beyond = past_all ls i (omega arith)

none_beyond : (rows : List Row) (i : ℕ) → slice_get rows i ≡ None → length rows ≤ i
none_beyond [] i none = omega arith
none_beyond (row ∷ rows) zero none = absurd (none-some row (sym none))
none_beyond (row ∷ rows) (suc i) none = let rest = none_beyond rows i none in omega arith

pub no_line : (rows : List Row) (i : ℕ) → slice_get rows i ≡ None → line rows i ≡ []
no_line rows i none = let all = length_lines rows [] in let beyond = none_beyond rows i none in past_all (lines [] rows) i (omega arith)

-- each row of a line is there
lines_low : (rows : List Row) (before : List (List ℕ)) → ((j : ℕ) → All (λ k. k < length before) (get_or before j [])) → (j : ℕ) → All (λ k. k < length before + length rows) (get_or (lines before rows) j [])
lines_low [] before low j = All-weaker (λ k. k < length before) (λ k. k < length before + 0) (λ k is. omega arith) (get_or before j []) (low j)
lines_low (row ∷ rows) before low j =
    let n = length before in
    let one : List ℕ = next_line before row in
    let longer : length (before ++ one ∷ []) ≡ n + 1 = length-append before (one ∷ []) in
    All-weaker (λ k. k < length (before ++ one ∷ []) + length rows) (λ k. k < n + suc (length rows)) (λ k is. omega arith) (get_or (lines before (row ∷ rows)) j [])
    (lines_low rows (before ++ one ∷ []) (λ i. subst (λ (m : ℕ). All (λ k. k < m) (get_or (before ++ one ∷ []) i [])) (sym longer) (here i (cases_order i n))) j)
  where
    base_low : (o : Option ℕ) → All (λ k. k < length before + 1) (line_known before o)
    base_low None = All-nil (λ k. k < length before + 1)
    base_low (Some b) = All-weaker (λ k. k < length before) (λ k. k < length before + 1) (λ k is. omega arith) (get_or before b []) (low b)

    here : (i : ℕ) → (i ≡ length before) ⊎ ((i < length before) ⊎ (length before < i)) → All (λ k. k < length before + 1) (get_or (before ++ next_line before row ∷ []) i [])
    here i (inl is) =
        All-same (λ k. k < length before + 1) (get_or (before ++ next_line before row ∷ []) i []) (next_line before row) (get_or_push before (next_line before row) [] i (sym is))
        (All-push (λ k. k < length before + 1) (line_known before row.base) (length before) (base_low row.base) (omega arith))
    here i (inr (inl below)) =
        All-same (λ k. k < length before + 1) (get_or (before ++ next_line before row ∷ []) i []) (get_or before i []) (get_or_append_left before (next_line before row ∷ []) [] i below)
        (All-weaker (λ k. k < length before) (λ k. k < length before + 1) (λ k is. omega arith) (get_or before i []) (low i))
    here i (inr (inr beyond)) =
        let longer : length (before ++ next_line before row ∷ []) ≡ length before + 1 = length-append before (next_line before row ∷ []) in
        All-same (λ k. k < length before + 1) (get_or (before ++ next_line before row ∷ []) i []) [] (past_all (before ++ next_line before row ∷ []) i (omega arith)) (All-nil (λ k. k < length before + 1))

pub line_low : (rows : List Row) (i : ℕ) → All (λ k. k < length rows) (line rows i)
line_low rows i = All-weaker (λ k. k < 0 + length rows) (λ k. k < length rows) (λ k is. omega arith) (line rows i) (lines_low rows [] (λ j. All-nil (λ k. k < 0)) i)

-- where rows stay over their bases their lines stay too
pub line_kept : (rows later : List Row) → AreRows rows → KeepsRows rows later → (n i : ℕ) (row : Row) → i < n → slice_get rows i ≡ Some row → line later i ≡ line rows i
line_kept rows later are keeps zero i row low here = absurd (omega arith)
line_kept rows later are keeps (suc n) i row low here =
    let new = keeps i row here in
    line_is later i new.0 new.1 (λ b is. (are.over i row b here (sym new.2.base ∙ is)).below)
    ∙ ap (λ (o : Option ℕ). line_known (lines [] later) o ++ i ∷ []) new.2.base
    ∙ ap (λ (l : List ℕ). l ++ i ∷ []) (by_base row.base refl (line_kept rows later are keeps n))
    ∙ sym (line_over rows are i row here)
  where
    by_base : (o : Option ℕ) → row.base ≡ o → ((b : ℕ) (base : Row) → b < n → slice_get rows b ≡ Some base → line later b ≡ line rows b) → line_known (lines [] later) o ≡ line_known (lines [] rows) o
    by_base None is lower = refl
    by_base (Some b) is lower = let o = are.over i row b here is in let below : b < i = o.below in lower b o.base (omega arith) o.here

-- one step down a line
pub line_step : (rows : List Row) → AreRows rows → (i : ℕ) (row : Row) (back : List ℕ) → slice_get rows i ≡ Some row → line rows i ++ reverse back ≡ line_known (lines [] rows) row.base ++ reverse (back ++ i ∷ [])
line_step rows are i row back here =
    ap (λ (l : List ℕ). l ++ reverse back) (line_over rows are i row here)
    ∙ append_assoc (line_known (lines [] rows) row.base) (i ∷ []) (reverse back)
    ∙ ap (λ (l : List ℕ). line_known (lines [] rows) row.base ++ l) (sym (reverse-append back (i ∷ [])))
