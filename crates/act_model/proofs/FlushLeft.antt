-- One flush with the greatest limit leaves nothing in the intake.
use Rattle.std.proofs.Common.{◌≡◌, ℕ, ◌+◌, ◌≤◌, List, [], ◌∷◌, ◌++◌, Some, zero, suc, Bool, true, false, cond, refl, ap, sym, ◌∙◌, arith, subst, append-nil}
use Rattle.std.specs.Prelude.{nat_eq, nat_le, slice_get}
use Rattle.std.proofs.lemmas.Bool.Decides.{nat_tests}
use Rattle.series_model.specs.declared.sample.Sample.{Sample}
use Rattle.series_model.specs.Series.{since, end_of, RisesFrom}
use Rattle.act_model.specs.declared.acts.Answer.TheVariants.{Flushed}
use Rattle.act_model.specs.Reply.{Reply}
use Rattle.act_model.specs.Rows.{RowState, size_of, is_empty, durable}
use Rattle.act_model.specs.Machine.{Machine, Appends, held_bytes}
use Rattle.act_model.specs.Changes.{made, each, changed, of_row}
use Rattle.act_model.specs.Outcome.{refused_at_once, refused, runs, faults_first, faults_between, faults_within, faults_removing, wants_memory, wants_memory_settled}
use Rattle.act_model.specs.Flush.{FlushStep, batch_of, batch_from}
use Rattle.act_model.specs.Sound.{IsSound}
use Rattle.act_model.proofs.RowLaws.{since_front}
use Rattle.act_model.proofs.MadeLaws.{append_size}
use Rattle.act_model.proofs.RowActs.{before_batch}
use Rattle.act_model.proofs.StepLaws.{settled_sound}

pub no_bytes : (xs : List Sample) → size_of xs ≡ 0 → xs ≡ []
no_bytes [] none = refl
no_bytes (x ∷ xs) none = absurd (omega arith)

pub no_rows : (rows : List RowState) (i : ℕ) (row : RowState) → held_bytes rows ≡ 0 → slice_get rows i ≡ Some row → row.tail ≡ []
no_rows [] i row none here = absurd cc
no_rows (x ∷ rows) zero row none here = let same : x ≡ row = cc in let one : size_of row.tail ≡ 0 = subst (λ (r : RowState). size_of r.tail ≡ 0) same (omega arith) in no_bytes row.tail one
no_rows (x ∷ rows) (suc i) row none here = no_rows rows i row (omega arith) here

-- all tails are taken
all_tails : (limit : ℕ) (rows : List RowState) (k taken i : ℕ) (row : RowState) → held_bytes rows + taken ≤ limit → slice_get rows i ≡ Some row → of_row (k + i) (batch_from limit rows k taken) ≡ row.tail
all_tails limit [] k taken i row low here = absurd cc
all_tails limit (x ∷ rows) k taken i row low here = by_tests (nat_le limit taken) refl (is_empty x.tail) refl i here (λ j t low there. all_tails limit rows (k + 1) t j row low there)
  where
    empty_tail : (xs : List Sample) → is_empty xs ≡ true → xs ≡ []
    empty_tail [] is = refl
    empty_tail (s ∷ xs) is = absurd cc

    by_tests : (b : Bool) → nat_le limit taken ≡ b → (c : Bool) → is_empty x.tail ≡ c → (i : ℕ) → slice_get (x ∷ rows) i ≡ Some row → ((j t : ℕ) → held_bytes rows + t ≤ limit → slice_get rows j ≡ Some row → of_row ((k + 1) + j) (batch_from limit rows (k + 1) t) ≡ row.tail)
        → of_row (k + i) (cond b [] (cond c (batch_from limit rows (k + 1) taken) (record { row = k; samples = x.tail } ∷ batch_from limit rows (k + 1) (taken + size_of x.tail)))) ≡ row.tail
    by_tests true full c is i here more = let above : limit ≤ taken = grind (arith, nat_tests) in let none : held_bytes (x ∷ rows) ≡ 0 = omega arith in sym (no_rows (x ∷ rows) i row none here)
    by_tests false full true is zero here more =
        let same : x ≡ row = cc in
        let plain : k + 0 ≡ k = omega arith in
        ap (λ n. of_row n (batch_from limit rows (k + 1) taken)) plain ∙ (before_batch limit rows (k + 1) taken k (omega arith) ∙ sym (empty_tail row.tail (subst (λ r. is_empty r.tail ≡ true) same is)))
    by_tests false full true is (suc i) here more = let next : (k + 1) + i ≡ k + suc i = omega arith in subst (λ n. of_row n (batch_from limit rows (k + 1) taken) ≡ row.tail) next (more i taken (omega arith) here)
    by_tests false full false is zero here more =
        let same : x ≡ row = cc in
        let own : nat_eq k (k + 0) ≡ true = grind (arith, nat_tests) in
        let plain : k ≡ k + 0 = omega arith in
        let rest : of_row (k + 0) (batch_from limit rows (k + 1) (taken + size_of x.tail)) ≡ [] = ap (λ n. of_row n (batch_from limit rows (k + 1) (taken + size_of x.tail))) (sym plain) ∙ before_batch limit rows (k + 1) (taken + size_of x.tail) k (omega arith) in
        rw own (ap (λ w. x.tail ++ w) rest ∙ (append-nil x.tail ∙ ap (λ (r : RowState). r.tail) same))
    by_tests false full false is (suc i) here more =
        let other : nat_eq k (k + suc i) ≡ false = grind (arith, nat_tests) in
        let next : (k + 1) + i ≡ k + suc i = omega arith in
        rw other (subst (λ n. of_row n (batch_from limit rows (k + 1) (taken + size_of x.tail)) ≡ row.tail) next (more i (taken + size_of x.tail) (omega arith) here))

none_left : (f : ℕ → RowState → RowState) (k : ℕ) (rows : List RowState) → ((i : ℕ) (row : RowState) → slice_get rows i ≡ Some row → (f (k + i) row).tail ≡ []) → held_bytes (each f k rows) ≡ 0
none_left f k [] none = refl
none_left f k (row ∷ rows) none =
    let plain : k + 0 ≡ k = omega arith in
    let first : (f k row).tail ≡ [] = subst (λ n. (f n row).tail ≡ []) plain (none 0 row refl) in
    let one : size_of (f k row).tail ≡ 0 = ap size_of first in
    let rest = none_left f (k + 1) rows (λ i other here. let next : (k + 1) + i ≡ k + suc i = omega arith in subst (λ n. (f n other).tail ≡ []) (sym next) (none (suc i) other here)) in
    omega arith

after_flush : (m : Machine) (limit : ℕ) → IsSound m → 67108864 ≤ limit → held_bytes (made [] (Appends (batch_of limit m)) m).rows ≡ 0
after_flush m limit s high =
    let change = Appends (batch_of limit m) in
    let held : held_bytes m.rows ≤ 67108864 = s.intake in
    let rows = none_left (changed m.told m.limbo change) 0 m.rows (λ i row here. gone i row here (all_tails limit m.rows 0 0 i row (omega arith) here)) in
    let all = append_size (each (changed m.told m.limbo change) 0 m.rows) [] in
    omega arith
  where
    gone : (i : ℕ) (row : RowState) → slice_get m.rows i ≡ Some row → of_row (0 + i) (batch_of limit m) ≡ row.tail → since (end_of (of_row (0 + i) (batch_of limit m))) row.tail ≡ []
    gone i row here is =
        let later : RisesFrom (end_of (durable row)) (row.tail ++ []) = rw (append-nil row.tail) (s.each_row i row here).later in
        ap (λ w. since (end_of w) row.tail) is ∙ (ap (λ w. since (end_of row.tail) w) (sym (append-nil row.tail)) ∙ since_front (end_of (durable row)) row.tail [] later)

abbrev pub flushed_as : ℕ → ℕ → ℕ → Reply
flushed_as samples left doors = Flushed samples left doors

left_in : {samples left doors a b c : ℕ} → flushed_as samples left doors ≡ flushed_as a b c → left ≡ b
left_in is = cc

-- one flush is enough
pub flush_leaves_none : (limit : ℕ) (old new : Machine) (answer : Reply) (samples left doors : ℕ) → IsSound old → 67108864 ≤ limit → FlushStep limit old answer new → answer ≡ Flushed samples left doors → left ≡ 0
flush_leaves_none limit old new answer samples left doors s high (runs {mid = mid} a p settles q ran r) is =
    let none : held_bytes (made [] (Appends (batch_of limit mid)) mid).rows ≡ 0 = after_flush mid limit (settled_sound settles s) high in
    let same : held_bytes new.rows ≡ 0 = ap (λ (m : Machine). held_bytes m.rows) ran.1 ∙ none in
    let both : flushed_as samples left doors ≡ flushed_as ran.0.0 (held_bytes new.rows) new.doors = sym is ∙ ran.0.2 in
    left_in both ∙ same
flush_leaves_none limit old new answer samples left doors s high (refused_at_once a p) is = absurd cc
flush_leaves_none limit old new answer samples left doors s high (refused a p settles q same r) is = absurd cc
flush_leaves_none limit old new answer samples left doors s high (faults_first p same q) is = absurd cc
flush_leaves_none limit old new answer samples left doors s high (faults_between p settles same q) is = absurd cc
flush_leaves_none limit old new answer samples left doors s high (faults_within doubted p settles q r same t) is = absurd cc
flush_leaves_none limit old new answer samples left doors s high (faults_removing done gone p settles q ran t) is = absurd cc
flush_leaves_none limit old new answer samples left doors s high (wants_memory same q) is = absurd cc
flush_leaves_none limit old new answer samples left doors s high (wants_memory_settled p settles same q) is = absurd cc
