-- Batches of the file that tells the generation, taken in one after another.
use Rattle.std.proofs.Common.{◌≡◌, ◌≢◌, inl, inr, ℕ, zero, suc, ◌+◌, ◌-◌, ◌*◌, ◌<◌, ◌≤◌, ◌^◌, min, Bool, true, false, List, [], ◌∷◌, ◌++◌, length, refl, sym, ◌∙◌, ap, subst, arith, append_assoc, length-append}
use Rattle.std.proofs.lemmas.Bool.{cases_order, cases_lt}
use Rattle.std.proofs.lemmas.List.{append_cancel_left}
use Rattle.std.specs.Int.{to_le_bytes, w64}
use Rattle.disk_model.specs.Files.{Name, Files}
use Rattle.gate_journal.specs.Batches.{HasBatches, open_gates, framed_bytes}
use Rattle.gate_journal.specs.Generations.{at_name, generation_batches, IsOutOfTurn, IsBadOf, Tells}
use Rattle.gate_journal.proofs.Telling.{none_told, next_told, length-generation_batches, length_told}

open_gates-more : (xs ys : List (List ℕ)) → length (open_gates xs) ≤ length (open_gates (xs ++ ys))
open_gates-more [] ys = omega arith
open_gates-more (x ∷ xs) ys =
    omega (arith, open_gates-more xs ys, length-append (1 ∷ framed_bytes x) (open_gates xs), length-append (1 ∷ framed_bytes x) (open_gates (xs ++ ys)))

pub tells_out : (out : Bool) (g : ℕ) (bs : List (List ℕ)) → out ≡ true → Tells out g bs → IsOutOfTurn bs g
tells_out true g bs is tells = tells
tells_out false g bs is tells = absurd (cc is)

pub tells_all : (out : Bool) (g : ℕ) (bs : List (List ℕ)) → out ≡ false → Tells out g bs → (g < 2 ^ 64) × (bs ≡ generation_batches g)
tells_all false g bs is tells = tells
tells_all true g bs is tells = absurd (cc is)

pub tells_none : Tells false 0 []
tells_none = (omega arith, sym none_told)

pub still_out : (out : Bool) (g : ℕ) (bs : List (List ℕ)) (b : List ℕ) → out ≡ true → Tells out g bs → Tells out g (bs ++ b ∷ [])
still_out false g bs b is tells = absurd (cc is)
still_out true g bs b is tells = record {
  small = tells.small;
  batch = tells.batch;
  rest = tells.rest ++ b ∷ [];
  split = ap (λ (l : List (List ℕ)). l ++ b ∷ []) tells.split ∙ append_assoc (generation_batches g) (tells.batch ∷ tells.rest) (b ∷ []);
  wrong = tells.wrong;
}

pub now_out : (out : Bool) (g : ℕ) (bs : List (List ℕ)) (b : List ℕ) → out ≡ false → Tells out g bs → (g + 1 < 2 ^ 64 → b ≢ to_le_bytes w64 (g + 1)) → Tells true g (bs ++ b ∷ [])
now_out out g bs b is tells wrong =
    let all = tells_all out g bs is tells in
    record { small = all.0; batch = b; rest = []; split = ap (λ (l : List (List ℕ)). l ++ b ∷ []) all.1; wrong = wrong }

pub one_more_told : (out : Bool) (g : ℕ) (bs : List (List ℕ)) (b : List ℕ) → out ≡ false → Tells out g bs → g + 1 < 2 ^ 64 → b ≡ to_le_bytes w64 (g + 1) → Tells out (g + 1) (bs ++ b ∷ [])
one_more_told true g bs b is tells small spelled = absurd (cc is)
one_more_told false g bs b is tells small spelled = (
  small,
  ap (λ (l : List (List ℕ)). l ++ b ∷ []) tells.1 ∙ ap (λ (x : List ℕ). generation_batches g ++ x ∷ []) spelled ∙ sym (next_told g (g + 1) refl),
)

-- a front of the generations
told_front : (g h : ℕ) → g < h → (rest : List (List ℕ)) × (generation_batches h ≡ generation_batches g ++ (to_le_bytes w64 (g + 1) ∷ rest))
told_front g zero less = absurd (omega arith)
told_front g (suc h) less = elim (cases_order g h) [
  | inl same ↦
      let next = next_told g (suc h) (omega (arith, same)) in
      let is : suc h ≡ g + 1 = omega (arith, same) in ([], next ∙ ap (λ (n : ℕ). generation_batches g ++ to_le_bytes w64 n ∷ []) is)
  | inr other ↦ elim other [
    | inl before ↦
        let front = told_front g h before in (
          front.0 ++ to_le_bytes w64 (suc h) ∷ [],
          next_told h (suc h) (omega arith)
              ∙ ap (λ (l : List (List ℕ)). l ++ to_le_bytes w64 (suc h) ∷ []) front.1
              ∙ append_assoc (generation_batches g) (to_le_bytes w64 (g + 1) ∷ front.0) (to_le_bytes w64 (suc h) ∷ []),
        )
    | inr after ↦ absurd (omega (arith, after, less))
  ]
]

-- a batch that isn't the next generation stands behind no front of the generations
pub not_told : (bs : List (List ℕ)) (g h : ℕ) → h < 2 ^ 64 → IsOutOfTurn bs g → bs ≡ generation_batches h → ⊥
not_told bs g h small out is = elim (cases_lt g h) [
  | inl before ↦
      let front = told_front g h before in
      let same : out.batch ∷ out.rest ≡ to_le_bytes w64 (g + 1) ∷ front.0 = append_cancel_left (generation_batches g) (out.batch ∷ out.rest) (to_le_bytes w64 (g + 1) ∷ front.0) (sym out.split ∙ is ∙ front.1) in
      out.wrong (omega (arith, before, small)) (cc same)
  | inr after ↦
      let long = ap length (sym out.split ∙ is) in
      omega (arith, long, after, length-append (generation_batches g) (out.batch ∷ out.rest), length-generation_batches g, length-generation_batches h)
]

-- one place at most is out of turn
not_both_out : (bs : List (List ℕ)) (g h : ℕ) → IsOutOfTurn bs g → IsOutOfTurn bs h → g < h → ⊥
not_both_out bs g h one two less =
    let front = told_front g h less in
    let same : one.batch ∷ one.rest ≡ (to_le_bytes w64 (g + 1) ∷ front.0) ++ (two.batch ∷ two.rest) =
    append_cancel_left (generation_batches g) (one.batch ∷ one.rest) ((to_le_bytes w64 (g + 1) ∷ front.0) ++ (two.batch ∷ two.rest)) (
    sym one.split ∙ two.split ∙ ap (λ (l : List (List ℕ)). l ++ (two.batch ∷ two.rest)) front.1 ∙ append_assoc (generation_batches g) (to_le_bytes w64 (g + 1) ∷ front.0) (two.batch ∷ two.rest)
    ) in
    let small = two.small in
    one.wrong (omega (arith, less, small)) (cc same)

pub one_out : (bs : List (List ℕ)) (g h : ℕ) → IsOutOfTurn bs g → IsOutOfTurn bs h → g ≡ h
one_out bs g h one two = elim (cases_order g h) [
  | inl same ↦ same
  | inr other ↦ elim other [ inl less ↦ absurd (not_both_out bs g h one two less) | inr more ↦ absurd (not_both_out bs h g two one more) ]
]

-- the place of the open gate before it
pub out_place : (bs : List (List ℕ)) (g : ℕ) → IsOutOfTurn bs g → 13 * g ≤ length (open_gates bs)
out_place bs g out =
    let whole = ap (λ (l : List (List ℕ)). length (open_gates l)) out.split in
    omega (arith, whole, length_told g, open_gates-more (generation_batches g) (out.batch ∷ out.rest))

-- what a load tells of it
pub bad_place : (g place at len closed : ℕ) (bs : List (List ℕ)) → place ≡ min (g * 13) (2 ^ 64 - 1) → at ≡ min place len → len ≡ closed + 1 → len < 2 ^ 64 → closed ≡ length (open_gates bs) → IsOutOfTurn bs g → at ≡ length (open_gates (generation_batches g))
bad_place g place at len closed bs is_place is_at is_len small is_closed out = let within = out_place bs g out in let front = length_told g in omega (arith, is_place, is_at, is_len, small, is_closed, within, front)

pub bad_told : (name file : Name) (files : Files) (out : Bool) (g at : ℕ) (bs : List (List ℕ)) → file ≡ at_name name → out ≡ true → Tells out g bs → HasBatches (files file) bs → at ≡ length (open_gates (generation_batches g)) → IsBadOf name files file at
bad_told name file files out g at bs is out_is tells has place = inl (
  is,
  inr (record {
    batches = bs;
    generation = g;
    has = subst (λ (n : Name). HasBatches (files n) bs) is has;
    out_of_turn = tells_out out g bs out_is tells;
    is_at = place;
  }),
)
