-- What the file that tells the generation has tells one generation.
use Rattle.std.proofs.Common.{◌≡◌, ℕ, zero, suc, ◌+◌, ◌*◌, List, [], ◌∷◌, ◌++◌, length, refl, sym, ◌∙◌, ap, arith}
use Rattle.std.proofs.lemmas.List.{length_push}
use Rattle.std.specs.Int.{to_le_bytes, w64}
use Rattle.disk_model.specs.Files.{Content}
use Rattle.gate_journal.specs.Batches.{open_gates, HasBatches}
use Rattle.gate_journal.specs.Generations.{generation_batches}
use Rattle.gate_journal.proofs.Bytes.{length-open_gates-push}
use Rattle.gate_journal.proofs.Meaning.{same_batches}

pub none_told : generation_batches 0 ≡ []
unfolding generation_batches
none_told = refl

pub next_told : (g h : ℕ) → h ≡ g + 1 → generation_batches h ≡ generation_batches g ++ to_le_bytes w64 h ∷ []
unfolding generation_batches
next_told g zero is = absurd (omega arith)
next_told g (suc k) is = let same : k ≡ g = omega arith in ap (λ (n : ℕ). generation_batches n ++ to_le_bytes w64 (suc k) ∷ []) same

pub length-generation_batches : (g : ℕ) → length (generation_batches g) ≡ g
length-generation_batches zero = ap length none_told
length-generation_batches (suc g) =
    let next = next_told g (suc g) (omega arith) in
    ap length next ∙ length_push (generation_batches g) (to_le_bytes w64 (suc g)) ∙ omega (arith, length-generation_batches g)

pub one_told : (g h : ℕ) → generation_batches g ≡ generation_batches h → g ≡ h
one_told g h same = sym (length-generation_batches g) ∙ ap length same ∙ length-generation_batches h

eight : (n : ℕ) → length (to_le_bytes w64 n) ≡ 8
eight n = omega arith

pub length_told : (g : ℕ) → length (open_gates (generation_batches g)) ≡ 13 * g
length_told zero = ap (λ (bs : List (List ℕ)). length (open_gates bs)) none_told
length_told (suc g) =
    let next = ap (λ (bs : List (List ℕ)). length (open_gates bs)) (next_told g (suc g) (omega arith)) in
    omega (arith, next, length-open_gates-push (generation_batches g) (to_le_bytes w64 (suc g)), length_told g, eight (suc g))

-- an image's batches are one list
pub one_generation_told : (c : Content) (g h : ℕ) → HasBatches c (generation_batches g) → HasBatches c (generation_batches h) → g ≡ h
one_generation_told c g h one other = one_told g h (same_batches c (generation_batches g) (generation_batches h) one other)
