-- An image has one reading as batches of a journal with checkpoints, or one place where it is bad.
use Rattle.std.proofs.Common.{◌≡◌, ◌⊎◌, inl, inr, ℕ, ◌+◌, ◌<◌, ◌≤◌, ◌^◌, Bool, true, false, List, [], ◌∷◌, ◌++◌, length, Some, None, All, refl, sym, ◌∙◌, ap, subst, arith, append_assoc}
use Rattle.std.proofs.lemmas.Bool.{cases_lt}
use Rattle.std.proofs.lemmas.List.{append-nil}
use Rattle.std.proofs.lemmas.Slice.Eq.{bytes_eq-Decides}
use Rattle.std.specs.Int.{to_le_bytes, w64}
use Rattle.std.specs.Str.{bytes_eq}
use Rattle.disk_model.specs.Files.{Name, Content, Files}
use Rattle.gate_journal.specs.Batches.{HasBatches, IsBadJournal, IsShort, open_gates}
use Rattle.gate_journal.specs.Generations.{at_name, generation_name, generation_batches, HasBatchesOf, IsOutOfTurn, IsBadGeneration, IsBadOf}
use Rattle.gate_journal.proofs.Meaning.{same_batches, same_place, not_both, each_reads}
use Rattle.gate_journal.proofs.Telling.{none_told, next_told, one_generation_told}
use Rattle.gate_journal.proofs.Turns.{not_told, one_out}

bad_not_short : (c : Content) (place : ℕ) → IsBadJournal c place → IsShort c → ⊥
bad_not_short None place bad short = bad
bad_not_short (Some b) place bad short = omega (arith, bad.0, short)

module _ (name : Name) (image : Files) where
  pub one_list : (bs cs : List (List ℕ)) → HasBatchesOf name image bs → HasBatchesOf name image cs → bs ≡ cs
  one_list bs cs one two =
      let same = one_generation_told (image (at_name name)) one.generation two.generation one.told two.told in
      same_batches (image (generation_name name one.generation)) bs cs one.batches (subst (λ (g : ℕ). HasBatches (image (generation_name name g)) cs) (sym same) two.batches)

  -- no generation is told where a batch is out of turn
  out_not_told : (place g : ℕ) → g < 2 ^ 64 → HasBatches (image (at_name name)) (generation_batches g) → IsBadGeneration name image place → ⊥
  out_not_told place g small told bad =
      not_told bad.batches bad.generation g small bad.out_of_turn (same_batches (image (at_name name)) bad.batches (generation_batches g) bad.has told)

  at_not_told : (file : Name) (place g : ℕ) → g < 2 ^ 64 → HasBatches (image (at_name name)) (generation_batches g) → file ≡ at_name name → IsBadJournal (image file) place ⊎ IsBadGeneration name image place → ⊥
  at_not_told file place g small told is (inl bad) = not_both (image (at_name name)) (generation_batches g) place told (subst (λ (n : Name). IsBadJournal (image n) place) is bad)
  at_not_told file place g small told is (inr bad) = out_not_told place g small told bad

  pub no_batches : (bs : List (List ℕ)) (file : Name) (place : ℕ) → HasBatchesOf name image bs → IsBadOf name image file place → ⊥
  no_batches bs file place has (inl (is, bad)) = at_not_told file place has.generation has.small has.told is bad
  no_batches bs file place has (inr bad) =
      let same = one_generation_told (image (at_name name)) has.generation bad.generation has.told bad.told in
      let is : file ≡ generation_name name has.generation = bad.is ∙ ap (λ (g : ℕ). generation_name name g) (sym same) in
      elim bad.bad [
        | inl broken ↦ not_both (image (generation_name name has.generation)) bs place has.batches (subst (λ (n : Name). IsBadJournal (image n) place) is broken)
        | inr short ↦ has.there (let later = short.0 in omega (arith, later, same)) (subst (λ (n : Name). IsShort (image n)) is short.1)
      ]

  at_place : (place to : ℕ) → IsBadJournal (image (at_name name)) place ⊎ IsBadGeneration name image place → IsBadJournal (image (at_name name)) to ⊎ IsBadGeneration name image to → place ≡ to
  at_place place to (inl one) (inl two) = same_place (image (at_name name)) place to one two
  at_place place to (inl one) (inr two) = absurd (not_both (image (at_name name)) two.batches place two.has one)
  at_place place to (inr one) (inl two) = absurd (not_both (image (at_name name)) one.batches to one.has two)
  at_place place to (inr one) (inr two) =
      let same = same_batches (image (at_name name)) one.batches two.batches one.has two.has in
      let g = one_out two.batches one.generation two.generation (subst (λ (bs : List (List ℕ)). IsOutOfTurn bs one.generation) same one.out_of_turn) two.out_of_turn in
      one.is_at ∙ ap (λ (n : ℕ). length (open_gates (generation_batches n))) g ∙ sym two.is_at

  current_place : (file : Name) (place to : ℕ) (g h : ℕ) → IsBadJournal (image file) place ⊎ ((1 ≤ g) × IsShort (image file) × (place ≡ 0)) → IsBadJournal (image file) to ⊎ ((1 ≤ h) × IsShort (image file) × (to ≡ 0)) → place ≡ to
  current_place file place to g h (inl one) (inl two) = same_place (image file) place to one two
  current_place file place to g h (inl one) (inr two) = absurd (bad_not_short (image file) place one two.1)
  current_place file place to g h (inr one) (inl two) = absurd (bad_not_short (image file) to two one.1)
  current_place file place to g h (inr one) (inr two) = one.2 ∙ sym two.2

  pub one_bad : (file other : Name) (place to : ℕ) → IsBadOf name image file place → IsBadOf name image other to → (file ≡ other) × (place ≡ to)
  one_bad file other place to (inl (is, one)) (inl (too, two)) = (
    is ∙ sym too,
    at_place place to (subst (λ (n : Name). IsBadJournal (image n) place ⊎ IsBadGeneration name image place) is one) (subst (λ (n : Name). IsBadJournal (image n) to ⊎ IsBadGeneration name image to) too two),
  )
  one_bad file other place to (inl (is, one)) (inr two) = absurd (at_not_told file place two.generation two.small two.told is one)
  one_bad file other place to (inr one) (inl (too, two)) = absurd (at_not_told other to one.generation one.small one.told too two)
  one_bad file other place to (inr one) (inr two) =
      let g = one_generation_told (image (at_name name)) one.generation two.generation one.told two.told in
      let same : file ≡ other = one.is ∙ ap (λ (n : ℕ). generation_name name n) g ∙ sym two.is in (
        same,
        current_place file place to one.generation two.generation one.bad (subst (λ (n : Name). IsBadJournal (image n) to ⊎ ((1 ≤ two.generation) × IsShort (image n) × (to ≡ 0))) (sym same) two.bad),
      )

content_reads : (c : Content) → ((bytes : List ℕ) → c ≡ Some bytes → All (λ (b : ℕ). b < 256) bytes) → ((bs : List (List ℕ)) × HasBatches c bs) ⊎ ((at : ℕ) × IsBadJournal c at)
content_reads None are = inl ([], refl)
content_reads (Some bytes) are = each_reads bytes (are bytes refl)

-- batches are the generations up to one, or one of them is out of turn
abbrev AreTurns : List (List ℕ) → Type 0
AreTurns bs = ((g : ℕ) × (g < 2 ^ 64) × (bs ≡ generation_batches g)) ⊎ ((g : ℕ) × IsOutOfTurn bs g)

next_turn : (bs : List (List ℕ)) (g : ℕ) (b : List ℕ) (rest : List (List ℕ)) (same : Bool) → g < 2 ^ 64 → bs ≡ generation_batches g ++ (b ∷ rest) → bytes_eq b (to_le_bytes w64 (g + 1)) ≡ same → (bs ≡ generation_batches (g + 1) ++ rest → AreTurns bs) → AreTurns bs
next_turn bs g b rest true small is same more =
    let spelled = (bytes_eq-Decides b (to_le_bytes w64 (g + 1))).0 same in
    more (
    is
    ∙ ap (λ (x : List ℕ). generation_batches g ++ (x ∷ rest)) spelled
    ∙ sym (append_assoc (generation_batches g) (to_le_bytes w64 (g + 1) ∷ []) rest)
    ∙ ap (λ (l : List (List ℕ)). l ++ rest) (sym (next_told g (g + 1) refl))
    )
next_turn bs g b rest false small is same more = inr (
  g,
  record { small = small; batch = b; rest = rest; split = is; wrong = λ fits spelled. let wrong : true ≡ false = sym ((bytes_eq-Decides b (to_le_bytes w64 (g + 1))).1 spelled) ∙ same in absurd (cc wrong) },
)

turns_from : (bs : List (List ℕ)) (g : ℕ) (rest : List (List ℕ)) → g < 2 ^ 64 → bs ≡ generation_batches g ++ rest → AreTurns bs
turns_from bs g [] small is = inl (g, small, is ∙ append-nil (generation_batches g))
turns_from bs g (b ∷ rest) small is = elim (cases_lt (g + 1) (2 ^ 64)) [
  | inr most ↦ inr (g, record { small = small; batch = b; rest = rest; split = is; wrong = λ less. absurd (omega (arith, less, most)) })
  | inl less ↦ next_turn bs g b rest (bytes_eq b (to_le_bytes w64 (g + 1))) small is refl (turns_from bs (g + 1) rest less)
]

short_or_not : (c : Content) → IsShort c ⊎ (IsShort c → ⊥)
short_or_not None = inl tt
short_or_not (Some b) = elim (cases_lt 1 (length b)) [ inl long ↦ inr (λ short. omega (arith, long, short)) | inr short ↦ inl short ]

pub each_image_reads : (name : Name) (image : Files) → ((n : Name) (bytes : List ℕ) → image n ≡ Some bytes → All (λ (b : ℕ). b < 256) bytes)
    → ((bs : List (List ℕ)) × HasBatchesOf name image bs) ⊎ ((file : Name) × (at : ℕ) × IsBadOf name image file at)
each_image_reads name image are = elim (content_reads (image (at_name name)) (are (at_name name))) [
  | inr bad ↦ inr (at_name name, bad.0, inl (refl, inl bad.1))
  | inl has ↦ elim (turns_from has.0 0 has.0 (omega arith) (ap (λ (l : List (List ℕ)). l ++ has.0) (sym none_told))) [
    | inr out ↦ inr (at_name name, length (open_gates (generation_batches out.0)), inl (refl, inr (record { batches = has.0; generation = out.0; has = has.1; out_of_turn = out.1; is_at = refl })))
    | inl told ↦ current told.0 told.1 (subst (λ (bs : List (List ℕ)). HasBatches (image (at_name name)) bs) told.2 has.1)
  ]
]
  where
    read : (g : ℕ) → g < 2 ^ 64 → HasBatches (image (at_name name)) (generation_batches g) → (1 ≤ g → IsShort (image (generation_name name g)) → ⊥)
        → ((bs : List (List ℕ)) × HasBatchesOf name image bs) ⊎ ((file : Name) × (at : ℕ) × IsBadOf name image file at)
    read g small told there = elim (content_reads (image (generation_name name g)) (are (generation_name name g))) [
      | inl has ↦ inl (has.0, record { generation = g; small = small; told = told; batches = has.1; there = there })
      | inr bad ↦ inr (generation_name name g, bad.0, inr (record { generation = g; small = small; told = told; is = refl; bad = inl bad.1 }))
    ]

    current : (g : ℕ) → g < 2 ^ 64 → HasBatches (image (at_name name)) (generation_batches g) → ((bs : List (List ℕ)) × HasBatchesOf name image bs) ⊎ ((file : Name) × (at : ℕ) × IsBadOf name image file at)
    current g small told = elim (short_or_not (image (generation_name name g))) [
      | inr long ↦ read g small told (λ later short. long short)
      | inl short ↦ elim (cases_lt g 1) [
        | inl first ↦ read g small told (λ later too. absurd (omega (arith, first, later)))
        | inr later ↦ inr (generation_name name g, 0, inr (record { generation = g; small = small; told = told; is = refl; bad = inr (later, short, refl) }))
      ]
    ]
