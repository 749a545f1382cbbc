-- What a request asks for: the name of a variable, or an operator and a name in parentheses, as `firstSample_60(A:B)`.
use Rattle.std.specs.Prelude.{◌≡◌, ◌≢◌, ◌⊎◌, ℕ, ◌<◌, ◌≤◌, List, [], ◌∷◌, ◌++◌, length, codes, All, Option, Some, None}
use Rattle.arch_time.specs.Digits.{IsNumber}
use Rattle.sample_bins.specs.declared.op.Op.{Op}
use Rattle.sample_bins.specs.declared.op.Op.TheVariants.{FirstSample, LastSample, Count, Nth, NCount}

-- 1 to 9 digits, which spell a number from 1 on
pub record IsWidth (digits : List ℕ) (n : ℕ) : Type 0 where
  pub number : IsNumber digits n
  pub some : 0 < length digits
  pub few : length digits ≤ 9
  pub least : 1 ≤ n

-- an underscore and a number
abbrev pub IsSuffix : List ℕ → ℕ → Type 0
IsSuffix rest n = (digits : List ℕ) × (rest ≡ 95 ∷ digits) × IsWidth digits n

-- the same, or nothing, which is 900
abbrev pub IsBinWidth : List ℕ → ℕ → Type 0
IsBinWidth rest n = ((rest ≡ []) × (n ≡ 900)) ⊎ IsSuffix rest n

-- an operator's word, and what stands behind it
abbrev pub Spells : List ℕ → List ℕ → Op → Type 0
Spells word rest (FirstSample n) = (word ≡ codes "firstSample") × IsBinWidth rest n
Spells word rest (LastSample n) = (word ≡ codes "lastSample") × IsBinWidth rest n
Spells word rest (Count n) = (word ≡ codes "count") × IsBinWidth rest n
Spells word rest (Nth n) = (word ≡ codes "nth") × IsSuffix rest n
Spells word rest NCount = (word ≡ codes "ncount") × (rest ≡ [])

abbrev pub IsOperator : List ℕ → Op → Type 0
IsOperator text op = (word rest : List ℕ) × (text ≡ word ++ rest) × Spells word rest op

-- a text is a name alone where it has no parenthesis, or an operator and a name in parentheses
abbrev pub Asks : List ℕ → Option Op → List ℕ → Type 0
Asks text None name = (name ≡ text) × All (λ b. (b ≢ 40) × (b ≢ 41)) text
Asks text (Some op) name = (front : List ℕ) × (text ≡ front ++ (40 ∷ (name ++ 41 ∷ []))) × IsOperator front op

-- the two parts of a text, of which the second begins with the first such byte or is empty
pub record IsCut (byte : ℕ) (text before behind : List ℕ) : Type 0 where
  pub is : text ≡ before ++ behind
  pub none_before : All (λ b. b ≢ byte) before
  pub at_byte : (behind ≡ []) ⊎ ((rest : List ℕ) × (behind ≡ byte ∷ rest))
