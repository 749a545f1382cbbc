-- Periods of sampling. A text tells seconds, as `1`, `0.5` or `60.000000001`; contracts see them as nanoseconds.
use Rattle.std.specs.Prelude.{◌≡◌, ◌≢◌, ◌⊎◌, ℕ, ◌+◌, ◌*◌, ◌<◌, ◌≤◌, List, [], ◌∷◌, ◌++◌, All, length, slice_index}
use Rattle.arch_time.specs.Digits.{IsNumber}
use Rattle.arch_time.specs.Iso.{IsFraction}

-- digits without a leading zero, at least one, and the number that they spell
pub record IsWhole (text : List ℕ) (n : ℕ) : Type 0 where
  pub number : IsNumber text n
  pub some : 0 < length text
  pub first : slice_index text 0 ≡ 48 → length text ≡ 1

-- whole seconds, and then nothing or a point and one to nine digits; from 0.1 to 86,400 seconds
pub record IsPeriod (text : List ℕ) (period : ℕ) : Type 0 where
  pub before : List ℕ
  pub behind : List ℕ
  pub seconds : ℕ
  pub nanos : ℕ
  pub cut : text ≡ before ++ behind
  pub whole : IsWhole before seconds
  pub fraction : IsFraction behind nanos
  pub value : period ≡ seconds * 1_000_000_000 + nanos
  pub least : 100_000_000 ≤ period
  pub most : period ≤ 86_400_000_000_000

-- the two parts of a text, of which the second begins with the first point or is empty
pub record IsCut (text before behind : List ℕ) : Type 0 where
  pub is : text ≡ before ++ behind
  pub before_no_point : All (λ b. b ≢ 46) before
  pub at_point : (behind ≡ []) ⊎ ((rest : List ℕ) × (behind ≡ 46 ∷ rest))
