-- How a name lies in its sixteen bytes: the bytes past its end are 0.
use Rattle.std.specs.Prelude.{◌≡◌, ℕ, ◌-◌, ◌≤◌, List, ◌++◌, length, take, replicate}

-- the name
abbrev pub shown : List ℕ → ℕ → List ℕ
shown bytes n = take n bytes

-- a name with zeros up to sixteen bytes
abbrev pub padded : List ℕ → List ℕ
padded text = text ++ replicate (16 - length text) 0

pub record IsPadded (bytes : List ℕ) (n : ℕ) : Type 0 where
  pub short : n ≤ 16
  pub size : length (take n bytes) ≡ n
  pub rest : padded (take n bytes) ≡ bytes
