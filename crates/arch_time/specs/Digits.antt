-- Numbers as decimal digits.
use Rattle.std.specs.Prelude.{◌≡◌, ℕ, ◌+◌, ◌-◌, ◌*◌, List, [], ◌∷◌}
use Rattle.std.specs.Int.{IsInRange}

-- each byte is one of 0 to 9
abbrev pub IsDigits : List ℕ → Type 0
IsDigits [] = Unit {0}
IsDigits (c ∷ cs) = IsInRange 48 57 c × IsDigits cs

-- the number that digits spell behind those of n
abbrev pub number_after : ℕ → List ℕ → ℕ
number_after n [] = n
number_after n (c ∷ cs) = number_after (n * 10 + (c - 48)) cs

-- the text is digits, and they spell n
pub record IsNumber (text : List ℕ) (n : ℕ) : Type 0 where
  pub digits : IsDigits text
  pub value : number_after 0 text ≡ n
