-- Reads of a file.
use Rattle.std.specs.Prelude.{◌≡◌, ◌⊎◌, ◌≤◌, ℕ, List, [], ◌∷◌, ◌++◌, ◌+◌, ◌&&◌, nat_lt, if◌then◌else◌, Contains, length, take}
use Rattle.line_escape.specs.Unescaping.{HasNoNewline}

-- as many bytes as one step of copying appends, but for a line that is longer
abbrev pub most_copied : ℕ
most_copied = 1_048_576

-- Bytes from the front of others, of which `rest` count: they have a newline, or are all that counts. They are at most so many, or
-- one line.
pub record IsChunk (all : List ℕ) (rest most : ℕ) (bytes : List ℕ) : Type 0 where
  pub count : ℕ
  pub within : count ≤ rest
  pub are : bytes ≡ take count all
  pub enough : Contains bytes 10 ⊎ (count ≡ rest)
  pub few : (length bytes ≤ most) ⊎ ((line : List ℕ) × HasNoNewline line × (bytes ≡ line ++ 10 ∷ [])) ⊎ HasNoNewline bytes

-- more than so many bytes, cut behind a place if they reach so far
abbrev pub cut_to_line : ℕ → ℕ → List ℕ → List ℕ
cut_to_line most end bytes = if nat_lt most (length bytes) && nat_lt end (length bytes) then take (end + 1) bytes else bytes
