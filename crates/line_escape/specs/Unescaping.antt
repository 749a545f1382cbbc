-- What an escaped line means, and where a line has no meaning.
use Rattle.std.specs.Prelude.{◌≡◌, ◌≢◌, ℕ, ◌==◌, List, [], ◌∷◌, ◌++◌, Option, Some, None, All, take, drop, if◌then◌else◌}
use Rattle.line_escape.specs.declared.error.EscapeErr.{EscapeErr}
use Rattle.line_escape.specs.declared.error.EscapeErr.TheVariants.{BadEscape, Memory}

-- The second byte of a pair tells the byte that the pair stands for: 1B, 0A or 0D.
abbrev pub byte_of_pair : ℕ → Option ℕ
byte_of_pair c = if c == 1 then Some 27 else (if c == 2 then Some 10 else (if c == 3 then Some 13 else None))

-- A byte may be read from its pair, or from itself if it is neither 1B nor 0A.
abbrev pub IsCode : List ℕ → ℕ → Type 0
IsCode [] b = ⊥
IsCode (x ∷ []) b = (x ≡ b) × (x ≢ 27) × (x ≢ 10)
IsCode (x ∷ c ∷ []) b = (x ≡ 27) × (byte_of_pair c ≡ Some b)
IsCode (x ∷ c ∷ y ∷ u) b = ⊥

-- A line means the bytes if it consists of a code of each of them in order.
abbrev pub Means : List ℕ → List ℕ → Type 0
Means line [] = line ≡ []
Means line (b ∷ bytes) = (code rest : List ℕ) × (line ≡ code ++ rest) × IsCode code b × Means rest bytes

-- At the front stands a 1B that isn't followed by 01, 02 or 03.
abbrev pub BeginsBadEscape : List ℕ → Type 0
BeginsBadEscape [] = ⊥
BeginsBadEscape (x ∷ []) = x ≡ 27
BeginsBadEscape (x ∷ c ∷ u) = (x ≡ 27) × (byte_of_pair c ≡ None)

-- The bytes before the place mean something, and a bad 1B stands there.
abbrev pub IsBadPlace : List ℕ → ℕ → Type 0
IsBadPlace line at = ((bytes : List ℕ) × Means (take at line) bytes) × BeginsBadEscape (drop at line)

-- No newline stands in the line.
abbrev pub HasNoNewline : List ℕ → Type 0
HasNoNewline line = All (λ x. x ≢ 10) line

-- The new bytes are the old ones and then what the line means.
abbrev pub AppendsMeaning : List ℕ → List ℕ → List ℕ → Type 0
AppendsMeaning line old new = (bytes : List ℕ) × Means line bytes × (new ≡ old ++ bytes)

-- A bad escape is told with its place; want of memory says nothing of the line.
abbrev pub IsRefusal : List ℕ → EscapeErr → Type 0
IsRefusal line (BadEscape at) = IsBadPlace line at
IsRefusal line Memory = Unit {0}

-- At the front stands a pair that stands for the byte.
abbrev pub BeginsPair : List ℕ → ℕ → Type 0
BeginsPair [] b = ⊥
BeginsPair (x ∷ []) b = ⊥
BeginsPair (x ∷ c ∷ u) b = (x ≡ 27) × (byte_of_pair c ≡ Some b)
