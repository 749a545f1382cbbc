-- What is taken of the line at the front of bytes.
use Rattle.std.specs.Prelude.{◌≡◌, ℕ, List, ◌∷◌, ◌++◌}
use Rattle.line_escape.specs.Unescaping.{HasNoNewline}
use Rattle.pb_file.specs.declared.line.LineTaken.{LineTaken}
use Rattle.pb_file.specs.declared.line.LineTaken.TheVariants.{Whole, Part, Memory}

-- the bytes begin with this line and a newline
abbrev pub BeginsWithLine : List ℕ → List ℕ → Type 0
BeginsWithLine bytes line = (rest : List ℕ) × (bytes ≡ line ++ 10 ∷ rest) × HasNoNewline line

-- The line gained the bytes up to their first newline, or all of them where there is none.
abbrev pub Appends : List ℕ → List ℕ → List ℕ → LineTaken → Type 0
Appends bytes old new Whole = (part rest : List ℕ) × (bytes ≡ part ++ 10 ∷ rest) × HasNoNewline part × (new ≡ old ++ part)
Appends bytes old new Part = HasNoNewline bytes × (new ≡ old ++ bytes)
Appends bytes old new Memory = new ≡ old
