-- What went out of gathered bytes.
use Rattle.std.specs.Prelude.{◌≡◌, ℕ, List, ◌++◌, Option}
use Rattle.std.specs.Io.KnownBytes.{Appends}

-- so many bytes are gathered at most
abbrev pub most_gathered : ℕ
most_gathered = 65_536

-- A front of the bytes was written, and these are left.
abbrev pub Sends : Option (List ℕ) → Option (List ℕ) → List ℕ → List ℕ → Type 0
Sends a b bytes left = (out : List ℕ) × (bytes ≡ out ++ left) × Appends a b out
