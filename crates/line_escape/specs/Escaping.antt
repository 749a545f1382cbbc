-- How bytes are written in a line: 1B, 0A and 0D as pairs, each other byte as it is.
use Rattle.std.specs.Prelude.{ℕ, Bool, ◌==◌, ◌||◌, List, [], ◌∷◌, if◌then◌else◌}
use Rattle.std.specs.List.{flat_map}

-- The bytes that are written as pairs are 1B, 0A and 0D.
abbrev pub needs_pair : ℕ → Bool
needs_pair b = b == 27 || b == 10 || b == 13

-- A byte is written as its pair if it needs one, and as itself if not.
abbrev pub code_of : ℕ → List ℕ
code_of b = if b == 27 then 27 ∷ 1 ∷ [] else (if b == 10 then 27 ∷ 2 ∷ [] else (if b == 13 then 27 ∷ 3 ∷ [] else b ∷ []))

-- The escaped form is what the bytes are written as, one after another.
abbrev pub escaped : List ℕ → List ℕ
escaped bytes = flat_map code_of bytes
