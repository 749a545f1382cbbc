-- The keys of names: the paths of their files.
use Rattle.std.specs.Prelude.{◌≡◌, ℕ, ◌⊎◌, IsTrue, List, map, if◌then◌else◌}
use Rattle.std.specs.List.{AllZip}
use Rattle.pv_name.specs.Name.{is_separator}

-- each separator is written as `/`
abbrev pub key_byte : ℕ → ℕ
key_byte b = if is_separator b then 47 else b

-- a name's key: the name with `:` and `-` turned into `/`
abbrev pub key_of : List ℕ → List ℕ
key_of name = map key_byte name

-- two names are as long, and differ only where both have a separator
abbrev pub DifferInSeparators : List ℕ → List ℕ → Type 0
DifferInSeparators a b = AllZip (λ x y. (x ≡ y) ⊎ (IsTrue (is_separator x) × IsTrue (is_separator y))) a b
