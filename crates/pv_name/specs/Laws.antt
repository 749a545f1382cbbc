-- What holds of all names and keys.
use Rattle.std.specs.Prelude.{◌≡◌, ℕ, List, ◌≢◌, ◌↔◌, All}
use Rattle.pv_name.specs.Name.{IsName, IsRefusedAt}
use Rattle.pv_name.specs.Key.{key_of, DifferInSeparators}

-- no name is refused
abbrev pub NoNameIsRefused : Type 0
NoNameIsRefused = (bytes : List ℕ) (at : ℕ) → IsName bytes → IsRefusedAt bytes at → ⊥

-- bytes are refused at one place
abbrev pub OnePlace : Type 0
OnePlace = (bytes : List ℕ) (a b : ℕ) → IsRefusedAt bytes a → IsRefusedAt bytes b → a ≡ b

-- two names with one key are told apart by their separators alone
abbrev pub OneKey : Type 0
OneKey = (a b : List ℕ) → (key_of a ≡ key_of b) ↔ DifferInSeparators a b

-- a name's key is itself a name, so as a path it stays below its folder
abbrev pub KeysAreNames : Type 0
KeysAreNames = (name : List ℕ) → IsName name → IsName (key_of name)

-- no `:` stands in a key, so a path shows where its key ends
abbrev pub NoColon : Type 0
NoColon = (name : List ℕ) → All (λ b. b ≢ 58) (key_of name)
