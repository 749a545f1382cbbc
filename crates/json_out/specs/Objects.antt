-- A JSON object of pairs of a name and a value, both strings. Of several pairs with one name only the first is written. Names are
-- compared as bytes, before U+FFFD stands for what isn't UTF-8.
use Rattle.std.specs.Prelude.{ℕ, Bool, List, [], ◌∷◌, ◌++◌, map, codes, nat_eq, if◌then◌else◌}
use Rattle.std.specs.List.{list_any}
use Rattle.std.specs.Cmp.Lexicographic.{pointwise}
use Rattle.json_out.specs.Values.{string_text, separated}

-- one of the pairs has the name
abbrev pub has_name : List (List ℕ × List ℕ) → List ℕ → Bool
has_name pairs name = list_any (λ p. pointwise nat_eq p.0 name) pairs

-- the pairs whose name none before them has, be it among these or among those that stand before these
abbrev pub firsts_behind : List (List ℕ × List ℕ) → List (List ℕ × List ℕ) → List (List ℕ × List ℕ)
firsts_behind before [] = []
firsts_behind before (p ∷ pairs) = (if has_name before p.0 then [] else p ∷ []) ++ firsts_behind (before ++ p ∷ []) pairs

abbrev pub member_text : (List ℕ × List ℕ) → List ℕ
member_text p = string_text p.0 ++ codes ":" ++ string_text p.1

abbrev pub object_text : List (List ℕ × List ℕ) → List ℕ
object_text pairs = codes "{" ++ separated (map member_text (firsts_behind [] pairs)) ++ codes "}"
