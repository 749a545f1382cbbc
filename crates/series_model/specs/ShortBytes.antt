-- What lies under a `Blob`: a few bytes in the value itself, or a vector of any number.
use Rattle.std.specs.Prelude.{ℕ, List, ◌≤◌, ⊤, take}
use Rattle.series_model.specs.declared.blob.Bytes.{Bytes}
use Rattle.series_model.specs.declared.blob.Bytes.TheVariants.{Short, Long}

-- The bytes that it stands for.
abbrev pub bytes_of : Bytes → List ℕ
bytes_of (Short bytes len) = take len bytes
bytes_of (Long bytes) = bytes.items

-- It has all of them.
abbrev pub IsWhole : Bytes → Type 0
IsWhole (Short bytes len) = len ≤ 30
IsWhole (Long bytes) = ⊤
