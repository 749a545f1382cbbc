-- The names of process variables.
use Rattle.std.specs.Prelude.{◌≡◌, ℕ, ◌-◌, ◌<◌, ◌≤◌, ◌==◌, ◌||◌, Bool, IsTrue, List, drop, length, slice_index, codes, ◌⊎◌}
use Rattle.std.specs.List.{list_any, before_first}
use Rattle.std.specs.Char.{is_ascii_alphanumeric}
use Rattle.pv_name.specs.declared.name.NameErr.{NameErr}
use Rattle.pv_name.specs.declared.name.NameErr.TheVariants.{BadName, Memory}

-- the byte is an ASCII letter or digit, or one of the marks
abbrev pub is_allowed : ℕ → Bool
is_allowed b = is_ascii_alphanumeric b || list_any (λ mark. mark == b) (codes "_-+:[]<>;./,#{}^")

-- a name is cut into segments at `:`, `-` and `/`
abbrev pub is_separator : ℕ → Bool
is_separator b = (b == 58) || (b == 45) || (b == 47)

-- a segment starts at the front of the name, and behind each separator
abbrev pub StartsSegment : List ℕ → ℕ → Type 0
StartsSegment name at = 0 < at → IsTrue (is_separator (slice_index name (at - 1)))

-- no name has a segment of no bytes, `.` or `..`
abbrev pub IsBadSegment : List ℕ → Type 0
IsBadSegment segment = (segment ≡ codes "") ⊎ (segment ≡ codes ".") ⊎ (segment ≡ codes "..")

-- at this place stands a byte that isn't allowed, or the start of a segment that isn't
abbrev pub IsFault : List ℕ → ℕ → Type 0
IsFault name at =
    ((at < length name) × (IsTrue (is_allowed (slice_index name at)) → ⊥))
    ⊎ ((at ≤ length name) × StartsSegment name at × IsBadSegment (before_first is_separator (drop at name)))

-- the least place of a fault
pub record IsFirstFault (name : List ℕ) (at : ℕ) : Type 0 where
  pub here : IsFault name at
  pub none_before : (i : ℕ) → i < at → IsFault name i → ⊥

-- at most this many bytes make a name
abbrev pub most_bytes : ℕ
most_bytes = 128

-- bytes that make a name: no fault stands in them (so they aren't empty: the empty segment is a fault), and they aren't too many
pub record IsName (name : List ℕ) : Type 0 where
  pub short : length name ≤ most_bytes
  pub faultless : (at : ℕ) → IsFault name at → ⊥

-- the place at which bytes are refused: behind the last that would fit, or that of the first fault
abbrev pub IsRefusedAt : List ℕ → ℕ → Type 0
IsRefusedAt name at = ((most_bytes < length name) × (at ≡ most_bytes)) ⊎ ((length name ≤ most_bytes) × IsFirstFault name at)

-- what an error says of the bytes
abbrev pub IsRefusal : List ℕ → NameErr → Type 0
IsRefusal name (BadName at) = IsRefusedAt name at
IsRefusal name Memory = Unit {0}
