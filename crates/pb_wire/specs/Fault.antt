-- Why no field stands at the front of the bytes, apart from the order in which they are read.
use Rattle.std.specs.Prelude.{◌≡◌, ℕ, ◌-◌, ◌/◌, ◌%◌, ◌^◌, ◌<◌, ◌≤◌, ◌⊎◌, List, [], ◌∷◌, ◌++◌, length, take}
use Rattle.pb_wire.specs.declared.error.WireErr.{WireErr}
use Rattle.pb_wire.specs.declared.error.WireErr.TheVariants.{BadVarint, BadTag, Group, Short}
use Rattle.pb_wire.specs.Grammar.{IsVarint}

-- Each byte has the top bit set, by which a varint continues.
abbrev pub AllContinue : List ℕ → Type 0
AllContinue [] = Unit {0}
AllContinue (b ∷ text) = (128 ≤ b) × AllContinue text

-- Fewer bytes are left than are wanted.
abbrev pub IsShort : ℕ → ℕ → List ℕ → WireErr → Type 0
IsShort end n text e = (length text < n) × (e ≡ Short (end - length text))

-- Ten bytes continue, or all that are left do and they are fewer.
abbrev pub IsVarintFault : ℕ → List ℕ → WireErr → Type 0
IsVarintFault end text e =
    ((10 ≤ length text) × AllContinue (take 10 text) × (e ≡ BadVarint (end - length text)))
    ⊎ (AllContinue text × IsShort end 10 text e)

-- There is no length, or fewer bytes than it says.
abbrev pub IsBlobFault : ℕ → List ℕ → WireErr → Type 0
IsBlobFault end text e =
    IsVarintFault end text e
    ⊎ ((size rest : List ℕ) × (n : ℕ) × (text ≡ size ++ rest) × IsVarint size n × IsShort end n rest e)

-- The value of the wire type isn't whole.
abbrev pub IsValueFault : ℕ → ℕ → List ℕ → WireErr → Type 0
IsValueFault end wire text e =
    ((wire ≡ 0) × IsVarintFault end text e)
    ⊎ ((wire ≡ 1) × IsShort end 8 text e)
    ⊎ ((wire ≡ 2) × IsBlobFault end text e)
    ⊎ ((wire ≡ 5) × IsShort end 4 text e)

-- A tag is below 2^32, has a field number from 1 on and a wire type up to 5.
abbrev pub IsTag : ℕ → Type 0
IsTag t = (t < 2 ^ 32) × (1 ≤ t / 8) × (t % 8 < 6)

-- A number that is no tag, a tag that begins or ends a group, or a tag whose value isn't whole.
abbrev pub IsTagFault : ℕ → ℕ → ℕ → List ℕ → WireErr → Type 0
IsTagFault end at t rest e =
    ((IsTag t → ⊥) × (e ≡ BadTag at))
    ⊎ (IsTag t × ((t % 8 ≡ 3) ⊎ (t % 8 ≡ 4)) × (e ≡ Group at))
    ⊎ (IsTag t × IsValueFault end (t % 8) rest e)

-- There is no varint for the tag, or the fault comes with that number.
abbrev pub IsFieldFault : ℕ → List ℕ → WireErr → Type 0
IsFieldFault end text e =
    IsVarintFault end text e
    ⊎ ((tag rest : List ℕ) × (t : ℕ) × (text ≡ tag ++ rest) × IsVarint tag t × IsTagFault end (end - length text) t rest e)
