-- Reading from the left, with the first fault that is met. A place is told by the end of the message: of `end` bytes, those that aren't read yet stand behind it.
use Rattle.std.specs.Prelude.{◌≡◌, ℕ, zero, suc, ◌+◌, ◌-◌, ◌*◌, ◌/◌, ◌%◌, ◌^◌, List, [], ◌∷◌, length, take, drop, Result, Ok, Err, nat_lt, nat_le, ◌==◌, ◌||◌, if◌then◌else◌}
use Rattle.std.specs.Int.{w32, w64, from_le_bytes}
use Rattle.pb_wire.specs.declared.error.WireErr.{WireErr}
use Rattle.pb_wire.specs.declared.error.WireErr.TheVariants.{BadVarint, BadTag, Group, Short}
use Rattle.pb_wire.specs.Message.{WireValue, varint, fixed64, blob, fixed32, WireField}

-- A reader gives what stands at the front and the bytes behind it, or the first fault; it is told the place behind the last byte.
abbrev pub Reader : Type 0 → Type 0
Reader A = ℕ → List ℕ → Result (A × List ℕ) WireErr

-- The second step goes on with what the first gave, and a fault of either is the fault of both.
infixl 10 ◌>>=◌
abbrev pub ◌>>=◌ : {A B E : Type 0} → Result A E → (A → Result B E) → Result B E
(Ok x) >>= f = f x
(Err e) >>= f = Err e

-- What a function returned, seen by view, is what reading gives.
abbrev pub Gives : {X Y : Type 0} → (X → Y) → Result X WireErr → Result Y WireErr → Type 0
Gives view (Ok x) read = read ≡ Ok (view x)
Gives view (Err e) read = read ≡ Err e

-- The number at the front has n bytes at most, seven bits a byte, the least first.
unfoldable pub number_at : ℕ → ℕ → List ℕ → Result (ℕ × List ℕ) WireErr
number_at at zero text = Err (BadVarint at)
number_at at (suc n) [] = Err (Short at)
number_at at (suc n) (b ∷ text) = if nat_lt b 128 then Ok (b, text) else (number_at at n text >>= λ x. Ok (b - 128 + 128 * x.0, x.1))

-- A varint has ten bytes at most, and bits past the 64th are dropped.
unfoldable pub varint_at : Reader ℕ
varint_at end text = number_at (end - length text) 10 text >>= λ x. Ok (x.0 % 2 ^ 64, x.1)

-- A tag is below 2^32 and has a field number and a wire type that there is; groups are refused last.
unfoldable pub tag_at : Reader ℕ
tag_at end text = varint_at end text >>= λ t.
    if nat_le (2 ^ 32) t.0 || t.0 / 8 == 0 || nat_le 6 (t.0 % 8) then Err (BadTag (end - length text))
    else (if t.0 % 8 == 3 || t.0 % 8 == 4 then Err (Group (end - length text)) else Ok t)

-- So many bytes stand at the front.
unfoldable pub front_at : ℕ → ℕ → List ℕ → Result (List ℕ × List ℕ) WireErr
front_at end n text = if nat_lt (length text) n then Err (Short (end - length text)) else Ok (take n text, drop n text)

-- Eight bytes are a number, the least first.
unfoldable pub fixed64_at : Reader ℕ
fixed64_at end text = front_at end 8 text >>= λ x. Ok (from_le_bytes w64 x.0, x.1)

-- So are four.
unfoldable pub fixed32_at : Reader ℕ
fixed32_at end text = front_at end 4 text >>= λ x. Ok (from_le_bytes w32 x.0, x.1)

-- A length stands at the front, and then so many bytes.
unfoldable pub blob_at : Reader (List ℕ)
blob_at end text = varint_at end text >>= λ n. front_at end n.0 n.1

-- The value goes by the wire type, which is 0, 1, 2 or 5.
unfoldable pub value_at : ℕ → ℕ → List ℕ → Result (WireValue × List ℕ) WireErr
value_at end kind text =
    if kind == 0 then (varint_at end text >>= λ x. Ok (varint x.0, x.1))
    else (if kind == 1 then (fixed64_at end text >>= λ x. Ok (fixed64 x.0, x.1))
    else (if kind == 2 then (blob_at end text >>= λ x. Ok (blob x.0, x.1))
    else (fixed32_at end text >>= λ x. Ok (fixed32 x.0, x.1))))

-- A field is a tag and the value of its wire type.
unfoldable pub field_at : Reader WireField
field_at end text =
    tag_at end text >>= λ tag.
    value_at end (tag.0 % 8) tag.1 >>= λ v.
    Ok (record { number = tag.0 / 8; value = v.0 }, v.1)
