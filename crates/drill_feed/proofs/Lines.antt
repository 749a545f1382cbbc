-- What the lines of a drill mean, and that they are short.
use Rattle.std.proofs.Common.{◌≡◌, ◌≢◌, ℕ, zero, suc, ◌+◌, ◌*◌, ◌/◌, ◌%◌, ◌^◌, ◌<◌, ◌≤◌, pos, List, [], ◌∷◌, ◌++◌, Ok, length, true, false, arith, refl}
use Rattle.std.specs.Prelude.{nat_lt, if◌then◌else◌}
use Rattle.std.specs.Int.{w32, cast_unsigned, to_le_bytes}
use Rattle.std.proofs.lemmas.Int.{ints}
use Rattle.std.proofs.lemmas.List.{length-append}
use Rattle.std.proofs.lemmas.List.Sums.{count_by-le-length}
use Rattle.pb_wire.specs.declared.payload.PayloadType.TheVariants.{ScalarInt}
use Rattle.pb_wire.specs.Spelling.{number, number_text}
use Rattle.line_escape.specs.Escaping.{escaped, needs_pair}
use Rattle.line_escape.proofs.EscapingLemmas.{escaped-Means, length-escaped}
use Rattle.arch_time.specs.YearTime.{moment}
use Rattle.pb_messages.specs.Event.{event_of, stamp_of}
use Rattle.pb_messages.specs.Spelling.{event_text, FitsEvent}
use Rattle.pb_messages.proofs.RoundTrip.{event_back}
use Rattle.pb_messages.specs.InfoSpelling.{info_text, FitsInfo}
use Rattle.pb_messages.proofs.InfoRoundTrip.{info_back}
use Rattle.pb_lines.specs.Header.{IsHeaderLine}
use Rattle.pb_lines.specs.Sample.{IsSampleLine}
use Rattle.drill_feed.specs.Workload.{event, head_of, header_of}

-- LENGTHS

number_short : (n v : ℕ) → length (number n v) ≤ n
unfolding number
number_short zero v = omega arith
number_short (suc n) v =
    elim (nat_lt v 128) as (λ small. length (if small then v ∷ [] else (v % 128 + 128) ∷ number n (v / 128)) ≤ suc n) [
      | true ↦ omega arith
      | false ↦ omega (arith, number_short n (v / 128))
    ]

text_short : (v : ℕ) → length (number_text v) ≤ 10
unfolding number_text
text_short v = number_short 10 v

escaped_short : (bytes : List ℕ) → length (escaped bytes) ≤ 2 * length bytes
escaped_short bytes = omega (arith, length-escaped bytes, count_by-le-length needs_pair bytes)

-- an event's fields are three numbers, each behind its tag
event_short : (second value : ℕ) → length (event_text (event second value)) ≤ 60
unfolding event_text
event_short second value =
    let bits = to_le_bytes w32 (cast_unsigned w32 (pos value)) in
    let last = (number_text 29 ++ bits) ++ [] in
    let nano = number_text 16 ++ number_text 0 in
    omega (
      arith,
      length-append (number_text 8 ++ number_text second) (nano ++ last),
      length-append (number_text 8) (number_text second),
      length-append nano last,
      length-append (number_text 16) (number_text 0),
      length-append (number_text 29 ++ bits) [],
      length-append (number_text 29) bits,
      text_short 8,
      text_short second,
      text_short 16,
      text_short 0,
      text_short 29,
    )

pub line_short : (second value : ℕ) → length (escaped (event_text (event second value))) ≤ 127
line_short second value = omega (arith, escaped_short (event_text (event second value)), event_short second value)

-- its first byte is the tag of the second
pub line_some : (second value : ℕ) → escaped (event_text (event second value)) ≢ []
unfolding event_text number_text number
line_some second value is = cc

-- SAMPLES

event_fits : (second value : ℕ) → second < 2 ^ 32 → value < 2 ^ 31 → FitsEvent (event second value)
event_fits second value early small = record {
  secs = early;
  nano = omega arith;
  val = omega (arith, ints);
  state = record { severity = omega (arith, ints); status = omega (arith, ints); repeat = tt };
  fields = tt;
}

pub event_read : (second value : ℕ) → second < 2 ^ 32 → value < 2 ^ 31 → event_of ScalarInt (event_text (event second value)) ≡ Ok (event second value)
event_read second value early small = event_back ScalarInt (event second value) refl (event_fits second value early small)

stamp_read : (second value : ℕ) → second < 2 ^ 32 → value < 2 ^ 31 → stamp_of ScalarInt (event_text (event second value)) ≡ Ok (second, 0)
unfolding stamp_of
stamp_read second value early small = rw (event_read second value early small) refl

-- 2024 is a leap year
pub is_sample_line : (second value : ℕ) → second < 366 * 86400 → value < 2 ^ 31 → IsSampleLine ScalarInt (pos 2024) (escaped (event_text (event second value))) (moment (pos 2024) second 0)
is_sample_line second value early small = record {
  secs = second;
  nano = 0;
  stamp = (event_text (event second value), escaped-Means (event_text (event second value)), stamp_read second value (omega arith) small);
  sample_year = (omega (arith, ints), omega (arith, ints));
  in_year = record { second = early; nano = omega arith };
  at = refl;
}

-- HEADERS

header_fits : (variable : ℕ) → FitsInfo (header_of variable)
header_fits variable = record { name = omega arith; year = (omega (arith, ints), omega (arith, ints)); count = tt; headers = tt }

pub is_header_line : (variable : ℕ) → IsHeaderLine (head_of variable) (header_of variable)
is_header_line variable = (info_text (header_of variable), escaped-Means (info_text (header_of variable)), info_back (header_of variable) (header_fits variable))

pub head_some : (variable : ℕ) → head_of variable ≢ []
unfolding info_text number_text number
head_some variable is = cc

head_text_short : (variable : ℕ) → length (info_text (header_of variable)) ≤ 60
unfolding info_text number_text number
head_text_short variable = omega arith

pub head_short : (variable : ℕ) → length (head_of variable) ≤ 127
head_short variable = omega (arith, escaped_short (info_text (header_of variable)), head_text_short variable)
