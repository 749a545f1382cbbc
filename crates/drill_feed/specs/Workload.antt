-- What the four variables of a drill of so many hours send. They and their samples are numbered from 0.
use Rattle.std.specs.Prelude.{ℕ, zero, suc, ◌+◌, ◌*◌, ◌%◌, ◌^◌, pos, List, [], ◌∷◌, ◌++◌, None, codes, map}
use Rattle.std.specs.List.{range_with_len}
use Rattle.pb_wire.specs.declared.payload.PayloadType.TheVariants.{ScalarInt}
use Rattle.line_escape.specs.Escaping.{escaped}
use Rattle.arch_time.specs.YearTime.{moment}
use Rattle.series_model.specs.declared.sample.Sample.{Sample}
use Rattle.pb_messages.specs.declared.event.Event.{Event}
use Rattle.pb_messages.specs.declared.value.Value.TheVariants.{Int}
use Rattle.pb_messages.specs.Spelling.{event_text}
use Rattle.pb_messages.specs.declared.info.PayloadInfo.{PayloadInfo}
use Rattle.pb_messages.specs.InfoSpelling.{info_text}
use Rattle.pb_lines.specs.File.{lines_of}
use Rattle.pb_lines.specs.Stream.{Item, header, sample, chunk_end}

-- VALUES

-- the number that is drawn behind this one: the linear congruence of the C standard's example of a `rand`
abbrev pub next_draw : ℕ → ℕ
next_draw x = (x * 1103515245 + 12345) % 2 ^ 31

-- the last of so many numbers that are drawn from a seed on, or the seed
unfoldable pub drawn : ℕ → ℕ → ℕ
drawn seed zero = seed
drawn seed (suc n) = next_draw (drawn seed n)

-- Each minute one number is drawn for each variable, in their order; the seed is the number of hours.
abbrev pub value_at : ℕ → ℕ → ℕ → ℕ
value_at hours variable minute = drawn hours (4 * minute + variable + 1)

-- SAMPLES

-- a whole number at a second of the year, without an alarm
abbrev pub event : ℕ → ℕ → Event
event second value = record { secs = second; nano = 0; val = Int (pos value); severity = pos 0; status = pos 0; repeat = None; fields = []; actual_change = None }

-- a variable stands as many seconds behind the minute as its number says
abbrev pub second_at : ℕ → ℕ → ℕ
second_at variable minute = 60 * minute + variable

abbrev pub event_at : ℕ → ℕ → ℕ → Event
event_at hours variable minute = event (second_at variable minute) (value_at hours variable minute)

-- the year is 2024
abbrev pub sample_at : ℕ → ℕ → ℕ → Sample
sample_at hours variable minute = record { t = moment (pos 2024) (second_at variable minute) 0; line = escaped (event_text (event_at hours variable minute)) }

-- a sample a minute
abbrev pub minutes : ℕ → ℕ
minutes hours = 60 * hours

abbrev pub samples : ℕ → ℕ → List Sample
samples hours variable = map (sample_at hours variable) (range_with_len 0 (minutes hours))

-- the moment that clocks tell: one hour behind the last hour's end
abbrev pub now_of : ℕ → ℕ
now_of hours = moment (pos 2024) (3600 * (hours + 1)) 0

-- CHUNKS

-- DRILL:V and the variable's digit
abbrev pub name_text : ℕ → List ℕ
name_text variable = codes "DRILL:V" ++ (48 + variable) ∷ []

abbrev pub header_of : ℕ → PayloadInfo
header_of variable = record { ty = ScalarInt; name = name_text variable; year = pos 2024; count = None; headers = [] }

abbrev pub head_of : ℕ → List ℕ
head_of variable = escaped (info_text (header_of variable))

-- the items of a variable's feed: a header, its samples, and the chunk's end
abbrev pub items_of : ℕ → ℕ → List Item
items_of hours variable = header (header_of variable) (head_of variable) ∷ (map sample (samples hours variable) ++ chunk_end ∷ [])

-- its bytes: the header's line and the samples' lines
abbrev pub chunk_text : ℕ → ℕ → List ℕ
chunk_text hours variable = head_of variable ++ 10 ∷ lines_of (samples hours variable)
