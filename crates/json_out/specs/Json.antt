-- The JSON text of an answer: an object of what is known of the variable, its name first, and then an array of the samples in order.
-- A sample has its second and nanosecond since 1970, its value, its severity and status, and the field values where it has some.
use Rattle.std.specs.Prelude.{ℕ, ◌/◌, ◌%◌, List, [], ◌∷◌, ◌++◌, map, codes, decimal, Result, Ok, Err}
use Rattle.std.specs.Fmt.{signed_decimal}
use Rattle.series_model.specs.declared.sample.Sample.{Sample}
use Rattle.pb_wire.specs.declared.payload.PayloadType.{PayloadType}
use Rattle.pb_wire.specs.declared.fault.FieldFault.{FieldFault}
use Rattle.pb_messages.specs.declared.about.About.{About}
use Rattle.pb_messages.specs.declared.event.Event.{Event}
use Rattle.json_out.specs.Values.{separated, value_text}
use Rattle.json_out.specs.Objects.{object_text}
use Rattle.json_out.specs.Line.{event_in}

-- what an event has of fields, where it has any
abbrev pub fields_text : List (List ℕ × List ℕ) → List ℕ
fields_text [] = []
fields_text (p ∷ pairs) = codes ",\"fields\":" ++ object_text (p ∷ pairs)

-- an event at a moment
abbrev pub event_text : ℕ → Event → List ℕ
event_text t e =
    codes "{\"secs\":" ++ decimal (t / 1000000000) ++ codes ",\"nanos\":" ++ decimal (t % 1000000000) ++ codes ",\"val\":" ++ value_text e.val
    ++ codes ",\"severity\":" ++ signed_decimal e.severity ++ codes ",\"status\":" ++ signed_decimal e.status ++ fields_text e.fields ++ codes "}"

-- what was read of a line at a moment; a line that is no event has no text
abbrev pub read_text : ℕ → Result Event FieldFault → List ℕ
read_text t (Ok e) = event_text t e
read_text t (Err fault) = []

abbrev pub sample_text : PayloadType → Sample → List ℕ
sample_text ty s = read_text s.t (event_in ty s.line)

abbrev pub samples_text : PayloadType → List Sample → List ℕ
samples_text ty xs = separated (map (sample_text ty) xs)

-- what stands before the samples
abbrev pub head_text : List ℕ → List (List ℕ × List ℕ) → List ℕ
head_text name headers = codes "[{\"meta\":" ++ object_text ((codes "name", name) ∷ headers) ++ codes ",\"data\":["

-- the text as far as these samples
abbrev pub begun_text : List ℕ → About → List Sample → List ℕ
begun_text name about xs = head_text name about.headers ++ samples_text about.ty xs

abbrev pub json : List ℕ → About → List Sample → List ℕ
json name about xs = begun_text name about xs ++ codes "]}]\n"
