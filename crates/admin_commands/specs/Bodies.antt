-- The bodies of replies at success, without the newline that ends each.
use Rattle.std.specs.Prelude.{ℕ, List, ◌++◌, codes, decimal, slice_index}
use Rattle.pb_wire.specs.Payload.{row_of}
use Rattle.pb_messages.specs.declared.about.Method.{Method}
use Rattle.pb_messages.specs.declared.about.Method.TheVariants.{Monitor, Scan}
use Rattle.pb_messages.specs.declared.about.State.{State}
use Rattle.pb_messages.specs.declared.about.State.TheVariants.{Running, Paused, Retired}
use Rattle.act_model.specs.declared.details.Details.{Details}
use Rattle.json_out.specs.Values.{string_text, array_text}

-- all is done
abbrev pub done_text : List ℕ
done_text = codes "{\"status\":\"ok\"}"

-- the variable has this row
abbrev pub row_text : ℕ → List ℕ
row_text row = codes "{\"status\":\"ok\",\"row\":" ++ decimal row ++ codes "}"

-- so many samples became durable
abbrev pub flushed_text : ℕ → List ℕ
flushed_text samples = codes "{\"status\":\"ok\",\"flushed\":" ++ decimal samples ++ codes "}"

abbrev pub names_text : List (List ℕ) → List ℕ
names_text names = array_text string_text names

-- whether a variable's samples are taken
abbrev pub state_text : State → List ℕ
state_text Running = codes "Being archived"
state_text Paused = codes "Paused"
state_text Retired = codes "Retired"

-- what is told of a variable without a row
abbrev pub no_row_text : List ℕ
no_row_text = codes "Not being archived"

abbrev pub status_text : List ℕ → List ℕ → List ℕ
status_text name state = codes "[{\"pvName\":" ++ string_text name ++ codes ",\"status\":\"" ++ state ++ codes "\"}]"

abbrev pub method_text : Method → List ℕ
method_text Monitor = codes "MONITOR"
method_text (Scan period) = codes "SCAN"

-- the sampling period in nanoseconds; 0 where each sample is tried
abbrev pub period_of : Method → ℕ
period_of Monitor = 0
period_of (Scan period) = period

-- a member behind others, with a text that a JSON string has as it is
unfoldable pub text_member : List ℕ → List ℕ → List ℕ
text_member name text = codes ",\"" ++ name ++ codes "\":\"" ++ text ++ codes "\""

-- a member behind others, with a number
unfoldable pub number_member : List ℕ → ℕ → List ℕ
number_member name number = codes ",\"" ++ name ++ codes "\":" ++ decimal number

-- the numbers of files of the short, the medium and the long term
unfoldable pub files_member : List ℕ → List ℕ
files_member files = codes ",\"files\":[" ++ decimal (slice_index files 0) ++ codes "," ++ decimal (slice_index files 1) ++ codes "," ++ decimal (slice_index files 2) ++ codes "]"

-- the type of a variable's samples, and whether they are taken
unfoldable pub state_members : Details → List ℕ
state_members d = text_member (codes "type") (row_of d.about.ty).name ++ text_member (codes "status") (state_text d.state)

-- how samples are taken
unfoldable pub method_members : Method → List ℕ
method_members method = text_member (codes "samplingMethod") (method_text method) ++ number_member (codes "samplingPeriodNanos") (period_of method)

-- how many samples are accepted and durable, and the numbers of files
unfoldable pub count_members : Details → List ℕ
count_members d = number_member (codes "accepted") d.accepted ++ number_member (codes "durable") d.durable ++ files_member d.files

abbrev pub details_text : Details → List ℕ
details_text d = codes "{\"pvName\":" ++ string_text d.name ++ state_members d ++ method_members d.about.method ++ count_members d ++ codes "}"
