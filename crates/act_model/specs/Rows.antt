-- A row: one variable with its samples. What its three stores list is durable, and what is accepted is that and the tail that the intake
-- holds. A list over another is the first, and of the second what is later: so samples that stand in two stores, as while they are moved,
-- count once.
use Rattle.std.specs.Prelude.{ℕ, ◌+◌, List, [], ◌∷◌, length, Bool, true, false, ◌&&◌, nat_le, nat_lt, Option, Some, None}
use Rattle.series_model.specs.declared.sample.Sample.{Sample}
use Rattle.series_model.specs.declared.admission.Standing.{Standing}
use Rattle.series_model.specs.Sampling.{Cell, first_cell}
use Rattle.series_model.specs.Series.{over, since, before}
use Rattle.pb_messages.specs.declared.about.About.{About}
use Rattle.partition_names.specs.declared.part.Part.{Part}
use Rattle.pb_wire.specs.declared.payload.PayloadType.{PayloadType}
use Rattle.pb_wire.specs.Payload.{row_of}
use Rattle.pb_messages.specs.declared.about.Method.{Method}
use Rattle.pb_messages.specs.declared.about.Method.TheVariants.{Monitor, Scan}
use Rattle.pb_messages.specs.declared.about.State.{State}
use Rattle.pb_messages.specs.declared.about.State.TheVariants.{Running, Paused, Retired}

-- A row has its name, what is known of the variable, and its state; `base`, the row that the variable had under the name before, if it was
-- renamed; `next`, the first moment later than all that was accepted of the variable under each of its names; `tail`, the accepted samples
-- that no store lists yet; `cell`, what a sampled row holds until a tick; and the samples that each store lists. The file of a partition is
-- a window of its store's list, so files need no list of their own.
pub record RowState : Type 0 where
  pub name : List ℕ
  pub about : About
  pub state : State
  pub base : Option ℕ
  pub next : ℕ
  pub tail : List Sample
  pub cell : Cell
  pub short : List Sample
  pub medium : List Sample
  pub long : List Sample

-- a row that has just been registered
abbrev pub fresh_row : List ℕ → About → RowState
fresh_row name about = record { name = name; about = about; state = Running; base = None; next = 0; tail = []; cell = first_cell; short = []; medium = []; long = [] }

-- A row under a new name: of the same variable as the row with this number, whose samples stay there. It is paused, has no samples of its
-- own yet, and takes none that isn't later than the past.
abbrev pub renamed_row : List ℕ → ℕ → RowState → RowState
renamed_row name i row =
    record { name = name; about = row.about; state = Paused; base = Some i; next = row.next; tail = []; cell = first_cell; short = []; medium = []; long = [] }

-- the short, the medium and the long term
pub data Store : Type 0 where
  Short : Store
  Medium : Store
  Long : Store

abbrev pub same_store : Store → Store → Bool
same_store Short Short = true
same_store Medium Medium = true
same_store Long Long = true
same_store a b = false

-- the store into which a store's parts move
abbrev pub next_store : Store → Store
next_store Short = Medium
next_store Medium = Long
next_store Long = Long

-- what a store lists of the row
abbrev pub tier : RowState → Store → List Sample
tier row Short = row.short
tier row Medium = row.medium
tier row Long = row.long

abbrev pub with_tier : RowState → Store → List Sample → RowState
with_tier row Short xs = record row { short = xs }
with_tier row Medium xs = record row { medium = xs }
with_tier row Long xs = record row { long = xs }

-- what is durable in the stores into which a store's samples move
abbrev pub deep : RowState → Store → List Sample
deep row Short = over row.long row.medium
deep row Medium = row.long
deep row Long = []

-- what is durable: the long term, then what is later in the medium term, then what is later in the short term
abbrev pub durable : RowState → List Sample
durable row = over (over row.long row.medium) row.short

-- what is accepted: what is durable, and the tail
abbrev pub accepted : RowState → List Sample
accepted row = over (durable row) row.tail

-- the samples of a partition
abbrev pub window : Part → List Sample → List Sample
window part xs = since part.start (before part.end xs)

-- the moment lies in the partition
abbrev pub holds : Part → ℕ → Bool
holds part t = nat_le part.start t && nat_lt t part.end

abbrev pub is_empty : {A : Type 0} → List A → Bool
is_empty [] = true
is_empty (x ∷ xs) = false

-- how many bytes the samples have, each with its newline
abbrev pub size_of : List Sample → ℕ
size_of [] = 0
size_of (s ∷ rest) = length s.line + 1 + size_of rest

abbrev pub is_running : State → Bool
is_running Running = true
is_running Paused = false
is_running Retired = false

abbrev pub is_paused : State → Bool
is_paused Running = false
is_paused Paused = true
is_paused Retired = false

-- a type's number
abbrev pub number_of : PayloadType → ℕ
number_of ty = (row_of ty).number

-- the period of a SCAN row
abbrev pub period_of : Method → Option ℕ
period_of Monitor = None
period_of (Scan period) = Some period

-- what admission looks at
abbrev pub standing : RowState → Standing
standing row = record { is_running = is_running row.state; ty = number_of row.about.ty; next = row.next }
