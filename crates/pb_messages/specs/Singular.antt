-- The numbers that aren't repeated, read so far.
use Rattle.std.specs.Prelude.{◌≡◌, if◌then◌else◌, List, [], ◌∷◌, Option, Some, None, Result, Ok, Err}
use Rattle.std.specs.List.{filter_map, last_or}
use Rattle.pb_wire.specs.Message.{WireField}
use Rattle.pb_wire.specs.Cursor.{Placed}
use Rattle.pb_wire.specs.declared.fault.FieldFault.{FieldFault}
use Rattle.pb_messages.specs.declared.singular.Singular.{Singular}
use Rattle.pb_wire.specs.Fields.{varint_number, number_in, wrong_where}
use Rattle.pb_messages.specs.Event.{is_singular}

abbrev pub no_numbers : Singular
no_numbers = record { secs = None; nano = None; severity = None; status = None; repeat = None; actual_change = None }

-- The numbers with more fields behind them: the last of each holds.
abbrev pub with_numbers : Singular → List (Placed WireField) → Singular
with_numbers s items = record {
  secs = last_or s.secs (filter_map (number_in 1) items);
  nano = last_or s.nano (filter_map (number_in 2) items);
  severity = last_or s.severity (filter_map (number_in 4) items);
  status = last_or s.status (filter_map (number_in 5) items);
  repeat = last_or s.repeat (filter_map (number_in 6) items);
  actual_change = last_or s.actual_change (filter_map (number_in 8) items);
}

abbrev pub singular_fault : WireField → Option FieldFault
singular_fault e = if is_singular e.number then wrong_where (varint_number e.value) e.number else None

-- The field is taken, or its fault is told.
abbrev pub TakesNumber : {X : Type 0} → Singular → Singular → WireField → Result X FieldFault → Type 0
TakesNumber old new e (Ok x) = (singular_fault e ≡ None) × (new ≡ with_numbers old (record { item = e; behind = 0 } ∷ []))
TakesNumber old new e (Err fault) = singular_fault e ≡ Some fault
