-- The members that were read so far.
use Rattle.std.specs.Prelude.{◌≡◌, ◌||◌, if◌then◌else◌, Bool, List, [], ◌∷◌, Some, None, Result, Ok, Err}
use Rattle.pb_wire.specs.declared.payload.PayloadType.{PayloadType}
use Rattle.pb_wire.specs.Message.{WireField}
use Rattle.pb_wire.specs.Cursor.{Placed}
use Rattle.pb_messages.specs.declared.error.EventErr.{EventErr}
use Rattle.pb_messages.specs.declared.error.EventErr.TheVariants.{Fault, Memory}
use Rattle.pb_messages.specs.declared.layout.Layout.{Layout}
use Rattle.pb_messages.specs.declared.reading.Members as reading
use Rattle.series_model.specs.PairLists.{joined}
use Rattle.pb_messages.specs.Event.{Members, fault_in, has_val, elements_of, pairs_of}
use Rattle.pb_messages.specs.Adding.{blank, with_elements}
use Rattle.pb_messages.specs.Singular.{no_numbers, with_numbers}

-- The value is there only where a field val is.
abbrev pub seen : reading.Members → Members
seen m = record {
  secs = m.numbers.secs;
  nano = m.numbers.nano;
  value = if m.val then Some m.value else None;
  severity = m.numbers.severity;
  status = m.numbers.status;
  repeat = m.numbers.repeat;
  fields = m.fields;
  actual_change = m.numbers.actual_change;
}

abbrev pub no_members : PayloadType → Bool → reading.Members
no_members ty val = record { numbers = no_numbers; val = val; value = blank ty; fields = Some [] }

-- The members with more fields behind them.
abbrev pub with_fields : Layout → reading.Members → List (Placed WireField) → reading.Members
with_fields layout m items = record {
  numbers = with_numbers m.numbers items;
  val = m.val || has_val items;
  value = with_elements m.value (elements_of layout items);
  fields = joined m.fields (pairs_of items);
}

-- The field is taken, or its fault is told, unless memory ran out.
abbrev pub TakesField : {X : Type 0} → Layout → reading.Members → reading.Members → Placed WireField → Result X EventErr → Type 0
TakesField layout old new x (Ok r) = (fault_in layout x ≡ None) × (new ≡ with_fields layout old (x ∷ []))
TakesField layout old new x (Err (Fault fault)) = fault_in layout x ≡ Some fault
TakesField layout old new x (Err Memory) = Unit {0}
