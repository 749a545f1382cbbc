-- An event and its stamp.
use Rattle.std.proofs.Common.{◌≡◌, ℕ, ◌||◌, if◌then◌else◌, Bool, true, false, List, Option, Some, None, Ok, Err, length, refl, sym, ◌∙◌, ap}
use Rattle.std.specs.Prelude.{is_some}
use Rattle.pb_wire.specs.declared.payload.PayloadType.{PayloadType}
use Rattle.pb_wire.specs.declared.fault.FieldFault.{FieldFault}
use Rattle.pb_messages.specs.declared.reading.Members as reading
use Rattle.pb_messages.specs.declared.value.Value.{Value}
use Rattle.pb_wire.specs.Fields.{number_in, last_of, first_fault}
use Rattle.pb_wire.specs.FieldValue.{fields_of}
use Rattle.pb_messages.specs.Layout.{layout_of}
use Rattle.series_model.proofs.PairLists.{joined_some}
use Rattle.pb_messages.specs.Reading.{seen, no_members, with_fields}
use Rattle.pb_wire.specs.declared.payload.PayloadType.TheVariants.{ScalarString, ScalarShort, ScalarFloat, ScalarEnum, ScalarByte, ScalarInt, ScalarDouble, WaveformString, WaveformShort, WaveformFloat, WaveformEnum, WaveformByte, WaveformInt, WaveformDouble}
use Rattle.pb_wire.specs.Message.{WireValue}
use Rattle.pb_messages.specs.Adding.{blank, with_elements}
use Rattle.pb_wire.specs.Reading.{◌>>=◌}
use Rattle.pb_messages.specs.Event.{elements_of, value_of, Members, members_of, fault_in, has_val, val_of, pairs_of, event_with, event_of, stamp_of, stamp_with}

stamp_of-members : (m : Members) (secs nano : Option ℕ) (value : Option Value) (fields : Option (List (List ℕ × List ℕ))) → m.secs ≡ secs → m.nano ≡ nano → m.value ≡ value → m.fields ≡ fields
    → (event_with m >>= λ event. Ok (event.secs, event.nano)) ≡ stamp_with secs nano (is_some value) (is_some fields)
unfolding event_with
stamp_of-members m None nano value fields e1 e2 e3 e4 = rw e1 refl
stamp_of-members m (Some s) None value fields e1 e2 e3 e4 = rw (e1, e2) refl
stamp_of-members m (Some s) (Some n) None fields e1 e2 e3 e4 = rw (e1, e2, e3) refl
stamp_of-members m (Some s) (Some n) (Some v) None e1 e2 e3 e4 = rw (e1, e2, e3, e4) refl
stamp_of-members m (Some s) (Some n) (Some v) (Some f) e1 e2 e3 e4 = rw (e1, e2, e3, e4) refl

some_where : (b : Bool) (v : Value) → is_some (if b then Some v else None) ≡ b
some_where true v = refl
some_where false v = refl

-- the stamp by the required members, where there is no fault
pub stamp_found : (ty : PayloadType) (bytes : List ℕ) (secs nano : Option ℕ) (value fields : Bool) → first_fault (fault_in (layout_of ty)) (fields_of bytes (length bytes)) ≡ None
    → secs ≡ last_of (number_in 1) (fields_of bytes (length bytes)).items → nano ≡ last_of (number_in 2) (fields_of bytes (length bytes)).items
    → value ≡ ((layout_of ty).repeated || has_val (fields_of bytes (length bytes)).items) → fields ≡ is_some (pairs_of (fields_of bytes (length bytes)).items)
    → stamp_of ty bytes ≡ stamp_with secs nano value fields
unfolding stamp_of event_of
stamp_found ty bytes secs nano value fields sound e1 e2 e3 e4 =
    let items = (fields_of bytes (length bytes)).items in
    let m = members_of ty items in
    let given : is_some (val_of ty items) ≡ value = some_where ((layout_of ty).repeated || has_val items) _ ∙ sym e3 in
    let so_far : (event_with m >>= λ event. Ok (event.secs, event.nano)) ≡ stamp_with m.secs m.nano (is_some m.value) (is_some m.fields) = stamp_of-members m m.secs m.nano m.value m.fields refl refl refl refl in
    rw (sound, e1, e2, e4) (so_far ∙ ap (λ (b : Bool). stamp_with m.secs m.nano b (is_some m.fields)) given)

pub stamp_fault : (ty : PayloadType) (bytes : List ℕ) (fault : FieldFault) → first_fault (fault_in (layout_of ty)) (fields_of bytes (length bytes)) ≡ Some fault → stamp_of ty bytes ≡ Err fault
unfolding stamp_of event_of
stamp_fault ty bytes fault e = rw e refl

-- elements that are added to no elements make the value
value_made : (ty : PayloadType) (es : List WireValue) → with_elements (blank ty) es ≡ value_of ty es
value_made ScalarString es = refl
value_made ScalarShort es = refl
value_made ScalarFloat es = refl
value_made ScalarEnum es = refl
value_made ScalarByte es = refl
value_made ScalarInt es = refl
value_made ScalarDouble es = refl
value_made WaveformString es = refl
value_made WaveformShort es = refl
value_made WaveformFloat es = refl
value_made WaveformEnum es = refl
value_made WaveformByte es = refl
value_made WaveformInt es = refl
value_made WaveformDouble es = refl

-- the event by the members that were read, where there is no fault
pub event_found : (ty : PayloadType) (bytes : List ℕ) (m : reading.Members) → first_fault (fault_in (layout_of ty)) (fields_of bytes (length bytes)) ≡ None
    → m ≡ with_fields (layout_of ty) (no_members ty (layout_of ty).repeated) (fields_of bytes (length bytes)).items → event_of ty bytes ≡ event_with (seen m)
unfolding event_of
event_found ty bytes m sound e = rw (sound, e, joined_some (pairs_of (fields_of bytes (length bytes)).items), value_made ty (elements_of (layout_of ty) (fields_of bytes (length bytes)).items)) refl

pub event_fault : (ty : PayloadType) (bytes : List ℕ) (fault : FieldFault) → first_fault (fault_in (layout_of ty)) (fields_of bytes (length bytes)) ≡ Some fault → event_of ty bytes ≡ Err fault
unfolding event_of
event_fault ty bytes fault e = rw e refl

pub ruleset event_ends = (event_found, event_fault)

pub ruleset stamp_ends = (stamp_found, stamp_fault)
