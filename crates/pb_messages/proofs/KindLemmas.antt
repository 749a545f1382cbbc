-- An event that is found has a value of the type.
use Rattle.std.proofs.Common.{◌≡◌, ℕ, ◌||◌, if◌then◌else◌, Bool, true, false, List, Option, Some, None, Result, Ok, length, refl, subst}
use Rattle.pb_wire.specs.declared.payload.PayloadType.{PayloadType}
use Rattle.pb_wire.specs.declared.payload.PayloadType.TheVariants.{ScalarString, ScalarShort, ScalarFloat, ScalarEnum, ScalarByte, ScalarInt, ScalarDouble, WaveformString, WaveformShort, WaveformFloat, WaveformEnum, WaveformByte, WaveformInt, WaveformDouble}
use Rattle.pb_wire.specs.Message.{WireValue}
use Rattle.pb_wire.specs.declared.fault.FieldFault.{FieldFault}
use Rattle.pb_messages.specs.declared.event.Event.{Event}
use Rattle.pb_messages.specs.declared.value.Value.{Value}
use Rattle.pb_wire.specs.Fields.{first_fault}
use Rattle.pb_wire.specs.FieldValue.{fields_of}
use Rattle.pb_messages.specs.Layout.{layout_of}
use Rattle.pb_wire.specs.Fields.{unless}
use Rattle.pb_messages.specs.Event.{Members, members_of, fault_in, has_val, elements_of, value_of, event_with, event_of, IsOfType}

-- whatever its elements, a value is one of its type
value_kind : (ty : PayloadType) (es : List WireValue) → IsOfType ty (value_of ty es)
value_kind ScalarString es = refl
value_kind ScalarShort es = refl
value_kind ScalarFloat es = refl
value_kind ScalarEnum es = refl
value_kind ScalarByte es = refl
value_kind ScalarInt es = refl
value_kind ScalarDouble es = refl
value_kind WaveformString es = refl
value_kind WaveformShort es = refl
value_kind WaveformFloat es = refl
value_kind WaveformEnum es = refl
value_kind WaveformByte es = refl
value_kind WaveformInt es = refl
value_kind WaveformDouble es = refl

value_where : (b : Bool) (w v : Value) → (if b then Some w else None) ≡ Some v → w ≡ v
value_where true w v e = cc
value_where false w v e = absurd cc

abbrev found : Event → Result Event FieldFault
found event = Ok event

value_is : (v w : Value) → v ≡ w → Some v ≡ Some w
value_is v w e = cc

same_val : (a b : Event) → found a ≡ found b → a.val ≡ b.val
same_val a b e = cc

event_value : (m : Members) (secs nano : Option ℕ) (value : Option Value) (fields : Option (List (List ℕ × List ℕ))) (event : Event) → m.secs ≡ secs → m.nano ≡ nano → m.value ≡ value → m.fields ≡ fields
    → event_with m ≡ Ok event → value ≡ Some event.val
unfolding event_with
event_value m None nano value fields event e1 e2 e3 e4 h = absurd (let g = rw e1 at h in cc)
event_value m (Some s) None value fields event e1 e2 e3 e4 h = absurd (let g = rw (e1, e2) at h in cc)
event_value m (Some s) (Some n) None fields event e1 e2 e3 e4 h = absurd (let g = rw (e1, e2, e3) at h in cc)
event_value m (Some s) (Some n) (Some v) None event e1 e2 e3 e4 h = absurd (let g = rw (e1, e2, e3, e4) at h in cc)
event_value m (Some s) (Some n) (Some v) (Some f) event e1 e2 e3 e4 h = let g = rw (e1, e2, e3, e4) at h in value_is v event.val (same_val _ event g)

unless_ok : (fault : Option FieldFault) (read : Result Event FieldFault) (event : Event) → unless fault read ≡ Ok event → read ≡ Ok event
unless_ok None read event e = e
unless_ok (Some fault) read event e = absurd cc

-- an event that is found has a value of the type
pub event_kind : (ty : PayloadType) (bytes : List ℕ) (event : Event) → event_of ty bytes ≡ Ok event → IsOfType ty event.val
unfolding event_of
event_kind ty bytes event e =
    let items = (fields_of bytes (length bytes)).items in
    let m = members_of ty items in
    let read = unless_ok (first_fault (fault_in (layout_of ty)) (fields_of bytes (length bytes))) (event_with m) event e in
    let value = event_value m m.secs m.nano m.value m.fields event refl refl refl refl read in
    let es = elements_of (layout_of ty) items in
    subst (IsOfType ty) (value_where ((layout_of ty).repeated || has_val items) (value_of ty es) event.val value) (value_kind ty es)
