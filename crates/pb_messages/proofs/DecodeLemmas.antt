-- An event decoded field by field.
use Rattle.std.proofs.Common.{◌≡◌, ℕ, List, [], ◌∷◌, Option, Some, None, Ok, Err, length, refl, sym, ◌∙◌}
use Rattle.pb_wire.specs.declared.payload.PayloadType.{PayloadType}
use Rattle.pb_wire.specs.declared.message.Field.{Field}
use Rattle.pb_wire.specs.Message.{WireField, view}
use Rattle.pb_wire.specs.Reading.{field_at}
use Rattle.pb_wire.specs.Cursor.{Cursor, Placed, place_of, contents_of, TakesItem, GivesNext}
use Rattle.pb_wire.specs.declared.fault.FieldFault.{FieldFault}
use Rattle.pb_messages.specs.declared.layout.Layout.{Layout}
use Rattle.pb_messages.specs.declared.reading.Members as reading
use Rattle.pb_wire.specs.Fields.{first_fault}
use Rattle.pb_wire.specs.FieldValue.{fields_of}
use Rattle.pb_messages.specs.Layout.{layout_of}
use Rattle.pb_messages.specs.declared.error.EventErr.{EventErr}
use Rattle.pb_messages.specs.declared.error.EventErr.TheVariants.{Fault, Memory}
use Rattle.pb_messages.specs.Event.{fault_in, event_of, event_with, Gives}
use Rattle.pb_messages.specs.Reading.{seen, no_members, with_fields, TakesField}
use Rattle.pb_messages.proofs.EventLemmas.{event_found, event_fault}
use Rattle.pb_messages.proofs.FieldsLemmas.{more_fields, no_fields}

-- behind a field without a fault the first fault stays
pub fault_stays : (layout : Layout) (old new : Cursor) (x : WireField) (total : Option FieldFault) → TakesItem field_at old new x → fault_in layout (record { item = x; behind = place_of new }) ≡ None
    → first_fault (fault_in layout) (contents_of field_at old) ≡ total → first_fault (fault_in layout) (contents_of field_at new) ≡ total
fault_stays layout old new x total taken none so_far = rw (taken.contents, none) at so_far

-- the first field that isn't taken has the event's fault, unless memory ran out
pub take_fails : (X : Type 0) (ty : PayloadType) (bytes : List ℕ) (layout : Layout) (old new : Cursor) (x : WireField) (behind : ℕ) (m n : reading.Members) (e : EventErr) → TakesItem field_at old new x → layout ≡ layout_of ty → behind ≡ place_of new
    → first_fault (fault_in layout) (contents_of field_at old) ≡ first_fault (fault_in layout) (fields_of bytes (length bytes)) → TakesField {X = X} layout m n (record { item = x; behind = behind }) (Err e) → Gives (Err e) (event_of ty bytes)
take_fails X ty bytes layout old new x behind m n (Fault fault) taken is there so_far refused =
    let here : fault_in layout (record { item = x; behind = place_of new }) ≡ Some fault = rw there at refused in
    let so : Some fault ≡ first_fault (fault_in layout) (fields_of bytes (length bytes)) = rw (taken.contents, here) at so_far in
    let told : first_fault (fault_in layout) (fields_of bytes (length bytes)) ≡ Some fault = sym so in
    event_fault ty bytes fault (rw is at told)
take_fails X ty bytes layout old new x behind m n Memory taken is there so_far refused = tt

-- the members with the fields that are left stay the same
pub members_stay : (layout : Layout) (old new : Cursor) (x : WireField) (m n total : reading.Members) → TakesItem field_at old new x → n ≡ with_fields layout m (record { item = x; behind = place_of new } ∷ [])
    → with_fields layout m (contents_of field_at old).items ≡ total → with_fields layout n (contents_of field_at new).items ≡ total
members_stay layout old new x m n total taken step so_far =
    let placed : Placed WireField = record { item = x; behind = place_of new } in
    let before = rw taken.contents at so_far in
    rw step (more_fields layout m placed (contents_of field_at new).items ∙ before)

at_end : (old new : Cursor) (o : Option Field) → ((x : Field) → o ≡ Some x → ⊥) → GivesNext field_at view old new (Ok o) → contents_of field_at old ≡ record { items = []; fault = None }
at_end old new None not_some given = given.1
at_end old new (Some x) not_some given = absurd (not_some x refl)

-- at the end the members make the event
pub decoded : (ty : PayloadType) (bytes : List ℕ) (layout : Layout) (old new : Cursor) (o : Option Field) (m : reading.Members) → ((x : Field) → o ≡ Some x → ⊥) → GivesNext field_at view old new (Ok o) → layout ≡ layout_of ty
    → first_fault (fault_in layout) (contents_of field_at old) ≡ first_fault (fault_in layout) (fields_of bytes (length bytes))
    → with_fields layout m (contents_of field_at old).items ≡ with_fields layout (no_members ty layout.repeated) (fields_of bytes (length bytes)).items
    → event_of ty bytes ≡ event_with (seen m)
decoded ty bytes layout old new o m not_some given is fault members =
    let end = at_end old new o not_some given in
    let none = rw (end, is) at fault in
    let whole = rw (end, is) at members in
    event_found ty bytes m (sym none) (sym (no_fields (layout_of ty) m) ∙ whole)
