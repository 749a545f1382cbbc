-- A second, a nanosecond and a value, in this order and nothing else.
use Rattle.std.proofs.Common.{◌≡◌, ℕ, ◌%◌, ◌^◌, ◌||◌, Bool, true, false, List, [], ◌∷◌, Option, Some, None, Ok, length, refl, ◌∙◌, ap, is_some}
use Rattle.pb_wire.specs.declared.payload.PayloadType.{PayloadType}
use Rattle.pb_wire.specs.Message.{WireValue, varint, WireField}
use Rattle.pb_wire.specs.Reading.{field_at}
use Rattle.pb_wire.specs.Cursor.{Cursor, Placed, Contents, with_first, place_of, contents_of, contents_within, TakesItem}
use Rattle.pb_wire.specs.Fields.{number_in, last_of, first_fault}
use Rattle.pb_wire.specs.FieldValue.{fields_of}
use Rattle.std.specs.Option.{option_or}
use Rattle.pb_wire.specs.declared.fault.FieldFault.{FieldFault}
use Rattle.pb_messages.specs.declared.layout.Layout.{Layout}
use Rattle.pb_messages.specs.Layout.{layout_of, is_single, elements_in}
use Rattle.pb_messages.specs.Event.{fault_in, pairs_of, stamp_of}
use Rattle.pb_messages.proofs.EventLemmas.{stamp_found}

-- a cursor at the end has no items
at_end : (c : Cursor) → c.rest ≡ [] → contents_of field_at c ≡ record { items = []; fault = None }
unfolding contents_of contents_within
at_end c e = rw e refl

no_fault : (layout : Layout) (v : WireValue) (behind : ℕ) → is_single layout.element v ≡ true → (elements_in layout v behind).fault ≡ None
no_fault layout v behind e = rw e refl

or_true : (b : Bool) → true ≡ (b || true)
or_true true = refl
or_true false = refl

pub usual : (ty : PayloadType) (bytes : List ℕ) (c1 c2 c3 : Cursor) (s n : ℕ) (v : WireValue)
    → TakesItem field_at (record { rest = bytes; end = length bytes }) c1 (record { number = 1; value = varint s })
    → TakesItem field_at c1 c2 (record { number = 2; value = varint n })
    → TakesItem field_at c2 c3 (record { number = 3; value = v })
    → is_single (layout_of ty).element v ≡ true → c3.rest ≡ [] → stamp_of ty bytes ≡ Ok (s % 2 ^ 32, n % 2 ^ 32)
usual ty bytes c1 c2 c3 s n v t1 t2 t3 single ended =
    let x1 : Placed WireField = record { item = record { number = 1; value = varint s }; behind = place_of c1 } in
    let x2 : Placed WireField = record { item = record { number = 2; value = varint n }; behind = place_of c2 } in
    let x3 : Placed WireField = record { item = record { number = 3; value = v }; behind = place_of c3 } in
    let c : Contents WireField = record { items = x1 ∷ x2 ∷ x3 ∷ []; fault = None } in
    let all : fields_of bytes (length bytes) ≡ c = t1.contents ∙ ap (with_first x1) (t2.contents ∙ ap (with_first x2) (t3.contents ∙ ap (with_first x3) (at_end c3 ended))) in
    let sound : first_fault (fault_in (layout_of ty)) c ≡ None = ap (λ (f : Option FieldFault). option_or (option_or f None) None) (no_fault (layout_of ty) v (place_of c3) single) in
    let e1 : Some s ≡ last_of (number_in 1) c.items = refl in
    let e2 : Some n ≡ last_of (number_in 2) c.items = refl in
    let e4 : true ≡ is_some (pairs_of c.items) = refl in
    stamp_found ty bytes (Some s) (Some n) true true (rw all sound) (rw all e1) (rw all e2) (rw all (or_true (layout_of ty).repeated)) (rw all e4)
