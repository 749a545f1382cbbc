use Rattle.std.proofs.Common.{◌≡◌, true, refl, sym, ◌∙◌, ap}
use Rattle.pb_wire.specs.Message.{varint, fixed64, fixed32}
use Rattle.pb_wire.specs.Cursor.{Cursor}
use Rattle.pb_messages.specs.declared.layout.Layout.{Layout}
use Rattle.pb_messages.specs.declared.layout.Element.{Element}
use Rattle.pb_messages.specs.Layout.{layout_of, is_single}
use Rattle.pb_messages.proofs.UsualLemmas.{usual}
use Rattle.pb_messages.proofs.reading.usual_stamp.Goals.{in-Fixed64+in_ok-next_fixed64-in-Fixed64, in-Fixed32+in_ok-next_fixed32-in-Fixed32, in-Sint32+in_ok-next_number-in-Sint32}
use Rattle.pb_messages.proofs.reading.usual_stamp.Goals as goal

pub returns : goal.returns
returns c = elim c.match-layout.branch [
  | in-Fixed64+in_ok-next_fixed64-in-Fixed64 w ↦
      let item = w.in_ok-next_fixed64-in-Fixed64 in
      let single : is_single (layout_of c.args.ty).element (fixed64 item.field-0) ≡ true = ap (λ (l : Layout). is_single l.element (fixed64 item.field-0)) (sym c.requires) ∙ ap (λ (e : Element). is_single e (fixed64 item.field-0)) w.in-Fixed64.is in
      let ended = ap (λ (f : Cursor). f.rest) (sym w.fields-is) ∙ c.if-not-is_empty.ensures.0 refl in
      rw (c.uint32_of.ensures, c.uint32_of-2.ensures) (usual c.args.ty c.args.bytes.now c.next_number.new.self c.next_number-2.new.self w.next_fixed64.new.self c.in_ok-secs.secs c.in_ok-nano.nano (fixed64 item.field-0) (rw c.of-fields.ensures at c.in_ok-secs.ensures.taken) c.in_ok-nano.ensures.taken item.ensures.taken single ended)
  | in-Fixed32+in_ok-next_fixed32-in-Fixed32 w ↦
      let item = w.in_ok-next_fixed32-in-Fixed32 in
      let single : is_single (layout_of c.args.ty).element (fixed32 item.field-0) ≡ true = ap (λ (l : Layout). is_single l.element (fixed32 item.field-0)) (sym c.requires) ∙ ap (λ (e : Element). is_single e (fixed32 item.field-0)) w.in-Fixed32.is in
      let ended = ap (λ (f : Cursor). f.rest) (sym w.fields-is) ∙ c.if-not-is_empty.ensures.0 refl in
      rw (c.uint32_of.ensures, c.uint32_of-2.ensures) (usual c.args.ty c.args.bytes.now c.next_number.new.self c.next_number-2.new.self w.next_fixed32.new.self c.in_ok-secs.secs c.in_ok-nano.nano (fixed32 item.field-0) (rw c.of-fields.ensures at c.in_ok-secs.ensures.taken) c.in_ok-nano.ensures.taken item.ensures.taken single ended)
  | in-Sint32+in_ok-next_number-in-Sint32 w ↦
      let item = w.in_ok-next_number-in-Sint32 in
      let single : is_single (layout_of c.args.ty).element (varint item.field-0) ≡ true = ap (λ (l : Layout). is_single l.element (varint item.field-0)) (sym c.requires) ∙ ap (λ (e : Element). is_single e (varint item.field-0)) w.in-Sint32.is in
      let ended = ap (λ (f : Cursor). f.rest) (sym w.fields-is) ∙ c.if-not-is_empty.ensures.0 refl in
      rw (c.uint32_of.ensures, c.uint32_of-2.ensures) (usual c.args.ty c.args.bytes.now c.next_number.new.self c.next_number-2.new.self w.next_number-in-Sint32.new.self c.in_ok-secs.secs c.in_ok-nano.nano (varint item.field-0) (rw c.of-fields.ensures at c.in_ok-secs.ensures.taken) c.in_ok-nano.ensures.taken item.ensures.taken single ended)
]
