use Rattle.std.proofs.Common.{ℕ, List, [], ◌∷◌, ◌++◌, take, true, false, codes, refl, sym, ap, ◌∙◌}
use Rattle.std.proofs.lemmas.List.{append-nil}
use Rattle.json_out.specs.Objects.{object_text}
use Rattle.json_out.proofs.Texts.{ended}
use Rattle.json_out.proofs.Objects.{first_told, member_put, next_told, object_put, others_text, text_on, was_told}
use Rattle.json_out.proofs.object.put_object.Goals.{then-branch+in_ok-extend_from_slice-2+in_ok-put_member-2, else-branch}
use Rattle.json_out.proofs.object.put_object.Goals as goal

pub returns : goal.returns
returns c =
    let old = c.args.out.now.items in
    let pairs = c.args.others.now in
    ended c.extend_from_slice-2.result c.extend_from_slice-2.new.self.items c.loop-pair.out.items (codes "}") (old ++ object_text ((c.args.name.now, c.args.val.now) ∷ pairs)) c.extend_from_slice-2.ensures.items
    (object_put (c.args.name.now, c.args.val.now) pairs c.loop-pair.pair-index old c.extend_from_slice.new.self.items c.put_member.new.out.items c.loop-pair.out.items c.in_ok-extend_from_slice.ensures.items c.in_ok-put_member.ensures c.loop-pair-test.false c.loop-pair.invariant.text)

pub loop-pair-init : goal.loop-pair-init
loop-pair-init c = record {
  names = first_told (c.args.name.now, c.args.val.now) c.new-told.result c.insert.new.self c.args.name refl c.new-told.ensures.empty c.in_ok-insert.ensures.updates;
  text = refl;
}

pub loop-pair-preserved : goal.loop-pair-preserved
loop-pair-preserved c =
    let pairs = c.args.others.now in
    let i = c.loop-pair.pair-index in
    let x = c.pair-item.result in
    let p : List ℕ × List ℕ = (c.args.name.now, c.args.val.now) in
    let low = c.loop-pair-test.true in
    let was = c.loop-pair.invariant in
    let old = c.loop-pair.out.items in
    let end = c.put_member.new.out.items ++ others_text (p ∷ []) pairs in
    let told = was_told (p ∷ take i pairs) c.loop-pair.told c.bytes.result x.0 c.in_ok-insert-2.field-0 in
    record {
      names = next_told p pairs i x low c.pair-item.is c.loop-pair.told c.insert-in-loop-pair.new.self c.bytes.result c.bytes.ensures was.names c.in_ok-insert-2.ensures.updates;
      text = elim c.if-branch.branch [
        | then-branch+in_ok-extend_from_slice-2+in_ok-put_member-2 w ↦ text_on p pairs i x low c.pair-item.is false (told true c.bytes.ensures was.names c.in_ok-insert-2.ensures.added w.if-branch.true) old c.if-branch.out.items end
            (ap (λ v. v.items) w.out-is ∙ member_put old w.extend_from_slice-then-branch.new.self.items w.put_member-then-branch.new.out.items w.bytes-then-branch.result.now w.bytes-then-branch-2.result.now x w.in_ok-extend_from_slice-2.ensures.items w.in_ok-put_member-2.ensures w.bytes-then-branch.ensures w.bytes-then-branch-2.ensures)
            was.text
        | else-branch w ↦ text_on p pairs i x low c.pair-item.is true (told false c.bytes.ensures was.names c.in_ok-insert-2.ensures.added w.if-branch.false) old c.if-branch.out.items end (ap (λ v. v.items) w.out-is ∙ sym (append-nil old)) was.text
      ];
    }
