use Rattle.std.proofs.Common.{ℕ, List, ◌++◌, codes, ap, ◌∙◌}
use Rattle.json_out.specs.Json.{event_text, fields_text}
use Rattle.json_out.proofs.Texts.{ended, event_put}
use Rattle.json_out.proofs.event.put_event.Goals as goal

pub returns : goal.returns
returns c =
    let old = c.args.out.now.items in
    ended c.extend_from_slice-2.result c.extend_from_slice-2.new.self.items c.put_fields.new.out.items (codes "}") (old ++ event_text c.args.t c.args.event.now) c.extend_from_slice-2.ensures.items
    (event_put c.args.t c.args.event.now old c.put_moment.new.out.items c.extend_from_slice.new.self.items c.put_value.new.out.items c.put_labelled.new.out.items c.put_labelled-2.new.out.items c.put_fields.new.out.items c.in_ok-put_moment.ensures c.in_ok-extend_from_slice.ensures.items c.in_ok-put_value.ensures c.in_ok-put_labelled.ensures c.in_ok-put_labelled-2.ensures (c.in_ok-put_fields.ensures ∙ ap (λ (fields : List (List ℕ × List ℕ)). c.put_labelled-2.new.out.items ++ fields_text fields) c.items.ensures))
