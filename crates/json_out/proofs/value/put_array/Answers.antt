use Rattle.std.proofs.Common.{◌++◌, codes}
use Rattle.json_out.specs.Values.{array_text}
use Rattle.json_out.proofs.Texts.{ended, array_put}
use Rattle.json_out.proofs.value.put_array.Goals as goal

pub returns : goal.returns
returns g c =
    let text = g.T.JsonElement.text in
    let old = c.args.out.now.items in
    ended c.extend_from_slice-3.result c.extend_from_slice-3.new.self.items c.put_others.new.out.items (codes "]") (old ++ array_text text c.args.items.now) c.extend_from_slice-3.ensures.items
    (array_put text c.in-Some.first.now c.in-Some.rest.now c.args.items.now old c.extend_from_slice-2.new.self.items c.put.new.out.items c.put_others.new.out.items c.in-Some.ensures.cases.0 c.in_ok-extend_from_slice.ensures.items c.in_ok-put.ensures c.in_ok-put_others.ensures)
