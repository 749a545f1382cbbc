use Rattle.std.proofs.Common.{◌+◌, arith, ap, ◌∙◌, sym}
use Rattle.std.proofs.lemmas.List.{drop_all, length-drop}
use Rattle.edge_io.specs.Memory.{Input}
use Rattle.edge_io.proofs.Slices.{moved}
use Rattle.edge_io.proofs.memory.MemSourceSource.read.Goals as goal

pub returns-clause-bytes : goal.returns-clause-bytes
returns-clause-bytes c =
    let xs = c.self.inside.bytes.items in
    let at = c.self.inside.at in
    let n = c.copy_front-count.result in
    let is = ap (λ (i : Input). i.left) c.self.view_is in
    (sym is ∙ moved xs _ at n cc, λ none room. drop_all (at + n) xs (omega (arith, length-drop at xs)))
