use Rattle.pb_lines.proofs.Unique.{header_or_fault}
use Rattle.pb_file.proofs.Walking.{refuses, no_header_refused}
use Rattle.pb_file.proofs.walk.FileWalk.take_header.Goals as goal

pub returns-in-Err-Fault : goal.returns-in-Err-Fault
returns-in-Err-Fault c =
    let fault = rw c.in-Err-Fault.field-0-is at c.in-Err-Fault.ensures.err in
    refuses c.args.self.now _ c.refuse.new.self c.args.line.now c.refuse.result c.self.view_is c.refuse.ensures.result c.refuse.ensures.after
    (no_header_refused c.args.self.now c.args.line.now c.requires.first (λ info h. header_or_fault c.args.line.now info c.in-Err-Fault.field-0-0 h fault))
