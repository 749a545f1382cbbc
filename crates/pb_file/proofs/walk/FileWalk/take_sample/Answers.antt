use Rattle.std.proofs.Common.{◌∙◌, sym, ap, Option, arith}
use Rattle.std.specs.Option.{option_map}
use Rattle.pb_lines.proofs.Unique.{sample_or_fault, one_moment}
use Rattle.pb_file.specs.declared.walk.Header.{Header}
use Rattle.pb_file.specs.Walk.{Walk}
use Rattle.pb_file.proofs.Walking.{refuses, no_sample_refused}
use Rattle.pb_file.proofs.walk.FileWalk.take_sample.Goals as goal

pub returns-in-Err-Fault : goal.returns-in-Err-Fault
returns-in-Err-Fault c =
    let header = c.in-Some.header in
    let line = c.args.line.now in
    let known = sym (ap (λ (v : Walk). v.info) c.self.view_is) ∙ ap (λ (o : Option Header). option_map (λ h. h.info) o) c.in-Some.is in
    let fault = rw header.same_year at (rw c.in-Err-Fault.field-0-is at c.in-Err-Fault.ensures.err) in
    refuses c.args.self.now _ c.refuse.new.self line c.refuse.result c.self.view_is c.refuse.ensures.result c.refuse.ensures.after
    (no_sample_refused c.args.self.now line header.info known (λ t h later. sample_or_fault header.info.ty header.info.year line t c.in-Err-Fault.field-0-0 h fault))

pub returns : goal.returns
returns c =
    let header = c.in-Some.header in
    let line = c.args.line.now in
    let known = sym (ap (λ (v : Walk). v.info) c.self.view_is) ∙ ap (λ (o : Option Header). option_map (λ h. h.info) o) c.in-Some.is in
    let meant = rw header.same_year at c.in-Ok.ensures.ok in
    let next = ap (λ (v : Walk). v.earliest) c.self.view_is in
    refuses c.args.self.now _ c.refuse-2.new.self line c.refuse-2.result c.self.view_is c.refuse-2.ensures.result c.refuse-2.ensures.after
    (no_sample_refused c.args.self.now line header.info known (λ t h later.
    let same = one_moment header.info.ty header.info.year line t c.in-Ok.t h meant in
    let is = c.is_behind.ensures.1 (omega (arith, same, next, later)) in
    let not = c.if-is_behind.false in cc))
