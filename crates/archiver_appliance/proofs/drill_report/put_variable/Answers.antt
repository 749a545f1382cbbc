use Rattle.std.proofs.Common.{ℕ, List, sym, subst}
use Rattle.archiver_appliance.specs.Drilling.{IsLine}
use Rattle.archiver_appliance.proofs.Drills.{asked_of, tells_variable}
use Rattle.archiver_appliance.proofs.drill_report.put_variable.Goals as goal

pub returns-clause-tells : goal.returns-clause-tells
returns-clause-tells g c =
    let name = c.name_of-name.result.now in
    let tally = c.in_ok-tally.tally in
    let line = c.deref.result.now in
    let is = subst (λ (l : List ℕ). IsLine name tally l) (sym c.deref.ensures.value) c.in_ok-line_of.ensures in
    tells_variable g.D.Disk c.args.archive.now c.tally_of.new.archive c.files_of.new.archive c.args.drill.hours c.args.variable name _ tally line c.in_ok-more.more c.args.text.now.items c.args.files.now _ _
    c.name_of-name.ensures (asked_of c.args.drill.hours c.now.result c.now.ensures) is c.in_ok-extend_from_slice.ensures.items c.add.ensures c.in_ok-tally.ensures.tally c.in_ok-more.ensures.files
