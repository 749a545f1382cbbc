use Rattle.std.proofs.Common.{rules, refl, ◌∙◌}
use Rattle.archiver_appliance.proofs.Drills.{tells_first, tells_next, tells_whole}
use Rattle.archiver_appliance.proofs.drill_report.report.Goals as goal

pub loop-variable-init : goal.loop-variable-init
loop-variable-init g c = record { stands = c.requires.stands; tells = tells_first g.D.Disk c.args.archive.now c.args.drill.hours _ _ c.new-text.ensures.items refl }

pub loop-variable-preserved : goal.loop-variable-preserved
loop-variable-preserved g c = record {
  stands = c.in_ok-put_variable.ensures.stands;
  tells = tells_next g.D.Disk c.args.archive.now c.loop-variable.archive c.put_variable.new.archive c.args.drill.hours c.loop-variable.variable c.loop-variable.text.items c.loop-variable.files _ _ c.loop-variable.invariant.tells c.in_ok-put_variable.ensures.tells;
}

pub returns : goal.returns
returns g c = record {
  tells = tells_whole g.D.Disk c.args.archive.now c.loop-variable.archive c.args.drill.hours c.loop-variable.variable c.loop-variable.text.items c.loop-variable.files c.deref.result.now c.extend_from_slice.new.self.items (search rules) (c.deref.ensures.value ∙ c.in_ok-tiers_line.ensures) c.in_ok-extend_from_slice.ensures.items c.loop-variable.invariant.tells;
}
