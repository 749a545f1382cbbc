use Rattle.std.proofs.Common.{ℕ, sym, subst}
use Rattle.etl_rules.specs.Config.{ConfigState}
use Rattle.serving.specs.Due.{MovesAll}
use Rattle.store_reopen.specs.Reopen.{stores_of}
use Rattle.archiver_appliance.specs.Drilling.{OpensWell}
use Rattle.archiver_appliance.proofs.DrillReads.{stands_behind}
use Rattle.archiver_appliance.proofs.DrillRuns.{is_drill_text, opens_left}
use Rattle.archiver_appliance.proofs.drilling.drill_on.Goals as goal

pub opened-requires-clause-opens : goal.opened-requires-clause-opens
opened-requires-clause-opens g c told =
    subst (λ (s : ConfigState). OpensWell (stores_of s) (g.D.Disk.past c.in_ok-disk.disk)) (sym c.shipped.ensures) (opens_left g.D.Disk c.args.drill.hours c.args.disk c.in_ok-disk.disk c.in_ok-disk.ensures.fed told c.requires.opens)

pub report-requires : goal.report-requires
report-requires g c = let made = c.in_ok-moved.ensures in record { stands = stands_behind g.D.Disk c.in_ok-archive.archive c.moved.new.archive made.0 c.in_ok-archive.ensures.stands made.3 }

pub returns-clause-text : goal.returns-clause-text
returns-clause-text g c =
    let made = c.in_ok-moved.ensures in
    is_drill_text g.D.Disk c.args.drill.hours c.args.disk c.in_ok-disk.disk c.in_ok-disk.ensures.fed c.requires.told c.shipped.result c.in_ok-archive.archive c.moved.new.archive c.report.new.archive made.0 made.1 _ c.shipped.ensures c.in_ok-archive.ensures.begun (subst (λ (n : ℕ). MovesAll n made.1 made.0) c.now.ensures made.2) made.3 c.in_ok-report.ensures.tells
