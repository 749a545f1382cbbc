use Rattle.std.proofs.Common.{rules, sym, subst}
use Rattle.etl_rules.specs.Config.{ConfigState}
use Rattle.store_reopen.specs.Reopen.{stores_of}
use Rattle.archiver_appliance.specs.Drilling.{OpensWell}
use Rattle.archiver_appliance.proofs.DrillRuns.{RegisteredOn, registered_first, registered_next, stands_next}
use Rattle.archiver_appliance.proofs.drilling.begun.Goals as goal

pub opened-requires-clause-opens : goal.opened-requires-clause-opens
opened-requires-clause-opens g c told = subst (λ (s : ConfigState). OpensWell (stores_of s) (g.D.Disk.past c.args.disk)) (sym c.unmoving.ensures) (c.requires.opens told)

pub loop-variable-init : goal.loop-variable-init
loop-variable-init g c = record { stands = c.in_ok-archive.ensures.stands; registered = registered_first g.D.Disk c.args.disk c.unmoving.result c.in_ok-archive.archive c.unmoving.ensures c.in_ok-archive.ensures.begun }

pub register-requires : goal.register-requires
register-requires g c = record { known = c.loop-variable-test.true; stands = c.loop-variable.invariant.stands }

pub loop-variable-preserved : goal.loop-variable-preserved
loop-variable-preserved g c =
    let made = c.in_ok-register.ensures in
    record {
      stands = stands_next g.D.Disk c.args.disk c.loop-variable.archive c.register.new.archive _ c.loop-variable.invariant.stands made.1;
      registered = registered_next g.D.Disk c.args.disk c.loop-variable.archive c.register.new.archive c.loop-variable.variable made.0 c.loop-variable.invariant.registered made.1;
    }

pub returns : goal.returns
returns g c = record { stands = c.loop-variable.invariant.stands; begun = subst (λ n. RegisteredOn g.D.Disk c.args.disk n c.loop-variable.archive) (search rules) c.loop-variable.invariant.registered }
