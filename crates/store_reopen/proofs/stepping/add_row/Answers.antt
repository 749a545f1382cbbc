use Rattle.std.proofs.Common.{◌≡◌, ℕ, List, sym, ap, subst, arith}
use Rattle.disk_model.specs.Files.{Name}
use Rattle.gate_journal.specs.Kept.{IsKept}
use Rattle.gate_journal.specs.DiskShown.{shown_by}
use Rattle.pv_catalog.specs.Rows.{IsCatalogue}
use Rattle.pv_catalog.specs.declared.row.Row.{Row}
use Rattle.tier_store.proofs.RowCalls.{register_changes}
use Rattle.store_reopen.specs.Loading.{Catalogue}
use Rattle.store_reopen.proofs.Swept.{own_spares, registered_ready}
use Rattle.store_reopen.proofs.stepping.add_row.Goals as goal

pub returns-clause-changes : goal.returns-clause-changes
returns-clause-changes g c ms has =
    let says = c.register.ensures in
    register_changes (shown_by g.D.Disk) g.D.Disk.faults g.D.Disk.tells c.args.catalogue.now c.register.new.self ms c.args.disk.now c.register.new.disk c.args.name.now c.args.about.now c.register.result
    (λ tells. (says.commits tells).any_moment) (λ tells. (says.commits tells).elsewhere) (λ tells. (says.one_file tells).opened) says.faults says.id says.ends (λ tells. (says.commits tells).made) says.refusal says.exactly says.unchanged (λ tells. (says.commits tells).doubt) says.cause says.untouched

pub returns-clause-spares : goal.returns-clause-spares
returns-clause-spares g c tells =
    let says = c.register.ensures in
    own_spares g.D.Disk _ c.args.catalogue.now.journal.name Catalogue ((c.requires.has tells).2.disk tells).rows.named c.args.disk.now c.register.new.disk (says.commits tells).any_moment (says.commits tells).elsewhere
    (λ n. let is : g.D.Disk.opened c.register.new.disk n ≡ g.D.Disk.opened c.args.disk.now n = ap (λ (o : Name → ℕ). o n) (says.one_file tells).opened in omega (arith, is))

pub register-requires-clause-stored : goal.register-requires-clause-stored
register-requires-clause-stored g c tells =
    let has = (c.requires.has tells).2 in
    subst (λ (rs : List Row). IsKept IsCatalogue c.args.catalogue.now.journal (shown_by g.D.Disk c.args.disk.now) rs) (sym has.known.rows) (has.disk tells).rows.kept

pub returns-clause-ready : goal.returns-clause-ready
returns-clause-ready g c gs ms ready =
    let says = c.register.ensures in
    registered_ready gs c.args.catalogue.now c.register.new.self ms c.args.name.now c.args.about.now ready c.requires.named c.register.result says.exactly says.ends.rows says.ends.sound
