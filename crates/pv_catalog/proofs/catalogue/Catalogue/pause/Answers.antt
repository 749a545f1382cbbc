use Rattle.std.proofs.Common.{◌≡◌, Err, Result, OnOk}
use Rattle.disk_model.specs.declared.disk.DiskErr.TheVariants.{Fault, Memory}
use Rattle.gate_journal.specs.DiskShown.{shown_by}
use Rattle.pv_catalog.specs.declared.error.StateErr.{StateErr}
use Rattle.pv_catalog.specs.declared.error.StateErr.TheVariants.{NotRunning, Disk}
use Rattle.gate_journal.proofs.Keeping.{nothing_commits}
use Rattle.pv_catalog.specs.Rows.{IsCatalogue}
use Rattle.pv_catalog.proofs.Committing.{nothing_grows}
use Rattle.pv_catalog.proofs.catalogue.Catalogue.pause.Goals as goal

pub returns-then-not-has_state-clause-commits : goal.returns-then-not-has_state-clause-commits
returns-then-not-has_state-clause-commits g c tells =
    let was = c.args.self.now in
    let refused : Result (Unit {0}) StateErr = Err NotRunning in
    nothing_commits IsCatalogue was.rows _ was.rows was.next was.journal was.journal (OnOk refused) (refused ≡ Err (Disk Fault)) (refused ≡ Err (Disk Memory)) (shown_by g.D.Disk c.args.disk.now) (c.requires.stored tells) (c.requires.stored tells) tt (λ fault. cc fault)

pub returns-then-not-has_state-clause-one_file : goal.returns-then-not-has_state-clause-one_file
returns-then-not-has_state-clause-one_file g c tells = nothing_grows c.args.self.now.journal.current.name (shown_by g.D.Disk c.args.disk.now)
