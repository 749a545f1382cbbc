use Rattle.std.proofs.Common.{◌≡◌, ℕ, List, Result, refl, Ok, Err, OnOk, sym, ◌∙◌, ap, subst}
use Rattle.std.proofs.lemmas.Result.{err_from_is_err_and}
use Rattle.disk_model.specs.declared.disk.DiskErr.TheVariants.{Fault, Memory}
use Rattle.gate_journal.specs.Kept.{IsKept}
use Rattle.gate_journal.specs.DiskShown.{shown_by}
use Rattle.pv_catalog.specs.declared.error.RenameErr.{RenameErr}
use Rattle.pv_catalog.specs.declared.error.RenameErr.TheVariants.{Disk}
use Rattle.pv_catalog.specs.Catalogue.{CatalogueState, RefusesName}
use Rattle.pv_catalog.specs.declared.row.Row.{Row}
use Rattle.pv_catalog.specs.Table.{TableState}
use Rattle.gate_journal.proofs.Keeping.{nothing_commits}
use Rattle.pv_catalog.specs.Rows.{IsCatalogue}
use Rattle.pv_catalog.proofs.Committing.{call_commits, nothing_grows}
use Rattle.pv_catalog.proofs.Refusing.{never_name_fault, name_refusal_of, name_unchanged, same_name_err, no_name_err}
use Rattle.pv_catalog.proofs.catalogue.Catalogue.rename.Goals as goal

pub returns-in_err-id-clause-refusal : goal.returns-in_err-id-clause-refusal
returns-in_err-id-clause-refusal g c =
    let p = err_from_is_err_and c.from_residual.result c.from_residual.ensures.1 in
    rw (← c.self.view_is, p.1, p.2) (name_refusal_of c.self.inside.table.rows c.args.old c.args.name.now _ c.in_err-id.field-0.0 c.in_err-id.ensures.refusal)

pub returns-in_err-id-clause-exactly : goal.returns-in_err-id-clause-exactly
returns-in_err-id-clause-exactly g c =
    let p = err_from_is_err_and c.from_residual.result c.from_residual.ensures.1 in
    let requires_row = rw (← c.self.view_is) at c.requires.row in
    rw (p.1, p.2) (λ e refuses.
    let rows_refuse = rw (← c.self.view_is) at refuses in
    let own : c.in_err-id.field-0.0 ≡ e = same_name_err c.in_err-id.field-0.0 e (sym c.in_err-id.was ∙ c.propose_name.ensures.exactly e rows_refuse) in (
      ap (λ (x : RenameErr). Err x) own,
      ap (λ (t : TableState). let s : CatalogueState = record { journal = c.self.inside.journal; rows = t.rows; next = t.next } in s)
          (name_unchanged c.self.inside.table.rows c.args.old c.args.name.now _ c.in_err-id.field-0.0 c.in_err-id.ensures.refusal (subst (RefusesName c.self.inside.table.rows c.args.old c.args.name.now) (sym own) rows_refuse))
          ∙ c.self.view_is,
      refl,
    ))

pub returns-in_err-make-clause-exactly : goal.returns-in_err-make-clause-exactly
returns-in_err-make-clause-exactly g c =
    rw (← c.self.view_is) (λ e refuses. absurd (no_name_err c.propose_name.result _ e c.in_ok-id.was (c.propose_name.ensures.exactly e refuses)))

pub returns-clause-exactly : goal.returns-clause-exactly
returns-clause-exactly g c =
    rw (← c.self.view_is) (λ e refuses. absurd (no_name_err c.propose_name.result _ e c.in_ok-id.was (c.propose_name.ensures.exactly e refuses)))

pub returns-in_err-id-clause-commits : goal.returns-in_err-id-clause-commits
returns-in_err-id-clause-commits g c =
    let stored = rw (← c.self.view_is) at c.requires.stored in
    let p = err_from_is_err_and c.from_residual.result c.from_residual.ensures.1 in
    let failed_so : Result ℕ RenameErr = Err p.0 in
    rw (← c.self.view_is, p.1) (λ tells.
    let Kept : List Row → Type 0 = λ l. IsKept IsCatalogue c.self.inside.journal (shown_by g.D.Disk c.args.disk.now) l in
    nothing_commits IsCatalogue c.self.inside.table.rows _ _ _ c.self.inside.journal c.self.inside.journal (OnOk failed_so) (failed_so ≡ Err (Disk Fault)) (failed_so ≡ Err (Disk Memory)) (shown_by g.D.Disk c.args.disk.now) (stored tells)
    (subst Kept (sym c.propose_name.ensures.rows) (stored tells)) tt (λ fault. never_name_fault c.self.inside.table.rows c.args.old c.args.name.now c.in_err-id.field-0.0 c.in_err-id.ensures.refusal (cc (p.2, fault))))

pub returns-in_err-id-clause-one_file : goal.returns-in_err-id-clause-one_file
returns-in_err-id-clause-one_file g c = rw (← c.self.view_is) (λ tells. nothing_grows c.self.inside.journal.current.name (shown_by g.D.Disk c.args.disk.now))

pub returns-in_err-make-clause-commits : goal.returns-in_err-make-clause-commits
returns-in_err-make-clause-commits g c =
    let proposed : CatalogueState = record { journal = c.self.inside.journal; rows = c.propose_name.new.self.rows; next = c.propose_name.new.self.next } in
    let p = err_from_is_err_and c.from_residual-in_err-make.result c.from_residual-in_err-make.ensures.1 in
    let failed_so : Result ℕ RenameErr = Err p.0 in
    rw (← c.self.view_is, p.1) (λ tells.
    call_commits c.self.inside.table.rows _ proposed c.make.new.self c.make.result (OnOk failed_so) (failed_so ≡ Err (Disk Fault)) (failed_so ≡ Err (Disk Memory)) (shown_by g.D.Disk c.args.disk.now) (shown_by g.D.Disk c.make.new.disk) c.propose_name.ensures.rows c.in_ok-id.ensures.next
    (λ P made. tt) (λ fault. cc (c.in_err-make.was, p.2, fault)) (λ memory. cc (c.in_err-make.was, p.2, memory)) (c.make.ensures.commits tells))

pub returns-clause-commits : goal.returns-clause-commits
returns-clause-commits g c =
    let proposed : CatalogueState = record { journal = c.self.inside.journal; rows = c.propose_name.new.self.rows; next = c.propose_name.new.self.next } in
    let done_so : Result ℕ RenameErr = Ok c.in_ok-id.id in
    rw (← c.self.view_is) (λ tells.
    call_commits c.self.inside.table.rows _ proposed c.make.new.self c.make.result (OnOk done_so) (done_so ≡ Err (Disk Fault)) (done_so ≡ Err (Disk Memory)) (shown_by g.D.Disk c.args.disk.now) (shown_by g.D.Disk c.make.new.disk) c.propose_name.ensures.rows c.in_ok-id.ensures.next
    (λ P made. rw c.in_ok-make.was at made) (λ fault. cc fault) (λ memory. cc memory) (c.make.ensures.commits tells))
