use Rattle.tier_store.specs.Pinned.{seen_all}
use Rattle.std.proofs.Common.{◌≡◌, ℕ, Some, None, Ok, Err, Result, refl, sym, ◌∙◌, ap, subst}
use Rattle.std.proofs.lemmas.Result.{err_from_is_err_and}
use Rattle.disk_model.specs.declared.disk.DiskErr.{DiskErr}
use Rattle.act_model.specs.Machine.{Machine, Renames}
use Rattle.act_model.specs.Rename.{IsRenamed}
use Rattle.act_model.specs.Step.{change_by, refuse_by}
use Rattle.act_model.specs.declared.acts.Act.TheVariants.{Rename}
use Rattle.act_model.specs.declared.acts.Answer.TheVariants.{Renamed}
use Rattle.archive_core.specs.Acting.{Changed}
use Rattle.archive_core.specs.Parts.{parts}
use Rattle.archive_core.specs.Renaming.{rename_reply}
use Rattle.archive_core.specs.Stands.{Stands}
use Rattle.archive_core.specs.declared.renaming.Unnamed.{Unnamed}
use Rattle.archive_core.specs.declared.renaming.Unnamed.TheVariants.{Disk}
use Rattle.archive_core.proofs.Acting.{cut, done_then, failed_then, refused_first, refused_then}
use Rattle.archive_core.proofs.Registered.{RenameEnds, can_as, refused_later, refused_now, rename_change, renamed_so, renames_act, told_in}
use Rattle.archive_core.proofs.Switched.{found_row}
use Rattle.archive_core.proofs.archive.Archive.rename_name.Goals.{After-settle, After-rename_row}
use Rattle.archive_core.proofs.archive.Archive.rename_name.Goals as goal

-- nothing refuses the name before a doubt is settled
pass : (g : _) (c : After-settle g) (m : Machine) → Stands g.D.Disk.tells (parts g.D.Disk c.args.self.now) m → refuse_by (Rename c.args.name.now c.args.newname.now) m ≡ None
pass g c m s = can_as g.D.Disk.tells (parts g.D.Disk c.args.self.now) m s c.args.name.now c.args.newname.now c.in_ok-row_to_rename.field-0 c.in_ok-row_to_rename.ensures.found.0 c.in_ok-row_to_rename.ensures.found.1 0 None

-- nor then
pass_then : (g : _) (c : After-rename_row g) (m : Machine) → Stands g.D.Disk.tells (parts g.D.Disk c.settle.new.self) m → refuse_by (Rename c.args.name.now c.args.newname.now) m ≡ None
pass_then g c m s = can_as g.D.Disk.tells (parts g.D.Disk c.settle.new.self) m s c.args.name.now c.args.newname.now c.in_ok-row.row c.in_ok-row.ensures.found.0 c.in_ok-row.ensures.found.1 0 None

-- and the row is renamed
own : (g : _) (c : After-rename_row g) (m : Machine) → Stands g.D.Disk.tells (parts g.D.Disk c.settle.new.self) m → change_by (Rename c.args.name.now c.args.newname.now) m ≡ Some (Renames c.in_ok-row.row c.args.newname.now)
own g c m s = rename_change g.D.Disk.tells (parts g.D.Disk c.settle.new.self) m s c.args.name.now c.args.newname.now c.in_ok-row.row c.in_ok-row.ensures.found.0 c.in_ok-row.ensures.found.1

pub returns-in_err-row_to_rename : goal.returns-in_err-row_to_rename
returns-in_err-row_to_rename g c who =
    let e = err_from_is_err_and c.from_residual.result c.from_residual.ensures.1 in
    let p = parts g.D.Disk c.args.self.now in
    let why = c.in_err-row_to_rename.field-0.0 in
    subst (λ (x : Result ℕ Unnamed). RenameEnds g.D.Disk.tells who c.args.name.now c.args.newname.now p x p) (sym (e.1 ∙ ap (λ (d : Unnamed). Err d) e.2))
    (renamed_so g.D.Disk.tells who c.args.name.now c.args.newname.now p p (Err why) (refused_first g.D.Disk.tells who (Rename c.args.name.now c.args.newname.now) (IsRenamed c.args.name.now c.args.newname.now) (renames_act who c.args.name.now c.args.newname.now (told_in why)) p (rename_reply (Err why))
    (refused_now g.D.Disk.tells p c.args.name.now c.args.newname.now why c.in_err-row_to_rename.ensures.refused)))

pub returns-in_err-settle : goal.returns-in_err-settle
returns-in_err-settle g c who =
    let e = err_from_is_err_and c.from_residual-in_err-settle.result c.from_residual-in_err-settle.ensures.1 in
    let p = parts g.D.Disk c.args.self.now in
    let q = parts g.D.Disk c.settle.new.self in
    subst (λ (x : Result ℕ Unnamed). RenameEnds g.D.Disk.tells who c.args.name.now c.args.newname.now p x q) (sym (e.1 ∙ ap (λ (d : Unnamed). Err d) e.2))
    (renamed_so g.D.Disk.tells who c.args.name.now c.args.newname.now p q (Err (Disk c.in_err-settle.field-0.0)) (cut g.D.Disk.tells who (Rename c.args.name.now c.args.newname.now) (IsRenamed c.args.name.now c.args.newname.now) (renames_act who c.args.name.now c.args.newname.now None) p q c.settle.result c.settle.ensures.settling (λ settled. ap (seen_all g.D.Disk) (c.settle.ensures.quiet settled))
    (pass g (goal.at.returns-in_err-settle g c).After-settle) c.in_err-settle.field-0.0 c.in_err-settle.was c.in_err-settle.ensures.still))

pub row_to_rename-requires-2 : goal.row_to_rename-requires-2
row_to_rename-requires-2 g c =
    let was = c.requires.stands in
    let then = c.in_ok-settle.ensures.settled was.0 was.1 in
    record { stands = (record then.0 { faults = (parts g.D.Disk c.settle.new.self).at.faults }, then.2.stands) }

pub returns-in_err-row : goal.returns-in_err-row
returns-in_err-row g c who =
    let e = err_from_is_err_and c.from_residual-in_err-row.result c.from_residual-in_err-row.ensures.1 in
    let p = parts g.D.Disk c.args.self.now in
    let q = parts g.D.Disk c.settle.new.self in
    let why = c.in_err-row.field-0.0 in
    let can = c.in_ok-row_to_rename.ensures.found in
    subst (λ (x : Result ℕ Unnamed). RenameEnds g.D.Disk.tells who c.args.name.now c.args.newname.now p x q) (sym (e.1 ∙ ap (λ (d : Unnamed). Err d) e.2))
    (renamed_so g.D.Disk.tells who c.args.name.now c.args.newname.now p q (Err why) (refused_then g.D.Disk.tells who (Rename c.args.name.now c.args.newname.now) (IsRenamed c.args.name.now c.args.newname.now) (renames_act who c.args.name.now c.args.newname.now (told_in why)) p q c.settle.result c.settle.ensures.settling (λ settled. ap (seen_all g.D.Disk) (c.settle.ensures.quiet settled))
    (pass g (goal.at.returns-in_err-row g c).After-settle) c.in_ok-settle.ensures.settled (rename_reply (Err why)) (refused_later g.D.Disk.tells p q c.args.name.now c.args.newname.now c.in_ok-row_to_rename.field-0 can.0 can.1 why c.in_err-row.ensures.refused)))

pub rename_row-requires-clause-rests : goal.rename_row-requires-clause-rests
rename_row-requires-clause-rests g c =
    let was = c.requires.stands in
    let then = c.in_ok-settle.ensures.settled was.0 was.1 in
    (record then.0 { faults = (parts g.D.Disk c.settle.new.self).at.faults }, then.2)

pub returns-in_err-rename_row : goal.returns-in_err-rename_row
returns-in_err-rename_row g c who =
    let e = err_from_is_err_and c.from_residual-in_err-rename_row.result c.from_residual-in_err-rename_row.ensures.1 in
    let a = (goal.at.returns-in_err-rename_row g c).After-rename_row in
    let p = parts g.D.Disk c.args.self.now in
    let q = parts g.D.Disk c.settle.new.self in
    let new = parts g.D.Disk c.rename_row.new.self in
    let change = Renames c.in_ok-row.row c.args.newname.now in
    let changed = subst (λ (x : Result ℕ DiskErr). Changed g.D.Disk.tells change q new x) c.in_err-rename_row.was c.rename_row.ensures.changed in
    subst (λ (x : Result ℕ Unnamed). RenameEnds g.D.Disk.tells who c.args.name.now c.args.newname.now p x new) (sym (e.1 ∙ ap (λ (d : Unnamed). Err d) e.2))
    (renamed_so g.D.Disk.tells who c.args.name.now c.args.newname.now p new (Err (Disk c.in_err-rename_row.field-0.0)) (failed_then g.D.Disk.tells who (Rename c.args.name.now c.args.newname.now) (IsRenamed c.args.name.now c.args.newname.now) (renames_act who c.args.name.now c.args.newname.now None) p q c.settle.result c.settle.ensures.settling (λ settled. ap (seen_all g.D.Disk) (c.settle.ensures.quiet settled))
    (pass g (goal.at.returns-in_err-rename_row g c).After-settle) c.in_ok-settle.ensures.settled (pass_then g a) new change (own g a) c.in_err-rename_row.field-0.0 changed))

pub returns : goal.returns
returns g c who =
    let a = (goal.at.returns g c).After-rename_row in
    let p = parts g.D.Disk c.args.self.now in
    let q = parts g.D.Disk c.settle.new.self in
    let new = parts g.D.Disk c.rename_row.new.self in
    let change = Renames c.in_ok-row.row c.args.newname.now in
    let id = c.in_ok-rename_row.field-0 in
    let changed = subst (λ (x : Result ℕ DiskErr). Changed g.D.Disk.tells change q new x) c.in_ok-rename_row.was c.rename_row.ensures.changed in
    renamed_so g.D.Disk.tells who c.args.name.now c.args.newname.now p new (Ok id) (done_then g.D.Disk.tells who (Rename c.args.name.now c.args.newname.now) (IsRenamed c.args.name.now c.args.newname.now) (renames_act who c.args.name.now c.args.newname.now None) p q c.settle.result c.settle.ensures.settling (λ settled. ap (seen_all g.D.Disk) (c.settle.ensures.quiet settled))
    (pass g (goal.at.returns g c).After-settle) c.in_ok-settle.ensures.settled (pass_then g a) new change (own g a) id (rename_reply (Ok id)) changed
    (λ m r. (ap (λ (n : ℕ). Renamed n) (c.in_ok-rename_row.ensures.number ∙ sym r.stands.rows.count), (c.in_ok-row.row, found_row g.D.Disk.tells q m c.args.name.now (Some c.in_ok-row.row) r.stands c.in_ok-row.ensures.found.0, refl))))
