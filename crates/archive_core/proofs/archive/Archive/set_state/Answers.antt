use Rattle.tier_store.specs.Pinned.{seen_all}
use Rattle.std.proofs.Common.{Some, Ok, Err, Result, refl, sym, ◌∙◌, ap, subst}
use Rattle.std.proofs.lemmas.Result.{err_from_is_err_and}
use Rattle.disk_model.specs.declared.disk.DiskErr.{DiskErr}
use Rattle.pv_catalog.specs.Catalogue.{CatalogueState, HasState}
use Rattle.act_model.specs.Machine.{SetsState}
use Rattle.act_model.specs.Pause.{Sets}
use Rattle.archive_core.specs.Acting.{Changed}
use Rattle.archive_core.specs.Parts.{parts}
use Rattle.archive_core.specs.Switching.{IsFound, IsUnset, act_of, from_of, to_of, switch_reply}
use Rattle.archive_core.specs.declared.switching.Unset.{Unset}
use Rattle.archive_core.specs.declared.switching.Unset.TheVariants as unset
use Rattle.archive_core.proofs.Acting.{cut, done_then, failed_then, refused_first, refused_then}
use Rattle.archive_core.proofs.Switched.{CanSet, SetEnds, can_set, found_row, refused_set, set_change, set_so, sets_act}
use Rattle.archive_core.proofs.archive.Archive.set_state.Goals.{After-settle, After-switch}
use Rattle.archive_core.proofs.archive.Archive.set_state.Goals as goal

-- the row may be set before a doubt is settled
can : (g : _) (c : After-settle g) → CanSet c.args.switch c.args.name.now (parts g.D.Disk c.args.self.now) c.in_ok-row_to_switch.field-0
can g c = subst (λ (x : CatalogueState). IsFound x.rows c.args.name.now (Some c.in_ok-row_to_switch.field-0) × HasState x.rows c.in_ok-row_to_switch.field-0 (from_of c.args.switch)) c.catalogue.ensures c.in_ok-row_to_switch.ensures.found

-- and then
can_then : (g : _) (c : After-switch g) → CanSet c.args.switch c.args.name.now (parts g.D.Disk c.settle.new.self) c.in_ok-row.row
can_then g c = subst (λ (x : CatalogueState). IsFound x.rows c.args.name.now (Some c.in_ok-row.row) × HasState x.rows c.in_ok-row.row (from_of c.args.switch)) c.catalogue-2.ensures c.in_ok-row.ensures.found

pub returns-in_err-row_to_switch : goal.returns-in_err-row_to_switch
returns-in_err-row_to_switch g c who =
    let e = err_from_is_err_and c.from_residual.result c.from_residual.ensures.1 in
    let p = parts g.D.Disk c.args.self.now in
    let is = subst (λ (x : CatalogueState). IsUnset x.rows c.args.name.now c.args.switch c.in_err-row_to_switch.field-0.0) c.catalogue.ensures c.in_err-row_to_switch.ensures.refused in
    subst (λ (x : Result (Unit {0}) Unset). SetEnds g.D.Disk.tells who c.args.switch c.args.name.now p x p) (sym (e.1 ∙ ap (λ (d : Unset). Err d) e.2))
    (set_so g.D.Disk.tells who c.args.switch c.args.name.now p p (Err c.in_err-row_to_switch.field-0.0) (refused_first g.D.Disk.tells who (act_of c.args.switch c.args.name.now) (Sets (to_of c.args.switch) c.args.name.now) (sets_act who c.args.switch c.args.name.now) p (switch_reply c.args.switch (Err c.in_err-row_to_switch.field-0.0))
    (refused_set g.D.Disk.tells c.args.switch c.args.name.now p c.in_err-row_to_switch.field-0.0 is)))

pub returns-in_err-settle : goal.returns-in_err-settle
returns-in_err-settle g c who =
    let e = err_from_is_err_and c.from_residual-in_err-settle.result c.from_residual-in_err-settle.ensures.1 in
    let p = parts g.D.Disk c.args.self.now in
    let q = parts g.D.Disk c.settle.new.self in
    let can_now = can g (goal.at.returns-in_err-settle g c).After-settle in
    subst (λ (x : Result (Unit {0}) Unset). SetEnds g.D.Disk.tells who c.args.switch c.args.name.now p x q) (sym (e.1 ∙ ap (λ (d : Unset). Err d) e.2))
    (set_so g.D.Disk.tells who c.args.switch c.args.name.now p q (Err (unset.Disk c.in_err-settle.field-0.0)) (cut g.D.Disk.tells who (act_of c.args.switch c.args.name.now) (Sets (to_of c.args.switch) c.args.name.now) (sets_act who c.args.switch c.args.name.now) p q c.settle.result c.settle.ensures.settling (λ settled. ap (seen_all g.D.Disk) (c.settle.ensures.quiet settled))
    (can_set g.D.Disk.tells c.args.switch c.args.name.now p c.in_ok-row_to_switch.field-0 can_now) c.in_err-settle.field-0.0 c.in_err-settle.was c.in_err-settle.ensures.still))

pub returns-in_err-row : goal.returns-in_err-row
returns-in_err-row g c who =
    let e = err_from_is_err_and c.from_residual-in_err-row.result c.from_residual-in_err-row.ensures.1 in
    let p = parts g.D.Disk c.args.self.now in
    let q = parts g.D.Disk c.settle.new.self in
    let can_now = can g (goal.at.returns-in_err-row g c).After-settle in
    let is = subst (λ (x : CatalogueState). IsUnset x.rows c.args.name.now c.args.switch c.in_err-row.field-0.0) c.catalogue-2.ensures c.in_err-row.ensures.refused in
    subst (λ (x : Result (Unit {0}) Unset). SetEnds g.D.Disk.tells who c.args.switch c.args.name.now p x q) (sym (e.1 ∙ ap (λ (d : Unset). Err d) e.2))
    (set_so g.D.Disk.tells who c.args.switch c.args.name.now p q (Err c.in_err-row.field-0.0) (refused_then g.D.Disk.tells who (act_of c.args.switch c.args.name.now) (Sets (to_of c.args.switch) c.args.name.now) (sets_act who c.args.switch c.args.name.now) p q c.settle.result c.settle.ensures.settling (λ settled. ap (seen_all g.D.Disk) (c.settle.ensures.quiet settled))
    (can_set g.D.Disk.tells c.args.switch c.args.name.now p c.in_ok-row_to_switch.field-0 can_now) c.in_ok-settle.ensures.settled (switch_reply c.args.switch (Err c.in_err-row.field-0.0)) (λ old was. refused_set g.D.Disk.tells c.args.switch c.args.name.now q c.in_err-row.field-0.0 is)))

pub switch-requires-clause-rests : goal.switch-requires-clause-rests
switch-requires-clause-rests g c =
    let was = c.requires.stands in
    let then = c.in_ok-settle.ensures.settled was.0 was.1 in
    (record then.0 { faults = (parts g.D.Disk c.settle.new.self).at.faults }, then.2)

pub returns-in_err-switch : goal.returns-in_err-switch
returns-in_err-switch g c who =
    let e = err_from_is_err_and c.from_residual-in_err-switch.result c.from_residual-in_err-switch.ensures.1 in
    let p = parts g.D.Disk c.args.self.now in
    let q = parts g.D.Disk c.settle.new.self in
    let new = parts g.D.Disk c.switch.new.self in
    let can_now = can g (goal.at.returns-in_err-switch g c).After-settle in
    let can_later = can_then g (goal.at.returns-in_err-switch g c).After-switch in
    let changed = subst (λ (x : Result (Unit {0}) DiskErr). Changed g.D.Disk.tells (SetsState c.in_ok-row.row (to_of c.args.switch)) q new x) c.in_err-switch.was c.switch.ensures in
    subst (λ (x : Result (Unit {0}) Unset). SetEnds g.D.Disk.tells who c.args.switch c.args.name.now p x new) (sym (e.1 ∙ ap (λ (d : Unset). Err d) e.2))
    (set_so g.D.Disk.tells who c.args.switch c.args.name.now p new (Err (unset.Disk c.in_err-switch.field-0.0)) (failed_then g.D.Disk.tells who (act_of c.args.switch c.args.name.now) (Sets (to_of c.args.switch) c.args.name.now) (sets_act who c.args.switch c.args.name.now) p q c.settle.result c.settle.ensures.settling (λ settled. ap (seen_all g.D.Disk) (c.settle.ensures.quiet settled))
    (can_set g.D.Disk.tells c.args.switch c.args.name.now p c.in_ok-row_to_switch.field-0 can_now) c.in_ok-settle.ensures.settled (can_set g.D.Disk.tells c.args.switch c.args.name.now q c.in_ok-row.row can_later) new (SetsState c.in_ok-row.row (to_of c.args.switch)) (set_change g.D.Disk.tells c.args.switch c.args.name.now q c.in_ok-row.row can_later) c.in_err-switch.field-0.0 changed))

pub returns : goal.returns
returns g c who =
    let p = parts g.D.Disk c.args.self.now in
    let q = parts g.D.Disk c.settle.new.self in
    let new = parts g.D.Disk c.switch.new.self in
    let can_now = can g (goal.at.returns g c).After-settle in
    let can_later = can_then g (goal.at.returns g c).After-switch in
    let changed = subst (λ (x : Result (Unit {0}) DiskErr). Changed g.D.Disk.tells (SetsState c.in_ok-row.row (to_of c.args.switch)) q new x) c.in_ok-switch.was c.switch.ensures in
    set_so g.D.Disk.tells who c.args.switch c.args.name.now p new (Ok tt) (done_then g.D.Disk.tells who (act_of c.args.switch c.args.name.now) (Sets (to_of c.args.switch) c.args.name.now) (sets_act who c.args.switch c.args.name.now) p q c.settle.result c.settle.ensures.settling (λ settled. ap (seen_all g.D.Disk) (c.settle.ensures.quiet settled))
    (can_set g.D.Disk.tells c.args.switch c.args.name.now p c.in_ok-row_to_switch.field-0 can_now) c.in_ok-settle.ensures.settled (can_set g.D.Disk.tells c.args.switch c.args.name.now q c.in_ok-row.row can_later) new (SetsState c.in_ok-row.row (to_of c.args.switch)) (set_change g.D.Disk.tells c.args.switch c.args.name.now q c.in_ok-row.row can_later) tt (switch_reply c.args.switch (Ok tt)) changed
    (λ m r. (refl, (c.in_ok-row.row, found_row g.D.Disk.tells q m c.args.name.now (Some c.in_ok-row.row) r.stands can_later.0, refl))))
