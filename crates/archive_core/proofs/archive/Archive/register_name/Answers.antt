use Rattle.tier_store.specs.Pinned.{seen_all}
use Rattle.std.proofs.Common.{ℕ, Ok, Err, Result, refl, sym, ◌∙◌, ap, subst}
use Rattle.std.proofs.lemmas.Result.{err_from_is_err_and}
use Rattle.disk_model.specs.declared.disk.DiskErr.{DiskErr}
use Rattle.pv_catalog.specs.Catalogue.{CatalogueState, Refuses}
use Rattle.pv_catalog.specs.declared.error.RegisterErr.{RegisterErr}
use Rattle.pv_catalog.specs.declared.error.RegisterErr.TheVariants.{Disk}
use Rattle.act_model.specs.Machine.{AddsRow}
use Rattle.act_model.specs.Register.{Registers}
use Rattle.act_model.specs.declared.acts.Act.TheVariants.{Register}
use Rattle.act_model.specs.declared.acts.Answer.TheVariants.{Registered}
use Rattle.archive_core.specs.Acting.{Changed}
use Rattle.archive_core.specs.Ends.{register_reply}
use Rattle.archive_core.specs.Parts.{parts}
use Rattle.archive_core.proofs.Acting.{cut, done_then, failed_then, refused_first, refused_then}
use Rattle.archive_core.proofs.Registered.{IsFree, RegisterEnds, free_as, refused_as, registered_so, registers_act}
use Rattle.archive_core.proofs.archive.Archive.register_name.Goals.{After-settle, After-add_row}
use Rattle.archive_core.proofs.archive.Archive.register_name.Goals as goal

-- nothing refuses the name before a doubt is settled
free : (g : _) (c : After-settle g) → IsFree c.args.name.now (parts g.D.Disk c.args.self.now)
free g c = subst (λ (x : CatalogueState). (e : RegisterErr) → Refuses x.rows c.args.name.now e → ⊥) c.catalogue.ensures c.in_ok-refuse_taken.ensures.free

-- nor then
free_then : (g : _) (c : After-add_row g) → IsFree c.args.name.now (parts g.D.Disk c.settle.new.self)
free_then g c = subst (λ (x : CatalogueState). (e : RegisterErr) → Refuses x.rows c.args.name.now e → ⊥) c.catalogue-2.ensures c.in_ok-refuse_taken-2.ensures.free

pub returns-in_err-refuse_taken : goal.returns-in_err-refuse_taken
returns-in_err-refuse_taken g c who =
    let e = err_from_is_err_and c.from_residual.result c.from_residual.ensures.1 in
    let p = parts g.D.Disk c.args.self.now in
    let refuses = subst (λ (x : CatalogueState). Refuses x.rows c.args.name.now c.in_err-refuse_taken.field-0.0) c.catalogue.ensures c.in_err-refuse_taken.ensures.refuses in
    subst (λ (x : Result ℕ RegisterErr). RegisterEnds g.D.Disk.tells who c.args.name.now c.args.about.now p x p) (sym (e.1 ∙ ap (λ (d : RegisterErr). Err d) e.2))
    (registered_so g.D.Disk.tells who c.args.name.now c.args.about.now p p (Err c.in_err-refuse_taken.field-0.0) (refused_first g.D.Disk.tells who (Register c.args.name.now c.args.about.now) (Registers c.args.name.now c.args.about.now) (registers_act who c.args.name.now c.args.about.now) p (register_reply (Err c.in_err-refuse_taken.field-0.0))
    (λ m s. refused_as g.D.Disk.tells p m s c.args.name.now c.in_err-refuse_taken.field-0.0 refuses)))

pub returns-in_err-settle : goal.returns-in_err-settle
returns-in_err-settle g c who =
    let e = err_from_is_err_and c.from_residual-in_err-settle.result c.from_residual-in_err-settle.ensures.1 in
    let p = parts g.D.Disk c.args.self.now in
    let q = parts g.D.Disk c.settle.new.self in
    let free_now = free g (goal.at.returns-in_err-settle g c).After-settle in
    subst (λ (x : Result ℕ RegisterErr). RegisterEnds g.D.Disk.tells who c.args.name.now c.args.about.now p x q) (sym (e.1 ∙ ap (λ (d : RegisterErr). Err d) e.2))
    (registered_so g.D.Disk.tells who c.args.name.now c.args.about.now p q (Err (Disk c.in_err-settle.field-0.0)) (cut g.D.Disk.tells who (Register c.args.name.now c.args.about.now) (Registers c.args.name.now c.args.about.now) (registers_act who c.args.name.now c.args.about.now) p q c.settle.result c.settle.ensures.settling (λ settled. ap (seen_all g.D.Disk) (c.settle.ensures.quiet settled))
    (λ m s. free_as g.D.Disk.tells p m s c.args.name.now free_now) c.in_err-settle.field-0.0 c.in_err-settle.was c.in_err-settle.ensures.still))

pub returns-in_err-refuse_taken-2 : goal.returns-in_err-refuse_taken-2
returns-in_err-refuse_taken-2 g c who =
    let e = err_from_is_err_and c.from_residual-in_err-refuse_taken-2.result c.from_residual-in_err-refuse_taken-2.ensures.1 in
    let p = parts g.D.Disk c.args.self.now in
    let q = parts g.D.Disk c.settle.new.self in
    let free_now = free g (goal.at.returns-in_err-refuse_taken-2 g c).After-settle in
    let refuses = subst (λ (x : CatalogueState). Refuses x.rows c.args.name.now c.in_err-refuse_taken-2.field-0.0) c.catalogue-2.ensures c.in_err-refuse_taken-2.ensures.refuses in
    subst (λ (x : Result ℕ RegisterErr). RegisterEnds g.D.Disk.tells who c.args.name.now c.args.about.now p x q) (sym (e.1 ∙ ap (λ (d : RegisterErr). Err d) e.2))
    (registered_so g.D.Disk.tells who c.args.name.now c.args.about.now p q (Err c.in_err-refuse_taken-2.field-0.0) (refused_then g.D.Disk.tells who (Register c.args.name.now c.args.about.now) (Registers c.args.name.now c.args.about.now) (registers_act who c.args.name.now c.args.about.now) p q c.settle.result c.settle.ensures.settling (λ settled. ap (seen_all g.D.Disk) (c.settle.ensures.quiet settled))
    (λ m s. free_as g.D.Disk.tells p m s c.args.name.now free_now) c.in_ok-settle.ensures.settled (register_reply (Err c.in_err-refuse_taken-2.field-0.0)) (λ old was m s. refused_as g.D.Disk.tells q m s c.args.name.now c.in_err-refuse_taken-2.field-0.0 refuses)))

pub add_row-requires-clause-rests : goal.add_row-requires-clause-rests
add_row-requires-clause-rests g c =
    let was = c.requires.stands in
    let then = c.in_ok-settle.ensures.settled was.0 was.1 in
    (record then.0 { faults = (parts g.D.Disk c.settle.new.self).at.faults }, then.2)

pub add_row-requires-clause-free : goal.add_row-requires-clause-free
add_row-requires-clause-free g c = subst (λ (x : CatalogueState). (e : RegisterErr) → Refuses x.rows c.args.name.now e → ⊥) c.catalogue-2.ensures c.in_ok-refuse_taken-2.ensures.free

pub returns-in_err-add_row : goal.returns-in_err-add_row
returns-in_err-add_row g c who =
    let e = err_from_is_err_and c.from_residual-in_err-add_row.result c.from_residual-in_err-add_row.ensures.1 in
    let p = parts g.D.Disk c.args.self.now in
    let q = parts g.D.Disk c.settle.new.self in
    let new = parts g.D.Disk c.add_row.new.self in
    let free_now = free g (goal.at.returns-in_err-add_row g c).After-settle in
    let free_later = free_then g (goal.at.returns-in_err-add_row g c).After-add_row in
    let changed = subst (λ (x : Result ℕ DiskErr). Changed g.D.Disk.tells (AddsRow c.args.name.now c.args.about.now) q new x) c.in_err-add_row.was c.add_row.ensures.changed in
    subst (λ (x : Result ℕ RegisterErr). RegisterEnds g.D.Disk.tells who c.args.name.now c.args.about.now p x new) (sym (e.1 ∙ ap (λ (d : RegisterErr). Err d) e.2))
    (registered_so g.D.Disk.tells who c.args.name.now c.args.about.now p new (Err (Disk c.in_err-add_row.field-0.0)) (failed_then g.D.Disk.tells who (Register c.args.name.now c.args.about.now) (Registers c.args.name.now c.args.about.now) (registers_act who c.args.name.now c.args.about.now) p q c.settle.result c.settle.ensures.settling (λ settled. ap (seen_all g.D.Disk) (c.settle.ensures.quiet settled))
    (λ m s. free_as g.D.Disk.tells p m s c.args.name.now free_now) c.in_ok-settle.ensures.settled (λ m s. free_as g.D.Disk.tells q m s c.args.name.now free_later) new (AddsRow c.args.name.now c.args.about.now) (λ m s. refl) c.in_err-add_row.field-0.0 changed))

pub returns : goal.returns
returns g c who =
    let p = parts g.D.Disk c.args.self.now in
    let q = parts g.D.Disk c.settle.new.self in
    let new = parts g.D.Disk c.add_row.new.self in
    let free_now = free g (goal.at.returns g c).After-settle in
    let free_later = free_then g (goal.at.returns g c).After-add_row in
    let changed = subst (λ (x : Result ℕ DiskErr). Changed g.D.Disk.tells (AddsRow c.args.name.now c.args.about.now) q new x) c.in_ok-add_row.was c.add_row.ensures.changed in
    registered_so g.D.Disk.tells who c.args.name.now c.args.about.now p new (Ok c.in_ok-add_row.field-0) (done_then g.D.Disk.tells who (Register c.args.name.now c.args.about.now) (Registers c.args.name.now c.args.about.now) (registers_act who c.args.name.now c.args.about.now) p q c.settle.result c.settle.ensures.settling (λ settled. ap (seen_all g.D.Disk) (c.settle.ensures.quiet settled))
    (λ m s. free_as g.D.Disk.tells p m s c.args.name.now free_now) c.in_ok-settle.ensures.settled (λ m s. free_as g.D.Disk.tells q m s c.args.name.now free_later) new (AddsRow c.args.name.now c.args.about.now) (λ m s. refl) c.in_ok-add_row.field-0 (register_reply (Ok c.in_ok-add_row.field-0)) changed
    (λ m r. (ap (λ (n : ℕ). Registered n) (c.in_ok-add_row.ensures.number ∙ sym r.stands.rows.count), refl)))
