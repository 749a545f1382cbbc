use Rattle.std.proofs.Common.{inl, inr, Option, Err, refl, ap, subst, ◌∙◌}
use Rattle.std.proofs.lemmas.Result.{err_from_is_err_and}
use Rattle.disk_model.specs.declared.disk.DiskErr.{DiskErr}
use Rattle.durable_write.specs.Ends.{end_of_disk}
use Rattle.tier_store.specs.Frame.{Frame}
use Rattle.tier_store.specs.Pinned.{beside}
use Rattle.tier_store.specs.Seen.{seen, IsSettled}
use Rattle.archive_core.specs.Acting.{Settling}
use Rattle.archive_core.specs.Flushing.{IsTrimmed}
use Rattle.archive_core.specs.Leaving.{files_of}
use Rattle.archive_core.specs.Memory.{IsCleared}
use Rattle.archive_core.specs.Parts.{InMemory, Parts, parts_beside}
use Rattle.archive_core.specs.Stands.{Stands, Rests}
use Rattle.archive_core.specs.declared.memory.Doubt.{Doubt}
use Rattle.archive_core.proofs.Acting.{settling_done, settling_failed}
use Rattle.archive_core.proofs.Settled.{with_same, frame_with, begun, settled_parts, settled_ends, still_doubted}
use Rattle.archive_core.proofs.archive.StoreHalf.settle.Goals.{After-review}
use Rattle.archive_core.proofs.archive.StoreHalf.settle.Goals as goal

-- what the stores' review leaves, whatever is kept of the doubt and in memory then
settling : (g : _) (c : After-review g) (w after : InMemory) (doubt : Option Doubt)
    → Settling g.D.Disk.tells (parts_beside g.D.Disk c.args.self.now w) (parts_beside g.D.Disk (record c.args.self.now { store = c.review.new.self; doubt = doubt }) after) (end_of_disk c.review.result)
settling g c w after doubt = let call = c.review.ensures in record { granularity = call.granularity; settles = call.settles; fronts = call.frame.fronts; pins = call.same.0; slots = refl }

-- and limbo is as it was
frame : (g : _) (c : After-review g) (w : InMemory) → Frame g.D.Disk.tells (files_of (parts_beside g.D.Disk c.args.self.now w)) (beside (seen g.D.Disk c.review.new.self) c.args.self.now.store.limbo.items)
frame g c w = frame_with g.D.Disk.tells (files_of (parts_beside g.D.Disk c.args.self.now w)) (seen g.D.Disk c.review.new.self) c.review.new.self.limbo.items c.args.self.now.store.limbo.items (ap (λ l. l.items) c.review.ensures.same.1) c.review.ensures.frame

pub review-requires : goal.review-requires
review-requires g c = let was = c.requires.stands in record { begun = begun g.D.Disk.tells (parts_beside g.D.Disk c.args.self.now was.0) was.1 was.2 }

pub returns-in_err-review-clause-still : goal.returns-in_err-review-clause-still
returns-in_err-review-clause-still g c =
    let p = err_from_is_err_and c.from_residual.result c.from_residual.ensures.1 in
    let doubted : IsSettled (seen g.D.Disk c.args.self.now.store) → ⊥ = λ settled. let fine = (c.review.ensures.nothing settled).0 in let failed = c.in_err-review.was in cc (fine, failed) in
    let new = seen g.D.Disk c.review.new.self in
    rw p.1 (λ w m s.
    let old = parts_beside g.D.Disk c.args.self.now w in
    let keeps = frame g (goal.at.returns-in_err-review-clause-still g c).After-review w in
    with_same (λ (x : Parts). Stands g.D.Disk.tells x (record m { faults = new.faults })) (record old { at = new }) c.review.new.self.limbo.items c.review.new.self.pinned (ap (λ l. l.items) c.review.ensures.same.1) c.review.ensures.same.0 (still_doubted g.D.Disk.tells old m new s doubted c.in_err-review.ensures.still c.review.ensures.granularity keeps))

pub returns-in_err-review-clause-settling : goal.returns-in_err-review-clause-settling
returns-in_err-review-clause-settling g c = λ w after.
    let p = err_from_is_err_and c.from_residual.result c.from_residual.ensures.1 in
    settling_failed g.D.Disk.tells (parts_beside g.D.Disk c.args.self.now w) (parts_beside g.D.Disk (record c.args.self.now { store = c.review.new.self }) after) c.review.result c.from_residual.result c.in_err-review.field-0.0 c.in_err-review.was (p.1 ∙ ap (λ (e : DiskErr). Err e) p.2)
    (settling g (goal.at.returns-in_err-review-clause-settling g c).After-review w after c.args.self.now.doubt)

pub returns-clause-settled : goal.returns-clause-settled
returns-clause-settled g c = λ w after takes m s.
    let old = parts_beside g.D.Disk c.args.self.now w in
    let new = seen g.D.Disk c.review.new.self in
    let keeps = frame g (goal.at.returns-clause-settled g c).After-review w in
    let kept = subst (λ (d : Option Doubt). IsCleared new.catalogue.rows d w.kept after.kept) c.take.ensures.value takes.kept in
    let tails = subst (λ (d : Option Doubt). IsTrimmed new.manifests d w.tails after.tails) c.take.ensures.value takes.tails in
    let ends = settled_ends g.D.Disk.tells old m s new after.kept c.review.ensures.granularity keeps after.tails kept tails c.in_ok-review.ensures.settled in
    let rests = with_same (λ (x : Parts). Rests g.D.Disk.tells x (record ends.0 { faults = new.faults })) (settled_parts old new after.kept after.tails) c.review.new.self.limbo.items c.review.new.self.pinned (ap (λ l. l.items) c.review.ensures.same.1) c.review.ensures.same.0 ends.2 in
    (ends.0, ends.1, rw (c.take.ensures.after, takes.doors) rests)

pub returns-clause-three : goal.returns-clause-three
returns-clause-three g c =
    let was = c.requires.stands in
    let open_ones = begun g.D.Disk.tells (parts_beside g.D.Disk c.args.self.now was.0) was.1 was.2 in
    elim (c.in_ok-review.ensures.settled open_ones.0 open_ones.1 open_ones.2) [ inl has ↦ has.known.three | inr has ↦ has.known.three ]

pub returns-clause-settling : goal.returns-clause-settling
returns-clause-settling g c = λ w after. settling_done g.D.Disk.tells (parts_beside g.D.Disk c.args.self.now w) _ c.review.result _ (settling g (goal.at.returns-clause-settling g c).After-review w after c.take.new.self)
