use Rattle.std.proofs.Common.{◌≡◌, ◌-◌, refl, subst, sym}
use Rattle.std.specs.BTreeMap.{get}
use Rattle.std.specs.Ordering.{nat_cmp}
use Rattle.std.proofs.lemmas.Result.{err_from_is_err_and}
use Rattle.tier_store.specs.Beginning.{SaysBegun}
use Rattle.tier_store.specs.declared.moving.StoreMove as own
use Rattle.tier_store.specs.declared.moving.StoreMove.TheVariants as begun
use Rattle.act_model.specs.Machine.{Machine}
use Rattle.archive_core.specs.Parts.{InMemory, parts_beside}
use Rattle.archive_core.specs.Stands.{Rests}
use Rattle.archive_core.proofs.MoveTable.{all_there, begun_there, none_there, slots_stand}
use Rattle.archive_core.proofs.Settled.{rests_has}
use Rattle.archive_core.proofs.Batches.{tidy_begun, tidy_none}
use Rattle.archive_core.proofs.archive.StoreHalf.begin_chosen.Goals.{In_ok-begun}
use Rattle.archive_core.proofs.archive.StoreHalf.begin_chosen.Goals as goal

pub begin_move-requires-clause-has : goal.begin_move-requires-clause-has
begin_move-requires-clause-has g c = let r = c.requires.rests in (r.2.stands.store.before, rests_has g.D.Disk.tells (parts_beside g.D.Disk c.args.self.now r.0) r.1 r.2)

pub returns-in_err-m-in-Begun-clause-spent : goal.returns-in_err-m-in-Begun-clause-spent
returns-in_err-m-in-Begun-clause-spent g c =
    let e = err_from_is_err_and c.from_residual-in_err-m-in-Begun.result c.from_residual-in_err-m-in-Begun.ensures.1 in
    rw e.1 (λ w m r. slots_stand g.D.Disk.tells (parts_beside g.D.Disk c.args.self.now w) m c.begin.new.self.slots.items c.in_err-m-in-Begun.ensures.unchanged r)

-- what the stores say of what is held
said : (g : _) (w : InMemory) (c : In_ok-begun g) (m : Machine) (r : Rests g.D.Disk.tells (parts_beside g.D.Disk c.args.self.now w) m) (given : own.StoreMove) → c.in_ok-begun.begun ≡ given
    → SaysBegun g.D.Disk.tells (c.from.result - 1) c.rule_at-rule.result (get nat_cmp c.in_ok-running.running) c.args.self.now.store.manifests.items given r.stands.store.before
said g w c m r given is =
    subst (λ (b : own.StoreMove). SaysBegun g.D.Disk.tells (c.from.result - 1) c.rule_at-rule.result (get nat_cmp c.in_ok-running.running) c.args.self.now.store.manifests.items b r.stands.store.before) is
    (c.in_ok-begun.ensures.says r.stands.store.before (rests_has g.D.Disk.tells (parts_beside g.D.Disk c.args.self.now w) m r))

pub returns-in-Begun-clause-begins : goal.returns-in-Begun-clause-begins
returns-in-Begun-clause-begins g c = λ w is m r.
    begun_there g.D.Disk.tells (parts_beside g.D.Disk c.args.self.now w) m r c.args.store c.args.now c.requires.first c.requires.last c.rule_at-rule.result c.rule_at-rule.ensures (get nat_cmp c.in_ok-running.running) c.in_ok-running.ensures.runs c.in_ok-running.ensures.all c.from.result c.from.ensures
    c.in_ok-m-in-Begun.m c.in-Begun.row c.in-Begun.parts c.in-Begun.moving c.begin.new.self.slots.items (said g w (goal.at.returns-in-Begun-clause-begins g c).In_ok-begun m r (begun.Begun c.in-Begun.row c.in-Begun.parts c.in-Begun.moving) c.in-Begun.is) c.in_ok-m-in-Begun.ensures.free c.in_ok-m-in-Begun.ensures.least c.in_ok-m-in-Begun.ensures.begun

pub returns-in-Running-clause-begins : goal.returns-in-Running-clause-begins
returns-in-Running-clause-begins g c = λ w is m r.
    all_there g.D.Disk.tells (parts_beside g.D.Disk c.args.self.now w) m r c.args.store c.args.now c.requires.first c.requires.last c.rule_at-rule.result c.rule_at-rule.ensures (get nat_cmp c.in_ok-running.running) c.in_ok-running.ensures.runs c.in_ok-running.ensures.all c.from.result c.from.ensures
    c.in-Running.number (said g w (goal.at.returns-in-Running-clause-begins g c).In_ok-begun m r (begun.Running c.in-Running.number) c.in-Running.is)

pub returns-clause-begins : goal.returns-clause-begins
returns-clause-begins g c = λ w is m r.
    rw (sym is) (none_there g.D.Disk.tells (parts_beside g.D.Disk c.args.self.now w) m r c.args.store c.args.now c.requires.first c.requires.last c.rule_at-rule.result c.rule_at-rule.ensures (get nat_cmp c.in_ok-running.running) c.in_ok-running.ensures.runs c.in_ok-running.ensures.all c.from.result c.from.ensures
    (said g w (goal.at.returns-clause-begins g c).In_ok-begun m r begun.Nothing c.in-Nothing.is))

pub returns-in-Begun-clause-tidy : goal.returns-in-Begun-clause-tidy
returns-in-Begun-clause-tidy g c = λ w.
    let r = c.requires.rests in
    let p = parts_beside g.D.Disk c.args.self.now w in
    tidy_begun g.D.Disk.tells p _ c.in_ok-m-in-Begun.m _ refl c.in_ok-m-in-Begun.ensures.free c.in_ok-m-in-Begun.ensures.begun (rests_has g.D.Disk.tells (parts_beside g.D.Disk c.args.self.now r.0) r.1 r.2).settled

pub returns-in-Running-clause-tidy : goal.returns-in-Running-clause-tidy
returns-in-Running-clause-tidy g c = λ w. let r = c.requires.rests in let p = parts_beside g.D.Disk c.args.self.now w in tidy_none g.D.Disk.tells p p refl refl (rests_has g.D.Disk.tells (parts_beside g.D.Disk c.args.self.now r.0) r.1 r.2).settled

pub returns-clause-tidy : goal.returns-clause-tidy
returns-clause-tidy g c = λ w. let r = c.requires.rests in let p = parts_beside g.D.Disk c.args.self.now w in tidy_none g.D.Disk.tells p p refl refl (rests_has g.D.Disk.tells (parts_beside g.D.Disk c.args.self.now r.0) r.1 r.2).settled
