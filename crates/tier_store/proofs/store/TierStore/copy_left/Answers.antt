use Rattle.std.proofs.Common.{refl, ◌≡◌, ℕ, ◌<◌, ◌≤◌, ◌+◌, length, ◌∙◌, ap, subst, arith}
use Rattle.std.specs.Prelude.{IfOk, IsTrue, OnErr, OnOk, Result, nat_eq}
use Rattle.disk_model.specs.declared.disk.DiskErr.{DiskErr}
use Rattle.etl_mover.specs.Move.{of_series}
use Rattle.durable_write.specs.Ends.{Done, end_of_disk}
use Rattle.tier_store.specs.Copying.{CopiesBeside, CopyLeaves, SaysPart}
use Rattle.tier_store.specs.Pinned.{seen_all}
use Rattle.tier_store.specs.Reviving.{AreCovered}
use Rattle.tier_store.specs.Strays.{WritesTargets, targets}
use Rattle.tier_store.specs.declared.copying.CopyEnd.{CopyEnd}
use Rattle.tier_store.proofs.CopySteps.{done_leaves, looks_held, looks_leave, looks_none}
use Rattle.tier_store.proofs.CopyParts.{further, source}
use Rattle.tier_store.proofs.CopyCovered.{covers_all, ends_so, kept_long, listed_all, moves_ended, moves_twice, test_false, test_true}
use Rattle.tier_store.proofs.Strays.{targets_ended, targets_same, targets_then}
use Rattle.tier_store.proofs.store.TierStore.copy_left.Goals.{After-first_uncovered-left}
use Rattle.tier_store.proofs.store.TierStore.copy_left.Goals as goal

pub first_uncovered-left-requires-clause-listed : goal.first_uncovered-left-requires-clause-listed
first_uncovered-left-requires-clause-listed g c m here =
    let runs = c.requires.runs in
    listed_all g.D.Disk.tells _ c.args.place c.args.moving.now runs.0 runs.2 runs.3 (further c.args.place g.D.Disk.tells _ c.args.moving.now runs.0 runs.2 runs.4.0) m here

pub first_uncovered-behind-requires-clause-listed : goal.first_uncovered-behind-requires-clause-listed
first_uncovered-behind-requires-clause-listed g c m here =
    let runs = c.requires.runs in
    listed_all g.D.Disk.tells _ c.args.place c.args.moving.now runs.0 runs.2 runs.3 (further c.args.place g.D.Disk.tells _ c.args.moving.now runs.0 runs.2 runs.4.0) m here

-- no more parts stand whole in limbo than there are
high_left : (g : _) (c : After-first_uncovered-left g) → c.first_uncovered-left.result ≤ length c.args.moving.now.files
high_left g c =
    let runs = c.requires.runs in
    let own = source g.D.Disk.tells _ c.args.place c.args.moving.now runs.0 runs.2 runs.3 (further c.args.place g.D.Disk.tells _ c.args.moving.now runs.0 runs.2 runs.4.0) in
    (c.first_uncovered-left.ensures own.0 own.1).high

pub overflow_add-left : goal.overflow_add-left
overflow_add-left g c =
    let runs = c.requires.runs in
    let high = high_left g (goal.at.overflow_add-left g c).After-first_uncovered-left in
    let few = runs.4.0.runs.running.few in
    let long = kept_long runs.4.0.runs.fine c.args.moving.now runs.4.0.runs.running in
    omega (arith, high, few, long)

pub first_uncovered-behind-requires-clause-low : goal.first_uncovered-behind-requires-clause-low
first_uncovered-behind-requires-clause-low g c =
    let runs = c.requires.runs in
    let high = high_left g (goal.at.first_uncovered-behind-requires-clause-low g c).After-first_uncovered-left in
    let kept = ap length c.kept-parts.ensures in
    omega (arith, high, kept, c.if-left-parts.false)

pub copy_part-requires-clause-covered : goal.copy_part-requires-clause-covered
copy_part-requires-clause-covered g c m here =
    let self = c.args.self.now in
    let move = c.args.moving.now in
    subst (λ (j : ℕ). AreCovered self.limbo.items (c.args.place + 2) move (of_series move.series m.entries) j c.first_uncovered-left.result) c.copied_parts-first.ensures (c.first_uncovered-left.ensures m here)

pub copy_part-requires-clause-high : goal.copy_part-requires-clause-high
copy_part-requires-clause-high g c =
    let runs = c.requires.runs in
    let high = high_left g (goal.at.copy_part-requires-clause-high g c).After-first_uncovered-left in
    let kept = ap length c.kept-parts.ensures in
    let long = kept_long runs.4.0.runs.fine c.args.moving.now runs.4.0.runs.running in
    omega (arith, high, kept, long, c.if-left-parts.false)

pub end_of-requires : goal.end_of-requires
end_of-requires g c = record {
  running = λ more.
      let runs = c.requires.runs in
      let new = seen_all g.D.Disk c.copy_part.new.self in
      let says = subst (λ (r : Result CopyEnd DiskErr). IfOk r (SaysPart 1_048_576 c.args.place g.D.Disk.tells new c.first_uncovered-left.result runs.1 c.args.moving.now c.copy_part.new.moving runs.0 runs.2)) c.in-Ok.is (c.copy_part.ensures.copies runs.0 runs.1 runs.2 runs.3 runs.4 runs.5).says in
      let at_more = subst (SaysPart 1_048_576 c.args.place g.D.Disk.tells new c.first_uncovered-left.result runs.1 c.args.moving.now c.copy_part.new.moving runs.0 runs.2) more says in
      (at_more.1.runs.fine, at_more.1.runs.running);
}

pub returns-then-left-parts-clause-copies : goal.returns-then-left-parts-clause-copies
returns-then-left-parts-clause-copies g c files retired held has among line =
    let disk = g.D.Disk in
    let self = c.args.self.now in
    let move = c.args.moving.now in
    let all = seen_all disk self in
    let own = source disk.tells all c.args.place move files held has (further c.args.place disk.tells all move files held among.0) in
    let k = c.first_uncovered-left.result in
    let covered = subst (λ (j : ℕ). AreCovered self.limbo.items (c.args.place + 2) move (of_series move.series own.0.entries) j k) c.copied_parts-first.ensures (c.first_uncovered-left.ensures own.0 own.1) in
    let kept : length c.kept-parts.result.now ≡ length move.parts = ap length c.kept-parts.ensures ∙ kept_long among.0.runs.fine move among.0.runs.running in
    record {
      stays = looks_held {E = ⊥} disk.tells all all (Done c.pass_rest.new.moving) held (looks_none disk.tells all _ (λ failed. failed)) has;
      says = covers_all disk.tells all c.args.place move files held has among.0 c.requires.stands retired among.1 own.0 own.1 k covered (omega (arith, kept, c.if-left-parts.true)) c.pass_rest.new.moving c.pass_rest.ensures.passes (c.pass_rest.ensures.running among.0.runs.fine among.0.runs.running) 1_048_576;
      still = tt;
    }

pub returns-then-left-parts-clause-rest : goal.returns-then-left-parts-clause-rest
returns-then-left-parts-clause-rest g c = looks_leave g.D.Disk.tells _ _ c.args.moving.now _ c.requires.runs.3.known.three (looks_none g.D.Disk.tells _ _ (λ failed. failed))

pub returns-then-left-parts-clause-targets : goal.returns-then-left-parts-clause-targets
returns-then-left-parts-clause-targets g c tells = targets_same c.args.moving.now c.pass_rest.new.moving _ _ (ap targets c.pass_rest.ensures.passes) refl

pub returns-in-Ok-clause-copies : goal.returns-in-Ok-clause-copies
returns-in-Ok-clause-copies g c files retired held has among line =
    let disk = g.D.Disk in
    let self = c.args.self.now in
    let move = c.args.moving.now in
    let mid = c.copy_part.new.moving in
    let all = seen_all disk self in
    let new = seen_all disk c.copy_part.new.self in
    let own = source disk.tells all c.args.place move files held has (further c.args.place disk.tells all move files held among.0) in
    let k = c.first_uncovered-left.result in
    let b = c.first_uncovered-behind.result in
    let covered = subst (λ (j : ℕ). AreCovered self.limbo.items (c.args.place + 2) move (of_series move.series own.0.entries) j k) c.copied_parts-first.ensures (c.first_uncovered-left.ensures own.0 own.1) in
    let long = kept_long among.0.runs.fine move among.0.runs.running in
    let kept : length c.kept-parts.result.now ≡ length move.parts = ap length c.kept-parts.ensures ∙ long in
    let high = covered.high in
    let low : k < length move.parts = omega (arith, high, kept, long, c.if-left-parts.false) in
    let step = c.copy_part.ensures.copies files retired held has among line in
    let says = subst (λ (r : Result CopyEnd DiskErr). IfOk r (SaysPart 1_048_576 c.args.place disk.tells new k retired move mid files held)) c.in-Ok.is step.says in
    record {
      stays = step.stays;
      says = ends_so disk.tells all c.args.place move files held has among.0 c.requires.stands retired among.1 own.0 own.1 k covered low b (c.first_uncovered-behind.ensures own.0 own.1) (nat_eq b (length c.kept-parts.result.now)) (test_true b (length c.kept-parts.result.now) (length move.parts) kept) (test_false b (length c.kept-parts.result.now) (length move.parts) kept)
          new 1_048_576 mid c.end_of.new.moving c.copy_part.ensures.moves_on c.copy_part.ensures.one c.end_of.result c.in-Ok.end says c.end_of.ensures.whole c.end_of.ensures.more c.end_of.ensures.other c.end_of.ensures.running;
      still = tt;
    }

pub returns-in-Ok-clause-rest : goal.returns-in-Ok-clause-rest
returns-in-Ok-clause-rest g c =
    done_leaves g.D.Disk.tells _ _ c.args.moving.now c.in-Ok.end c.end_of.result
    (subst (λ (r : Result CopyEnd DiskErr). CopyLeaves c.args.moving.now g.D.Disk.tells (seen_all g.D.Disk c.args.self.now) (seen_all g.D.Disk c.copy_part.new.self) (end_of_disk r)) c.in-Ok.is c.copy_part.ensures.rest)

pub returns-in-Ok-clause-moves_on : goal.returns-in-Ok-clause-moves_on
returns-in-Ok-clause-moves_on g c =
    moves_twice c.args.moving.now c.copy_part.new.moving c.end_of.new.moving c.copy_part.ensures.moves_on
    (moves_ended c.first_uncovered-left.result (nat_eq c.first_uncovered-behind.result (length c.kept-parts.result.now)) c.copy_part.new.moving c.end_of.new.moving c.end_of.result c.in-Ok.end c.end_of.ensures.whole c.end_of.ensures.more c.end_of.ensures.other)

pub returns-in-Ok-clause-targets : goal.returns-in-Ok-clause-targets
returns-in-Ok-clause-targets g c tells =
    let files = g.D.Disk.files in
    let move = c.args.moving.now in
    let mid = c.copy_part.new.moving in
    let end = c.end_of.new.moving in
    let writes = subst (λ (r : Result CopyEnd DiskErr). OnOk r (IsTrue g.D.Disk.tells → WritesTargets move mid (files c.args.self.now.disk) (files c.copy_part.new.self.disk))) c.in-Ok.is c.copy_part.ensures.targets in
    targets_then move mid end _ _ _ (writes tells)
    (targets_same mid end _ _ (targets_ended c.first_uncovered-left.result (nat_eq c.first_uncovered-behind.result (length c.kept-parts.result.now)) mid end c.end_of.result c.in-Ok.end c.end_of.ensures.whole c.end_of.ensures.more c.end_of.ensures.other) refl)

pub returns-in-Err-clause-copies : goal.returns-in-Err-clause-copies
returns-in-Err-clause-copies g c files retired held has among line =
    let step = c.copy_part.ensures.copies files retired held has among line in
    record { stays = step.stays; says = tt; still = subst (λ (r : Result CopyEnd DiskErr). OnErr r (CopiesBeside c.args.place g.D.Disk.tells (seen_all g.D.Disk c.copy_part.new.self) c.copy_part.new.moving files held)) c.in-Err.is step.still }

pub returns-in-Err-clause-rest : goal.returns-in-Err-clause-rest
returns-in-Err-clause-rest g c = subst (λ (r : Result CopyEnd DiskErr). CopyLeaves c.args.moving.now g.D.Disk.tells (seen_all g.D.Disk c.args.self.now) (seen_all g.D.Disk c.copy_part.new.self) (end_of_disk r)) c.in-Err.is c.copy_part.ensures.rest
