use Rattle.std.proofs.Common.{◌≡◌, Err, List, Result, true, ◌∙◌, ap, subst, sym}
use Rattle.std.specs.FinMap.{FinMap}
use Rattle.std.specs.Ordering.{nat_cmp}
use Rattle.std.specs.Prelude.{IsTrue, OnOk}
use Rattle.std.proofs.lemmas.Result.{err_from_is_err_and}
use Rattle.disk_model.specs.Files.{Name}
use Rattle.disk_model.specs.declared.disk.DiskErr.{DiskErr}
use Rattle.pins.specs.Pieces.{PinOf}
use Rattle.durable_write.specs.Ends.{Done}
use Rattle.durable_write.proofs.Staying.{rose_after}
use Rattle.tier_store.specs.Limbo.{AreGone, AreRemovable, IsLeftOver, IsSwept, LeavesKept, staying}
use Rattle.tier_store.specs.Pinned.{seen_all}
use Rattle.store_manifest.specs.Manifest.{ManifestState}
use Rattle.tier_store.specs.Seen.{AtEach, seen}
use Rattle.tier_store.specs.declared.limbo.Retired.{Retired}
use Rattle.tier_store.proofs.OnePlace.{changes_given}
use Rattle.tier_store.proofs.ReadCalls.{given_changes, look_leaves, look_then_leaves}
use Rattle.tier_store.proofs.CopySteps.{look_then_change, looks_change, looks_err, looks_stands, looks_whole}
use Rattle.tier_store.proofs.RunningMoves.{names_then, read_names}
use Rattle.tier_store.proofs.Strays.{swept_strays}
use Rattle.tier_store.proofs.Frames.{whole_then}
use Rattle.tier_store.proofs.store.TierStore.sweep.Goals as goal

-- AFTER AN ERROR

pub returns-in_err-removable-clause-changes : goal.returns-in_err-removable-clause-changes
returns-in_err-removable-clause-changes g c =
    let p = err_from_is_err_and c.from_residual.result c.from_residual.ensures.1 in
    given_changes g.D.Disk.tells staying _ _ _ (looks_change g.D.Disk.tells _ _ _ c.from_residual.result (looks_err g.D.Disk.tells _ _ c.find_swept.result c.from_residual.result _ (c.in_err-removable.was ∙ ap (λ (x : DiskErr). Err x) (sym p.2)) p.1 c.find_swept.ensures.looks))

pub returns-in_err-removable-clause-failed : goal.returns-in_err-removable-clause-failed
returns-in_err-removable-clause-failed g c =
    let p = err_from_is_err_and c.from_residual.result c.from_residual.ensures.1 in
    rw p.1 (c.find_swept.ensures.same.3, c.find_swept.ensures.looks.shown, c.find_swept.ensures.looks.leaves)

pub returns-in_err-removable-clause-leaves : goal.returns-in_err-removable-clause-leaves
returns-in_err-removable-clause-leaves g c = look_leaves g.D.Disk.tells c.args.self.now.pinned c.args.copied.now _ _ _ c.find_swept.ensures.looks

pub returns-in_err-removable-clause-whole : goal.returns-in_err-removable-clause-whole
returns-in_err-removable-clause-whole g c = looks_whole g.D.Disk.tells _ _ _ c.requires.has.1.known.three c.find_swept.ensures.looks

pub returns-in_err-removable-clause-copied : goal.returns-in_err-removable-clause-copied
returns-in_err-removable-clause-copied g c =
    let looks = c.find_swept.ensures.looks in
    read_names c.args.copied.now g.D.Disk.tells _ _ looks.limbo looks.reads.files looks.opened looks.reads.any_moment

pub returns-in_err-removable-clause-stands : goal.returns-in_err-removable-clause-stands
returns-in_err-removable-clause-stands g c = looks_stands g.D.Disk.tells _ _ _ c.find_swept.ensures.looks c.requires.stands

-- THE SWEEP

pub sweep_names-requires-clause-has : goal.sweep_names-requires-clause-has
sweep_names-requires-clause-has g c = (c.requires.has.0, c.in_ok-removable.ensures.looks.kept c.requires.has.0 c.requires.has.1)

pub sweep_names-requires-clause-stands : goal.sweep_names-requires-clause-stands
sweep_names-requires-clause-stands g c = looks_stands g.D.Disk.tells _ _ _ c.in_ok-removable.ensures.looks c.requires.stands

pub sweep_names-requires-clause-removable : goal.sweep_names-requires-clause-removable
sweep_names-requires-clause-removable g c tells =
    let mid = c.find_swept.new.self in
    subst (λ (ns : List Name). AreRemovable (IsLeftOver mid.manifests.items mid.pinned c.args.copied.now) mid.limbo.items (g.D.Disk.files mid.disk) ns) (sym c.deref.ensures.value) (c.in_ok-removable.ensures.found tells)

pub returns-clause-changes : goal.returns-clause-changes
returns-clause-changes g c =
    given_changes g.D.Disk.tells staying _ _ _
    (look_then_change g.D.Disk.tells (λ s. Unit {0}) (λ s. Unit {0}) _ _ _ _ c.sweep_names.result c.in_ok-removable.ensures.looks (λ held has given. given) (changes_given (λ s. Unit {0}) g.D.Disk.tells staying _ _ (Done c.sweep_names.result) c.sweep_names.ensures.changes))

pub returns-clause-leaves : goal.returns-clause-leaves
returns-clause-leaves g c =
    let mid = seen_all g.D.Disk c.find_swept.new.self in
    let new = seen_all g.D.Disk c.sweep_names.new.self in
    look_then_leaves g.D.Disk.tells c.args.self.now.pinned c.args.copied.now _ mid new _ c.find_swept.ensures.looks
    (subst (λ (p : FinMap nat_cmp PinOf). LeavesKept g.D.Disk.tells p c.args.copied.now mid new) c.find_swept.ensures.same.2 c.sweep_names.ensures.leaves)

pub returns-clause-whole : goal.returns-clause-whole
returns-clause-whole g c = whole_then g.D.Disk.tells _ _ _ (looks_whole g.D.Disk.tells _ _ _ c.requires.has.1.known.three c.in_ok-removable.ensures.looks) c.sweep_names.ensures.whole

pub returns-clause-copied : goal.returns-clause-copied
returns-clause-copied g c =
    let looks = c.find_swept.ensures.looks in
    names_then c.args.copied.now g.D.Disk.tells _ _ _ (read_names c.args.copied.now g.D.Disk.tells _ _ looks.limbo looks.reads.files looks.opened looks.reads.any_moment) c.sweep_names.ensures.copied

pub returns-clause-same : goal.returns-clause-same
returns-clause-same g c =
    let one = c.find_swept.ensures.same in
    let two = c.sweep_names.ensures.same in
    (two.0 ∙ one.0, two.1 ∙ one.1, two.2 ∙ one.2)

pub returns-clause-sweeps : goal.returns-clause-sweeps
returns-clause-sweeps g c =
    let faults = g.D.Disk.faults in
    let mid = c.find_swept.new.self in
    let new = c.sweep_names.new.self in
    let before = seen_all g.D.Disk c.args.self.now in
    let after = seen_all g.D.Disk new in
    let looked = c.find_swept.ensures.same in
    let pins = c.args.self.now.pinned in
    let copied = c.args.copied.now in
    let swept = c.sweep_names.result in
    let same = returns-clause-same g c in
    let lists = ap (λ v. v.items) same.1 in
    let was = c.requires.has.1.settled in
    let counted = subst (λ (l : List Retired). IsSwept after.stores pins copied l new.limbo.items swept.files) (ap (λ v. v.items) looked.3)
    (subst (λ (p : FinMap nat_cmp PinOf). IsSwept after.stores p copied mid.limbo.items new.limbo.items swept.files) looked.2 c.sweep_names.ensures.swept) in
    let gone = λ (tells : IsTrue g.D.Disk.tells). subst (λ (l : List Retired). OnOk swept.removed (AreGone after.stores pins copied l)) (ap (λ v. v.items) looked.3)
    (subst (λ (p : FinMap nat_cmp PinOf). OnOk swept.removed (AreGone after.stores p copied mid.limbo.items)) looked.2 (c.sweep_names.ensures.gone tells)) in
    record {
      counted = counted;
      gone = gone;
      cause = λ failed. rose_after (faults c.args.self.now.disk) (faults mid.disk) (faults new.disk) c.find_swept.ensures.looks.reads.faults (c.sweep_names.ensures.cause failed);
      settled = record { catalogue = ap (λ s. s.journal.sound) same.0 ∙ was.catalogue; manifests = subst (λ (ms : List ManifestState). AtEach ms (λ i m. m.journal.sound ≡ true)) (sym lists) was.manifests };
      tidy = λ fine. swept_strays g.D.Disk.tells before after pins copied swept.files (λ tells. g.met.D.Disk.seen new.disk tells) same.0 lists counted
          (λ tells. subst (λ (r : Result (Unit {0}) DiskErr). OnOk r (AreGone after.stores pins copied before.limbo)) fine (gone tells)) (returns-clause-leaves g c);
    }
