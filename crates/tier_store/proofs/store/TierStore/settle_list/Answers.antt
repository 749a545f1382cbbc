use Rattle.std.proofs.Common.{◌≡◌, Err, false, refl, sym, ◌∙◌, ap}
use Rattle.std.specs.Prelude.{IsTrue, Some, slice_get, slice_set}
use Rattle.std.proofs.lemmas.Result.{err_from_is_err_and}
use Rattle.disk_model.specs.declared.disk.DiskErr.{DiskErr}
use Rattle.disk_model.proofs.Passing.{passes_weaker}
use Rattle.gate_journal.specs.Generations.{AtOwn}
use Rattle.gate_journal.specs.Kept.{SaysEither}
use Rattle.gate_journal.specs.DiskShown.{shown_by}
use Rattle.gate_journal.proofs.Owning.{own_store}
use Rattle.store_manifest.specs.Batches.{Configured}
use Rattle.durable_write.proofs.Staying.{alone}
use Rattle.durable_write.proofs.Commits.{made_further, unsure_further}
use Rattle.disk_model.specs.Files.{Files, Rose}
use Rattle.durable_write.specs.Ends.{End, IsFailed}
use Rattle.tier_store.specs.Change.{OnlySettles, SameFiles}
use Rattle.tier_store.specs.Seen.{seen, seen_by}
use Rattle.tier_store.proofs.OnePlace.{failed_so}
use Rattle.tier_store.proofs.Places.{same_granularities, manifest_here}
use Rattle.tier_store.proofs.ListDoubts.{list_in_doubt, list_settled, list_open, list_moment, zero_named}
use Rattle.tier_store.proofs.RunningMoves.{commit_leaves}
use Rattle.tier_store.proofs.store.TierStore.settle_list.Goals.{After-index_mut, After-review}
use Rattle.tier_store.proofs.store.TierStore.settle_list.Goals as goal

here : (g : _) (c : After-index_mut g) → slice_get c.args.self.now.manifests.items c.args.i ≡ Some c.index_mut.result.now
here g c = manifest_here c.args.self.now.manifests.items c.args.i c.index_mut.result.now c.index_mut.ensures.value c.requires.within

unsound : (g : _) (c : After-index_mut g) → c.index_mut.result.now.journal.sound ≡ false
unsound g c = c.requires.unsound c.index_mut.result.now (here g c)

zero_store : (g : _) (c : After-index_mut g) → IsTrue g.D.Disk.tells → c.index_mut.result.now.journal.name.0 ≡ 0
zero_store g c tells = let was = c.requires.begun in zero_named g.D.Disk.tells (seen g.D.Disk c.args.self.now) was.0 was.1 c.args.i c.index_mut.result.now (here g c) was.2 tells

abbrev Says : (g : _) → After-index_mut g → Files → Files → Type 0
Says g c = SaysEither (Configured c.index_mut.result.now.granularity) c.index_mut.result.now.entries c.index_mut.result.now.next c.index_mut.result.now.journal.name

pub review-requires-clause-unsound : goal.review-requires-clause-unsound
review-requires-clause-unsound g c = unsound g (goal.at.review-requires-clause-unsound g c).After-index_mut

pub review-requires-clause-doubt : goal.review-requires-clause-doubt
review-requires-clause-doubt g c tells =
    let was = c.requires.begun in
    let at = (goal.at.review-requires-clause-doubt g c).After-index_mut in
    list_in_doubt g.D.Disk.tells _ was.0 was.1 c.args.i c.index_mut.result.now (here g at) was.2 (unsound g at) tells

pub returns-clause-opened : goal.returns-clause-opened
returns-clause-opened g c tells = made_further c.review.new.self c.index_mut.result.now.journal.name _ _ c.review.ensures.ends.name (c.review.ensures.reviews tells).opened (c.in_ok-review.ensures.reviews tells).kept

pub returns-in_err-review-clause-opened : goal.returns-in_err-review-clause-opened
returns-in_err-review-clause-opened g c tells = unsure_further c.review.new.self c.index_mut.result.now.journal.name _ _ c.review.ensures.ends.name (c.review.ensures.reviews tells).opened (c.in_err-review.ensures.reviews tells).doubtful

pub returns-clause-settled : goal.returns-clause-settled
returns-clause-settled g c before after was =
    let self = c.args.self.now in
    let at = (goal.at.returns-clause-settled g c).After-index_mut in
    let says = c.review.ensures in
    let settled = c.in_ok-review.ensures in
    list_settled (shown_by g.D.Disk) g.D.Disk.faults g.D.Disk.tells self.disk c.review.new.disk self.catalogue self.manifests.items before after c.args.i c.index_mut.result.now c.review.new.self (here g at) says.ends.granularity says.ends.name (λ tells. alone c.index_mut.result.now.journal.name (Says g at) _ _ (says.reviews tells).any_moment (says.reviews tells).elsewhere (returns-clause-opened g c tells))
    (unsound g at) settled.ends.sound was settled.ends.entries (λ tells. (settled.reviews tells).kept)

pub returns-in_err-review-clause-still : goal.returns-in_err-review-clause-still
returns-in_err-review-clause-still g c before after was =
    let self = c.args.self.now in
    let at = (goal.at.returns-in_err-review-clause-still g c).After-index_mut in
    let says = c.review.ensures in
    let still = c.in_err-review.ensures.ends.still in
    let p = err_from_is_err_and c.from_residual.result c.from_residual.ensures.1 in
    rw p.1 (list_open (shown_by g.D.Disk) g.D.Disk.faults g.D.Disk.tells self.disk c.review.new.disk self.catalogue self.manifests.items before after c.args.i c.index_mut.result.now c.review.new.self (here g at) says.ends.granularity says.ends.name (λ tells. alone c.index_mut.result.now.journal.name (Says g at) _ _ (says.reviews tells).any_moment (says.reviews tells).elsewhere (returns-in_err-review-clause-opened g c tells))
    (unsound g at) still.0 was still.1 still.2 (λ tells. (c.in_err-review.ensures.reviews tells).doubtful))

pub returns-clause-granularity : goal.returns-clause-granularity
returns-clause-granularity g c = same_granularities c.args.self.now.manifests.items c.args.i c.index_mut.result.now c.review.new.self (here g (goal.at.returns-clause-granularity g c).After-index_mut) c.review.ensures.ends.granularity

pub returns-in_err-review-clause-granularity : goal.returns-in_err-review-clause-granularity
returns-in_err-review-clause-granularity g c = same_granularities c.args.self.now.manifests.items c.args.i c.index_mut.result.now c.review.new.self (here g (goal.at.returns-in_err-review-clause-granularity g c).After-index_mut) c.review.ensures.ends.granularity

settles : (g : _) (c : After-review g) (end : End (Unit {0}) ⊥) → (IsFailed end → Rose (g.D.Disk.faults c.args.self.now.disk) (g.D.Disk.faults c.review.new.disk))
    → OnlySettles g.D.Disk.tells (seen g.D.Disk c.args.self.now) (seen_by g.D.Disk c.args.self.now.catalogue (slice_set c.args.self.now.manifests.items c.args.i c.review.new.self) c.review.new.disk) end
settles g c end cause =
    let m = c.index_mut.result.now in
    let journal = m.journal.name in
    let here = manifest_here c.args.self.now.manifests.items c.args.i m c.index_mut.ensures.value c.requires.within in
    let was = c.requires.begun in
    let not_sound = c.requires.unsound m here in
    let zero : IsTrue g.D.Disk.tells → journal.0 ≡ 0 = λ tells. zero_named g.D.Disk.tells (seen g.D.Disk c.args.self.now) was.0 was.1 c.args.i m here was.2 tells in
    let says = c.review.ensures in
    record {
      files = λ tells n other. (says.reviews tells).elsewhere n (λ own. other (own_store journal n own ∙ zero tells));
      frame = λ tells. passes_weaker (AtOwn journal (SaysEither (Configured m.granularity) m.entries m.next journal)) SameFiles _ _ (says.reviews tells).any_moment (λ a b left step n other. step.elsewhere n (λ own. other (own_store journal n own ∙ zero tells)));
      any_moment = λ tells before after begun. list_moment g.D.Disk.tells _ (g.D.Disk.past c.review.new.disk) before after c.args.i m here begun not_sound tells (says.reviews tells).any_moment;
      quiet = λ settled. let sound = settled.manifests c.args.i m here in absurd (cc (not_sound, sound));
      faults = says.faults;
      cause = cause;
    }

pub returns-clause-settles : goal.returns-clause-settles
returns-clause-settles g c = settles g (goal.at.returns-clause-settles g c).After-review _ (λ failed. absurd failed)

pub returns-in_err-review-clause-settles : goal.returns-in_err-review-clause-settles
returns-in_err-review-clause-settles g c =
    let p = err_from_is_err_and c.from_residual.result c.from_residual.ensures.1 in
    settles g (goal.at.returns-in_err-review-clause-settles g c).After-review _ (failed_so _ _ c.from_residual.result (λ is. c.review.ensures.cause (c.in_err-review.was ∙ sym (p.1 ∙ ap (λ (x : DiskErr). Err x) p.2) ∙ is)))

pub returns-clause-leaves : goal.returns-clause-leaves
returns-clause-leaves g c = commit_leaves g.D.Disk.tells _ _ c.index_mut.result.now.journal.name _ refl (zero_store g (goal.at.returns-clause-leaves g c).After-index_mut) (λ tells. (c.review.ensures.reviews tells).elsewhere) (returns-clause-opened g c) (λ tells. (c.review.ensures.reviews tells).any_moment)

pub returns-in_err-review-clause-leaves : goal.returns-in_err-review-clause-leaves
returns-in_err-review-clause-leaves g c = commit_leaves g.D.Disk.tells _ _ c.index_mut.result.now.journal.name _ refl (zero_store g (goal.at.returns-in_err-review-clause-leaves g c).After-index_mut) (λ tells. (c.review.ensures.reviews tells).elsewhere) (returns-in_err-review-clause-opened g c) (λ tells. (c.review.ensures.reviews tells).any_moment)
