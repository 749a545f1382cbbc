use Rattle.std.proofs.Common.{rules, ◌≡◌, ◌⊎◌, Bool, true, false, cond, sym, subst}
use Rattle.std.proofs.lemmas.Result.{err_from_is_err_and}
use Rattle.gate_journal.specs.DiskShown.{shown_by}
use Rattle.store_manifest.specs.Batches.{Configured}
use Rattle.store_manifest.specs.Listing.{entries_of, next_of}
use Rattle.store_manifest.specs.Manifest.{ManifestState, IsKept}
use Rattle.store_manifest.proofs.Committing.{review_kept, review_moment}
use Rattle.store_manifest.proofs.manifest.Manifest.review.Goals as goal
use Rattle.store_manifest.proofs.manifest.Manifest.review.Goals.{else-branch-via-then-branch+else-of_commit, else-branch-via-else-branch}

pub review-requires-clause-in_doubt : goal.review-requires-clause-in_doubt
review-requires-clause-in_doubt g c tells = let u = rw (← c.self.view_is) at (c.requires.doubt tells) in (u.before, u.after, u.undecided)

pub returns-in_err-review-clause-reviews : goal.returns-in_err-review-clause-reviews
returns-in_err-review-clause-reviews g c tells = record {
  kept = search rules;
  doubtful =
      let u = rw (← c.self.view_is) at (c.requires.doubt tells) in
      let p = err_from_is_err_and c.from_residual.result c.from_residual.ensures.1 in
      let Q : Bool → Type 0 = λ b. Configured c.self.inside.granularity u.after (cond b (next_of c.self.inside.listing) (entries_of c.self.inside.listing.lists.listed.entries)) in
      rw p.1 (record { before = u.before; after = u.after; undecided = (c.in_err-review.ensures.reviews tells u.before u.after u.undecided).doubtful; means = u.means; means_after = subst Q (sym c.in_err-review.ensures.still.1) u.means_after });
  any_moment = rw (← c.self.view_is) (
      let u = rw (← c.self.view_is) at (c.requires.doubt tells) in
      review_moment _ _ u.before u.after _ _ _ _ _ u.means u.means_after (c.review.ensures.reviews tells u.before u.after u.undecided).any_moment
      );
  elsewhere = rw (← c.self.view_is) (let u = rw (← c.self.view_is) at (c.requires.doubt tells) in (c.review.ensures.reviews tells u.before u.after u.undecided).elsewhere);
  opened = rw (← c.self.view_is) (let u = rw (← c.self.view_is) at (c.requires.doubt tells) in (c.review.ensures.reviews tells u.before u.after u.undecided).opened);
}

pub returns-then-of_commit-clause-reviews : goal.returns-then-of_commit-clause-reviews
returns-then-of_commit-clause-reviews g c tells = record {
  kept = search rules;
  doubtful = tt;
  any_moment = rw (← c.self.view_is) (
      let u = rw (← c.self.view_is) at (c.requires.doubt tells) in
      review_moment _ _ u.before u.after _ _ _ _ _ u.means u.means_after (c.review.ensures.reviews tells u.before u.after u.undecided).any_moment
      );
  elsewhere = rw (← c.self.view_is) (let u = rw (← c.self.view_is) at (c.requires.doubt tells) in (c.review.ensures.reviews tells u.before u.after u.undecided).elsewhere);
  opened = rw (← c.self.view_is) (let u = rw (← c.self.view_is) at (c.requires.doubt tells) in (c.review.ensures.reviews tells u.before u.after u.undecided).opened);
}

pub returns-else-branch-clause-reviews : goal.returns-else-branch-clause-reviews
returns-else-branch-clause-reviews g c tells = record {
  kept =
      let u = rw (← c.self.view_is) at (c.requires.doubt tells) in
      let after : ManifestState = record { journal = c.review.new.self; granularity = c.self.inside.granularity; entries = entries_of c.self.inside.listing.lists.listed.entries; next = next_of c.self.inside.listing } in
      let is : c.else-branch.self ≡ after = elim c.else-branch.branch [ else-branch-via-then-branch+else-of_commit w ↦ w.self-is | else-branch-via-else-branch w ↦ w.self-is ] in
      let which : ((c.in_ok-review.field-0 ≡ true) × (c.is_commit_open-of_commit.result ≡ false)) ⊎ (c.in_ok-review.field-0 ≡ false) = c.else-branch.either in
      let Q : Bool → Type 0 = λ b. Configured after.granularity u.after (cond b after.next after.entries) in
      let R : ManifestState → Type 0 = λ m. IsKept m (shown_by g.D.Disk c.review.new.disk) in
      subst R (sym is) (review_kept after.granularity c.is_commit_open-of_commit.result c.in_ok-review.field-0 after.journal (shown_by g.D.Disk c.review.new.disk) u.before u.after after.entries after.next u.means
      (subst Q (sym c.is_commit_open-of_commit.ensures) u.means_after) (c.in_ok-review.ensures.reviews tells u.before u.after u.undecided).made (c.in_ok-review.ensures.reviews tells u.before u.after u.undecided).unmade which);
  doubtful = tt;
  any_moment = rw (← c.self.view_is) (
      let u = rw (← c.self.view_is) at (c.requires.doubt tells) in
      review_moment _ _ u.before u.after _ _ _ _ _ u.means u.means_after (c.review.ensures.reviews tells u.before u.after u.undecided).any_moment
      );
  elsewhere = rw (← c.self.view_is) (let u = rw (← c.self.view_is) at (c.requires.doubt tells) in (c.review.ensures.reviews tells u.before u.after u.undecided).elsewhere);
  opened = rw (← c.self.view_is) (let u = rw (← c.self.view_is) at (c.requires.doubt tells) in (c.review.ensures.reviews tells u.before u.after u.undecided).opened);
}

pub returns-in_err-review-clause-one_file : goal.returns-in_err-review-clause-one_file
returns-in_err-review-clause-one_file g c = rw (← c.self.view_is) (λ tells. c.review.ensures.one_file tells)

pub returns-in_err-review-clause-quiet : goal.returns-in_err-review-clause-quiet
returns-in_err-review-clause-quiet g c = rw (← c.self.view_is) c.review.ensures.quiet

pub returns-else-branch-clause-one_file : goal.returns-else-branch-clause-one_file
returns-else-branch-clause-one_file g c = rw (← c.self.view_is) (λ tells. c.review.ensures.one_file tells)

pub returns-else-branch-clause-quiet : goal.returns-else-branch-clause-quiet
returns-else-branch-clause-quiet g c = rw (← c.self.view_is) c.review.ensures.quiet

pub returns-then-of_commit-clause-one_file : goal.returns-then-of_commit-clause-one_file
returns-then-of_commit-clause-one_file g c = rw (← c.self.view_is) (λ tells. c.review.ensures.one_file tells)

pub returns-then-of_commit-clause-quiet : goal.returns-then-of_commit-clause-quiet
returns-then-of_commit-clause-quiet g c = rw (← c.self.view_is) c.review.ensures.quiet
