use Rattle.std.proofs.Common.{◌∷◌, ◌++◌, [], ℕ, ◌+◌, refl, sym, ◌∙◌, ap, subst, Result, Ok, Err, List, length}
use Rattle.std.proofs.lemmas.Result.{err_from_is_err_and}
use Rattle.disk_model.specs.declared.disk.DiskErr.{DiskErr}
use Rattle.gate_journal.specs.Commits.{CommitsBatches}
use Rattle.gate_journal.specs.DiskShown.{shown_by}
use Rattle.store_manifest.proofs.Committing.{written_long, add_commits, nothing_configured}
use Rattle.store_manifest.proofs.manifest.Manifest.add.Goals as goal

pub commit-requires-clause-not_empty : goal.commit-requires-clause-not_empty
commit-requires-clause-not_empty g c = written_long c.args.changes.now c.deref.result.now (c.deref.ensures.value ∙ c.in_ok-encode.ensures.bytes) c.requires.some

pub returns-in_err-encode-clause-commits : goal.returns-in_err-encode-clause-commits
returns-in_err-encode-clause-commits g c =
    let kept = rw (← c.self.view_is) at c.requires.kept in
    let p = err_from_is_err_and c.from_residual.result c.from_residual.ensures.1 in
    rw (← c.self.view_is) (λ tells. nothing_configured c.self.inside.granularity c.self.inside.journal _ _ _ c.from_residual.result (shown_by g.D.Disk c.args.disk.now) (kept tells) (kept tells) (λ fault. cc (p.1, p.2, fault)))

pub returns-in_err-commit-clause-commits : goal.returns-in_err-commit-clause-commits
returns-in_err-commit-clause-commits g c =
    let kept = rw (← c.self.view_is) at c.requires.kept in
    let follow = rw (← c.self.view_is) at c.requires.follow in
    let prepared = rw (← c.self.view_is) at c.requires.prepared in
    let p = err_from_is_err_and c.from_residual-in_err-commit.result c.from_residual-in_err-commit.ensures.1 in
    rw (← c.self.view_is, p.1) (λ tells.
    let k = kept tells in
    let Batches : Result (Unit {0}) DiskErr → Type 0 =
    λ r. CommitsBatches k.batches (k.batches ++ c.deref.result.now ∷ []) r c.self.inside.journal c.commit.new.self (shown_by g.D.Disk c.args.disk.now) (shown_by g.D.Disk c.commit.new.disk) in
    add_commits _ k.batches _ c.args.changes.now c.deref.result.now (c.deref.ensures.value ∙ c.in_ok-encode.ensures.bytes) c.requires.some c.in_ok-encode.ensures.sizes follow k.means c.self.inside.journal c.commit.new.self _ _ _ _
    (shown_by g.D.Disk c.args.disk.now) (shown_by g.D.Disk c.commit.new.disk) prepared c.commit.ensures.of_commit tt (refl, refl) (subst Batches (c.in_err-commit.was ∙ ap (λ (e : DiskErr). Err e) (sym p.2)) (c.commit.ensures.commits tells k.batches k.settled)))

pub returns-clause-commits : goal.returns-clause-commits
returns-clause-commits g c =
    let kept = rw (← c.self.view_is) at c.requires.kept in
    let follow = rw (← c.self.view_is) at c.requires.follow in
    let prepared = rw (← c.self.view_is) at c.requires.prepared in
    rw (← c.self.view_is) (λ tells.
    let k = kept tells in
    let Batches : Result (Unit {0}) DiskErr → Type 0 =
    λ r. CommitsBatches k.batches (k.batches ++ c.deref.result.now ∷ []) r c.self.inside.journal c.commit.new.self (shown_by g.D.Disk c.args.disk.now) (shown_by g.D.Disk c.commit.new.disk) in
    add_commits _ k.batches _ c.args.changes.now c.deref.result.now (c.deref.ensures.value ∙ c.in_ok-encode.ensures.bytes) c.requires.some c.in_ok-encode.ensures.sizes follow k.means c.self.inside.journal c.commit.new.self _ _ _ (Ok tt)
    (shown_by g.D.Disk c.args.disk.now) (shown_by g.D.Disk c.commit.new.disk) prepared c.commit.ensures.of_commit c.take.ensures.entries tt (subst Batches c.in_ok-commit.was (c.commit.ensures.commits tells k.batches k.settled)))

pub returns-clause-placed : goal.returns-clause-placed
returns-clause-placed g c = rw (← c.self.view_is) (c.in_ok-commit.ensures.placed ∙ ap (λ (l : List ℕ). c.self.inside.journal.current.place + (5 + length l)) (c.deref.ensures.value ∙ c.in_ok-encode.ensures.bytes))
