use Rattle.std.proofs.Common.{◌≡◌, ℕ, ◌+◌, sym, ◌∙◌, ap, subst, List, length, Ok, Err}
use Rattle.std.proofs.lemmas.Result.{on_ok_weaker, err_from_is_err_and}
use Rattle.disk_model.specs.declared.disk.DiskErr.{DiskErr}
use Rattle.gate_journal.specs.Kept as journal
use Rattle.gate_journal.specs.DiskShown.{shown_by}
use Rattle.store_manifest.specs.declared.entry.Entry.{Entry}
use Rattle.store_manifest.specs.Batches.{batch_of, whole, Configured}
use Rattle.store_manifest.specs.Entries.{all_changed}
use Rattle.store_manifest.specs.Listing.{entries_of, next_of}
use Rattle.store_manifest.specs.Manifest.{IsLong, CommitsEntries}
use Rattle.store_manifest.proofs.Committing.{nothing_configured, commits_folds, short_commits, both_commits, stays_short, some_from_test}
use Rattle.store_manifest.proofs.manifest.Manifest.commit.Goals as goal

pub shorten-requires-clause-kept : goal.shorten-requires-clause-kept
shorten-requires-clause-kept g c tells =
    let kept = rw (← c.self.view_is) at c.requires.kept in
    let P : List Entry → Type 0 = λ l. journal.IsKept (Configured c.self.inside.granularity) c.self.inside.journal (shown_by g.D.Disk c.args.disk.now) l in
    subst P (sym c.in_ok-prepare.ensures.entries) (kept tells)

pub add-requires-clause-sound : goal.add-requires-clause-sound
add-requires-clause-sound g c = c.in_ok-shorten.ensures.sound (λ failed. cc failed)

pub add-requires-clause-some : goal.add-requires-clause-some
add-requires-clause-some g c = some_from_test c.args.changes.now (sym c.is_empty.ensures ∙ c.if-is_empty.false)

pub add-requires-clause-prepared : goal.add-requires-clause-prepared
add-requires-clause-prepared g c =
    c.shorten.ensures.state.3 ∙ c.in_ok-prepare.ensures.next ∙ ap (λ (l : List Entry). all_changed l c.args.changes.now) (sym (c.shorten.ensures.state.2 ∙ c.in_ok-prepare.ensures.entries))

pub add-requires-clause-kept : goal.add-requires-clause-kept
add-requires-clause-kept g c tells = (c.in_ok-shorten.ensures.commits tells).made

pub returns-clause-gate : goal.returns-clause-gate
returns-clause-gate g c =
    rw (← c.self.view_is) (λ some.
    let same = c.in_ok-prepare.ensures.entries in
    let P : List Entry → Type 0 = λ l. IsLong (c.self.inside.journal.current.place + 1) (length (whole c.self.inside.granularity l)) → c.shorten.new.self.journal.current.place ≡ length (whole c.self.inside.granularity l) + 5 in
    let Q : List Entry → Type 0 = λ l. (IsLong (c.self.inside.journal.current.place + 1) (length (whole c.self.inside.granularity l)) → ⊥) → c.shorten.new.self.journal.current.place ≡ c.self.inside.journal.current.place in
    let begun = subst P same c.in_ok-shorten.ensures.begun in
    let grown = subst Q same c.in_ok-shorten.ensures.grown in
    let size = length (whole c.self.inside.granularity (entries_of c.self.inside.listing.lists.listed.entries)) in
    let added = length (batch_of c.args.changes.now) in
    on_ok_weaker c.add.result (λ placed.
    record {
      begun = λ long. placed ∙ ap (λ (n : ℕ). n + (5 + added)) (begun long);
      grown = λ not_long. placed ∙ ap (λ (n : ℕ). n + (5 + added)) (grown not_long);
      short = λ small. stays_short c.self.inside.journal.current.place c.add.new.self.journal.current.place size added small (λ long. placed ∙ ap (λ (n : ℕ). n + (5 + added)) (begun long)) (λ not_long. placed ∙ ap (λ (n : ℕ). n + (5 + added)) (grown not_long));
    }) c.add.ensures.placed)

pub returns-then-is_empty-clause-commits : goal.returns-then-is_empty-clause-commits
returns-then-is_empty-clause-commits g c tells =
    let was = c.args.self.now in
    let at = shown_by g.D.Disk c.args.disk.now in
    commits_folds was.granularity was.journal was.entries was _ (Ok tt) at at (nothing_configured was.granularity was.journal was.entries was _ (Ok tt) at (c.requires.kept tells) (c.requires.kept tells) (λ fault. cc fault))

pub returns-in_err-prepare-clause-commits : goal.returns-in_err-prepare-clause-commits
returns-in_err-prepare-clause-commits g c =
    let kept = rw (← c.self.view_is) at c.requires.kept in
    let p = err_from_is_err_and c.from_residual.result c.from_residual.ensures.1 in
    let Kept : List Entry → Type 0 = λ l. journal.IsKept (Configured c.self.inside.granularity) c.self.inside.journal (shown_by g.D.Disk c.args.disk.now) l in
    let at = shown_by g.D.Disk c.args.disk.now in
    rw (← c.self.view_is) (λ tells. commits_folds c.self.inside.granularity c.self.inside.journal _ _ _ c.from_residual.result at at
    (nothing_configured c.self.inside.granularity c.self.inside.journal _ _ _ c.from_residual.result at (kept tells) (subst Kept (sym c.prepare.ensures.entries) (kept tells)) (λ fault. cc (p.1, p.2, fault))))

pub returns-in_err-shorten-clause-commits : goal.returns-in_err-shorten-clause-commits
returns-in_err-shorten-clause-commits g c =
    let p = err_from_is_err_and c.from_residual-in_err-shorten.result c.from_residual-in_err-shorten.ensures.1 in
    let Entries : List Entry → Type 0 =
    λ l. CommitsEntries Configured l c.shorten.result (record { journal = c.self.inside.journal; granularity = c.self.inside.granularity; entries = l; next = next_of c.prepare.new.self })
    c.shorten.new.self (shown_by g.D.Disk c.args.disk.now) (shown_by g.D.Disk c.shorten.new.disk) in
    rw (← c.self.view_is) (λ tells. commits_folds c.self.inside.granularity c.self.inside.journal _ _ _ c.from_residual-in_err-shorten.result (shown_by g.D.Disk c.args.disk.now) (shown_by g.D.Disk c.shorten.new.disk)
    (short_commits (record { journal = c.self.inside.journal; granularity = c.self.inside.granularity; entries = entries_of c.self.inside.listing.lists.listed.entries; next = next_of c.self.inside.listing })
    (all_changed (entries_of c.self.inside.listing.lists.listed.entries) c.args.changes.now) (next_of c.prepare.new.self) c.shorten.new.self (shown_by g.D.Disk c.args.disk.now) (shown_by g.D.Disk c.shorten.new.disk) c.shorten.result
    (subst Entries c.in_ok-prepare.ensures.entries (c.shorten.ensures.commits tells))
    c.from_residual-in_err-shorten.result _ p.1 (c.in_err-shorten.was ∙ ap (λ (e : DiskErr). Err e) (sym p.2))))

pub returns-clause-commits : goal.returns-clause-commits
returns-clause-commits g c =
    let state = c.shorten.ensures.state in
    let Entries : List Entry → Type 0 =
    λ l. CommitsEntries Configured l c.shorten.result (record { journal = c.self.inside.journal; granularity = c.self.inside.granularity; entries = l; next = next_of c.prepare.new.self })
    c.shorten.new.self (shown_by g.D.Disk c.args.disk.now) (shown_by g.D.Disk c.shorten.new.disk) in
    rw (← c.self.view_is) (λ tells. commits_folds c.self.inside.granularity c.self.inside.journal _ _ _ c.add.result (shown_by g.D.Disk c.args.disk.now) (shown_by g.D.Disk c.add.new.disk)
    (both_commits (record { journal = c.self.inside.journal; granularity = c.self.inside.granularity; entries = entries_of c.self.inside.listing.lists.listed.entries; next = next_of c.self.inside.listing })
    (all_changed (entries_of c.self.inside.listing.lists.listed.entries) c.args.changes.now) (next_of c.prepare.new.self) c.shorten.new.self (shown_by g.D.Disk c.args.disk.now) (shown_by g.D.Disk c.shorten.new.disk) c.shorten.result
    (subst Entries c.in_ok-prepare.ensures.entries (c.shorten.ensures.commits tells))
    c.add.result c.add.new.self (shown_by g.D.Disk c.add.new.disk) state.0 state.1 (state.2 ∙ c.in_ok-prepare.ensures.entries) (state.3 ∙ c.in_ok-prepare.ensures.next) (c.add.ensures.commits tells)))

pub returns-in_err-shorten-clause-untouched : goal.returns-in_err-shorten-clause-untouched
returns-in_err-shorten-clause-untouched g c =
    rw (← c.self.view_is) (λ memory not_long.
    let Q : List Entry → Type 0 = λ l. (IsLong (c.self.inside.journal.current.place + 1) (length (whole c.self.inside.granularity l)) → ⊥) → c.shorten.result ≡ Ok tt in
    let done = subst Q c.in_ok-prepare.ensures.entries (λ not. (c.shorten.ensures.untouched not).0) not_long in
    let failed = c.in_err-shorten.was in absurd (cc (done, failed)))

pub returns-clause-untouched : goal.returns-clause-untouched
returns-clause-untouched g c =
    rw (← c.self.view_is) (λ memory not_long.
    let Q : List Entry → Type 0 = λ l. (IsLong (c.self.inside.journal.current.place + 1) (length (whole c.self.inside.granularity l)) → ⊥) → (c.shorten.new.self.journal ≡ c.self.inside.journal) × (c.shorten.new.disk ≡ c.args.disk.now) in
    let same = subst Q c.in_ok-prepare.ensures.entries (λ not. let all = c.shorten.ensures.untouched not in (all.1, all.2)) not_long in
    let left = c.add.ensures.memory memory in (left.0 ∙ same.0, left.1 ∙ same.1))
