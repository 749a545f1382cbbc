use Rattle.std.proofs.Common.{◌≡◌, true, false, length, Ok, sym, ◌∙◌, ap, arith}
use Rattle.std.proofs.lemmas.Result.{err_from_is_err_and}
use Rattle.gate_journal.specs.DiskShown.{shown_by}
use Rattle.store_manifest.specs.Batches.{whole}
use Rattle.store_manifest.proofs.Committing.{whole_commits, nothing_configured}
use Rattle.store_manifest.proofs.WholeBatch.{whole_length, long_so, so_long}
use Rattle.store_manifest.proofs.manifest.Manifest.shorten.Goals as goal

pub checkpoint-requires-clause-not_empty : goal.checkpoint-requires-clause-not_empty
checkpoint-requires-clause-not_empty g c =
    let size = ap length (c.deref.ensures.value ∙ c.in_ok-encode_whole.ensures) ∙ whole_length c.self.inside.granularity c.all-2.result in omega (arith, size)

pub checkpoint-requires-clause-not_long : goal.checkpoint-requires-clause-not_long
checkpoint-requires-clause-not_long g c =
    let size = ap length (c.deref.ensures.value ∙ c.in_ok-encode_whole.ensures) ∙ whole_length c.self.inside.granularity c.all-2.result in
    let is_long = c.is_long.ensures.0 c.if-not-is_long.false in
    let small = is_long.1 in
    let same = ap length (c.all-2.ensures ∙ sym c.all.ensures) in omega (arith, size, small, same)

pub returns-clause-commits : goal.returns-clause-commits
returns-clause-commits g c =
    let kept = rw (← c.self.view_is) at c.requires.kept in
    rw (← c.self.view_is) (λ tells.
    let k = kept tells in
    whole_commits c.self.inside.granularity k.batches _ _ c.deref.result.now (c.deref.ensures.value ∙ c.in_ok-encode_whole.ensures ∙ ap (λ l. whole c.self.inside.granularity l) c.all-2.ensures) k.means c.self.inside.journal
    c.checkpoint.new.self c.checkpoint.result (shown_by g.D.Disk c.args.disk.now) (shown_by g.D.Disk c.checkpoint.new.disk) c.checkpoint.ensures.of_checkpoint (c.checkpoint.ensures.commits tells k.batches k.settled))

pub returns-then-not-is_long-clause-commits : goal.returns-then-not-is_long-clause-commits
returns-then-not-is_long-clause-commits g c =
    let kept = rw (← c.self.view_is) at c.requires.kept in
    rw (← c.self.view_is) (λ tells. nothing_configured c.self.inside.granularity c.self.inside.journal _ _ _ (Ok tt) (shown_by g.D.Disk c.args.disk.now) (kept tells) (kept tells) (λ fault. cc fault))

pub returns-in_err-encode_whole-clause-commits : goal.returns-in_err-encode_whole-clause-commits
returns-in_err-encode_whole-clause-commits g c =
    let kept = rw (← c.self.view_is) at c.requires.kept in
    let p = err_from_is_err_and c.from_residual.result c.from_residual.ensures.1 in
    rw (← c.self.view_is) (λ tells. nothing_configured c.self.inside.granularity c.self.inside.journal _ _ _ c.from_residual.result (shown_by g.D.Disk c.args.disk.now) (kept tells) (kept tells) (λ fault. cc (p.1, p.2, fault)))

pub returns-then-not-is_long-clause-begun : goal.returns-then-not-is_long-clause-begun
returns-then-not-is_long-clause-begun g c =
    rw (← c.self.view_is) (λ long.
    let yes : c.is_long.result ≡ true = c.is_long.ensures.1 (long_so c.self.inside.granularity _ c.all.result c.len.result c.self.inside.journal.current.place c.all.ensures c.len.ensures long) in
    let no : c.is_long.result ≡ false = c.if-not-is_long.true in absurd (cc (yes, no)))

pub returns-clause-grown : goal.returns-clause-grown
returns-clause-grown g c = rw (← c.self.view_is) (λ not_long. absurd (not_long (so_long c.self.inside.granularity _ c.all.result c.len.result c.self.inside.journal.current.place c.all.ensures c.len.ensures (c.is_long.ensures.0 c.if-not-is_long.false))))

pub returns-clause-untouched : goal.returns-clause-untouched
returns-clause-untouched g c = rw (← c.self.view_is) (λ not_long. absurd (not_long (so_long c.self.inside.granularity _ c.all.result c.len.result c.self.inside.journal.current.place c.all.ensures c.len.ensures (c.is_long.ensures.0 c.if-not-is_long.false))))

pub returns-in_err-encode_whole-clause-untouched : goal.returns-in_err-encode_whole-clause-untouched
returns-in_err-encode_whole-clause-untouched g c = rw (← c.self.view_is) (λ not_long. absurd (not_long (so_long c.self.inside.granularity _ c.all.result c.len.result c.self.inside.journal.current.place c.all.ensures c.len.ensures (c.is_long.ensures.0 c.if-not-is_long.false))))
