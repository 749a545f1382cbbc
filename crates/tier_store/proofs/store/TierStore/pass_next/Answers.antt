use Rattle.std.proofs.Common.{Err, None, ◌∙◌, ap, sym, arith}
use Rattle.std.proofs.lemmas.Result.{err_from_is_err_and}
use Rattle.disk_model.specs.declared.disk.DiskErr.{DiskErr}
use Rattle.gate_journal.specs.DiskShown.{shown_by}
use Rattle.etl_mover.specs.Move.{Moving}
use Rattle.tier_store.specs.Pinned.{beside}
use Rattle.tier_store.specs.Seen.{granularities, seen_on}
use Rattle.tier_store.proofs.CopySteps.{copies_on, copies_or_on, err_says, looks_ends, looks_err}
use Rattle.tier_store.proofs.CopyParts.{further, low, next_part, damaged_part, line_left, part_passed, passes_finished, passes_none}
use Rattle.tier_store.proofs.store.TierStore.pass_next.Goals as goal

pub part_lines-requires-clause-runs : goal.part_lines-requires-clause-runs
part_lines-requires-clause-runs g c =
    let runs = c.requires.runs in
    (None, runs.0, runs.1, runs.2, further c.args.place g.D.Disk.tells _ c.args.moving.now runs.0 runs.1 runs.3)

pub pass-requires-clause-running : goal.pass-requires-clause-running
pass-requires-clause-running g c = let runs = c.requires.runs.3.runs in (runs.fine, runs.running)

pub pass-requires-clause-left : goal.pass-requires-clause-left
pass-requires-clause-left g c = c.requires.runs.3.left

pub returns-in_err-part-clause-finds : goal.returns-in_err-part-clause-finds
returns-in_err-part-clause-finds g c files held has is =
    let p = err_from_is_err_and c.from_residual.result c.from_residual.ensures.1 in
    let looks = c.part_lines.ensures.looks in
    err_says _ _ c.from_residual.result _ (p.1 ∙ ap (λ (x : DiskErr). Err x) p.2) (copies_on c.args.place g.D.Disk.tells _ _ c.args.moving.now files held (ap granularities looks.manifests) looks.leaves is)

pub returns-in_err-part-clause-passes : goal.returns-in_err-part-clause-passes
returns-in_err-part-clause-passes g c = passes_none c.args.moving.now

pub returns-in_err-part-clause-further : goal.returns-in_err-part-clause-further
returns-in_err-part-clause-further g c is =
    let p = err_from_is_err_and c.from_residual.result c.from_residual.ensures.1 in
    absurd (cc (p.1 ∙ ap (λ (x : DiskErr). Err x) p.2, is))

pub returns-in_err-part-clause-looks : goal.returns-in_err-part-clause-looks
returns-in_err-part-clause-looks g c =
    let p = err_from_is_err_and c.from_residual.result c.from_residual.ensures.1 in
    looks_err g.D.Disk.tells _ _ c.part_lines.result c.from_residual.result _ (c.in_err-part.was ∙ ap (λ (x : DiskErr). Err x) (sym p.2)) p.1 c.part_lines.ensures.looks

pub returns-in-Damaged-clause-finds : goal.returns-in-Damaged-clause-finds
returns-in-Damaged-clause-finds g c files held has is = (damaged_part c.args.place g.D.Disk.tells _ c.args.moving.now held c.in_ok-part.part c.in-Damaged.at (low g.D.Disk.tells _ c.args.place c.args.moving.now files held has (further c.args.place g.D.Disk.tells _ c.args.moving.now files held is)) c.in-Damaged.is (c.in_ok-part.ensures.finds None files held c.last_moment-last.ensures has (further c.args.place g.D.Disk.tells _ c.args.moving.now files held is)), tt)

pub returns-in-Damaged-clause-passes : goal.returns-in-Damaged-clause-passes
returns-in-Damaged-clause-passes g c = passes_none c.args.moving.now

pub returns-in-Damaged-clause-looks : goal.returns-in-Damaged-clause-looks
returns-in-Damaged-clause-looks g c = looks_ends g.D.Disk.tells _ _ _ _ (λ failed. failed) c.in_ok-part.ensures.looks

pub returns-then-at-part-clause-finds : goal.returns-then-at-part-clause-finds
returns-then-at-part-clause-finds g c files held has is =
    let looks = c.in_ok-part.ensures.looks in (
      (
        copies_on c.args.place g.D.Disk.tells _ _ c.args.moving.now files held (ap granularities looks.manifests) looks.leaves is,
        line_left c.args.place g.D.Disk.tells _ c.args.moving.now held c.in_ok-part.part c.in-At.at c.in-At.is c.if-at-part.true (c.in_ok-part.ensures.finds None files held c.last_moment-last.ensures has (further c.args.place g.D.Disk.tells _ c.args.moving.now files held is)),
      ),
      tt,
    )

pub returns-then-at-part-clause-passes : goal.returns-then-at-part-clause-passes
returns-then-at-part-clause-passes g c = passes_none c.args.moving.now

pub returns-then-at-part-clause-looks : goal.returns-then-at-part-clause-looks
returns-then-at-part-clause-looks g c = looks_ends g.D.Disk.tells _ _ _ _ (λ failed. failed) c.in_ok-part.ensures.looks

pub returns-else-at-part-clause-finds : goal.returns-else-at-part-clause-finds
returns-else-at-part-clause-finds g c files held has is =
    let disk = g.D.Disk in
    let self = c.args.self.now in
    let old = beside (seen_on (shown_by disk) disk.faults self.catalogue self.manifests.items self.disk) self.limbo.items in
    let looks = c.in_ok-part.ensures.looks in
    let move = c.args.moving.now in
    let part = next_part disk.tells old c.args.place move files held has (further c.args.place disk.tells old move files held is) in (
      copies_or_on c.args.place disk.tells old _ c.pass.new.self files held (ap granularities looks.manifests) looks.leaves
          (part_passed disk.tells old c.args.place move c.pass.new.self files held has is part.0 part.1 c.in_ok-part.part c.in-At.at c.in-At.is (λ low. absurd (omega (arith, low, c.if-at-part.false))) (c.in_ok-part.ensures.finds None files held c.last_moment-last.ensures has (further c.args.place g.D.Disk.tells _ c.args.moving.now files held is))
          (c.pass.ensures.passed part.0 part.1) (c.pass.ensures.running is.runs.fine is.runs.running)),
      tt,
    )

pub returns-else-at-part-clause-passes : goal.returns-else-at-part-clause-passes
returns-else-at-part-clause-passes g c =
    let disk = g.D.Disk in
    let self = c.args.self.now in
    let runs = c.requires.runs in
    let old = beside (seen_on (shown_by disk) disk.faults self.catalogue self.manifests.items self.disk) self.limbo.items in
    let part = next_part disk.tells old c.args.place c.args.moving.now runs.0 runs.1 runs.2 (further c.args.place disk.tells old c.args.moving.now runs.0 runs.1 runs.3) in
    passes_finished c.args.moving.now c.pass.new.self part.0 c.in_ok-part.part.len (c.pass.ensures.passed part.0 part.1)

pub returns-else-at-part-clause-further : goal.returns-else-at-part-clause-further
returns-else-at-part-clause-further g c is =
    let disk = g.D.Disk in
    let self = c.args.self.now in
    let runs = c.requires.runs in
    let old = beside (seen_on (shown_by disk) disk.faults self.catalogue self.manifests.items self.disk) self.limbo.items in
    let part = next_part disk.tells old c.args.place c.args.moving.now runs.0 runs.1 runs.2 (further c.args.place disk.tells old c.args.moving.now runs.0 runs.1 runs.3) in
    ap (λ (x : Moving). x.at) (c.pass.ensures.passed part.0 part.1)

pub returns-else-at-part-clause-looks : goal.returns-else-at-part-clause-looks
returns-else-at-part-clause-looks g c = looks_ends g.D.Disk.tells _ _ _ _ (λ failed. failed) c.in_ok-part.ensures.looks
