use Rattle.std.proofs.Common.{Err, List, refl, ◌∙◌, ap, subst, sym}
use Rattle.std.proofs.lemmas.Result.{err_from_is_err_and}
use Rattle.disk_model.specs.declared.disk.DiskErr.{DiskErr}
use Rattle.durable_write.specs.Held.{Filed}
use Rattle.tier_store.specs.Change.{Has}
use Rattle.tier_store.specs.Copying.{CopiesFurther, HasLine, SaysLine}
use Rattle.tier_store.specs.Pinned.{seen_all}
use Rattle.tier_store.specs.Reviving.{reviving}
use Rattle.tier_store.specs.Seen.{granularities, seen}
use Rattle.tier_store.specs.Stores.{Stores}
use Rattle.tier_store.proofs.CopySteps.{err_says, further_on, look_then_leaves, look_then_steps, looks_ends, looks_err, looks_held, looks_leave, looks_stands}
use Rattle.tier_store.proofs.CopyParts.{low, q_filed, next_part, passes_none, says_line}
use Rattle.tier_store.proofs.Strays.{ok_then, targets_same, targets_then}
use Rattle.tier_store.proofs.store.TierStore.copy_at.Goals.{After-line_of}
use Rattle.tier_store.proofs.store.TierStore.copy_at.Goals as goal

pub copy_lines-requires-clause-runs : goal.copy_lines-requires-clause-runs
copy_lines-requires-clause-runs g c =
    let runs = c.requires.runs in
    (runs.0, runs.1, runs.2, runs.3, subst (HasLine c.args.place g.D.Disk.tells (g.D.Disk.files c.args.self.now.disk) (reviving c.args.moving.now c.args.revived) runs.1) c.in-Some.is runs.4)

pub returns-in-Some-clause-copies : goal.returns-in-Some-clause-copies
returns-in-Some-clause-copies g c files held has is line = c.copy_lines.ensures.copies files held has is (subst (HasLine c.args.place g.D.Disk.tells (g.D.Disk.files c.args.self.now.disk) (reviving c.args.moving.now c.args.revived) held) c.in-Some.is line)

pub part_lines-requires-clause-runs : goal.part_lines-requires-clause-runs
part_lines-requires-clause-runs g c = let runs = c.requires.runs in (c.args.revived, runs.0, runs.1, runs.2, runs.3)

pub returns-in_err-part-clause-copies : goal.returns-in_err-part-clause-copies
returns-in_err-part-clause-copies g c files held has is line =
    let p = err_from_is_err_and c.from_residual.result c.from_residual.ensures.1 in
    let looks = c.part_lines.ensures.looks in
    let both = err_says _ _ c.from_residual.result _ (p.1 ∙ ap (λ (x : DiskErr). Err x) p.2) (further_on c.args.place g.D.Disk.tells _ _ (reviving c.args.moving.now c.args.revived) files held (ap granularities looks.manifests) looks.leaves is) in
    record { stays = looks_held g.D.Disk.tells _ _ _ held looks has; says = both.0; still = both.1 }

pub returns-in_err-part-clause-rest : goal.returns-in_err-part-clause-rest
returns-in_err-part-clause-rest g c =
    let p = err_from_is_err_and c.from_residual.result c.from_residual.ensures.1 in
    looks_leave g.D.Disk.tells _ _ c.args.moving.now _ c.requires.runs.2.known.three (looks_err g.D.Disk.tells _ _ c.part_lines.result c.from_residual.result _ (c.in_err-part.was ∙ ap (λ (x : DiskErr). Err x) (sym p.2)) p.1 c.part_lines.ensures.looks)

-- the line that was found
found : (g : _) (c : After-line_of g) (files : List Filed) (held : Stores) → Has g.D.Disk.tells (seen g.D.Disk c.args.self.now) held → CopiesFurther c.args.place g.D.Disk.tells (seen_all g.D.Disk c.args.self.now) (reviving c.args.moving.now c.args.revived) files held
    → HasLine c.args.place g.D.Disk.tells (g.D.Disk.files c.args.self.now.disk) (reviving c.args.moving.now c.args.revived) held c.args.found → SaysLine c.args.place g.D.Disk.tells (g.D.Disk.files c.part_lines.new.self.disk) (reviving c.args.moving.now c.args.revived) held c.line_of.result
found g c files held has is line =
    let all = seen_all g.D.Disk c.args.self.now in
    let m = reviving c.args.moving.now c.args.revived in
    let later = subst (HasLine c.args.place g.D.Disk.tells (g.D.Disk.files c.args.self.now.disk) m held) c.in_default.is line in
    let next = next_part g.D.Disk.tells all c.args.place m files held has is in
    says_line c.args.place g.D.Disk.tells _ m held c.in_ok-part.part (low g.D.Disk.tells all c.args.place m files held has is) later is.runs.fine (λ stands q q_next. q_filed g.D.Disk.tells all c.args.place m files held has is q q_next next.0 next.1 stands)
    (c.in_ok-part.ensures.finds c.args.revived files held c.moment_behind-last.ensures has is) _ (sym c.line_of.ensures)

pub copy_lines-requires-in-Line-clause-runs : goal.copy_lines-requires-in-Line-clause-runs
copy_lines-requires-in-Line-clause-runs g c =
    let runs = c.requires.runs in
    let looks = c.in_ok-part.ensures.looks in
    let m = reviving c.args.moving.now c.args.revived in
    let line = subst (SaysLine c.args.place g.D.Disk.tells (g.D.Disk.files c.part_lines.new.self.disk) m runs.1) c.in-Line.is (found g (goal.at.copy_lines-requires-in-Line-clause-runs g c).After-line_of runs.0 runs.1 runs.2 runs.3 runs.4) in
    (runs.0, runs.1, looks.kept runs.1 runs.2, further_on c.args.place g.D.Disk.tells _ _ m runs.0 runs.1 (ap granularities looks.manifests) looks.leaves runs.3, line)

pub copy_lines-requires-in-Line-clause-stands : goal.copy_lines-requires-in-Line-clause-stands
copy_lines-requires-in-Line-clause-stands g c = looks_stands g.D.Disk.tells _ _ _ c.in_ok-part.ensures.looks c.requires.stands

pub returns-in-Line-clause-copies : goal.returns-in-Line-clause-copies
returns-in-Line-clause-copies g c files held has is line =
    let looks = c.in_ok-part.ensures.looks in
    let m = reviving c.args.moving.now c.args.revived in
    let at = subst (SaysLine c.args.place g.D.Disk.tells (g.D.Disk.files c.part_lines.new.self.disk) m held) c.in-Line.is (found g (goal.at.returns-in-Line-clause-copies g c).After-line_of files held has is line) in
    look_then_steps g.D.Disk.tells _ _ _ _ held _ _ _ looks has (c.copy_lines-in-Line.ensures.copies files held (looks.kept held has) (further_on c.args.place g.D.Disk.tells _ _ m files held (ap granularities looks.manifests) looks.leaves is) at)

pub returns-in-Line-clause-rest : goal.returns-in-Line-clause-rest
returns-in-Line-clause-rest g c = look_then_leaves g.D.Disk.tells _ _ _ c.args.moving.now c.args.moving.now _ _ (passes_none c.args.moving.now) c.requires.runs.2.known.three c.in_ok-part.ensures.looks c.copy_lines-in-Line.ensures.rest

pub returns-in-Line-clause-same : goal.returns-in-Line-clause-same
returns-in-Line-clause-same g c =
    let same = c.in_ok-part.ensures.same in
    let then = c.copy_lines-in-Line.ensures.same in
    (then.0 ∙ c.in_ok-part.ensures.looks.catalogue, then.1 ∙ same.0, then.2 ∙ same.1)

pub returns-in-Line-clause-targets : goal.returns-in-Line-clause-targets
returns-in-Line-clause-targets g c =
    let files = g.D.Disk.files in
    let move = c.args.moving.now in
    let to = c.copy_lines-in-Line.new in
    ok_then c.copy_lines-in-Line.result _ _ (λ writes tells. targets_then move move to.moving (files c.args.self.now.disk) (files c.part_lines.new.self.disk) (files to.self.disk) (targets_same move move _ _ refl (c.in_ok-part.ensures.looks.reads.files tells)) (writes tells)) c.copy_lines-in-Line.ensures.targets

pub returns-in-Damaged-clause-copies : goal.returns-in-Damaged-clause-copies
returns-in-Damaged-clause-copies g c files held has is line = record {
  stays = looks_held g.D.Disk.tells _ _ _ held c.in_ok-part.ensures.looks has;
  says = subst (SaysLine c.args.place g.D.Disk.tells (g.D.Disk.files c.part_lines.new.self.disk) (reviving c.args.moving.now c.args.revived) held) c.in-Damaged.is (found g (goal.at.returns-in-Damaged-clause-copies g c).After-line_of files held has is line);
  still = tt;
}

pub returns-in-Damaged-clause-rest : goal.returns-in-Damaged-clause-rest
returns-in-Damaged-clause-rest g c = looks_leave g.D.Disk.tells _ _ c.args.moving.now _ c.requires.runs.2.known.three (looks_ends g.D.Disk.tells _ _ _ _ (λ failed. failed) c.in_ok-part.ensures.looks)

pub returns-in-Damaged-clause-targets : goal.returns-in-Damaged-clause-targets
returns-in-Damaged-clause-targets g c tells = targets_same c.args.moving.now c.args.moving.now _ _ refl (c.in_ok-part.ensures.looks.reads.files tells)

pub unreachable-requires : goal.unreachable-requires
unreachable-requires g c =
    let runs = c.requires.runs in
    absurd (subst (SaysLine c.args.place g.D.Disk.tells (g.D.Disk.files c.part_lines.new.self.disk) (reviving c.args.moving.now c.args.revived) runs.1) c.in-End.is (found g (goal.at.unreachable-requires g c).After-line_of runs.0 runs.1 runs.2 runs.3 runs.4))
