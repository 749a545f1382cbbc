use Rattle.std.proofs.Common.{Ok, Err, List, ◌+◌, ◌∙◌, ap, subst, sym}
use Rattle.std.proofs.lemmas.Result.{err_from_is_err_and}
use Rattle.std.specs.Prelude.{IsTrue}
use Rattle.disk_model.specs.declared.disk.DiskErr.{DiskErr}
use Rattle.durable_write.specs.Flush.{put_all}
use Rattle.durable_write.specs.Held.{Filed}
use Rattle.tier_store.specs.Change.{Has}
use Rattle.tier_store.specs.Copying.{CopiesAmong, CopiesBeside, SaysCopied, SaysNext, StepsOn}
use Rattle.tier_store.specs.Pinned.{seen_all}
use Rattle.tier_store.specs.Reviving.{AreBack}
use Rattle.tier_store.specs.Seen.{IsSettled, seen}
use Rattle.tier_store.specs.Stores.{Stores, list_at}
use Rattle.tier_store.specs.Strays.{MakesNoStray, targets}
use Rattle.tier_store.specs.declared.copying.CopyEnd.TheVariants as ends
use Rattle.tier_store.specs.declared.limbo.Retired.{Retired}
use Rattle.tier_store.proofs.CopyLimbo.{are_back, back_of}
use Rattle.tier_store.proofs.CopySteps.{damaged_same, err_says, look_then_leaves, look_then_steps, looks_ends, looks_err, looks_held, looks_leave, looks_stands, moves_passed, moves_then, on_err, on_err_then, on_ok, says_ended, says_from, stays_changes, whole_read}
use Rattle.tier_store.proofs.CopyParts.{passes_then}
use Rattle.tier_store.proofs.Strays.{copied_strays, ok_then, targets_same, targets_then}
use Rattle.tier_store.proofs.store.TierStore.copy.Goals.{After-copy_left, In_ok-next}
use Rattle.tier_store.proofs.store.TierStore.copy.Goals as goal

pub pass_parts-requires-clause-runs : goal.pass_parts-requires-clause-runs
pass_parts-requires-clause-runs g c = let runs = c.requires.runs in (runs.0, runs.2, runs.3, runs.4.0)

pub copy_left-requires-clause-runs : goal.copy_left-requires-clause-runs
copy_left-requires-clause-runs g c =
    let runs = c.requires.runs in
    let said = subst (SaysNext c.args.place g.D.Disk.tells _ c.pass_parts.new.moving runs.0 runs.2) c.in-Line.is (c.in_ok-next.ensures.finds runs.0 runs.2 runs.3 runs.4.0).0 in
    (runs.0, runs.1, runs.2, c.in_ok-next.ensures.looks.kept runs.2 runs.3, (said.0, whole_read (c.args.place + 1) g.D.Disk.tells _ _ _ runs.2.stands runs.1 c.in_ok-next.ensures.looks runs.4.1), said.1)

pub copy_left-requires-clause-stands : goal.copy_left-requires-clause-stands
copy_left-requires-clause-stands g c = looks_stands g.D.Disk.tells _ _ _ c.in_ok-next.ensures.looks c.requires.stands

-- AFTER AN ERROR OF THE LOOK

pub returns-in_err-next-clause-copies : goal.returns-in_err-next-clause-copies
returns-in_err-next-clause-copies g c files retired held has among =
    let p = err_from_is_err_and c.from_residual.result c.from_residual.ensures.1 in
    let both = err_says _ _ c.from_residual.result _ (p.1 ∙ ap (λ (x : DiskErr). Err x) p.2) (c.in_err-next.ensures.finds files held has among.0).1 in
    (c.pass_parts.ensures.looks.kept held has, both.0, both.1)

pub returns-in_err-next-clause-rest : goal.returns-in_err-next-clause-rest
returns-in_err-next-clause-rest g c =
    let p = err_from_is_err_and c.from_residual.result c.from_residual.ensures.1 in
    looks_leave g.D.Disk.tells _ _ c.args.moving.now _ c.requires.runs.3.known.three (looks_err g.D.Disk.tells _ _ c.pass_parts.result c.from_residual.result _ (c.in_err-next.was ∙ ap (λ (x : DiskErr). Err x) (sym p.2)) p.1 c.pass_parts.ensures.looks)

pub returns-in_err-next-clause-changes : goal.returns-in_err-next-clause-changes
returns-in_err-next-clause-changes g c files retired = stays_changes g.D.Disk.tells _ _ _ c.from_residual.result (λ held has among. looks_held g.D.Disk.tells _ _ _ held c.pass_parts.ensures.looks has) (returns-in_err-next-clause-rest g c).costs

pub returns-in_err-next-clause-same : goal.returns-in_err-next-clause-same
returns-in_err-next-clause-same g c = (c.pass_parts.ensures.looks.catalogue, c.pass_parts.ensures.same.0, c.pass_parts.ensures.same.1)

pub returns-in_err-next-clause-moves_on : goal.returns-in_err-next-clause-moves_on
returns-in_err-next-clause-moves_on g c = moves_passed c.args.moving.now c.pass_parts.new.moving c.pass_parts.ensures.passes

pub returns-in_err-next-clause-passes : goal.returns-in_err-next-clause-passes
returns-in_err-next-clause-passes g c = on_err _ c.from_residual.result c.pass_parts.ensures.passes

-- A LINE IS LEFT

step : (g : _) (c : After-copy_left g) (files retired : List Filed) (held : Stores) → Has g.D.Disk.tells (seen g.D.Disk c.args.self.now) held → CopiesAmong c.args.place g.D.Disk.tells (seen_all g.D.Disk c.args.self.now) retired c.args.moving.now files held
    → StepsOn g.D.Disk.tells (seen g.D.Disk c.args.self.now) (seen g.D.Disk c.copy_left.new.self) held (SaysCopied 1_048_576 c.args.place g.D.Disk.tells (seen_all g.D.Disk c.copy_left.new.self) retired c.pass_parts.new.moving c.copy_left.new.moving files held)
    (CopiesBeside c.args.place g.D.Disk.tells (seen_all g.D.Disk c.copy_left.new.self) c.copy_left.new.moving files held) c.copy_left.result
step g c files retired held has among =
    let looks = c.in_ok-next.ensures.looks in
    let said = subst (SaysNext c.args.place g.D.Disk.tells _ c.pass_parts.new.moving files held) c.in-Line.is (c.in_ok-next.ensures.finds files held has among.0).0 in
    look_then_steps g.D.Disk.tells _ _ _ _ held _ _ _ looks has (c.copy_left.ensures.copies files retired held (looks.kept held has) (said.0, whole_read (c.args.place + 1) g.D.Disk.tells _ _ _ held.stands retired looks among.1) said.1)

pub returns-in-Line-clause-copies : goal.returns-in-Line-clause-copies
returns-in-Line-clause-copies g c files retired held has among =
    let on = step g (goal.at.returns-in-Line-clause-copies g c).After-copy_left files retired held has among in
    (on.stays.0, on_ok c.copy_left.result on.says (λ end says. says_from c.args.place c.args.moving.now c.pass_parts.new.moving files held c.in_ok-next.ensures.passes 1_048_576 g.D.Disk.tells _ retired c.copy_left.new.moving end says), on.still)

pub returns-in-Line-clause-rest : goal.returns-in-Line-clause-rest
returns-in-Line-clause-rest g c = look_then_leaves g.D.Disk.tells _ _ _ c.args.moving.now c.pass_parts.new.moving _ _ c.in_ok-next.ensures.passes c.requires.runs.3.known.three c.in_ok-next.ensures.looks c.copy_left.ensures.rest

pub returns-in-Line-clause-changes : goal.returns-in-Line-clause-changes
returns-in-Line-clause-changes g c files retired = stays_changes g.D.Disk.tells _ _ _ c.copy_left.result (λ held has among. (step g (goal.at.returns-in-Line-clause-changes g c).After-copy_left files retired held has among).stays) (returns-in-Line-clause-rest g c).costs

pub returns-in-Line-clause-same : goal.returns-in-Line-clause-same
returns-in-Line-clause-same g c =
    let same = c.in_ok-next.ensures.same in
    (c.copy_left.ensures.same.0 ∙ c.in_ok-next.ensures.looks.catalogue, c.copy_left.ensures.same.1 ∙ same.0, c.copy_left.ensures.same.2 ∙ same.1)

pub returns-in-Line-clause-moves_on : goal.returns-in-Line-clause-moves_on
returns-in-Line-clause-moves_on g c = moves_then c.args.moving.now c.pass_parts.new.moving c.copy_left.new.moving c.in_ok-next.ensures.passes c.copy_left.ensures.moves_on

pub returns-in-Line-clause-passes : goal.returns-in-Line-clause-passes
returns-in-Line-clause-passes g c = on_err_then c.copy_left.result c.copy_left.ensures.passes (λ passes. passes_then c.args.moving.now c.pass_parts.new.moving c.copy_left.new.moving c.in_ok-next.ensures.passes passes)

pub returns-in-Line-clause-tidy : goal.returns-in-Line-clause-tidy
returns-in-Line-clause-tidy g c =
    let disk = g.D.Disk in
    let self = c.args.self.now in
    let move = c.args.moving.now in
    let mid = c.pass_parts.new.moving in
    let was = c.requires.runs in
    let now = (returns-in-Line-clause-copies g c was.0 was.1 was.2 was.3 was.4).0 in
    let passed = λ (tells : IsTrue disk.tells). targets_same move mid (disk.files self.disk) (disk.files c.pass_parts.new.self.disk) (ap targets c.in_ok-next.ensures.passes.is) (c.in_ok-next.ensures.looks.reads.files tells) in
    ok_then c.copy_left.result _ _ (λ writes. (now.settled, copied_strays disk.tells _ _ move c.copy_left.new.moving was.2 (ap (λ v. v.items) (returns-in-Line-clause-same g c).2) was.3 now (λ tells. targets_then move mid c.copy_left.new.moving _ _ _ (passed tells) (writes tells)))) c.copy_left.ensures.targets

-- NONE IS LEFT, OR ONE IS DAMAGED

pub returns-in-End-clause-copies : goal.returns-in-End-clause-copies
returns-in-End-clause-copies g c files retired held has among =
    let all = seen_all g.D.Disk c.args.self.now in
    let back = back_of g.D.Disk.tells all c.args.place c.args.moving.now files held has among.0.runs among.0.last c.requires.stands retired among.1 in
    let are = are_back g.D.Disk.tells all c.args.place c.args.moving.now files held has among.0.runs among.0.last c.requires.stands retired among.1 in
    let said = subst (SaysNext c.args.place g.D.Disk.tells _ c.pass_parts.new.moving files held) c.in-End.is (c.in_ok-next.ensures.finds files held has among.0).0 in (
      c.in_ok-next.ensures.looks.kept held has,
      says_ended c.args.place c.args.moving.now c.pass_parts.new.moving files held c.in_ok-next.ensures.passes 1_048_576 g.D.Disk.tells _ retired back
          (subst (λ (l : List Retired). AreBack (c.args.place + 1) l retired (put_all (list_at (c.args.place + 1) held) files) back) (sym c.in_ok-next.ensures.looks.limbo) are) said,
      tt,
    )

pub returns-in-End-clause-rest : goal.returns-in-End-clause-rest
returns-in-End-clause-rest g c = looks_leave g.D.Disk.tells _ _ c.args.moving.now _ c.requires.runs.3.known.three (looks_ends g.D.Disk.tells _ _ _ _ (λ failed. failed) c.in_ok-next.ensures.looks)

pub returns-in-End-clause-changes : goal.returns-in-End-clause-changes
returns-in-End-clause-changes g c files retired = stays_changes g.D.Disk.tells _ _ _ (Ok ends.Copied) (λ held has among. looks_held g.D.Disk.tells _ _ _ held c.in_ok-next.ensures.looks has) (returns-in-End-clause-rest g c).costs

pub returns-in-End-clause-same : goal.returns-in-End-clause-same
returns-in-End-clause-same g c = (c.in_ok-next.ensures.looks.catalogue, c.in_ok-next.ensures.same.0, c.in_ok-next.ensures.same.1)

pub returns-in-End-clause-moves_on : goal.returns-in-End-clause-moves_on
returns-in-End-clause-moves_on g c = moves_passed c.args.moving.now c.pass_parts.new.moving c.in_ok-next.ensures.passes

pub returns-in-Damaged-clause-copies : goal.returns-in-Damaged-clause-copies
returns-in-Damaged-clause-copies g c files retired held has among =
    let said = subst (SaysNext c.args.place g.D.Disk.tells _ c.pass_parts.new.moving files held) c.in-Damaged.is (c.in_ok-next.ensures.finds files held has among.0).0 in
    (c.in_ok-next.ensures.looks.kept held has, damaged_same c.args.place c.args.moving.now c.pass_parts.new.moving files held c.in_ok-next.ensures.passes g.D.Disk.tells _ c.in-Damaged.name c.in-Damaged.at said, tt)

pub returns-in-Damaged-clause-rest : goal.returns-in-Damaged-clause-rest
returns-in-Damaged-clause-rest g c = looks_leave g.D.Disk.tells _ _ c.args.moving.now _ c.requires.runs.3.known.three (looks_ends g.D.Disk.tells _ _ _ _ (λ failed. failed) c.in_ok-next.ensures.looks)

pub returns-in-Damaged-clause-changes : goal.returns-in-Damaged-clause-changes
returns-in-Damaged-clause-changes g c files retired = stays_changes g.D.Disk.tells _ _ _ (Ok (ends.Damaged c.in-Damaged.name c.in-Damaged.at)) (λ held has among. looks_held g.D.Disk.tells _ _ _ held c.in_ok-next.ensures.looks has) (returns-in-Damaged-clause-rest g c).costs

pub returns-in-Damaged-clause-same : goal.returns-in-Damaged-clause-same
returns-in-Damaged-clause-same g c = (c.in_ok-next.ensures.looks.catalogue, c.in_ok-next.ensures.same.0, c.in_ok-next.ensures.same.1)

pub returns-in-Damaged-clause-moves_on : goal.returns-in-Damaged-clause-moves_on
returns-in-Damaged-clause-moves_on g c = moves_passed c.args.moving.now c.pass_parts.new.moving c.in_ok-next.ensures.passes

passed_tidy : (g : _) (c : In_ok-next g) → IsSettled (seen g.D.Disk c.pass_parts.new.self) × MakesNoStray g.D.Disk.tells (seen_all g.D.Disk c.args.self.now) (targets c.args.moving.now) (seen_all g.D.Disk c.pass_parts.new.self) (targets c.pass_parts.new.moving)
passed_tidy g c =
    let disk = g.D.Disk in
    let move = c.args.moving.now in
    let mid = c.pass_parts.new.moving in
    let was = c.requires.runs in
    let looks = c.in_ok-next.ensures.looks in
    let now = looks.kept was.2 was.3 in
    (now.settled, copied_strays disk.tells _ _ move mid was.2 looks.limbo was.3 now (λ tells. targets_same move mid _ _ (ap targets c.in_ok-next.ensures.passes.is) (looks.reads.files tells)))

pub returns-in-End-clause-tidy : goal.returns-in-End-clause-tidy
returns-in-End-clause-tidy g c = passed_tidy g (goal.at.returns-in-End-clause-tidy g c).In_ok-next

pub returns-in-Damaged-clause-tidy : goal.returns-in-Damaged-clause-tidy
returns-in-Damaged-clause-tidy g c = passed_tidy g (goal.at.returns-in-Damaged-clause-tidy g c).In_ok-next
