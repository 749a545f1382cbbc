use Rattle.std.proofs.Common.{◌≡◌, ℕ, List, ◌+◌, ◌<◌, length, refl, sym, ◌∙◌, ap, subst, arith}
use Rattle.std.specs.Prelude.{IfOk, IsTrue, OnErr, OnOk, Result, nat_eq}
use Rattle.std.proofs.lemmas.Bool.{eqb-true}
use Rattle.std.proofs.lemmas.List.{length-map}
use Rattle.disk_model.specs.declared.disk.DiskErr.{DiskErr}
use Rattle.etl_mover.specs.Move.{Moving, of_series, part_file}
use Rattle.durable_write.specs.Ends.{end_of_disk}
use Rattle.durable_write.specs.Held.{Filed}
use Rattle.tier_store.specs.Change.{Has}
use Rattle.tier_store.specs.Copying.{CopiesAmong, CopiesFurther, CopyLeaves, FindsLine, HasLater, HasLine, SaysLines, SaysPart}
use Rattle.tier_store.specs.Pinned.{seen_all}
use Rattle.tier_store.specs.Reviving.{AreCovered, reviving}
use Rattle.tier_store.specs.Seen.{seen}
use Rattle.tier_store.specs.Stores.{Stores}
use Rattle.tier_store.specs.Strays.{WritesTargets, targets}
use Rattle.tier_store.specs.declared.copying.CopyEnd.{CopyEnd}
use Rattle.tier_store.proofs.CopyCovered.{turn_mid, went_back}
use Rattle.tier_store.proofs.CopyParts.{further, next_never, source}
use Rattle.tier_store.proofs.CopySteps.{part_from, passed_leaves, Turn, has_line, line_later}
use Rattle.tier_store.proofs.Strays.{targets_same, targets_then}
use Rattle.tier_store.proofs.store.TierStore.copy_part.Goals.{After-kept_line-found}
use Rattle.tier_store.proofs.store.TierStore.copy_part.Goals as goal

pub manifest-requires-clause-last : goal.manifest-requires-clause-last
manifest-requires-clause-last g c = let three = c.requires.runs.3.known.three in omega (arith, three, c.requires.within)

pub pass_to-requires-clause-runs : goal.pass_to-requires-clause-runs
pass_to-requires-clause-runs g c = let runs = c.requires.runs in (runs.0, runs.2, runs.3, further c.args.place g.D.Disk.tells _ c.args.moving.now runs.0 runs.2 runs.4.0)

pub pass_to-requires-clause-low : goal.pass_to-requires-clause-low
pass_to-requires-clause-low g c =
    let runs = c.requires.runs in
    let own = source g.D.Disk.tells _ c.args.place c.args.moving.now runs.0 runs.2 runs.3 (further c.args.place g.D.Disk.tells _ c.args.moving.now runs.0 runs.2 runs.4.0) in
    (c.requires.covered own.0 own.1).low

pub unreachable-requires : goal.unreachable-requires
unreachable-requires g c =
    let runs = c.requires.runs in
    let is = c.pass_to.ensures.further runs.0 runs.2 runs.3 (further c.args.place g.D.Disk.tells _ c.args.moving.now runs.0 runs.2 runs.4.0) in
    next_never g.D.Disk.tells _ c.args.place c.pass_to.new.moving runs.0 runs.2 runs.3 is c.manifest.result.now (c.manifest.ensures c.args.place refl) c.next_entry.result c.next_entry.ensures c.in_default.is

-- the n-th part, with the file in limbo in which its lines go on
turn_n : (g : _) (c : After-kept_line-found g) (files retired : List Filed) (held : Stores) → Has g.D.Disk.tells (seen g.D.Disk c.args.self.now) held → CopiesAmong c.args.place g.D.Disk.tells (seen_all g.D.Disk c.args.self.now) retired c.args.moving.now files held
    → FindsLine c.args.place g.D.Disk.tells (g.D.Disk.files c.args.self.now.disk) c.args.moving.now held c.args.line.name c.args.line.at c.args.line.len → Turn g.D.Disk.tells (seen_all g.D.Disk c.args.self.now) c.args.place c.pass_to.new.moving files retired held c.revival-revived.result 1_048_576
turn_n g c files retired held has among line =
    let tells = g.D.Disk.tells in
    let self = c.args.self.now in
    let move = c.args.moving.now in
    let mid = c.pass_to.new.moving in
    let all = seen_all g.D.Disk self in
    let is = further c.args.place tells all move files held among.0 in
    let here = c.manifest.ensures c.args.place refl in
    let covered = subst (AreCovered self.limbo.items (c.args.place + 2) move (of_series move.series c.manifest.result.now.entries) move.at) (sym c.pass_to.ensures.at) (c.requires.covered c.manifest.result.now here) in
    let long = ap length among.0.runs.running.files ∙ length-map move.parts (part_file move.source move.name) in
    let low : mid.at < length move.files = omega (arith, long, c.requires.high, c.pass_to.ensures.at) in
    turn_mid tells all c.args.place move mid files held has among.0 (c.pass_to.ensures.further files held has is) c.pass_to.ensures.passes c.requires.stands retired among.1 c.manifest.result.now here covered
    1_048_576 low (line_later tells all c.args.place move files held has is c.args.line.name c.args.line.at c.args.line.len line) c.next_entry.result c.next_entry.ensures c.in-Some.part c.in-Some.is c.revival-revived.result c.revival-revived.ensures

-- and its line
line_n : (g : _) (c : After-kept_line-found g) (held : Stores) → FindsLine c.args.place g.D.Disk.tells (g.D.Disk.files c.args.self.now.disk) c.args.moving.now held c.args.line.name c.args.line.at c.args.line.len → (IsTrue held.stands → HasLater c.args.place (reviving c.pass_to.new.moving c.revival-revived.result) held)
    → HasLine c.args.place g.D.Disk.tells (g.D.Disk.files c.args.self.now.disk) (reviving c.pass_to.new.moving c.revival-revived.result) held c.kept_line-found.result
line_n g c held line later =
    has_line c.args.place g.D.Disk.tells (g.D.Disk.files c.args.self.now.disk) c.args.moving.now c.pass_to.new.moving held c.args.line (nat_eq c.args.n c.copied_parts-first.result) c.revival-revived.result c.kept_line-found.result c.pass_to.ensures.passes
    (λ own. c.pass_to.ensures.at ∙ (eqb-true c.args.n c.copied_parts-first.result own ∙ c.copied_parts-first.ensures)) c.kept_line-found.ensures line later

pub copy_at-requires-clause-runs : goal.copy_at-requires-clause-runs
copy_at-requires-clause-runs g c =
    let runs = c.requires.runs in
    let before = (goal.at.copy_at-requires-clause-runs g c).After-kept_line-found in
    let t = turn_n g before runs.0 runs.1 runs.2 runs.3 runs.4 runs.5 in
    (t.those, runs.2, runs.3, t.further, line_n g before runs.2 runs.5 t.later)

pub copy_at-requires-clause-goes : goal.copy_at-requires-clause-goes
copy_at-requires-clause-goes g c = let runs = c.requires.runs in (turn_n g (goal.at.copy_at-requires-clause-goes g c).After-kept_line-found runs.0 runs.1 runs.2 runs.3 runs.4 runs.5).goes

pub go_back-requires : goal.go_back-requires
go_back-requires g c =
    let runs = c.requires.runs in
    let own = source g.D.Disk.tells _ c.args.place c.args.moving.now runs.0 runs.2 runs.3 (further c.args.place g.D.Disk.tells _ c.args.moving.now runs.0 runs.2 runs.4.0) in
    let low = (c.requires.covered own.0 own.1).low in
    let same : c.copy_at.new.moving ≡ c.pass_to.new.moving = subst (λ (r : Result CopyEnd DiskErr). OnErr r (c.copy_at.new.moving ≡ c.pass_to.new.moving)) c.in-Err.is c.copy_at.ensures.unchanged in
    let at = ap (λ (x : Moving). x.at) same in
    omega (arith, at, low, c.pass_to.ensures.at, c.copied_parts-first.ensures)

pub returns-in-Ok-clause-copies : goal.returns-in-Ok-clause-copies
returns-in-Ok-clause-copies g c files retired held has among line =
    let tells = g.D.Disk.tells in
    let mid = c.pass_to.new.moving in
    let before = (goal.at.returns-in-Ok-clause-copies g c).After-kept_line-found in
    let t = turn_n g before files retired held has among line in
    let step = c.copy_at.ensures.copies t.those held has t.further (line_n g before held line t.later) in
    let new = seen_all g.D.Disk c.copy_at.new.self in
    let said = subst (λ (r : Result CopyEnd DiskErr). IfOk r (SaysLines 1_048_576 c.args.place tells new (reviving mid c.revival-revived.result) c.copy_at.new.moving t.those held)) c.in-Ok.is step.says in
    let part = t.says new c.copy_at.new.moving c.in-Ok.end (ap (λ l. l.items) c.copy_at.ensures.same.2) said in
    record {
      stays = step.stays;
      says = part_from c.args.place c.args.moving.now mid files held c.pass_to.ensures.passes 1_048_576 tells new c.args.n retired c.copy_at.new.moving c.in-Ok.end
          (subst (λ (k : ℕ). SaysPart 1_048_576 c.args.place tells new k retired mid c.copy_at.new.moving files held c.in-Ok.end) c.pass_to.ensures.at part);
      still = tt;
    }

pub returns-in-Ok-clause-rest : goal.returns-in-Ok-clause-rest
returns-in-Ok-clause-rest g c = passed_leaves g.D.Disk.tells _ _ c.args.moving.now c.pass_to.new.moving _ c.pass_to.ensures.passes
    (subst (λ (r : Result CopyEnd DiskErr). CopyLeaves c.pass_to.new.moving g.D.Disk.tells (seen_all g.D.Disk c.args.self.now) (seen_all g.D.Disk c.copy_at.new.self) (end_of_disk r)) c.in-Ok.is c.copy_at.ensures.rest)

pub returns-in-Ok-clause-targets : goal.returns-in-Ok-clause-targets
returns-in-Ok-clause-targets g c tells =
    let files = g.D.Disk.files in
    let move = c.args.moving.now in
    let mid = c.pass_to.new.moving in
    let writes = subst (λ (r : Result CopyEnd DiskErr). OnOk r (IsTrue g.D.Disk.tells → WritesTargets mid c.copy_at.new.moving (files c.args.self.now.disk) (files c.copy_at.new.self.disk))) c.in-Ok.is c.copy_at.ensures.targets in
    targets_then move mid c.copy_at.new.moving _ _ _ (targets_same move mid _ _ (ap targets c.pass_to.ensures.passes.is) refl) (writes tells)

pub returns-in-Err-clause-copies : goal.returns-in-Err-clause-copies
returns-in-Err-clause-copies g c files retired held has among line =
    let tells = g.D.Disk.tells in
    let move = c.args.moving.now in
    let mid = c.pass_to.new.moving in
    let before = (goal.at.returns-in-Err-clause-copies g c).After-kept_line-found in
    let t = turn_n g before files retired held has among line in
    let step = c.copy_at.ensures.copies t.those held has t.further (line_n g before held line t.later) in
    let new = seen_all g.D.Disk c.copy_at.new.self in
    let then = subst (λ (r : Result CopyEnd DiskErr). OnErr r (CopiesFurther c.args.place tells new (reviving mid c.revival-revived.result) t.those held)) c.in-Err.is step.still in
    let same : c.copy_at.new.moving ≡ mid = subst (λ (r : Result CopyEnd DiskErr). OnErr r (c.copy_at.new.moving ≡ mid)) c.in-Err.is c.copy_at.ensures.unchanged in
    let back = c.go_back.ensures ∙ (ap (λ (x : Moving). record x { at = c.copied_parts-first.result }) same ∙ ap (λ (k : ℕ). record mid { at = k }) c.copied_parts-first.ensures) in
    record {
      stays = step.stays;
      says = tt;
      still = went_back c.args.place tells (seen_all g.D.Disk c.args.self.now) new move mid c.go_back.new.self files held back c.pass_to.ensures.passes c.pass_to.ensures.fronts c.pass_to.ensures.parts among.0
          (t.back new c.copy_at.ensures.rest.costs.granularity (ap (λ l. l.items) c.copy_at.ensures.same.2) then);
    }

pub returns-in-Err-clause-rest : goal.returns-in-Err-clause-rest
returns-in-Err-clause-rest g c = passed_leaves g.D.Disk.tells _ _ c.args.moving.now c.pass_to.new.moving _ c.pass_to.ensures.passes
    (subst (λ (r : Result CopyEnd DiskErr). CopyLeaves c.pass_to.new.moving g.D.Disk.tells (seen_all g.D.Disk c.args.self.now) (seen_all g.D.Disk c.copy_at.new.self) (end_of_disk r)) c.in-Err.is c.copy_at.ensures.rest)

pub returns-in-Err-clause-one : goal.returns-in-Err-clause-one
returns-in-Err-clause-one g c =
    let runs = c.requires.runs in
    let own = source g.D.Disk.tells _ c.args.place c.args.moving.now runs.0 runs.2 runs.3 (further c.args.place g.D.Disk.tells _ c.args.moving.now runs.0 runs.2 runs.4.0) in
    let low = (c.requires.covered own.0 own.1).low in
    let at = ap (λ (x : Moving). x.at) c.go_back.ensures in
    omega (arith, low, at, c.copied_parts-first.ensures)
