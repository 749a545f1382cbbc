use Rattle.std.proofs.Common.{◌≡◌, ◌-◌, ◌*◌, inr, true, false, [], ℕ, List, length, refl, sym, ◌∙◌, ap, subst, arith, append-nil}
use Rattle.std.proofs.lemmas.Result.{err_from_is_err_and}
use Rattle.std.proofs.lemmas.List.{length-map}
use Rattle.std.specs.Prelude.{All, IsTrue, Vec}
use Rattle.std.specs.declared.alloc.Global.{Global}
use Rattle.disk_model.specs.declared.disk.Disk.{Ghosts}
use Rattle.found_files.specs.Reading.{OnlyReads}
use Rattle.pv_catalog.specs.Catalogue.{CatalogueState}
use Rattle.pv_catalog.specs.declared.row.Row.{Row}
use Rattle.store_manifest.specs.Manifest.{ManifestState}
use Rattle.store_reopen.specs.Adoption.{GetRows, TakesTurns, place_of, row_of}
use Rattle.store_reopen.specs.Finding.{AreUnlistedOf, IsOfPlace}
use Rattle.store_reopen.specs.Listing.{AtEachTurn, turns_of}
use Rattle.store_reopen.specs.Runs.{Goes, Stops}
use Rattle.store_reopen.specs.Reopen.{ChangesJournals, loaded}
use Rattle.store_reopen.specs.Steps.{MakesSteps, Step, made_by}
use Rattle.store_reopen.specs.Turns.{AreNumbers, TakesOf, all_taken}
use Rattle.store_reopen.specs.declared.finding.TakenFile.{TakenFile}
use Rattle.store_reopen.specs.declared.finding.Unlisted.{Unlisted}
use Rattle.store_reopen.proofs.Swept.{journals_same, spares_read, spares_then}
use Rattle.store_reopen.proofs.Counts.{turns_few, counted, turns_are, turns_have_parts, turns_may, turns_unopened, may_later}
use Rattle.store_reopen.proofs.Stages.{all_of, all_unopened, followed, gets, left_between, left_lists, left_rows, none_later, rows_had, steps_read}
use Rattle.store_reopen.proofs.Having.{count_of}
use Rattle.store_reopen.proofs.adopting.adopt_found.Goals as goal

-- the disk was read alone
reads : {D R : Type 0} (disk : Ghosts D R) (cat : CatalogueState) (ms : List ManifestState) (old mid : D) → OnlyReads disk old mid → MakesSteps true disk.tells [] (loaded disk cat ms old) (loaded disk cat ms mid)
reads disk cat ms old mid r = steps_read disk cat ms old mid r.files r.opened r.any_moment r.faults

-- and then journals alone were changed
spared : {D R : Type 0} (disk : Ghosts D R) (old mid made : D) → OnlyReads disk old mid → (IsTrue disk.tells → ChangesJournals disk mid made) → IsTrue disk.tells → ChangesJournals disk old made
spared disk old mid made r more tells = spares_then disk old mid made (spares_read disk old mid (r.files tells) (r.opened tells) (r.any_moment tells)) (more tells)

-- what is taken in each turn
taken_of : (l ms : List ManifestState) (rows : List Row) (xs : List Unlisted) (vs ws : List (Vec TakenFile Global)) → l ≡ ms → ws ≡ vs → AtEachTurn (λ turn taken. TakesOf l rows turn xs taken) (turns_of vs) → AtEachTurn (λ turn taken. TakesOf ms rows turn xs taken) (turns_of ws)
taken_of l ms rows xs vs ws is same takes =
    subst (λ (us : List (Vec TakenFile Global)). AtEachTurn (λ turn taken. TakesOf ms rows turn xs taken) (turns_of us)) (sym same) (subst (λ (k : List ManifestState). AtEachTurn (λ turn taken. TakesOf k rows turn xs taken) (turns_of vs)) is takes)

pub register_all-requires-clause-has : goal.register_all-requires-clause-has
register_all-requires-clause-has g c tells =
    let was = c.requires.has tells in
    (c.args.manifests.now.items, was.0, (reads g.D.Disk c.args.catalogue.now c.args.manifests.now.items c.args.disk.now c.find_unlisted.new.disk c.find_unlisted.ensures.read).ends was.0 was.1)

pub returns-in_err-register_all-clause-leaves_off : goal.returns-in_err-register_all-clause-leaves_off
returns-in_err-register_all-clause-leaves_off g c tells gs image held of_gs same has =
    let disk = g.D.Disk in
    let cat = c.args.catalogue.now in
    let ms = c.args.manifests.now.items in
    let old = c.args.disk.now in
    let mid = c.find_unlisted.new.disk in
    let xs = c.in_ok-unlisted.unlisted.items in
    let read = reads disk cat ms old mid c.find_unlisted.ensures.read in
    let found : AreUnlistedOf (disk.files old) cat.rows ms xs = subst (λ (l : List ManifestState). AreUnlistedOf (disk.files old) cat.rows l xs) c.as_slice.ensures.value (c.in_ok-unlisted.ensures.found tells) in
    let are = all_of gs image (disk.files old) cat ms held xs of_gs same has.known found in
    let made = c.register_all.new.disk in
    let cat₁ = c.register_all.new.catalogue in
    let stops : Stops disk (λ whole. GetRows whole cat.rows [] xs) cat ms mid cat₁ ms made = subst (λ (l : List Unlisted). Stops disk (λ whole. GetRows whole cat.rows [] l) cat ms mid cat₁ ms made) c.as_slice-2.ensures.value (c.in_err-register_all.ensures.stops tells ms (held, read.ends held has)) in
    let p = err_from_is_err_and c.from_residual-in_err-register_all.result c.from_residual-in_err-register_all.ensures.1 in
    rw p.1 (inr (false, left_rows disk gs image held xs cat ms old mid are has read cat₁ made stops))

pub returns-in_err-register_all-clause-spares : goal.returns-in_err-register_all-clause-spares
returns-in_err-register_all-clause-spares g c = spared g.D.Disk c.args.disk.now c.find_unlisted.new.disk c.register_all.new.disk c.find_unlisted.ensures.read c.register_all.ensures.spares

pub returns-in_err-turns-clause-spares : goal.returns-in_err-turns-clause-spares
returns-in_err-turns-clause-spares g c = spared g.D.Disk c.args.disk.now c.find_unlisted.new.disk c.register_all.new.disk c.find_unlisted.ensures.read c.register_all.ensures.spares

pub returns-in_err-turns-clause-leaves_off : goal.returns-in_err-turns-clause-leaves_off
returns-in_err-turns-clause-leaves_off g c tells gs image held of_gs same has =
    let disk = g.D.Disk in
    let cat = c.args.catalogue.now in
    let ms = c.args.manifests.now.items in
    let old = c.args.disk.now in
    let mid = c.find_unlisted.new.disk in
    let xs = c.in_ok-unlisted.unlisted.items in
    let read = reads disk cat ms old mid c.find_unlisted.ensures.read in
    let found : AreUnlistedOf (disk.files old) cat.rows ms xs = subst (λ (l : List ManifestState). AreUnlistedOf (disk.files old) cat.rows l xs) c.as_slice.ensures.value (c.in_ok-unlisted.ensures.found tells) in
    let are = all_of gs image (disk.files old) cat ms held xs of_gs same has.known found in
    let made = c.register_all.new.disk in
    let cat₁ = c.register_all.new.catalogue in
    let goes : Goes disk (λ whole. GetRows whole cat.rows [] xs) (λ whole steps. steps ≡ []) cat ms mid cat₁ ms made = subst (λ (l : List Unlisted). Goes disk (λ whole. GetRows whole cat.rows [] l) (λ whole steps. steps ≡ []) cat ms mid cat₁ ms made) c.as_slice-2.ensures.value (c.in_ok-register_all.ensures.goes tells ms (held, read.ends held has)) in
    let p = err_from_is_err_and c.from_residual-in_err-turns.result c.from_residual-in_err-turns.ensures.1 in
    rw p.1 (inr (false, left_between disk gs image held xs cat ms old mid are has read cat₁ made goes))

pub list_all-requires : goal.list_all-requires
list_all-requires g c =
    let disk = g.D.Disk in
    let cat = c.args.catalogue.now in
    let ms = c.args.manifests.now.items in
    let old = c.args.disk.now in
    let mid = c.find_unlisted.new.disk in
    let made = c.register_all.new.disk in
    let cat₁ = c.register_all.new.catalogue in
    let xs = c.in_ok-unlisted.unlisted.items in
    let turns = c.as_slice-4.result.now in
    let takes = taken_of c.as_slice-3.result.now ms cat₁.rows xs c.in_ok-turns.turns.items turns c.as_slice-3.ensures.value c.as_slice-4.ensures.value c.in_ok-turns.ensures.takes in
    let three = count_of c.requires.ready.0 ms c.requires.ready.1 c.requires.ready.2.granularity in
    let found : IsTrue disk.tells → AreUnlistedOf (disk.files old) cat.rows ms xs = λ tells. subst (λ (l : List ManifestState). AreUnlistedOf (disk.files old) cat.rows l xs) c.as_slice.ensures.value (c.in_ok-unlisted.ensures.found tells) in
    let changed = spared disk old mid made c.find_unlisted.ensures.read c.register_all.ensures.spares in
    record {
      count = ap length c.as_slice-4.ensures.value ∙ c.in_ok-turns.ensures.count;
      ready = (c.requires.ready.0, c.requires.ready.1, c.in_ok-register_all.ensures.ready c.requires.ready.0 ms c.requires.ready.2);
      parts = turns_have_parts ms cat₁.rows xs (turns_of turns) (subst (λ (l : List ManifestState). All (IsOfPlace l) xs) c.as_slice.ensures.value c.in_ok-unlisted.ensures.shape) takes;
      has = λ tells.
          let was = c.requires.has tells in
          let goes = c.in_ok-register_all.ensures.goes tells ms (was.0, (reads disk cat ms old mid c.find_unlisted.ensures.read).ends was.0 was.1) in
          (made_by goes.steps was.0, goes.makes.ends was.0 ((reads disk cat ms old mid c.find_unlisted.ensures.read).ends was.0 was.1));
      may = λ tells turn taken here g₁ at.
          may_later g₁ (disk.files old) (disk.files made) cat₁.rows (row_of turn) (place_of turn) taken (journals_same disk _ _ (changed tells).now) (turns_may (disk.files old) cat.rows cat₁.rows ms xs (turns_of turns) three (found tells) takes turn taken here g₁ at);
      unopened = λ tells.
          turns_unopened (disk.opened made) cat₁.rows ms xs (turns_of turns) (all_unopened (disk.files old) cat.rows ms (disk.opened made) xs three (none_later cat.rows ms (disk.opened old) (disk.opened made) (changed tells).fewer (c.requires.unopened tells)) (found tells)) takes;
      few = λ tells. turns_few (disk.files old) cat.rows cat₁.rows ms xs (turns_of turns) three c.requires.coarse (found tells) takes;
    }

pub returns-in_err-list_all-clause-leaves_off : goal.returns-in_err-list_all-clause-leaves_off
returns-in_err-list_all-clause-leaves_off g c tells gs image held of_gs same has =
    let disk = g.D.Disk in
    let cat = c.args.catalogue.now in
    let ms = c.args.manifests.now.items in
    let old = c.args.disk.now in
    let mid = c.find_unlisted.new.disk in
    let xs = c.in_ok-unlisted.unlisted.items in
    let read = reads disk cat ms old mid c.find_unlisted.ensures.read in
    let found : AreUnlistedOf (disk.files old) cat.rows ms xs = subst (λ (l : List ManifestState). AreUnlistedOf (disk.files old) cat.rows l xs) c.as_slice.ensures.value (c.in_ok-unlisted.ensures.found tells) in
    let are = all_of gs image (disk.files old) cat ms held xs of_gs same has.known found in
    let made = c.register_all.new.disk in
    let cat₁ = c.register_all.new.catalogue in
    let goes : Goes disk (λ whole. GetRows whole cat.rows [] xs) (λ whole steps. steps ≡ []) cat ms mid cat₁ ms made = subst (λ (l : List Unlisted). Goes disk (λ whole. GetRows whole cat.rows [] l) (λ whole steps. steps ≡ []) cat ms mid cat₁ ms made) c.as_slice-2.ensures.value (c.in_ok-register_all.ensures.goes tells ms (held, read.ends held has)) in
    let changed = spared disk old mid made c.find_unlisted.ensures.read c.register_all.ensures.spares tells in
    let turns = c.as_slice-4.result.now in
    let takes = taken_of c.as_slice-3.result.now ms cat₁.rows xs c.in_ok-turns.turns.items turns c.as_slice-3.ensures.value c.as_slice-4.ensures.value c.in_ok-turns.ensures.takes in
    let count : length turns ≡ 3 * length cat₁.rows = ap length c.as_slice-4.ensures.value ∙ c.in_ok-turns.ensures.count in
    let are_turns = turns_are cat ms held cat₁.rows xs (turns_of turns) has.known takes in
    let m₁ = c.list_all.new.manifests.items in
    let new = c.list_all.new.disk in
    let stops = c.in_err-list_all.ensures.stops tells image held xs (λ n other. journals_same disk _ _ changed.now n other ∙ same n other) are_turns in
    let p = err_from_is_err_and c.from_residual-in_err-list_all.result c.from_residual-in_err-list_all.ensures.1 in
    rw p.1 (inr (false, left_lists disk gs image held xs cat ms old mid are has read cat₁ made goes (length turns) count m₁ new stops))

pub returns-in_err-list_all-clause-spares : goal.returns-in_err-list_all-clause-spares
returns-in_err-list_all-clause-spares g c tells =
    spares_then g.D.Disk c.args.disk.now c.register_all.new.disk c.list_all.new.disk (spared g.D.Disk c.args.disk.now c.find_unlisted.new.disk c.register_all.new.disk c.find_unlisted.ensures.read c.register_all.ensures.spares tells) (c.list_all.ensures.spares tells)

pub returns-clause-spares : goal.returns-clause-spares
returns-clause-spares g c tells =
    spares_then g.D.Disk c.args.disk.now c.register_all.new.disk c.list_all.new.disk (spared g.D.Disk c.args.disk.now c.find_unlisted.new.disk c.register_all.new.disk c.find_unlisted.ensures.read c.register_all.ensures.spares tells) (c.list_all.ensures.spares tells)

pub overflow_sub-rows : goal.overflow_sub-rows
overflow_sub-rows g c =
    let was = ap length c.rows-before.ensures.value in
    let now = ap length c.rows.ensures.value in
    omega (arith, was, now, c.in_ok-register_all.ensures.more)

pub returns-clause-follows : goal.returns-clause-follows
returns-clause-follows g c tells gs image held of_gs same has =
    let disk = g.D.Disk in
    let cat = c.args.catalogue.now in
    let ms = c.args.manifests.now.items in
    let old = c.args.disk.now in
    let mid = c.find_unlisted.new.disk in
    let xs = c.in_ok-unlisted.unlisted.items in
    let read = reads disk cat ms old mid c.find_unlisted.ensures.read in
    let found : AreUnlistedOf (disk.files old) cat.rows ms xs = subst (λ (l : List ManifestState). AreUnlistedOf (disk.files old) cat.rows l xs) c.as_slice.ensures.value (c.in_ok-unlisted.ensures.found tells) in
    let are = all_of gs image (disk.files old) cat ms held xs of_gs same has.known found in
    let made = c.register_all.new.disk in
    let cat₁ = c.register_all.new.catalogue in
    let goes : Goes disk (λ whole. GetRows whole cat.rows [] xs) (λ whole steps. steps ≡ []) cat ms mid cat₁ ms made = subst (λ (l : List Unlisted). Goes disk (λ whole. GetRows whole cat.rows [] l) (λ whole steps. steps ≡ []) cat ms mid cat₁ ms made) c.as_slice-2.ensures.value (c.in_ok-register_all.ensures.goes tells ms (held, read.ends held has)) in
    let changed = spared disk old mid made c.find_unlisted.ensures.read c.register_all.ensures.spares tells in
    let turns = c.as_slice-4.result.now in
    let takes = taken_of c.as_slice-3.result.now ms cat₁.rows xs c.in_ok-turns.turns.items turns c.as_slice-3.ensures.value c.as_slice-4.ensures.value c.in_ok-turns.ensures.takes in
    let count : length turns ≡ 3 * length cat₁.rows = ap length c.as_slice-4.ensures.value ∙ c.in_ok-turns.ensures.count in
    let are_turns = turns_are cat ms held cat₁.rows xs (turns_of turns) has.known takes in
    let m₁ = c.list_all.new.manifests.items in
    let new = c.list_all.new.disk in
    let lists = c.in_ok-list_all.ensures.goes tells image held xs (λ n other. journals_same disk _ _ changed.now n other ∙ same n other) are_turns in
    record {
      all = followed disk gs image held xs cat ms old mid are has read cat₁ made goes (length turns) count m₁ new lists;
      counts =
          let of_rows = (rows_had disk gs image held xs cat ms old mid are has read cat₁ made goes).known.rows in
          let listed = subst (λ (l : List Step). TakesTurns image held cat₁.rows xs true 0 (length turns) l) (append-nil lists.steps) (lists.by true [] refl) in
          let was = ap length c.rows-before.ensures.value in
          let now = ap length c.rows.ensures.value in
          let more = c.in_ok-register_all.ensures.more in
          let many : c.len-count.result ≡ length xs = omega (arith, c.len-count.ensures, c.in_ok-unlisted.unlisted.ok.0) in
          let fits = c.len-count.type_inv in
          let made_rows : ℕ = length c.rows.result.now - length c.rows-before.result.now in
          let told : AreNumbers made_rows (length xs) (all_taken (turns_of turns)) c.numbers.result = subst (λ (k : ℕ). AreNumbers made_rows k (all_taken (turns_of turns)) c.numbers.result) many
          (subst (λ (vs : List (Vec TakenFile Global)). AreNumbers made_rows c.len-count.result (all_taken (turns_of vs)) c.numbers.result) (c.as_slice-5.ensures.value ∙ sym c.as_slice-4.ensures.value) c.numbers.ensures) in
          let fewer = c.in_ok-turns.ensures.fewer in
          let all = ap (λ (vs : List (Vec TakenFile Global)). length (all_taken (turns_of vs))) c.as_slice-4.ensures.value in
          counted image (disk.files old) cat.rows cat₁.rows ms held xs (turns_of turns) goes.steps lists.steps (length turns) made_rows c.numbers.result same (count_of c.requires.ready.0 ms c.requires.ready.1 c.requires.ready.2.granularity) found takes are_turns of_rows
          (gets disk gs image held xs cat ms old mid are has read cat₁ made goes) (sym (length-map turns (λ (v : Vec TakenFile Global). v.items))) listed told (omega (arith, was, now, more, ap length has.known.rows)) (omega (arith, fewer, all)) (omega (arith, many, fits));
    }

pub returns-clause-ready : goal.returns-clause-ready
returns-clause-ready g c gs ready =
    c.in_ok-list_all.ensures.ready gs (c.in_ok-register_all.ensures.ready gs c.args.manifests.now.items ready)
