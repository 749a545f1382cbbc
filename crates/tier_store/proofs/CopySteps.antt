-- Calls that look for what is left to copy, which only read, and the steps of copying behind them: what a step copies of all that is left, with the
-- file in limbo in which lines go on, and without it.
use Rattle.std.proofs.Common.{◌≡◌, inl, inr, Bool, ℕ, ◌+◌, List, length, refl, sym, ◌∙◌, ap, subst, arith, ◌≤◌, ◌++◌, [], Ok, Err, Result, append-nil, ◌≢◌, true, ◌<◌, ◌∷◌, take, drop, Some, None, append_assoc, false, get_or, Option}
use Rattle.std.specs.Prelude.{IfOk, OnErr, slice_get, Contains, IsTrue, nat_le, IfSome}
use Rattle.disk_model.specs.Files.{Name, Files, HasFile, Rose}
use Rattle.disk_model.specs.declared.disk.DiskErr.{DiskErr}
use Rattle.disk_model.specs.declared.disk.DiskErr.TheVariants.{Fault, Memory}
use Rattle.etl_mover.specs.Move.{Moving, part_file}
use Rattle.pv_catalog.specs.Catalogue.{CatalogueState}
use Rattle.pv_catalog.specs.Rows.{KeepsRows}
use Rattle.pv_catalog.specs.declared.row.Row.{Row}
use Rattle.pv_catalog.proofs.Standing.{keeps_same}
use Rattle.store_manifest.specs.Manifest.{ManifestState}
use Rattle.durable_write.specs.Ends.{End, IsFailed, end_of_disk, Done}
use Rattle.durable_write.specs.Held.{Filed, IsListedTo, IsFiled, Held, AreFiled, IsIn, file_of}
use Rattle.durable_write.proofs.Staying.{rose_after, same_then, safe_read}
use Rattle.tier_store.specs.Stores.{Stores, list_at, tier}
use Rattle.tier_store.specs.Seen.{Seen, granularities, on_disk}
use Rattle.tier_store.specs.Copying.{CopiesBeside, CopiesFurther, CopiesOrHas, OnlyLooks, CopiesNext, CopyLeaves, HasPassedAll, IsDamaged, LeavesOthers, MovesOn, PassesParts, SaysCopied, SaysPart, StaysHeld, StepsOn, left_of, samples_ahead, CopiesLines, IsNextPart, FindsLine, HasLater, HasLine, SaysLines}
use Rattle.tier_store.specs.Limbo.{LimboStands, staying}
use Rattle.tier_store.specs.Moving.{LeavesLater, RunsBeside, names_of}
use Rattle.tier_store.specs.Pinned.{SeenAll, IsHeldTo}
use Rattle.tier_store.specs.Revival.{AreWhole, KeepsWhole, revived, samples_at, store_with}
use Rattle.tier_store.specs.declared.limbo.Retired.{Retired}
use Rattle.tier_store.proofs.OnePlace.{nothing_read}
use Rattle.tier_store.proofs.RunningMoves.{beside_itself, runs_still, later_names, leaves_then, nothing_leaves, names_then}
use Rattle.tier_store.proofs.Revival.{read_whole}
use Rattle.tier_store.proofs.Removals.{limbo_kept}
use Rattle.disk_model.specs.Past.{Passes}
use Rattle.disk_model.proofs.Passing.{passes_then, passes_weaker}
use Rattle.partition_names.specs.declared.granularity.Granularity.{Granularity}
use Rattle.series_model.specs.Series.{end_of, end_from, since}
use Rattle.series_model.specs.declared.sample.Sample.{Sample}
use Rattle.store_manifest.specs.declared.entry.Entry.{Entry}
use Rattle.durable_write.specs.Flush.{put_all, PlacesRise}
use Rattle.tier_store.specs.Stored.{HoldsAll}
use Rattle.tier_store.specs.Change.{Costs, Has, HoldsBy}
use Rattle.tier_store.specs.Given.{ChangesGiven}
use Rattle.tier_store.specs.Retiring.{oldest}
use Rattle.tier_store.specs.Reviving.{AreBack, free_of, past, IsBehind, SaysBehind, reviving, GoesBehind, IsUncovered, pending_with}
use Rattle.tier_store.specs.declared.copying.CopyEnd.{CopyEnd}
use Rattle.tier_store.proofs.CopyParts.{copied_whole, low, q_filed, source, take_at, next_part, q_part, runs_by}
use Rattle.tier_store.proofs.Holding.{all_left}
use Rattle.tier_store.proofs.Frames.{whole_then}
use Rattle.tier_store.specs.declared.copying.CopyEnd.TheVariants as ends
use Rattle.std.specs.List.{AllByRecursion}
use Rattle.std.proofs.lemmas.Bool.Decides.{nat_tests}
use Rattle.std.proofs.lemmas.List.{append_cancel_left, take-take, take-append-drop}
use Rattle.std.proofs.lemmas.List.Elements.{All-from_recursion, recursion_from_All, All-contains, Contains-append_left, Contains-get_or}
use Rattle.etl_mover.specs.Copying.{last_of}
use Rattle.partition_names.specs.Part.{HoldsMoment}
use Rattle.pb_lines.proofs.FileLines.{all_front, all_rest}
use Rattle.series_model.proofs.RisingLists.{end_from-append, since-append, since_all}
use Rattle.durable_write.specs.Plan.{of_row}
use Rattle.durable_write.specs.Stored.{AreHeld, AreSafe}
use Rattle.durable_write.proofs.Planning.{of_last, of_files as of_parts}
use Rattle.tier_store.specs.Copied.{end_after}
use Rattle.tier_store.proofs.CopyLimbo.{back, backs, before_it, f_behind, f_end, f_some, limbo_f, none_of_part, passes, passes_if, past_all, past_append, past_since, row_with, since_low, some_of_part, f, file_is, last_with, runs_with}
use Rattle.tier_store.proofs.CopyLeft.{IsLater, IsOfRowIn, SplitsHere, first_files, later_all, left_all, rise_front, rise_rest, rise_row, since_files, splits_here, inside_until, part_left}
use Rattle.tier_store.proofs.Revived.{none_revived}
use Rattle.std.proofs.lemmas.Bool.{cond-false, cond-true}
use Rattle.partition_names.specs.declared.part.Part.{Part}
use Rattle.tier_store.specs.declared.copying.LineLeft.{LineLeft}
use Rattle.std.proofs.lemmas.Option.{same_Some}
use Rattle.etl_mover.proofs.Steps.{last_of-push}
use Rattle.tier_store.proofs.CopyLimbo as past_files

-- LOOKING, AND THEN A STEP

pub looks_none : {A E : Type 0} (tells : Bool) (all : SeenAll) (end : End A E) → (IsFailed end → ⊥) → OnlyLooks tells all all end
looks_none {A} {E} tells all end not_failed = record {
  kept = λ held has. has;
  catalogue = refl;
  manifests = refl;
  limbo = refl;
  shown = λ name bytes was. was;
  leaves = nothing_leaves tells all;
  opened = λ told. refl;
  reads = nothing_read tells all.stores end not_failed;
}

pub looks_then : {A B E F : Type 0} (tells : Bool) (old mid new : SeenAll) (first : End A E) (end : End B F) → OnlyLooks tells old mid first → OnlyLooks tells mid new end → OnlyLooks tells old new end
looks_then {A} {B} {E} {F} tells old mid new first end one two = record {
  kept = λ held has. two.kept held (one.kept held has);
  catalogue = two.catalogue ∙ one.catalogue;
  manifests = two.manifests ∙ one.manifests;
  limbo = two.limbo ∙ one.limbo;
  shown = λ name bytes was. two.shown name bytes (one.shown name bytes was);
  leaves = leaves_then tells old mid new one.leaves two.leaves;
  opened = λ told. two.opened told ∙ one.opened told;
  reads = record {
    files = λ told. two.reads.files told ∙ one.reads.files told;
    any_moment = λ told. same_then old.stores.past mid.stores.past new.stores.past (one.reads.any_moment told) (two.reads.any_moment told);
    faults = let a = one.reads.faults in let b = two.reads.faults in omega (arith, a, b);
    cause = λ failed. rose_after old.stores.faults mid.stores.faults new.stores.faults one.reads.faults (two.reads.cause failed);
  };
}

looks_with : {A B E F : Type 0} (tells : Bool) (old new : SeenAll) (first : End A E) (end : End B F) → (IsFailed end → Rose old.stores.faults new.stores.faults) → OnlyLooks tells old new first → OnlyLooks tells old new end
looks_with {A} {B} {E} {F} tells old new first end cause looks = record {
  kept = looks.kept;
  catalogue = looks.catalogue;
  manifests = looks.manifests;
  limbo = looks.limbo;
  shown = looks.shown;
  leaves = looks.leaves;
  opened = looks.opened;
  reads = record { files = looks.reads.files; any_moment = looks.reads.any_moment; faults = looks.reads.faults; cause = cause };
}

-- whatever it answers otherwise than with a failure
pub looks_ends : {A B E F : Type 0} (tells : Bool) (old new : SeenAll) (first : End A E) (end : End B F) → (IsFailed end → ⊥) → OnlyLooks tells old new first → OnlyLooks tells old new end
looks_ends {A} {B} {E} {F} tells old new first end not_failed looks = looks_with tells old new first end (λ failed. absurd (not_failed failed)) looks

pub looks_fails : {A B : Type 0} (tells : Bool) (old new : SeenAll) (e : DiskErr) → OnlyLooks tells old new (end_of_disk {A = A} (Err e)) → OnlyLooks tells old new (end_of_disk {A = B} (Err e))
looks_fails {A} {B} tells old new Fault looks = looks_with tells old new (end_of_disk {A = A} (Err Fault)) (end_of_disk {A = B} (Err Fault)) looks.reads.cause looks
looks_fails {A} {B} tells old new Memory looks = looks_with tells old new (end_of_disk {A = A} (Err Memory)) (end_of_disk {A = B} (Err Memory)) (λ failed. absurd failed) looks

-- WHAT RUNS BESIDE

pub runs_on : (i : ℕ) (tells : Bool) (old new : SeenAll) (move : Moving) (files : List Filed) (held : Stores) → granularities new.stores.manifests ≡ granularities old.stores.manifests → LeavesLater tells old new → RunsBeside i tells old move files held → RunsBeside i tells new move files held
runs_on i tells old new move files held same leaves runs =
    let next = runs.next in
    runs_still i tells old new move files held held same (beside_itself i move.series held) (leaves (names_of (i + 1, held.rows) files) (later_names i (i + 1, held.rows) files refl (omega (arith, next)))) runs

pub copies_on : (from : ℕ) (tells : Bool) (old new : SeenAll) (move : Moving) (files : List Filed) (held : Stores) → granularities new.stores.manifests ≡ granularities old.stores.manifests → LeavesLater tells old new → CopiesBeside from tells old move files held → CopiesBeside from tells new move files held
copies_on from tells old new move files held same leaves is = record {
  runs = runs_on (from + 1) tells old new move files held same leaves is.runs;
  stage = is.stage;
  left = is.left;
  heads = is.heads;
  lengths = is.lengths;
  last = is.last;
  passed = is.passed;
  told = is.told;
}

pub further_on : (from : ℕ) (tells : Bool) (old new : SeenAll) (move : Moving) (files : List Filed) (held : Stores) → granularities new.stores.manifests ≡ granularities old.stores.manifests → LeavesLater tells old new → CopiesFurther from tells old move files held → CopiesFurther from tells new move files held
further_on from tells old new move files held same leaves is = record {
  runs = runs_on (from + 1) tells old new move files held same leaves is.runs;
  stage = is.stage;
  left = is.left;
  heads = is.heads;
  lengths = is.lengths;
  last = is.last;
  told = is.told;
}

-- limbo has its names still
pub looks_stands : {A E : Type 0} (tells : Bool) (old new : SeenAll) (end : End A E) → OnlyLooks tells old new end → LimboStands old.stores old.limbo → LimboStands new.stores new.limbo
looks_stands {A} {E} tells old new end looks stands =
    subst (LimboStands new.stores) (sym looks.limbo)
    (limbo_kept old.stores new.stores old.limbo (subst (λ (rows : List Row). KeepsRows old.stores.catalogue.rows rows) (sym (ap (λ (c : CatalogueState). c.rows) looks.catalogue)) (keeps_same old.stores.catalogue.rows)) (ap granularities looks.manifests) stands)

pub copies_or_on : (from : ℕ) (tells : Bool) (old new : SeenAll) (move : Moving) (files : List Filed) (held : Stores) → granularities new.stores.manifests ≡ granularities old.stores.manifests → LeavesLater tells old new → CopiesOrHas from tells old move files held → CopiesOrHas from tells new move files held
copies_or_on from tells old new move files held same leaves (inl is) = inl (copies_on from tells old new move files held same leaves is)
copies_or_on from tells old new move files held same leaves (inr is) = inr (record { runs = runs_on (from + 1) tells old new move files held same leaves is.runs; stage = is.stage; all_copied = is.all_copied; lengths = is.lengths; none_left = is.none_left })

-- what the memory lists is listed still
pub held_kept : (old new : Seen) → new.catalogue ≡ old.catalogue → new.manifests ≡ old.manifests → (name : Name) (len : ℕ) → IsHeldTo old name len → IsHeldTo new name len
held_kept old new catalogue manifests name len h = record {
  place = h.place;
  manifest = h.manifest;
  here = ap (λ (l : List ManifestState). slice_get l h.place) manifests ∙ h.here;
  listed = subst (λ (c : CatalogueState). IsListedTo ((h.place + 1, c.rows), h.manifest.entries) name len) (sym catalogue) h.listed;
  in_doubt = λ unsound. subst (λ (c : CatalogueState). IsListedTo ((h.place + 1, c.rows), h.manifest.next) name len) (sym catalogue) (h.in_doubt unsound);
  rows_in_doubt = λ unsound. subst (λ (c : CatalogueState). IsListedTo ((h.place + 1, c.next), h.manifest.entries) name len) (sym catalogue) (h.rows_in_doubt (ap (λ (c : CatalogueState). c.journal.sound) (sym catalogue) ∙ unsound));
}

-- files in limbo stay whole
pub looks_whole : {A E : Type 0} (tells : Bool) (old new : SeenAll) (end : End A E) → length old.stores.manifests ≡ 3 → OnlyLooks tells old new end → KeepsWhole tells old new
looks_whole {A} {E} tells old new end three looks i stands files low whole = (
  files,
  subst (λ (l : List Retired). AreWhole i tells new.stores l stands files) (sym looks.limbo)
      (read_whole tells old.stores new.stores old.limbo three (λ name h. held_kept old.stores new.stores looks.catalogue looks.manifests name 0 h)
      (subst (λ (rows : List Row). KeepsRows old.stores.catalogue.rows rows) (sym (ap (λ (c : CatalogueState). c.rows) looks.catalogue)) (keeps_same old.stores.catalogue.rows)) (ap granularities looks.manifests) looks.reads.files looks.opened looks.reads.any_moment i stands files low whole),
)

-- AFTER AN ERROR

pub err_says : {A : Type 0} (Q : A → Type 0) (P : Type 0) (r : Result A DiskErr) (e : DiskErr) → r ≡ Err e → P → IfOk r Q × OnErr r P
err_says {A} Q P r e is holds = subst (λ (x : Result A DiskErr). IfOk x Q × OnErr x P) (sym is) (tt, holds)

pub looks_err : {A B : Type 0} (tells : Bool) (old new : SeenAll) (r : Result A DiskErr) (s : Result B DiskErr) (e : DiskErr) → r ≡ Err e → s ≡ Err e → OnlyLooks tells old new (end_of_disk r) → OnlyLooks tells old new (end_of_disk s)
looks_err {A} {B} tells old new r s e is also looks = subst (λ (x : Result B DiskErr). OnlyLooks tells old new (end_of_disk x)) (sym also) (looks_fails tells old new e (subst (λ (x : Result A DiskErr). OnlyLooks tells old new (end_of_disk x)) is looks))

-- an error that is handed on was a fault where the answer is
pub fault_was : {A B : Type 0} (r : Result A DiskErr) (s : Result B DiskErr) (e f : DiskErr) → r ≡ Err e → s ≡ Err f → f ≡ e → s ≡ Err Fault → r ≡ Err Fault
fault_was {A} {B} r s e f was is same fault =
    let both : ◌≡◌ {A = Result B DiskErr} (Err f) (Err Fault) = sym is ∙ fault in
    let one : f ≡ Fault = cc (both) in
    was ∙ ap (λ (x : DiskErr). Err x) (sym same ∙ one)

-- WHAT IS HELD STAYS

-- where files were read alone
pub looks_held : {A E : Type 0} (tells : Bool) (old new : SeenAll) (end : End A E) (held : Stores) → OnlyLooks tells old new end → Has tells old.stores held → StaysHeld tells old.stores new.stores held
looks_held {A} {E} tells old new end held looks has = (
  looks.kept held has,
  λ told.
      passes_weaker (λ a b. b ≡ a) (HoldsBy (granularities old.stores.manifests) (λ x y. y ≡ x) held) old.stores.past new.stores.past (looks.reads.any_moment told)
      (λ a x left same. inl (subst (λ (f : Files). HoldsAll (granularities old.stores.manifests) f held) (sym same) (all_left old.stores held a (has.disk told) left))),
)

-- and behind that
look_then_stays : {A E : Type 0} (tells : Bool) (old mid : SeenAll) (new : Seen) (first : End A E) (held : Stores) → OnlyLooks tells old mid first → Has tells old.stores held → StaysHeld tells mid.stores new held → StaysHeld tells old.stores new held
look_then_stays {A} {E} tells old mid new first held looks has then = (
  then.0,
  λ told.
      passes_then (HoldsBy (granularities old.stores.manifests) (λ x y. y ≡ x) held) (HoldsBy (granularities old.stores.manifests) (λ x y. y ≡ x) held) old.stores.past mid.stores.past new.past
      ((looks_held tells old mid first held looks has).1 told)
      (subst (λ (gs : List Granularity). Passes (HoldsBy gs (λ x y. y ≡ x) held) mid.stores.past new.past) (ap granularities looks.manifests) (then.1 told))
      (λ a x y was step left now. now),
)

pub look_then_steps : {A B E : Type 0} (tells : Bool) (old mid : SeenAll) (new : Seen) (first : End A E) (held : Stores) (Says : B → Type 0) (Still : Type 0) (r : Result B DiskErr)
    → OnlyLooks tells old mid first → Has tells old.stores held → StepsOn tells mid.stores new held Says Still r → StepsOn tells old.stores new held Says Still r
look_then_steps {A} {B} {E} tells old mid new first held Says Still r looks has then = record { stays = look_then_stays tells old mid new first held looks has then.stays; says = then.says; still = then.still }

-- so the call changes nothing
pub stays_changes : {A : Type 0} (tells : Bool) (Is : Stores → Type 0) (old new : Seen) (r : Result A DiskErr) → ((held : Stores) → Has tells old held → Is held → StaysHeld tells old new held) → Costs old new (end_of_disk r) → ChangesGiven Is tells (staying {A = A}) old new (end_of_disk r)
stays_changes {A} tells Is old new (Ok a) stays costs = record { ends = λ held has given. (held, refl, tt, (stays held has given).0); any_moment = λ told held has given. (stays held has given).1 told; costs = costs }
stays_changes {A} tells Is old new (Err Fault) stays costs = record { ends = λ held has given. inl (stays held has given).0; any_moment = λ told held has given. (stays held has given).1 told; costs = costs }
stays_changes {A} tells Is old new (Err Memory) stays costs = record { ends = λ held has given. (stays held has given).0; any_moment = λ told held has given. (stays held has given).1 told; costs = costs }

looks_cost : {A E : Type 0} (tells : Bool) (old new : SeenAll) (end : End A E) → OnlyLooks tells old new end → Costs old.stores new.stores end
looks_cost {A} {E} tells old new end looks = record { granularity = ap granularities looks.manifests; faults = looks.reads.faults; cause = looks.reads.cause }

look_then_costs : {A B E F : Type 0} (tells : Bool) (old mid : SeenAll) (new : Seen) (first : End A E) (end : End B F) → OnlyLooks tells old mid first → Costs mid.stores new end → Costs old.stores new end
look_then_costs {A} {B} {E} {F} tells old mid new first end looks costs = record {
  granularity = costs.granularity ∙ ap granularities looks.manifests;
  faults = let one = looks.reads.faults in let two = costs.faults in omega (arith, one, two);
  cause = λ failed. rose_after old.stores.faults mid.stores.faults new.faults looks.reads.faults (costs.cause failed);
}

pub looks_change : {A : Type 0} (tells : Bool) (Is : Stores → Type 0) (old new : SeenAll) (r : Result A DiskErr) → OnlyLooks tells old new (end_of_disk r) → ChangesGiven Is tells (staying {A = A}) old.stores new.stores (end_of_disk r)
looks_change {A} tells Is old new r looks = stays_changes tells Is old.stores new.stores r (λ held has given. looks_held tells old new (end_of_disk r) held looks has) (looks_cost tells old new (end_of_disk r) looks)

pub look_then_change : {A B F : Type 0} (tells : Bool) (Is Then : Stores → Type 0) (old mid : SeenAll) (new : Seen) (first : End B F) (a : A) → OnlyLooks tells old mid first → ((held : Stores) → Has tells old.stores held → Is held → Then held) → ChangesGiven Then tells (staying {A = A}) mid.stores new (Done a) → ChangesGiven Is tells (staying {A = A}) old.stores new (Done a)
look_then_change {A} {B} {F} tells Is Then old mid new first a looks to change =
    stays_changes tells Is old.stores new (Ok a)
    (λ held has given. look_then_stays tells old mid new first held looks has (let e = change.ends held (looks.kept held has) (to held has given) in (subst (Has tells new) e.1 e.3, λ told. change.any_moment told held (looks.kept held has) (to held has given))))
    (look_then_costs tells old mid new first (Done a) looks change.costs)

-- WHAT THE ANSWER SAYS

zero_least : (n : ℕ) → 0 ≤ n
zero_least n = omega arith

-- passing parts leaves what is left to copy
module _ (from : ℕ) (move mid : Moving) (files : List Filed) (held : Stores) (passes : PassesParts move mid) where
  pub left_same : left_of from mid (length mid.parts) files held ≡ left_of from move (length move.parts) files held
  left_same = ap (λ (x : Moving). left_of from x (length mid.parts) files held) passes.is ∙ ap (λ (k : ℕ). left_of from move k files held) passes.long

  pub ahead_same : (more : List Filed) → samples_ahead (from + 1) mid more held ≡ samples_ahead (from + 1) move more held
  ahead_same more = ap (λ (x : Moving). samples_ahead (from + 1) x more held) passes.is

  pub series_same : mid.series ≡ move.series
  series_same = ap (λ (x : Moving). x.series) passes.is

  abbrev next_same : (most : ℕ) (limbo : List Retired) (retired more : List Filed) (copied rest : List Sample) → CopiesNext most from limbo retired mid files more held copied rest → CopiesNext most from limbo retired move files more held copied rest
  next_same most limbo retired more copied rest next = record {
    back = next.back;
    in_limbo = next.in_limbo;
    left = sym (ap (λ (k : ℕ). past next.back k (left_of from mid (length mid.parts) files held)) series_same ∙ ap (past next.back move.series) left_same) ∙ next.left;
    ahead = sym (ahead_same more) ∙ (next.ahead ∙ (ap (λ (l : List Sample). l ++ (revived next.back mid.series copied ++ copied)) (ahead_same files) ∙ ap (λ (k : ℕ). samples_ahead (from + 1) move files held ++ (revived next.back k copied ++ copied)) series_same));
    few = next.few;
  }

  parts_same : oldest from mid.series (length mid.parts) held ≡ oldest from move.series (length move.parts) held
  parts_same = ap (λ (x : Moving). oldest from x.series (length mid.parts) held) passes.is ∙ ap (λ (k : ℕ). oldest from move.series k held) passes.long

  pub damaged_same : (tells : Bool) (now : Files) (name : Name) (at : ℕ) → IsDamaged from tells now mid held name at → IsDamaged from tells now move held name at
  damaged_same tells now name at damaged = record {
    file = damaged.file;
    part = subst (λ (l : List Filed). Contains l damaged.file) parts_same damaged.part;
    named = damaged.named;
    within = damaged.within;
    never = damaged.never;
    bad = damaged.bad;
  }

  pub says_from : (most : ℕ) (tells : Bool) (all : SeenAll) (retired : List Filed) (new : Moving) (end : CopyEnd) → SaysCopied most from tells all retired mid new files held end → SaysCopied most from tells all retired move new files held end
  says_from most tells all retired new ends.More (more, is, said) = (more, is, λ stands. let s = said stands in (s.0, s.1, next_same most all.limbo retired more s.0 s.1 s.2, s.3, s.4))
  says_from most tells all retired new ends.Copied (more, is, said) = (more, is, λ stands. let s = said stands in (s.0, next_same most all.limbo retired more s.0 [] s.1))
  says_from most tells all retired new (ends.Damaged name at) damaged = damaged_same tells all.stores.files name at damaged

  pub part_from : (most : ℕ) (tells : Bool) (all : SeenAll) (k : ℕ) (retired : List Filed) (new : Moving) (end : CopyEnd) → SaysPart most from tells all k retired mid new files held end → SaysPart most from tells all k retired move new files held end
  part_from most tells all k retired new ends.More (more, is, said) = (
    more,
    is,
    λ stands.
        let s = said stands in
        (s.0, s.1, next_same most all.limbo retired more s.0 s.1 s.2, s.3, s.4 ∙ ap (λ (j : ℕ). past (free_of (put_all (list_at (from + 1) held) files) retired) j (left_of from new (length new.parts) more held)) series_same, s.5, s.6, subst (λ (l : List Sample). end_of l ≤ end_of (samples_ahead (from + 1) new more held)) (ahead_same files) s.7),
  )
  part_from most tells all k retired new ends.Copied (more, is, said) = (more, is, λ stands. let s = said stands in (s.0, next_same most all.limbo retired more s.0 [] s.1))
  part_from most tells all k retired new (ends.Damaged name at) damaged = damaged_same tells all.stores.files name at damaged

  -- all its parts were passed
  pub says_ended : (most : ℕ) (tells : Bool) (all : SeenAll) (retired back : List Filed) → AreBack (from + 1) all.limbo retired (put_all (list_at (from + 1) held) files) back → HasPassedAll from tells all mid files held → SaysCopied most from tells all retired move mid files held ends.Copied
  says_ended most tells all retired back in_limbo is = (
    files,
    record {
      runs = is.runs;
      stage = is.stage;
      all_copied = is.all_copied;
      parts = copied_whole from mid files held is.all_copied is.lengths (λ stands. subst (λ (k : ℕ). left_of from mid k files held ≡ []) (sym is.all_copied) (is.none_left stands));
    },
    λ stands. ([], record { back = back; in_limbo = in_limbo; left = ap (past back move.series) (sym left_same ∙ is.none_left stands); ahead = sym (append-nil (samples_ahead (from + 1) move files held)); few = inl (zero_least most) }),
  )

-- WHAT MAY HAVE CHANGED OF THE MOVE

pub moves_none : (move : Moving) → MovesOn move move
moves_none move = record { is = refl; long = refl }

pub moves_passed : (old new : Moving) → PassesParts old new → MovesOn old new
moves_passed old new passes = record {
  is = passes.is ∙ ap (λ (l : List Entry). record old { parts = new.parts; at = new.at; pending = l }) (sym (ap (λ (x : Moving). x.pending) passes.is));
  long = passes.long;
}

pub moves_then : (old mid new : Moving) → PassesParts old mid → MovesOn mid new → MovesOn old new
moves_then old mid new one two = record {
  is = two.is ∙ ap (λ (x : Moving). record x { parts = new.parts; at = new.at; pending = new.pending }) one.is;
  long = two.long ∙ one.long;
}

-- WHAT IT LEAVES

-- where files were read alone
pub looks_leave : {A E : Type 0} (tells : Bool) (old new : SeenAll) (move : Moving) (end : End A E) → length old.stores.manifests ≡ 3 → OnlyLooks tells old new end → CopyLeaves move tells old new end
looks_leave {A} {E} tells old new move end three looks = record {
  shown = looks.shown;
  leaves = λ names later none. looks.leaves names later;
  whole = looks_whole tells old new end three looks;
  costs = looks_cost tells old new end looks;
}

-- what a move leaves that has passed parts
others_passed : (tells : Bool) (old mid new : SeenAll) (move later : Moving) → PassesParts move later → LeavesLater tells old mid → LeavesOthers later tells mid new → LeavesOthers move tells old new
others_passed tells old mid new move later passes leaves others names high none =
    names_then names tells old mid new (leaves names high)
    (others names high (λ e within. none e (subst (λ (x : Moving). Contains names (part_file x.destination x.name e)) passes.is within)))

pub look_then_leaves : {A B E F : Type 0} (tells : Bool) (old mid new : SeenAll) (move later : Moving) (first : End A E) (end : End B F) → PassesParts move later → length old.stores.manifests ≡ 3 → OnlyLooks tells old mid first → CopyLeaves later tells mid new end → CopyLeaves move tells old new end
look_then_leaves {A} {B} {E} {F} tells old mid new move later first end passes three looks rest = record {
  shown = λ name bytes was. rest.shown name bytes (looks.shown name bytes was);
  leaves = others_passed tells old mid new move later passes looks.leaves rest.leaves;
  whole = whole_then tells old mid new (looks_whole tells old mid first three looks) rest.whole;
  costs = look_then_costs tells old mid new.stores first end looks rest.costs;
}

pub passed_leaves : {A E : Type 0} (tells : Bool) (old new : SeenAll) (move later : Moving) (end : End A E) → PassesParts move later → CopyLeaves later tells old new end → CopyLeaves move tells old new end
passed_leaves {A} {E} tells old new move later end passes rest = record { shown = rest.shown; leaves = others_passed tells old old new move later passes (nothing_leaves tells old) rest.leaves; whole = rest.whole; costs = rest.costs }

-- whatever it answers otherwise than with an error
pub done_leaves : {A : Type 0} (tells : Bool) (old new : SeenAll) (move : Moving) (a b : A) → CopyLeaves {A = A} {E = ⊥} move tells old new (Done a) → CopyLeaves {A = A} {E = ⊥} move tells old new (Done b)
done_leaves {A} tells old new move a b rest = record { shown = rest.shown; leaves = rest.leaves; whole = rest.whole; costs = record { granularity = rest.costs.granularity; faults = rest.costs.faults; cause = λ failed. absurd failed } }

-- BY AN ANSWER

pub on_err : {A : Type 0} (P : Type 0) (r : Result A DiskErr) → P → OnErr r P
on_err {A} P (Ok a) holds = tt
on_err {A} P (Err e) holds = holds

pub on_err_then : {A : Type 0} {P Q : Type 0} (r : Result A DiskErr) → OnErr r P → (P → Q) → OnErr r Q
on_err_then {A} {P} {Q} (Ok a) holds to = tt
on_err_then {A} {P} {Q} (Err e) holds to = to holds

pub on_ok : {A : Type 0} {P Q : A → Type 0} (r : Result A DiskErr) → IfOk r P → ((a : A) → P a → Q a) → IfOk r Q
on_ok {A} {P} {Q} (Ok a) holds to = to a holds
on_ok {A} {P} {Q} (Err e) holds to = tt

-- A STEP BY THE FILES IN LIMBO

module _ (tells : Bool) (all : SeenAll) (from : ℕ) (move : Moving) (files : List Filed) (held : Stores) (has : Has tells all.stores held) (is : CopiesFurther from tells all move files held) (stand : LimboStands all.stores all.limbo) (retired : List Filed) (whole : AreWhole (from + 1) tells all.stores all.limbo held.stands retired) (stands : IsTrue held.stands)
    (q : Filed) (q_next : IsNextPart from move held q) (part : Entry) (at_hand : slice_get move.parts move.at ≡ Some part) where
  abbrev pub B : List Filed
  B = back tells all from move files held has is.runs is.last stand retired whole stands

  pub filed : IsFiled is.runs.fine held.rows q
  filed = q_filed tells all from move files held has is q q_next part at_hand stands

  abbrev N : ℕ
  N = end_of (samples_ahead (from + 1) move files held)

  pub n_is : end_after (last_of move.pending move.listed) ≡ N
  n_is = before_it tells all from move files held has is.runs is.last stand retired whole stands

  abbrev ps : List Filed
  ps = oldest from move.series (length move.parts) held

  pub few : move.at < length move.parts
  few = low tells all from move files held has is

  pub here : SplitsHere ps move.at q
  here = splits_here ps move.at q (take_at (of_row move.series (list_at from held)) (length move.parts) move.at q few q_next.here)

  pub first_ps : oldest from move.series move.at held ≡ take move.at ps
  first_ps = sym (take-take move.at (length move.parts) (of_row move.series (list_at from held)) (omega (arith, few)))

  module _ (most : ℕ) (nm : Moving) (skipped : past B move.series (left_of from move move.at files held) ≡ []) where
    -- WHERE THE FILE IS MADE ANEW, OR GOES ON BEHIND ALL THAT IS AHEAD

    module _ (none : SaysBehind all.limbo (from + 2) move.series (last_of move.pending move.listed) q.entry.part.start None) (more : List Filed) (copied rest : List Sample) (lines : CopiesLines most from move nm files more held copied rest) where
      pub lows : AllByRecursion (λ (s : Sample). N ≤ s.t) copied
      lows = all_front (λ (s : Sample). N ≤ s.t) copied rest (all_rest (λ (s : Sample). N ≤ s.t) (left_of from move move.at files held) (copied ++ rest) (subst (AllByRecursion (λ (s : Sample). N ≤ s.t)) lines.left (since_low N (of_parts ps))))

      pub nowhere : (xs : List Sample) → AllByRecursion (λ (s : Sample). HoldsMoment q.entry.part s.t) xs → AllByRecursion (λ (s : Sample). N ≤ s.t) xs → AllByRecursion (λ (s : Sample). samples_at B move.series s.t ≡ []) xs
      nowhere [] inside high = tt
      nowhere (s ∷ xs) inside high = (none_of_part tells all from move files held has is.runs is.last stand retired whole stands is.runs.fine q filed refl none s inside.0 (let at = high.0 in omega (arith, at, n_is)), nowhere xs inside.1 high.1)

      pub free : AllByRecursion (λ (s : Sample). samples_at B move.series s.t ≡ []) copied
      free = nowhere copied (recursion_from_All (λ (s : Sample). HoldsMoment q.entry.part s.t) copied (lines.within q q_next)) lows

      pub pass_all : (xs : List Sample) → AllByRecursion (λ (s : Sample). samples_at B move.series s.t ≡ []) xs → AllByRecursion (λ (s : Sample). passes B move.series s ≡ true) xs
      pass_all [] all = tt
      pass_all (s ∷ xs) all = (ap (λ (l : List Sample). nat_le (end_of l) s.t) all.0 ∙ zero_le s.t, pass_all xs all.1)
        where
          zero_le : (t : ℕ) → nat_le 0 t ≡ true
          zero_le t = grind (arith, nat_tests)

      abbrev pub next_none : CopiesNext most from all.limbo retired move files more held copied (past B move.series rest)
      next_none = record {
        back = B;
        in_limbo = backs tells all from move files held has is.runs is.last stand retired whole stands;
        left = ap (past B move.series) lines.left
            ∙ (past_append B move.series (left_of from move move.at files held) (copied ++ rest)
            ∙ (ap (λ (l : List Sample). l ++ past B move.series (copied ++ rest)) skipped ∙ (past_append B move.series copied rest ∙ ap (λ (l : List Sample). l ++ past B move.series rest) (past_all B move.series copied (pass_all copied free)))));
        ahead = lines.ahead ∙ ap (λ (l : List Sample). samples_ahead (from + 1) move files held ++ (l ++ copied)) (sym (none_revived B move.series copied (All-from_recursion (λ (s : Sample). samples_at B move.series s.t ≡ []) copied free)));
        few = lines.few;
      }

    -- WHERE IT GOES ON IN A FILE OF LIMBO

    module _ (r : Retired) (within : Contains all.limbo r) (behind : IsBehind (from + 2) move.series (last_of move.pending move.listed) q.entry.part.start r) where
      abbrev pub x : Filed
      x = limbo_f tells all from move files held has is.runs is.last stand retired whole stands is.runs.fine q filed refl r within behind

      -- the row with it
      pub ahead_with : samples_ahead (from + 1) move (files ++ x ∷ []) held ≡ samples_ahead (from + 1) move files held ++ x.samples
      ahead_with = of_last (put_all (list_at (from + 1) held) (files ++ x ∷ [])) move.series (of_row move.series (put_all (list_at (from + 1) held) files)) x (row_with tells all from move files held has is.runs is.last stand retired whole q.entry.part.start r within behind)

      abbrev K : ℕ
      K = end_of (samples_ahead (from + 1) move (files ++ x ∷ []) held)

      -- whatever a list begins behind, it ends with its last sample
      pub end_some : (k : ℕ) (xs : List Sample) → xs ≢ [] → end_from k xs ≡ end_of xs
      end_some k [] some = absurd (some refl)
      end_some k (s ∷ xs) some = refl

      pub k_is : K ≡ r.entry.last + 1
      k_is =
          ap end_of ahead_with
          ∙ (end_from-append 0 (samples_ahead (from + 1) move files held) x.samples
          ∙ (end_some (samples_end) x.samples (f_some tells all from move files held has is.runs is.last stand retired whole stands is.runs.fine q filed refl r within behind)
          ∙ f_end tells all from move files held has is.runs is.last stand retired whole stands is.runs.fine q filed refl r within behind))
        where
          samples_end : ℕ
          samples_end = end_of (samples_ahead (from + 1) move files held)

      pub n_low : N ≤ K
      n_low = let high = f_behind tells all from move files held has is.runs is.last stand retired whole stands is.runs.fine q filed refl r within behind in omega (arith, high, n_is, k_is)

      pub pass_k : (s : Sample) → HoldsMoment q.entry.part s.t → passes B move.series s ≡ nat_le K s.t
      pass_k s inside = passes_if tells all from move files held has is.runs is.last stand retired whole stands is.runs.fine q filed refl r within behind s inside ∙ ap (λ (k : ℕ). nat_le k s.t) (sym k_is)

      abbrev gs : Granularity
      gs = (source tells all from move files held has is).0.granularity

      pub known : AreHeld gs (tier from held)
      known = (has.known.each from (source tells all from move files held has is).0 (source tells all from move files held has is).1).valid

      pub all_parts : AllByRecursion (IsOfRowIn gs held.rows move.series) (here.front ++ q ∷ here.back)
      all_parts = subst (AllByRecursion (IsOfRowIn gs held.rows move.series)) here.are (first_files gs held.rows move.series (length move.parts) (list_at from held) (known.filed.filed stands))

      pub rise_parts : PlacesRise (here.front ++ q ∷ here.back)
      rise_parts = subst PlacesRise here.are (rise_front ps (drop (length move.parts) (of_row move.series (list_at from held))) (subst PlacesRise (sym (take-append-drop (length move.parts) (of_row move.series (list_at from held)))) (rise_row move.series (list_at from held) known.apart)))

      pub all_later_from : (k : ℕ) → k ≤ q.entry.part.end → AllByRecursion (IsLater k) here.back
      all_later_from k end =
          let from_q = all_rest (IsOfRowIn gs held.rows move.series) here.front (q ∷ here.back) all_parts in
          later_all gs held.rows move.series q here.back k from_q.0 end (rise_rest here.front (q ∷ here.back) rise_parts) from_q.1

      module _ (more : List Filed) (copied rest : List Sample) (lines : CopiesLines most from (reviving move (Some x.entry)) nm (files ++ x ∷ []) more held copied rest) where
        pub copied_in : AllByRecursion (λ (s : Sample). HoldsMoment q.entry.part s.t) copied
        copied_in = recursion_from_All (λ (s : Sample). HoldsMoment q.entry.part s.t) copied (lines.within q (record { here = q_next.here; within = q_next.within }))

        pub highs : AllByRecursion (λ (s : Sample). K ≤ s.t) copied
        highs = all_front (λ (s : Sample). K ≤ s.t) copied rest (all_rest (λ (s : Sample). K ≤ s.t) (left_of from (reviving move (Some x.entry)) move.at (files ++ x ∷ []) held) (copied ++ rest) (subst (AllByRecursion (λ (s : Sample). K ≤ s.t)) lines.left (since_low K (of_parts ps))))

        pub k_end : K ≤ q.entry.part.end
        k_end = go copied lines.some copied_in highs
          where
            go : (xs : List Sample) → xs ≢ [] → AllByRecursion (λ (s : Sample). HoldsMoment q.entry.part s.t) xs → AllByRecursion (λ (s : Sample). K ≤ s.t) xs → K ≤ q.entry.part.end
            go [] some inside high = absurd (some refl)
            go (s ∷ xs) some inside high = let end = inside.0.1 in let at = high.0 in omega (arith, end, at)

        pub pass_late : (xs : List Sample) → AllByRecursion (λ (s : Sample). HoldsMoment q.entry.part s.t) xs → AllByRecursion (λ (s : Sample). K ≤ s.t) xs → AllByRecursion (λ (s : Sample). passes B move.series s ≡ true) xs
        pass_late [] inside high = tt
        pass_late (s ∷ xs) inside high = (pass_k s inside.0 ∙ above K s.t high.0, pass_late xs inside.1 high.1)
          where
            above : (k t : ℕ) → k ≤ t → nat_le k t ≡ true
            above k t le = grind (arith, nat_tests, le)

        pub only_late : (xs : List Sample) → AllByRecursion (λ (s : Sample). HoldsMoment q.entry.part s.t) xs → AllByRecursion (λ (s : Sample). passes B move.series s ≡ true → K ≤ s.t) xs
        only_late [] inside = tt
        only_late (s ∷ xs) inside = (λ is. below K s.t (sym (pass_k s inside.0) ∙ is), only_late xs inside.1)
          where
            below : (k t : ℕ) → nat_le k t ≡ true → k ≤ t
            below k t is = grind (arith, nat_tests, is)

        -- of the part and those behind it
        pub rest_k : since K q.samples ++ since K (of_parts here.back) ≡ copied ++ rest
        rest_k = append_cancel_left (since K (of_parts (take move.at ps))) (since K q.samples ++ since K (of_parts here.back)) (copied ++ rest)
            (sym (left_all ps move.at q here K) ∙ (lines.left ∙ ap (λ (l : List Filed). since K (of_parts l) ++ (copied ++ rest)) first_ps))

        pub past_k : past B move.series (since N q.samples ++ since N (of_parts here.back)) ≡ past B move.series (copied ++ rest)
        past_k =
            past_append B move.series (since N q.samples) (since N (of_parts here.back))
            ∙ (ap (λ (l : List Sample). l ++ past B move.series (since N (of_parts here.back))) (past_since B move.series N K q.samples n_low (only_late q.samples (recursion_from_All (λ (s : Sample). HoldsMoment q.entry.part s.t) q.samples filed.inside)))
            ∙ (ap (λ (l : List Sample). past B move.series (since K q.samples) ++ past B move.series l) (since_files N here.back (all_later_from N (omega (arith, n_low, k_end))) ∙ sym (since_files K here.back (all_later_from K k_end)))
            ∙ (sym (past_append B move.series (since K q.samples) (since K (of_parts here.back))) ∙ ap (past B move.series) rest_k)))

        pub left_copied : past B move.series (left_of from move (length move.parts) files held) ≡ copied ++ past B move.series rest
        left_copied =
            ap (past B move.series) (left_all ps move.at q here N)
            ∙ (past_append B move.series (since N (of_parts (take move.at ps))) (since N q.samples ++ since N (of_parts here.back))
            ∙ (ap (λ (l : List Sample). l ++ past B move.series (since N q.samples ++ since N (of_parts here.back))) (ap (λ (l : List Filed). past B move.series (since N (of_parts l))) (sym first_ps) ∙ skipped)
            ∙ (past_k ∙ (past_append B move.series copied rest ∙ ap (λ (l : List Sample). l ++ past B move.series rest) (past_all B move.series copied (pass_late copied copied_in highs))))))

        pub revived_is : revived B move.series copied ≡ x.samples
        revived_is = go copied lines.some copied_in
          where
            go : (xs : List Sample) → xs ≢ [] → AllByRecursion (λ (s : Sample). HoldsMoment q.entry.part s.t) xs → revived B move.series xs ≡ x.samples
            go [] some inside = absurd (some refl)
            go (s ∷ xs) some inside = some_of_part tells all from move files held has is.runs is.last stand retired whole stands is.runs.fine q filed refl r within behind s inside.0

        abbrev pub next_some : CopiesNext most from all.limbo retired move files more held copied (past B move.series rest)
        next_some = record {
          back = B;
          in_limbo = backs tells all from move files held has is.runs is.last stand retired whole stands;
          left = left_copied;
          ahead = lines.ahead ∙ (ap (λ (l : List Sample). l ++ copied) ahead_with ∙ (append_assoc (samples_ahead (from + 1) move files held) x.samples copied ∙ ap (λ (l : List Sample). samples_ahead (from + 1) move files held ++ (l ++ copied)) (sym revived_is)));
          few = lines.few;
        }

-- something is left where the samples end later
since_all_before : (k : ℕ) (xs : List Sample) → since k xs ≡ [] → AllByRecursion (λ (s : Sample). s.t < k) xs
since_all_before k [] none = tt
since_all_before k (s ∷ xs) none = by_test (since_all_before k xs) (nat_le k s.t) refl
  where
    by_test : (since k xs ≡ [] → AllByRecursion (λ (s : Sample). s.t < k) xs) → (b : Bool) → nat_le k s.t ≡ b → AllByRecursion (λ (s : Sample). s.t < k) (s ∷ xs)
    by_test rest true is = absurd (let no : s ∷ since k xs ≡ [] = sym (cond-true (nat_le k s.t) (s ∷ since k xs) (since k xs) is) ∙ none in cc (no))
    by_test rest false is = (grind (arith, nat_tests, is), rest (sym (cond-false (nat_le k s.t) (s ∷ since k xs) (since k xs) is) ∙ none))

pub since_some : (k : ℕ) (xs : List Sample) → k < end_of xs → since k xs ≢ []
since_some k xs less none = let most = inside_until k 0 xs (omega arith) (since_all_before k xs none) in omega (arith, less, most)

module _ (tells : Bool) (all : SeenAll) (from : ℕ) (move : Moving) (files : List Filed) (held : Stores) (has : Has tells all.stores held) (is : CopiesFurther from tells all move files held) (stand : LimboStands all.stores all.limbo) (retired : List Filed) (whole : AreWhole (from + 1) tells all.stores all.limbo held.stands retired)
    (q : Filed) (q_next : IsNextPart from move held q) (part : Entry) (at_hand : slice_get move.parts move.at ≡ Some part) where
  same_start : q.entry.part.start ≡ part.part.start
  same_start = ap (λ (p : Part). p.start) (q_part tells all from move files held has is q q_next part at_hand)

  -- what was found for the part as it is listed
  pub goes_behind : (revived : Option Entry) → SaysBehind all.limbo (from + 2) move.series (last_of move.pending move.listed) q.entry.part.start revived → (p : Entry) → slice_get move.parts move.at ≡ Some p → SaysBehind all.limbo (from + 2) move.series (last_of move.pending move.listed) p.part.start revived
  goes_behind revived says p p_at = subst (λ (t : ℕ). SaysBehind all.limbo (from + 2) move.series (last_of move.pending move.listed) t revived) (ap (λ (x : Part). x.start) (q_part tells all from move files held has is q q_next p p_at)) says

  module _ (r : Retired) (within : Contains all.limbo r) (behind : IsBehind (from + 2) move.series (last_of move.pending move.listed) q.entry.part.start r) where
    abbrev pub file_behind : Filed
    file_behind = f tells all from move files held has is.runs is.last stand retired whole q.entry.part.start r within behind

    pub x_entry : file_behind.entry ≡ r.entry
    x_entry = (file_is tells all from move files held has is.runs is.last stand retired whole q.entry.part.start r within behind).2

    x_holds : HoldsMoment file_behind.entry.part part.part.start
    x_holds = subst (λ (t : ℕ). HoldsMoment file_behind.entry.part t) same_start (subst (λ (e : Entry). HoldsMoment e.part q.entry.part.start) (sym x_entry) behind.holds)

    pub further_with : CopiesFurther from tells all (reviving move (Some file_behind.entry)) (files ++ file_behind ∷ []) held
    further_with = record {
      runs = runs_with tells all from move files held has is.runs is.last stand retired whole q.entry.part.start r within behind part at_hand x_holds;
      stage = is.stage;
      left = is.left;
      heads = is.heads;
      lengths = is.lengths;
      last = last_with tells all from move files held has is.runs is.last stand retired whole q.entry.part.start r within behind part at_hand x_holds;
      told = is.told;
    }

  -- something is left of a part that no file in limbo has whole
  module _ (uncovered : IsUncovered all.limbo (from + 2) move.series (last_of move.pending move.listed) q.entry) (stands : IsTrue held.stands) where
    q_is : IsFiled is.runs.fine held.rows q
    q_is = q_filed tells all from move files held has is q q_next part at_hand stands

    later_than : (k : ℕ) → k < q.entry.last + 1 → since k q.samples ≢ []
    later_than k less = since_some k q.samples (let to = q_is.to in omega (arith, less, to))

    pub later_some : (r : Retired) → Contains all.limbo r → IsBehind (from + 2) move.series (last_of move.pending move.listed) q.entry.part.start r → since (r.entry.last + 1) q.samples ≢ []
    later_some r within behind = elim uncovered [
      | inl none ↦ absurd (none r within behind)
      | inr (e, (other, other_in, other_behind, is_e), less) ↦
          let one = past_files.same_file tells all from move files held has is.runs is.last stand retired whole stands q.entry.part.start r within behind other other_in other_behind in
          let last = ap (λ (y : Entry). y.last) (one ∙ is_e) in
          later_than (r.entry.last + 1) (omega (arith, less, last))
    ]

-- a call that leaves the files with one more leaves those without it
pub further_without : (tells : Bool) (old new : SeenAll) (from : ℕ) (move : Moving) (files : List Filed) (x : Filed) (m : Moving) (held : Stores) → granularities new.stores.manifests ≡ granularities old.stores.manifests → new.limbo ≡ old.limbo → CopiesFurther from tells old move files held → CopiesFurther from tells new m (files ++ x ∷ []) held → CopiesFurther from tells new move files held
further_without tells old new from move files x m held same limbo is then = record {
  runs = runs_by (from + 1) tells old new move move files files held same refl is.runs is.runs.running is.runs.parts (λ some. some) is.runs.pending (record {
    rise = is.runs.ahead.rise;
    filed = λ g here. is.runs.ahead.filed g (ap (λ (gs : List Granularity). slice_get gs (from + 1)) (sym same) ∙ here);
    safe = λ told.
        let safe = then.runs.ahead.safe told in
        record {
          long = λ k d lt. All-contains (λ (y : Filed). HasFile new.stores.files (file_of ((from + 1) + 1, held.rows) y.entry) (λ b. y.entry.len ≤ length b)) (files ++ x ∷ []) (get_or files k d) safe.long (Contains-append_left files (x ∷ []) (get_or files k d) (Contains-get_or files k d lt));
          unopened = λ k d lt. All-contains (λ (y : Filed). new.stores.opened (file_of ((from + 1) + 1, held.rows) y.entry) ≤ y.entry.len) (files ++ x ∷ []) (get_or files k d) safe.unopened (Contains-append_left files (x ∷ []) (get_or files k d) (Contains-get_or files k d lt));
          left = λ image left stands k d lt. All-contains (IsIn ((from + 1) + 1, held.rows) image) (files ++ x ∷ []) (get_or files k d) (safe.left image left stands) (Contains-append_left files (x ∷ []) (get_or files k d) (Contains-get_or files k d lt));
        };
    longer = is.runs.ahead.longer;
    longer_retired = λ r y r_in y_in named none. is.runs.ahead.longer_retired r y (subst (λ (l : List Retired). Contains l r) limbo r_in) y_in named none;
  });
  stage = is.stage;
  left = is.left;
  heads = is.heads;
  lengths = is.lengths;
  last = is.last;
  told = is.told;
}

-- WHAT THE ANSWER SAYS

module _ (tells : Bool) (all new : SeenAll) (limbo : new.limbo ≡ all.limbo) (from : ℕ) (move : Moving) (files : List Filed) (held : Stores) (has : Has tells all.stores held) (is : CopiesFurther from tells all move files held) (stand : LimboStands all.stores all.limbo) (retired : List Filed) (whole : AreWhole (from + 1) tells all.stores all.limbo held.stands retired)
    (q : Filed) (q_next : IsNextPart from move held q) (part : Entry) (at_hand : slice_get move.parts move.at ≡ Some part) (most : ℕ) (nm : Moving) (skipped : (stands : IsTrue held.stands) → past (B tells all from move files held has is stand retired whole stands q q_next part at_hand) move.series (left_of from move move.at files held) ≡ []) where
  abbrev b : IsTrue held.stands → List Filed
  b stands = B tells all from move files held has is stand retired whole stands q q_next part at_hand

  -- limbo is as it was
  limbo_on : (more : List Filed) (copied rest : List Sample) (n : CopiesNext most from all.limbo retired move files more held copied rest) → (next : CopiesNext most from new.limbo retired move files more held copied rest) × (next.back ≡ n.back)
  limbo_on more copied rest n = (record { back = n.back; in_limbo = subst (λ (l : List Retired). AreBack (from + 1) l retired (put_all (list_at (from + 1) held) files) n.back) (sym limbo) n.in_limbo; left = n.left; ahead = n.ahead; few = n.few }, refl)

  pub part_none : SaysBehind all.limbo (from + 2) move.series (last_of move.pending move.listed) q.entry.part.start None → (end : CopyEnd) → SaysLines most from tells new move nm files held end → SaysPart most from tells new move.at retired move nm files held end
  part_none none ends.More (more, beside, said) = (
    more,
    beside,
    λ stands.
        let s = said stands in
        let next = limbo_on more s.0 (past (b stands) move.series s.1) (next_none tells all from move files held has is stand retired whole stands q q_next part at_hand most nm (skipped stands) none more s.0 s.1 s.2) in
        (s.0, past (b stands) move.series s.1, next.0, s.2.some, ap (past (b stands) move.series) (sym s.2.still), s.3, s.4, s.2.further),
  )
  part_none none ends.Copied (more, copied_all, said) = (
    more,
    copied_all,
    λ stands.
        let s = said stands in
        (s.0, (limbo_on more s.0 [] (next_none tells all from move files held has is stand retired whole stands q q_next part at_hand most nm (skipped stands) none more s.0 [] s.1)).0),
  )
  part_none none (ends.Damaged name at) damaged = damaged

  module _ (r : Retired) (within : Contains all.limbo r) (behind : IsBehind (from + 2) move.series (last_of move.pending move.listed) q.entry.part.start r) where
    abbrev y : Filed
    y = f tells all from move files held has is.runs is.last stand retired whole q.entry.part.start r within behind

    pub part_some : (end : CopyEnd) → SaysLines most from tells new (reviving move (Some y.entry)) nm (files ++ y ∷ []) held end → SaysPart most from tells new move.at retired move nm files held end
    part_some ends.More (more, beside, said) = (
      more,
      beside,
      λ stands.
          let s = said stands in
          let next = limbo_on more s.0 (past (b stands) move.series s.1) (next_some tells all from move files held has is stand retired whole stands q q_next part at_hand most nm (skipped stands) r within behind more s.0 s.1 s.2) in
          (s.0, past (b stands) move.series s.1, next.0, s.2.some, ap (past (b stands) move.series) (sym s.2.still), s.3, s.4, let low = n_low tells all from move files held has is stand retired whole stands q q_next part at_hand most nm (skipped stands) r within behind in let high = s.2.further in omega (arith, low, high)),
    )
    part_some ends.Copied (more, copied_all, said) = (
      more,
      copied_all,
      λ stands.
          let s = said stands in
          (s.0, (limbo_on more s.0 [] (next_some tells all from move files held has is stand retired whole stands q q_next part at_hand most nm (skipped stands) r within behind more s.0 [] s.1)).0),
    )
    part_some (ends.Damaged name at) damaged = record { file = damaged.file; part = damaged.part; named = damaged.named; within = damaged.within; never = damaged.never; bad = damaged.bad }

-- BY WHAT WAS FOUND

-- The part that is copied next, with the file in limbo in which its lines go on, if there is one: what is to be listed with that, and what a step over
-- it leaves and says of the move without it.
pub record Turn (tells : Bool) (all : SeenAll) (from : ℕ) (move : Moving) (files retired : List Filed) (held : Stores) (revived : Option Entry) (most : ℕ) : Type 1 where
  pub those : List Filed
  pub further : CopiesFurther from tells all (reviving move revived) those held
  pub later : IsTrue held.stands → HasLater from (reviving move revived) held
  pub goes : GoesBehind all.limbo (from + 2) move revived
  pub back : (new : SeenAll) → granularities new.stores.manifests ≡ granularities all.stores.manifests → new.limbo ≡ all.limbo → CopiesFurther from tells new (reviving move revived) those held → CopiesFurther from tells new move files held
  pub says : (new : SeenAll) (nm : Moving) (end : CopyEnd) → new.limbo ≡ all.limbo → SaysLines most from tells new (reviving move revived) nm those held end → SaysPart most from tells new move.at retired move nm files held end

module _ (tells : Bool) (all : SeenAll) (from : ℕ) (move : Moving) (files : List Filed) (held : Stores) (has : Has tells all.stores held) (is : CopiesFurther from tells all move files held) (stand : LimboStands all.stores all.limbo) (retired : List Filed) (whole : AreWhole (from + 1) tells all.stores all.limbo held.stands retired)
    (q : Filed) (q_next : IsNextPart from move held q) (part : Entry) (at_hand : slice_get move.parts move.at ≡ Some part) where
  -- something of the part is left
  turn_later : (revived : Option Entry) → SaysBehind all.limbo (from + 2) move.series (last_of move.pending move.listed) q.entry.part.start revived → IsUncovered all.limbo (from + 2) move.series (last_of move.pending move.listed) q.entry → (IsTrue held.stands → since (end_after (last_of move.pending move.listed)) q.samples ≢ []) → IsTrue held.stands → HasLater from (reviving move revived) held
  turn_later revived says uncovered first stands p p_next = go revived says
    where
      one : q ≡ p
      one = let both : ◌≡◌ {A = Option Filed} (Some q) (Some p) = sym q_next.here ∙ p_next.here in same_Some q p both

      go : (o : Option Entry) → SaysBehind all.limbo (from + 2) move.series (last_of move.pending move.listed) q.entry.part.start o → since (end_after (last_of (pending_with move.pending o) move.listed)) p.samples ≢ []
      go None says = subst (λ (y : Filed). since (end_after (last_of move.pending move.listed)) y.samples ≢ []) one (first stands)
      go (Some e) says =
          let later = later_some tells all from move files held has is stand retired whole q q_next part at_hand uncovered stands says.0 says.1 says.2 in
          let ends : says.0.entry.last + 1 ≡ end_after (last_of (move.pending ++ e ∷ []) move.listed) = ap (λ (y : Entry). y.last + 1) says.3 ∙ sym (ap end_after (last_of-push move.pending e move.listed)) in
          subst (λ (k : ℕ). since k p.samples ≢ []) ends (subst (λ (y : Filed). since (says.0.entry.last + 1) y.samples ≢ []) one later)

  pub turn : (most : ℕ) → IsUncovered all.limbo (from + 2) move.series (last_of move.pending move.listed) q.entry → (IsTrue held.stands → since (end_after (last_of move.pending move.listed)) q.samples ≢ [])
      → ((stands : IsTrue held.stands) → past (B tells all from move files held has is stand retired whole stands q q_next part at_hand) move.series (left_of from move move.at files held) ≡ [])
      → (revived : Option Entry) → SaysBehind all.limbo (from + 2) move.series (last_of move.pending move.listed) q.entry.part.start revived → Turn tells all from move files retired held revived most
  turn most uncovered first skipped None says = record {
    those = files;
    further = is;
    later = turn_later None says uncovered first;
    goes = goes_behind tells all from move files held has is stand retired whole q q_next part at_hand None says;
    back = λ new same limbo then. then;
    says = λ new nm end limbo said. part_none tells all new limbo from move files held has is stand retired whole q q_next part at_hand most nm skipped says end said;
  }
  turn most uncovered first skipped (Some e) says =
      let y = file_behind tells all from move files held has is stand retired whole q q_next part at_hand says.0 says.1 says.2 in
      let same : y.entry ≡ e = x_entry tells all from move files held has is stand retired whole q q_next part at_hand says.0 says.1 says.2 ∙ says.3 in
      record {
        those = files ++ y ∷ [];
        further = subst (λ (o : Entry). CopiesFurther from tells all (reviving move (Some o)) (files ++ y ∷ []) held) same (further_with tells all from move files held has is stand retired whole q q_next part at_hand says.0 says.1 says.2);
        later = turn_later (Some e) says uncovered first;
        goes = goes_behind tells all from move files held has is stand retired whole q q_next part at_hand (Some e) says;
        back = λ new granularity limbo then. further_without tells all new from move files y (reviving move (Some e)) held granularity limbo is then;
        says = λ new nm end limbo said.
            part_some tells all new limbo from move files held has is stand retired whole q q_next part at_hand most nm skipped says.0 says.1 says.2 end
            (subst (λ (o : Entry). SaysLines most from tells new (reviving move (Some o)) nm (files ++ y ∷ []) held end) (sym same) said);
      }

-- FROM A LINE THAT WAS FOUND

module _ (tells : Bool) (all : SeenAll) (from : ℕ) (move : Moving) (files : List Filed) (held : Stores) (has : Has tells all.stores held) (is : CopiesFurther from tells all move files held) where
  -- a line that is left is a sample that is
  pub line_later : (name : Name) (at len : ℕ) → FindsLine from tells all.stores.files move held name at len → IsTrue held.stands → HasLater from move held
  line_later name at len line stands q q_next none =
      let both : ◌≡◌ {A = Option Filed} (Some line.file) (Some q) = sym line.next.here ∙ q_next.here in
      let one : line.file ≡ q = same_Some line.file q both in
      let part = next_part tells all from move files held has is in
      let filed = q_filed tells all from move files held has is line.file line.next part.0 part.1 stands in
      let split = line.splits stands in
      let left = part_left is.runs.fine held.rows line.file (end_after (last_of move.pending move.listed)) at filed split (let low = line.low in let long = line.long in omega (arith, low, long)) in
      let all_since : since (end_after (last_of move.pending move.listed)) split.back ≡ split.back = since_all (end_after (last_of move.pending move.listed)) (end_after (last_of move.pending move.listed)) split.back left.rises (omega arith) in
      let none_of : since (end_after (last_of move.pending move.listed)) line.file.samples ≡ [] = ap (λ (y : Filed). since (end_after (last_of move.pending move.listed)) y.samples) one ∙ none in
      left.some (sym all_since ∙ rest_none _ _ (sym (since-append (end_after (last_of move.pending move.listed)) split.front split.back) ∙ (ap (since (end_after (last_of move.pending move.listed))) (sym split.split) ∙ none_of)))
    where
      rest_none : (xs ys : List Sample) → xs ++ ys ≡ [] → ys ≡ []
      rest_none [] ys is = is
      rest_none (s ∷ xs) ys is = absurd (cc (is))

-- it is the line of the part that is copied next where no part was passed
line_still : (from : ℕ) (tells : Bool) (now : Files) (move mid : Moving) (held : Stores) (line : LineLeft) → PassesParts move mid → mid.at ≡ move.at → FindsLine from tells now move held line.name line.at line.len → FindsLine from tells now mid held line.name line.at line.len
line_still from tells now move mid held line passes same found = subst (λ (x : Moving). FindsLine from tells now x held line.name line.at line.len) (sym (passes.is ∙ ap (λ (k : ℕ). record move { parts = mid.parts; at = k }) same))
    (record { file = found.file; next = record { here = found.next.here; within = found.next.within }; long = found.long; low = found.low; behind = found.behind; named = found.named; splits = found.splits; good = found.good })

pub has_line : (from : ℕ) (tells : Bool) (now : Files) (move mid : Moving) (held : Stores) (line : LineLeft) (own : Bool) (revived : Option Entry) (kept : Option LineLeft) → PassesParts move mid → (IsTrue own → mid.at ≡ move.at) → IfSome kept (λ k. (k ≡ line) × IsTrue own × (revived ≡ None))
    → FindsLine from tells now move held line.name line.at line.len → (IsTrue held.stands → HasLater from (reviving mid revived) held) → HasLine from tells now (reviving mid revived) held kept
has_line from tells now move mid held line own revived None passes same says found later = later
has_line from tells now move mid held line own revived (Some k) passes same says found later =
    subst (λ (l : LineLeft). FindsLine from tells now (reviving mid revived) held l.name l.at l.len) (sym says.0) (subst (λ (o : Option Entry). FindsLine from tells now (reviving mid o) held line.name line.at line.len) (sym says.2) (line_still from tells now move mid held line passes (same says.1) found))

-- WHERE FILES WERE READ ALONE

-- limbo of a store is as whole as it was
pub whole_read : {A E : Type 0} (i : ℕ) (tells : Bool) (old new : SeenAll) (end : End A E) (stands : Bool) (files : List Filed) → OnlyLooks tells old new end → AreWhole i tells old.stores old.limbo stands files → AreWhole i tells new.stores new.limbo stands files
whole_read {A} {E} i tells old new end stands files looks whole = subst (λ (l : List Retired). AreWhole i tells new.stores l stands files) (sym looks.limbo) (record {
  each = λ k r lt number. elim (whole.each k r lt number) [
    | inl h ↦ inl (held_kept old.stores new.stores looks.catalogue looks.manifests (get_or old.limbo k r).name 0 h)
    | inr there ↦ inr there
  ];
  from = whole.from;
  rise = whole.rise;
  filed = λ m here. subst (λ (c : CatalogueState). let T : Held = record { store = i + 1; rows = c.rows; files = files; stands = stands } in AreFiled m.granularity T) (sym looks.catalogue) (whole.filed m (ap (λ (l : List ManifestState). slice_get l i) (sym looks.manifests) ∙ here));
  safe = λ told. subst (λ (c : CatalogueState). let T : Held = record { store = i + 1; rows = c.rows; files = files; stands = stands } in AreSafe T (on_disk new.stores)) (sym looks.catalogue)
      (safe_read (store_with i old.stores stands files) (on_disk old.stores) (on_disk new.stores) (whole.safe told) (looks.reads.any_moment told) (looks.reads.files told)
      (λ k x lt. let was = (whole.safe told).unopened k x lt in let same = ap (λ (o : Name → ℕ). o (file_of (i + 1, old.stores.catalogue.rows) (get_or files k x).entry)) (looks.opened told) in omega (arith, was, same)));
})
