use Rattle.std.proofs.Common.{◌≡◌, ◌+◌, ◌-◌, ◌<◌, ◌≤◌, ◌++◌, [], ◌∷◌, ℕ, List, Ok, Some, length, take, drop, get_or, ◌∙◌, sym, ap, subst, arith}
use Rattle.std.specs.Prelude.{Contains, slice_get}
use Rattle.std.proofs.lemmas.List.{append-nil, take_all}
use Rattle.std.proofs.lemmas.List.Elements.{All-get_or}
use Rattle.std.proofs.lemmas.Result.{err_from_is_err_and}
use Rattle.pins.specs.Choosing.{listed}
use Rattle.pins.specs.declared.choosing.Listed.{Listed}
use Rattle.store_manifest.specs.Manifest.{ManifestState}
use Rattle.store_manifest.specs.declared.entry.Entry.{Entry}
use Rattle.tier_store.specs.Pinning.{entries_of}
use Rattle.store_reports.specs.Check.{InspectsSome}
use Rattle.store_reports.specs.Telling.{AreTold, Remains}
use Rattle.store_reports.proofs.Telling.{leaves_none, leaves_then, shows_still, listed_at, listed_length, manifest_there, own_there, own, own_listed, one_taken, rest_taken, some_longer}
use Rattle.store_reports.proofs.inspection.check_row.Goals as goal

-- what is listed of the row, as it is seen at first and in the loop, and the entry at a place of it
record AreSeen (es counted entries : List Entry) (at : ℕ) (e : Entry) : Type 0 where
  pub all : counted ≡ es
  pub are : entries ≡ es
  pub low : at < length es
  pub is : e ≡ get_or es at e

seen_row : (ms mid : List ManifestState) (store row at : ℕ) (first now : ManifestState) (counted entries : List Entry) (e : Entry) → 1 ≤ store → mid ≡ ms → ((i : ℕ) → store ≡ i + 1 → slice_get ms i ≡ Some first) → ((i : ℕ) → store ≡ i + 1 → slice_get mid i ≡ Some now)
    → counted ≡ own first.entries row → entries ≡ own now.entries row → at < length counted → e ≡ get_or entries at e → AreSeen (entries_of row (slice_get ms (store - 1))) counted entries at e
seen_row ms mid store row at first now counted entries e low same here there count are within is =
    let es = entries_of row (slice_get ms (store - 1)) in
    let all : counted ≡ es = own_there ms store row first counted low here count in
    let seen : entries ≡ es = own_there mid store row now entries low there are ∙ ap (λ (l : List ManifestState). entries_of row (slice_get l (store - 1))) same in
    record { all = all; are = seen; low = subst (λ (l : List Entry). at < length l) all within; is = subst (λ (l : List Entry). e ≡ get_or l at e) seen is }

pub manifest-requires-in-loop-at-clause-last : goal.manifest-requires-in-loop-at-clause-last
manifest-requires-in-loop-at-clause-last g c =
    let three = c.requires.has.1.known.three in
    let same = ap (λ m. length m.items) c.loop-at.invariant.leaves.stores.manifests in
    omega (arith, three, same, c.requires.last)

pub bounds-entries-at : goal.bounds-entries-at
bounds-entries-at g c =
    let n = c.args.number in
    let row = c.args.row in
    let lists = ap (λ v. v.items) c.loop-at.invariant.leaves.stores.manifests in
    let all = own_there c.args.store.now.manifests.items n row c.manifest.result.now c.entries-count.result.now c.requires.first c.manifest.ensures c.entries-count.ensures in
    let are = own_there c.loop-at.store.manifests.items n row c.manifest-in-loop-at.result.now c.entries-entries.result.now c.requires.first c.manifest-in-loop-at.ensures c.entries-entries.ensures in
    let same = all ∙ sym (are ∙ ap (λ (l : List ManifestState). entries_of row (slice_get l (n - 1))) lists) in
    subst (λ (l : List Entry). c.loop-at.at < length l) same c.loop-at-test.true

pub loop-at-init : goal.loop-at-init
loop-at-init g c = record {
  told = λ rows files shows before a told. subst (λ (l : List Listed). AreTold g.D.Disk.tells rows files l a (g.K.Sink.written c.args.sink.now) c.args.report.now.buffer c.args.report.now.first) (sym (append-nil before)) told;
  leaves = leaves_none g.D.Disk g.D.Reader.ReadAt.faults _ _;
}

pub check_entry-requires-clause-listed : goal.check_entry-requires-clause-listed
check_entry-requires-clause-listed g c =
    let mid = c.loop-at.store.manifests.items in
    let m = c.manifest-in-loop-at.result.now in
    let n = c.args.number in
    let e = c.index-entries-at.result in
    let seen = seen_row c.args.store.now.manifests.items mid n c.args.row c.loop-at.at c.manifest.result.now m c.entries-count.result.now c.entries-entries.result.now e c.requires.first (ap (λ v. v.items) c.loop-at.invariant.leaves.stores.manifests) c.manifest.ensures c.manifest-in-loop-at.ensures c.entries-count.ensures c.entries-entries.ensures c.loop-at-test.true c.index-entries-at.is in
    let rows = own m.entries c.args.row in
    let mine : e ≡ get_or rows c.loop-at.at e = subst (λ (l : List Entry). e ≡ get_or l c.loop-at.at e) c.entries-entries.ensures c.index-entries-at.is in
    let long = ap length (sym c.entries-entries.ensures ∙ seen.are) in
    let low = seen.low in
    record {
      place = n - 1;
      manifest = m;
      is = omega (arith, c.requires.first);
      here = manifest_there mid n m c.requires.first c.manifest-in-loop-at.ensures;
      listed = subst (Contains m.entries) (sym mine) (All-get_or (Contains m.entries) rows c.loop-at.at e (omega (arith, long, low)) (own_listed m.entries c.args.row));
    }

pub check_entry-requires-clause-has : goal.check_entry-requires-clause-has
check_entry-requires-clause-has g c = let was = c.requires.has in (was.0, c.loop-at.invariant.leaves.stores.has was.0 was.1)

pub returns-in_err-check_entry-clause-told : goal.returns-in_err-check_entry-clause-told
returns-in_err-check_entry-clause-told g c rows files shows before a told =
    let known = c.loop-at.invariant in
    let n = c.args.number in
    let at = c.loop-at.at in
    let e = c.index-entries-at.result in
    let ms = c.args.store.now.manifests.items in
    let es = entries_of c.args.row (slice_get ms (n - 1)) in
    let seen = seen_row ms c.loop-at.store.manifests.items n c.args.row at c.manifest.result.now c.manifest-in-loop-at.result.now c.entries-count.result.now c.entries-entries.result.now e c.requires.first (ap (λ v. v.items) known.leaves.stores.manifests) c.manifest.ensures c.manifest-in-loop-at.ensures c.entries-count.ensures c.entries-entries.ensures c.loop-at-test.true c.index-entries-at.is in
    let low = seen.low in
    let within : at < length (listed n es) = omega (arith, low, listed_length n es) in
    let file : Listed = record { store = n; entry = e } in
    let is = listed_at n es at e seen.low seen.is in
    let p = err_from_is_err_and c.from_residual.result c.from_residual.ensures.1 in
    let stopped = c.in_err-check_entry.ensures.told rows files (shows_still g.D.Disk g.D.Reader.ReadAt.faults _ _ _ _ _ rows files known.leaves shows) (before ++ take at (listed n es)) a (known.told rows files shows before a told) in
    let P = Remains c.in_err-check_entry.field-0.0 a (g.K.Sink.written c.check_entry.new.sink) c.check_entry.new.report.buffer in
    rw (p.1, p.2) (subst (λ (l : List Listed). InspectsSome g.D.Disk.tells rows files l P) (rest_taken before (listed n es) at file within is) (some_longer g.D.Disk.tells rows files ((before ++ take at (listed n es)) ++ file ∷ []) (drop (at + 1) (listed n es)) P stopped))

pub returns-in_err-check_entry-clause-leaves : goal.returns-in_err-check_entry-clause-leaves
returns-in_err-check_entry-clause-leaves g c =
    let p = err_from_is_err_and c.from_residual.result c.from_residual.ensures.1 in
    rw (p.1, p.2) (leaves_then g.D.Disk g.D.Reader.ReadAt.faults _ _ _ _ _ _ _ _ c.loop-at.invariant.leaves c.in_err-check_entry.ensures.leaves)

pub loop-at-preserved : goal.loop-at-preserved
loop-at-preserved g c =
    let known = c.loop-at.invariant in
    let n = c.args.number in
    let at = c.loop-at.at in
    let e = c.index-entries-at.result in
    let ms = c.args.store.now.manifests.items in
    let es = entries_of c.args.row (slice_get ms (n - 1)) in
    let seen = seen_row ms c.loop-at.store.manifests.items n c.args.row at c.manifest.result.now c.manifest-in-loop-at.result.now c.entries-count.result.now c.entries-entries.result.now e c.requires.first (ap (λ v. v.items) known.leaves.stores.manifests) c.manifest.ensures c.manifest-in-loop-at.ensures c.entries-count.ensures c.entries-entries.ensures c.loop-at-test.true c.index-entries-at.is in
    let low = seen.low in
    let within : at < length (listed n es) = omega (arith, low, listed_length n es) in
    let is = listed_at n es at e seen.low seen.is in
    record {
      told = λ rows files shows before a told.
          let more = c.in_ok-check_entry.ensures.told rows files (shows_still g.D.Disk g.D.Reader.ReadAt.faults _ _ _ _ _ rows files known.leaves shows) (before ++ take at (listed n es)) a (known.told rows files shows before a told) in
          subst (λ (l : List Listed). AreTold g.D.Disk.tells rows files l a (g.K.Sink.written c.check_entry.new.sink) c.check_entry.new.report.buffer c.check_entry.new.report.first) (one_taken before (listed n es) at (record { store = n; entry = e }) within is) more;
      leaves = leaves_then g.D.Disk g.D.Reader.ReadAt.faults _ _ _ _ _ _ _ (Ok tt) known.leaves c.in_ok-check_entry.ensures.leaves;
    }

pub returns-clause-told : goal.returns-clause-told
returns-clause-told g c rows files shows before a told =
    let n = c.args.number in
    let ms = c.args.store.now.manifests.items in
    let es = entries_of c.args.row (slice_get ms (n - 1)) in
    let all = own_there ms n c.args.row c.manifest.result.now c.entries-count.result.now c.requires.first c.manifest.ensures c.entries-count.ensures in
    let long = ap length all in
    let high = c.loop-at-test.false in
    subst (λ (l : List Listed). AreTold g.D.Disk.tells rows files (before ++ l) a (g.K.Sink.written c.loop-at.sink) c.loop-at.report.buffer c.loop-at.report.first) (take_all c.loop-at.at (listed n es) (omega (arith, long, high, listed_length n es))) (c.loop-at.invariant.told rows files shows before a told)
