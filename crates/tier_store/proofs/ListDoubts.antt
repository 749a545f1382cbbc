-- A doubt whether a change of one list was made, and how the review of that manifest ends it.
use Rattle.std.proofs.Common.{◌≡◌, ◌⊎◌, inl, inr, true, false, Bool, ℕ, ◌+◌, List, map, length, Some, refl, sym, ◌∙◌, ap, subst, ◌≢◌, arith}
use Rattle.std.specs.Prelude.{IsTrue, slice_get, slice_set}
use Rattle.disk_model.specs.Files.{Name, Files}
use Rattle.disk_model.specs.Past.{Past, MayLeave, Passes}
use Rattle.gate_journal.specs.Kept.{IsKept, IsUnsure, Says, SaysEither}
use Rattle.pv_catalog.specs.Catalogue.{CatalogueState, catalogue_name}
use Rattle.pv_catalog.specs.declared.row.Row.{Row}
use Rattle.pv_catalog.specs.Rows.{IsCatalogue}
use Rattle.store_manifest.specs.declared.entry.Entry.{Entry}
use Rattle.store_manifest.specs.Batches.{Configured}
use Rattle.store_manifest.specs.Manifest.{ManifestState, manifest_name}
use Rattle.durable_write.specs.Held.{Held, entry_of}
use Rattle.durable_write.specs.Stored.{AreSafe, CatalogueStored, TierStored, Holds, AreHeld, TierUnsure}
use Rattle.durable_write.proofs.Staying.{Alone, Reads, reads_all, tier_read, unopened_same, same_cases, set_long, get_set_same, not_in, says_listed, own_long, own_stay, safe_stays}
use Rattle.tier_store.specs.Stores.{Stores, list_at, tier, with_list}
use Rattle.tier_store.specs.Seen.{Seen, seen_on, AtEach, granularities, on_disk}
use Rattle.tier_store.specs.Stored.{IsStoredAt, PlaceUnsure, HoldsAll}
use Rattle.tier_store.specs.Change.{IsKnownAt, Has, RowsInDoubt, PlaceInDoubt, Doubts, IsOpen, HasEither, HoldsEither, SameFiles}
use Rattle.tier_store.proofs.Places.{one_manifest, within_three, set_cases, tier_other}
use Rattle.disk_model.proofs.Passing.{passes_weaker}
use Rattle.gate_journal.specs.Generations.{IsOwn, AtOwn}
use Rattle.gate_journal.specs.DiskShown.{DiskShown, ReadsDisk}
use Rattle.gate_journal.proofs.Keeping.{says_stays}
use Rattle.gate_journal.proofs.Owning.{own_store}
use Rattle.partition_names.specs.declared.granularity.Granularity.{Granularity}
use Rattle.durable_write.specs.Three.{Anything, Beside}
use Rattle.durable_write.proofs.Commits.{other_journal}
use Rattle.tier_store.proofs.OnePlace.{OnStore, holds_beside, in_out, rows_beside, tier_beside}
use Rattle.tier_store.proofs.Holding.{all_hold, rows_say, tier_holds}
use Rattle.pv_catalog.specs.Catalogue as catalogue
use Rattle.store_manifest.specs.Manifest as manifest

-- A doubt, and how it ends

-- ON THE DISK

module _ (old new : DiskShown) (reads : ReadsDisk old new) where
  all : Reads old new
  all = reads_all old new reads.any_moment reads.same reads.same_opened

  tier_still : (m : ManifestState) (t : Held) → TierStored m.granularity m.journal old t → TierStored m.granularity m.journal new t
  tier_still m t stored = tier_read old new all m.granularity m.journal t stored (unopened_same t old new.opened reads.same_opened stored.safe)

-- IN MEMORY TOO

module _ {S : Type 0} (shows : S → DiskShown) (faults_of : S → ℕ) (tells : Bool) (d after : S)
    (reads : IsTrue tells → ReadsDisk (shows d) (shows after)) (c : CatalogueState) (ms : List ManifestState) (before next : Stores) where
  abbrev seen_at : CatalogueState → List ManifestState → S → Seen
  seen_at catalogue manifests x = seen_on shows faults_of catalogue manifests x

  each_still : IsTrue tells → (s : Stores) → AtEach ms (λ i m. IsStoredAt (seen_at c ms d) m (tier i s)) → AtEach ms (λ i m. IsStoredAt (seen_at c ms after) m (tier i s))
  each_still told s each i m here = tier_still _ _ (reads told) m (tier i s) (each i m here)

  -- THE ROWS

  -- the catalogue has one of the two
  rows_are : (made : CatalogueState) (s : Stores) → RowsInDoubt tells (seen_at c ms d) before next → made.journal.name ≡ c.journal.name → made.journal.sound ≡ true → made.rows ≡ s.rows → length ms ≡ 3 → AtEach ms (λ i m. IsKnownAt m (tier i s))
      → (IsTrue tells → catalogue.IsStored made (shows after)) → (IsTrue tells → (c.journal.name ≡ catalogue_name) × AtEach ms (λ i m. IsStoredAt (seen_at c ms d) m (tier i s))) → Has tells (seen_at made ms after) s
  rows_are made s doubt name sound rows three known kept disk = record {
    known = record { three = three; rows = rows; each = known };
    settled = record { catalogue = sound; manifests = doubt.sound };
    disk = λ told. record {
      rows = record { named = name ∙ (disk told).0; sound = sound; kept = subst (IsKept IsCatalogue made.journal (shows after)) rows (kept told) };
      each = each_still told s (disk told).1;
    };
  }

  rows_known : (made : CatalogueState) → Doubts tells (seen_at c ms d) before next → RowsInDoubt tells (seen_at c ms d) before next → made.journal.name ≡ c.journal.name → made.journal.sound ≡ true → (made.rows ≡ c.rows) ⊎ (made.rows ≡ c.next)
      → (IsTrue tells → catalogue.IsStored made (shows after)) → HasEither tells (seen_at made ms after) before next
  rows_known made doubt r name sound (inl old) kept = inl (rows_are made before r name sound (old ∙ doubt.known.rows) doubt.known.three doubt.known.each kept (λ told. ((r.disk told).rows.named, (r.disk told).each)))
  rows_known made doubt r name sound (inr new) kept =
      let entries : AtEach ms (λ i m. IsKnownAt m (tier i next)) = λ i m here. record { entries = (doubt.known.each i m here).entries ∙ ap (λ (s : Stores). map entry_of (list_at i s)) (sym r.same); valid = doubt.valid_after i m here } in
      inr (rows_are made next r name sound (new ∙ r.next) doubt.known.three entries kept (λ told. ((r.disk told).rows.named, (r.disk told).each_after)))

  pub rows_settled : (made : CatalogueState) → c.journal.sound ≡ false → IsOpen tells (seen_at c ms d) before next → made.journal.name ≡ c.journal.name → made.journal.sound ≡ true → (made.rows ≡ c.rows) ⊎ (made.rows ≡ c.next)
      → (IsTrue tells → catalogue.IsStored made (shows after)) → HasEither tells (seen_at made ms after) before next
  rows_settled made unsound (inl has) name sound rows kept = absurd (cc (unsound, has.settled.catalogue))
  rows_settled made unsound (inr doubt) name sound rows kept = elim doubt.change [
    | inl r ↦ rows_known made doubt r name sound rows kept
    | inr p ↦ absurd (cc (unsound, p.1.sound))
  ]

-- WHAT THE REVIEWS NEED

pub rows_in_doubt : (tells : Bool) (at : Seen) (before next : Stores) → IsOpen tells at before next → at.catalogue.journal.sound ≡ false → IsTrue tells → catalogue.IsInDoubt at.catalogue (on_disk at)
rows_in_doubt tells at before next (inl has) unsound told = absurd (cc (unsound, has.settled.catalogue))
rows_in_doubt tells at before next (inr doubt) unsound told = elim doubt.change [
  | inl r ↦ subst (λ (rows : List Row). IsUnsure IsCatalogue at.catalogue.journal (on_disk at) rows at.catalogue.next) (sym doubt.known.rows)
      (subst (IsUnsure IsCatalogue at.catalogue.journal (on_disk at) before.rows) (sym r.next) (r.disk told).rows.unsure)
  | inr p ↦ absurd (cc (unsound, p.1.sound))
]

pub list_in_doubt : (tells : Bool) (at : Seen) (before next : Stores) (i : ℕ) (m : ManifestState) → slice_get at.manifests i ≡ Some m → IsOpen tells at before next → m.journal.sound ≡ false → IsTrue tells → manifest.IsUnsure m (on_disk at)
list_in_doubt tells at before next i m here (inl has) unsound told = absurd (cc (unsound, has.settled.manifests i m here))
list_in_doubt tells at before next i m here (inr doubt) unsound told = elim doubt.change [
  | inl r ↦ absurd (cc (unsound, r.sound i m here))
  | inr p ↦ elim (same_cases i p.0) [
    | inl is ↦
        let own : p.1.manifest ≡ m = one_manifest at.manifests i p.0 m p.1.manifest (sym is) here p.1.here in
        subst (λ (x : ManifestState). manifest.IsUnsure x (on_disk at)) own (place_unsure p.0 p.1 told)
    | inr apart ↦ absurd (cc (unsound, p.1.others i m here apart))
  ]
]
  where
    place_unsure : (k : ℕ) (p : PlaceInDoubt k tells at before next) → IsTrue tells → manifest.IsUnsure p.manifest (on_disk at)
    place_unsure k p told =
        let n = p.manifest in
        subst (λ (es : List Entry). IsUnsure (Configured n.granularity) n.journal (on_disk at) es n.next) (sym (doubt.known.each k n p.here).entries)
        (subst (IsUnsure (Configured n.granularity) n.journal (on_disk at) (map entry_of (list_at k before))) (sym p.next) (p.disk told).list.unsure)

-- the review is a call on the files of one manifest alone
module _ {S : Type 0} (shows : S → DiskShown) (faults_of : S → ℕ) (tells : Bool) (d after : S) (c : CatalogueState) (ms : List ManifestState) (before next : Stores) (i : ℕ) (m made : ManifestState) (here : slice_get ms i ≡ Some m)
    (same_g : made.granularity ≡ m.granularity) (name : made.journal.name ≡ m.journal.name) (alone : IsTrue tells → Alone m.journal.name (shows d) (shows after)) where
  abbrev at : CatalogueState → List ManifestState → S → Seen
  at catalogue manifests x = seen_on shows faults_of catalogue manifests x

  abbrev set : List ManifestState
  set = slice_set ms i made

  abbrev IsNamed : Type 0
  IsNamed = m.journal.name ≡ manifest_name (i + 1)

  on_store : IsNamed → IsTrue tells → OnStore (i + 1) m.journal.name (shows d) (shows after)
  on_store named told =
      let only = alone told in
      record {
        numbered = omega arith;
        named = named;
        passes = passes_weaker (AtOwn m.journal.name Anything) (Beside (i + 1) m.journal.name) (shows d).past (shows after).past only.passes (λ a x was step n other apart. step.elsewhere n apart);
        same = λ n other apart. only.elsewhere n apart;
        fewer = only.fewer;
      }

  rows_there : IsNamed → IsTrue tells → (rows : List Row) → CatalogueStored c.journal (shows d) rows → CatalogueStored c.journal (shows after) rows
  rows_there named told rows stored = rows_beside (i + 1) m.journal.name (shows d) (shows after) (on_store named told) c.journal rows stored

  other_there : IsNamed → IsTrue tells → (k : ℕ) (n : ManifestState) (s : Stores) → k ≢ i → IsStoredAt (at c ms d) n (tier k s) → IsStoredAt (at c ms after) n (tier k s)
  other_there named told k n s apart stored =
      tier_beside (i + 1) m.journal.name (shows d) (shows after) (on_store named told) n.granularity n.journal (tier k s) (λ is. let same : k + 1 ≡ i + 1 = is in apart (omega (arith, same))) stored

  safe_there : IsNamed → IsTrue tells → (s : Stores) → AreSafe (tier i s) (shows d) → AreSafe (tier i s) (shows after)
  safe_there named told s safe =
      let only = alone told in
      let far : m.journal.name.0 ≢ i + 1 = not_in (i + 1) m.journal.name (manifest_name (i + 1)) (omega arith) named refl in
      safe_stays (tier i s) (AtOwn m.journal.name Anything) (shows d) (shows after) safe only.passes (λ a x step. own_stay (tier i s) m.journal.name Anything a x far step)
      (own_long (tier i s) m.journal.name (shows d).files (shows after).files far only.elsewhere safe.long) only.fewer

  -- what is known at each place
  known_at : (s : Stores) → made.entries ≡ map entry_of (list_at i s) → AreHeld m.granularity (tier i s) → AtEach ms (λ k n. k ≢ i → IsKnownAt n (tier k s)) → AtEach set (λ k n. IsKnownAt n (tier k s))
  known_at s entries valid others k n there = elim (set_cases ms i k m made n here there) [
    | inl is ↦ subst (λ (j : ℕ). IsKnownAt n (tier j s)) (sym is.0) (subst (λ (x : ManifestState). IsKnownAt x (tier i s)) (sym is.1) (record { entries = entries; valid = subst (λ (g : Granularity). AreHeld g (tier i s)) (sym same_g) valid }))
    | inr is ↦ others k n is.1 is.0
  ]

  -- THE REVIEW FOUND IT

  -- the manifest has one of the two
  list_is : (s : Stores) → made.journal.sound ≡ true → length ms ≡ 3 → c.rows ≡ s.rows → c.journal.sound ≡ true → AtEach ms (λ k n. k ≢ i → n.journal.sound ≡ true) → AtEach set (λ k n. IsKnownAt n (tier k s))
      → (IsTrue tells → IsNamed × CatalogueStored c.journal (shows d) s.rows × TierStored m.granularity made.journal (shows after) (tier i s) × AtEach ms (λ k n. k ≢ i → IsStoredAt (at c ms d) n (tier k s)))
      → Has tells (at c set after) s
  list_is s sound three rows rows_sound others_sound known disk = record {
    known = record { three = set_long ms i made ∙ three; rows = rows; each = known };
    settled = record {
      catalogue = rows_sound;
      manifests = λ k n there. elim (set_cases ms i k m made n here there) [
        | inl is ↦ subst (λ (x : ManifestState). x.journal.sound ≡ true) (sym is.1) sound
        | inr is ↦ others_sound k n is.1 is.0
      ];
    };
    disk = λ told.
        let had = disk told in
        record {
          rows = rows_there had.0 told s.rows had.1;
          each = λ k n there. elim (set_cases ms i k m made n here there) [
            | inl is ↦ subst (λ (j : ℕ). IsStoredAt (at c set after) n (tier j s)) (sym is.0)
                (subst (λ (x : ManifestState). IsStoredAt (at c set after) x (tier i s)) (sym is.1) (subst (λ (g : Granularity). TierStored g made.journal (shows after) (tier i s)) (sym same_g) had.2))
            | inr is ↦ other_there had.0 told k n s is.0 (had.3 k n is.1 is.0)
          ];
        };
  }

  -- what stands in doubt at this place
  unsure_here : (p : PlaceInDoubt i tells (at c ms d) before next) → IsTrue tells → PlaceUnsure i m (at c ms d) before next
  unsure_here p told = subst (λ (x : ManifestState). PlaceUnsure i x (at c ms d) before next) (one_manifest ms i i m p.manifest refl here p.here) (p.disk told)

  -- every other place is the same under both
  other_same : (p : PlaceInDoubt i tells (at c ms d) before next) → length ms ≡ 3 → (k : ℕ) (n : ManifestState) → slice_get ms k ≡ Some n → k ≢ i → tier k next ≡ tier k before
  other_same p three k n there apart = ap (tier k) p.same ∙ tier_other i k (list_at i next) before (within_three ms i m three here) (within_three ms k n three there) apart

  -- the entries that the change was to make
  next_is : (entries : List Entry) (p : PlaceInDoubt i tells (at c ms d) before next) → entries ≡ m.next → entries ≡ map entry_of (list_at i next)
  next_is entries p new = new ∙ sym (ap (λ (x : ManifestState). x.next) (one_manifest ms i i m p.manifest refl here p.here)) ∙ p.next

  list_known : made.journal.sound ≡ true → Doubts tells (at c ms d) before next → PlaceInDoubt i tells (at c ms d) before next → (made.entries ≡ m.entries) ⊎ (made.entries ≡ m.next)
      → (IsTrue tells → IsKept (Configured m.granularity) made.journal (shows after) made.entries) → HasEither tells (at c set after) before next
  list_known sound doubt p (inl old) kept =
      let is : made.entries ≡ map entry_of (list_at i before) = old ∙ (doubt.known.each i m here).entries in
      inl (list_is before sound doubt.known.three doubt.known.rows p.sound p.others (known_at before is (doubt.known.each i m here).valid (λ k n there apart. doubt.known.each k n there)) (λ told.
      let mine = unsure_here p told in (
        mine.list.named,
        mine.rows,
        record { named = name ∙ mine.list.named; sound = sound; kept = subst (IsKept (Configured m.granularity) made.journal (shows after)) is (kept told); valid = mine.list.valid; safe = safe_there mine.list.named told before mine.list.safe },
        mine.others,
      )))
  list_known sound doubt p (inr new) kept =
      let is = next_is made.entries p new in
      let same_rows : next.rows ≡ before.rows = ap (λ (s : Stores). s.rows) p.same in
      let same = other_same p doubt.known.three in
      inr (list_is next sound doubt.known.three (doubt.known.rows ∙ sym same_rows) p.sound p.others (known_at next is (doubt.valid_after i m here) (λ k n there apart. subst (λ (t : Held). IsKnownAt n t) (sym (same k n there apart)) (doubt.known.each k n there))) (λ told.
      let mine = unsure_here p told in (
        mine.list.named,
        subst (CatalogueStored c.journal (shows d)) (sym same_rows) mine.rows,
        record { named = name ∙ mine.list.named; sound = sound; kept = subst (IsKept (Configured m.granularity) made.journal (shows after)) is (kept told); valid = mine.list.valid_after; safe = safe_there mine.list.named told next mine.list.safe_after },
        λ k n there apart. subst (IsStoredAt (at c ms d) n) (sym (same k n there apart)) (mine.others k n there apart),
      )))

  -- the doubt is at this place
  at_place : Doubts tells (at c ms d) before next → m.journal.sound ≡ false → PlaceInDoubt i tells (at c ms d) before next
  at_place doubt unsound = elim doubt.change [
    | inl r ↦ absurd (cc (unsound, r.sound i m here))
    | inr p ↦ elim (same_cases i p.0) [
      | inl is ↦ subst (λ (j : ℕ). PlaceInDoubt j tells (at c ms d) before next) (sym is) p.1
      | inr apart ↦ absurd (cc (unsound, p.1.others i m here apart))
    ]
  ]

  pub list_settled : m.journal.sound ≡ false → made.journal.sound ≡ true → IsOpen tells (at c ms d) before next → (made.entries ≡ m.entries) ⊎ (made.entries ≡ m.next) → (IsTrue tells → manifest.IsKept made (shows after)) → HasEither tells (at c set after) before next
  list_settled unsound sound (inl has) entries kept = absurd (cc (unsound, has.settled.manifests i m here))
  list_settled unsound sound (inr doubt) entries kept =
      list_known sound doubt (at_place doubt unsound) entries (λ told. subst (λ (g : Granularity). IsKept (Configured g) made.journal (shows after) made.entries) same_g (kept told))

  -- THE REVIEW FAILED

  -- what is unsure stays so
  still_unsure : PlaceUnsure i m (at c ms d) before next → made.journal.sound ≡ false → made.entries ≡ map entry_of (list_at i before) → made.next ≡ map entry_of (list_at i next) → (told : IsTrue tells) → manifest.IsUnsure made (shows after) → TierUnsure made.granularity made.journal (shows after) (tier i before) (tier i next)
  still_unsure mine still is then told unsure =
      let named = mine.list.named in
      record {
        named = name ∙ named;
        unsound = still;
        unsure = subst (IsUnsure (Configured made.granularity) made.journal (shows after) (map entry_of (list_at i before))) then (subst (λ (es : List Entry). IsUnsure (Configured made.granularity) made.journal (shows after) es made.next) is unsure);
        valid = subst (λ (g : Granularity). AreHeld g (tier i before)) (sym same_g) mine.list.valid;
        valid_after = subst (λ (g : Granularity). AreHeld g (tier i next)) (sym same_g) mine.list.valid_after;
        safe = safe_there named told before mine.list.safe;
        safe_after = safe_there named told next mine.list.safe_after;
      }

  list_doubted : Doubts tells (at c ms d) before next → PlaceInDoubt i tells (at c ms d) before next → made.journal.sound ≡ false → made.entries ≡ m.entries → made.next ≡ m.next → (IsTrue tells → manifest.IsUnsure made (shows after)) → Doubts tells (at c set after) before next
  list_doubted doubt p still entries same_next unsure =
      let is : made.entries ≡ map entry_of (list_at i before) = entries ∙ (doubt.known.each i m here).entries in
      let then = next_is made.next p same_next in
      record {
        known = record { three = set_long ms i made ∙ doubt.known.three; rows = doubt.known.rows; each = known_at before is (doubt.known.each i m here).valid (λ k n there apart. doubt.known.each k n there) };
        valid_after = λ k n there. elim (set_cases ms i k m made n here there) [
          | inl at_i ↦ subst (λ (j : ℕ). AreHeld n.granularity (tier j next)) (sym at_i.0) (subst (λ (x : ManifestState). AreHeld x.granularity (tier i next)) (sym at_i.1) (subst (λ (g : Granularity). AreHeld g (tier i next)) (sym same_g) (doubt.valid_after i m here)))
          | inr other ↦ doubt.valid_after k n other.1
        ];
        change = inr (
          i,
          record {
            manifest = made;
            here = get_set_same ms i made m here;
            unsound = still;
            sound = p.sound;
            others = λ k n there apart. elim (set_cases ms i k m made n here there) [ inl at_i ↦ absurd (apart at_i.0) | inr other ↦ p.others k n other.1 apart ];
            next = then;
            same = p.same;
            disk = λ told.
                let mine = unsure_here p told in
                record {
                  rows = rows_there mine.list.named told before.rows mine.rows;
                  list = still_unsure mine still is then told (unsure told);
                  others = λ k n there apart. elim (set_cases ms i k m made n here there) [ inl at_i ↦ absurd (apart at_i.0) | inr other ↦ other_there mine.list.named told k n before apart (mine.others k n other.1 apart) ];
                };
          },
        );
      }

  pub list_open : m.journal.sound ≡ false → made.journal.sound ≡ false → IsOpen tells (at c ms d) before next → made.entries ≡ m.entries → made.next ≡ m.next → (IsTrue tells → manifest.IsUnsure made (shows after)) → IsOpen tells (at c set after) before next
  list_open unsound still (inl has) entries same_next unsure = absurd (cc (unsound, has.settled.manifests i m here))
  list_open unsound still (inr doubt) entries same_next unsure = inr (list_doubted doubt (at_place doubt unsound) still entries same_next unsure)

-- EACH IMAGE WHILE THE MANIFEST IS REVIEWED

module _ (at : Seen) (before next : Stores) (i : ℕ) (m : ManifestState) (here : slice_get at.manifests i ≡ Some m) (unsure : PlaceUnsure i m at before next) (three : length at.manifests ≡ 3) (same : next ≡ with_list i (list_at i next) before) (a image : Files) (left : MayLeave at.past a)
    (step : AtOwn m.journal.name (SaysEither (Configured m.granularity) (map entry_of (list_at i before)) (map entry_of (list_at i next)) m.journal.name) a image) where
  its : (n : Name) → IsOwn m.journal.name n → IsOwn (manifest_name (i + 1)) n
  its n own = subst (λ (x : Name). IsOwn x n) unsure.list.named own

  beside_it : Beside (i + 1) (manifest_name (i + 1)) a image
  beside_it n other apart = step.elsewhere n (λ own. apart (its n own))

  same_files : SameFiles a image
  same_files n other = step.elsewhere n (λ own. other (own_store (manifest_name (i + 1)) n (its n own)))

  rows_said : Says IsCatalogue before.rows catalogue_name image
  rows_said = says_stays IsCatalogue before.rows catalogue_name a image (λ n own. step.elsewhere n (λ mine. other_journal (i + 1) n own (its n mine))) (rows_say at.catalogue.journal (on_disk at) before.rows a unsure.rows left)

  other_holds : (k : ℕ) (n : ManifestState) → k ≢ i → slice_get at.manifests k ≡ Some n → Holds n.granularity image (tier k before)
  other_holds k n apart there =
      holds_beside (i + 1) n.granularity a image (tier k before) (omega arith) (λ is. let at_i : k + 1 ≡ i + 1 = is in apart (omega (arith, at_i))) beside_it
      (tier_holds n.granularity n.journal (on_disk at) (tier k before) a (unsure.others k n there apart) left (rows_say at.catalogue.journal (on_disk at) before.rows a unsure.rows left))

  -- at the place itself
  place_holds : (k : ℕ) (n : ManifestState) → k ≡ i → slice_get at.manifests k ≡ Some n → (s : Stores) → Holds m.granularity image (tier i s) → Holds n.granularity image (tier k s)
  place_holds k n is there s holds =
      subst (λ (j : ℕ). Holds n.granularity image (tier j s)) (sym is) (subst (λ (x : ManifestState). Holds x.granularity image (tier i s)) (sym (one_manifest at.manifests i k m n is here there)) holds)

  pub either_held : HoldsAll (granularities at.manifests) image before ⊎ HoldsAll (granularities at.manifests) image next
  either_held = elim step.here [
    | inl lists ↦ inl (all_hold at.manifests image before (λ k n there. elim (same_cases k i) [
      | inl is ↦ place_holds k n is there before (record {
        rows = rows_said;
        lists = says_listed m.granularity m.journal image (i + 1) (list_at i before) unsure.list.named lists;
        filed = unsure.list.valid.filed;
        files = in_out a image (tier i before) (omega arith) same_files (unsure.list.safe.left a left);
      })
      | inr apart ↦ other_holds k n apart there
    ]))
    | inr lists ↦ inr (all_hold at.manifests image next (λ k n there. elim (same_cases k i) [
      | inl is ↦ place_holds k n is there next (record {
        rows = subst (λ (rs : List Row). Says IsCatalogue rs catalogue_name image) (sym (ap (λ (s : Stores). s.rows) same)) rows_said;
        lists = says_listed m.granularity m.journal image (i + 1) (list_at i next) unsure.list.named lists;
        filed = unsure.list.valid_after.filed;
        files = in_out a image (tier i next) (omega arith) same_files (unsure.list.safe_after.left a left);
      })
      | inr apart ↦
          let is : tier k next ≡ tier k before = ap (tier k) same ∙ tier_other i k (list_at i next) before (within_three at.manifests i m three here) (within_three at.manifests k n three there) apart in
          subst (λ (t : Held). Holds n.granularity image t) (sym is) (other_holds k n apart there)
    ]))
  ]

pub list_moment : (tells : Bool) (at : Seen) (new : Past) (before next : Stores) (i : ℕ) (m : ManifestState) → slice_get at.manifests i ≡ Some m → IsOpen tells at before next → m.journal.sound ≡ false → IsTrue tells
    → Passes (AtOwn m.journal.name (SaysEither (Configured m.granularity) m.entries m.next m.journal.name)) at.past new → Passes (HoldsEither (granularities at.manifests) before next) at.past new
list_moment tells at new before next i m here (inl has) unsound told passes = absurd (cc (unsound, has.settled.manifests i m here))
list_moment tells at new before next i m here (inr doubt) unsound told passes = elim doubt.change [
  | inl r ↦ absurd (cc (unsound, r.sound i m here))
  | inr p ↦ elim (same_cases i p.0) [
    | inl is ↦ go (subst (λ (j : ℕ). PlaceInDoubt j tells at before next) (sym is) p.1)
    | inr apart ↦ absurd (cc (unsound, p.1.others i m here apart))
  ]
]
  where
    go : PlaceInDoubt i tells at before next → Passes (HoldsEither (granularities at.manifests) before next) at.past new
    go p =
        let own : p.manifest ≡ m = one_manifest at.manifests i i m p.manifest refl here p.here in
        let then : m.next ≡ map entry_of (list_at i next) = sym (ap (λ (x : ManifestState). x.next) own) ∙ p.next in
        let from_before = subst (λ (es : List Entry). Passes (AtOwn m.journal.name (SaysEither (Configured m.granularity) es m.next m.journal.name)) at.past new) (doubt.known.each i m here).entries passes in
        let named = subst (λ (es : List Entry). Passes (AtOwn m.journal.name (SaysEither (Configured m.granularity) (map entry_of (list_at i before)) es m.journal.name)) at.past new) then from_before in
        let unsure = subst (λ (x : ManifestState). PlaceUnsure i x at before next) own (p.disk told) in
        passes_weaker (AtOwn m.journal.name (SaysEither (Configured m.granularity) (map entry_of (list_at i before)) (map entry_of (list_at i next)) m.journal.name)) (HoldsEither (granularities at.manifests) before next) at.past new named
        (λ a image left step. either_held at before next i m here unsure doubt.known.three p.same a image left step)

-- the manifest of a place is in store 0
pub zero_named : (tells : Bool) (at : Seen) (before next : Stores) (i : ℕ) (m : ManifestState) → slice_get at.manifests i ≡ Some m → IsOpen tells at before next → IsTrue tells → m.journal.name.0 ≡ 0
zero_named tells at before next i m here (inl has) told = ap (λ (n : Name). n.0) ((has.disk told).each i m here).named
zero_named tells at before next i m here (inr doubt) told = elim doubt.change [
  | inl r ↦ ap (λ (n : Name). n.0) ((r.disk told).each i m here).named
  | inr p ↦ elim (same_cases i p.0) [
    | inl is ↦ at_doubt (subst (λ (j : ℕ). PlaceInDoubt j tells at before next) (sym is) p.1)
    | inr apart ↦ ap (λ (n : Name). n.0) ((p.1.disk told).others i m here apart).named
  ]
]
  where
    at_doubt : PlaceInDoubt i tells at before next → m.journal.name.0 ≡ 0
    at_doubt p =
        let own : p.manifest ≡ m = one_manifest at.manifests i i m p.manifest refl here p.here in
        subst (λ (x : ManifestState). x.journal.name.0 ≡ 0) own (ap (λ (n : Name). n.0) (p.disk told).list.named)
