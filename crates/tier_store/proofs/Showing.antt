-- What is listed to a length stays listed to it, and keeps its bytes, through the calls that change the stores. Where the oldest files of a row are
-- dropped from a list, what is pinned of them is in limbo.
use Rattle.std.proofs.Common.{◌≡◌, ◌⊎◌, inl, inr, false, Bool, ℕ, ◌<◌, ◌≤◌, ◌+◌, ◌++◌, List, [], ◌∷◌, length, map, get_or, Some, refl, sym, ◌∙◌, ap, subst, arith, ◌≢◌, true, cond, ◌==◌, zero, suc, filter, take, Option, None}
use Rattle.std.specs.Prelude.{Contains, IsTrue, slice_get, All, nat_eq}
use Rattle.std.proofs.lemmas.List.Elements.{All-contains, Contains-get_or, All-map, Contains-append_left, Contains-append_right}
use Rattle.disk_model.specs.Files.{Name, Files}
use Rattle.pb_messages.specs.declared.about.About.{About}
use Rattle.pb_messages.specs.declared.about.State.{State}
use Rattle.gate_journal.specs.Generations.{IsOwn}
use Rattle.gate_journal.specs.DiskShown.{DiskShown}
use Rattle.gate_journal.proofs.Owning.{own_store}
use Rattle.pv_catalog.specs.Catalogue.{CatalogueState, registered, renamed}
use Rattle.pv_catalog.specs.Rows.{KeepsRows, switched}
use Rattle.pv_catalog.specs.declared.row.Row.{Row}
use Rattle.pv_catalog.proofs.Standing.{keeps_more, keeps_same, keeps_switched}
use Rattle.store_files.specs.Fronts.{Begins}
use Rattle.store_manifest.specs.declared.entry.Entry.{Entry}
use Rattle.store_manifest.specs.Manifest.{ManifestState}
use Rattle.durable_write.specs.Ends.{End, Done, Refused, Failed, Spent}
use Rattle.durable_write.specs.Held.{Filed, Held, Listing, IsListed, IsListedTo, ListsStill, entry_of, file_of, listing_of, filed_at}
use Rattle.durable_write.proofs.Places.{keeps_renamed, listed_at, is_place-same}
use Rattle.durable_write.proofs.Staying.{file_grows, contains_map, same_cases, same_place}
use Rattle.tier_store.specs.Stores.{Stores, list_at, tier, with_rows}
use Rattle.tier_store.specs.Seen.{Seen, seen_on}
use Rattle.tier_store.specs.Change.{IsKnown, Has, Doubts, IsOpen, HasEither, StoreCall, EndsFrom, Changes, Registers, Renames, Switches, CanList}
use Rattle.tier_store.specs.Pinned.{SeenAll, beside, listing_at, IsHeldTo, NoneShorter, IsNoShorter, IsRetiredTo, IsThereTo, KeepsShown, KeepsFronts}
use Rattle.tier_store.specs.declared.limbo.Retired.{Retired}
use Rattle.tier_store.proofs.Places.{within_three, one_manifest, tier_other, manifest_at, tier_set}
use Rattle.std.proofs.lemmas.Bool.{cases_order}
use Rattle.std.proofs.lemmas.Bool.Decides.{nat_tests}
use Rattle.std.proofs.lemmas.List.{take-map}
use Rattle.store_manifest.specs.Entries.{Place, place, comes_before, without}
use Rattle.store_manifest.specs.declared.entry.Change.{Change}
use Rattle.durable_write.specs.Ahead.{drop_of, without_all}
use Rattle.durable_write.specs.Flush.{PlacesRise, is_place, file_at}
use Rattle.durable_write.specs.Plan.{of_row}
use Rattle.durable_write.proofs.Commits.{filter-map, all_without_all}
use Rattle.tier_store.specs.Retiring.{oldest, oldest_entries, without_oldest, drop_entry, retired_of, dropping}
use Rattle.tier_store.proofs.Holding.{may_drop}
use Rattle.durable_write.proofs.Written.{contains_entry, one_of_place}
pub use Rattle.durable_write.proofs.Written.{contains_filter}

-- LISTS

-- the stores list the name to this length at a place
abbrev pub ListsTo : ℕ → Stores → Name → ℕ → Type 0
ListsTo place s name len = IsListedTo (listing_of (tier place s)) name len

-- so do these entries there, under these rows
abbrev pub Lists : ℕ → List Row → List Entry → Name → ℕ → Type 0
Lists place rows es name len = IsListedTo ((place + 1, rows), es) name len

-- what is listed still is so to the length
still_to : (old new : Listing) (name : Name) (len : ℕ) → ListsStill old new → IsListedTo old name len → IsListedTo new name len
still_to old new name len still to =
    let more = All-contains (λ (e : Entry). IsListedTo new (file_of old.0 e) e.len) old.1 to.entry still to.within in
    let le = to.longer in
    let le₂ = more.longer in
    record { entry = more.entry; within = more.within; named = more.named ∙ to.named; longer = omega (arith, le, le₂) }

-- the entries of the same files under rows that went on
grown_to : (place : ℕ) (s : Stores) (later : List Row) (name : Name) (len : ℕ) → ((f : Filed) → Contains (list_at place s) f → file_of (place + 1, later) f.entry ≡ file_of (place + 1, s.rows) f.entry) → ListsTo place s name len → IsListedTo ((place + 1, later), map entry_of (list_at place s)) name len
grown_to place s later name len grows to =
    let f = contains_map (list_at place s) to.entry to.within in
    record {
      entry = to.entry;
      within = to.within;
      named = subst (λ (e : Entry). file_of (place + 1, later) e ≡ file_of (place + 1, s.rows) e) f.2 (grows f.0 f.1) ∙ to.named;
      longer = to.longer;
    }

-- MEMORY AND STORES

-- what the memory lists, the stores have
pub known_to : (at : Seen) (s : Stores) (place : ℕ) (m : ManifestState) (name : Name) (len : ℕ) → IsKnown at.catalogue at.manifests s → slice_get at.manifests place ≡ Some m → IsListedTo (listing_at at place m.entries) name len → ListsTo place s name len
known_to at s place m name len known here to =
    subst (λ (es : List Entry). Lists place s.rows es name len) (known.each place m here).entries (subst (λ (r : List Row). Lists place r m.entries name len) known.rows to)

to_known : (at : Seen) (s : Stores) (place : ℕ) (m : ManifestState) (name : Name) (len : ℕ) → IsKnown at.catalogue at.manifests s → slice_get at.manifests place ≡ Some m → ListsTo place s name len → IsListedTo (listing_at at place m.entries) name len
to_known at s place m name len known here to =
    subst (λ (r : List Row). Lists place r m.entries name len) (sym known.rows) (subst (λ (es : List Entry). Lists place s.rows es name len) (sym (known.each place m here).entries) to)

-- where nothing stands in doubt
pub has_held : (tells : Bool) (at : Seen) (s : Stores) (place : ℕ) (name : Name) (len : ℕ) → Has tells at s → place < 3 → ListsTo place s name len → IsHeldTo at name len
has_held tells at s place name len has low to =
    let m = manifest_at at.manifests place (let three = has.known.three in omega (arith, low, three)) in
    record { place = place; manifest = m.0; here = m.1; listed = to_known at s place m.0 name len has.known m.1 to; in_doubt = λ unsound. absurd (cc (unsound, has.settled.manifests place m.0 m.1)); rows_in_doubt = λ unsound. absurd (cc (unsound, has.settled.catalogue)) }

-- HOW A CHANGE GOES ON

-- the rows stay, and what was listed is listed still; or the lists stay, and the rows go on
abbrev pub GoesOn : Stores → Stores → Type 0
GoesOn held made = ((made.rows ≡ held.rows) × ((place : ℕ) → place < 3 → ListsStill (listing_of (tier place held)) (listing_of (tier place made)))) ⊎ ((made ≡ with_rows held made.rows) × KeepsRows held.rows made.rows)

pub low_of : (at : Seen) (s : Stores) (place : ℕ) (m : ManifestState) → IsKnown at.catalogue at.manifests s → slice_get at.manifests place ≡ Some m → place < 3
low_of at s place m known here = within_three at.manifests place m known.three here

-- rows that go on keep the names of the files of a known list
names_grow : (at : Seen) (s : Stores) (place : ℕ) (m : ManifestState) (later : List Row) → IsKnown at.catalogue at.manifests s → slice_get at.manifests place ≡ Some m → KeepsRows s.rows later → (f : Filed) → Contains (list_at place s) f → file_of (place + 1, later) f.entry ≡ file_of (place + 1, s.rows) f.entry
names_grow at s place m later known here keeps f within =
    file_grows m.granularity (place + 1) s.rows later f keeps (All-contains (IsListed m.granularity s.rows) (list_at place s) f (known.each place m here).valid.filed.listed within)

goes_to : (at : Seen) (held made : Stores) (place : ℕ) (m : ManifestState) (name : Name) (len : ℕ) → IsKnown at.catalogue at.manifests held → slice_get at.manifests place ≡ Some m → GoesOn held made → ListsTo place held name len → ListsTo place made name len
goes_to at held made place m name len known here (inl stays) to = still_to (listing_of (tier place held)) (listing_of (tier place made)) name len (stays.1 place (low_of at held place m known here)) to
goes_to at held made place m name len known here (inr grows) to = subst (λ (s : Stores). ListsTo place s name len) (sym grows.0) (grown_to place held made.rows name len (names_grow at held place m made.rows known here grows.1) to)

-- where a change stands in doubt
pub doubts_held : (tells : Bool) (at : Seen) (held made : Stores) (place : ℕ) (name : Name) (len : ℕ) → Doubts tells at held made → place < 3 → ListsTo place held name len → ListsTo place made name len → IsHeldTo at name len
doubts_held tells at held made place name len doubt low to to_made =
    let m = manifest_at at.manifests place (let three = doubt.known.three in omega (arith, low, three)) in
    record {
      place = place;
      manifest = m.0;
      here = m.1;
      listed = to_known at held place m.0 name len doubt.known m.1 to;
      in_doubt = λ unsound. elim doubt.change [
        | inl r ↦ absurd (cc (unsound, r.sound place m.0 m.1))
        | inr p ↦ elim (same_cases place p.0) [
          | inl is ↦
              let own : p.1.manifest ≡ m.0 = one_manifest at.manifests place p.0 m.0 p.1.manifest (sym is) m.1 p.1.here in
              let next : m.0.next ≡ map entry_of (list_at place made) = sym (ap (λ (x : ManifestState). x.next) own) ∙ p.1.next ∙ ap (λ (j : ℕ). map entry_of (list_at j made)) (sym is) in
              let rows : at.catalogue.rows ≡ made.rows = doubt.known.rows ∙ sym (ap (λ (s : Stores). s.rows) p.1.same) in
              subst (λ (es : List Entry). Lists place at.catalogue.rows es name len) (sym next) (subst (λ (r : List Row). Lists place r (map entry_of (list_at place made)) name len) (sym rows) to_made)
          | inr apart ↦ absurd (cc (unsound, p.1.others place m.0 m.1 apart))
        ]
      ];
      rows_in_doubt = λ unsound. elim doubt.change [
        | inl r ↦
            let lists : m.0.entries ≡ map entry_of (list_at place made) = (doubt.known.each place m.0 m.1).entries ∙ ap (λ (s : Stores). map entry_of (list_at place s)) (sym r.same) in
            subst (λ (es : List Entry). Lists place at.catalogue.next es name len) (sym lists) (subst (λ (rs : List Row). Lists place rs (map entry_of (list_at place made)) name len) (sym r.next) to_made)
        | inr p ↦ absurd (cc (unsound, p.1.sound))
      ];
    }

-- what comes after the doubtful change lists it too
pub after_to : (tells : Bool) (at : Seen) (before after : Stores) (name : Name) (len : ℕ) → Doubts tells at before after → (h : IsHeldTo at name len) → ListsTo h.place after name len
after_to tells at before after name len doubt h = elim doubt.change [
  | inl r ↦
      let lists : h.manifest.entries ≡ map entry_of (list_at h.place after) = (doubt.known.each h.place h.manifest h.here).entries ∙ ap (λ (s : Stores). map entry_of (list_at h.place s)) (sym r.same) in
      subst (λ (es : List Entry). Lists h.place after.rows es name len) lists (subst (λ (rs : List Row). Lists h.place rs h.manifest.entries name len) r.next (h.rows_in_doubt r.unsound))
  | inr p ↦ elim (same_cases h.place p.0) [
    | inl is ↦
        let own : p.1.manifest ≡ h.manifest = one_manifest at.manifests h.place p.0 h.manifest p.1.manifest (sym is) h.here p.1.here in
        let unsound : h.manifest.journal.sound ≡ false = sym (ap (λ (x : ManifestState). x.journal.sound) own) ∙ p.1.unsound in
        let next : h.manifest.next ≡ map entry_of (list_at h.place after) = sym (ap (λ (x : ManifestState). x.next) own) ∙ p.1.next ∙ ap (λ (j : ℕ). map entry_of (list_at j after)) (sym is) in
        let rows : at.catalogue.rows ≡ after.rows = doubt.known.rows ∙ sym (ap (λ (s : Stores). s.rows) p.1.same) in
        subst (λ (es : List Entry). Lists h.place after.rows es name len) next (subst (λ (r : List Row). Lists h.place r h.manifest.next name len) rows (h.in_doubt unsound))
    | inr apart ↦
        let low = low_of at before h.place h.manifest doubt.known h.here in
        let low_too = low_of at before p.0 p.1.manifest doubt.known p.1.here in
        let same : tier h.place after ≡ tier h.place before = ap (tier h.place) p.1.same ∙ tier_other p.0 h.place (list_at p.0 after) before low_too low apart in
        subst (λ (t : Held). IsListedTo (listing_of t) name len) (sym same) (known_to at before h.place h.manifest name len doubt.known h.here h.listed)
  ]
]

-- THE SETTLING

settled_doubt : (tells : Bool) (old new : Seen) (before after : Stores) (name : Name) (len : ℕ) → Doubts tells old before after → HasEither tells new before after → IsHeldTo old name len → IsHeldTo new name len
settled_doubt tells old new before after name len doubt (inl has) h =
    has_held tells new before h.place name len has (low_of old before h.place h.manifest doubt.known h.here) (known_to old before h.place h.manifest name len doubt.known h.here h.listed)
settled_doubt tells old new before after name len doubt (inr has) h =
    has_held tells new after h.place name len has (low_of old before h.place h.manifest doubt.known h.here) (after_to tells old before after name len doubt h)

pub settled_held : (tells : Bool) (old new : Seen) (before after : Stores) (name : Name) (len : ℕ) → IsOpen tells old before after → ((x y : Stores) → IsOpen tells old x y → HasEither tells new x y) → IsHeldTo old name len → IsHeldTo new name len
settled_held tells old new before after name len (inl has) settled h = elim (settled before before (inl has)) [
  | inl now ↦ has_held tells new before h.place name len now (low_of old before h.place h.manifest has.known h.here) (known_to old before h.place h.manifest name len has.known h.here h.listed)
  | inr now ↦ has_held tells new before h.place name len now (low_of old before h.place h.manifest has.known h.here) (known_to old before h.place h.manifest name len has.known h.here h.listed)
]
settled_held tells old new before after name len (inr doubt) settled h = settled_doubt tells old new before after name len doubt (settled before after (inr doubt)) h

pub still_held : (tells : Bool) (old new : Seen) (before after : Stores) (name : Name) (len : ℕ) → IsOpen tells old before after → ((x y : Stores) → IsOpen tells old x y → IsOpen tells new x y) → IsHeldTo old name len → IsHeldTo new name len
still_held tells old new before after name len (inl has) still h = go (still before before (inl has))
  where
    low : h.place < 3
    low = low_of old before h.place h.manifest has.known h.here

    to : ListsTo h.place before name len
    to = known_to old before h.place h.manifest name len has.known h.here h.listed

    go : IsOpen tells new before before → IsHeldTo new name len
    go (inl now) = has_held tells new before h.place name len now low to
    go (inr doubt) = doubts_held tells new before before h.place name len doubt low to to
still_held tells old new before after name len (inr was) still h = go (still before after (inr was))
  where
    low : h.place < 3
    low = low_of old before h.place h.manifest was.known h.here

    to : ListsTo h.place before name len
    to = known_to old before h.place h.manifest name len was.known h.here h.listed

    go : IsOpen tells new before after → IsHeldTo new name len
    go (inl now) = has_held tells new before h.place name len now low to
    go (inr doubt) = doubts_held tells new before after h.place name len doubt low to (after_to tells old before after name len was h)

-- A CALL'S OWN CHANGE

pub ends_held : {A E : Type 0} (tells : Bool) (call : StoreCall A E) (old new : Seen) (held : Stores) (end : End A E) (name : Name) (len : ℕ) → Has tells old held → ((made : Stores) → call.by held made → GoesOn held made) → EndsFrom tells call new held end → IsHeldTo old name len → IsHeldTo new name len
ends_held {A} {E} tells call old new held end name len has goes ends h = go end ends
  where
    low : h.place < 3
    low = low_of old held h.place h.manifest has.known h.here

    to : ListsTo h.place held name len
    to = known_to old held h.place h.manifest name len has.known h.here h.listed

    go : (end : End A E) → EndsFrom tells call new held end → IsHeldTo new name len
    go (Done a) (made, by, says, now) = has_held tells new made h.place name len now low (goes_to old held made h.place h.manifest name len has.known h.here (goes made by) to)
    go (Refused e) (now, refuses) = has_held tells new held h.place name len now low to
    go Failed (inl now) = has_held tells new held h.place name len now low to
    go Failed (inr (made, by, doubt)) = doubts_held tells new held made h.place name len doubt low to (goes_to old held made h.place h.manifest name len has.known h.here (goes made by) to)
    go Spent now = has_held tells new held h.place name len now low to

-- NOWHERE LISTED SHORTER

-- where the stores list the name, they do so to this length at least
abbrev pub Spares : Stores → Name → ℕ → Type 0
Spares s name len = (k : ℕ) → k < 3 → NoneShorter (listing_of (tier k s)) name len

-- so do these entries at a place, under these rows
abbrev ShortAt : ℕ → List Row → Name → ℕ → List Entry → Type 0
ShortAt place rows name len es = NoneShorter ((place + 1, rows), es) name len

pub known_spares : (at : Seen) (s : Stores) (name : Name) (len : ℕ) → IsKnown at.catalogue at.manifests s → IsNoShorter at name len → Spares s name len
known_spares at s name len known short k low =
    let m = manifest_at at.manifests k (let three = known.three in omega (arith, low, three)) in
    subst (ShortAt k s.rows name len) (known.each k m.0 m.1).entries (subst (λ (r : List Row). ShortAt k r name len m.0.entries) known.rows (short.listed k m.0 m.1))

spares_known : (at : Seen) (s : Stores) (name : Name) (len : ℕ) → IsKnown at.catalogue at.manifests s → Spares s name len → (k : ℕ) (m : ManifestState) → slice_get at.manifests k ≡ Some m → NoneShorter (listing_at at k m.entries) name len
spares_known at s name len known spares k m here =
    subst (λ (r : List Row). ShortAt k r name len m.entries) (sym known.rows) (subst (ShortAt k s.rows name len) (sym (known.each k m here).entries) (spares k (low_of at s k m known here)))

pub has_spares : (tells : Bool) (at : Seen) (s : Stores) (name : Name) (len : ℕ) → Has tells at s → Spares s name len → IsNoShorter at name len
has_spares tells at s name len has spares = record {
  listed = spares_known at s name len has.known spares;
  in_doubt = λ k m here unsound. absurd (cc (unsound, has.settled.manifests k m here));
  rows_in_doubt = λ unsound. absurd (cc (unsound, has.settled.catalogue));
}

-- so does what comes after the doubtful change
pub after_spares : (tells : Bool) (at : Seen) (before after : Stores) (name : Name) (len : ℕ) → Doubts tells at before after → IsNoShorter at name len → Spares after name len
after_spares tells at before after name len doubt short k low = elim doubt.change [
  | inl r ↦
      let lists : m.0.entries ≡ map entry_of (list_at k after) = (doubt.known.each k m.0 m.1).entries ∙ ap (λ (s : Stores). map entry_of (list_at k s)) (sym r.same) in
      subst (ShortAt k after.rows name len) lists (subst (λ (rs : List Row). ShortAt k rs name len m.0.entries) r.next (short.rows_in_doubt r.unsound k m.0 m.1))
  | inr p ↦ elim (same_cases k p.0) [
    | inl is ↦
        let own : p.1.manifest ≡ m.0 = one_manifest at.manifests k p.0 m.0 p.1.manifest (sym is) m.1 p.1.here in
        let unsound : m.0.journal.sound ≡ false = sym (ap (λ (x : ManifestState). x.journal.sound) own) ∙ p.1.unsound in
        let next : m.0.next ≡ map entry_of (list_at k after) = sym (ap (λ (x : ManifestState). x.next) own) ∙ p.1.next ∙ ap (λ (j : ℕ). map entry_of (list_at j after)) (sym is) in
        let rows : at.catalogue.rows ≡ after.rows = doubt.known.rows ∙ sym (ap (λ (s : Stores). s.rows) p.1.same) in
        subst (ShortAt k after.rows name len) next (subst (λ (r : List Row). ShortAt k r name len m.0.next) rows (short.in_doubt k m.0 m.1 unsound))
    | inr apart ↦
        let low_too = low_of at before p.0 p.1.manifest doubt.known p.1.here in
        let same : tier k after ≡ tier k before = ap (tier k) p.1.same ∙ tier_other p.0 k (list_at p.0 after) before low_too low apart in
        subst (λ (t : Held). NoneShorter (listing_of t) name len) (sym same) (known_spares at before name len doubt.known short k low)
  ]
]
  where
    m : (m : ManifestState) × (slice_get at.manifests k ≡ Some m)
    m = manifest_at at.manifests k (let three = doubt.known.three in omega (arith, low, three))

-- where a change stands in doubt
pub doubts_spares : (tells : Bool) (at : Seen) (held made : Stores) (name : Name) (len : ℕ) → Doubts tells at held made → Spares held name len → Spares made name len → IsNoShorter at name len
doubts_spares tells at held made name len doubt spares spares_made = record {
  listed = spares_known at held name len doubt.known spares;
  in_doubt = λ k m here unsound. elim doubt.change [
    | inl r ↦ absurd (cc (unsound, r.sound k m here))
    | inr p ↦ elim (same_cases k p.0) [
      | inl is ↦
          let own : p.1.manifest ≡ m = one_manifest at.manifests k p.0 m p.1.manifest (sym is) here p.1.here in
          let next : m.next ≡ map entry_of (list_at k made) = sym (ap (λ (x : ManifestState). x.next) own) ∙ p.1.next ∙ ap (λ (j : ℕ). map entry_of (list_at j made)) (sym is) in
          let rows : at.catalogue.rows ≡ made.rows = doubt.known.rows ∙ sym (ap (λ (s : Stores). s.rows) p.1.same) in
          subst (ShortAt k at.catalogue.rows name len) (sym next) (subst (λ (r : List Row). ShortAt k r name len (map entry_of (list_at k made))) (sym rows) (spares_made k (low_of at held k m doubt.known here)))
      | inr apart ↦ absurd (cc (unsound, p.1.others k m here apart))
    ]
  ];
  rows_in_doubt = λ unsound k m here. elim doubt.change [
    | inl r ↦
        let lists : m.entries ≡ map entry_of (list_at k made) = (doubt.known.each k m here).entries ∙ ap (λ (s : Stores). map entry_of (list_at k s)) (sym r.same) in
        subst (ShortAt k at.catalogue.next name len) (sym lists) (subst (λ (rs : List Row). ShortAt k rs name len (map entry_of (list_at k made))) (sym r.next) (spares_made k (low_of at held k m doubt.known here)))
    | inr p ↦ absurd (cc (unsound, p.1.sound))
  ];
}

pub settled_spares : (tells : Bool) (old new : Seen) (before after : Stores) (name : Name) (len : ℕ) → IsOpen tells old before after → ((x y : Stores) → IsOpen tells old x y → HasEither tells new x y) → IsNoShorter old name len → IsNoShorter new name len
settled_spares tells old new before after name len (inl has) settled short = elim (settled before before (inl has)) [
  | inl now ↦ has_spares tells new before name len now (known_spares old before name len has.known short)
  | inr now ↦ has_spares tells new before name len now (known_spares old before name len has.known short)
]
settled_spares tells old new before after name len (inr doubt) settled short = elim (settled before after (inr doubt)) [
  | inl now ↦ has_spares tells new before name len now (known_spares old before name len doubt.known short)
  | inr now ↦ has_spares tells new after name len now (after_spares tells old before after name len doubt short)
]

pub still_spares : (tells : Bool) (old new : Seen) (before after : Stores) (name : Name) (len : ℕ) → IsOpen tells old before after → ((x y : Stores) → IsOpen tells old x y → IsOpen tells new x y) → IsNoShorter old name len → IsNoShorter new name len
still_spares tells old new before after name len (inl has) still short =
    let spares = known_spares old before name len has.known short in
    elim (still before before (inl has)) [ inl now ↦ has_spares tells new before name len now spares | inr doubt ↦ doubts_spares tells new before before name len doubt spares spares ]
still_spares tells old new before after name len (inr was) still short =
    let spares = known_spares old before name len was.known short in
    elim (still before after (inr was)) [ inl now ↦ has_spares tells new before name len now spares | inr doubt ↦ doubts_spares tells new before after name len doubt spares (after_spares tells old before after name len was short) ]

-- a call's own change that lists no such name shorter
pub ends_spares : {A E : Type 0} (tells : Bool) (call : StoreCall A E) (old new : Seen) (held : Stores) (end : End A E) (name : Name) (len : ℕ) → Has tells old held → ((made : Stores) → call.by held made → Spares held name len → Spares made name len) → EndsFrom tells call new held end → IsNoShorter old name len → IsNoShorter new name len
ends_spares {A} {E} tells call old new held end name len has goes ends short = go end ends
  where
    spares : Spares held name len
    spares = known_spares old held name len has.known short

    go : (end : End A E) → EndsFrom tells call new held end → IsNoShorter new name len
    go (Done a) (made, by, says, now) = has_spares tells new made name len now (goes made by spares)
    go (Refused e) (now, refuses) = has_spares tells new held name len now spares
    go Failed (inl now) = has_spares tells new held name len now spares
    go Failed (inr (made, by, doubt)) = doubts_spares tells new held made name len doubt spares (goes made by spares)
    go Spent now = has_spares tells new held name len now spares

-- rows that go on name no listed file anew
pub grown_spares : (at : Seen) (held : Stores) (later : List Row) (name : Name) (len : ℕ) → IsKnown at.catalogue at.manifests held → KeepsRows held.rows later → Spares held name len → Spares (with_rows held later) name len
grown_spares at held later name len known keeps spares k low j e lt named =
    let m = manifest_at at.manifests k (let three = known.three in omega (arith, low, three)) in
    let f = contains_map (list_at k held) (get_or (map entry_of (list_at k held)) j e) (Contains-get_or (map entry_of (list_at k held)) j e lt) in
    let same : file_of (k + 1, later) (get_or (map entry_of (list_at k held)) j e) ≡ file_of (k + 1, held.rows) (get_or (map entry_of (list_at k held)) j e) = subst (λ (x : Entry). file_of (k + 1, later) x ≡ file_of (k + 1, held.rows) x) f.2 (names_grow at held k m.0 later known m.1 keeps f.0 f.1) in
    spares k low j e lt (sym same ∙ named)

-- SHOWN

-- files in limbo are the same, and what is listed is so still
pub there_still : (old new : SeenAll) → new.limbo ≡ old.limbo → ((name : Name) (len : ℕ) → IsHeldTo old.stores name len → IsHeldTo new.stores name len) → ((name : Name) (len : ℕ) → IsRetiredTo old name len → IsNoShorter new.stores name len) → (name : Name) (len : ℕ) → IsThereTo old name len → IsThereTo new name len
there_still old new limbo held spares name len (inl h) = inl (held name len h)
there_still old new limbo held spares name len (inr r) = inr (record { file = r.file; within = subst (λ (rs : List Retired). Contains rs r.file) (sym limbo) r.within; named = r.named; longer = r.longer; numbered = r.numbered; no_shorter = spares name len r })

pub shown : (tells : Bool) (old new : SeenAll) → new.limbo ≡ old.limbo → ((name : Name) (len : ℕ) → IsHeldTo old.stores name len → IsHeldTo new.stores name len) → ((name : Name) (len : ℕ) → IsRetiredTo old name len → IsNoShorter new.stores name len) → (IsTrue tells → KeepsFronts old new) → KeepsShown tells old new
shown tells old new limbo held spares fronts name bytes was = record {
  held = there_still old new limbo held spares name (length bytes) was.held;
  some = was.some;
  front = λ told. fronts told name (length bytes) was.held bytes was.some (omega arith) (was.front told);
}

pub fronts_same : (old new : SeenAll) → new.stores.files ≡ old.stores.files → KeepsFronts old new
fronts_same old new same name len held front some within begins = subst (λ (f : Files). Begins front (f name)) (sym same) begins

-- a listed name is of its place's store
pub name_listed : (at : Seen) (name : Name) (len : ℕ) (h : IsHeldTo at name len) → name.0 ≡ h.place + 1
name_listed at name len h = sym (ap (λ (n : Name). n.0) h.listed.named)

pub numbered : (all : SeenAll) (name : Name) (len : ℕ) → IsThereTo all name len → 1 ≤ name.0
numbered all name len (inl h) = let number = name_listed all.stores name len h in omega (arith, number)
numbered all name len (inr r) = r.numbered

-- it is no journal's
pub not_own : (all : SeenAll) (journal : Name) → journal.0 ≡ 0 → (name : Name) (len : ℕ) → IsThereTo all name len → IsOwn journal name → ⊥
not_own all journal zero_store name len there own =
    let number = numbered all name len there in
    let at_zero = own_store journal name own in
    omega (arith, at_zero, zero_store, number)

-- calls that leave all names as they were but those of a journal in store 0
pub fronts_beside : (old new : SeenAll) (journal : Name) → journal.0 ≡ 0 → ((n : Name) → (IsOwn journal n → ⊥) → new.stores.files n ≡ old.stores.files n) → KeepsFronts old new
fronts_beside old new journal zero_store same name len held front some within begins = subst (Begins front) (sym (same name (not_own old journal zero_store name len held))) begins

-- the memory is the same
pub held_same : {S : Type 0} (shows : S → DiskShown) (faults_of : S → ℕ) (c : CatalogueState) (ms : List ManifestState) (d after : S) (name : Name) (len : ℕ) → IsHeldTo (seen_on shows faults_of c ms d) name len → IsHeldTo (seen_on shows faults_of c ms after) name len
held_same {S} shows faults_of c ms d after name len h = record { place = h.place; manifest = h.manifest; here = h.here; listed = h.listed; in_doubt = h.in_doubt; rows_in_doubt = h.rows_in_doubt }

pub read_shown : {S : Type 0} (shows : S → DiskShown) (faults_of : S → ℕ) (tells : Bool) (c : CatalogueState) (ms : List ManifestState) (limbo : List Retired) (d after : S) → (IsTrue tells → (shows after).files ≡ (shows d).files)
    → KeepsShown tells (beside (seen_on shows faults_of c ms d) limbo) (beside (seen_on shows faults_of c ms after) limbo)
read_shown {S} shows faults_of tells c ms limbo d after same = shown tells old new refl (λ name len h. held_same shows faults_of c ms d after name len h)
    (λ name len r. record { listed = r.no_shorter.listed; in_doubt = r.no_shorter.in_doubt; rows_in_doubt = r.no_shorter.rows_in_doubt })
    (λ told. fronts_same old new (same told))
  where
    old : SeenAll
    old = beside (seen_on shows faults_of c ms d) limbo

    new : SeenAll
    new = beside (seen_on shows faults_of c ms after) limbo

-- THE CALLS

-- rows that a change leaves go on
pub rows_keep : {A E : Type 0} (tells : Bool) (call : StoreCall A E) (old new : Seen) (end : End A E) → (held : Stores) × Has tells old held → ((held made : Stores) → call.by held made → (made ≡ with_rows held made.rows) × KeepsRows held.rows made.rows) → Changes tells call old new end → KeepsRows old.catalogue.rows new.catalogue.rows
rows_keep {A} {E} tells call old new end has goes change = go end (change.ends has.0 has.1)
  where
    same : (s : Stores) → new.catalogue.rows ≡ s.rows → KeepsRows has.0.rows s.rows → KeepsRows old.catalogue.rows new.catalogue.rows
    same s rows keeps = subst (λ (r : List Row). KeepsRows r new.catalogue.rows) (sym has.1.known.rows) (subst (KeepsRows has.0.rows) (sym rows) keeps)

    go : (end : End A E) → EndsFrom tells call new has.0 end → KeepsRows old.catalogue.rows new.catalogue.rows
    go (Done a) (made, by, says, now) = same made now.known.rows (goes has.0 made by).1
    go (Refused e) (now, refuses) = same has.0 now.known.rows (keeps_same has.0.rows)
    go Failed (inl now) = same has.0 now.known.rows (keeps_same has.0.rows)
    go Failed (inr (made, by, doubt)) = same has.0 doubt.known.rows (keeps_same has.0.rows)
    go Spent now = same has.0 now.known.rows (keeps_same has.0.rows)

pub registers_on : (name : List ℕ) (about : About) (held made : Stores) → Registers name about held made → (made ≡ with_rows held made.rows) × KeepsRows held.rows made.rows
registers_on name about held made by =
    let rows : made.rows ≡ held.rows ++ registered held.rows name about ∷ [] = ap (λ (s : Stores). s.rows) by.1 in
    (by.1 ∙ ap (with_rows held) (sym rows), subst (KeepsRows held.rows) (sym rows) (keeps_more held.rows (registered held.rows name about ∷ [])))

pub renames_on : (row : ℕ) (name : List ℕ) (held made : Stores) → Renames row name held made → (made ≡ with_rows held made.rows) × KeepsRows held.rows made.rows
renames_on row name held made by =
    let rows : made.rows ≡ renamed row name held.rows = ap (λ (s : Stores). s.rows) by.2 in
    (by.2 ∙ ap (with_rows held) (sym rows), subst (KeepsRows held.rows) (sym rows) (keeps_renamed held.rows row name by.0))

pub switches_on : (row : ℕ) (from to : State) (held made : Stores) → Switches row from to held made → (made ≡ with_rows held made.rows) × KeepsRows held.rows made.rows
switches_on row from to held made by =
    let rows : made.rows ≡ switched row to held.rows = ap (λ (s : Stores). s.rows) by.1 in
    (by.1 ∙ ap (with_rows held) (sym rows), subst (KeepsRows held.rows) (sym rows) (keeps_switched row to held.rows))

pub still_itself : (l : Listing) → ListsStill l l
still_itself l k d lt = record { entry = get_or l.1 k d; within = Contains-get_or l.1 k d lt; named = refl; longer = omega arith }

-- FILES THAT ARE DROPPED

-- LISTS

pub from_filter : (test : Filed → Bool) (xs : List Filed) (f : Filed) → Contains (filter test xs) f → Contains xs f
from_filter test [] f there = there
from_filter test (x ∷ xs) f there = go (test x) there (from_filter test xs f)
  where
    go : (b : Bool) → Contains (cond b (x ∷ filter test xs) (filter test xs)) f → (Contains (filter test xs) f → Contains xs f) → Contains (x ∷ xs) f
    go true (zero, lt, is) more = (zero, omega arith, is)
    go true (suc k, lt, is) more = Contains-append_right (x ∷ []) xs f (more (k, omega (arith, lt), is))
    go false there more = Contains-append_right (x ∷ []) xs f (more there)

from_take : (n : ℕ) (xs : List Filed) (f : Filed) → Contains (take n xs) f → Contains xs f
from_take zero xs f (k, lt, is) = absurd (omega (arith, lt))
from_take (suc n) [] f (k, lt, is) = absurd (omega (arith, lt))
from_take (suc n) (x ∷ xs) f (zero, lt, is) = (zero, omega arith, is)
from_take (suc n) (x ∷ xs) f (suc k, lt, is) = Contains-append_right (x ∷ []) xs f (from_take n xs f (k, omega (arith, lt), is))

pub from_oldest : (i row n : ℕ) (s : Stores) (f : Filed) → Contains (oldest i row n s) f → Contains (list_at i s) f
from_oldest i row n s f there = from_filter (λ x. nat_eq x.entry.series row) (list_at i s) f (from_take n (of_row row (list_at i s)) f there)

places : (a b : Place) → (a ≡ b) ⊎ (IsTrue (comes_before a b) ⊎ IsTrue (comes_before b a))
places a b = elim (cases_order a.0 b.0) [
  | inl first ↦ elim (cases_order a.1 b.1) [
    | inl second ↦ inl (λ i. (first i, second i))
    | inr apart ↦ elim apart [ inl less ↦ inr (inl (grind (arith, nat_tests))) | inr less ↦ inr (inr (grind (arith, nat_tests))) ]
  ]
  | inr apart ↦ elim apart [ inl less ↦ inr (inl (grind (arith, nat_tests))) | inr less ↦ inr (inr (grind (arith, nat_tests))) ]
]

stays_one : (p : Place) (files : List Filed) (f : Filed) → Contains files f → filed_at f ≢ p → Contains (without filed_at p files) f
stays_one p files f there apart = elim (places (filed_at f) p) [
  | inl is ↦ absurd (apart is)
  | inr order ↦ elim order [
    | inl before ↦ Contains-append_left (filter (λ y. comes_before (filed_at y) p) files) (filter (λ y. comes_before p (filed_at y)) files) f (contains_filter (λ y. comes_before (filed_at y) p) files f there before)
    | inr behind ↦ Contains-append_right (filter (λ y. comes_before (filed_at y) p) files) (filter (λ y. comes_before p (filed_at y)) files) f (contains_filter (λ y. comes_before p (filed_at y)) files f there behind)
  ]
]

-- a file of no part's place stays
stays : (parts files : List Filed) (f : Filed) → Contains files f → ((p : Filed) → Contains parts p → filed_at p ≢ filed_at f) → Contains (without_all files parts) f
stays [] files f there apart = there
stays (p ∷ ps) files f there apart =
    stays ps (without filed_at (filed_at p) files) f (stays_one (filed_at p) files f there (λ is. apart p (0, omega arith, refl) (sym is))) (λ q within. apart q (Contains-append_right (p ∷ []) ps q within))

cond_none : (b : Bool) (x : Filed) (rest : Option Filed) → cond b (Some x) rest ≡ None → (b ≡ false) × (rest ≡ None)
cond_none true x rest none = absurd (cc (none))
cond_none false x rest none = (refl, none)

pub none_at : (ps : List Filed) (q : Place) (p : Filed) → file_at q ps ≡ None → Contains ps p → filed_at p ≡ q → ⊥
none_at [] q p none (k, lt, is) same = omega (arith, lt)
none_at (x ∷ xs) q p none (zero, lt, is) same =
    let no = (cond_none (is_place (filed_at x) q) x (file_at q xs) none).0 in
    let here : is_place (filed_at x) q ≡ true = subst (λ (r : Place). is_place (filed_at x) r ≡ true) (ap filed_at is ∙ same) (is_place-same (filed_at x)) in
    cc (no, here)
none_at (x ∷ xs) q p none (suc k, lt, is) same = none_at xs q p (cond_none (is_place (filed_at x) q) x (file_at q xs) none).1 (k, omega (arith, lt), is) same

-- it stays, or is one of the parts
pub stays_or : (parts files : List Filed) (f : Filed) → PlacesRise files → ((p : Filed) → Contains parts p → Contains files p) → Contains files f → Contains (without_all files parts) f ⊎ Contains parts f
stays_or parts files f rise within there = elim (listed_at parts (filed_at f)) [
  | inl none ↦ inl (stays parts files f there (λ p is_part same. none_at parts (filed_at f) p none is_part same))
  | inr one ↦ inr (subst (Contains parts) (one_of_place files f one.0 rise there (within one.0 one.1) one.2) one.1)
]

-- NAMES

-- of these files each that has the name is this long
abbrev pub Longer : ℕ → List Row → Name → ℕ → Filed → Type 0
Longer k rows name len f = file_of (k + 1, rows) f.entry ≡ name → len ≤ f.entry.len

pub by_files : (k : ℕ) (rows : List Row) (files : List Filed) (name : Name) (len : ℕ) → NoneShorter ((k + 1, rows), map entry_of files) name len → All (Longer k rows name len) files
by_files k rows files name len short j d lt =
    All-contains (λ (e : Entry). file_of (k + 1, rows) e ≡ name → len ≤ e.len) (map entry_of files) (get_or files j d).entry short (contains_entry files (get_or files j d) (Contains-get_or files j d lt))

pub to_files : (k : ℕ) (rows : List Row) (files : List Filed) (name : Name) (len : ℕ) → All (Longer k rows name len) files → NoneShorter ((k + 1, rows), map entry_of files) name len
to_files k rows files name len all = All-map (λ (e : Entry). file_of (k + 1, rows) e ≡ name → len ≤ e.len) entry_of files all

-- the stores without the files
module _ (i row n : ℕ) (held : Stores) (low : i < 3) where
  abbrev parts : List Filed
  parts = oldest i row n held

  abbrev less : Stores
  less = without_oldest i row n held

  are : tier i less ≡ record (tier i held) { files = without_all (list_at i held) parts }
  are = tier_set i (without_all (list_at i held) parts) held low

  fewer : (name : Name) (len : ℕ) → Spares held name len → Spares less name len
  fewer name len spares k lo = elim (same_cases k i) [
    | inl is ↦ subst (λ (j : ℕ). NoneShorter (listing_of (tier j less)) name len) (sym is) (subst (λ (t : Held). NoneShorter (listing_of t) name len) (sym are)
        (to_files i held.rows (without_all (list_at i held) parts) name len (all_without_all (Longer i held.rows name len) (list_at i held) parts (by_files i held.rows (list_at i held) name len (spares i low)))))
    | inr apart ↦ subst (λ (t : Held). NoneShorter (listing_of t) name len) (sym (tier_other i k (without_all (list_at i held) parts) held low lo apart)) (spares k lo)
  ]

module _ (tells : Bool) (i row n : ℕ) (old new : SeenAll) (held : Stores) (has : Has tells old.stores held) (low : i < 3) (end : End (Unit {0}) ⊥) (change : Changes tells (dropping i row n) old.stores new.stores end) (limbo : new.limbo ≡ old.limbo)
    (handed : (f : Filed) → Contains (oldest i row n held) f → Contains old.limbo (retired_of (i + 1, old.stores.catalogue.rows) f.entry)) where
  abbrev then : Stores
  then = without_oldest i row n held

  there : (end : End (Unit {0}) ⊥) → EndsFrom tells (dropping i row n) new.stores held end → (place : ℕ) (name : Name) (len : ℕ) → place < 3 → ListsTo place held name len → ListsTo place then name len → IsHeldTo new.stores name len
  there (Done a) (s, by, says, now) place name len lo to later = has_held tells new.stores s place name len now lo (subst (λ (x : Stores). ListsTo place x name len) (sym by) later)
  there (Refused e) (now, never) place name len lo to later = absurd never
  there Failed (inl now) place name len lo to later = has_held tells new.stores held place name len now lo to
  there Failed (inr (s, by, doubt)) place name len lo to later = doubts_held tells new.stores held s place name len doubt lo to (subst (λ (x : Stores). ListsTo place x name len) (sym by) later)
  there Spent now place name len lo to later = has_held tells new.stores held place name len now lo to

  still_short : (name : Name) (len : ℕ) → IsNoShorter old.stores name len → IsNoShorter new.stores name len
  still_short name len short = ends_spares tells (dropping i row n) old.stores new.stores held end name len has (λ s by spares. subst (λ (x : Stores). Spares x name len) (sym by) (fewer i row n held low name len spares)) (change.ends held has) short

  -- no other listed file has its name
  own_name : (m : ManifestState) → slice_get old.stores.manifests i ≡ Some m → (f : Filed) (name : Name) (len : ℕ) → Contains (list_at i held) f → file_of (i + 1, held.rows) f.entry ≡ name → len ≤ f.entry.len → Spares held name len
  own_name m here f name len within named longer k lo = to_files k held.rows (list_at k held) name len (λ j d lt same.
      let number : k + 1 ≡ i + 1 = ap (λ (x : Name). x.0) (same ∙ sym named) in
      let is : k ≡ i = omega (arith, number) in
      let h : Filed = get_or (list_at k held) j d in
      let in_h : Contains (list_at i held) h = subst (λ (x : ℕ). Contains (list_at x held) h) is (Contains-get_or (list_at k held) j d lt) in
      let valid = (has.known.each i m here).valid in
      let h_is = All-contains (IsListed m.granularity held.rows) (list_at i held) h valid.filed.listed in_h in
      let f_is = All-contains (IsListed m.granularity held.rows) (list_at i held) f valid.filed.listed within in
      let names : file_of (i + 1, held.rows) h.entry ≡ file_of (i + 1, held.rows) f.entry = ap (λ (x : ℕ). file_of (x + 1, held.rows) h.entry) (sym is) ∙ same ∙ sym named in
      let one : h ≡ f = one_of_place (list_at i held) f h valid.apart within in_h (same_place m.granularity (i + 1) held.rows h f valid.keys h_is f_is names) in
      let len_is = ap (λ (x : Filed). x.entry.len) one in omega (arith, len_is, longer))

  listed_kept : (name : Name) (len : ℕ) → IsHeldTo old.stores name len → IsThereTo new name len
  listed_kept name len h = elim (same_cases h.place i) [
    | inr apart ↦ inl (there end (change.ends held has) h.place name len lo to (subst (λ (t : Held). IsListedTo (listing_of t) name len) (sym (tier_other i h.place (without_all (list_at i held) (oldest i row n held)) held low lo apart)) to))
    | inl is ↦ go h.manifest (ap (slice_get old.stores.manifests) (sym is) ∙ h.here) (subst (λ (k : ℕ). ListsTo k held name len) is to)
  ]
    where
      lo : h.place < 3
      lo = low_of old.stores held h.place h.manifest has.known h.here

      to : ListsTo h.place held name len
      to = known_to old.stores held h.place h.manifest name len has.known h.here h.listed

      go : (m : ManifestState) → slice_get old.stores.manifests i ≡ Some m → ListsTo i held name len → IsThereTo new name len
      go m here at =
          let f = contains_map (list_at i held) at.entry at.within in
          let named : file_of (i + 1, held.rows) f.0.entry ≡ name = ap (λ (e : Entry). file_of (i + 1, held.rows) e) f.2 ∙ at.named in
          let longer : len ≤ f.0.entry.len = let is_len = ap (λ (e : Entry). e.len) f.2 in let more = at.longer in omega (arith, is_len, more) in
          elim (stays_or (oldest i row n held) (list_at i held) f.0 (has.known.each i m here).valid.apart (from_oldest i row n held) f.1) [
            | inl stay ↦ inl (there end (change.ends held has) i name len low at (subst (λ (t : Held). IsListedTo (listing_of t) name len) (sym (tier_set i (without_all (list_at i held) (oldest i row n held)) held low))
                (record { entry = f.0.entry; within = contains_entry (without_all (list_at i held) (oldest i row n held)) f.0 stay; named = named; longer = longer })))
            | inr part ↦ inr (record {
              file = retired_of (i + 1, old.stores.catalogue.rows) f.0.entry;
              within = subst (λ (l : List Retired). Contains l (retired_of (i + 1, old.stores.catalogue.rows) f.0.entry)) (sym limbo) (handed f.0 part);
              named = ap (λ (r : List Row). file_of (i + 1, r) f.0.entry) has.known.rows ∙ named;
              longer = longer;
              numbered = let number = ap (λ (x : Name). x.0) named in omega (arith, number);
              no_shorter = still_short name len (has_spares tells old.stores held name len has (own_name m here f.0 name len f.1 named longer));
            })
          ]

  pub dropped_shown : (m : ManifestState) → slice_get old.stores.manifests i ≡ Some m → (IsTrue tells → (name : Name) → (IsOwn m.journal.name name → ⊥) → new.stores.files name ≡ old.stores.files name) → KeepsShown tells old new
  dropped_shown m here elsewhere name bytes was = record {
    held = elim was.held [
      | inl h ↦ listed_kept name (length bytes) h
      | inr r ↦ inr (record {
        file = r.file;
        within = subst (λ (l : List Retired). Contains l r.file) (sym limbo) r.within;
        named = r.named;
        longer = r.longer;
        numbered = r.numbered;
        no_shorter = still_short name (length bytes) r.no_shorter;
      })
    ];
    some = was.some;
    front = λ told. fronts_beside old new m.journal.name (ap (λ (x : Name). x.0) ((has.disk told).each i m here).named) (elsewhere told) name (length bytes) was.held bytes was.some (omega arith) (was.front told);
  }

-- THE CHANGES

pub same_entries : (i row n : ℕ) (held : Stores) (entries : List Entry) → entries ≡ map entry_of (list_at i held) → oldest_entries row n entries ≡ map entry_of (oldest i row n held)
same_entries i row n held entries are =
    ap (λ (es : List Entry). oldest_entries row n es) are
    ∙ ap (take n) (filter-map (λ (e : Entry). e.series == row) (list_at i held))
    ∙ take-map entry_of n (of_row row (list_at i held))

map_drops : (fs : List Filed) → map drop_entry (map entry_of fs) ≡ map drop_of fs
map_drops [] = refl
map_drops (f ∷ fs) = ap (λ (l : List Change). drop_of f ∷ l) (map_drops fs)

pub same_drops : (i row n : ℕ) (held : Stores) (entries : List Entry) → entries ≡ map entry_of (list_at i held) → map drop_entry (oldest_entries row n entries) ≡ map drop_of (oldest i row n held)
same_drops i row n held entries are = ap (map drop_entry) (same_entries i row n held entries are) ∙ map_drops (oldest i row n held)

-- what is left may be listed
abbrev pub can_drop : (tells : Bool) (at : Seen) (i row n : ℕ) (m : ManifestState) (changes : List Change) → slice_get at.manifests i ≡ Some m → changes ≡ map drop_entry (oldest_entries row n m.entries) → (held : Stores) → Has tells at held → (fs : List Filed) × CanList i tells at changes held fs
can_drop tells at i row n m changes here are held has = (
  without_all (list_at i held) (oldest i row n held),
  subst (λ (cs : List Change). CanList i tells at cs held (without_all (list_at i held) (oldest i row n held))) (sym (are ∙ same_drops i row n held m.entries (has.known.each i m here).entries)) (may_drop tells at held i m (oldest i row n held) has here),
)
