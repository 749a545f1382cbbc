-- What calls leave of strays: whatever is one afterwards was one before.
use Rattle.std.proofs.Common.{◌≡◌, ◌≢◌, ◌⊎◌, inl, inr, Bool, true, false, ℕ, ◌≤◌, ◌<◌, ◌+◌, ◌++◌, List, zero, suc, [], ◌∷◌, Option, None, Some, Ok, Err, Result, refl, sym, ◌∙◌, ap, subst, arith}
use Rattle.std.specs.FinMap.{FinMap}
use Rattle.std.specs.Ordering.{nat_cmp}
use Rattle.std.specs.Prelude.{All, Contains, IsSome, IsTrue, OnOk, length, map, get_or, slice_get}
use Rattle.std.proofs.lemmas.Bool.{cases_lt}
use Rattle.std.proofs.lemmas.Option.{same_Some}
use Rattle.std.proofs.lemmas.List.Elements.{All-contains, Contains-append_cases, Contains-append_left, Contains-append_right}
use Rattle.disk_model.specs.Files.{Name, Content, Files, HasFile}
use Rattle.disk_model.specs.Past.{MayLeave, Only}
use Rattle.disk_model.specs.declared.disk.DiskErr.{DiskErr}
use Rattle.gate_journal.specs.Generations.{IsOwn}
use Rattle.gate_journal.specs.DiskShown.{DiskShown, ReadsDisk}
use Rattle.gate_journal.proofs.Owning.{own_store}
use Rattle.partition_names.specs.Part.{HoldsMoment, IsPart}
use Rattle.partition_names.specs.Path.{path_of}
use Rattle.partition_names.specs.declared.part.Part.{Part}
use Rattle.partition_names.proofs.PartLemmas as parts
use Rattle.partition_names.specs.declared.granularity.Granularity.{Granularity}
use Rattle.pins.specs.Pieces.{PinOf}
use Rattle.pv_catalog.specs.Catalogue.{CatalogueState}
use Rattle.pv_catalog.specs.declared.row.Row.{Row}
use Rattle.store_manifest.specs.Manifest.{ManifestState}
use Rattle.store_manifest.specs.declared.entry.Entry.{Entry}
use Rattle.etl_mover.specs.Copying.{SetsLast, last_of, starts}
use Rattle.etl_mover.specs.Move.{Moving, IsMove, part_file}
use Rattle.etl_mover.specs.Step.{Advances, Copies, CopiesPart, GoesTo, IsPlacedOrNot, source_file, target_file}
use Rattle.etl_mover.specs.Writing.{LeavesFile}
use Rattle.durable_write.specs.Ends.{Done, End, end_of_disk}
use Rattle.durable_write.specs.Flush.{MakesFiles, PlacesRise, put_all}
use Rattle.durable_write.specs.Held.{Filed, Held, entry_of, file_of, name_of}
use Rattle.durable_write.specs.declared.file_write.FileWrite.{FileWrite}
use Rattle.durable_write.proofs.Written.{contains_entry, put_all_new, nth_grows}
use Rattle.durable_write.proofs.Staying.{contains_map, map_in, map_out, same_cases}
use Rattle.tier_store.specs.Change.{StoreCall, Has, EndsFrom}
use Rattle.tier_store.specs.Limbo.{IsListedName, IsNeeded, IsSwept, IsUnneeded, AreFree, AreGone, LeavesKept}
use Rattle.tier_store.specs.Moving.{LeavesNames, RunsBeside, publishing}
use Rattle.tier_store.specs.Pinned.{SeenAll, IsHeldTo, IsRetiredTo, IsThereTo}
use Rattle.tier_store.specs.Retiring.{AreApart, IsFree, Leaves, Remain, Stays, names_in, oldest, retired_of, retiring, without_oldest}
use Rattle.tier_store.specs.Seen.{Seen, IsSettled}
use Rattle.tier_store.specs.Stores.{Stores, list_at}
use Rattle.tier_store.specs.Strays.{IsKnownName, IsStray, MakesNoStray, LeavesNoStray, WritesTargets, targets}
use Rattle.tier_store.specs.Copying.{PassesRest}
use Rattle.tier_store.specs.declared.copying.CopyEnd.{CopyEnd}
use Rattle.tier_store.specs.declared.copying.CopyEnd.TheVariants as copied
use Rattle.tier_store.specs.declared.limbo.Retired.{Retired}
use Rattle.tier_store.specs.declared.retirement.RetireEnd.TheVariants as ends
use Rattle.tier_store.proofs.CopyFiles.{Start}
use Rattle.tier_store.proofs.Showing.{from_oldest, stays_or, has_held, known_to, low_of}
use Rattle.tier_store.proofs.Retirements.{name_left, named_in, pinned_by}
use Rattle.tier_store.proofs.Places.{list_set, list_other}
use Rattle.tier_store.proofs.Revival.{listed_by}
use Rattle.tier_store.proofs.Removals.{stay_cases, stay_from}

-- NAMES

no_names : (n : Name) → Contains [] n → ⊥
no_names n (k, lt, is) = omega (arith, lt)

no_file : (c : Content) → c ≡ None → IsSome c → ⊥
no_file (Some b) none some = cc (none)
no_file None none some = cc (some)

-- a file's name is no journal's
pub file_apart : (journal n : Name) → journal.0 ≡ 0 → 1 ≤ n.0 → IsOwn journal n → ⊥
file_apart journal n zero_store own its = let same = own_store journal n its in omega (arith, own, same, zero_store)

-- what is listed, where nothing stands in doubt
listed_held : (at : Seen) (n : Name) → IsSettled at → IsListedName at n → IsHeldTo at n 0
listed_held at n settled l = record {
  place = l.place;
  manifest = l.manifest;
  here = l.here;
  listed = record { entry = l.entry; within = l.within; named = l.named; longer = omega arith };
  in_doubt = λ unsound. let sound = settled.manifests l.place l.manifest l.here in absurd (cc (unsound, sound));
  rows_in_doubt = λ unsound. let sound = settled.catalogue in absurd (cc (unsound, sound));
}

-- what is in limbo
retired_there : (all : SeenAll) (n : Name) → 1 ≤ n.0 → Contains (names_in all.limbo) n → IsRetiredTo all n 0
retired_there all n own c =
    let r = named_in all.limbo n c in
    record {
      file = r.0;
      within = r.1;
      named = r.2;
      longer = omega arith;
      numbered = own;
      no_shorter = record {
        listed = λ i m here k d lt is. omega arith;
        in_doubt = λ i m here unsound k d lt is. omega arith;
        rows_in_doubt = λ unsound i m here k d lt is. omega arith;
      };
    }

-- what is there by the lists is known
there_known : (all : SeenAll) (written : List Name) (n : Name) → IsThereTo all n 0 → IsKnownName all written n
there_known all written n (inl h) = inl (listed_by all.stores n 0 h)
there_known all written n (inr r) = inr (inl (subst (Contains (names_in all.limbo)) r.named (name_left all.limbo r.file r.within)))

-- where the stores have the same
has_listed : (tells : Bool) (old new : Seen) (held : Stores) → Has tells old held → Has tells new held → (n : Name) → IsListedName old n → IsListedName new n
has_listed tells old new held has now n l =
    let to = known_to old held l.place l.manifest n 0 has.known l.here (record { entry = l.entry; within = l.within; named = l.named; longer = omega arith }) in
    listed_by new n 0 (has_held tells new held l.place n 0 now (low_of old held l.place l.manifest has.known l.here) to)

-- where a call ended well
pub ok_then : {A E : Type 0} (r : Result A E) (P Q : Type 0) → (P → Q) → OnOk r P → OnOk r Q
ok_then {A} {E} (Ok a) P Q from says = from says
ok_then {A} {E} (Err e) P Q from says = tt

pub ok_both : {A E : Type 0} (r : Result A E) (P Q : Type 0) → OnOk r P → OnOk r Q → OnOk r (P × Q)
ok_both {A} {E} (Ok a) P Q one two = (one, two)
ok_both {A} {E} (Err e) P Q one two = tt

pub ok_always : {A E : Type 0} (r : Result A E) (P : Type 0) → P → OnOk r P
ok_always {A} {E} (Ok a) P is = is
ok_always {A} {E} (Err e) P is = tt

-- nothing stands in doubt then
pub ok_settled : {A E F : Type 0} (tells : Bool) (call : StoreCall A F) (new : Seen) (held : Stores) (end_by : Result A E → End A F) (r : Result A E) → ((a : A) → end_by (Ok a) ≡ Done a) → EndsFrom tells call new held (end_by r) → OnOk r (IsSettled new)
ok_settled {A} {E} {F} tells call new held end_by (Err e) done ends = tt
ok_settled {A} {E} {F} tells call new held end_by (Ok a) done ends = (subst (EndsFrom tells call new held) (done a) ends).3.settled

-- NOTHING, AND A COMMIT

pub no_strays : (tells : Bool) (all : SeenAll) (written : List Name) → MakesNoStray tells all written all written
no_strays tells all written told n stray = stray

-- names that are known stay so, and all others have what they had
pub known_strays : (tells : Bool) (old new : SeenAll) (gone come : List Name) → (IsTrue tells → (n : Name) → IsStray new come n → IsKnownName old gone n → ⊥) → (IsTrue tells → (n : Name) → IsStray new come n → new.stores.files n ≡ old.stores.files n) → MakesNoStray tells old gone new come
known_strays tells old new gone come unknown same told n stray = record {
  numbered = stray.numbered;
  file = subst (λ (c : Content). IsSome c) (same told n stray) stray.file;
  unknown = unknown told n stray;
}

-- what is listed or in limbo is so still, and no other file of a store was written
pub fronts_strays : (tells : Bool) (old new : SeenAll) → IsSettled old.stores → ((n : Name) → IsThereTo old n 0 → IsThereTo new n 0) → (IsTrue tells → (n : Name) → 1 ≤ n.0 → (IsListedName new.stores n → ⊥) → new.stores.files n ≡ old.stores.files n) → LeavesNoStray tells old new
fronts_strays tells old new settled there same = known_strays tells old new [] [] (λ told n stray known. stray.unknown (still n stray.numbered known)) (λ told n stray. same told n stray.numbered (λ l. stray.unknown (inl l)))
  where
    still : (n : Name) → 1 ≤ n.0 → IsKnownName old [] n → IsKnownName new [] n
    still n own (inl l) = there_known new [] n (there n (inl (listed_held old.stores n settled l)))
    still n own (inr (inl c)) = there_known new [] n (there n (inr (retired_there old n own c)))
    still n own (inr (inr c)) = absurd (no_names n c)

-- THE FLUSH

-- each piece's entry is listed then
write_entry : (g : Granularity) (ahead : Held) (writes : List FileWrite) (fs files : List Filed) → MakesFiles g ahead writes fs → (k : ℕ) (d : FileWrite) → k < length writes → Contains (map entry_of (put_all files fs)) (get_or writes k d).entry
write_entry g ahead writes fs files makes k d lt =
    let p = get_or writes k d in
    let nth = nth_grows g ahead writes fs k p makes.each lt (get_or_same writes k d lt) in
    let within : Contains fs nth.0 = (k, nth.1, nth.2) in
    subst (Contains (map entry_of (put_all files fs))) (sym nth.3.entry) (contains_entry (put_all files fs) nth.0 (put_all_new fs files nth.0 makes.apart within))
  where
    get_or_same : (ps : List FileWrite) (k : ℕ) (d : FileWrite) → k < length ps → get_or ps k d ≡ get_or ps k (get_or ps k d)
    get_or_same [] k d lt = absurd (omega (arith, lt))
    get_or_same (p ∷ ps) zero d lt = refl
    get_or_same (p ∷ ps) (suc k) d lt = get_or_same ps k d (omega (arith, lt))

pub write_listed : (at : Seen) (rows : List Row) (m : ManifestState) (g : Granularity) (ahead : Held) (writes : List FileWrite) (fs files : List Filed) → slice_get at.manifests 0 ≡ Some m → rows ≡ at.catalogue.rows → m.entries ≡ map entry_of (put_all files fs) → MakesFiles g ahead writes fs → (n : Name) → (IsListedName at n → ⊥) → (k : ℕ) (d : FileWrite) → k < length writes → n ≢ file_of (1, rows) (get_or writes k d).entry
write_listed at rows m g ahead writes fs files here same entries makes n unlisted k d lt is =
    unlisted (record {
      place = 0;
      manifest = m;
      here = here;
      entry = (get_or writes k d).entry;
      within = subst (λ (es : List Entry). Contains es (get_or writes k d).entry) (sym entries) (write_entry g ahead writes fs files makes k d lt);
      named = ap (λ (r : List Row). file_of (1, r) (get_or writes k d).entry) (sym same) ∙ sym is;
    })

-- THE SWEEP

pub swept_strays : (tells : Bool) (old new : SeenAll) (pins : FinMap nat_cmp PinOf) (copied : List Name) (files : ℕ) → (IsTrue tells → MayLeave new.stores.past new.stores.files) → new.stores.catalogue ≡ old.stores.catalogue → new.stores.manifests ≡ old.stores.manifests
    → IsSwept new.stores pins copied old.limbo new.limbo files → (IsTrue tells → AreGone new.stores pins copied old.limbo) → LeavesKept tells pins copied old new → LeavesNoStray tells old new
swept_strays tells old new pins copied files seen_it rows lists swept gone kept = known_strays tells old new [] [] unknown (λ told n stray. kept.files told n (λ r within named. absurd (left told n stray r within named)))
  where
    -- no file that was in limbo has the name of a stray
    left : IsTrue tells → (n : Name) → IsStray new [] n → (r : Retired) → Contains old.limbo r → r.name ≡ n → ⊥
    left told n stray r within named = elim (stay_cases (λ x. IsListedName new.stores x.name → ⊥) (λ x. IsListedName new.stores x.name) old.limbo swept.retired r swept.unlisted within) [
      | inr listed ↦ stray.unknown (inl (subst (IsListedName new.stores) named listed))
      | inl there ↦ elim (stay_cases (λ x. IsNeeded pins copied x.name) (λ x. IsNeeded pins copied x.name → ⊥) swept.retired new.limbo r swept.needed there) [
        | inl still ↦ stray.unknown (inr (inl (subst (Contains (names_in new.limbo)) named (name_left new.limbo r still))))
        | inr free ↦
            let unlisted = (stay_from (λ x. IsListedName new.stores x.name → ⊥) (λ x. IsListedName new.stores x.name) old.limbo swept.retired r swept.unlisted there).1 in
            let none = All-contains (λ (x : Retired). IsUnneeded new.stores pins copied x.name → Only new.stores.past x.name None) old.limbo r (gone told) within (unlisted, free) new.stores.files (seen_it told) in
            no_file (new.stores.files n) (ap new.stores.files (sym named) ∙ none) stray.file
      ]
    ]

    unknown : IsTrue tells → (n : Name) → IsStray new [] n → IsKnownName old [] n → ⊥
    unknown told n stray (inl l) = stray.unknown (inl (record { place = l.place; manifest = l.manifest; here = ap (λ (ms : List ManifestState). slice_get ms l.place) lists ∙ l.here; entry = l.entry; within = l.within; named = ap (λ (c : CatalogueState). file_of (l.place + 1, c.rows) l.entry) rows ∙ l.named }))
    unknown told n stray (inr (inl c)) = let r = named_in old.limbo n c in left told n stray r.0 r.1 r.2
    unknown told n stray (inr (inr c)) = no_names n c

-- THE RETIREMENT

pub retired_strays : (tells : Bool) (old new : SeenAll) (pins : FinMap nat_cmp PinOf) (i row : ℕ) (published : List ℕ) (removed : Result (Unit {0}) DiskErr) (held : Stores) → i < 3 → (IsTrue tells → MayLeave new.stores.past new.stores.files) → Has tells old.stores held → removed ≡ Ok tt
    → EndsFrom tells (retiring i row published (Remain tells new.stores pins old.limbo new.limbo)) new.stores held (Done (ends.Retired removed)) → ((names : List Name) → All (λ (n : Name). 1 ≤ n.0) names → AreApart i row (length published) held names → LeavesNames names tells old new) → LeavesNoStray tells old new
retired_strays tells old new pins i row published removed held low seen_it has fine (made, by, says, now) leaves = known_strays tells old new [] [] unknown same
  where
    parts : List Filed
    parts = oldest i row (length published) held

    leaving : List Retired
    leaving = map (λ (f : Filed). retired_of (i + 1, held.rows) f.entry) parts

    remain : Remain tells new.stores pins old.limbo new.limbo removed leaving
    remain = says.limbo

    is_leaving : (fs : List Filed) (f : Filed) → Contains fs f → Contains (map (λ (x : Filed). retired_of (i + 1, held.rows) x.entry) fs) (retired_of (i + 1, held.rows) f.entry)
    is_leaving [] f (k, lt, is) = absurd (omega (arith, lt))
    is_leaving (x ∷ fs) f (zero, lt, is) = (zero, omega arith, ap (λ (y : Filed). retired_of (i + 1, held.rows) y.entry) is)
    is_leaving (x ∷ fs) f (suc k, lt, is) = let rest = is_leaving fs f (k, omega (arith, lt), is) in (suc rest.0, omega (arith, rest.1), rest.2)

    -- no file that leaves has the name of a stray: it is in limbo, or removed
    none_leaves : IsTrue tells → (n : Name) → IsStray new [] n → (r : Retired) → Contains leaving r → r.name ≡ n → ⊥
    none_leaves told n stray r within named =
        let both : Contains remain.both r = subst (λ (rs : List Retired). Contains rs r) (sym remain.enter.are) (Contains-append_right remain.enter.kept leaving r within) in
        elim (stay_cases (λ x. Stays pins leaving x.name) (λ x. IsFree pins leaving x.name) remain.both new.limbo r remain.stay both) [
          | inl still ↦ stray.unknown (inr (inl (subst (Contains (names_in new.limbo)) named (name_left new.limbo r still))))
          | inr free ↦
              let gone = subst (λ (x : Result (Unit {0}) DiskErr). OnOk x (AreFree pins [] (λ m. Only new.stores.past m None) leaving)) fine (remain.gone told) in
              let none = All-contains (λ (x : Retired). (IsNeeded pins [] x.name → ⊥) → Only new.stores.past x.name None) leaving r gone within (λ needed. free.free (pinned_by pins r.name needed)) new.stores.files (seen_it told) in
              no_file (new.stores.files n) (ap new.stores.files (sym named) ∙ none) stray.file
        ]

    none_oldest : IsTrue tells → (n : Name) → IsStray new [] n → (f : Filed) → Contains parts f → file_of (i + 1, held.rows) f.entry ≡ n → ⊥
    none_oldest told n stray f within named = none_leaves told n stray (retired_of (i + 1, held.rows) f.entry) (is_leaving parts f within) named

    same : IsTrue tells → (n : Name) → IsStray new [] n → new.stores.files n ≡ old.stores.files n
    same told n stray = (leaves (n ∷ []) (λ k d lt. one k d lt) (λ f within there. none_oldest told n stray f within (only n _ there))).files told n (zero, omega arith, refl)
      where
        one : (k : ℕ) (d : Name) → k < 1 → 1 ≤ (get_or (n ∷ []) k d).0
        one zero d lt = stray.numbered
        one (suc k) d lt = absurd (omega (arith, lt))

        only : (n m : Name) → Contains (n ∷ []) m → m ≡ n
        only n m (zero, lt, is) = sym is
        only n m (suc k, lt, is) = absurd (omega (arith, lt))

    -- what was listed is so still, or leaves
    listed : IsTrue tells → (n : Name) → IsStray new [] n → IsListedName old.stores n → ⊥
    listed told n stray l =
        let p_low = low_of old.stores held l.place l.manifest has.known l.here in
        let to = known_to old.stores held l.place l.manifest n 0 has.known l.here (record { entry = l.entry; within = l.within; named = l.named; longer = omega arith }) in
        let f = contains_map (list_at l.place held) to.entry to.within in
        let named : file_of (l.place + 1, held.rows) f.0.entry ≡ n = ap (λ (e : Entry). file_of (l.place + 1, held.rows) e) f.2 ∙ to.named in
        let is : made ≡ without_oldest i row (length published) held = says.retires.same in
        let rows : made.rows ≡ held.rows = ap (λ (s : Stores). s.rows) is in
        let still : Contains (list_at l.place made) f.0 → ⊥ = λ there. stray.unknown (inl (listed_by new.stores n 0 (has_held tells new.stores made l.place n 0 now p_low (record {
          entry = f.0.entry;
          within = contains_entry (list_at l.place made) f.0 there;
          named = ap (λ (r : List Row). file_of (l.place + 1, r) f.0.entry) rows ∙ named;
          longer = omega arith;
        })))) in
        elim (same_cases l.place i) [
          | inl here ↦
              let own : Contains (list_at i held) f.0 = subst (λ (k : ℕ). Contains (list_at k held) f.0) here f.1 in
              let rise = (has.known.each l.place l.manifest l.here).valid.apart in
              elim (stays_or parts (list_at i held) f.0 (subst (λ (k : ℕ). PlacesRise (list_at k held)) here rise) (λ p is_part. from_oldest i row (length published) held p is_part) own) [
                | inl there ↦ still (subst (λ (s : Stores). Contains (list_at l.place s) f.0) (sym is) (subst (λ (k : ℕ). Contains (list_at k (without_oldest i row (length published) held)) f.0) (sym here) (subst (λ (fs : List Filed). Contains fs f.0) (sym (list_set i _ held low)) there)))
                | inr leaves_it ↦ none_oldest told n stray f.0 leaves_it (ap (λ (k : ℕ). file_of (k + 1, held.rows) f.0.entry) (sym here) ∙ named)
              ]
          | inr apart ↦ still (subst (λ (s : Stores). Contains (list_at l.place s) f.0) (sym is) (subst (λ (fs : List Filed). Contains fs f.0) (sym (list_other i l.place _ held low p_low apart)) f.1))
        ]

    retired : IsTrue tells → (n : Name) → IsStray new [] n → (r : Retired) → Contains old.limbo r → r.name ≡ n → ⊥
    retired told n stray r within named = elim (stay_cases (λ x. Unit {0}) (λ x. IsListedName new.stores x.name ⊎ Leaves leaving x.name) old.limbo remain.enter.kept r remain.enter.stay within) [
      | inl kept ↦
          let both : Contains remain.both r = subst (λ (rs : List Retired). Contains rs r) (sym remain.enter.are) (Contains-append_left remain.enter.kept leaving r kept) in
          elim (stay_cases (λ x. Stays pins leaving x.name) (λ x. IsFree pins leaving x.name) remain.both new.limbo r remain.stay both) [
            | inl still ↦ stray.unknown (inr (inl (subst (Contains (names_in new.limbo)) named (name_left new.limbo r still))))
            | inr free ↦ remain.enter.apart r kept free.leaves
          ]
      | inr other ↦ elim other [
        | inl there ↦ stray.unknown (inl (subst (IsListedName new.stores) named there))
        | inr goes ↦ none_leaves told n stray goes.0 goes.1 (goes.2 ∙ named)
      ]
    ]

    unknown : IsTrue tells → (n : Name) → IsStray new [] n → IsKnownName old [] n → ⊥
    unknown told n stray (inl l) = listed told n stray l
    unknown told n stray (inr (inl c)) = let r = named_in old.limbo n c in retired told n stray r.0 r.1 r.2
    unknown told n stray (inr (inr c)) = no_names n c

-- THE PUBLICATION

-- a file that the move is to list is one of its row in the store to which it moves
pub target_name : (tells : Bool) (all : SeenAll) (i : ℕ) (move : Moving) (files : List Filed) (held : Stores) → RunsBeside i tells all move files held → IsTrue tells → (e : Entry) → e.series ≡ move.series → file_of (i + 1, held.rows) e ≡ part_file move.destination move.name e
target_name tells all i move files held runs told e own =
    ap (λ (n : ℕ). (n, path_of (name_of (slice_get held.rows e.series)) e.part.name)) (sym (runs.numbers told).1)
    ∙ (ap (λ (n : ℕ). (move.destination, path_of (name_of (slice_get held.rows n)) e.part.name)) own
    ∙ (ap (λ o. (move.destination, path_of (name_of o) e.part.name)) runs.stands ∙ ap (λ (t : List ℕ). (move.destination, path_of t e.part.name)) runs.name))

pub published_strays : (tells : Bool) (old new : SeenAll) (i : ℕ) (move : Moving) (files : List Filed) (held : Stores) (r : Result (Unit {0}) DiskErr) → i < 3 → new.limbo ≡ old.limbo → Has tells old.stores held → RunsBeside i tells old move files held → ((n : Name) → IsHeldTo old.stores n 0 → IsHeldTo new.stores n 0)
    → (IsTrue tells → (n : Name) → 1 ≤ n.0 → new.stores.files n ≡ old.stores.files n) → EndsFrom tells (publishing i files) new.stores held (end_of_disk r) → OnOk r (MakesNoStray tells old (targets move) new [])
published_strays tells old new i move files held (Err e) low limbo has runs on same ends = tt
published_strays tells old new i move files held (Ok a) low limbo has runs on same (made, by, says, now) = known_strays tells old new (targets move) [] unknown (λ told n stray. same told n stray.numbered)
  where
    listed : IsTrue tells → (n : Name) → Contains (targets move) n → IsListedName new.stores n
    listed told n t =
        let e = map_out (part_file move.destination move.name) move.pending n t in
        let own = All-contains (λ (x : Entry). IsPart move.granularity x.part × (x.series ≡ move.series)) move.pending e.0 runs.running.pending e.1 in
        let f = contains_map files e.0 (subst (λ (es : List Entry). Contains es e.0) runs.pending e.1) in
        let named : file_of (i + 1, held.rows) f.0.entry ≡ n = ap (λ (x : Entry). file_of (i + 1, held.rows) x) f.2 ∙ (target_name tells old i move files held runs told e.0 own.1 ∙ e.2) in
        let there : Contains (list_at i made) f.0 = subst (λ (s : Stores). Contains (list_at i s) f.0) (sym by) (subst (λ (fs : List Filed). Contains fs f.0) (sym (list_set i (put_all (list_at i held) files) held low)) (put_all_new files (list_at i held) f.0 runs.ahead.rise f.1)) in
        listed_by new.stores n 0 (has_held tells new.stores made i n 0 now low (record {
          entry = f.0.entry;
          within = contains_entry (list_at i made) f.0 there;
          named = ap (λ (s : Stores). file_of (i + 1, s.rows) f.0.entry) by ∙ named;
          longer = omega arith;
        }))

    unknown : IsTrue tells → (n : Name) → IsStray new [] n → IsKnownName old (targets move) n → ⊥
    unknown told n stray (inl l) = stray.unknown (inl (listed_by new.stores n 0 (on n (listed_held old.stores n has.settled l))))
    unknown told n stray (inr (inl c)) = stray.unknown (inr (inl (subst (λ (rs : List Retired). Contains (names_in rs) n) (sym limbo) c)))
    unknown told n stray (inr (inr t)) = stray.unknown (inl (listed told n t))

-- COPYING

pub copied_strays : (tells : Bool) (old new : SeenAll) (move moved : Moving) (held : Stores) → new.limbo ≡ old.limbo → Has tells old.stores held → Has tells new.stores held → (IsTrue tells → WritesTargets move moved old.stores.files new.stores.files) → MakesNoStray tells old (targets move) new (targets moved)
copied_strays tells old new move moved held limbo has now writes = known_strays tells old new (targets move) (targets moved) unknown (λ told n stray. (writes told).others n (λ t. stray.unknown (inr (inr t))))
  where
    unknown : IsTrue tells → (n : Name) → IsStray new (targets moved) n → IsKnownName old (targets move) n → ⊥
    unknown told n stray (inl l) = stray.unknown (inl (has_listed tells old.stores new.stores held has now n l))
    unknown told n stray (inr (inl c)) = stray.unknown (inr (inl (subst (λ (rs : List Retired). Contains (names_in rs) n) (sym limbo) c)))
    unknown told n stray (inr (inr t)) = stray.unknown (inr (inr ((writes told).still n t)))

-- nothing was written
pub targets_same : (move moved : Moving) (files later : Files) → targets moved ≡ targets move → later ≡ files → WritesTargets move moved files later
targets_same move moved files later same is = record {
  others = λ n not. ap (λ (f : Files). f n) is;
  still = λ n t. subst (λ (ns : List Name). Contains ns n) (sym same) t;
}

-- one step after another
pub targets_then : (move mid moved : Moving) (files then later : Files) → WritesTargets move mid files then → WritesTargets mid moved then later → WritesTargets move moved files later
targets_then move mid moved files then later first second = record {
  others = λ n not. second.others n not ∙ first.others n (λ t. not (second.still n t));
  still = λ n t. second.still n (first.still n t);
}

module _ (fine : Granularity) (move new : Moving) (revived : Option Entry) (part : Entry) (from len : ℕ) (disk then : DiskShown) (running : IsMove fine move) (still_running : IsMove fine new) (advances : Advances move new revived len) where
  same_to : new.destination ≡ move.destination
  same_to = elim advances.is [ inl is ↦ ap (λ (m : Moving). m.destination) is | inr (p, here, is) ↦ ap (λ (m : Moving). m.destination) is ]

  same_name : new.name ≡ move.name
  same_name = elim advances.is [ inl is ↦ ap (λ (m : Moving). m.name) is | inr (p, here, is) ↦ ap (λ (m : Moving). m.name) is ]

  same_g : new.granularity ≡ move.granularity
  same_g = elim advances.is [ inl is ↦ ap (λ (m : Moving). m.granularity) is | inr (p, here, is) ↦ ap (λ (m : Moving). m.granularity) is ]

  named : (e : Entry) → part_file new.destination new.name e ≡ part_file move.destination move.name e
  named e = ap (λ (n : ℕ). part_file n new.name e) same_to ∙ ap (λ (t : List ℕ). part_file move.destination t e) same_name

  -- an entry that is to be listed still
  goes_on : (e x : Entry) (n : Name) → part_file move.destination move.name e ≡ n → x.part.name ≡ e.part.name → Contains new.pending x → Contains (targets new) n
  goes_on e x n is same within =
      subst (Contains (targets new)) (named x ∙ (ap (λ (t : List ℕ). (move.destination, path_of move.name t)) same ∙ is)) (map_in (part_file new.destination new.name) new.pending x within)

  last_of_all : (rest : List Entry) (e : Entry) → Contains (rest ++ e ∷ []) e
  last_of_all rest e = Contains-append_right rest (e ∷ []) e (zero, omega arith, refl)

  one_of : (e x : Entry) → Contains (e ∷ []) x → x ≡ e
  one_of e x (zero, lt, is) = sym is
  one_of e x (suc k, lt, is) = absurd (omega (arith, lt))

  set_within : (entry : Entry) → SetsLast entry move.pending new.pending → Contains new.pending entry
  set_within entry (inl takes) = subst (λ (es : List Entry). Contains es entry) (sym takes.becomes) (last_of_all takes.rest entry)
  set_within entry (inr stands) = subst (λ (es : List Entry). Contains es entry) (sym stands.becomes) (last_of_all move.pending entry)

  set_still : (entry : Entry) → SetsLast entry move.pending new.pending → (n : Name) → Contains (targets move) n → Contains (targets new) n
  set_still entry sets n t = go sets
    where
      e : (x : Entry) × Contains move.pending x × (part_file move.destination move.name x ≡ n)
      e = map_out (part_file move.destination move.name) move.pending n t

      go : SetsLast entry move.pending new.pending → Contains (targets new) n
      go (inr stands) = goes_on e.0 e.0 n e.2 refl (subst (λ (es : List Entry). Contains es e.0) (sym stands.becomes) (Contains-append_left move.pending (entry ∷ []) e.0 e.1))
      go (inl takes) = elim (Contains-append_cases takes.rest (takes.last ∷ []) e.0 (subst (λ (es : List Entry). Contains es e.0) takes.are e.1)) [
        | inl there ↦ goes_on e.0 e.0 n e.2 refl (subst (λ (es : List Entry). Contains es e.0) (sym takes.becomes) (Contains-append_left takes.rest (entry ∷ []) e.0 there))
        | inr last ↦
            let is : e.0 ≡ takes.last = one_of takes.last e.0 last in
            let a : IsPart move.granularity e.0.part = (All-contains (λ (x : Entry). IsPart move.granularity x.part × (x.series ≡ move.series)) move.pending e.0 running.pending e.1).0 in
            let b : IsPart move.granularity entry.part = subst (λ (g : Granularity). IsPart g entry.part) same_g (All-contains (λ (x : Entry). IsPart new.granularity x.part × (x.series ≡ new.series)) new.pending entry still_running.pending (set_within entry sets)).0 in
            let begin : e.0.part.start ≡ entry.part.start = ap (λ (x : Entry). x.part.start) is ∙ takes.same in
            let in_a = parts.within move.granularity e.0.part a in
            let in_b = parts.within move.granularity entry.part b in
            let one : e.0.part ≡ entry.part = parts.one_part move.granularity e.0.part entry.part e.0.part.start a b (omega arith, in_a.1) (omega (arith, begin), omega (arith, begin, in_b.1)) in
            goes_on e.0 entry n e.2 (ap (λ (p : Part). p.name) (sym one)) (set_within entry sets)
      ]

  pub step_targets : slice_get move.parts move.at ≡ Some part → IsPlacedOrNot move revived part → HasFile disk.files (source_file move part) (λ b. len ≤ length b)
      → ((p : Entry) (start : Start) → GoesTo move revived p start → LeavesFile (target_file move start) start.at disk then)
      → ((p : Entry) (start : Start) (b : List ℕ) → GoesTo move revived p start → disk.files (source_file move p) ≡ Some b → CopiesPart move new start p from len 1_048_576 b disk.files then)
      → (((p : Entry) (start : Start) → GoesTo move revived p start → ⊥) → ReadsDisk disk then) → WritesTargets move new disk.files then.files
  step_targets here (inl (start, goes)) file leaves copies nowhere = let done = copies part start file.bytes goes file.file in go done.0 done.1
    where
      go : (lines : List ℕ) → Copies (target_file move start) start part from len 1_048_576 file.bytes move.pending new.pending disk.files then lines → WritesTargets move new disk.files then.files
      go lines copied = elim copied.writes [
        | inl writes ↦ record {
          others = λ n not. (leaves part start goes).elsewhere n (λ is. not (goes_on start.entry copied.entry n (sym is) (ap (λ (p : Part). p.name) copied.part_is) (set_within copied.entry writes.set)));
          still = set_still copied.entry writes.set;
        }
        | inr none ↦ targets_same move new disk.files then.files (ap (λ (es : List Entry). map (part_file new.destination new.name) es) none.same ∙ (ap (λ (n : ℕ). map (part_file n new.name) move.pending) same_to ∙ ap (λ (t : List ℕ). map (part_file move.destination t) move.pending) same_name)) none.same_files
      ]
  step_targets here (inr none) file leaves copies nowhere = record {
    others = λ n not. ap (λ (f : Files). f n) (nowhere never).same;
    still = λ n t. elim advances.sets [
      | inl same ↦ subst (λ (ns : List Name). Contains ns n) (sym (ap (λ (es : List Entry). map (part_file new.destination new.name) es) (new_pending ∙ same) ∙ (ap (λ (k : ℕ). map (part_file k new.name) move.pending) same_to ∙ ap (λ (x : List ℕ). map (part_file move.destination x) move.pending) same_name))) t
      | inr (p, start, entry, goes, part_is, series_is, long, sets) ↦ absurd (never p start goes)
    ];
  }
    where
      new_pending : new.pending ≡ advances.pending
      new_pending = elim advances.is [ inl is ↦ ap (λ (m : Moving). m.pending) is | inr (p, at, is) ↦ ap (λ (m : Moving). m.pending) is ]

      never : (p : Entry) (start : Start) → GoesTo move revived p start → ⊥
      never p start goes =
          let same : p ≡ part = same_Some p part (sym goes.at_hand ∙ here) in
          let to : goes.to ≡ none.to = parts.one_part move.granularity goes.to none.to part.part.start goes.is none.is (subst (λ (x : Entry). HoldsMoment goes.to x.part.start) same goes.holds) none.holds in
          let both : ◌≡◌ {A = Option Start} (Some start) None =
          sym goes.begins ∙ (ap (λ (x : Part). starts (last_of move.pending move.listed) move.series x p.head_len revived) to ∙ (ap (λ (x : Entry). starts (last_of move.pending move.listed) move.series none.to x.head_len revived) same ∙ none.none)) in
          absurd (cc (both))

-- what a step's end makes of the move changes nothing of what it is to list
pub targets_ended : (k : ℕ) (rest_covered : Bool) (mid final : Moving) (r end : CopyEnd)
    → (end ≡ copied.More → rest_covered ≡ true → k < mid.at → (r ≡ copied.Copied) × PassesRest mid final)
    → (end ≡ copied.More → (rest_covered ≡ true → k < mid.at → ⊥) → (r ≡ copied.More) × (final ≡ mid))
    → ((end ≡ copied.More → ⊥) → (r ≡ end) × (final ≡ mid))
    → targets final ≡ targets mid
targets_ended k rest_covered mid final r end passed unended other = by_end end refl
  where
    by_test : end ≡ copied.More → (t : Bool) → rest_covered ≡ t → targets final ≡ targets mid
    by_test more false is = ap targets (unended more (λ yes beyond. cc (is, yes))).1
    by_test more true is = elim (cases_lt k mid.at) [
      | inl beyond ↦ ap targets (passed more is beyond).1
      | inr before ↦ ap targets (unended more (λ yes beyond. omega (arith, before, beyond))).1
    ]

    by_end : (e : CopyEnd) → end ≡ e → targets final ≡ targets mid
    by_end copied.More is = by_test is rest_covered refl
    by_end copied.Copied is = ap targets (other (λ more. cc (is, more))).1
    by_end (copied.Damaged name at) is = ap targets (other (λ more. cc (is, more))).1
