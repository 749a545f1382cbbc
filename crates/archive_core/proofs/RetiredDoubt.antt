-- A retirement that failed: its files may be in limbo while their store lists them still.
use Rattle.std.proofs.Common.{◌≡◌, ◌≢◌, ◌⊎◌, inl, inr, ℕ, ◌+◌, ◌<◌, List, [], ◌∷◌, length, map, Bool, true, false, Some, refl, sym, ◌∙◌, ap, subst}
use Rattle.std.specs.FinMap.{FinMap}
use Rattle.std.specs.List.{list_any}
use Rattle.std.specs.Ordering.{nat_cmp}
use Rattle.std.specs.Prelude.{Contains, IsTrue, slice_get}
use Rattle.std.proofs.lemmas.List.Elements.{Contains-append_cases, Contains-append_left, Contains-append_right}
use Rattle.std.proofs.lemmas.Option.{same_Some}
use Rattle.disk_model.specs.Files.{Name}
use Rattle.disk_model.specs.Past.{MayLeave}
use Rattle.disk_model.specs.Record.{is_same}
use Rattle.pins.specs.Pieces.{PinOf}
use Rattle.pv_catalog.specs.Rows.{KeepsRows}
use Rattle.pv_catalog.specs.declared.row.Row.{Row}
use Rattle.pv_catalog.proofs.Standing.{keeps_same}
use Rattle.store_manifest.specs.declared.entry.Entry.{Entry}
use Rattle.durable_write.specs.Held.{Filed, Shelf, entry_of}
use Rattle.tier_store.specs.Change.{Has, IsKnown}
use Rattle.tier_store.specs.Limbo.{LimboStands, IsListedName}
use Rattle.tier_store.specs.Pinned.{SeenAll, beside, KeepsShown}
use Rattle.tier_store.specs.Retiring.{AreOldest, Enter, HandedOver, Leaves, StayOrEnter, ShowsKept, oldest, retired_of, without_oldest}
use Rattle.tier_store.specs.Seen.{Seen, granularities}
use Rattle.tier_store.specs.Stores.{Stores}
use Rattle.tier_store.specs.declared.limbo.Retired.{Retired}
use Rattle.tier_store.proofs.Showing.{same_entries}
use Rattle.tier_store.proofs.Retirements.{name_left}
use Rattle.tier_store.proofs.Removals.{among_is, is_among, limbo_kept, stay_cases, stay_from}
use Rattle.act_model.specs.Changes.{made, Retires}
use Rattle.act_model.specs.Limbo.{RowFile}
use Rattle.act_model.specs.Machine.{Machine, Change, Unlists}
use Rattle.act_model.specs.OpenPiece.{name_of}
use Rattle.act_model.specs.Rows.{RowState, Store, Long}
use Rattle.act_model.specs.Rule.{index_of}
use Rattle.act_model.specs.Sound.{IsSound}
use Rattle.archive_core.specs.LimboTies.{IsRetiredOf, HasRetired, IsOneOf, NamesDiffer, IsLimboOf, row_file}
use Rattle.archive_core.specs.MoveChoice.{HaveDurable}
use Rattle.archive_core.specs.MoveTies.{ends_from}
use Rattle.archive_core.specs.Retiring.{IsRetiring, SettlesRetired}
use Rattle.archive_core.specs.Stands.{IsRuleOf, HoldsDurable}
use Rattle.archive_core.proofs.Lists.{no_moves, rows_go_on, same_grow, stays_listed, element, map_in, map_out}
use Rattle.archive_core.proofs.RetiredLimbo.{leaving, leaving_differ, leaving_listed, listed_after, named, one_named, differ_both, part_leaves, part_of, part_own, names_unlisted, untold_limbo}
use Rattle.archive_core.proofs.LimboSwept.{listed_is, stay_differ}
use Rattle.archive_core.proofs.LimboTying.{GoesOn, limbo_made, KeepsFiles, retired_stays, untold_retires, names_stay}
use Rattle.archive_core.proofs.MovesKept.{own, own_name, owns_differ, retires_with}
use Rattle.archive_core.proofs.Windows.{index_low}

-- THE FILES THAT WERE HANDED OVER

map_entries : (shelf : Shelf) (fs : List Filed) → map (retired_of shelf) (map entry_of fs) ≡ map (λ (f : Filed). retired_of shelf f.entry) fs
map_entries shelf [] = refl
map_entries shelf (f ∷ fs) = ap (λ (l : List Retired). retired_of shelf f.entry ∷ l) (map_entries shelf fs)

-- those that are to leave are the oldest files of what the stores have
oldest_are : (at : Seen) (place i n : ℕ) (low : place < 3) (s : Stores) → IsKnown at.catalogue at.manifests s → (files : List Retired) → AreOldest at place i n files → files ≡ leaving place i n low s
oldest_are at place i n low s known files are =
    are.are
    ∙ (ap (λ (es : List Entry). map (retired_of (place + 1, at.catalogue.rows)) es) (same_entries place i n s are.manifest.entries (known.each place are.manifest are.here).entries)
    ∙ (map_entries (place + 1, at.catalogue.rows) (oldest place i n s)
    ∙ ap (λ (rows : List Row). map (λ (f : Filed). retired_of (place + 1, rows) f.entry) (oldest place i n s)) known.rows))

-- THE SAME IS LISTED

-- after an error limbo is still the machine's: it is as it was, but for files that are listed
module _ (tells : Bool) (old new : Seen) (limbo left : List Retired) (told : Bool) (rows : List RowState) (files : List RowFile) (s : Stores) (was : IsKnown old.catalogue old.manifests s) (now : IsKnown new.catalogue new.manifests s) (same_g : granularities new.manifests ≡ granularities old.manifests)
    (pinned : FinMap nat_cmp PinOf) (shown : ShowsKept tells pinned (beside old limbo) (beside new left)) (still : LimboStands new left) (tie : IsLimboOf tells (beside old limbo) told rows files) where
  listed_on : (name : Name) → IsListedName old name → IsListedName new name
  listed_on name listed = stays_listed old new s s name was now (same_grow no_moves s) listed

  listed_back : (name : Name) → IsListedName new name → IsListedName old name
  listed_back name listed = stays_listed new old s s name now was (same_grow no_moves s) listed

  keeps : KeepsFiles tells (beside old limbo) (beside new left) rows rows
  keeps = record { shown = λ file bytes there. shown file.name bytes (inr (inr (name_left left file there))); variables = rows_go_on old new s s was now (same_grow no_moves s); names = names_stay rows; granularity = same_g }

  like : NamesDiffer named left → ((file : Retired) → Contains limbo file → (IsListedName old file.name → ⊥) → Contains left file) → ((file : Retired) → Contains left file → (IsListedName new file.name → ⊥) → Contains limbo file) → IsLimboOf tells (beside new left) told rows files
  like differ stay from = record {
    stands = still;
    differ = differ;
    retired = λ on. record {
      each = λ f there.
          let own = (tie.retired on).each f there in
          let in_left = stay own.file own.within (λ listed. tie.unlisted on f own.is.row there own.is.here (subst (λ (n : Name). IsListedName old n) own.is.named listed)) in
          record { file = own.file; within = in_left; is = retired_stays tells (beside old limbo) (beside new left) rows rows f own.file keeps in_left own.is };
      others = λ file there none.
          let one = (tie.retired on).others file (from file there none) (λ listed. none (listed_on file.name listed)) in
          record { f = one.f; within = one.within; is = retired_stays tells (beside old limbo) (beside new left) rows rows one.f file keeps there one.is };
    };
    unlisted = λ on f row there here listed. tie.unlisted on f row there here (listed_back (name_of row f) listed);
    none = tie.none;
    bare = tie.bare;
  }

  module _ (i n : ℕ) (store : Store) where
    low : index_of store < 3
    low = index_low store

    abbrev go : List Retired
    go = leaving (index_of store) i n low s

    entered : Enter new limbo left go → IsLimboOf tells (beside new left) told rows files
    entered enter = like differ stay from
      where
        differ : NamesDiffer named left
        differ =
            let front = stay_differ (λ r. Unit {0}) (λ r. IsListedName new r.name ⊎ Leaves go r.name) limbo enter.kept enter.stay tie.differ in
            subst (λ (l : List Retired). NamesDiffer named l) (sym enter.are) (differ_both enter.kept go front (leaving_differ (index_of store) i n low s new now) (λ x y in_x in_y same. enter.apart x in_x (y, in_y, same)))

        stay : (file : Retired) → Contains limbo file → (IsListedName old file.name → ⊥) → Contains left file
        stay file there free = elim (stay_cases (λ r. Unit {0}) (λ r. IsListedName new r.name ⊎ Leaves go r.name) limbo enter.kept file enter.stay there) [
          | inl is ↦ subst (λ (l : List Retired). Contains l file) (sym enter.are) (Contains-append_left enter.kept go file is)
          | inr gone ↦ elim gone [
            | inl listed ↦ absurd (free (listed_back file.name listed))
            | inr leaves ↦ absurd (free (listed_back file.name (leaving_listed (index_of store) i n low s new now file.name leaves)))
          ]
        ]

        from : (file : Retired) → Contains left file → (IsListedName new file.name → ⊥) → Contains limbo file
        from file there none = elim (Contains-append_cases enter.kept go file (subst (λ (l : List Retired). Contains l file) enter.are there)) [
          | inl is ↦ (stay_from (λ r. Unit {0}) (λ r. IsListedName new r.name ⊎ Leaves go r.name) limbo enter.kept file enter.stay is).0
          | inr leaves ↦ absurd (none (leaving_listed (index_of store) i n low s new now file.name (file, leaves, refl)))
        ]

    pub limbo_cut : StayOrEnter new (index_of store) i n limbo left → IsLimboOf tells (beside new left) told rows files
    limbo_cut (inl stay) = like (stay_differ (λ r. Unit {0}) (λ r. IsListedName new r.name) limbo left stay tie.differ)
        (λ file there free. elim (stay_cases (λ r. Unit {0}) (λ r. IsListedName new r.name) limbo left file stay there) [
          | inl is ↦ is
          | inr listed ↦ absurd (free (listed_back file.name listed))
        ])
        (λ file there none. (stay_from (λ r. Unit {0}) (λ r. IsListedName new r.name) limbo left file stay there).0)
    limbo_cut (inr (files, are, enter)) = entered (subst (λ (l : List Retired). Enter new limbo left l) (oldest_are new (index_of store) i n low s now files are) enter)

-- THE DOUBT BEGINS

-- after a fault within the commit the files of the doubted retirement are in limbo
module _ (tells : Bool) (old new : Seen) (limbo left : List Retired) (m : Machine) (held : Stores) (has : Has tells old held) (seen_now : IsTrue tells → MayLeave old.past old.files) (holds : HoldsDurable held m) (stands : m.told ≡ true → IsTrue held.stands) (i : ℕ) (store : Store) (row_there : i < length m.rows) (n to : ℕ)
    (ends : m.told ≡ true → to ≡ ends_from 0 (map entry_of (oldest (index_of store) i n held))) (now : IsKnown new.catalogue new.manifests held) (same_g : granularities new.manifests ≡ granularities old.manifests) (pinned : FinMap nat_cmp PinOf) (shown : ShowsKept tells pinned (beside old limbo) (beside new left)) where
  abbrev place : ℕ
  place = index_of store

  keeps_files : KeepsFiles tells (beside old limbo) (beside new left) m.rows m.rows
  keeps_files = record { shown = λ file bytes there. shown file.name bytes (inr (inr (name_left left file there))); variables = rows_go_on old new held held has.known now (same_grow no_moves held); names = names_stay m.rows; granularity = same_g }

  one_handed : (r : RowState) → slice_get m.rows i ≡ Some r → m.told ≡ true → Enter new limbo left (leaving place i n (index_low store) held) → (h : Filed) → Contains (oldest place i n held) h → HasRetired tells (beside new left) m.rows (own i store h)
  one_handed r here told enter h there =
      let file = retired_of (place + 1, held.rows) h.entry in
      let within : Contains left file = subst (λ (l : List Retired). Contains l file) (sym enter.are) (Contains-append_right enter.kept (leaving place i n (index_low store) held) file (part_leaves place i n (index_low store) held h there)) in
      let was : IsRetiredOf tells (beside old limbo) m.rows (own i store h) file =
      subst (λ (rows : List Row). IsRetiredOf tells (beside old limbo) m.rows (own i store h) (retired_of (place + 1, rows) h.entry)) has.known.rows
      (listed_is tells old limbo m held has seen_now holds (stands told) i r here store h (part_own place i n (index_low store) held h there)) in
      record { file = file; within = within; is = retired_stays tells (beside old limbo) (beside new left) m.rows m.rows (own i store h) file keeps_files within was }

  pub retiring_handed : HandedOver new place i n limbo left → IsRetiring tells (beside new left) m.told m.rows held (without_oldest place i n held) i store to
  retiring_handed (files, are, enter) =
      let row = element m.rows i row_there in
      let all = subst (λ (l : List Retired). Enter new limbo left l) (oldest_are new place i n (index_low store) held now files are) enter in
      record { number = n; same = refl; ends = ends; handed = λ told h there. one_handed row.0 row.1 told all h there }

-- THE DOUBT STANDS

-- so they are while the doubt stands
pub retiring_stays : (tells : Bool) (old new : Seen) (limbo : List Retired) (told : Bool) (rows later : List RowState) (before after : Stores) (i : ℕ) (store : Store) (to : ℕ) → KeepsFiles tells (beside old limbo) (beside new limbo) rows later → IsRetiring tells (beside old limbo) told rows before after i store to → IsRetiring tells (beside new limbo) told later before after i store to
retiring_stays tells old new limbo told rows later before after i store to keeps is = record {
  number = is.number;
  same = is.same;
  ends = is.ends;
  handed = λ on h there. let own = is.handed on h there in record { file = own.file; within = own.within; is = retired_stays tells (beside old limbo) (beside new limbo) rows later (row_file i store h) own.file keeps own.within own.is };
}

-- THE DOUBT IS SETTLED

module _ (tells : Bool) (old new : Seen) (limbo : List Retired) (m : Machine) (sound : IsSound m) (before after : Stores) (was : IsKnown old.catalogue old.manifests before) (holds : HoldsDurable before m) (rule : IsRuleOf old m.rule) (stands : m.told ≡ true → IsTrue before.stands) (tie : IsLimboOf tells (beside old limbo) m.told m.rows m.limbo)
    (i : ℕ) (store : Store) (moves : store ≢ Long) (row_there : i < length m.rows) (to : ℕ) (doubted : IsRetiring tells (beside old limbo) m.told m.rows before after i store to) (now : Has tells new after) (holds_after : HoldsDurable after (made [] (Unlists i store to) m)) (same_g : granularities new.manifests ≡ granularities old.manifests)
    (shown : KeepsShown tells (beside old limbo) (beside new limbo)) where
  abbrev at : ℕ
  at = index_of store

  below : at < 3
  below = index_low store

  abbrev n : ℕ
  n = doubted.number

  abbrev parts : List Filed
  parts = oldest at i n before

  abbrev gone : List Retired
  gone = leaving at i n below before

  abbrev change : Change
  change = Unlists i store to

  abbrev old_all : SeenAll
  old_all = beside old limbo

  abbrev new_all : SeenAll
  new_all = beside new limbo

  has_less : Has tells new (without_oldest at i n before)
  has_less = subst (λ (s : Stores). Has tells new s) doubted.same now

  variables : KeepsRows old.catalogue.rows new.catalogue.rows
  variables = subst (λ (rows : List Row). KeepsRows old.catalogue.rows rows) (was.rows ∙ sym has_less.known.rows) (keeps_same old.catalogue.rows)

  keeps_all : KeepsFiles tells old_all new_all m.rows (made [] change m).rows
  keeps_all = record { shown = λ file bytes there. shown file.name bytes; variables = variables; names = names_unlisted m i store to; granularity = same_g }

  still : LimboStands new limbo
  still = limbo_kept old new limbo variables same_g tie.stands

  -- one of the names is this, or none
  leaves_or : (name : Name) → Leaves gone name ⊎ (Leaves gone name → ⊥)
  leaves_or name = by_test (list_any (λ (other : Name). is_same other name) (map named gone)) refl
    where
      by_test : (b : Bool) → list_any (λ (other : Name). is_same other name) (map named gone) ≡ b → Leaves gone name ⊎ (Leaves gone name → ⊥)
      by_test true is = let one = map_out named gone name (among_is (map named gone) name is) in inl (one.0, one.1, one.2)
      by_test false is = inr (λ leaves. (let among = is_among (map named gone) name (subst (λ (x : Name). Contains (map named gone) x) leaves.2 (map_in named gone leaves.0 leaves.1)) in let both : true ≡ false = sym among ∙ is in absurd (cc (both))))

  module _ (told : m.told ≡ true) (r : RowState) (here : slice_get m.rows i ≡ Some r) where
    have : HaveDurable old.catalogue old.manifests before m
    have = record { known = was; holds = holds; rule = rule.granularity; stands = stands }

    abbrev into : List RowFile
    into = map (own i store) parts

    told_retires : Retires m change into
    told_retires =
        retires_with old.catalogue old.manifests before m have sound told i r here store moves n to (doubted.ends told) into (λ f there. (let one = map_out (own i store) parts f there in (one.0, one.1, one.2))) (λ h there is. map_in (own i store) parts h there)
        (owns_differ old.catalogue old.manifests before m have sound told i r here store moves n to (doubted.ends told))

    -- a file of limbo that has the name of one of them is that one
    is_handed : (file : Retired) → Contains limbo file → Leaves gone file.name → IsOneOf tells new_all (made [] change m).rows into file
    is_handed file there (gone_file, among, same) =
        let h = part_of at i n below before gone_file among in
        let handed = doubted.handed told h.0 h.1 in
        let row : handed.is.row ≡ r = same_Some handed.is.row r (sym handed.is.here ∙ here) in
        let name : handed.file.name ≡ file.name = handed.is.named ∙ (ap (λ (q : RowState). name_of q (own i store h.0)) row ∙ (sym (own_name before m holds i r here store h.0 (part_own at i n below before h.0 h.1)) ∙ (ap named h.2 ∙ same))) in
        let one : handed.file ≡ file = one_named limbo handed.file file tie.differ handed.within there name in
        record {
          f = own i store h.0;
          within = map_in (own i store) parts h.0 h.1;
          is = retired_stays tells old_all new_all m.rows (made [] change m).rows (own i store h.0) file keeps_all there (subst (λ (x : Retired). IsRetiredOf tells old_all m.rows (own i store h.0) x) one handed.is);
        }

    goes : GoesOn tells old_all new_all (made [] change m).rows into
    goes = record {
      stay = λ file there free. there;
      come = λ file there none. elim (leaves_or file.name) [
        | inl leaves ↦ inr (is_handed file there leaves)
        | inr stays ↦ inl (
          there,
          λ listed. elim (listed_after at i n below before old was new has_less.known file.name listed) [
            | inl is ↦ none is
            | inr leaves ↦ stays leaves
          ],
        )
      ];
      into_is = λ f there. (
          let one = map_out (own i store) parts f there in
          let handed = doubted.handed told one.0 one.1 in
          subst (λ (x : RowFile). HasRetired tells new_all (made [] change m).rows x) one.2 (record { file = handed.file; within = handed.within; is = retired_stays tells old_all new_all m.rows (made [] change m).rows (own i store one.0) handed.file keeps_all handed.within handed.is })
          );
    }

    told_settles : SettlesRetired tells new_all m i store to
    told_settles = record {
      into = into;
      retires = told_retires;
      limbo = limbo_made tells old_all new_all m into change keeps_all goes after now holds_after (rule.granularity ∙ sym same_g) rule.headers (λ on. subst (λ (s : Stores). IsTrue s.stands) (sym doubted.same) (stands on)) still tie.differ (λ off. absurd (let both : true ≡ false = sym told ∙ off in cc (both))) tie;
    }

  -- all files of the retirement come to the machine's limbo, which is then the stores'
  pub settled_retired : SettlesRetired tells new_all m i store to
  settled_retired = by_told m.told refl
    where
      by_told : (b : Bool) → m.told ≡ b → SettlesRetired tells new_all m i store to
      by_told true on = let row = element m.rows i row_there in told_settles on row.0 row.1
      by_told false off = record { into = []; retires = untold_retires m change off (tie.bare off); limbo = untold_limbo tells new_all m change off still tie.differ old_all tie }
