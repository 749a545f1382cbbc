-- What one step of copying leaves, by what the move's own call tells: its store, what is shown, other names, and files in limbo.
use Rattle.std.proofs.Common.{[], ◌≡◌, ◌⊎◌, inl, inr, true, Bool, ℕ, zero, suc, ◌<◌, ◌≤◌, ◌+◌, List, Some, None, length, get_or, refl, sym, ◌∙◌, ap, subst, arith, map}
use Rattle.std.specs.Prelude.{Contains, IsTrue, slice_get}
use Rattle.std.proofs.lemmas.List.Elements.{All-contains, Contains-get_or, filter_passes}
use Rattle.disk_model.specs.Files.{Name, Files, HasFile, At}
use Rattle.disk_model.specs.Past.{MayLeave, Passes}
use Rattle.disk_model.proofs.Passing.{passes_weaker}
use Rattle.gate_journal.specs.DiskShown.{DiskShown, ReadsDisk}
use Rattle.etl_mover.specs.Growing.{IsPlaced}
use Rattle.etl_mover.specs.Move.{Moving, part_file}
use Rattle.etl_mover.specs.Step.{GoesTo, GoesNowhere, target_file}
use Rattle.etl_mover.specs.Writing.{LeavesFile}
use Rattle.etl_mover.proofs.Steps.{IsOfPart, start_is}
use Rattle.etl_mover.proofs.Written.{allows, still_ahead, still_holds}
use Rattle.partition_names.specs.declared.granularity.Granularity.{Granularity}
use Rattle.partition_names.specs.Part.{IsPart}
use Rattle.partition_names.specs.Path.{path_of}
use Rattle.pv_catalog.specs.Catalogue.{CatalogueState}
use Rattle.pv_catalog.specs.declared.row.Row.{Row}
use Rattle.store_files.specs.Fronts.{Begins, Keeps}
use Rattle.store_manifest.specs.Manifest.{ManifestState}
use Rattle.store_manifest.specs.declared.entry.Entry.{Entry}
use Rattle.durable_write.specs.Ahead.{HasCopied, IsLed}
use Rattle.durable_write.specs.Ends.{Done}
use Rattle.durable_write.specs.Flush.{put_all, start_of, with_files, file_at}
use Rattle.durable_write.specs.Held.{Filed, Held, IsIn, IsListed, file_of, filed_at, name_of, shelf_of, entry_of}
use Rattle.durable_write.specs.Stored.{AreHeld, AreSafe, Holds, TierStored, AreLong}
use Rattle.durable_write.proofs.Places.{all_put_all, listed_at, rise_filter}
use Rattle.durable_write.proofs.Staying.{name_cases, same_file, same_place, contains_map, same_cases, all_keeps, safe_stays}
use Rattle.tier_store.specs.Stores.{Stores, list_at, tier, with_list}
use Rattle.tier_store.specs.Seen.{seen_on}
use Rattle.tier_store.specs.Change.{Has}
use Rattle.tier_store.specs.Copying.{CopiesFurther, LeavesOthers, StaysHeld}
use Rattle.tier_store.specs.Given.{ChangesGiven}
use Rattle.tier_store.specs.Limbo.{staying, LimboStands}
use Rattle.tier_store.specs.Moving.{of_files}
use Rattle.tier_store.specs.Pinned.{SeenAll, beside, IsThereTo, KeepsFronts, KeepsShown, IsHeldTo}
use Rattle.tier_store.specs.Revival.{AreWhole, KeepsWhole, store_with, IsOfLimbo}
use Rattle.tier_store.specs.declared.limbo.Retired.{Retired}
use Rattle.tier_store.proofs.OnePlace.{OnStore, safe_beside, given_done}
use Rattle.tier_store.proofs.CopyFiles.{Start, Where, all_in, placed, where_it_goes}
use Rattle.tier_store.proofs.Showing.{Longer, by_files, contains_filter, from_filter, none_at, held_same, known_spares, name_listed, read_shown, shown, has_held}
use Rattle.tier_store.proofs.Holding.{all_left, hold_at}
use Rattle.tier_store.proofs.RunningMoves.{has_copied, same_size, valid_with}
use Rattle.tier_store.proofs.Places.{granularity_at, set_same, one_manifest, within_three}
use Rattle.tier_store.proofs.ReadCalls.{has_read}
use Rattle.store_manifest.specs.Entries.{Place, place}
use Rattle.tier_store.proofs.Revival.{limbo_name, none_is, place_named}
use Rattle.tier_store.proofs.Frames.{filed_fewer, name_at, safe_fewer}
use Rattle.etl_mover.specs.Copying.{after}
use Rattle.durable_write.proofs.Written.{contains_entry}
use Rattle.tier_store.specs.declared.copying.CopyEnd.TheVariants as ends
use Rattle.tier_store.specs.Reviving.{free_of, is_free, is_nothing}

-- the stores with the list that a place has
list_kept : (i : ℕ) (s : Stores) → i < 3 → with_list i (list_at i s) s ≡ s
list_kept zero s low = refl
list_kept (suc zero) s low = refl
list_kept (suc (suc zero)) s low = refl
list_kept (suc (suc (suc i))) s low = absurd (omega (arith, low))

-- a file that is ahead is listed or is to be
pub put_cases : (xs fs : List Filed) (f : Filed) → Contains (put_all xs fs) f → Contains xs f ⊎ Contains fs f
put_cases xs fs f within =
    All-contains (λ (x : Filed). Contains xs x ⊎ Contains fs x) (put_all xs fs) f (all_put_all (λ (x : Filed). Contains xs x ⊎ Contains fs x) xs fs (λ k d lt. inl (Contains-get_or xs k d lt)) (λ k d lt. inr (Contains-get_or fs k d lt))) within

-- WHAT IS SAID OF THE DISK

module _ {S : Type 0} (shows : S → DiskShown) (faults_of : S → ℕ) (tells : Bool) (c : CatalogueState) (ms : List ManifestState) (limbo : List Retired) (from : ℕ) (m : ManifestState) (here : slice_get ms (from + 1) ≡ Some m) (d after : S)
    (seen_it : IsTrue tells → MayLeave (shows d).past (shows d).files) where
  abbrev i : ℕ
  i = from + 1

  abbrev old : SeenAll
  old = beside (seen_on shows faults_of c ms d) limbo

  abbrev new : SeenAll
  new = beside (seen_on shows faults_of c ms after) limbo

  -- what the call says of files: lines went behind a place of one, or files were read alone
  abbrev pub Leaves : Moving → Start → Type 0
  Leaves move start = IsTrue tells → LeavesFile (target_file move start) start.at (shows d) (shows after)

  abbrev pub Reads : Type 0
  Reads = IsTrue tells → ReadsDisk (shows d) (shows after)

  abbrev pub Wrote : Moving → Entry → Type 0
  Wrote move part = ((start : Start) × GoesTo move None part start × Leaves move start) ⊎ (GoesNowhere move None part × Reads)

  -- no file in limbo has the name of a file that is made anew
  abbrev pub Apart : Moving → Type 0
  Apart move = (p : Entry) (start : Start) → GoesTo move None p start → start.at ≡ None → (r : Retired) → Contains limbo r → r.name ≡ file_of (i + 1, c.rows) start.entry → ⊥

  -- what it leaves of its store
  pub record Stays (files : List Filed) (held : Stores) : Type 0 where
    pub stored : TierStored m.granularity m.journal (shows after) (tier i held)
    pub moments : Passes (λ a b. Holds m.granularity b (tier i held)) (shows d).past (shows after).past
    pub safe : AreSafe (of_files i held files) (shows after)

  module _ (move : Moving) (part : Entry) (files : List Filed) (held : Stores) (has : Has tells old.stores held) (is : CopiesFurther from tells old move files held) where
    abbrev pub base : Held
    base = with_files (tier i held) files

    pub valid : AreHeld m.granularity base
    valid = valid_with i tells old held files is.runs.ahead m here has

    pub coarse : m.granularity ≡ move.granularity
    coarse = same_size i tells old move files held m here is.runs

    pub copied : IsTrue tells → HasCopied c.journal m (i + 1, c.rows) (shows d) (tier i held) base
    copied told = has_copied i tells old held files is.runs.ahead m here has told (seen_it told)

    -- the name of a file of the row
    pub name_is : IsTrue tells → (e : Entry) → e.series ≡ move.series → file_of (i + 1, held.rows) e ≡ part_file move.destination move.name e
    name_is told e own =
        ap (λ (n : ℕ). (n, path_of (name_of (slice_get held.rows e.series)) e.part.name)) (sym (is.runs.numbers told).1)
        ∙ (ap (λ (n : ℕ). (move.destination, path_of (name_of (slice_get held.rows n)) e.part.name)) own
        ∙ (ap (λ o. (move.destination, path_of (name_of o) e.part.name)) is.runs.stands ∙ ap (λ (t : List ℕ). (move.destination, path_of t e.part.name)) is.runs.name))

    module _ (start : Start) (goes : GoesTo move None part start) where
      pub of_part : IsOfPart move.granularity move.series part start.entry
      of_part = start_is is.runs.fine move None part start is.runs.running tt goes

      pub where_is : Where base move.series part.head_len start
      where_is = where_it_goes move base part start goes valid.apart is.last

      -- the file, with nothing known of its bytes
      abbrev pub bare : Entry → Filed
      bare e = record { entry = e; head = []; samples = [] }

      pub listed_here : (f : Filed) → f.entry.series ≡ move.series → f.entry.part ≡ start.entry.part → IsListed m.granularity held.rows f
      listed_here f own of = record {
        row = is.runs.row;
        stands = ap (slice_get held.rows) own ∙ is.runs.stands;
        part = subst (λ p. IsPart m.granularity p) (sym of) (subst (λ (g : Granularity). IsPart g start.entry.part) (sym coarse) of_part.is);
      }

      pub placed_here : (f : Filed) → f.entry.series ≡ move.series → f.entry.part ≡ start.entry.part → IsPlaced m.granularity base start.at f
      placed_here f own of = placed m.granularity base move.series part.head_len start valid of_part.own f own of where_is (listed_here f own of)

      module _ (leaves : Leaves move start) where
        pub call : IsTrue tells → LeavesFile (file_of (shelf_of base) start.entry) start.at (shows d) (shows after)
        call told = subst (λ (n : Name). LeavesFile n start.at (shows d) (shows after)) (sym (name_is told start.entry of_part.own)) (leaves told)

        stays_goes : IsTrue tells → Stays files held
        stays_goes told =
            let f : Filed = bare start.entry in
            let at = placed_here f of_part.own refl in
            let s = still_ahead c.journal m (i + 1, c.rows) (shows d) (shows after) (tier i held) base start.at f (copied told) at (call told) in
            record {
              stored = s.stored.stored.tier;
              moments = still_holds c.journal m (i + 1, c.rows) (shows d) (shows after) (tier i held) base start.at f (copied told) at (call told);
              safe = safe_in s.safe.safe;
            }
          where
            safe_in : AreSafe base (shows after) → AreSafe (of_files i held files) (shows after)
            safe_in safe = record {
              long = all_in (λ (f : Filed). HasFile (shows after).files (file_of (i + 1, held.rows) f.entry) (λ b. f.entry.len ≤ length b)) files (list_at i held) is.runs.ahead.rise safe.long;
              unopened = all_in (λ (f : Filed). (shows after).opened (file_of (i + 1, held.rows) f.entry) ≤ f.entry.len) files (list_at i held) is.runs.ahead.rise safe.unopened;
              left = λ image left stands. all_in (IsIn (i + 1, held.rows) image) files (list_at i held) is.runs.ahead.rise (safe.left image left stands);
            }

        on_goes : IsTrue tells → OnStore (i + 1) m.journal.name (shows d) (shows after)
        on_goes told =
            let leaves_it = call told in
            record {
              numbered = omega arith;
              named = ((has.disk told).each i m here).named;
              passes = passes_weaker (At (file_of (shelf_of base) start.entry) (Keeps (start_of start.at))) _ _ _ leaves_it.any_moment (λ a x was step n other apart. step.elsewhere n (λ same. other (ap (λ (y : Name). y.0) same)));
              same = λ n other apart. leaves_it.elsewhere n (λ same. other (ap (λ (y : Name). y.0) same));
              fewer = leaves_it.fewer;
            }

        -- what is shown stays
        fronts_goes : Apart move → IsTrue tells → KeepsFronts old new
        fronts_goes apart_from told name len there front some within begins = elim (name_cases name (file_of (shelf_of base) start.entry)) [
          | inl same ↦ subst (λ (n : Name). Begins front ((shows after).files n)) (sym same) ((call told).front front some (at_most there same) (subst (λ (n : Name). Begins front ((shows d).files n)) same begins))
          | inr apart ↦ subst (Begins front) (sym ((call told).elsewhere name apart)) begins
        ]
          where
            at_most : IsThereTo old name len → name ≡ file_of (shelf_of base) start.entry → length front ≤ start_of start.at
            at_most (inr r) same = by_place where_is
              where
                named : r.file.name ≡ file_of (i + 1, held.rows) start.entry
                named = r.named ∙ same

                -- as far as it is listed, where it is
                listed_so : (h : Filed) → Contains (list_at i held) h → file_of (i + 1, held.rows) h.entry ≡ name → len ≤ h.entry.len
                listed_so h h_in h_named = All-contains (Longer i held.rows name len) (list_at i held) h (by_files i held.rows (list_at i held) name len (known_spares old.stores held name len has.known r.no_shorter i (within_three ms i m has.known.three here))) h_in h_named

                ahead_so : (x : Filed) → Contains files x → file_of (i + 1, held.rows) x.entry ≡ name → len ≤ x.entry.len
                ahead_so x x_in x_named = elim (listed_at (list_at i held) (filed_at x)) [
                  | inl free ↦
                      let more = is.runs.ahead.longer_retired r.file x r.within x_in (r.named ∙ sym x_named) free in
                      let longer = r.longer in
                      omega (arith, more, longer)
                  | inr (h, h_in, h_at, h_there) ↦
                      let known = (has.known.each i m here).valid in
                      let h_is = All-contains (IsListed m.granularity held.rows) (list_at i held) h known.filed.listed h_in in
                      let x_is = All-contains (IsListed m.granularity held.rows) files x (is.runs.ahead.filed m.granularity (granularity_at ms i m here)).listed x_in in
                      let long = listed_so h h_in (same_file m.granularity (i + 1) held.rows h x h_is x_is h_at ∙ x_named) in
                      let more = is.runs.ahead.longer h x h_in x_in h_at in
                      omega (arith, long, more)
                ]

                by_place : Where base move.series part.head_len start → length front ≤ start_of start.at
                by_place (inr made) = absurd (apart_from part start goes made.at r.file r.within (named ∙ ap (λ (rows : List Row). file_of (i + 1, rows) start.entry) (sym has.known.rows)))
                by_place (inl on) =
                    let own : file_of (i + 1, held.rows) on.file.entry ≡ name = ap (file_of (i + 1, held.rows)) (sym on.entry) ∙ sym same in
                    let long : len ≤ on.file.entry.len = elim (put_cases (list_at i held) files on.file on.within) [ inl listed ↦ listed_so on.file listed own | inr ahead ↦ ahead_so on.file ahead own ] in
                    let at = ap start_of on.at in
                    omega (arith, within, long, at)
            at_most (inl h) same =
                let number = name_listed old.stores name len h in
                let store : name.0 ≡ i + 1 = ap (λ (n : Name). n.0) same in
                let place : h.place ≡ i = omega (arith, number, store) in
                let own : h.manifest ≡ m = one_manifest ms i h.place m h.manifest place here h.here in
                let listed : Contains m.entries h.listed.entry = subst (λ (x : ManifestState). Contains x.entries h.listed.entry) own h.listed.within in
                let f = contains_map (list_at i held) h.listed.entry (subst (λ (es : List Entry). Contains es h.listed.entry) (has.known.each i m here).entries listed) in
                let led = All-contains (IsLed (tier i held) base.files) (list_at i held) f.0 (copied told).leads.each f.1 in
                let named : file_of (i + 1, held.rows) f.0.entry ≡ name =
                ap (file_of (i + 1, held.rows)) f.2 ∙ (ap (λ (r : List Row). file_of (i + 1, r) h.listed.entry) (sym has.known.rows) ∙ (ap (λ (k : ℕ). file_of (k + 1, c.rows) h.listed.entry) (sym place) ∙ h.listed.named)) in
                let bare_file : Filed = bare start.entry in
                let most = All-contains (λ (x : Filed). file_of (shelf_of base) x.entry ≡ file_of (shelf_of base) start.entry → x.entry.len ≤ start_of start.at) base.files led.file
                (allows m.granularity base start.at bare_file valid (placed_here bare_file of_part.own refl)) led.within (led.name ∙ (named ∙ same)) in
                let longer = led.longer in
                let long = h.listed.longer in
                let entry_len = ap (λ (x : Entry). x.len) f.2 in
                omega (arith, within, long, longer, most, entry_len)

    stays_reads : Reads → IsTrue tells → Stays files held
    stays_reads reads told =
        let r = reads told in
        let now = has_read shows faults_of tells c ms d after reads held has in
        record {
          stored = (now.disk told).each i m here;
          moments = passes_weaker (λ a b. b ≡ a) _ _ _ r.any_moment (λ a x left same. subst (λ (f : Files). Holds m.granularity f (tier i held)) (sym same) (hold_at ms a held (all_left old.stores held a (has.disk told) left) i m here));
          safe = record {
            long = λ k f lt. let was = (is.runs.ahead.safe told).long k f lt in record { bytes = was.bytes; file = ap (λ (x : Files). x (file_of (i + 1, held.rows) (get_or files k f).entry)) r.same ∙ was.file; holds = was.holds };
            unopened = λ k f lt.
                let was = (is.runs.ahead.safe told).unopened k f lt in
                let same = ap (λ (o : Name → ℕ). o (file_of (i + 1, held.rows) (get_or files k f).entry)) r.same_opened in
                omega (arith, was, same);
            left = λ image left stands k f lt.
                let come = r.any_moment.each (shows after).past.now image r.any_moment.later (omega arith) left in
                subst (λ (x : Files). IsIn (i + 1, held.rows) x (get_or files k f)) (sym come.2) ((is.runs.ahead.safe told).left come.0 come.1 stands k f lt);
          };
        }

    on_reads : Reads → IsTrue tells → OnStore (i + 1) m.journal.name (shows d) (shows after)
    on_reads reads told =
        let r = reads told in
        record {
          numbered = omega arith;
          named = ((has.disk told).each i m here).named;
          passes = passes_weaker (λ a b. b ≡ a) _ _ _ r.any_moment (λ a x was same n other apart. ap (λ (f : Files). f n) same);
          same = λ n other apart. ap (λ (f : Files). f n) r.same;
          fewer = λ n. let same = ap (λ (o : Name → ℕ). o n) r.same_opened in omega (arith, same);
        }

    pub stays : Wrote move part → IsTrue tells → Stays files held
    stays (inl (start, goes, leaves)) told = stays_goes start goes leaves told
    stays (inr (nowhere, reads)) told = stays_reads reads told

    pub on_store : Wrote move part → IsTrue tells → OnStore (i + 1) m.journal.name (shows d) (shows after)
    on_store (inl (start, goes, leaves)) told = on_goes start goes leaves told
    on_store (inr (nowhere, reads)) told = on_reads reads told

    pub shown_still : Wrote move part → Apart move → KeepsShown tells old new
    shown_still (inl (start, goes, leaves)) apart_from =
        shown tells old new refl (λ name len h. held_same shows faults_of c ms d after name len h) (λ name len r. record { listed = r.no_shorter.listed; in_doubt = r.no_shorter.in_doubt; rows_in_doubt = r.no_shorter.rows_in_doubt })
        (fronts_goes start goes leaves apart_from)
    shown_still (inr (nowhere, reads)) apart_from = read_shown shows faults_of tells c ms limbo d after (λ told. (reads told).same)

  -- all other names stay
  pub leaves_others : (move : Moving) (part : Entry) → Wrote move part → LeavesOthers move tells old new
  leaves_others move part (inl (start, goes, leaves)) names later none = record {
    files = λ told n within. (leaves told).elsewhere n (λ same. none start.entry (subst (Contains names) same within));
    fewer = λ told n within. (leaves told).fewer n;
    any_moment = λ told. passes_weaker (At (target_file move start) (Keeps (start_of start.at))) _ _ _ (leaves told).any_moment (λ a x was step n within. step.elsewhere n (λ same. none start.entry (subst (Contains names) same within)));
    limbo = λ r within there. there;
  }
  leaves_others move part (inr (nowhere, reads)) names later none = record {
    files = λ told n within. ap (λ (f : Files). f n) (reads told).same;
    fewer = λ told n within. let same = ap (λ (o : Name → ℕ). o n) (reads told).same_opened in omega (arith, same);
    any_moment = λ told. passes_weaker (λ a b. b ≡ a) _ _ _ (reads told).any_moment (λ a x was same n within. ap (λ (f : Files). f n) same);
    limbo = λ r within there. there;
  }

  -- files in limbo stay whole where those of this store do: those of another are left
  pub keeps_whole : ((stands : Bool) (files : List Filed) → AreWhole i tells old.stores limbo stands files → (left : List Filed) × AreWhole i tells new.stores limbo stands left)
      → (IsTrue tells → OnStore (i + 1) m.journal.name (shows d) (shows after)) → KeepsWhole tells old new
  keeps_whole own on j stands files low whole = elim (same_cases j i) [
    | inl is ↦ subst (λ (k : ℕ). (left : List Filed) × AreWhole k tells new.stores limbo stands left) (sym is) (own stands files (subst (λ (k : ℕ). AreWhole k tells old.stores limbo stands files) is whole))
    | inr apart ↦ (
      files,
      record {
        each = λ k r lt number. elim (whole.each k r lt number) [
          | inl h ↦ inl (held_same shows faults_of c ms d after (get_or limbo k r).name 0 h)
          | inr there ↦ inr there
        ];
        from = whole.from;
        rise = whole.rise;
        filed = whole.filed;
        safe = λ told. safe_beside (i + 1) m.journal.name (shows d) (shows after) (on told) (store_with j old.stores stands files) (omega arith) (λ is. apart (omega (arith, is))) (whole.safe told);
      },
    )
  ]

  -- THE CALL

  module _ (Is : Stores → Type 0) (files : List Filed) (sound : m.journal.sound ≡ true) (stays_in : (held : Stores) → Has tells old.stores held → Is held → IsTrue tells → Stays files held)
      (on : IsTrue tells → OnStore (i + 1) m.journal.name (shows d) (shows after)) (faults : faults_of d ≤ faults_of after) where
    low_in : (held : Stores) → Has tells old.stores held → i < 3
    low_in held has = within_three ms i m has.known.three here

    done : ChangesGiven Is tells (staying {A = Unit {0}}) old.stores new.stores (Done tt)
    done = subst (λ (l : List ManifestState). ChangesGiven Is tells (staying {A = Unit {0}}) old.stores (seen_on shows faults_of c l after) (Done tt)) (set_same ms i m here)
        (given_done shows faults_of tells c ms i m m here d after refl on faults Is (staying {A = Unit {0}}) (λ held has given. list_at i held) (λ held has given. list_kept i held (low_in held has)) (λ held has given. (has.known.each i m here).valid)
        (λ told held has given. passes_weaker _ _ _ _ (stays_in held has given told).moments (λ a x was step. inl step)) tt (λ held has given. tt) sound (λ held has given. (has.known.each i m here).entries) (λ told held has given. (stays_in held has given told).stored))

    -- what is held stays so, at every moment
    pub kept_still : (held : Stores) → Has tells old.stores held → Is held → StaysHeld tells old.stores new.stores held
    kept_still held has given = let ends = done.ends held has given in (subst (Has tells new.stores) ends.1 ends.3, λ told. done.any_moment told held has given)

  -- LIMBO STAYS WHOLE

  module _ (move : Moving) (part : Entry) (files : List Filed) (held : Stores) where
    abbrev list : List Filed
    list = list_at i held

    module _ (has : Has tells old.stores held) (is : CopiesFurther from tells old move files held) (stand : LimboStands old.stores limbo) (start : Start) (goes : GoesTo move None part start) (leaves : Leaves move start)
        (apart_from : Apart move) (stands : Bool) (were : List Filed) (whole : AreWhole i tells old.stores limbo stands were) where
      -- the file to which the lines go
      abbrev target : Name
      target = file_of (i + 1, c.rows) start.entry

      wrote_there : IsTrue tells → LeavesFile target start.at (shows d) (shows after)
      wrote_there told = subst (λ (rows : List Row). LeavesFile (file_of (i + 1, rows) start.entry) start.at (shows d) (shows after)) (sym has.known.rows)
          (call move part files held has is start goes leaves told)

      low : i < 3
      low = within_three ms i m has.known.three here

      known_tier : AreHeld m.granularity (tier i held)
      known_tier = (has.known.each i m here).valid

      -- a file in limbo that isn't listed is no longer than the place where lines go into it
      behind_place : (f : Filed) → Contains were f → file_at (filed_at f) list ≡ None → name_at i c.rows f ≡ target → (k : ℕ) × (start.at ≡ Some k) × (f.entry.len ≤ k)
      behind_place f f_in free same = by_place (where_is move part files held has is start goes)
        where
          of : IsOfLimbo i limbo f.entry
          of = All-contains (λ (x : Filed). IsOfLimbo i limbo x.entry) were f whole.from f_in

          named : of.file.name ≡ target
          named = sym (limbo_name i old.stores limbo stand of.file of.within of.store) ∙ (ap (λ (e : Entry). file_of (i + 1, c.rows) e) of.is ∙ same)

          f_is : IsListed m.granularity held.rows f
          f_is = subst (λ (rows : List Row). IsListed m.granularity rows f) has.known.rows (All-contains (IsListed m.granularity c.rows) were f (whole.filed m here).listed f_in)

          -- the file of that name is in its place
          at_place : (x : Filed) → IsListed m.granularity held.rows x → file_of (i + 1, held.rows) x.entry ≡ file_of (i + 1, held.rows) start.entry → filed_at x ≡ filed_at f
          at_place x x_is own =
              same_place m.granularity (i + 1) held.rows x f known_tier.keys x_is f_is
              (own ∙ (ap (λ (rows : List Row). file_of (i + 1, rows) start.entry) (sym has.known.rows) ∙ (sym same ∙ ap (λ (rows : List Row). file_of (i + 1, rows) f.entry) has.known.rows)))

          ahead_so : (x : Filed) → Contains files x → file_of (i + 1, held.rows) x.entry ≡ file_of (i + 1, held.rows) start.entry → f.entry.len ≤ x.entry.len
          ahead_so x x_in own =
              let x_is = All-contains (IsListed m.granularity held.rows) files x (is.runs.ahead.filed m.granularity (granularity_at ms i m here)).listed x_in in
              let at : filed_at x ≡ filed_at f = at_place x x_is own in
              let more = is.runs.ahead.longer_retired of.file x of.within x_in (named ∙ (ap (λ (rows : List Row). file_of (i + 1, rows) start.entry) has.known.rows ∙ sym own)) (ap (λ (p : Place). file_at p list) at ∙ free) in
              let long = ap (λ (e : Entry). e.len) of.is in
              omega (arith, more, long)

          by_place : Where (base move part files held has is) move.series part.head_len start → (k : ℕ) × (start.at ≡ Some k) × (f.entry.len ≤ k)
          by_place (inr made) = absurd (apart_from part start goes made.at of.file of.within named)
          by_place (inl on) =
              let own : file_of (i + 1, held.rows) on.file.entry ≡ file_of (i + 1, held.rows) start.entry = ap (file_of (i + 1, held.rows)) (sym on.entry) in
              elim (put_cases list files on.file on.within) [
                | inl listed ↦ absurd (none_at list (filed_at f) on.file free listed (at_place on.file (All-contains (IsListed m.granularity held.rows) list on.file known_tier.filed.listed listed) own))
                | inr ahead ↦ (on.file.entry.len, on.at, ahead_so on.file ahead own)
              ]

      -- those that aren't listed
      abbrev left_free : List Filed
      left_free = free_of list were

      was_in : (k : ℕ) (f : Filed) → k < length left_free → Contains were (get_or left_free k f)
      was_in k f lt = from_filter (is_free list) were (get_or left_free k f) (Contains-get_or left_free k f lt)

      free_at : (k : ℕ) (f : Filed) → k < length left_free → file_at (filed_at (get_or left_free k f)) list ≡ None
      free_at k f lt = none_is (file_at (filed_at (get_or left_free k f)) list) (filter_passes (is_free list) were k f lt)

      safe_before : IsTrue tells → AreSafe (store_with i new.stores stands left_free) (shows d)
      safe_before told = safe_fewer i c.rows were left_free stands was_in (shows d) (whole.safe told)

      long_after : IsTrue tells → AreLong (store_with i new.stores stands left_free) (shows after).files
      long_after told k f lt = elim (name_cases (name_at i c.rows (get_or left_free k f)) target) [
        | inr apart ↦
            let was = (safe_before told).long k f lt in
            record { bytes = was.bytes; file = (wrote_there told).elsewhere (name_at i c.rows (get_or left_free k f)) apart ∙ was.file; holds = was.holds }
        | inl same ↦
            let goes_at = behind_place (get_or left_free k f) (was_in k f lt) (free_at k f lt) same in
            let now = (wrote_there told).long goes_at.0 goes_at.1 in
            let most = goes_at.2 in
            record { bytes = now.bytes; file = ap (shows after).files same ∙ now.file; holds = let more = now.holds in omega (arith, more, most) }
      ]

      safe_after : IsTrue tells → AreSafe (store_with i new.stores stands left_free) (shows after)
      safe_after told =
          safe_stays (store_with i new.stores stands left_free) (At target (Keeps (start_of start.at))) (shows d) (shows after) (safe_before told) (wrote_there told).any_moment
          (λ a x step there. all_keeps m.granularity (store_with i new.stores stands left_free) target (start_of start.at) a x (filed_fewer i c.rows were left_free stands was_in m.granularity (whole.filed m here))
          (λ k f lt same. let goes_at = behind_place (get_or left_free k f) (was_in k f lt) (free_at k f lt) same in let at = ap start_of goes_at.1 in let most = goes_at.2 in omega (arith, at, most)) step there)
          (long_after told) (wrote_there told).fewer

      among : (r : Retired) → Contains limbo r → r.name.0 ≡ i + 1 → Contains (map entry_of were) r.entry → IsHeldTo new.stores r.name 0 ⊎ Contains (map entry_of left_free) r.entry
      among r r_in number there =
          let u = contains_map were r.entry there in
          elim (listed_at list (filed_at u.0)) [
            | inl none ↦ inr (subst (Contains (map entry_of left_free)) u.2 (contains_entry left_free u.0 (contains_filter (is_free list) were u.0 u.1 (ap is_nothing none))))
            | inr (h, h_in, same, found) ↦
                let named = place_named i tells old.stores limbo held m here stand has r r_in number h h_in (same ∙ ap place u.2) in
                inl (held_same shows faults_of c ms d after r.name 0 (has_held tells old.stores held i r.name 0 has low (record { entry = h.entry; within = contains_entry list h h_in; named = named; longer = omega arith })))
          ]

      pub goes_whole : (rest : List Filed) × AreWhole i tells new.stores limbo stands rest
      goes_whole = (
        left_free,
        record {
          each = λ k r lt number. elim (whole.each k r lt number) [
            | inl h ↦ inl (held_same shows faults_of c ms d after (get_or limbo k r).name 0 h)
            | inr there ↦ among (get_or limbo k r) (Contains-get_or limbo k r lt) number there
          ];
          from = λ k f lt. All-contains (λ (x : Filed). IsOfLimbo i limbo x.entry) were (get_or left_free k f) whole.from (was_in k f lt);
          rise = rise_filter (is_free list) were whole.rise;
          filed = λ x there. filed_fewer i c.rows were left_free stands was_in x.granularity (whole.filed x there);
          safe = λ told. safe_after told;
        },
      )
