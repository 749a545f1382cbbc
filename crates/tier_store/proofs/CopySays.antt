-- What one step of copying makes of the move, by what the move's own call tells, and what its answer says: that lines were copied, and some or none
-- are left, or that a file is damaged.
use Rattle.std.proofs.Common.{[], ◌≡◌, ◌⊎◌, inl, inr, true, Bool, ℕ, suc, ◌<◌, ◌≤◌, ◌+◌, List, Some, None, length, get_or, refl, sym, ◌∙◌, ap, subst, arith, map, ◌≢◌, ◌∷◌, ◌++◌, take, drop, Option, false}
use Rattle.std.specs.Prelude.{Contains, IsTrue, slice_get, All, ◌↔◌, nat_eq, nat_lt, if◌then◌else◌}
use Rattle.std.proofs.lemmas.List.Elements.{All-contains, Contains-get_or, All-from_recursion, recursion_from_All}
use Rattle.disk_model.specs.Files.{Name, Files, HasFile}
use Rattle.disk_model.specs.Past.{MayLeave}
use Rattle.gate_journal.specs.DiskShown.{DiskShown, ReadsDisk}
use Rattle.etl_mover.specs.Growing.{IsPlaced, BecomesFile}
use Rattle.etl_mover.specs.Move.{Moving, IsMove}
use Rattle.etl_mover.specs.Step.{GoesTo, GoesNowhere, target_file, Advances, AreFew, Takes, between, source_file, written_at, CopiesPart, IsPlacedOrNot}
use Rattle.etl_mover.specs.Writing.{LeavesFile, WritesFile}
use Rattle.etl_mover.proofs.Steps.{IsOfPart, goes_nowhere, last_all, one_start, still_lists, last_of-push}
use Rattle.etl_mover.proofs.Written.{copied_more}
use Rattle.partition_names.specs.declared.granularity.Granularity.{Granularity}
use Rattle.partition_names.specs.Part.{IsPart, HoldsMoment}
use Rattle.partition_names.specs.Path.{path_of}
use Rattle.pv_catalog.specs.Catalogue.{CatalogueState}
use Rattle.pv_catalog.specs.declared.row.Row.{Row}
use Rattle.store_manifest.specs.Manifest.{ManifestState}
use Rattle.store_manifest.specs.declared.entry.Entry.{Entry}
use Rattle.durable_write.specs.Ahead.{HasCopied}
use Rattle.durable_write.specs.Flush.{put_all, start_of, with_files, file_at, PlacesRise}
use Rattle.durable_write.specs.Held.{Filed, Held, IsIn, IsListed, file_of, filed_at, name_of, entry_of, AreFiled, IsFiled, samples_of}
use Rattle.durable_write.specs.Stored.{AreHeld, AreSafe}
use Rattle.durable_write.proofs.Staying.{same_file}
use Rattle.tier_store.specs.Stores.{Stores, list_at, tier}
use Rattle.tier_store.specs.Seen.{seen_on}
use Rattle.tier_store.specs.Change.{Has}
use Rattle.tier_store.specs.Copying.{CopiesFurther, CopiesLines, IsAllLater, IsLeft, IsNextPart, KnowsHeads, KnowsLengths, SaysLines, left_of, samples_ahead, FindsLine, IsDamaged}
use Rattle.tier_store.specs.Moving.{of_files, MayBeListed, RunsBeside}
use Rattle.tier_store.specs.Pinned.{SeenAll, beside}
use Rattle.tier_store.specs.declared.limbo.Retired.{Retired}
use Rattle.tier_store.proofs.CopyFiles.{GoesOnIn, SetsFile, Start, Where, all_in, at_file, end_is, last_file, last_in, last_then, long_there, place_at, placed, row_then, samples_then, sets_file, starts_before, within_row, writes_next}
use Rattle.tier_store.proofs.Showing.{none_at}
use Rattle.tier_store.proofs.RunningMoves.{same_size, valid_with}
use Rattle.tier_store.proofs.Places.{granularity_at, parts_apart}
use Rattle.store_manifest.specs.Entries.{Place, place, put}
use Rattle.std.specs.List.{AllByRecursion}
use Rattle.std.proofs.lemmas.List.{length-append, length-set, length-take, take-append-drop, take-take}
use Rattle.std.proofs.lemmas.Option.{same_Some, slice_get_within, get_or_from_slice_get}
use Rattle.std.proofs.Math.Seq.{map-set_same}
use Rattle.etl_mover.specs.Copying.{last_of, SetsLast, after, behind, starts}
use Rattle.partition_names.specs.declared.part.Part.{Part}
use Rattle.pb_lines.specs.File.{lines_of}
use Rattle.pb_lines.proofs.FileLines.{all_front, all_rest, lines_of-append}
use Rattle.series_model.specs.Series.{RisesFrom, end_of, end_from, since}
use Rattle.series_model.specs.declared.sample.Sample.{Sample}
use Rattle.series_model.proofs.RisingLists.{RisesFrom-front, end_from-append, end_from-ge}
use Rattle.durable_write.specs.Plan.{IsLastOf, of_row}
use Rattle.durable_write.proofs.Written.{put_all_has, contains_entry, put_all_new}
use Rattle.durable_write.proofs.Planning.{of_files as of_parts}
use Rattle.tier_store.specs.Copied.{WritesNext, samples_at, end_after}
use Rattle.tier_store.specs.Finding.{BeginsAt, SplitsAt, no_file}
use Rattle.tier_store.specs.Retiring.{oldest}
use Rattle.tier_store.proofs.CopyParts.{enough, part_file_is, part_in, q_filed, q_head, q_part, runs_by, source, source_there, take_at, copied_whole, lengths_finished}
use Rattle.std.proofs.lemmas.Bool.Decides.{nat_tests}
use Rattle.tier_store.specs.declared.copying.CopyEnd.TheVariants as ends
use Rattle.tier_store.proofs.Lines.{no_length}
use Rattle.partition_names.proofs.PartLemmas as parts
use Rattle.tier_store.proofs.CopyLeft.{IsLater, IsOfRowIn, PartLeft, SplitsHere, earlier_all, ends_later, first_files, inside_end, inside_until, later_all, later_begins, later_left, left_is, left_now, left_of_part, none_rest, not_whole, now_passed, part_left, rise_front, rise_rest, rise_row, splits_here, still_passed, weaker, whole_where, ends_behind, begins_within}
use Rattle.tier_store.proofs.CopyWrites.{Leaves, Wrote, Apart, valid, coarse, copied, name_is, of_part, where_is, placed_here, put_cases}

-- what the call tells of the lines, where the disk tells its files
pub record WroteLines (files : Files) (later : DiskShown) (move : Moving) (part : Entry) (start : Start) (entry : Entry) (at len most : ℕ) (Whole : Type 0) : Type 0 where
  pub bytes : List ℕ
  pub file : files (source_file move part) ≡ Some bytes
  pub lines : List ℕ
  pub takes : Takes (take part.head_len bytes) (between at len bytes) most lines start.entry entry
  pub wrote : WritesFile (target_file move start) start.at (written_at start.at (take part.head_len bytes) lines) files later
  pub whole : Whole ↔ (at + length lines ≡ len)

-- the file with the lines, and the samples in them where what is held stands
pub record GrownFile (g : Granularity) (base : Held) (start : Start) (entry : Entry) (stands told : Type 0) (Wrote : List ℕ → Type 0) (Copied : Filed → Type 0) : Type 0 where
  pub file : Filed
  pub entry_is : file.entry ≡ entry
  pub becomes : told → (bytes : List ℕ) × BecomesFile g base start.at bytes file × Wrote bytes
  pub filed : stands → IsFiled g base.rows file
  pub samples : stands → Copied file

-- these samples of those that were left of the part
pub record CopiedOf (most : ℕ) (base : Held) (back : List Sample) (Whole : Type 0) (file : Filed) : Type 0 where
  pub copied : List Sample
  pub more : List Sample
  pub next : back ≡ copied ++ more
  pub some : copied ≢ []
  pub few : AreFew most (lines_of copied)
  pub samples : file.samples ≡ samples_at (filed_at file) base.files ++ copied
  pub whole : Whole → more ≡ []
  pub others : (Whole → ⊥) → more ≢ []

-- an entry is set once
set_ends : (e : Entry) (xs ys : List Entry) → SetsLast e xs ys → (rest : List Entry) × (ys ≡ rest ++ e ∷ [])
set_ends e xs ys (inl takes) = (takes.rest, takes.becomes)
set_ends e xs ys (inr stands) = (xs, stands.becomes)

-- where the destination ends behind the part nothing is left of it
nowhere_before : (e : Entry) (begin : ℕ) (start : Start) → after e begin start ≡ None → begin < e.part.start
nowhere_before e begin start is = go (nat_eq e.part.start begin) refl (nat_lt begin e.part.start) refl is
  where
    go : (x : Bool) → nat_eq e.part.start begin ≡ x → (y : Bool) → nat_lt begin e.part.start ≡ y → (if x then Some (behind e) else (if y then None else Some start)) ≡ None → begin < e.part.start
    go true same y other is = absurd (cc (is))
    go false same true low is = grind (arith, nat_tests, low)
    go false same false high is = absurd (cc (is))

module _ {S : Type 0} (shows : S → DiskShown) (faults_of : S → ℕ) (tells : Bool) (c : CatalogueState) (ms : List ManifestState) (limbo : List Retired) (from : ℕ) (m : ManifestState) (here : slice_get ms (from + 1) ≡ Some m) (d after : S)
    (seen_it : IsTrue tells → MayLeave (shows d).past (shows d).files) where
  abbrev old : SeenAll
  old = beside (seen_on shows faults_of c ms d) limbo

  abbrev new : SeenAll
  new = beside (seen_on shows faults_of c ms after) limbo

  -- WHAT IT MAKES OF THE MOVE

  module _ (move : Moving) (part : Entry) (files : List Filed) (held : Stores) where
    abbrev b : Held
    b = with_files (tier (from + 1) held) files

    module _ (has : Has tells old.stores held) (is : CopiesFurther from tells old move files held) (next_is : slice_get move.parts move.at ≡ Some part) (start : Start) (goes : GoesTo move None part start) (leaves : Leaves shows faults_of tells c ms limbo from m here d after seen_it move start) where
      v : AreHeld m.granularity b
      v = valid shows faults_of tells c ms limbo from m here d after seen_it move part files held has is

      size : m.granularity ≡ move.granularity
      size = coarse shows faults_of tells c ms limbo from m here d after seen_it move part files held has is

      stands_at : Where b move.series part.head_len start
      stands_at = where_is shows faults_of tells c ms limbo from m here d after seen_it move part files held has is start goes

      of_it : IsOfPart move.granularity move.series part start.entry
      of_it = of_part shows faults_of tells c ms limbo from m here d after seen_it move part files held has is start goes

      placed_it : (f : Filed) → f.entry.series ≡ move.series → f.entry.part ≡ start.entry.part → IsPlaced m.granularity b start.at f
      placed_it = placed_here shows faults_of tells c ms limbo from m here d after seen_it move part files held has is start goes

      module _ (q : Filed) (q_next : IsNextPart from move held q) (at len most : ℕ) (low : at < len) (q_long : q.entry.len ≡ len) (behind : q.entry.head_len ≤ at) (splits : IsTrue held.stands → SplitsAt q.samples (end_after (last_of move.pending move.listed)) q.entry.head_len at)
          (entry : Entry) (of : entry.part ≡ start.entry.part) (own : entry.series ≡ start.entry.series) where
        pub head_is : q.entry.head_len ≡ part.head_len
        head_is = q_head tells old from move files held has is q q_next part next_is

        -- where what is held stands
        pub next_stands : (stands : IsTrue held.stands) (bytes lines : List ℕ) → (shows d).files (source_file move part) ≡ Some bytes → Takes (take part.head_len bytes) (between at len bytes) most lines start.entry entry → WritesNext move.granularity b start.at (take part.head_len bytes) lines entry (splits stands).back
        next_stands stands bytes lines file takes =
            let told = is.told stands in
            let of_file = part_file_is tells old from move files held has is q q_next part next_is told stands (seen_it told) bytes file in
            let split : SplitsAt q.samples (end_after (last_of move.pending move.listed)) part.head_len at = record { front = (splits stands).front; back = (splits stands).back; split = (splits stands).split; earlier = (splits stands).earlier; later = (splits stands).later; place = (splits stands).place ∙ ap (λ (k : ℕ). k + length (lines_of (splits stands).front)) head_is } in
            let low_q : at < q.entry.len = omega (arith, low, q_long) in
            writes_next is.runs.fine move b part start q bytes lines at most entry goes is.runs.running (subst (λ (g : Granularity). AreHeld g b) size v) stands is.last of_file split low_q
            (subst (λ (k : ℕ). Takes (take part.head_len bytes) (between at k bytes) most lines start.entry entry) (sym q_long) takes)

        pub whole_len : (stands : IsTrue held.stands) (copied more : List Sample) → (splits stands).back ≡ copied ++ more → at + length (lines_of (copied ++ more)) ≡ len
        whole_len stands copied more next =
            let begin = (splits stands).place in
            let filed = q_filed tells old from move files held has is q q_next part next_is stands in
            let whole = filed.len in
            let head = filed.head_len in
            let back = ap (λ (l : List Sample). length (lines_of l)) next in
            let both = ap length (ap lines_of (splits stands).split ∙ lines_of-append (splits stands).front (splits stands).back) in
            omega (arith, begin, whole, head, back, both, q_long, length-append q.head (10 ∷ lines_of q.samples), length-append (lines_of (splits stands).front) (lines_of (splits stands).back))

      module _ (q : Filed) (q_next : IsNextPart from move held q) (at len most : ℕ) (low : at < len) (q_long : q.entry.len ≡ len) (behind : q.entry.head_len ≤ at) (splits : IsTrue held.stands → SplitsAt q.samples (end_after (last_of move.pending move.listed)) q.entry.head_len at)
          (entry : Entry) (of : entry.part ≡ start.entry.part) (own : entry.series ≡ start.entry.series) (Whole : Type 0) (says : IsTrue tells → WroteLines (shows d).files (shows after) move part start entry at len most Whole) where
        abbrev WroteBytes : List ℕ → Type 0
        WroteBytes bytes = WritesFile (target_file move start) start.at bytes (shows d).files (shows after)

        -- the bytes that were written make the entry longer by so many
        grown_len : (told : IsTrue tells) → Where b move.series part.head_len start → entry.len ≡ start_of start.at + length (written_at start.at (take part.head_len (says told).bytes) (says told).lines)
        grown_len told (inl on) =
            let w = says told in
            let longer = w.takes.longer in
            let begin = ap (λ (e : Entry). e.len) on.entry in
            subst (λ (o : Option ℕ). entry.len ≡ start_of o + length (written_at o (take part.head_len w.bytes) w.lines)) (sym on.at) (omega (arith, longer, begin))
        grown_len told (inr made) =
            let w = says told in
            let longer = w.takes.longer in
            let begin = made.long in
            let there = source_there tells old from move files held has is q q_next part next_is told in
            let same : ◌≡◌ {A = Option (List ℕ)} (Some there.bytes) (Some w.bytes) = sym there.file ∙ w.file in
            let one : there.bytes ≡ w.bytes = same_Some there.bytes w.bytes same in
            let long : q.entry.len ≤ length w.bytes = subst (λ (l : List ℕ). q.entry.len ≤ length l) one there.holds in
            let head = head_is q q_next at len most low q_long behind splits entry of own in
            subst (λ (o : Option ℕ). entry.len ≡ start_of o + length (written_at o (take part.head_len w.bytes) w.lines)) (sym made.at)
            (omega (arith, longer, begin, long, head, q_long, low, behind, length-append (take part.head_len w.bytes) w.lines, length-take part.head_len w.bytes))

        pub grown_stands : (stands : IsTrue held.stands) → GrownFile m.granularity b start entry (IsTrue held.stands) (IsTrue tells) WroteBytes (CopiedOf most b (splits stands).back Whole)
        grown_stands stands =
            let w = says (is.told stands) in
            let wn = next_stands q q_next at len most low q_long behind splits entry of own stands w.bytes w.lines w.file w.takes in
            let text = ap length wn.text in
            let all_len = whole_len q q_next at len most low q_long behind splits entry of own stands wn.copied wn.more wn.next in
            record {
              file = wn.file;
              entry_is = wn.entry_is;
              becomes = λ told. (written_at start.at (take part.head_len w.bytes) w.lines, subst (λ (g : Granularity). BecomesFile g b start.at (written_at start.at (take part.head_len w.bytes) w.lines) wn.file) (sym size) wn.becomes, w.wrote);
              filed = λ stands. subst (λ (g : Granularity). IsFiled g b.rows wn.file) (sym size) (wn.becomes.own stands).filed;
              samples = λ stands. record {
                copied = wn.copied;
                more = wn.more;
                next = wn.next;
                some = wn.some;
                few = subst (AreFew most) wn.text w.takes.few;
                samples = wn.samples;
                whole = λ whole. let all = w.whole.0 whole in whole_where wn.copied wn.more at len all_len (omega (arith, all, text));
                others = λ other. not_whole wn.copied wn.more at len all_len (λ all. other (w.whole.1 (omega (arith, all, text))));
              };
            }

        pub grown_bare : (IsTrue held.stands → ⊥) → (back : List Sample) → GrownFile m.granularity b start entry (IsTrue held.stands) (IsTrue tells) WroteBytes (CopiedOf most b back Whole)
        grown_bare never back = record {
          file = record { entry = entry; head = []; samples = [] };
          entry_is = refl;
          becomes = λ told. (
            written_at start.at (take part.head_len (says told).bytes) (says told).lines,
            record {
              placed = placed_it (record { entry = entry; head = []; samples = [] }) (own ∙ of_it.own) of;
              len = grown_len told stands_at;
              own = λ stands. absurd (never stands);
            },
            (says told).wrote,
          );
          filed = λ stands. absurd (never stands);
          samples = λ stands. absurd (never stands);
        }

        -- THE MOVE THEN

        module _ (back : List Sample) (grown : GrownFile m.granularity b start entry (IsTrue held.stands) (IsTrue tells) WroteBytes (CopiedOf most b back Whole)) (left : IsTrue held.stands → PartLeft q back (end_after (last_of move.pending move.listed))) (apart_from : Apart shows faults_of tells c ms limbo from m here d after seen_it move) (longer : start.entry.len ≤ entry.len)
            (nm : Moving) (run : IsMove is.runs.fine nm) (adv : Advances move nm None len) (sets : SetsLast entry move.pending nm.pending) where
          abbrev pub f : Filed
          f = grown.file

          f_own : f.entry.series ≡ move.series
          f_own = ap (λ (e : Entry). e.series) grown.entry_is ∙ (own ∙ of_it.own)

          f_part : f.entry.part ≡ start.entry.part
          f_part = ap (λ (e : Entry). e.part) grown.entry_is ∙ of

          -- the move is the same but for its parts and what it is to list
          same_move : nm ≡ record move { parts = nm.parts; at = nm.at; pending = nm.pending }
          same_move = elim adv.is [
            | inl same ↦ subst (λ (x : Moving). x ≡ record move { parts = x.parts; at = x.at; pending = x.pending }) (sym same) refl
            | inr (p, at_hand, same) ↦ subst (λ (x : Moving). x ≡ record move { parts = x.parts; at = x.at; pending = x.pending }) (sym same) refl
          ]

          all_own : All (λ (x : Filed). x.entry.series ≡ move.series) files
          all_own = λ k x lt. (All-contains (λ (e : Entry). IsPart move.granularity e.part × (e.series ≡ move.series)) move.pending (get_or files k x).entry is.runs.running.pending (subst (λ (l : List Entry). Contains l (get_or files k x).entry) (sym is.runs.pending) (contains_entry files (get_or files k x) (Contains-get_or files k x lt)))).1

          pub listed_then : (more : List Filed) × SetsFile files more f nm.pending
          listed_then = sets_file move.series files f move.pending nm.pending is.runs.pending all_own f_own is.runs.ahead.rise
              (λ rest l are apart.
              let within = subst (λ (fs : List Filed). Contains fs l) (sym are) (last_in rest l) in
              let begin = ap (λ (p : Part). p.start) f_part in
              let less = starts_before b move.series part.head_len start v.apart stands_at l (put_all_new files (list_at (from + 1) held) l is.runs.ahead.rise within) (All-contains (λ (x : Filed). x.entry.series ≡ move.series) files l all_own within) (λ same. apart (same ∙ sym begin)) in
              omega (arith, less, begin))
              (subst (λ (e : Entry). SetsLast e move.pending nm.pending) (sym grown.entry_is) sets)

          abbrev pub more : List Filed
          more = listed_then.0

          files_are : put_all (list_at (from + 1) held) more ≡ put filed_at f b.files
          files_are = listed_then.1.put (list_at (from + 1) held)

          -- ON THE DISK

          name_then : IsTrue tells → file_of ((from + 1) + 1, held.rows) f.entry ≡ target_file move start
          name_then told = name_is shows faults_of tells c ms limbo from m here d after seen_it move part files held has is told f.entry f_own ∙ ap (λ (p : Part). (move.destination, path_of move.name p.name)) f_part

          ahead_then : IsTrue tells → HasCopied c.journal m ((from + 1) + 1, c.rows) (shows after) (tier (from + 1) held) (with_files b (f ∷ []))
          ahead_then told =
              let bytes = grown.becomes told in
              copied_more c.journal m ((from + 1) + 1, c.rows) (shows d) (shows after) (tier (from + 1) held) b start.at f
              (copied shows faults_of tells c ms limbo from m here d after seen_it move part files held has is told) (placed_it f f_own f_part)
              (subst (λ (n : Name). LeavesFile n start.at (shows d) (shows after)) (sym (name_then told)) (leaves told)) bytes.0 bytes.1
              (subst (λ (n : Name). WritesFile n start.at bytes.0 (shows d).files (shows after)) (sym (name_then told)) bytes.2) (seen_it told)

          safe_then : IsTrue tells → AreSafe (of_files (from + 1) held more) (shows after)
          safe_then told =
              let safe = (ahead_then told).safe.safe in
              record {
                long = all_in (λ (x : Filed). HasFile (shows after).files (file_of ((from + 1) + 1, held.rows) x.entry) (λ bytes. x.entry.len ≤ length bytes)) more (list_at (from + 1) held) listed_then.1.rise (subst (All (λ (x : Filed). HasFile (shows after).files (file_of ((from + 1) + 1, held.rows) x.entry) (λ bytes. x.entry.len ≤ length bytes))) (sym files_are) safe.long);
                unopened = all_in (λ (x : Filed). (shows after).opened (file_of ((from + 1) + 1, held.rows) x.entry) ≤ x.entry.len) more (list_at (from + 1) held) listed_then.1.rise (subst (All (λ (x : Filed). (shows after).opened (file_of ((from + 1) + 1, held.rows) x.entry) ≤ x.entry.len)) (sym files_are) safe.unopened);
                left = λ image left stands. all_in (IsIn ((from + 1) + 1, held.rows) image) more (list_at (from + 1) held) listed_then.1.rise (subst (All (IsIn ((from + 1) + 1, held.rows) image)) (sym files_are) (safe.left image left stands));
              }

          -- WHAT MAY BE LISTED

          abbrev IsShort : Filed → Type 0
          IsShort x = (h : Filed) → Contains (list_at (from + 1) held) h → filed_at h ≡ filed_at x → h.entry.len ≤ x.entry.len

          f_short : IsShort f
          f_short h within same =
              let f_len = ap (λ (e : Entry). e.len) grown.entry_is in
              let at_place = place_at m.granularity b move.series part.head_len start v of_it.own f f_own f_part stands_at in
              elim (put_all_has files (list_at (from + 1) held) h is.runs.ahead.rise within) [
                | inl there ↦
                    let long = long_there m.granularity b move.series part.head_len start v stands_at h f there same at_place in
                    omega (arith, long, longer, f_len)
                | inr (x, in_files, at_x, there) ↦
                    let long = long_there m.granularity b move.series part.head_len start v stands_at x f there (sym at_x ∙ same) at_place in
                    let short = is.runs.ahead.longer h x within in_files at_x in
                    omega (arith, long, longer, f_len, short)
              ]

          -- what is in limbo under its name is no longer
          abbrev IsLongAs : Filed → Type 0
          IsLongAs x = (r : Retired) → Contains limbo r → r.name ≡ file_of ((from + 1) + 1, held.rows) x.entry → file_at (filed_at x) (list_at (from + 1) held) ≡ None → r.entry.len ≤ x.entry.len

          f_long_as : IsLongAs f
          f_long_as r within named free =
              elim stands_at [
                | inr made ↦ absurd (apart_from part start goes made.at r within (named ∙ (ap (λ (rows : List Row). file_of ((from + 1) + 1, rows) f.entry) (sym has.known.rows) ∙ same_entry_name)))
                | inl on ↦ elim (put_cases (list_at (from + 1) held) files on.file on.within) [
                  | inl listed ↦ absurd (none_at (list_at (from + 1) held) (filed_at f) on.file free listed (sym (at_on on)))
                  | inr ahead ↦
                      let on_is = All-contains (IsListed m.granularity held.rows) files on.file (is.runs.ahead.filed m.granularity (granularity_at ms (from + 1) m here)).listed ahead in
                      let one_name = same_file m.granularity ((from + 1) + 1) held.rows f on.file (placed_it f f_own f_part).listed on_is (at_on on) in
                      let long = is.runs.ahead.longer_retired r on.file within ahead (named ∙ one_name) (subst (λ (p : Place). file_at p (list_at (from + 1) held) ≡ None) (at_on on) free) in
                      let begin = ap (λ (e : Entry). e.len) on.entry in
                      let f_len = ap (λ (e : Entry). e.len) grown.entry_is in
                      omega (arith, long, begin, longer, f_len)
                ]
              ]
            where
              same_entry_name : file_of ((from + 1) + 1, c.rows) f.entry ≡ file_of ((from + 1) + 1, c.rows) start.entry
              same_entry_name = ap (λ (k : ℕ). let n : Name = ((from + 1) + 1, path_of (name_of (slice_get c.rows k)) f.entry.part.name) in n) (f_own ∙ sym of_it.own) ∙ ap (λ (p : Part). let n : Name = ((from + 1) + 1, path_of (name_of (slice_get c.rows start.entry.series)) p.name) in n) f_part

              at_on : (on : GoesOnIn b move.series start) → filed_at f ≡ filed_at on.file
              at_on on = at_file m.granularity b move.series part.head_len start v of_it.own f f_own f_part on

          may_be_listed : MayBeListed (from + 1) tells new held more
          may_be_listed = record {
            rise = listed_then.1.rise;
            filed = λ g at_g.
                let same : m.granularity ≡ g = same_Some m.granularity g (sym (granularity_at ms (from + 1) m here) ∙ at_g) in
                let was = is.runs.ahead.filed m.granularity (granularity_at ms (from + 1) m here) in
                subst (λ (x : Granularity). AreFiled x (of_files (from + 1) held more)) same (record {
                  numbered = omega arith;
                  listed = listed_then.1.each (IsListed m.granularity held.rows) was.listed (placed_it f f_own f_part).listed;
                  filed = λ stands. listed_then.1.each (IsFiled m.granularity held.rows) (was.filed stands) (grown.filed stands);
                });
            safe = safe_then;
            longer = λ h x there within same. All-contains IsShort more x (listed_then.1.each IsShort (λ k y lt h within same. is.runs.ahead.longer h (get_or files k y) within (Contains-get_or files k y lt) same) f_short) within h there same;
            longer_retired = λ r x there within named free. All-contains IsLongAs more x (listed_then.1.each IsLongAs (λ k y lt r there named free. is.runs.ahead.longer_retired r (get_or files k y) there (Contains-get_or files k y lt) named free) f_long_as) within r there named free;
          }

          pub runs_then : RunsBeside (from + 1) tells new nm more held
          runs_then = runs_by (from + 1) tells old new move nm files more held refl same_move is.runs run (λ x are. still_lists move nm None len x adv (is.runs.parts x are)) (λ some. is.left) listed_then.1.are may_be_listed

          -- THE SAMPLES

          abbrev n : ℕ
          n = end_after (last_of move.pending move.listed)

          abbrev ps : List Filed
          ps = oldest from move.series (length move.parts) held

          rows_then : (front : List Filed) × (of_row move.series (put filed_at f b.files) ≡ front ++ f ∷ [])
          rows_then = row_then m.granularity b move.series part.head_len start v of_it.own f f_own f_part stands_at

          last_is : last_of nm.pending nm.listed ≡ Some f.entry
          last_is = go sets ∙ ap (λ (e : Entry). Some e) (sym grown.entry_is)
            where
              go : SetsLast entry move.pending nm.pending → last_of nm.pending nm.listed ≡ Some entry
              go (inl takes) = ap (λ (l : List Entry). last_of l nm.listed) takes.becomes ∙ last_of-push takes.rest entry nm.listed
              go (inr stands) = ap (λ (l : List Entry). last_of l nm.listed) stands.becomes ∙ last_of-push move.pending entry nm.listed

          last_new : IsLastOf (map entry_of (put_all (list_at (from + 1) held) more)) nm.series (last_of nm.pending nm.listed)
          last_new =
              let at_f = last_then move.series (put filed_at f b.files) rows_then.0 f rows_then.1 in
              subst (λ (o : Option Entry). IsLastOf (map entry_of (put_all (list_at (from + 1) held) more)) nm.series o) (sym last_is)
              (subst (λ (k : ℕ). IsLastOf (map entry_of (put_all (list_at (from + 1) held) more)) k (Some f.entry)) (sym (ap (λ (x : Moving). x.series) same_move))
              (subst (λ (fs : List Filed). IsLastOf (map entry_of fs) move.series (Some f.entry)) (sym files_are) at_f))

          long_then : length nm.parts ≡ length move.parts
          long_then = elim adv.is [
            | inl same ↦ ap (λ (x : Moving). length x.parts) same
            | inr (p, at_hand, same) ↦ ap (λ (x : Moving). length x.parts) same ∙ length-set move.parts move.at (record p { len = len })
          ]

          heads_then : KnowsHeads from nm held
          heads_then =
              ap (λ (x : Moving). map (λ (g : Filed). g.entry.head_len) (oldest from x.series (length nm.parts) held)) same_move
              ∙ (ap (λ (k : ℕ). map (λ (g : Filed). g.entry.head_len) (oldest from move.series k held)) long_then ∙ (is.heads ∙ sym heads_of))
            where
              heads_of : map (λ (e : Entry). e.head_len) nm.parts ≡ map (λ (e : Entry). e.head_len) move.parts
              heads_of = elim adv.is [
                | inl same ↦ ap (λ (x : Moving). map (λ (e : Entry). e.head_len) x.parts) same
                | inr (p, at_hand, same) ↦ ap (λ (x : Moving). map (λ (e : Entry). e.head_len) x.parts) same ∙ map-set_same (λ (e : Entry). e.head_len) move.parts move.at (record p { len = len }) p (ap (λ (e : Entry). e.head_len) (sym (get_or_from_slice_get move.parts move.at p p at_hand)))
              ]

          lengths_then : KnowsLengths from nm held
          lengths_then = elim adv.is [
            | inl same ↦ subst (λ (x : Moving). KnowsLengths from x held) (sym same) is.lengths
            | inr (p, at_hand, same) ↦ subst (λ (x : Moving). KnowsLengths from x held) (sym same) (lengths_finished from move held p len q is.lengths q_next.here at_hand q_long)
          ]

          few : move.at < length move.parts
          few = slice_get_within move.parts move.at part next_is

          q_here : SplitsHere ps move.at q
          q_here = splits_here ps move.at q (take_at (of_row move.series (list_at from held)) (length move.parts) move.at q few q_next.here)

          long_ps : length ps ≡ length move.parts
          long_ps = let some = enough tells old from move files held has is in omega (arith, some, length-take (length move.parts) (of_row move.series (list_at from held)))

          -- the first parts are those of the move's parts
          first_ps : (k : ℕ) → k ≤ length move.parts → oldest from move.series k held ≡ take k ps
          first_ps k less = sym (take-take k (length move.parts) (of_row move.series (list_at from held)) less)

          module _ (stands : IsTrue held.stands) where
            n_is : n ≡ end_of (samples_ahead (from + 1) move files held)
            n_is = end_is m.granularity b move.series (last_of move.pending move.listed) v stands is.last

            rises_n : RisesFrom n ((grown.samples stands).copied ++ (grown.samples stands).more)
            rises_n = subst (RisesFrom n) (grown.samples stands).next (left stands).rises

            q_is : q.samples ≡ (left stands).front ++ ((grown.samples stands).copied ++ (grown.samples stands).more)
            q_is = (left stands).are ∙ ap (λ (l : List Sample). (left stands).front ++ l) (grown.samples stands).next

            own_is : (g : ManifestState) × (slice_get ms from ≡ Some g) × (g.granularity ≡ is.runs.fine)
            own_is = source tells old from move files held has is

            abbrev g_own : Granularity
            g_own = own_is.0.granularity

            known : AreHeld g_own (tier from held)
            known = (has.known.each from own_is.0 own_is.1).valid

            all_parts : AllByRecursion (IsOfRowIn g_own held.rows move.series) (q_here.front ++ q ∷ q_here.back)
            all_parts = subst (AllByRecursion (IsOfRowIn g_own held.rows move.series)) q_here.are (first_files g_own held.rows move.series (length move.parts) (list_at from held) (known.filed.filed stands))

            from_q : AllByRecursion (IsOfRowIn g_own held.rows move.series) (q ∷ q_here.back)
            from_q = all_rest (IsOfRowIn g_own held.rows move.series) q_here.front (q ∷ q_here.back) all_parts

            rise_parts : PlacesRise (q_here.front ++ q ∷ q_here.back)
            rise_parts = subst PlacesRise q_here.are (rise_front ps (drop (length move.parts) (of_row move.series (list_at from held))) (subst PlacesRise (sym (take-append-drop (length move.parts) (of_row move.series (list_at from held)))) (rise_row move.series (list_at from held) known.apart)))

            later_n : AllByRecursion (IsLater n) q_here.back
            later_n = later_all g_own held.rows move.series q q_here.back n from_q.0 (ends_later q n (left stands).front back (left stands).are (left stands).some (left stands).rises from_q.0.0.inside) (rise_rest q_here.front (q ∷ q_here.back) rise_parts) from_q.1

            -- what is copied lies in the part
            begins_in : q.entry.part.start ≤ end_from n (grown.samples stands).copied
            begins_in = inside_end q n (left stands).front (grown.samples stands).copied (grown.samples stands).more q_is (grown.samples stands).some rises_n from_q.0.0.inside

            gone_n : since (end_from n (grown.samples stands).copied) (of_parts q_here.front) ≡ []
            gone_n = earlier_all g_own held.rows move.series q_here.front q q_here.back (end_from n (grown.samples stands).copied) from_q.0 begins_in rise_parts (all_front (IsOfRowIn g_own held.rows move.series) q_here.front (q ∷ q_here.back) all_parts)

            part_holds : AllByRecursion (λ (s : Sample). HoldsMoment q.entry.part s.t) ((grown.samples stands).copied ++ (grown.samples stands).more)
            part_holds = all_rest (λ (s : Sample). HoldsMoment q.entry.part s.t) (left stands).front ((grown.samples stands).copied ++ (grown.samples stands).more)
                (subst (AllByRecursion (λ (s : Sample). HoldsMoment q.entry.part s.t)) q_is (recursion_from_All (λ (s : Sample). HoldsMoment q.entry.part s.t) q.samples from_q.0.0.inside))

            copied_in : AllByRecursion (λ (s : Sample). HoldsMoment q.entry.part s.t) (grown.samples stands).copied
            copied_in = all_front (λ (s : Sample). HoldsMoment q.entry.part s.t) (grown.samples stands).copied (grown.samples stands).more part_holds

            n_in : n ≤ q.entry.part.end
            n_in = ends_later q n (left stands).front back (left stands).are (left stands).some (left stands).rises from_q.0.0.inside

            later_now : AllByRecursion (IsLater (end_from n (grown.samples stands).copied)) q_here.back
            later_now = later_all g_own held.rows move.series q q_here.back (end_from n (grown.samples stands).copied) from_q.0 (inside_until q.entry.part.end n (grown.samples stands).copied n_in (weaker (λ s. HoldsMoment q.entry.part s.t) (λ s. s.t < q.entry.part.end) (λ s in_part. in_part.1) (grown.samples stands).copied copied_in)) (rise_rest q_here.front (q ∷ q_here.back) rise_parts) from_q.1

            ahead_is : samples_ahead (from + 1) move more held ≡ samples_ahead (from + 1) move files held ++ (grown.samples stands).copied
            ahead_is = ap (samples_of move.series) files_are ∙ samples_then m.granularity b move.series part.head_len start v of_it.own f f_own f_part stands_at (grown.samples stands).copied (grown.samples stands).samples

            end_then : end_of (samples_ahead (from + 1) nm more held) ≡ end_from n (grown.samples stands).copied
            end_then =
                ap (λ (x : Moving). end_of (samples_ahead (from + 1) x more held)) same_move
                ∙ (ap end_of ahead_is ∙ (end_from-append 0 (samples_ahead (from + 1) move files held) (grown.samples stands).copied ∙ ap (λ (k : ℕ). end_from k (grown.samples stands).copied) (sym n_is)))

            -- something is left of the parts from one on
            left_from : (k : ℕ) (fs : List Filed) → drop k ps ≡ fs → AllByRecursion (λ (x : Filed). since (end_from n (grown.samples stands).copied) x.samples ≢ []) fs → All (IsLeft (from + 1) nm more held) (drop k (oldest from nm.series (length nm.parts) held))
            left_from k fs are all =
                subst (λ (l : List Filed). All (IsLeft (from + 1) nm more held) (drop k l)) (sym (ap (λ (x : Moving). oldest from x.series (length nm.parts) held) same_move ∙ ap (λ (j : ℕ). oldest from move.series j held) long_then))
                (subst (All (IsLeft (from + 1) nm more held)) (sym are) (All-from_recursion (IsLeft (from + 1) nm more held) fs (subst (λ (j : ℕ). AllByRecursion (λ (x : Filed). since j x.samples ≢ []) fs) (sym end_then) all)))

            -- and they begin later
            later_from : (k : ℕ) (fs : List Filed) → drop k ps ≡ fs → AllByRecursion (IsLater (end_from n (grown.samples stands).copied)) fs → All (IsAllLater (from + 1) nm more held) (drop k (oldest from nm.series (length nm.parts) held))
            later_from k fs are all =
                subst (λ (l : List Filed). All (IsAllLater (from + 1) nm more held) (drop k l)) (sym (ap (λ (x : Moving). oldest from x.series (length nm.parts) held) same_move ∙ ap (λ (j : ℕ). oldest from move.series j held) long_then))
                (subst (All (IsAllLater (from + 1) nm more held)) (sym are) (All-from_recursion (IsAllLater (from + 1) nm more held) fs (subst (λ (j : ℕ). AllByRecursion (λ (x : Filed). BeginsAt j x.samples) fs) (sym end_then) (later_begins (end_from n (grown.samples stands).copied) fs all))))

            abbrev left_then : List Sample
            left_then = (grown.samples stands).more ++ of_parts q_here.back

            copies_next : CopiesLines most from move nm files more held (grown.samples stands).copied left_then
            copies_next = record {
              left = ap (λ (k : ℕ). since k (of_parts ps)) (sym n_is) ∙ (left_is ps move.at q q_here n (left stands).front (grown.samples stands).copied (grown.samples stands).more q_is (left stands).earlier rises_n later_n gone_n ∙ ap (λ (l : List Sample). l ++ ((grown.samples stands).copied ++ left_then)) before_is);
              still = left_now_of ∙ left_now ps move.at q q_here n (left stands).front (grown.samples stands).copied (grown.samples stands).more q_is (left stands).earlier rises_n later_n gone_n later_now;
              ahead = ahead_is;
              few = (grown.samples stands).few;
              some = (grown.samples stands).some;
              further = let end = end_then in let high = end_from-ge n (grown.samples stands).copied (RisesFrom-front n (grown.samples stands).copied (grown.samples stands).more rises_n) in omega (arith, n_is, end, high);
              within = λ r r_next.
                  let one : ◌≡◌ {A = Option Filed} (Some q) (Some r) = sym q_next.here ∙ r_next.here in
                  subst (λ (x : Filed). All (λ (s : Sample). HoldsMoment x.entry.part s.t) (grown.samples stands).copied) (same_Some q r one) (All-from_recursion (λ (s : Sample). HoldsMoment q.entry.part s.t) (grown.samples stands).copied copied_in);
            }
              where
                left_now_of : left_of from nm (length nm.parts) more held ≡ since (end_from n (grown.samples stands).copied) (of_parts ps)
                left_now_of =
                    ap (λ (k : ℕ). since k (of_parts (oldest from nm.series (length nm.parts) held))) end_then
                    ∙ (ap (λ (x : Moving). since (end_from n (grown.samples stands).copied) (of_parts (oldest from x.series (length nm.parts) held))) same_move
                    ∙ ap (λ (k : ℕ). since (end_from n (grown.samples stands).copied) (of_parts (oldest from move.series k held))) long_then)

                before_is : since n (of_parts (take move.at ps)) ≡ left_of from move move.at files held
                before_is = ap (λ (k : ℕ). since k (of_parts (take move.at ps))) n_is ∙ ap (λ (fs : List Filed). since (end_of (samples_ahead (from + 1) move files held)) (of_parts fs)) (sym (first_ps move.at (omega (arith, few))))

            passed_at : (k : ℕ) → k ≤ length move.parts → since (end_from n (grown.samples stands).copied) (of_parts (take k ps)) ≡ [] → left_of from nm k more held ≡ []
            passed_at k less none_left =
                ap (λ (j : ℕ). since j (of_parts (oldest from nm.series k held))) end_then
                ∙ (ap (λ (x : Moving). since (end_from n (grown.samples stands).copied) (of_parts (oldest from x.series k held))) same_move
                ∙ (ap (λ (fs : List Filed). since (end_from n (grown.samples stands).copied) (of_parts fs)) (first_ps k less) ∙ none_left))

          -- whether the part was copied whole
          module _ (whole_is : Whole ↔ (nm.at ≡ move.at + 1)) where
            at_cases : (nm.at ≡ move.at) ⊎ (nm.at ≡ move.at + 1)
            at_cases = elim adv.is [
              | inl same ↦ inl (ap (λ (x : Moving). x.at) same)
              | inr (p, at_hand, same) ↦ inr (ap (λ (x : Moving). x.at) same)
            ]

            one_more_at : move.at + 1 ≡ suc move.at
            one_more_at = omega arith

            passed_then : (stands : IsTrue held.stands) → left_of from nm nm.at more held ≡ []
            passed_then stands = elim at_cases [
              | inl same ↦ subst (λ (k : ℕ). left_of from nm k more held ≡ []) (sym same)
                  (passed_at stands move.at (omega (arith, few)) (still_passed ps move.at q q_here n (left stands).front (grown.samples stands).copied (grown.samples stands).more (q_is stands) (left stands).earlier (rises_n stands) (later_n stands) (gone_n stands)))
              | inr same ↦ subst (λ (k : ℕ). left_of from nm k more held ≡ []) (sym same)
                  (passed_at stands (move.at + 1) (omega (arith, few))
                  (now_passed ps move.at q q_here n (left stands).front (grown.samples stands).copied (grown.samples stands).more (q_is stands) (left stands).earlier (rises_n stands) (later_n stands) (gone_n stands) ((grown.samples stands).whole (whole_is.1 same))))
            ]

            pub says_more : nm.at ≢ length nm.parts → SaysLines most from tells new move nm files held ends.More
            says_more not_all = (
              more,
              record {
                runs = runs_then;
                stage = ap (λ (x : Moving). x.stage) same_move ∙ is.stage;
                left = not_all;
                heads = heads_then;
                lengths = lengths_then;
                last = last_new;
                passed = passed_then;
                told = is.told;
              },
              λ stands. (
                (grown.samples stands).copied,
                left_then stands,
                copies_next stands,
                elim at_cases [
                  | inl same ↦ subst (λ (k : ℕ). All (IsLeft (from + 1) nm more held) (drop k (oldest from nm.series (length nm.parts) held))) (sym same)
                      (left_from stands move.at (q ∷ q_here.back) q_here.dropped (
                        λ none. (grown.samples stands).others (λ whole. let on = whole_is.0 whole in omega (arith, on, same))
                            (sym (left_of_part ps move.at q q_here n (left stands).front (grown.samples stands).copied (grown.samples stands).more (q_is stands) (left stands).earlier (rises_n stands) (later_n stands) (gone_n stands)) ∙ none),
                        later_left (end_from n (grown.samples stands).copied) q_here.back (later_now stands),
                      ))
                  | inr same ↦ subst (λ (k : ℕ). All (IsLeft (from + 1) nm more held) (drop k (oldest from nm.series (length nm.parts) held))) (sym (same ∙ one_more_at))
                      (left_from stands (suc move.at) q_here.back q_here.behind (later_left (end_from n (grown.samples stands).copied) q_here.back (later_now stands)))
                ],
                λ on. elim at_cases [
                  | inl same ↦ absurd (omega (arith, on, same))
                  | inr same ↦ subst (λ (k : ℕ). All (IsAllLater (from + 1) nm more held) (drop k (oldest from nm.series (length nm.parts) held))) (sym (same ∙ one_more_at)) (later_from stands (suc move.at) q_here.back q_here.behind (later_now stands))
                ],
              ),
            )

            pub says_all : nm.at ≡ length nm.parts → SaysLines most from tells new move nm files held ends.Copied
            says_all all = (
              more,
              record {
                runs = runs_then;
                stage = ap (λ (x : Moving). x.stage) same_move ∙ is.stage;
                all_copied = all;
                parts = copied_whole from nm more held all lengths_then passed_then;
              },
              λ stands. (
                (grown.samples stands).copied,
                subst (λ (l : List Sample). CopiesLines most from move nm files more held (grown.samples stands).copied l)
                    (none_rest ps move.at q q_here n (left stands).front (grown.samples stands).copied (grown.samples stands).more (q_is stands) (left stands).earlier (rises_n stands) (later_n stands) (gone_n stands) ((grown.samples stands).whole (whole_is.1 whole)) (let long = long_ps in let long₂ = long_then in omega (arith, whole, all, long, long₂)))
                    (copies_next stands),
              ),
            )
              where
                whole : nm.at ≡ move.at + 1
                whole = elim at_cases [ inl same ↦ absurd (let long = long_then in let low = few in omega (arith, all, same, long, low)) | inr same ↦ same ]

  -- WHAT IT ANSWERS

  module _ (move : Moving) (part : Entry) (next_is : slice_get move.parts move.at ≡ Some part) where
    abbrev WroteIt : Type 0
    WroteIt = Wrote shows faults_of tells c ms limbo from m here d after seen_it move part

    pub wrote_it : IsPlacedOrNot move None part → (IsTrue tells → (p : Entry) (start : Start) → GoesTo move None p start → LeavesFile (target_file move start) start.at (shows d) (shows after))
        → (IsTrue tells → ((p : Entry) (start : Start) → GoesTo move None p start → ⊥) → ReadsDisk (shows d) (shows after)) → WroteIt
    wrote_it (inl (start, goes)) leaves nowhere = inl (start, goes, λ told. leaves told part start goes)
    wrote_it (inr over) leaves nowhere = inr (over, λ told. nowhere told (λ p s goes. goes_nowhere move None part p over.to s next_is over.is over.holds over.none goes))

    -- WHAT THE ANSWER SAYS

    module _ (files : List Filed) (held : Stores) (has : Has tells old.stores held) (is : CopiesFurther from tells old move files held) (name : Name) (at len most : ℕ) (line : FindsLine from tells (shows d).files move held name at len) (apart_from : Apart shows faults_of tells c ms limbo from m here d after seen_it move) (nm : Moving) (run : IsMove is.runs.fine nm) (adv : Advances move nm None len) (wrote : WroteIt)
        (copies : IsTrue tells → (p : Entry) (start : Start) (bytes : List ℕ) → GoesTo move None p start → (shows d).files (source_file move p) ≡ Some bytes → CopiesPart move nm start p at len most bytes (shows d).files (shows after)) where
      abbrev n_was : ℕ
      n_was = end_after (last_of move.pending move.listed)

      abbrev ends_now : ℕ
      ends_now = end_after (last_of nm.pending nm.listed)

      abbrev Whole : Type 0
      Whole = nm.at ≡ move.at + 1

      listed_same : nm.listed ≡ move.listed
      listed_same = elim adv.is [ inl same ↦ ap (λ (x : Moving). x.listed) same | inr (p, at_hand, same) ↦ ap (λ (x : Moving). x.listed) same ]

      not_ahead : nm.pending ≡ move.pending → n_was < ends_now → ⊥
      not_ahead same less = let one = ap (λ (l : List Entry). end_after (last_of l nm.listed)) same ∙ ap (λ (o : Option Entry). end_after (last_of move.pending o)) listed_same in omega (arith, one, less)

      -- the entry that is to be listed with the lines
      record Chosen (start : Start) : Type 0 where
        pub entry : Entry
        pub of : entry.part ≡ start.entry.part
        pub own : entry.series ≡ start.entry.series
        pub longer : start.entry.len ≤ entry.len
        pub sets : SetsLast entry move.pending nm.pending
        pub says : IsTrue tells → WroteLines (shows d).files (shows after) move part start entry at len most Whole

      there : IsTrue tells → HasFile (shows d).files (source_file move part) (λ bytes. line.file.entry.len ≤ length bytes)
      there told = source_there tells old from move files held has is line.file line.next part next_is told

      chosen_told : (told : IsTrue tells) (start : Start) → GoesTo move None part start → (nm.pending ≡ move.pending → ⊥) → Chosen start
      chosen_told told start goes apart =
          let file = there told in
          let cp = copies told part start file.bytes goes file.file in
          elim cp.1.writes [
            | inl w ↦ record {
              entry = cp.1.entry;
              of = cp.1.part_is;
              own = cp.1.series_is;
              longer = let longer = cp.1.takes.longer in omega (arith, longer);
              sets = w.set;
              says = λ t. record { bytes = file.bytes; file = file.file; lines = cp.0; takes = cp.1.takes; wrote = w.wrote; whole = cp.2 };
            }
            | inr nothing ↦ absurd (apart nothing.same)
          ]

      pending_is : adv.pending ≡ nm.pending
      pending_is = elim adv.is [ inl same ↦ sym (ap (λ (x : Moving). x.pending) same) | inr (p, at_hand, same) ↦ sym (ap (λ (x : Moving). x.pending) same) ]

      chosen_untold : (IsTrue tells → ⊥) → (start : Start) → GoesTo move None part start → (nm.pending ≡ move.pending → ⊥) → Chosen start
      chosen_untold never start goes apart = elim adv.sets [
        | inl same ↦ absurd (apart (sym pending_is ∙ same))
        | inr (p, s, entry, to, of, own, longer, sets) ↦
            let one = (one_start move None p part s start to goes).1 in
            record {
              entry = entry;
              of = of ∙ ap (λ (x : Start). x.entry.part) one;
              own = own ∙ ap (λ (x : Start). x.entry.series) one;
              longer = subst (λ (x : Start). x.entry.len ≤ entry.len) one longer;
              sets = subst (SetsLast entry move.pending) pending_is sets;
              says = λ told. absurd (never told);
            }
      ]

      chosen : (start : Start) → GoesTo move None part start → n_was < ends_now → Chosen start
      chosen start goes less = go tells refl
        where
          go : (x : Bool) → tells ≡ x → Chosen start
          go true told = chosen_told told start goes (λ same. not_ahead same less)
          go false over = chosen_untold (λ told. absurd (cc (told, over))) start goes (λ same. not_ahead same less)

      left_here : (stands : IsTrue held.stands) → PartLeft line.file (line.splits stands).back n_was
      left_here stands = part_left is.runs.fine held.rows line.file n_was at (q_filed tells old from move files held has is line.file line.next part next_is stands) (line.splits stands) (let low = line.low in let long = line.long in omega (arith, low, long))

      somewhere : n_was < ends_now → (start : Start) × GoesTo move None part start × Leaves shows faults_of tells c ms limbo from m here d after seen_it move start
      somewhere less = elim wrote [
        | inl goes ↦ goes
        | inr (over, reads) ↦ elim adv.sets [
          | inl same ↦ absurd (not_ahead (sym pending_is ∙ same) less)
          | inr (p, s, entry, to, of, own, longer, sets) ↦ absurd (goes_nowhere move None part p over.to s next_is over.is over.holds over.none to)
        ]
      ]

      abbrev Grown : (start : Start) (entry : Entry) → List Sample → Type 0
      Grown start entry back = GrownFile m.granularity (with_files (tier (from + 1) held) files) start entry (IsTrue held.stands) (IsTrue tells) (λ bytes. WritesFile (target_file move start) start.at bytes (shows d).files (shows after)) (CopiedOf most (with_files (tier (from + 1) held) files) back Whole)

      module _ (less : n_was < ends_now) where
        abbrev to : (start : Start) × GoesTo move None part start × Leaves shows faults_of tells c ms limbo from m here d after seen_it move start
        to = somewhere less

        abbrev one : Chosen to.0
        one = chosen to.0 to.1 less

        grown : (back : List Sample) × Grown to.0 one.entry back × (IsTrue held.stands → PartLeft line.file back n_was)
        grown = go held.stands refl
          where
            go : (x : Bool) → held.stands ≡ x → (back : List Sample) × Grown to.0 one.entry back × (IsTrue held.stands → PartLeft line.file back n_was)
            go true stands = (
              (line.splits stands).back,
              grown_stands move part files held has is next_is to.0 to.1 to.2 line.file line.next at len most line.low line.long line.behind line.splits one.entry one.of one.own Whole one.says stands,
              λ s. left_here stands,
            )
            go false over = (
              [],
              grown_bare move part files held has is next_is to.0 to.1 to.2 line.file line.next at len most line.low line.long line.behind line.splits one.entry one.of one.own Whole one.says (λ s. absurd (cc (s, over))) [],
              λ s. absurd (cc (s, over)),
            )

        pub more_said : nm.at ≢ length nm.parts → SaysLines most from tells new move nm files held ends.More
        more_said not_all =
            says_more move part files held has is next_is to.0 to.1 to.2 line.file line.next at len most line.low line.long line.behind line.splits one.entry one.of one.own Whole one.says
            grown.0 grown.1 grown.2 apart_from one.longer nm run adv one.sets (λ x. x, λ x. x) not_all

        pub all_said : nm.at ≡ length nm.parts → SaysLines most from tells new move nm files held ends.Copied
        all_said all =
            says_all move part files held has is next_is to.0 to.1 to.2 line.file line.next at len most line.low line.long line.behind line.splits one.entry one.of one.own Whole one.says
            grown.0 grown.1 grown.2 apart_from one.longer nm run adv one.sets (λ x. x, λ x. x) all

      -- NO LINE WAS COPIED

      -- the lines that are told make the row end later
      goes_ahead : (stands : IsTrue held.stands) (start : Start) → GoesTo move None part start → Leaves shows faults_of tells c ms limbo from m here d after seen_it move start → n_was < ends_now
      goes_ahead stands start goes leaves =
          let told = is.told stands in
          let file = there told in
          let cp = copies told part start file.bytes goes file.file in
          let wn = next_stands move part files held has is next_is start goes leaves line.file line.next at len most line.low line.long line.behind line.splits cp.1.entry cp.1.part_is cp.1.series_is stands file.bytes cp.0 file.file cp.1.takes in
          elim cp.1.writes [
            | inl w ↦
                let ends = set_ends cp.1.entry move.pending nm.pending w.set in
                let last : ends_now ≡ cp.1.entry.last + 1 = ap (λ (l : List Entry). end_after (last_of l nm.listed)) ends.1 ∙ ap end_after (last_of-push ends.0 cp.1.entry nm.listed) in
                let filed = (wn.becomes.own stands).filed in
                let to = filed.to in
                let of_entry = ap (λ (e : Entry). e.last) wn.entry_is in
                let samples = ap end_of wn.samples ∙ end_from-append 0 (samples_at (filed_at wn.file) (put_all (list_at (from + 1) held) files)) wn.copied in
                let rises = RisesFrom-front n_was wn.copied wn.more (subst (RisesFrom n_was) wn.next (left_here stands).rises) in
                let later = ends_behind n_was (end_of (samples_at (filed_at wn.file) (put_all (list_at (from + 1) held) files))) wn.copied wn.some rises in
                omega (arith, last, to, of_entry, samples, later)
            | inr nothing ↦ absurd (wn.some (no_length wn.copied (let text = ap length wn.text in let empty = ap length nothing.none in omega (arith, text, empty))))
          ]

      -- where the destination ends behind the part, nothing of the part is left
      not_nowhere : (stands : IsTrue held.stands) → GoesNowhere move None part → ⊥
      not_nowhere stands over = go (last_of move.pending move.listed) refl over.none
        where
          q_in : n_was ≤ line.file.entry.part.end
          q_in =
              let filed = q_filed tells old from move files held has is line.file line.next part next_is stands in
              let left = left_here stands in
              ends_later line.file n_was left.front (line.splits stands).back left.are left.some left.rises filed.inside

          base_valid : AreHeld m.granularity (with_files (tier (from + 1) held) files)
          base_valid = valid_with (from + 1) tells old held files is.runs.ahead m here has

          size : m.granularity ≡ move.granularity
          size = same_size (from + 1) tells old move files held m here is.runs

          go : (o : Option Entry) → last_of move.pending move.listed ≡ o → starts o move.series over.to part.head_len None ≡ None → ⊥
          go None same begins = absurd (cc (begins))
          go (Some e) same begins =
              let b = with_files (tier (from + 1) held) files in
              let before = nowhere_before e over.to.start _ begins in
              let f = last_file b move.series e (subst (IsLastOf (map entry_of b.files) move.series) same is.last) in
              let filed = All-contains (IsFiled m.granularity b.rows) b.files f.1 (base_valid.filed.filed stands) (within_row b move.series f.0 f.1 f.2) in
              let known = last_all (λ (x : Entry). IsPart move.granularity x.part × (x.series ≡ move.series)) move.pending move.listed e is.runs.running.pending is.runs.running.listed same in
              let clear = parts_apart move.granularity over.to e.part over.is known.0 before in
              let q_is = q_filed tells old from move files held has is line.file line.next part next_is stands in
              let of_part = q_part tells old from move files held has is line.file line.next part next_is in
              let some = parts.within is.runs.fine line.file.entry.part q_is.part in
              let nest = parts.nest move.granularity is.runs.fine line.file.entry.part over.to line.file.entry.part.start is.runs.running.nested q_is.part over.is (omega arith, some.1) (subst (λ (p : Part). HoldsMoment over.to p.start) (sym of_part) over.holds) in
              let ends = filed.to in
              let begin = begins_within m.granularity b.rows f.1 filed in
              let n_is = ap end_after same in
              let last = ap (λ (x : Entry). x.last) f.3 in
              let start = ap (λ (x : Entry). x.part.start) f.3 in
              let q_end = q_in in
              omega (arith, clear, nest.1, begin, n_is, last, start, q_end)

      -- files of other stores stay
      file_stays : IsTrue tells → (n : Name) → n.0 ≢ (from + 1) + 1 → (shows after).files n ≡ (shows d).files n
      file_stays told n apart = elim wrote [
        | inl (start, goes, leaves) ↦ (leaves told).elsewhere n (λ same. apart (ap (λ (x : Name). x.0) same ∙ (is.runs.numbers told).1))
        | inr (over, reads) ↦ ap (λ (f : Files). f n) (reads told).same
      ]

      pub damaged_said : ends_now ≤ n_was → IsDamaged from tells (shows after).files move held name at
      damaged_said high = record {
        file = line.file;
        part = part_in from move held line.file (slice_get_within move.parts move.at part next_is) line.next;
        named = line.named;
        within = let low = line.low in let long = line.long in omega (arith, low, long);
        never = λ stands. elim wrote [
          | inl (start, goes, leaves) ↦ let less = goes_ahead stands start goes leaves in absurd (omega (arith, less, high))
          | inr (over, reads) ↦ absurd (not_nowhere stands over)
        ];
        bad = λ told.
            let good = line.good told in
            record { bytes = good.bytes; file = file_stays told name (λ two. let one = ap (λ (x : Name). x.0) line.named in omega (arith, one, two)) ∙ good.file; holds = no_file good.holds };
      }
