-- What is written: one file behind its front, one more ahead of what is listed, and the commit that lists them.
use Rattle.std.proofs.Common.{◌≡◌, inl, ℕ, List, refl, sym, ◌∙◌, ap, ◌≢◌, inr, ◌≤◌, [], ◌∷◌, ◌++◌, length, take, None, Some, subst, arith, zero, suc, ◌<◌, get_or, Option, map, ◌⊎◌}
use Rattle.disk_model.specs.Files.{Name, Files, HasFile, Content, At, Overwritten, Torn, Cut}
use Rattle.disk_model.specs.Past.{Passes, MayLeave, Only}
use Rattle.std.proofs.lemmas.List.{length-take, length-append, take_all, take_at}
use Rattle.gate_journal.specs.Journal.{JournalState}
use Rattle.gate_journal.specs.DiskShown.{DiskShown}
use Rattle.partition_names.specs.declared.granularity.Granularity.{Granularity}
use Rattle.store_manifest.specs.Manifest.{ManifestState}
use Rattle.durable_write.specs.Held.{Filed, Held, filed_at, Shelf, IsFiled, IsListed, IsIn, file_of, bytes_of, shelf_of, entry_of}
use Rattle.durable_write.specs.Flush.{put_all, file_at, listed_bytes, listed_len, start_of, with_files}
use Rattle.durable_write.specs.Writing.{IsStoredAs, Behind, IsSafe}
use Rattle.durable_write.specs.Ahead.{HasCopied, Leads, CanRelist}
use Rattle.durable_write.proofs.Staying.{name_cases, same_place, same_file, having, AllowTo, whole_in, call_behind, still_safe, safe_both, still_stored_as, appended, cut_kept, cut_of, written_keeps}
use Rattle.etl_mover.specs.Writing.{WritesFile, LeavesFile}
use Rattle.std.specs.Prelude.{Contains, IsTrue, All}
use Rattle.std.proofs.lemmas.List.Elements.{All-nil, All-cons, All-contains, Contains-get_or, All-head, All-tail}
use Rattle.store_files.specs.Fronts.{Begins, Keeps}
use Rattle.store_files.proofs.Stays.{front_file, keeps_more, torn_keeps}
use Rattle.store_manifest.specs.Entries.{Place, comes_before, put, all_changed, changed, AllCanFollow}
use Rattle.durable_write.specs.Stored.{AreHeld, AreLong, AreSafe, Holds}
use Rattle.durable_write.proofs.Written.{copied_moment, leads_on, leads_behind, leads_long, put_all_has}
use Rattle.durable_write.proofs.Places.{found, listed_at, all_put_all, rise_put_all}
use Rattle.etl_mover.specs.Growing.{IsPlaced, BecomesFile}
use Rattle.partition_names.specs.Part.{IsPart}
use Rattle.store_manifest.specs.declared.entry.Entry.{Entry}
use Rattle.durable_write.proofs.Commits.{map-put, can_publish}
use Rattle.etl_mover.specs.Move.{Moving, IsAhead, set_entry}

-- One file more is written ahead of what is listed.

module _ (g : Granularity) (base : Held) (at : Option ℕ) (f : Filed) (valid : AreHeld g base) (is : IsPlaced g base at f) where
  -- a file ahead that has the name is the one behind which the bytes go on
  same_listed : (k : ℕ) (d : Filed) → k < length base.files → file_of (shelf_of base) (get_or base.files k d).entry ≡ file_of (shelf_of base) f.entry → at ≡ Some (get_or base.files k d).entry.len
  same_listed k d lt same =
      let h : Filed = get_or base.files k d in
      let place : filed_at h ≡ filed_at f = same_place g base.store base.rows h f valid.keys (valid.filed.listed k d lt) is.listed same in
      is.place ∙ ap listed_len (ap (λ (q : Place). file_at q base.files) (sym place) ∙ found base.files valid.apart k d lt)

  pub allows : AllowTo (shelf_of base) (start_of at) (file_of (shelf_of base) f.entry) base.files
  allows k d lt same = let here = ap start_of (same_listed k d lt same) in omega (arith, here)

  -- the file ahead behind which they go on
  pub record GoesOn (len : ℕ) : Type 0 where
    pub file : Filed
    pub within : Contains base.files file
    pub name : file_of (shelf_of base) file.entry ≡ file_of (shelf_of base) f.entry
    pub long : file.entry.len ≡ len
    pub there : file_at (filed_at f) base.files ≡ Some file

  pub goes_on : (len : ℕ) → at ≡ Some len → GoesOn len
  goes_on len some = elim (listed_at base.files (filed_at f)) [
    | inl none ↦ let no : ◌≡◌ {A = Option ℕ} (Some len) None = sym some ∙ is.place ∙ ap listed_len none in absurd (cc (no))
    | inr (h, within, place, there) ↦
        let long : ◌≡◌ {A = Option ℕ} (Some h.entry.len) (Some len) = sym (is.place ∙ ap listed_len there) ∙ some in
        record {
          file = h;
          within = within;
          name = same_file g base.store base.rows h f (All-contains (IsListed g base.rows) base.files h valid.filed.listed within) is.listed place;
          long = cc (long);
          there = there;
        }
  ]

  unlisted : (o : Option Filed) → listed_len o ≡ None → o ≡ None
  unlisted None same = refl
  unlisted (Some h) same = absurd (cc (same))

module _ (g : Granularity) (base : Held) (at : Option ℕ) (bytes : List ℕ) (f : Filed) (valid : AreHeld g base) (is : BecomesFile g base at bytes f) where
  -- all of it is valid with the file
  pub valid_more : AreHeld g (with_files base (f ∷ []))
  valid_more = record {
    keys = valid.keys;
    filed = record {
      numbered = valid.filed.numbered;
      listed = all_put_all (IsListed g base.rows) base.files (f ∷ []) valid.filed.listed (All-cons (IsListed g base.rows) f [] is.placed.listed (All-nil (IsListed g base.rows)));
      filed = λ stands. all_put_all (IsFiled g base.rows) base.files (f ∷ []) (valid.filed.filed stands) (All-cons (IsFiled g base.rows) f [] (is.own stands).filed (All-nil (IsFiled g base.rows)));
    };
    apart = rise_put_all base.files (f ∷ []) valid.apart;
  }

  -- and leads on from what was ahead
  pub leads_more : Leads base (with_files base (f ∷ []))
  leads_more = record {
    same_shelf = refl;
    same_stands = refl;
    each = λ k d lt.
        let h : Filed = get_or base.files k d in
        elim (put_all_has (f ∷ []) base.files h (All-nil (λ (x : Filed). IsTrue (comes_before (filed_at f) (filed_at x))), tt) (Contains-get_or base.files k d lt)) [
          | inl there ↦ record { file = h; within = there; name = refl; longer = omega arith; front = λ stands. (omega arith, take_all (length (bytes_of h)) (bytes_of h) (omega arith)) }
          | inr (x, within, same, there) ↦
              let one : f ≡ x = only x within in
              let place : filed_at h ≡ filed_at f = same ∙ ap filed_at (sym one) in
              let here : file_at (filed_at f) base.files ≡ Some h = ap (λ (q : Place). file_at q base.files) (sym place) ∙ found base.files valid.apart k d lt in
              let start = ap start_of (is.placed.place ∙ ap listed_len here) in
              record {
                file = f;
                within = subst (Contains (put_all base.files (f ∷ []))) (sym one) there;
                name = sym (same_file g base.store base.rows h f (valid.filed.listed k d lt) is.placed.listed place);
                longer = omega (arith, start, is.len);
                front = λ stands.
                    let whole : bytes_of f ≡ bytes_of h ++ bytes = (is.own stands).are ∙ ap (λ (o : Option Filed). listed_bytes o ++ bytes) here in
                    let long = ap length whole ∙ length-append (bytes_of h) bytes in
                    (omega (arith, long), ap (take (length (bytes_of h))) whole ∙ take_at (bytes_of h) bytes (length (bytes_of h)) refl);
              }
        ];
  }
    where
      only : (x : Filed) → Contains (f ∷ []) x → f ≡ x
      only x (zero, low, same) = same
      only x (suc k, low, same) = absurd (omega (arith, low))

-- WHAT A CALL WROTE

module _ (catalogue : JournalState) (m : ManifestState) (shelf : Shelf) (old new : DiskShown) (held base : Held) (at : Option ℕ) (f : Filed) (has : HasCopied catalogue m shelf old held base)
    (placed : IsPlaced m.granularity base at f) (call : LeavesFile (file_of (shelf_of base) f.entry) at old new) where
  name : Name
  name = file_of (shelf_of base) f.entry

  valid : AreHeld m.granularity base
  valid = has.safe.valid

  -- what is ahead stays
  pub stays_ahead : Passes (Behind base) old.past new.past
  stays_ahead = call_behind m.granularity base (file_of (shelf_of base) f.entry) (start_of at) old.past new.past valid.filed refl (allows m.granularity base at f valid placed) call.any_moment

  pub stays_long : AreLong base new.files
  stays_long k d lt =
      let h : Filed = get_or base.files k d in
      elim (name_cases (file_of (shelf_of base) h.entry) (file_of (shelf_of base) f.entry)) [
        | inl same ↦ subst (λ (n : Name). HasFile new.files n (λ b. h.entry.len ≤ length b)) (sym same) (call.long h.entry.len (same_listed m.granularity base at f valid placed k d lt same))
        | inr apart ↦
            let was = has.safe.safe.long k d lt in
            record { bytes = was.bytes; file = call.elsewhere (file_of (shelf_of base) h.entry) apart ∙ was.file; holds = was.holds }
      ]

  others : (n : Name) → n.0 ≢ shelf.0 → new.files n ≡ old.files n
  others n other = call.elsewhere n (λ same. other (ap (λ (x : Name). x.0) same ∙ ap (λ (s : Shelf). s.0) has.safe.of_rows))

  still_safe_ahead : IsSafe m.granularity shelf new base
  still_safe_ahead = still_safe m.granularity shelf old new base has.safe stays_ahead stays_long call.fewer

  still_listed : IsStoredAs catalogue m shelf new held
  still_listed = still_stored_as catalogue m shelf old new held has.stored (leads_behind held base old new.past has.leads has.safe.safe stays_ahead) (leads_long held base new.files has.leads stays_long) others call.fewer

  -- whatever the call answers, what was ahead is ahead still
  pub still_ahead : HasCopied catalogue m shelf new held base
  still_ahead = record { stored = still_listed; leads = has.leads; safe = still_safe_ahead }

  -- and at each moment a crash leaves what is listed
  pub still_holds : Passes (λ a b. Holds m.granularity b held) old.past new.past
  still_holds = copied_moment catalogue m shelf old new.past held base has stays_ahead

  -- and the file is safe once it is written
  module _ (bytes : List ℕ) (is : BecomesFile m.granularity base at bytes f) (wrote : WritesFile (file_of (shelf_of base) f.entry) at bytes old.files new) (seen : MayLeave old.past old.files) where
    long_file : (o : Option ℕ) → at ≡ o → HasFile new.files (file_of (shelf_of base) f.entry) (λ b. f.entry.len ≤ length b)
    long_file None none = let start = ap start_of none in record { bytes = bytes; file = wrote.made none; holds = omega (arith, is.len, start) }
    long_file (Some len) some =
        let on = goes_on m.granularity base at f valid placed len some in
        let P : Filed → Type 0 = λ h. HasFile old.files (file_of (shelf_of base) h.entry) (λ b. h.entry.len ≤ length b) in
        let was = subst (λ (n : Name). HasFile old.files n (λ b. on.file.entry.len ≤ length b)) on.name (All-contains P base.files on.file has.safe.safe.long on.within) in
        let start = ap start_of some in
        record { bytes = take len was.bytes ++ bytes; file = wrote.grown len was.bytes some was.file; holds = omega (arith, is.len, start, on.long, was.holds, length-append (take len was.bytes) bytes, length-take len was.bytes) }

    low_file : (o : Option ℕ) → at ≡ o → new.opened (file_of (shelf_of base) f.entry) ≤ f.entry.len
    low_file None none = omega (arith, wrote.closed none)
    low_file (Some len) some =
        let on = goes_on m.granularity base at f valid placed len some in
        let start = ap start_of some in
        let was : old.opened (file_of (shelf_of base) f.entry) ≤ on.file.entry.len = subst (λ (n : Name). old.opened n ≤ on.file.entry.len) on.name (All-contains (λ (h : Filed). old.opened (file_of (shelf_of base) h.entry) ≤ h.entry.len) base.files on.file has.safe.safe.unopened on.within) in
        omega (arith, was, on.long, start, is.len, call.fewer (file_of (shelf_of base) f.entry))

    just_file : (stands : IsTrue base.stands) (o : Option ℕ) → at ≡ o → new.files (file_of (shelf_of base) f.entry) ≡ Some (bytes_of f)
    just_file stands None none =
        let whole : bytes_of f ≡ bytes = (is.own stands).are ∙ ap (λ (o : Option Filed). listed_bytes o ++ bytes) (unlisted m.granularity base at f valid placed (file_at (filed_at f) base.files) (sym placed.place ∙ none)) in
        wrote.made none ∙ ap (λ (l : List ℕ). Some l) (sym whole)
    just_file stands (Some len) some =
        let on = goes_on m.granularity base at f valid placed len some in
        let h : Filed = on.file in
        let filed : IsFiled m.granularity base.rows h = All-contains (IsFiled m.granularity base.rows) base.files h (valid.filed.filed stands) on.within in
        let began : Begins (bytes_of h) (old.files (file_of (shelf_of base) f.entry)) = subst (λ (n : Name). Begins (bytes_of h) (old.files n)) on.name (All-contains (IsIn (shelf_of base) old.files) base.files h (has.safe.safe.left old.files seen stands) on.within) in
        let front = front_file old.files (file_of (shelf_of base) f.entry) (bytes_of h) began in
        let long : length (bytes_of h) ≡ len = sym filed.len ∙ on.long in
        let listed : take len front.bytes ≡ bytes_of h = ap (λ (n : ℕ). take n front.bytes) (sym long) ∙ front.holds.1 in
        let whole : bytes_of f ≡ take len front.bytes ++ bytes = (is.own stands).are ∙ ap (λ (o : Option Filed). listed_bytes o ++ bytes) on.there ∙ ap (λ (l : List ℕ). l ++ bytes) (sym listed) in
        wrote.grown len front.bytes some front.file ∙ ap (λ (l : List ℕ). Some l) (sym whole)

    safe_file : AreSafe (having base (f ∷ [])) new
    safe_file = record {
      long = All-cons (λ (x : Filed). HasFile new.files (file_of (shelf_of base) x.entry) (λ b. x.entry.len ≤ length b)) f [] (long_file at refl) (All-nil (λ (x : Filed). HasFile new.files (file_of (shelf_of base) x.entry) (λ b. x.entry.len ≤ length b)));
      unopened = All-cons (λ (x : Filed). new.opened (file_of (shelf_of base) x.entry) ≤ x.entry.len) f [] (low_file at refl) (All-nil (λ (x : Filed). new.opened (file_of (shelf_of base) x.entry) ≤ x.entry.len));
      left = λ image left stands. All-cons (IsIn (shelf_of base) image) f [] (whole_in (shelf_of base) image f (wrote.durable image left ∙ just_file stands at refl)) (All-nil (IsIn (shelf_of base) image));
    }

    -- so the move has it ahead too
    pub copied_more : HasCopied catalogue m shelf new held (with_files base (f ∷ []))
    copied_more = record {
      stored = still_listed;
      leads = leads_on held base (with_files base (f ∷ [])) has.leads (leads_more m.granularity base at bytes f valid is);
      safe = record { of_rows = has.safe.of_rows; valid = valid_more m.granularity base at bytes f valid is; safe = safe_both base (f ∷ []) new still_safe_ahead.safe safe_file };
    }

-- One commit that lists other files, and how it ends.

-- WHAT IS LISTED

-- the entries of all files, with those of the pending ones set
pub entries_with : (files fs : List Filed) → all_changed (map entry_of files) (map set_entry (map entry_of fs)) ≡ map entry_of (put_all files fs)
entries_with files [] = refl
entries_with files (f ∷ fs) = ap (λ (es : List Entry). all_changed es (map set_entry (map entry_of fs))) (sym (map-put f files)) ∙ entries_with (put filed_at f files) fs

-- what a move has copied may be listed by its pending entries
pub may_publish : (catalogue : JournalState) (m : ManifestState) (shelf : Shelf) (disk : DiskShown) (held ahead : Held) (move : Moving) → HasCopied catalogue m shelf disk held ahead → IsAhead move held ahead → CanRelist catalogue m shelf disk held ahead (map set_entry move.pending)
may_publish catalogue m shelf disk held ahead move has is =
    can_publish catalogue m shelf disk held ahead (map set_entry move.pending) has
    (ap (λ (es : List Entry). all_changed es (map set_entry move.pending)) has.stored.entries
    ∙ ap (λ (es : List Entry). all_changed (map entry_of held.files) (map set_entry es)) is.pending
    ∙ entries_with held.files is.files
    ∙ ap (λ (h : Held). map entry_of h.files) (sym is.are))

-- entries of partitions may be set
pub sets_follow : (g : Granularity) (pending entries : List Entry) → All (λ (e : Entry). IsPart g e.part) pending → AllCanFollow g entries (map set_entry pending)
sets_follow g [] entries parts = tt
sets_follow g (e ∷ es) entries parts = (All-head (λ (x : Entry). IsPart g x.part) e es parts, sets_follow g es (changed entries (set_entry e)) (All-tail (λ (x : Entry). IsPart g x.part) e es parts))

-- One file is written behind its front.

pub all_names : (name : Name) (opened after : Name → ℕ) → ((n : Name) → n ≢ name → after n ≡ opened n) → after name ≤ opened name → (n : Name) → after n ≤ opened n
all_names name opened after same low n = elim (name_cases n name) [
  | inl here ↦ subst (λ (m : Name). after m ≤ opened m) (sym here) low
  | inr apart ↦ let is = same n apart in omega (arith, is)
]

pub same_opened : (opened after : Name → ℕ) → after ≡ opened → (n : Name) → after n ≤ opened n
same_opened opened after same n = let is : after n ≡ opened n = ap (λ (o : Name → ℕ). o n) same in omega (arith, is)

-- a file that was cut, or wasn't
pub record IsCutTo (name : Name) (len : ℕ) (files later : Files) : Type 0 where
  pub long : HasFile later name (λ b. len ≤ length b)
  pub front : Keeps len (files name) (later name)
  pub elsewhere : (n : Name) → n ≢ name → later n ≡ files n

pub cut_to : (name : Name) (len : ℕ) (files later : Files) → HasFile files name (λ b. len ≤ length b) → (later ≡ files) ⊎ At name (Cut len) files later → IsCutTo name len files later
cut_to name len files later was (inl same) = record {
  long = record { bytes = was.bytes; file = ap (λ (f : Files). f name) same ∙ was.file; holds = was.holds };
  front = (cut_kept name len files later (inl same)).here;
  elsewhere = λ n apart. ap (λ (f : Files). f n) same;
}
cut_to name len files later was (inr cut) = record {
  long = record { bytes = take len was.bytes; file = cut_of len was.bytes (files name) (later name) was.file cut.here; holds = omega (arith, length-take len was.bytes, was.holds) };
  front = (cut_kept name len files later (inr cut)).here;
  elsewhere = cut.elsewhere;
}

torn_long : (name : Name) (len at n : ℕ) (mid later : Files) → HasFile mid name (λ b. len ≤ length b) → At name (Torn at n) mid later → HasFile later name (λ b. len ≤ length b)
torn_long name len at n mid later was step = go (mid name) (later name) refl refl step.here
  where
    go : (old new : Content) → mid name ≡ old → later name ≡ new → Torn at n old new → HasFile later name (λ b. len ≤ length b)
    go None None is becomes torn = let no : ◌≡◌ {A = Content} None (Some was.bytes) = sym is ∙ was.file in absurd (cc (no))
    go None (Some c) is becomes torn = absurd torn
    go (Some b) None is becomes torn = absurd torn
    go (Some b) (Some c) is becomes torn =
        let same : ◌≡◌ {A = Content} (Some b) (Some was.bytes) = sym is ∙ was.file in
        let bytes : b ≡ was.bytes = cc (same) in
        let long = ap length bytes in
        record { bytes = c; file = becomes; holds = omega (arith, long, was.holds, torn.no_shorter) }

written_long : (name : Name) (len : ℕ) (bytes : List ℕ) (mid later : Files) → HasFile mid name (λ b. len ≤ length b) → At name (Overwritten len bytes) mid later → HasFile later name (λ b. len ≤ length b)
written_long name len bytes mid later was step = go (mid name) (later name) refl refl step.here
  where
    go : (old new : Content) → mid name ≡ old → later name ≡ new → Overwritten len bytes old new → HasFile later name (λ b. len ≤ length b)
    go None None is becomes written = let no : ◌≡◌ {A = Content} None (Some was.bytes) = sym is ∙ was.file in absurd (cc (no))
    go None (Some c) is becomes written = absurd written
    go (Some b) None is becomes written = absurd written
    go (Some b) (Some c) is becomes written =
        let same : ◌≡◌ {A = Content} (Some b) (Some was.bytes) = sym is ∙ was.file in
        let bytes_are : b ≡ was.bytes = cc (same) in
        let long = ap length bytes_are in
        record { bytes = c; file = becomes; holds = simp (written, length-append) (omega (arith, long, was.holds, length-take len b)) }

-- WHAT THE CALLS LEAVE

pub settled_leaves : (name : Name) (len : ℕ) (old new : DiskShown) → IsCutTo name len old.files new.files → Passes (At name (Keeps len)) old.past new.past → new.opened ≡ old.opened → LeavesFile name (Some len) old new
settled_leaves name len old new cut passes same = record {
  any_moment = passes;
  front = cut.front;
  long = λ n is. let at : len ≡ n = cc (is) in subst (λ (k : ℕ). HasFile new.files name (λ b. k ≤ length b)) at cut.long;
  elsewhere = cut.elsewhere;
  fewer = same_opened old.opened new.opened same;
}

-- a cut, and then a write behind it, whatever that answers
pub appended_leaves : (name : Name) (len : ℕ) (old now new : DiskShown) → IsCutTo name len old.files now.files → Keeps len (now.files name) (new.files name) → HasFile new.files name (λ b. len ≤ length b) → ((n : Name) → n ≢ name → new.files n ≡ now.files n) → Passes (At name (Keeps len)) old.past now.past → Passes (At name (Keeps len)) now.past new.past → now.opened ≡ old.opened → new.opened ≡ now.opened
    → LeavesFile name (Some len) old new
appended_leaves name len old now new cut front long others first second same same₂ = record {
  any_moment = keeps_more name len old.past now.past new.past first second;
  front = λ bytes some low begins. front bytes some low (cut.front bytes some low begins);
  long = λ n is. let at : len ≡ n = cc (is) in subst (λ (k : ℕ). HasFile new.files name (λ b. k ≤ length b)) at long;
  elsewhere = λ n apart. others n apart ∙ cut.elsewhere n apart;
  fewer = same_opened old.opened new.opened (same₂ ∙ same);
}

pub torn_leaves : (name : Name) (len n : ℕ) (old now new : DiskShown) → IsCutTo name len old.files now.files → At name (Torn len n) now.files new.files → Passes (At name (Keeps len)) old.past now.past → Passes (At name (Keeps len)) now.past new.past → now.opened ≡ old.opened → new.opened ≡ now.opened
    → LeavesFile name (Some len) old new
torn_leaves name len n old now new cut torn first second same same₂ =
    appended_leaves name len old now new cut (torn_keeps len n (now.files name) (new.files name) torn.here) (torn_long name len len n now.files new.files cut.long torn) torn.elsewhere first second same same₂

pub written_leaves : (name : Name) (len : ℕ) (bytes : List ℕ) (old now new : DiskShown) → IsCutTo name len old.files now.files → At name (Overwritten len bytes) now.files new.files → Passes (At name (Keeps len)) old.past now.past → Passes (At name (Keeps len)) now.past new.past → now.opened ≡ old.opened → new.opened ≡ now.opened
    → LeavesFile name (Some len) old new
written_leaves name len bytes old now new cut written first second same same₂ =
    appended_leaves name len old now new cut (written_keeps len bytes (now.files name) (new.files name) written.here) (written_long name len bytes now.files new.files cut.long written) written.elsewhere first second same same₂

pub written_grows : (name : Name) (len : ℕ) (bytes : List ℕ) (files mid : Files) (new : DiskShown) → HasFile files name (λ b. len ≤ length b) → At name (Cut len) files mid → At name (Overwritten len bytes) mid new.files → Only new.past name (new.files name) → WritesFile name (Some len) bytes files new
written_grows name len bytes files mid new was cut written durable = record {
  grown = λ n b at file.
      let one : len ≡ n = cc (at) in
      let same : ◌≡◌ {A = Content} (Some was.bytes) (Some b) = sym was.file ∙ file in
      let bytes_are : was.bytes ≡ b = cc (same) in
      let long = ap length bytes_are in
      subst (λ (k : ℕ). new.files name ≡ Some (take k b ++ bytes)) one (appended len bytes b (files name) (mid name) (new.files name) file (omega (arith, long, was.holds)) cut.here written.here);
  made = λ none. absurd (cc (none));
  closed = λ none. absurd (cc (none));
  durable = durable;
}

-- and of a file that is made anew
pub made_leaves : (name : Name) (old new : DiskShown) → At name (Keeps 0) old.files new.files → Passes (At name (Keeps 0)) old.past new.past → new.opened name ≤ old.opened name → ((n : Name) → n ≢ name → new.opened n ≡ old.opened n) → LeavesFile name None old new
made_leaves name old new kept passes low same = record {
  any_moment = passes;
  front = kept.here;
  long = λ n is. absurd (cc (is));
  elsewhere = kept.elsewhere;
  fewer = all_names name old.opened new.opened same low;
}

pub made_makes : (name : Name) (bytes : List ℕ) (files : Files) (new : DiskShown) → new.files name ≡ Some bytes → new.opened name ≤ 0 → Only new.past name (new.files name) → WritesFile name None bytes files new
made_makes name bytes files new made closed durable = record { grown = λ n b at file. absurd (cc (at)); made = λ none. made; closed = λ none. closed; durable = durable }

-- the place where bytes go on
pub there_long : (files : Files) (name : Name) (opened : Name → ℕ) (len : ℕ) → HasFile files name (λ b. (opened name ≤ len) × (len ≤ length b)) → HasFile files name (λ b. len ≤ length b)
there_long files name opened len was = record { bytes = was.bytes; file = was.file; holds = was.holds.1 }
