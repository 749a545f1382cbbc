-- What is held and listed stays: while files change behind it, while calls only read, and as an image tells it.
use Rattle.std.proofs.Common.{◌≡◌, ℕ, List, ap, ◌≤◌, arith, refl, sym, ◌∙◌, subst, ◌≢◌, inl, inr, length, [], Some, map, get_or, ◌⊎◌, ◌∷◌, slice_get, ◌+◌, take, drop, None, Option, zero, suc, ◌++◌, append-nil, append_assoc, Bool, true, false, max, ◌*◌}
use Rattle.disk_model.specs.Files.{Name, Files, Content, At, HasFile, Cut, Overwritten, Rose}
use Rattle.disk_model.specs.Past.{Past, Passes, MayLeave}
use Rattle.gate_journal.specs.Generations.{IsOwn, AtOwn}
use Rattle.partition_names.specs.declared.granularity.Granularity.{Granularity}
use Rattle.durable_write.specs.Held.{Held, Filed, file_of, entry_of, IsFiled, IsListed, AreIn, bytes_of, Shelf, shelf_of, AreFiled, name_of, Listing, KeepsListed, filed_at, IsIn, listing_of, with_rows, ListsStill}
use Rattle.store_manifest.specs.declared.entry.Entry.{Entry}
use Rattle.pv_catalog.specs.declared.row.Row.{Row}
use Rattle.store_manifest.specs.Manifest.{manifest_name, ManifestState}
use Rattle.gate_journal.specs.Journal.{JournalState}
use Rattle.durable_write.specs.Stored.{AreSafe, AreLong, CatalogueStored, TierStored, AreHeld, KeysDiffer, AreUnopened, Holds, CatalogueUnsure, TierUnsure, IsStored, HoldsEither}
use Rattle.gate_journal.proofs.Owning.{own_store}
use Rattle.disk_model.proofs.Passing.{passes_weaker, passes_none, passes_then}
use Rattle.store_files.specs.Fronts.{Keeps, Begins}
use Rattle.pv_catalog.specs.Rows.{IsCatalogue, KeepsRows}
use Rattle.durable_write.specs.Writing.{Behind, LeavesListed, IsSafe, IsStoredAs, set_of}
use Rattle.pv_catalog.specs.Catalogue.{catalogue_name}
use Rattle.std.proofs.lemmas.List.{take_all, length-append, take-take, take-append-le, length-take, drop_all}
use Rattle.store_manifest.specs.Batches.{Configured, Folds, batch_of, members_of}
use Rattle.partition_names.specs.Path.{path_of}
use Rattle.std.proofs.lemmas.List.Elements.{All-contains, All-map, All-head, All-tail}
use Rattle.store_files.proofs.Stays.{keeps_shorter}
use Rattle.store_manifest.specs.Entries.{Place}
use Rattle.std.specs.Prelude.{All, Contains, slice_set, IsTrue}
use Rattle.gate_journal.specs.Kept.{Says}
use Rattle.gate_journal.specs.DiskShown.{DiskShown}
use Rattle.durable_write.specs.Three.{Anything}
use Rattle.gate_journal.proofs.Keeping.{kept_stays, unsure_stays, kept_left, says_stays, one_value}
use Rattle.std.proofs.lemmas.Bool.{cases_eq, cases_lt}
use Rattle.std.proofs.lemmas.Slice.Eq.{bytes_eq-Decides}
use Rattle.std.specs.Str.{bytes_eq}
use Rattle.partition_names.specs.declared.part.Part.{Part}
use Rattle.partition_names.proofs.PartLemmas.{one_name, one_part, within}
use Rattle.partition_names.proofs.PathLemmas.{one_path}
use Rattle.durable_write.specs.Flush.{with_files, file_at}
use Rattle.durable_write.proofs.Places.{all_put_all, found}
use Rattle.store_manifest.proofs.Committing.{folds_says}
use Rattle.gate_journal.proofs.FileNames.{own_apart}
use Rattle.pb_lines.specs.File.{IsFile}
use Rattle.pb_lines.proofs.FileMeaning.{one_file}
use Rattle.pv_catalog.proofs.Meaning.{one_meaning}
use Rattle.store_manifest.proofs.Meaning.{one_fold}
use Rattle.durable_write.specs.declared.file_write.FileWrite.{FileWrite}
pub use Rattle.disk_model.proofs.Each.{same_then}
pub use Rattle.durable_write.specs.Revival.{having}

-- Bytes behind a file's listed ones.

-- the file is cut
pub cut_of : (len : ℕ) (b : List ℕ) (old new : Content) → old ≡ Some b → Cut len old new → new ≡ Some (take len b)
cut_of len b None new is cut = absurd (cc (is))
cut_of len b (Some c) None is cut = absurd cut
cut_of len b (Some c) (Some d) is cut = let same : c ≡ b = cc (is) in ap (λ (l : List ℕ). Some l) (cut ∙ ap (λ (l : List ℕ). take len l) same)

-- it ends where bytes are written
pub written_of : (at : ℕ) (bytes b : List ℕ) (old new : Content) → old ≡ Some b → length b ≡ at → Overwritten at bytes old new → new ≡ Some (b ++ bytes)
written_of at bytes b None new is end written = absurd (cc (is))
written_of at bytes b (Some c) None is end written = absurd written
written_of at bytes b (Some c) (Some d) is end written =
    let same : c ≡ b = cc (is) in
    let long = ap (λ (l : List ℕ). length l) same in
    let front : take at c ≡ b = take_all at c (omega (arith, long, end)) ∙ same in
    let rest : drop (at + length bytes) c ≡ [] = drop_all (at + length bytes) c (omega (arith, long, end)) in
    ap (λ (l : List ℕ). Some l) (written ∙ ap (λ (l : List ℕ). (l ++ bytes) ++ drop (at + length bytes) c) front ∙ ap (λ (l : List ℕ). (b ++ bytes) ++ l) rest ∙ append-nil (b ++ bytes))

-- a file is cut to its listed length, and gets bytes behind that
pub appended : (len : ℕ) (bytes b : List ℕ) (old mid new : Content) → old ≡ Some b → len ≤ length b → Cut len old mid → Overwritten len bytes mid new → new ≡ Some (take len b ++ bytes)
appended len bytes b old mid new is enough cut written = written_of len bytes (take len b) mid new (cut_of len b old mid is cut) (omega (arith, length-take len b, enough)) written

-- THE FRONT

cut_keeps : (len : ℕ) (old new : Content) → Cut len old new → Keeps len old new
cut_keeps len None new cut front some le begins = absurd begins
cut_keeps len (Some b) None cut front some le begins = absurd cut
cut_keeps len (Some b) (Some c) cut front some le begins = ap (λ (l : List ℕ). take (length front) l) cut ∙ take-take (length front) len b le ∙ begins

pub written_keeps : (at : ℕ) (bytes : List ℕ) (old new : Content) → Overwritten at bytes old new → Keeps at old new
written_keeps at bytes None new written front some le begins = absurd begins
written_keeps at bytes (Some b) None written front some le begins = absurd written
written_keeps at bytes (Some b) (Some c) written front some le begins =
    let long : length front ≤ length (take at b) = omega (arith, ap length begins, length-take (length front) b, length-take at b, le) in
    ap (λ (l : List ℕ). take (length front) l) (written ∙ append_assoc (take at b) bytes (drop (at + length bytes) b)) ∙ take-append-le (length front) (take at b) (bytes ++ drop (at + length bytes) b) long ∙ take-take (length front) at b le ∙ begins

-- the bytes before the cut stay, whether it was made or not
pub cut_kept : (name : Name) (len : ℕ) (old new : Files) → (new ≡ old) ⊎ At name (Cut len) old new → At name (Keeps len) old new
cut_kept name len old new (inl same) = record {
  here = subst (Keeps len (old name)) (sym (ap (λ (f : Files). f name) same)) (λ front some le begins. begins);
  elsewhere = λ n apart. ap (λ (f : Files). f n) same;
}
cut_kept name len old new (inr cut) = record { here = cut_keeps len (old name) (new name) cut.here; elsewhere = cut.elsewhere }

-- and what is written behind them leaves them too
pub kept_on : (name : Name) (len : ℕ) (old mid new : Files) → At name (Cut len) old mid → At name (Keeps len) mid new → At name (Keeps len) old new
kept_on name len old mid new cut keeps = record {
  here = λ front some le begins. keeps.here front some le (cut_keeps len (old name) (mid name) cut.here front some le begins);
  elsewhere = λ n apart. keeps.elsewhere n apart ∙ cut.elsewhere n apart;
}

-- The catalogue stays while something else changes, and so does a store.

-- the files of the journal have what they had, and were opened no further
pub record Untouched (R : Files → Files → Type 0) (journal : JournalState) (files later : Files) (opened after : Name → ℕ) : Type 0 where
  pub step : (a c : Files) → R a c → (n : Name) → IsOwn journal.name n → c n ≡ a n
  pub same : (n : Name) → IsOwn journal.name n → later n ≡ files n
  pub fewer : (n : Name) → IsOwn journal.name n → after n ≤ opened n

module _ (R : Files → Files → Type 0) (journal : JournalState) (old new : DiskShown) (passes : Passes R old.past new.past) (beside : Untouched R journal old.files new.files old.opened new.opened) where
  pub catalogue_stays : (rows : List Row) → CatalogueStored journal old rows → CatalogueStored journal new rows
  catalogue_stays rows stored = record {
    named = stored.named;
    sound = stored.sound;
    kept = kept_stays IsCatalogue journal old new R passes beside.step beside.same beside.fewer rows stored.kept;
  }

  pub catalogue_unsure_stays : (one other : List Row) → CatalogueUnsure journal old one other → CatalogueUnsure journal new one other
  catalogue_unsure_stays one other d = record {
    named = d.named;
    unsound = d.unsound;
    unsure = unsure_stays IsCatalogue journal old new R passes beside.step beside.same beside.fewer one other d.unsure;
  }

  pub tier_stays : (g : Granularity) (held : Held) → TierStored g journal old held → AreSafe held new → TierStored g journal new held
  tier_stays g held tier safe = record {
    named = tier.named;
    sound = tier.sound;
    kept = kept_stays (Configured g) journal old new R passes beside.step beside.same beside.fewer (map entry_of held.files) tier.kept;
    valid = tier.valid;
    safe = safe;
  }

  pub tier_unsure_stays : (g : Granularity) (one other : Held) → TierUnsure g journal old one other → AreSafe one new → AreSafe other new → TierUnsure g journal new one other
  tier_unsure_stays g one other d safe safe_after = record {
    named = d.named;
    unsound = d.unsound;
    unsure = unsure_stays (Configured g) journal old new R passes beside.step beside.same beside.fewer (map entry_of one.files) (map entry_of other.files) d.unsure;
    valid = d.valid;
    valid_after = d.valid_after;
    safe = safe;
    safe_after = safe_after;
  }

-- Files stay those of their rows while rows are added or change their states.

pub filed_grows : (g : Granularity) (rows later : List Row) (f : Filed) → KeepsRows rows later → IsFiled g rows f → IsFiled g later f
filed_grows g rows later f keeps filed =
    let new = keeps f.entry.series filed.row filed.stands in
    record {
      row = new.0;
      info = filed.info;
      first = filed.first;
      others = filed.others;
      stands = new.1;
      part = filed.part;
      file = filed.file;
      type = filed.type ∙ sym (ap (λ a. a.ty) new.2.about);
      name = filed.name ∙ sym new.2.name;
      some = filed.some;
      inside = filed.inside;
      len = filed.len;
      head_len = filed.head_len;
      from = filed.from;
      to = filed.to;
      count = filed.count;
    }

pub listed_grows : (g : Granularity) (rows later : List Row) (f : Filed) → KeepsRows rows later → IsListed g rows f → IsListed g later f
listed_grows g rows later f keeps listed =
    let new = keeps f.entry.series listed.row listed.stands in record { row = new.0; stands = new.1; part = listed.part }

pub file_grows : (g : Granularity) (store : ℕ) (rows later : List Row) (f : Filed) → KeepsRows rows later → IsListed g rows f → file_of (store, later) f.entry ≡ file_of (store, rows) f.entry
file_grows g store rows later f keeps listed =
    let new = keeps f.entry.series listed.row listed.stands in
    let was : name_of (slice_get rows f.entry.series) ≡ listed.row.name = ap name_of listed.stands in
    let now : name_of (slice_get later f.entry.series) ≡ new.0.name = ap name_of new.1 in
    let name : name_of (slice_get later f.entry.series) ≡ name_of (slice_get rows f.entry.series) = now ∙ new.2.name ∙ sym was in
    ap (λ (n : List ℕ). let file : Name = (store, path_of n f.entry.part.name) in file) name

pub filed_still : (g : Granularity) (held : Held) (later : List Row) → KeepsRows held.rows later → AreFiled g held → AreFiled g (with_rows held later)
filed_still g held later keeps filed = record {
  numbered = filed.numbered;
  listed = λ k d lt. listed_grows g held.rows later (get_or held.files k d) keeps (filed.listed k d lt);
  filed = λ stands k d lt. filed_grows g held.rows later (get_or held.files k d) keeps (filed.filed stands k d lt);
}

pub held_grows : (g : Granularity) (held : Held) (later : List Row) → KeepsRows held.rows later → KeysDiffer later → AreHeld g held → AreHeld g (with_rows held later)
held_grows g held later keeps keys valid = record { keys = keys; filed = filed_still g held later keeps valid.filed; apart = valid.apart }

pub in_grows : (g : Granularity) (held : Held) (later : List Row) (image : Files) → KeepsRows held.rows later → AreFiled g held → AreIn held image → AreIn (with_rows held later) image
in_grows g held later image keeps filed all stands k d lt =
    let f : Filed = get_or held.files k d in
    subst (λ (n : Name). Begins (bytes_of f) (image n)) (sym (file_grows g held.store held.rows later f keeps (filed.listed k d lt))) (all stands k d lt)

pub safe_grows : (g : Granularity) (held : Held) (later : List Row) (disk : DiskShown) → KeepsRows held.rows later → AreFiled g held → AreSafe held disk → AreSafe (with_rows held later) disk
safe_grows g held later disk keeps filed safe = record {
  long = λ k d lt.
      let f : Filed = get_or held.files k d in
      subst (λ (n : Name). HasFile disk.files n (λ b. f.entry.len ≤ length b)) (sym (file_grows g held.store held.rows later f keeps (filed.listed k d lt))) (safe.long k d lt);
  unopened = λ k d lt.
      let f : Filed = get_or held.files k d in
      subst (λ (n : Name). disk.opened n ≤ f.entry.len) (sym (file_grows g held.store held.rows later f keeps (filed.listed k d lt))) (safe.unopened k d lt);
  left = λ image left. in_grows g held later image keeps filed (safe.left image left);
}

-- Listed bytes stay, and listed files are listed still.

-- FROM IMAGE TO IMAGE

-- where the listed files are as they were
pub keeps_where : (l : Listing) (a c : Files) → ((e : Entry) → c (file_of l.0 e) ≡ a (file_of l.0 e)) → KeepsListed l a c
keeps_where l a c same k d lt =
    let e : Entry = get_or l.1 k d in
    subst (Keeps e.len (a (file_of l.0 e))) (sym (same e)) (λ front some le begins. begins)

pub keeps_same : (l : Listing) (a c : Files) → c ≡ a → KeepsListed l a c
keeps_same l a c is = keeps_where l a c (λ e. ap (λ (f : Files). f (file_of l.0 e)) is)

-- no listed file is in another store
pub keeps_outside : (l : Listing) (store : ℕ) (a c : Files) → l.0.0 ≢ store → ((n : Name) → n.0 ≢ store → c n ≡ a n) → KeepsListed l a c
keeps_outside l store a c other same = keeps_where l a c (λ e. same (file_of l.0 e) other)

pub keeps_on : (l : Listing) (a b c : Files) → KeepsListed l a b → KeepsListed l b c → KeepsListed l a c
keeps_on l a b c one two k d lt front some le begins = two k d lt front some le (one k d lt front some le begins)

-- what keeps the files that are listed later keeps those that were listed before
pub keeps_earlier : (l later : Listing) (a c : Files) → ListsStill l later → KeepsListed later a c → KeepsListed l a c
keeps_earlier l later a c still keeps k d lt =
    let e : Entry = get_or l.1 k d in
    let to = still k d lt in
    let kept = All-contains (λ (x : Entry). Keeps x.len (a (file_of later.0 x)) (c (file_of later.0 x))) later.1 to.entry keeps to.within in
    keeps_shorter e.len to.entry.len (a (file_of l.0 e)) (c (file_of l.0 e)) to.longer (subst (λ (n : Name). Keeps to.entry.len (a n) (c n)) to.named kept)

-- AT EACH MOMENT

pub leaves_none : (l : Listing) (files : Files) (past : Past) → LeavesListed l files files past past
leaves_none l files past = record { now = keeps_same l files files refl; any_moment = passes_none (KeepsListed l) past (λ a left. keeps_same l a a refl) }

-- calls that change one journal beside the store
pub leaves_own : (l : Listing) (name : Name) (R : Files → Files → Type 0) (files later : Files) (old new : Past) → name.0 ≢ l.0.0 → ((n : Name) → (IsOwn name n → ⊥) → later n ≡ files n) → Passes (AtOwn name R) old new → LeavesListed l files later old new
leaves_own l name R files later old new other elsewhere passes =
    let out : (e : Entry) → IsOwn name (file_of l.0 e) → ⊥ = λ e own. other (sym (own_store name (file_of l.0 e) own)) in
    record {
      now = keeps_where l files later (λ e. elsewhere (file_of l.0 e) (out e));
      any_moment = passes_weaker (AtOwn name R) (KeepsListed l) old new passes (λ a c left step. keeps_where l a c (λ e. step.elsewhere (file_of l.0 e) (out e)));
    }

pub leaves_on : (l : Listing) (files between later : Files) (old mid new : Past) → LeavesListed l files between old mid → LeavesListed l between later mid new → LeavesListed l files later old new
leaves_on l files between later old mid new one two = record {
  now = keeps_on l files between later one.now two.now;
  any_moment = passes_then (KeepsListed l) (KeepsListed l) old mid new one.any_moment two.any_moment (λ a b c was step left next. keeps_on l a b c step next);
}

pub leaves_earlier : (l next : Listing) (files later : Files) (old new : Past) → ListsStill l next → LeavesListed next files later old new → LeavesListed l files later old new
leaves_earlier l next files later old new still leaves = record {
  now = keeps_earlier l next files later still leaves.now;
  any_moment = passes_weaker (KeepsListed next) (KeepsListed l) old new leaves.any_moment (λ a c left step. keeps_earlier l next a c still step);
}

-- Names are the same or not, and files of different places have different names.

pub name_cases : (a b : Name) → (a ≡ b) ⊎ (a ≢ b)
name_cases a b = elim (cases_eq a.0 b.0) [
  | inl store ↦ paths store (bytes_eq a.1 b.1) refl
  | inr apart ↦ inr (λ is. apart (ap (λ (n : Name). n.0) is))
]
  where
    paths : a.0 ≡ b.0 → (t : Bool) → bytes_eq a.1 b.1 ≡ t → (a ≡ b) ⊎ (a ≢ b)
    paths store true same = let path : a.1 ≡ b.1 = (bytes_eq-Decides a.1 b.1).0 same in inl (λ i. (store i, path i))
    paths store false other = inr (λ is.
        let same : bytes_eq a.1 b.1 ≡ true = (bytes_eq-Decides a.1 b.1).1 (ap (λ (n : Name). n.1) is) in
        absurd (cc (same, other)))

-- no partition's file is in another store
pub outside : (rows : Shelf) (e : Entry) (n : Name) → n.0 ≢ rows.0 → n ≢ file_of rows e
outside rows e n other is = other (ap (λ (m : Name). m.0) is)

-- a file of a row is listed of it
pub filed_listed : (g : Granularity) (rows : List Row) (f : Filed) → IsFiled g rows f → IsListed g rows f
filed_listed g rows f filed = record { row = filed.row; stands = filed.stands; part = filed.part }

-- files of rows that have one name are of one place
pub same_place : (g : Granularity) (store : ℕ) (rows : List Row) (f h : Filed) → KeysDiffer rows → IsListed g rows f → IsListed g rows h → file_of (store, rows) f.entry ≡ file_of (store, rows) h.entry → filed_at f ≡ filed_at h
same_place g store rows f h keys f_is h_is same =
    let paths : path_of f_is.row.name f.entry.part.name ≡ path_of h_is.row.name h.entry.part.name =
    sym (ap (λ (r : Option Row). path_of (name_of r) f.entry.part.name) f_is.stands)
    ∙ ap (λ (n : Name). n.1) same
    ∙ ap (λ (r : Option Row). path_of (name_of r) h.entry.part.name) h_is.stands in
    let cut = one_path f_is.row.name h_is.row.name f.entry.part.name h.entry.part.name paths in
    let series : f.entry.series ≡ h.entry.series = keys f.entry.series h.entry.series f_is.row h_is.row f_is.stands h_is.stands cut.0 in
    let part : f.entry.part ≡ h.entry.part = one_name g f.entry.part h.entry.part f_is.part h_is.part cut.1 in
    λ i. (series i, (part i).start)

-- and files of one place have one name
pub same_file : (g : Granularity) (store : ℕ) (rows : List Row) (f h : Filed) → IsListed g rows f → IsListed g rows h → filed_at f ≡ filed_at h → file_of (store, rows) f.entry ≡ file_of (store, rows) h.entry
same_file g store rows f h f_is h_is same =
    let series : f.entry.series ≡ h.entry.series = ap (λ (p : Place). p.0) same in
    let start : f.entry.part.start ≡ h.entry.part.start = ap (λ (p : Place). p.1) same in
    let mine = within g f.entry.part f_is.part in
    let theirs = within g h.entry.part h_is.part in
    let part : f.entry.part ≡ h.entry.part =
    one_part g f.entry.part h.entry.part f.entry.part.start f_is.part h_is.part (omega arith, mine.1) (omega arith, omega (arith, theirs.1, start)) in
    λ i. file_at (series i) (part i)
  where
    file_at : ℕ → Part → Name
    file_at series part = (store, path_of (name_of (slice_get rows series)) part.name)

-- What is held stays while files change behind it.

-- a file has its header's line
some_bytes : (f : Filed) → 1 ≤ length (bytes_of f)
some_bytes f = omega (arith, length-append {A = ℕ})

-- what is listed of a name's file isn't longer than this
abbrev pub AllowTo : Shelf → ℕ → Name → List Filed → Type 0
AllowTo rows n name files = All (λ (f : Filed). file_of rows f.entry ≡ name → f.entry.len ≤ n) files

in_keeps : (rows : Shelf) (n : Name) (at : ℕ) (b c : Files) (f : Filed) → (file_of rows f.entry ≡ n → length (bytes_of f) ≤ at) → At n (Keeps at) b c → IsIn rows b f → IsIn rows c f
in_keeps rows n at b c f allow step was = elim (name_cases (file_of rows f.entry) n) [
  | inl same ↦
      let here : Begins (bytes_of f) (b n) = subst (λ (m : Name). Begins (bytes_of f) (b m)) same was in
      subst (λ (m : Name). Begins (bytes_of f) (c m)) (sym same) (step.here (bytes_of f) (some_bytes f) (allow same) here)
  | inr apart ↦ subst (Begins (bytes_of f)) (sym (step.elsewhere (file_of rows f.entry) apart)) was
]

pub all_keeps : (g : Granularity) (held : Held) (n : Name) (at : ℕ) (b c : Files) → AreFiled g held → AllowTo (shelf_of held) at n held.files → At n (Keeps at) b c → AreIn held b → AreIn held c
all_keeps g held n at b c filed allow step was stands k d lt =
    let is = filed.filed stands k d lt in
    in_keeps (shelf_of held) n at b c (get_or held.files k d) (λ same. let le = allow k d lt same in omega (arith, is.len, le)) step (was stands k d lt)

-- and so do the listed bytes, whatever they are
keeps_allowed : (held : Held) (n : Name) (at : ℕ) (a c : Files) → AllowTo (shelf_of held) at n held.files → At n (Keeps at) a c → KeepsListed (listing_of held) a c
keeps_allowed held n at a c allow step =
    All-map (λ (e : Entry). Keeps e.len (a (file_of (shelf_of held) e)) (c (file_of (shelf_of held) e))) entry_of held.files (λ k d lt.
    let e : Entry = (get_or held.files k d).entry in
    let name : Name = file_of (shelf_of held) e in
    elim (name_cases name n) [
      | inl same ↦ subst (λ (m : Name). Keeps e.len (a m) (c m)) (sym same) (keeps_shorter e.len at (a n) (c n) (allow k d lt same) step.here)
      | inr apart ↦ subst (Keeps e.len (a name)) (sym (step.elsewhere name apart)) (λ front some le begins. begins)
    ])

-- the files of other names than this
abbrev pub AreApart : Shelf → Name → List Filed → Type 0
AreApart rows n files = All (λ (f : Filed). file_of rows f.entry ≢ n) files

-- no listed file is a journal's of another store, so they stay while that is changed
pub own_apart_file : (rows : Shelf) (name : Name) (e : Entry) → name.0 ≢ rows.0 → IsOwn name (file_of rows e) → ⊥
own_apart_file rows name e other own = other (sym (own_store name (file_of rows e) own))

pub own_stay : (held : Held) (name : Name) (R : Files → Files → Type 0) (b c : Files) → name.0 ≢ held.store → AtOwn name R b c → AreIn held b → AreIn held c
own_stay held name R b c other step was stands k d lt =
    let f : Filed = get_or held.files k d in
    subst (Begins (bytes_of f)) (sym (step.elsewhere (file_of (shelf_of held) f.entry) (own_apart_file (shelf_of held) name f.entry other))) (was stands k d lt)

pub own_long : (held : Held) (name : Name) (files later : Files) → name.0 ≢ held.store → ((n : Name) → (IsOwn name n → ⊥) → later n ≡ files n) → AreLong held files → AreLong held later
own_long held name files later other same long k d lt =
    let was = long k d lt in
    let e : Entry = (get_or held.files k d).entry in
    record { bytes = was.bytes; file = same (file_of (shelf_of held) e) (own_apart_file (shelf_of held) name e other) ∙ was.file; holds = was.holds }

-- a file that has just these bytes has the front
pub whole_in : (rows : Shelf) (image : Files) (f : Filed) → image (file_of rows f.entry) ≡ Some (bytes_of f) → IsIn rows image f
whole_in rows image f is = subst (Begins (bytes_of f)) (sym is) (take_all (length (bytes_of f)) (bytes_of f) (omega arith))

-- none is opened further
pub still_unopened : (held : Held) (opened after : Name → ℕ) → ((n : Name) → after n ≤ opened n) → AreUnopened held opened → AreUnopened held after
still_unopened held opened after fewer was k d lt = let le = was k d lt in omega (arith, le, fewer (file_of (shelf_of held) (get_or held.files k d).entry))

-- calls that keep a relation between images keep files safe where it keeps them there
pub safe_stays : (held : Held) (R : Files → Files → Type 0) (old new : DiskShown) → AreSafe held old → Passes R old.past new.past
    → ((a c : Files) → R a c → AreIn held a → AreIn held c) → AreLong held new.files → ((n : Name) → new.opened n ≤ old.opened n) → AreSafe held new
safe_stays held R old new safe passes stays long fewer = record {
  long = long;
  unopened = still_unopened held old.opened new.opened fewer safe.unopened;
  left = λ image left.
      let come = passes.each new.past.now image passes.later (omega arith) left in stays come.0 image come.2 (safe.left come.0 come.1);
}

pub still_safe : (g : Granularity) (rows : Shelf) (old new : DiskShown) (held : Held) → IsSafe g rows old held → Passes (Behind held) old.past new.past → AreLong held new.files → ((n : Name) → new.opened n ≤ old.opened n) → IsSafe g rows new held
still_safe g rows old new held safe passes long fewer = record {
  of_rows = safe.of_rows;
  valid = safe.valid;
  safe = safe_stays held (Behind held) old new safe.safe passes (λ a c step. step.stays) long fewer;
}

-- files that are safe, and others beside them
pub safe_both : (held : Held) (fs : List Filed) (disk : DiskShown) → AreSafe held disk → AreSafe (having held fs) disk → AreSafe (with_files held fs) disk
safe_both held fs disk one other = record {
  long = all_put_all (λ (f : Filed). HasFile disk.files (file_of (shelf_of held) f.entry) (λ b. f.entry.len ≤ length b)) held.files fs one.long other.long;
  unopened = all_put_all (λ (f : Filed). disk.opened (file_of (shelf_of held) f.entry) ≤ f.entry.len) held.files fs one.unopened other.unopened;
  left = λ image left stands. all_put_all (IsIn (shelf_of held) image) held.files fs (one.left image left stands) (other.left image left stands);
}

-- one file of the store goes on behind what is held of it
pub step_behind : (g : Granularity) (held : Held) (n : Name) (at : ℕ) (a c : Files) → AreFiled g held → n.0 ≡ held.store → AllowTo (shelf_of held) at n held.files → At n (Keeps at) a c → Behind held a c
step_behind g held n at a c filed store allow step = record {
  elsewhere = λ m other. step.elsewhere m (λ is. other (ap (λ (x : Name). x.0) is ∙ store));
  stays = all_keeps g held n at a c filed allow step;
  listed = keeps_allowed held n at a c allow step;
}

pub call_behind : (g : Granularity) (held : Held) (n : Name) (at : ℕ) (old new : Past) → AreFiled g held → n.0 ≡ held.store → AllowTo (shelf_of held) at n held.files → Passes (At n (Keeps at)) old new → Passes (Behind held) old new
call_behind g held n at old new filed store allow passes = passes_weaker _ _ _ _ passes (λ a c was step. step_behind g held n at a c filed store allow step)

pub behind_itself : (held : Held) (a : Files) → Behind held a a
behind_itself held a = record { elsewhere = λ n other. refl; stays = λ h. h; listed = keeps_same (listing_of held) a a refl }

pub behind_none : (held : Held) (past : Past) → Passes (Behind held) past past
behind_none held past = passes_none _ past (λ a was. behind_itself held a)

pub behind_on : (held : Held) (a b c : Files) → Behind held a b → Behind held b c → Behind held a c
behind_on held a b c one two = record {
  elsewhere = λ n other. two.elsewhere n other ∙ one.elsewhere n other;
  stays = λ h. two.stays (one.stays h);
  listed = keeps_on (listing_of held) a b c one.listed two.listed;
}

pub behind_then : (held : Held) (old mid new : Past) → Passes (Behind held) old mid → Passes (Behind held) mid new → Passes (Behind held) old new
behind_then held old mid new first second = passes_then _ _ _ _ _ first second (λ a b c was one now two. behind_on held a b c one two)

-- and then calls that leave all images alone
pub behind_same : (held : Held) (old mid new : Past) → Passes (Behind held) old mid → Passes (λ a b. b ≡ a) mid new → Passes (Behind held) old new
behind_same held old mid new first second = passes_then _ _ _ _ _ first second (λ a b c was one now same. subst (Behind held a) (sym same) one)

-- What an image holds: what crashes leave of a store, what stays, and that it is one thing.

-- a journal's name is of store 0
pub not_in : (store : ℕ) (name journal : Name) → 1 ≤ store → name ≡ journal → journal.0 ≡ 0 → name.0 ≢ store
not_in store name journal numbered is zero_store one = let same : name.0 ≡ journal.0 = ap (λ (n : Name). n.0) is in absurd (omega (arith, numbered, same))

-- and so is each of its files
pub not_own_in : (store : ℕ) (journal n : Name) → 1 ≤ store → journal.0 ≡ 0 → IsOwn journal n → n.0 ≢ store
not_own_in store journal n numbered zero_store own one = let same = own_store journal n own in absurd (omega (arith, numbered, same, zero_store, one))

-- whatever a crash leaves of a store holds what it holds
pub stored_left : (g : Granularity) (catalogue manifest : JournalState) (disk : DiskShown) (held : Held) → IsStored g catalogue manifest disk held → (image : Files) → MayLeave disk.past image → Holds g image held
stored_left g catalogue manifest disk held stored image left = record {
  rows = subst (λ (n : Name). Says IsCatalogue held.rows n image) stored.rows.named (kept_left IsCatalogue catalogue disk held.rows stored.rows.kept image left);
  lists = folds_says g (map entry_of held.files) (manifest_name held.store) image
      (subst (λ (n : Name). Says (Configured g) (map entry_of held.files) n image) stored.tier.named (kept_left (Configured g) manifest disk (map entry_of held.files) stored.tier.kept image left));
  filed = stored.tier.valid.filed;
  files = stored.tier.safe.left image left;
}

pub says_listed : (g : Granularity) (manifest : JournalState) (image : Files) (store : ℕ) (files : List Filed) → manifest.name ≡ manifest_name store → Says (Configured g) (map entry_of files) manifest.name image → Says (Folds g) (map entry_of files) (manifest_name store) image
says_listed g manifest image store files is says = folds_says g (map entry_of files) (manifest_name store) image (subst (λ (n : Name). Says (Configured g) (map entry_of files) n image) is says)

-- Appending behind the listed lengths, and writing what isn't listed, changes nothing that an image holds.
pub holds_behind : (g : Granularity) (held : Held) (a c : Files) → Behind held a c → Holds g a held → Holds g c held
holds_behind g held a c step holds = record {
  rows = says_stays IsCatalogue held.rows catalogue_name a c (λ n own. step.elsewhere n (not_own_in held.store catalogue_name n holds.filed.numbered refl own)) holds.rows;
  lists = says_stays (Folds g) (map entry_of held.files) (manifest_name held.store) a c (λ n own. step.elsewhere n (not_own_in held.store (manifest_name held.store) n holds.filed.numbered refl own)) holds.lists;
  filed = holds.filed;
  files = step.stays holds.files;
}

pub still_stored : (g : Granularity) (catalogue manifest : JournalState) (old new : DiskShown) (held : Held) → IsStored g catalogue manifest old held → Passes (Behind held) old.past new.past
    → AreLong held new.files → ((n : Name) → n.0 ≢ held.store → new.files n ≡ old.files n) → ((n : Name) → new.opened n ≤ old.opened n) → IsStored g catalogue manifest new held
still_stored g catalogue manifest old new held stored passes long same fewer =
    let out : (journal : JournalState) (name : Name) → journal.name ≡ name → name.0 ≡ 0 → Untouched (Behind held) journal old.files new.files old.opened new.opened = λ journal name is zero_store.
    let far = λ (n : Name) (own : IsOwn journal.name n). not_own_in held.store journal.name n stored.tier.valid.filed.numbered (ap (λ (m : Name). m.0) is ∙ zero_store) own in
    record { step = λ a c step n own. step.elsewhere n (far n own); same = λ n own. same n (far n own); fewer = λ n own. fewer n } in
    record {
      rows = catalogue_stays (Behind held) catalogue old new passes (out catalogue catalogue_name stored.rows.named refl) held.rows stored.rows;
      tier = tier_stays (Behind held) manifest old new passes (out manifest (manifest_name held.store) stored.tier.named refl) g held stored.tier (safe_stays held (Behind held) old new stored.tier.safe passes (λ a c step. step.stays) long fewer);
    }

-- Calls that only read, and calls on the files of one journal alone.

-- a call on the files of one journal alone
pub record Alone (name : Name) (old new : DiskShown) : Type 0 where
  pub passes : Passes (AtOwn name Anything) old.past new.past
  pub elsewhere : (n : Name) → (IsOwn name n → ⊥) → new.files n ≡ old.files n
  pub fewer : (n : Name) → new.opened n ≤ old.opened n

pub alone : (name : Name) (R : Files → Files → Type 0) (old new : DiskShown) → Passes (AtOwn name R) old.past new.past → ((n : Name) → (IsOwn name n → ⊥) → new.files n ≡ old.files n) → ((n : Name) → new.opened n ≤ old.opened n) → Alone name old new
alone name R old new passes elsewhere fewer = record {
  passes = passes_weaker (AtOwn name R) (AtOwn name Anything) old.past new.past passes (λ a c was step. record { here = tt; elsewhere = step.elsewhere });
  elsewhere = elsewhere;
  fewer = fewer;
}

-- A store stays as it is while calls only read, also where they open its listed files.

pub safe_read : (held : Held) (old new : DiskShown) → AreSafe held old → Passes (λ a b. b ≡ a) old.past new.past → new.files ≡ old.files → AreUnopened held new.opened → AreSafe held new
safe_read held old new safe passes same unopened = record {
  long = subst (AreLong held) (sym same) safe.long;
  unopened = unopened;
  left = λ image left.
      let come = passes.each new.past.now image passes.later (omega arith) left in subst (AreIn held) (sym come.2) (safe.left come.0 come.1);
}

-- calls that read, and open no journal and no file beyond its listed length
pub record Reads (old new : DiskShown) : Type 0 where
  pub passes : Passes (λ a b. b ≡ a) old.past new.past
  pub same : new.files ≡ old.files
  pub journals : (n : Name) → n.0 ≡ 0 → new.opened n ≤ old.opened n

-- no file is opened
pub unopened_same : (held : Held) (disk : DiskShown) (after : Name → ℕ) → after ≡ disk.opened → AreSafe held disk → AreUnopened held after
unopened_same held disk after same safe = subst (AreUnopened held) (sym same) safe.unopened

module _ (old new : DiskShown) (reads : Reads old new) where
  pub quietly : (journal : JournalState) (name : Name) → journal.name ≡ name → name.0 ≡ 0 → Untouched (λ a b. b ≡ a) journal old.files new.files old.opened new.opened
  quietly journal name is zero_store = record {
    step = λ a c same n own. ap (λ (f : Files). f n) same;
    same = λ n own. ap (λ (f : Files). f n) reads.same;
    fewer = λ n own. reads.journals n (own_store journal.name n own ∙ ap (λ (m : Name). m.0) is ∙ zero_store);
  }

  pub catalogue_read : (c : JournalState) (rows : List Row) → CatalogueStored c old rows → CatalogueStored c new rows
  catalogue_read c rows stored = catalogue_stays (λ a b. b ≡ a) c old new reads.passes (quietly c catalogue_name stored.named refl) rows stored

  pub tier_read : (g : Granularity) (m : JournalState) (held : Held) → TierStored g m old held → AreUnopened held new.opened → TierStored g m new held
  tier_read g m held tier unopened = tier_stays (λ a b. b ≡ a) m old new reads.passes (quietly m (manifest_name held.store) tier.named refl) g held tier (safe_read held old new tier.safe reads.passes reads.same unopened)

-- a listed file is opened, at most as far as it is listed
pub unopened_listed : (g : Granularity) (held : Held) (f : Filed) (disk : DiskShown) (after : Name → ℕ) → AreHeld g held → AreSafe held disk → Contains held.files f
    → after (file_of (shelf_of held) f.entry) ≤ max (disk.opened (file_of (shelf_of held) f.entry)) f.entry.len → ((n : Name) → n ≢ file_of (shelf_of held) f.entry → after n ≡ disk.opened n) → AreUnopened held after
unopened_listed g held f disk after valid safe listed here others k d lt =
    let h : Filed = get_or held.files k d in
    let was : disk.opened (file_of (shelf_of held) h.entry) ≤ h.entry.len = safe.unopened k d lt in
    elim (name_cases (file_of (shelf_of held) h.entry) (file_of (shelf_of held) f.entry)) [
      | inl same ↦
          let listed_too : IsListed g held.rows f = All-contains (IsListed g held.rows) held.files f valid.filed.listed listed in
          let place : filed_at h ≡ filed_at f = same_place g held.store held.rows h f valid.keys (valid.filed.listed k d lt) listed_too same in
          let mine : file_at (filed_at h) held.files ≡ Some h = found held.files valid.apart k d lt in
          let theirs : file_at (filed_at f) held.files ≡ Some f = All-contains (λ (x : Filed). file_at (filed_at x) held.files ≡ Some x) held.files f (found held.files valid.apart) listed in
          let one : ◌≡◌ {A = Option Filed} (Some h) (Some f) = sym mine ∙ ap (λ (p : Place). file_at p held.files) place ∙ theirs in
          let len : h.entry.len ≡ f.entry.len = let is : h ≡ f = cc (one) in ap (λ (x : Filed). x.entry.len) is in
          let there : after (file_of (shelf_of held) h.entry) ≤ max (disk.opened (file_of (shelf_of held) h.entry)) f.entry.len = subst (λ (n : Name). after n ≤ max (disk.opened n) f.entry.len) (sym same) here in
          omega (arith, len, there, was)
      | inr apart ↦ let same : after (file_of (shelf_of held) h.entry) ≡ disk.opened (file_of (shelf_of held) h.entry) = others (file_of (shelf_of held) h.entry) apart in omega (arith, same, was)
    ]

pub reads_all : (old new : DiskShown) → Passes (λ a b. b ≡ a) old.past new.past → new.files ≡ old.files → new.opened ≡ old.opened → Reads old new
reads_all old new passes same same_opened = record {
  passes = passes;
  same = same;
  journals = λ n other. let is : new.opened n ≡ old.opened n = ap (λ (o : Name → ℕ). o n) same_opened in omega (arith, is);
}

-- A count of faults that rose, seen from earlier.

pub rose_after : (before mid now : ℕ) → before ≤ mid → Rose mid now → Rose before now
rose_after before mid now later rose = grind arith

-- The file of a listed entry.

-- the elements of a list, and what becomes of them
pub map_in : {A B : Type 0} (g : A → B) (xs : List A) (x : A) → Contains xs x → Contains (map g xs) (g x)
map_in {A} {B} g [] x (k, lt, is) = absurd (omega (arith, lt))
map_in {A} {B} g (y ∷ ys) x (zero, lt, is) = (zero, omega arith, ap g is)
map_in {A} {B} g (y ∷ ys) x (suc k, lt, is) = let rest = map_in g ys x (k, omega (arith, lt), is) in (suc rest.0, omega (arith, rest.1), rest.2)

pub map_out : {A B : Type 0} (g : A → B) (xs : List A) (r : B) → Contains (map g xs) r → (x : A) × Contains xs x × (g x ≡ r)
map_out {A} {B} g [] r (k, lt, is) = absurd (omega (arith, lt))
map_out {A} {B} g (y ∷ ys) r (zero, lt, is) = (y, (zero, omega arith, refl), is)
map_out {A} {B} g (y ∷ ys) r (suc k, lt, is) = let rest = map_out g ys r (k, omega (arith, lt), is) in (rest.0, (suc rest.1.0, omega (arith, rest.1.1), rest.1.2), rest.2)

-- the file that has a listed entry
pub contains_map : (xs : List Filed) (y : Entry) → Contains (map entry_of xs) y → (x : Filed) × Contains xs x × (x.entry ≡ y)
contains_map xs y there = map_out entry_of xs y there

-- Lists of which one place changes, and the names of manifests.

pub get_set_other : {A : Type 0} (xs : List A) (i k : ℕ) (x : A) → k ≢ i → slice_get (slice_set xs i x) k ≡ slice_get xs k
get_set_other [] i k x apart = refl
get_set_other (y ∷ ys) zero zero x apart = absurd (apart refl)
get_set_other (y ∷ ys) zero (suc k) x apart = refl
get_set_other (y ∷ ys) (suc i) zero x apart = refl
get_set_other (y ∷ ys) (suc i) (suc k) x apart = get_set_other ys i k x (λ is. apart (ap suc is))

pub get_set_same : {A : Type 0} (xs : List A) (i : ℕ) (x y : A) → slice_get xs i ≡ Some y → slice_get (slice_set xs i x) i ≡ Some x
get_set_same [] i x y is = absurd (cc)
get_set_same (z ∷ ys) zero x y is = refl
get_set_same (z ∷ ys) (suc i) x y is = get_set_same ys i x y is

pub set_long : {A : Type 0} (xs : List A) (i : ℕ) (x : A) → length (slice_set xs i x) ≡ length xs
set_long [] i x = refl
set_long (y ∷ ys) zero x = refl
set_long (y ∷ ys) (suc i) x = ap suc (set_long ys i x)

pub same_cases : (k i : ℕ) → (k ≡ i) ⊎ (k ≢ i)
same_cases k i = elim (cases_lt k i) [
  | inl low ↦ inr (λ is. absurd (omega (arith, low, is)))
  | inr high ↦ elim (cases_lt i k) [
    | inl more ↦ inr (λ is. absurd (omega (arith, more, is)))
    | inr le ↦ inl (omega (arith, high, le))
  ]
]

-- manifests of different stores have no file in common
pub manifests_differ : (a b : ℕ) → a ≢ b → (n : Name) → IsOwn (manifest_name a) n → IsOwn (manifest_name b) n → ⊥
manifests_differ a b apart n own too =
    own_apart (manifest_name a) (manifest_name b) n (inr (8, omega arith, omega arith, λ is. let digit : 48 + a ≡ 48 + b = is in apart (omega (arith, digit)))) own too

-- An image holds one thing at most that stands.

-- fronts of one length are one
pub same_front : (front other : List ℕ) (content : Content) → length front ≡ length other → Begins front content → Begins other content → front ≡ other
same_front front other None long one two = absurd one
same_front front other (Some bytes) long one two = sym one ∙ ap (λ (n : ℕ). take n bytes) long ∙ two

same_filed : (g h : Granularity) (store : ℕ) (rows : List Row) (image : Files) (x y : Filed) → x.entry ≡ y.entry → IsFiled g rows x → IsFiled h rows y → IsIn (store, rows) image x → IsIn (store, rows) image y → x ≡ y
same_filed g h store rows image x y same x_is y_is x_in y_in =
    let long : length (bytes_of x) ≡ length (bytes_of y) = sym x_is.len ∙ ap (λ (e : Entry). e.len) same ∙ y_is.len in
    let there : Begins (bytes_of y) (image (file_of (store, rows) x.entry)) = subst (λ (e : Entry). Begins (bytes_of y) (image (file_of (store, rows) e))) (sym same) y_in in
    let bytes : bytes_of x ≡ bytes_of y = same_front (bytes_of x) (bytes_of y) (image (file_of (store, rows) x.entry)) long x_in there in
    let parts = one_file (bytes_of x) x.head y.head x_is.info y_is.info x.samples y.samples x_is.file (subst (λ (b : List ℕ). IsFile b y.head y_is.info y.samples) (sym bytes) y_is.file) in
    λ i. record { entry = same i; head = parts.0 i; samples = parts.2 i }

same_files : (g h : Granularity) (store : ℕ) (rows : List Row) (image : Files) (xs ys : List Filed) → map entry_of xs ≡ map entry_of ys → All (IsFiled g rows) xs → All (IsFiled h rows) ys → All (IsIn (store, rows) image) xs → All (IsIn (store, rows) image) ys → xs ≡ ys
same_files g h store rows image [] [] same xs_are ys_are xs_in ys_in = refl
same_files g h store rows image [] (y ∷ ys) same xs_are ys_are xs_in ys_in = absurd (cc)
same_files g h store rows image (x ∷ xs) [] same xs_are ys_are xs_in ys_in = absurd (cc)
same_files g h store rows image (x ∷ xs) (y ∷ ys) same xs_are ys_are xs_in ys_in =
    let entry : x.entry ≡ y.entry = ap (λ (l : List Entry). get_or l 0 x.entry) same in
    let others : map entry_of xs ≡ map entry_of ys = ap (λ (l : List Entry). drop 1 l) same in
    let first : x ≡ y = same_filed g h store rows image x y entry (All-head (IsFiled g rows) x xs xs_are) (All-head (IsFiled h rows) y ys ys_are) (All-head (IsIn (store, rows) image) x xs xs_in) (All-head (IsIn (store, rows) image) y ys ys_in) in
    let rest : xs ≡ ys = same_files g h store rows image xs ys others (All-tail (IsFiled g rows) x xs xs_are) (All-tail (IsFiled h rows) y ys ys_are) (All-tail (IsIn (store, rows) image) x xs xs_in) (All-tail (IsIn (store, rows) image) y ys ys_in) in
    λ i. first i ∷ rest i

-- a manifest's batches of some granularity
abbrev OfSome : List (List ℕ) → List Entry → Type 0
OfSome bs entries = (g : Granularity) × Folds g bs entries

of_some : (g : Granularity) (entries : List Entry) (name : Name) (image : Files) → Says (Folds g) entries name image → Says OfSome entries name image
of_some g entries name image says = record { batches = says.batches; has = says.has; means = (g, says.means) }

pub one_thing : (g h : Granularity) (image : Files) (a b : Held) → IsTrue a.stands → IsTrue b.stands → a.store ≡ b.store → Holds g image a → Holds h image b → a ≡ b
one_thing g h image a b stands stands_too store left right =
    let rows : a.rows ≡ b.rows = one_value IsCatalogue (one_meaning []) catalogue_name image a.rows b.rows left.rows right.rows in
    let entries : map entry_of a.files ≡ map entry_of b.files =
    one_value OfSome (λ bs x y one two. one_fold one.0 two.0 bs x y one.1 two.1) (manifest_name a.store) image (map entry_of a.files) (map entry_of b.files)
    (of_some g (map entry_of a.files) (manifest_name a.store) image left.lists) (of_some h (map entry_of b.files) (manifest_name a.store) image (subst (λ (k : ℕ). Says (Folds h) (map entry_of b.files) (manifest_name k) image) (sym store) right.lists)) in
    let filed : All (IsFiled h a.rows) b.files = subst (λ (r : List Row). All (IsFiled h r) b.files) (sym rows) (right.filed.filed stands_too) in
    let there : All (IsIn (shelf_of a) image) b.files = subst (λ (k : ℕ). All (IsIn (k, a.rows) image) b.files) (sym store) (subst (λ (r : List Row). All (IsIn (b.store, r) image) b.files) (sym rows) (right.files stands_too)) in
    let files : a.files ≡ b.files = same_files g h a.store a.rows image a.files b.files entries (left.filed.filed stands) filed (left.files stands) there in
    let stand : a.stands ≡ b.stands = stands ∙ sym stands_too in
    λ i. record { store = store i; rows = rows i; files = files i; stands = stand i }

-- A flush from its start to its end: the writes are written, and then listed.

members_long : (e : Entry) → length (members_of e) ≡ 48
unfolding members_of
members_long e = refl

-- a change that lists a file takes 49 bytes
pub sets_long : (ps : List FileWrite) → length (batch_of (map set_of ps)) ≡ length ps * 49
sets_long [] = refl
sets_long (p ∷ ps) = omega (arith, length-append (2 ∷ members_of p.entry) (batch_of (map set_of ps)), members_long p.entry, sets_long ps)

-- up to the commit
pub still_held : (catalogue : JournalState) (m : ManifestState) (rows : Shelf) (old : DiskShown) (new : Past) (held next : Held) → IsStoredAs catalogue m rows old held → Passes (Behind held) old.past new
    → Passes (HoldsEither m.granularity held next) old.past new
still_held catalogue m rows old new held next store passes =
    passes_weaker (Behind held) (HoldsEither m.granularity held next) old.past new passes (λ a c was step. inl (holds_behind m.granularity held a c step (stored_left m.granularity catalogue m.journal old held store.stored a was)))

pub still_stored_as : (catalogue : JournalState) (m : ManifestState) (rows : Shelf) (old new : DiskShown) (held : Held) → IsStoredAs catalogue m rows old held → Passes (Behind held) old.past new.past
    → AreLong held new.files → ((n : Name) → n.0 ≢ rows.0 → new.files n ≡ old.files n) → ((n : Name) → new.opened n ≤ old.opened n) → IsStoredAs catalogue m rows new held
still_stored_as catalogue m rows old new held store passes long same fewer = record {
  stored = still_stored m.granularity catalogue m.journal old new held store.stored passes long (λ n other. same n (λ is. other (is ∙ sym (ap (λ (s : Shelf). s.0) store.of_rows)))) fewer;
  of_rows = store.of_rows;
  entries = store.entries;
}

-- THE LISTED BYTES

-- what is listed of it, by the rows and the manifest
pub listed_as : (catalogue : JournalState) (m : ManifestState) (shelf : Shelf) (disk : DiskShown) (held : Held) → IsStoredAs catalogue m shelf disk held → (P : Listing → Type 0) → P (listing_of held) → P (shelf, m.entries)
listed_as catalogue m shelf disk held store P holds = subst P (λ i. (store.of_rows i, sym store.entries i)) holds

-- and where the manifest alone is changed
pub leaves_committed : (catalogue : JournalState) (m : ManifestState) (shelf : Shelf) (old : DiskShown) (between later : Files) (mid new : Past) (held : Held) → IsStoredAs catalogue m shelf old held → ((n : Name) → (IsOwn m.journal.name n → ⊥) → later n ≡ between n)
    → Passes (AtOwn m.journal.name Anything) mid new → LeavesListed (shelf, m.entries) between later mid new
leaves_committed catalogue m shelf old between later mid new held store elsewhere passes =
    listed_as catalogue m shelf old held store (λ l. LeavesListed l between later mid new)
    (leaves_own (listing_of held) m.journal.name Anything between later mid new (not_in held.store m.journal.name (manifest_name held.store) store.stored.tier.valid.filed.numbered store.stored.tier.named refl) elsewhere passes)
