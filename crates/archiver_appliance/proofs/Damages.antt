-- Which file a retrieval tells as damaged: one that a store lists for the row of the name. Where what is held stands, no such file is bad.
use Rattle.std.proofs.Common.{◌≡◌, inl, inr, ℕ, zero, suc, ◌+◌, ◌<◌, List, [], ◌∷◌, ◌++◌, take, map, Bool, Option, Some, None, refl, sym, ◌∙◌, ap, subst, arith}
use Rattle.std.specs.FinMap.{get}
use Rattle.std.specs.Prelude.{Contains, IsTrue, slice_get}
use Rattle.std.specs.List.{AllByRecursion}
use Rattle.std.proofs.lemmas.List.{take-take}
use Rattle.std.proofs.lemmas.List.Elements.{All-contains, All-from_recursion, Contains-push_cases}
use Rattle.std.proofs.lemmas.Option.{same_Some}
use Rattle.disk_model.specs.Files.{Name, Files, HasFile}
use Rattle.disk_model.specs.Past.{MayLeave}
use Rattle.pb_wire.specs.declared.payload.PayloadType.{PayloadType}
use Rattle.pins.specs.Pieces.{PinOf}
use Rattle.pins.specs.declared.piece.PinnedFile.{PinnedFile}
use Rattle.pv_catalog.specs.Catalogue.{CatalogueState}
use Rattle.pv_catalog.specs.Lines.{line, line_known, lines}
use Rattle.pv_catalog.specs.Rows.{AreRows, HasName}
use Rattle.pv_catalog.proofs.Lines.{line_over}
use Rattle.pv_catalog.specs.declared.row.Row.{Row}
use Rattle.pv_name.specs.Key.{key_of}
use Rattle.pb_messages.specs.declared.about.About.{About}
use Rattle.series_model.specs.declared.sample.Query.{Query}
use Rattle.series_model.specs.declared.sample.Sample.{Sample}
use Rattle.store_manifest.specs.Manifest.{ManifestState}
use Rattle.store_manifest.specs.declared.entry.Entry.{Entry as FileEntry}
use Rattle.durable_write.specs.Held.{IsFiled, bytes_of, file_of}
use Rattle.durable_write.specs.Stored.{KeysDiffer}
use Rattle.tier_store.specs.Change.{Has, IsListedIn}
use Rattle.tier_store.specs.Seen.{Seen, IsSettled}
use Rattle.tier_store.specs.Stores.{Stores, list_at}
use Rattle.tier_store.proofs.Showing.{low_of}
use Rattle.tier_store.proofs.Places.{Listed, front_there, listed_file}
use Rattle.store_reopen.specs.Reopen.{entries_in, lists_of}
use Rattle.act_model.specs.Alone.{Chain}
use Rattle.act_model.specs.History.{Done, Entry, done_of}
use Rattle.act_model.specs.Machine.{Machine}
use Rattle.act_model.specs.Reply.{Reply}
use Rattle.act_model.specs.declared.acts.Act.{Act}
use Rattle.act_model.specs.declared.acts.Act.TheVariants.{Pin, OpenPiece}
use Rattle.act_model.specs.declared.acts.Answer.TheVariants.{Pinned, Piece}
use Rattle.archive_core.specs.Leaving.{IsPieceOfRow, Leaves, LeavesFiles, LeavesPins, OpensFile, PinsFiles, ReadsAlone}
use Rattle.archive_core.specs.Parts.{Parts}
use Rattle.archive_core.proofs.Lists.{all_at}
use Rattle.stream_merge.specs.Pieces.{NamedBytes}
use Rattle.stream_merge.specs.Reading.{IsBadFor}
use Rattle.stream_merge.proofs.Reading.{none_bad}
use Rattle.retrieval_query.specs.Openings.{PieceTold, named, opening, openings}
use Rattle.archiver_appliance.specs.Judging.{IsDamagedFile}
use Rattle.archiver_appliance.specs.Retrieving.{IsRetrieval, of_none, without_pin, with_pin}

-- THE PIECES THAT WERE OPENED

-- it has the name of a pinned file, and so many first bytes of it as were pinned
record IsOpened (files : Files) (pieces : List PinnedFile) (n : NamedBytes) : Type 0 where
  pub i : ℕ
  pub piece : PinnedFile
  pub here : slice_get pieces i ≡ Some piece
  pub is_named : n.name ≡ piece.name
  pub bytes : HasFile files n.name (λ b. n.bytes ≡ take piece.len b)

opened_one : (tells : Bool) (p : Parts) (pin i : ℕ) (t : PieceTold) (own : PinOf) → IsTrue tells → get p.pinned pin ≡ Some own → OpensFile tells p pin i t.reader t.name t.len → IsOpened p.at.files own.pieces (named t)
opened_one tells p pin i t own told there o =
    let same : o.own ≡ own = same_Some o.own own (sym o.there ∙ there) in
    let f = o.bytes told in
    record {
      i = i;
      piece = o.piece;
      here = subst (λ (x : PinOf). slice_get x.pieces i ≡ Some o.piece) same o.here;
      is_named = o.named;
      bytes = record { bytes = f.bytes; file = f.file; holds = ap (take t.len) f.holds ∙ (take-take t.len t.len f.bytes (omega arith) ∙ ap (λ (n : ℕ). take n f.bytes) o.len_is) };
    }

-- a listed file of the row that has the name, or of one under it, whose listed bytes these are
pub record IsRowFile (at : Seen) (name : List ℕ) (n : NamedBytes) : Type 0 where
  pub place : ℕ
  pub manifest : ManifestState
  pub here : slice_get at.manifests place ≡ Some manifest
  pub entry : FileEntry
  pub listed : Contains manifest.entries entry
  pub row : ℕ
  pub own : HasName at.catalogue.rows row name
  pub among : Contains (line at.catalogue.rows row) entry.series
  pub is_named : n.name ≡ file_of (place + 1, at.catalogue.rows) entry
  pub bytes : HasFile at.files n.name (λ b. n.bytes ≡ take entry.len b)

module _ {A : Type 0} (tells : Bool) (stands : A → Machine → Type 0) (see : A → Parts) (told : IsTrue tells) where
  abbrev Links : A → List Entry → A → Type 0
  Links = Chain stands (λ a e b. Leaves tells (see a) e (see b))

  -- each was opened of the same pin, and the files stayed
  opened_all : (pin i : ℕ) (ts : List PieceTold) (rest : List Done) (entries : List Entry) (a b : A) (files : Files) (own : PinOf) → map done_of entries ≡ openings pin i ts ++ rest → Links a entries b → IsSettled (see a).at → (see a).at.files ≡ files → get (see a).pinned pin ≡ Some own
      → AllByRecursion (IsOpened files own.pieces) (map named ts)
  opened_all pin i [] rest entries a b files own is chain settled same there = tt
  opened_all pin i (t ∷ ts) rest [] a b files own is chain settled same there = absurd (cc (is))
  opened_all pin i (t ∷ ts) rest (e ∷ es) a b files own is chain settled same there =
      let first : done_of e ≡ opening pin i t = cc (is) in
      let later : map done_of es ≡ openings pin (i + 1) ts ++ rest = cc (is) in
      let act : e.act ≡ OpenPiece pin i = ap (λ (d : Done). d.act) first in
      let answer : e.answer ≡ Piece t.reader t.name t.head_len t.len = ap (λ (d : Done). d.answer) first in
      let mid = chain.0 in
      let reads : ReadsAlone tells (see a) (see mid) = subst (λ (x : Act). LeavesFiles tells x (see a) (see mid)) act chain.2.files in
      let pins : ((see mid).pinned ≡ (see a).pinned) × OpensFile tells (see a) pin i t.reader t.name t.len = subst (λ (r : Reply). LeavesPins tells (see a) (OpenPiece pin i) r (see mid)) answer (subst (λ (x : Act). LeavesPins tells (see a) x e.answer (see mid)) act chain.2.pins) in (
        subst (λ (f : Files). IsOpened f own.pieces (named t)) same (opened_one tells (see a) pin i t own told there pins.1),
        opened_all pin (i + 1) ts rest es mid b files own later chain.3 (reads.quiet settled).0 (((reads.quiet settled).1 told).0 ∙ same) (ap (λ m. get m pin) pins.0 ∙ there),
      )

  module _ (name : List ℕ) (query : Query) (pin : ℕ) (told_name : List ℕ) (about : About) (pieces : ℕ) (tail : List Sample) (ts : List PieceTold) (rest : List Done) where
    -- where nothing stood in doubt before the pin, they are listed files of the row
    pub opened_files : (entries : List Entry) (a b : A) → map done_of entries ≡ record { act = Pin name query; answer = Pinned pin told_name about pieces tail } ∷ (openings pin 0 ts ++ rest) → Links a entries b → IsSettled (see a).at
        → (n : NamedBytes) → Contains (map named ts) n → IsRowFile (see a).at name n
    opened_files [] a b is chain settled n among = absurd (cc (is))
    opened_files (e ∷ es) a b is chain settled n among =
        let first : done_of e ≡ record { act = Pin name query; answer = Pinned pin told_name about pieces tail } = cc (is) in
        let later : map done_of es ≡ openings pin 0 ts ++ rest = cc (is) in
        let act : e.act ≡ Pin name query = ap (λ (d : Done). d.act) first in
        let answer : e.answer ≡ Pinned pin told_name about pieces tail = ap (λ (d : Done). d.answer) first in
        let mid = chain.0 in
        let reads : ReadsAlone tells (see a) (see mid) = subst (λ (x : Act). LeavesFiles tells x (see a) (see mid)) act chain.2.files in
        let pins : PinsFiles (see a) name pin (see mid) = subst (λ (r : Reply). LeavesPins tells (see a) (Pin name query) r (see mid)) answer (subst (λ (x : Act). LeavesPins tells (see a) x e.answer (see mid)) act chain.2.pins) in
        let opened = opened_all pin 0 ts rest es mid b (see a).at.files pins.own later chain.3 (reads.quiet settled).0 ((reads.quiet settled).1 told).0 pins.made in
        let o = All-contains (IsOpened (see a).at.files pins.own.pieces) (map named ts) n (All-from_recursion (IsOpened (see a).at.files pins.own.pieces) (map named ts) opened) among in
        by_piece (see a).at (see mid).at n o.piece (pins.same_lists settled) o.is_named o.bytes (all_at (IsPieceOfRow (see mid).at name) pins.own.pieces o.i o.piece pins.pieces o.here)
      where
        by_piece : (at later : Seen) (n : NamedBytes) (piece : PinnedFile) → (later.catalogue ≡ at.catalogue) × (later.manifests ≡ at.manifests) → n.name ≡ piece.name → HasFile at.files n.name (λ b. n.bytes ≡ take piece.len b) → IsPieceOfRow later name piece → IsRowFile at name n
        by_piece at later n piece same is_named f of = record {
          place = of.place;
          manifest = of.manifest;
          here = ap (λ (ms : List ManifestState). slice_get ms of.place) (sym same.1) ∙ of.here;
          entry = of.entry;
          listed = of.listed;
          row = of.row;
          own = subst (λ (c : CatalogueState). HasName c.rows of.row name) same.0 of.named;
          among = subst (λ (c : CatalogueState). Contains (line c.rows of.row) of.entry.series) same.0 of.among;
          is_named = is_named ∙ (ap (λ (x : PinnedFile). x.name) of.is ∙ ap (λ (c : CatalogueState). file_of (of.place + 1, c.rows) of.entry) same.0);
          bytes = record { bytes = f.bytes; file = f.file; holds = f.holds ∙ ap (λ (x : PinnedFile). take x.len f.bytes) of.is };
        }

-- A retrieval's first act pins the name.
pub pins_first : (name : List ℕ) (query : Query) {done : List Done} → IsRetrieval name query done → (d : Done) (rest : List Done) → done ≡ d ∷ rest → d.act ≡ Pin name query
pins_first name query of_none d rest is = absurd (cc (is))
pins_first name query (without_pin reply none) d rest is = let first : d ≡ record { act = Pin name query; answer = reply } = cc (is) in ap (λ (x : Done). x.act) first
pins_first name query (with_pin pin told_name about pieces tail told failed fails) d rest is =
    let first : d ≡ record { act = Pin name query; answer = Pinned pin told_name about pieces tail } = cc (is) in ap (λ (x : Done). x.act) first

-- THE FILE THAT IS BAD

-- no two rows have one name
one_row : (rows : List Row) → KeysDiffer rows → (i j : ℕ) (name : List ℕ) → (a : HasName rows i name) → (b : HasName rows j name) → a.row ≡ b.row
one_row rows differ i j name a b =
    let number : i ≡ j = differ i j a.row b.row a.here b.here (ap key_of (a.is ∙ sym b.is)) in
    same_Some a.row b.row (sym a.here ∙ (ap (λ (k : ℕ). slice_get rows k) number ∙ b.here))

pub bad_file : (tells : Bool) (at : Seen) (held : Stores) → Has tells at held → (name : List ℕ) (n : NamedBytes) → IsRowFile at name n → (i : ℕ) (own : HasName at.catalogue.rows i name) (ty : PayloadType) → ty ≡ own.row.about.ty → (place : ℕ) → IsBadFor ty n.bytes place
    → IsDamagedFile at.files at.catalogue.rows (lists_of at.manifests) name n.name place
bad_file tells at held has name n r i own ty ty_is place bad =
    let differ : KeysDiffer at.catalogue.rows = subst KeysDiffer (sym has.known.rows) (has.known.each r.place r.manifest r.here).valid.keys in
    let same : own.row ≡ r.own.row = one_row at.catalogue.rows differ i r.row name own r.own in
    let f = r.bytes in
    record {
      place = r.place;
      within = low_of at held r.place r.manifest has.known r.here;
      entry = r.entry;
      listed = subst (λ (o : Option ManifestState). Contains (entries_in o) r.entry) (sym r.here) r.listed;
      row = r.row;
      own = r.own;
      among = r.among;
      named = r.is_named;
      bad = record {
        bytes = f.bytes;
        file = f.file;
        holds = subst (λ (x : PayloadType). IsBadFor x (take r.entry.len f.bytes) place) (ty_is ∙ ap (λ (row : Row). row.about.ty) same) (subst (λ (b : List ℕ). IsBadFor ty b place) f.holds bad);
      };
    }

-- the rows of a line are of one type
line_abouts : (rows : List Row) → AreRows rows → (n i : ℕ) (row : Row) → i < n → slice_get rows i ≡ Some row → (k : ℕ) → Contains (line rows i) k → (other : Row) → slice_get rows k ≡ Some other → other.about ≡ row.about
line_abouts rows are zero i row low here k among other there = absurd (omega (arith, low))
line_abouts rows are (suc n) i row low here k among other there =
    elim (Contains-push_cases (line_known (lines [] rows) row.base) i k (subst (λ (ks : List ℕ). Contains ks k) (line_over rows are i row here) among)) [
      | inl under ↦ by_base row.base refl under (λ b base lower at within. line_abouts rows are n b base lower at k within other there)
      | inr is ↦ ap (λ (r : Row). r.about) (same_Some other row (sym there ∙ (ap (λ (j : ℕ). slice_get rows j) (sym is) ∙ here)))
    ]
  where
    by_base : (o : Option ℕ) → row.base ≡ o → Contains (line_known (lines [] rows) o) k → ((b : ℕ) (base : Row) → b < n → slice_get rows b ≡ Some base → Contains (line rows b) k → other.about ≡ base.about) → other.about ≡ row.about
    by_base None is under deeper = let none = under.1 in absurd (omega (arith, none))
    by_base (Some b) is under deeper =
        let o = are.over i row b here is in
        let lower : b < i = o.below in
        deeper b o.base (omega (arith, lower, low)) o.here under ∙ o.about

-- where what is held stands, the listed bytes are a file of the row's type
pub none_damaged : (tells : Bool) (at : Seen) (held : Stores) → AreRows at.catalogue.rows → Has tells at held → IsTrue tells → IsTrue held.stands → MayLeave at.past at.files → (asked : List ℕ) (name : Name) (place : ℕ) → IsDamagedFile at.files at.catalogue.rows (lists_of at.manifests) asked name place → ⊥
none_damaged tells at held are has told stands seen asked name place d = by_list (slice_get at.manifests d.place) refl d.listed
  where
    by_list : (o : Option ManifestState) → slice_get at.manifests d.place ≡ o → Contains (entries_in o) d.entry → ⊥
    by_list None here within = let low = within.1 in absurd (omega (arith, low))
    by_list (Some m) here within =
        let lists : IsListedIn at.manifests (d.place + 1) d.entry = record { place = d.place; manifest = m; is = refl; here = here; listed = within } in
        let l : Listed at held (d.place + 1) d.entry name = listed_file tells at held (d.place + 1) d.entry name has lists d.named in
        let front : take d.entry.len d.bad.bytes ≡ bytes_of l.file = front_there tells at held (d.place + 1) d.entry name l d.bad.bytes has told stands seen d.bad.file in
        let filed : IsFiled l.manifest.granularity held.rows l.file = All-contains (IsFiled l.manifest.granularity held.rows) (list_at l.place held) l.file ((has.known.each l.place l.manifest l.here).valid.filed.filed stands) l.listed in
        let there : slice_get at.catalogue.rows d.entry.series ≡ Some filed.row =
        ap (λ (rs : List Row). slice_get rs d.entry.series) has.known.rows ∙ (ap (λ (e : FileEntry). slice_get held.rows e.series) (sym l.entry) ∙ filed.stands) in
        let about : filed.row.about ≡ d.own.row.about = line_abouts at.catalogue.rows are (suc d.row) d.row d.own.row (omega arith) d.own.here d.entry.series d.among filed.row there in
        none_bad d.own.row.about.ty (bytes_of l.file) l.file.head filed.info l.file.samples place filed.file (filed.type ∙ ap (λ (a : About). a.ty) about) (subst (λ (b : List ℕ). IsBadFor d.own.row.about.ty b place) front d.bad.holds)
