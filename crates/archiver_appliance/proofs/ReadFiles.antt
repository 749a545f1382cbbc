-- What a retrieval read of the listed files of the row that has the name, damaged inside or not, and what it wrote of that.
use Rattle.std.proofs.Common.{◌≡◌, ◌≢◌, ◌<◌, inl, inr, ℕ, ◌+◌, List, [], ◌∷◌, ◌++◌, map, Bool, Option, None, Some, refl, sym, ◌∙◌, ap, subst, arith}
use Rattle.std.specs.Prelude.{IsTrue, Contains, slice_get}
use Rattle.std.specs.Io.KnownBytes.{Appends}
use Rattle.disk_model.specs.Files.{Name, Files}
use Rattle.disk_model.specs.declared.disk.Disk.{Ghosts}
use Rattle.intake.specs.Tails.{TailState, tail_at}
use Rattle.pb_messages.specs.declared.about.About.{About}
use Rattle.series_model.specs.declared.sample.Query.{Query}
use Rattle.series_model.specs.declared.sample.Sample.{Sample}
use Rattle.store_manifest.specs.Manifest.{ManifestState}
use Rattle.tier_store.specs.Change.{Has}
use Rattle.tier_store.specs.Seen.{Seen, seen}
use Rattle.tier_store.specs.Stores.{Stores}
use Rattle.tier_store.specs.declared.store.TierStore.{TierStore}
use Rattle.tier_store.proofs.Showing.{low_of}
use Rattle.pv_catalog.specs.declared.row.Row.{Row}
use Rattle.store_manifest.specs.declared.entry.Entry.{Entry as FileEntry}
use Rattle.store_reopen.specs.Reopen.{entries_in, lists_of}
use Rattle.store_reopen.specs.Verdict.{Listings}
use Rattle.act_model.specs.declared.acts.Act.TheVariants.{Pin}
use Rattle.act_model.specs.declared.acts.Answer.TheVariants.{Pinned}
use Rattle.act_model.specs.History.{Done, Entry, Made, Runs}
use Rattle.act_model.specs.Machine.{Machine}
use Rattle.act_model.specs.Out.{Subject}
use Rattle.act_model.proofs.Histories.{made_joined}
use Rattle.archive_core.specs.Parts.{parts}
use Rattle.archive_core.specs.Stands.{Stands}
use Rattle.archive_core.specs.declared.archive.Archive.{Archive}
use Rattle.pb_wire.specs.declared.payload.PayloadType.{PayloadType}
use Rattle.stream_merge.specs.Pieces.{NamedBytes}
use Rattle.stream_merge.specs.Reads.{AnswersRead}
use Rattle.retrieval_query.specs.Openings.{named, openings}
use Rattle.retrieval_query.specs.Raw.{IsRaw}
use Rattle.retrieval_query.specs.Retrieving.{RetrievesRead, RetrievesToEnd, given_up}
use Rattle.retrieval_query.specs.declared.retrieved.Retrieved.{Retrieved}
use Rattle.retrieval_query.specs.declared.retrieved.Retrieved.TheVariants as got
use Rattle.command_words.specs.declared.status.Status.{Status}
use Rattle.command_words.specs.declared.status.Status.TheVariants.{Done as IsDone, Usage, Refused, NoSuchVariable, SourceFault, SinkFault, DiskFault, Damaged, OutOfMemory, GranularityDiffers, DoorFault, Spent}
use Rattle.archiver_appliance.specs.Acting.{ActsAlone}
use Rattle.archiver_appliance.specs.Retrieving.{GetsRead, IsListedFront, IsRetrieved, ReadsListed, ReadsPin, ReadsPinAt, subject_of}
use Rattle.archiver_appliance.proofs.Chained.{done_alone}
use Rattle.archiver_appliance.proofs.Damages.{IsRowFile, opened_files}
use Rattle.archiver_appliance.proofs.PinSteps.{first_step, found_name, one_has, pin_named}

-- OF ONE WHO ACTS ALONE

module _ {A O D R : Type 0} (number : A → ℕ) (between : A → List Entry → A → Type 0) (joined : (a b c : A) (xs ys : List Entry) → between a xs b → between b ys c → between a (xs ++ ys) c) (number_stays : (a b : A) (entries : List Entry) → between a entries b → number b ≡ number a)
    (disk : Ghosts D R) (old new : A) (first last : Archive D R) (alone : (done : List Done) → Made number between old done new → ActsAlone disk first done last)
    (finished : O → Subject → List Sample → O → Type 0) (out out' : O) (a b : Option (List ℕ)) (whole : (subject : Subject) (xs : List Sample) → finished out subject xs out' → (text : List ℕ) × IsRaw subject xs text × Appends a b text)
    (name : List ℕ) (query : Query) where
  reads_one : RetrievesRead number between finished old name query out new out' → ReadsPin disk first name query a b last
  reads_one r =
      let f = r.reads in
      let subject : Subject = record { name = r.name_told; about = r.about; query = query } in
      let behind = made_joined number between joined number_stays r.pinned f.stopped new (openings r.pin 0 f.told) (given_up r.pin) f.made f.unpinned in
      let all = made_joined number between joined number_stays old r.pinned new (record { act = Pin name query; answer = Pinned r.pin r.name_told r.about r.pieces r.tail } ∷ []) (openings r.pin 0 f.told ++ given_up r.pin) r.pins behind in
      let text = whole subject f.given f.writes in
      record {
        pin = r.pin;
        told_name = r.name_told;
        about = r.about;
        pieces = r.pieces;
        tail = r.tail;
        told = f.told;
        left = f.left;
        all = f.all;
        made = alone _ all;
        samples = f.given;
        answers = f.answers;
        text = text.0;
        raw = text.1;
        written = text.2;
      }

  pub reads_alone : (result : Retrieved R) → RetrievesToEnd number between finished old name query out result new out' → ReadsPinAt disk first name query a b result last
  reads_alone (got.Finished count) r = reads_one r
  reads_alone got.NoSuchVariable r = tt
  reads_alone (got.ReadFault failed) r = tt
  reads_alone (got.Damaged bad at) r = tt
  reads_alone got.SinkFault r = tt
  reads_alone got.Spent r = tt
  reads_alone got.Memory r = tt

-- OF LISTED FILES

listed_front : (tells : Bool) (at : Seen) (held : Stores) → Has tells at held → (name : List ℕ) (n : NamedBytes) → IsRowFile at name n → IsListedFront at.files at.catalogue.rows (lists_of at.manifests) name n
listed_front tells at held has name n r = record {
  place = r.place;
  within = low_of at held r.place r.manifest has.known r.here;
  entry = r.entry;
  listed = subst (λ (o : Option ManifestState). Contains (entries_in o) r.entry) (sym r.here) r.listed;
  row = r.row;
  own = r.own;
  among = r.among;
  is_named = r.is_named;
  bytes = r.bytes;
}

same_subject : (query : Query) (n n' : List ℕ) (x x' : About) → n ≡ n' → x ≡ x' → ◌≡◌ {A = Subject} (record { name = n; about = x; query = query }) (record { name = n'; about = x'; query = query })
same_subject query n n' x x' p q = rw (p, q) refl

-- whether pieces are left that weren't opened counts only where none was read up to behind the interval
none_left : (ty : PayloadType) (query : Query) (pieces : List NamedBytes) (left : ℕ) (tail given : List Sample) → AnswersRead ty query pieces left tail given → AnswersRead ty query pieces 0 tail given
none_left ty query pieces left tail given a = record { read = a.read; are = a.are; ends = elim a.ends [ inl all ↦ inl (refl, all.1, all.2) | inr behind ↦ inr behind ]; is = a.is }

no_tail : (tails : List TailState) (i : ℕ) → tails ≡ [] → (tail_at tails i).samples ≡ []
no_tail tails i none = ap (λ (ts : List TailState). (tail_at ts i).samples) none

module _ {D R : Type 0} (disk : Ghosts D R) (old new : Archive D R) (store : TierStore D R) (same : old.half.store ≡ store) (empty : old.intake ≡ []) (start : Machine) (stands : Stands disk.tells (parts disk old) start) (settled : start.doubt ≡ None) (held : Stores) (has : Has disk.tells (seen disk store) held) where
  reads_listed : (name : List ℕ) (query : Query) (a b : Option (List ℕ)) (r : ReadsPin disk old name query a b new) (end : Machine) → Runs start r.made.entries end → IsTrue disk.tells → ReadsListed (disk.files store.disk) store.catalogue.rows (lists_of store.manifests.items) name query a b
  reads_listed name query a b r end run told =
      let rest : List Done = openings r.pin 0 r.told ++ given_up r.pin in
      let first : Done = record { act = Pin name query; answer = Pinned r.pin r.told_name r.about r.pieces r.tail } in
      let has_old : Has disk.tells (seen disk old.half.store) held = subst (λ (s : TierStore D R). Has disk.tells (seen disk s) held) (sym same) has in
      let step = first_step r.made.entries start end first rest r.made.no_others r.made.just_these run in
      let row = pin_named 0 name query settled step.1 r.pin r.told_name r.about r.pieces r.tail refl in
      let one = one_has disk.tells (parts disk old) start name row.i row.row stands row.found row.here in
      let own = one.0.row in
      let about_is : r.about ≡ own.about = row.about_is ∙ sym one.1 in
      let name_is : r.told_name ≡ own.name = row.name_is ∙ (found_name start name row.i row.row row.found row.here ∙ sym one.0.is) in
      let no_more : r.tail ≡ [] = row.tail_is ∙ ((stands.rows.each row.i row.row row.here).is.tail ∙ no_tail old.intake row.i empty) in
      let subject_is : ◌≡◌ {A = Subject} (record { name = r.told_name; about = r.about; query = query }) (subject_of own query) = same_subject query r.told_name own.name r.about own.about name_is about_is in
      let files = λ (n : NamedBytes) (among : Contains (map named r.told) n).
      listed_front disk.tells (seen disk old.half.store) held has_old name n
      (opened_files disk.tells (λ x m. Stands disk.tells (parts disk x) m) (parts disk) told name query r.pin r.told_name r.about r.pieces r.tail r.told (given_up r.pin) r.made.entries old new (done_alone r.made.entries (first ∷ rest) r.made.no_others r.made.just_these) r.made.chain has_old.settled n among) in
      let answers : AnswersRead own.about.ty query (map named r.told) r.left [] r.samples = subst (λ (x : About). AnswersRead x.ty query (map named r.told) r.left [] r.samples) about_is (subst (λ (l : List Sample). AnswersRead r.about.ty query (map named r.told) r.left l r.samples) no_more r.answers) in
      let done : ReadsListed (disk.files old.half.store.disk) old.half.store.catalogue.rows (lists_of old.half.store.manifests.items) name query a b = record {
        id = row.i;
        row = own;
        here = one.0.here;
        is_named = one.0.is;
        pieces = map named r.told;
        listed = files;
        samples = r.samples;
        answers = none_left own.about.ty query (map named r.told) r.left [] r.samples answers;
        text = r.text;
        raw = subst (λ (s : Subject). IsRaw s r.samples r.text) subject_is r.raw;
        written = r.written;
      } in
      subst (λ (s : TierStore D R). ReadsListed (disk.files s.disk) s.catalogue.rows (lists_of s.manifests.items) name query a b) same done

  pub read_given : (name : List ℕ) (query : Query) (a b : Option (List ℕ)) (result : Retrieved R) (status : Status) (file : Option R) → IsRetrieved result status file → ReadsPinAt disk old name query a b result new → ((done : List Done) (made : ActsAlone disk old done new) → (end : Machine) × Runs start made.entries end) → IsTrue disk.tells
      → GetsRead (disk.files store.disk) store.catalogue.rows (lists_of store.manifests.items) name query a b status
  read_given name query a b (got.Finished count) status file is r run told = let ran = run _ r.made in subst (λ (s : Status). GetsRead (disk.files store.disk) store.catalogue.rows (lists_of store.manifests.items) name query a b s) (sym is.0) (reads_listed name query a b r ran.0 ran.1 told)
  read_given name query a b got.NoSuchVariable status file is r run told = subst (λ (s : Status). GetsRead (disk.files store.disk) store.catalogue.rows (lists_of store.manifests.items) name query a b s) (sym is.0) tt
  read_given name query a b (got.ReadFault failed) status file is r run told = subst (λ (s : Status). GetsRead (disk.files store.disk) store.catalogue.rows (lists_of store.manifests.items) name query a b s) (sym is.0) tt
  read_given name query a b (got.Damaged bad at) status file is r run told = subst (λ (s : Status). GetsRead (disk.files store.disk) store.catalogue.rows (lists_of store.manifests.items) name query a b s) (sym is.0) tt
  read_given name query a b got.SinkFault status file is r run told = subst (λ (s : Status). GetsRead (disk.files store.disk) store.catalogue.rows (lists_of store.manifests.items) name query a b s) (sym is.0) tt
  read_given name query a b got.Spent status file is r run told = absurd is
  read_given name query a b got.Memory status file is r run told = subst (λ (s : Status). GetsRead (disk.files store.disk) store.catalogue.rows (lists_of store.manifests.items) name query a b s) (sym is.0) tt

-- OF AN IMAGE THAT HAS THESE FILES

front_in : (files f₂ : Files) (rows r₂ : List Row) (lists l₂ : Listings) (asked : List ℕ) → rows ≡ r₂ → ((i : ℕ) → i < 3 → lists i ≡ l₂ i) → ((n : Name) → n.0 ≢ 0 → files n ≡ f₂ n) → (piece : NamedBytes) → IsListedFront files rows lists asked piece → IsListedFront f₂ r₂ l₂ asked piece
front_in files f₂ rows r₂ lists l₂ asked rows_are lists_are same piece f =
    let elsewhere : piece.name.0 ≢ 0 = λ is. let number : f.place + 1 ≡ 0 = sym (ap (λ (n : Name). n.0) f.is_named) ∙ is in omega (arith, number) in
    let moved : IsListedFront f₂ rows l₂ asked piece = record {
      place = f.place;
      within = f.within;
      entry = f.entry;
      listed = subst (λ (es : List FileEntry). Contains es f.entry) (lists_are f.place f.within) f.listed;
      row = f.row;
      own = f.own;
      among = f.among;
      is_named = f.is_named;
      bytes = record { bytes = f.bytes.bytes; file = sym (same piece.name elsewhere) ∙ f.bytes.file; holds = f.bytes.holds };
    } in
    subst (λ (rs : List Row). IsListedFront f₂ rs l₂ asked piece) rows_are moved

listed_in : (files f₂ : Files) (rows r₂ : List Row) (lists l₂ : Listings) (name : List ℕ) (query : Query) (a b : Option (List ℕ)) → rows ≡ r₂ → ((i : ℕ) → i < 3 → lists i ≡ l₂ i) → ((n : Name) → n.0 ≢ 0 → files n ≡ f₂ n) → ReadsListed files rows lists name query a b → ReadsListed f₂ r₂ l₂ name query a b
listed_in files f₂ rows r₂ lists l₂ name query a b rows_are lists_are same r = record {
  id = r.id;
  row = r.row;
  here = subst (λ (rs : List Row). slice_get rs r.id ≡ Some r.row) rows_are r.here;
  is_named = r.is_named;
  pieces = r.pieces;
  listed = λ piece among. front_in files f₂ rows r₂ lists l₂ name rows_are lists_are same piece (r.listed piece among);
  samples = r.samples;
  answers = r.answers;
  text = r.text;
  raw = r.raw;
  written = r.written;
}

pub read_in : (files f₂ : Files) (rows r₂ : List Row) (lists l₂ : Listings) (name : List ℕ) (query : Query) (a b : Option (List ℕ)) → rows ≡ r₂ → ((i : ℕ) → i < 3 → lists i ≡ l₂ i) → ((n : Name) → n.0 ≢ 0 → files n ≡ f₂ n) → (status : Status) → GetsRead files rows lists name query a b status → GetsRead f₂ r₂ l₂ name query a b status
read_in files f₂ rows r₂ lists l₂ name query a b rows_are lists_are same IsDone r = listed_in files f₂ rows r₂ lists l₂ name query a b rows_are lists_are same r
read_in files f₂ rows r₂ lists l₂ name query a b rows_are lists_are same Usage r = tt
read_in files f₂ rows r₂ lists l₂ name query a b rows_are lists_are same (Refused line fault) r = tt
read_in files f₂ rows r₂ lists l₂ name query a b rows_are lists_are same NoSuchVariable r = tt
read_in files f₂ rows r₂ lists l₂ name query a b rows_are lists_are same SourceFault r = tt
read_in files f₂ rows r₂ lists l₂ name query a b rows_are lists_are same SinkFault r = tt
read_in files f₂ rows r₂ lists l₂ name query a b rows_are lists_are same DiskFault r = tt
read_in files f₂ rows r₂ lists l₂ name query a b rows_are lists_are same (Damaged bad at) r = tt
read_in files f₂ rows r₂ lists l₂ name query a b rows_are lists_are same OutOfMemory r = tt
read_in files f₂ rows r₂ lists l₂ name query a b rows_are lists_are same (GranularityDiffers kept asked) r = tt
read_in files f₂ rows r₂ lists l₂ name query a b rows_are lists_are same DoorFault r = tt
read_in files f₂ rows r₂ lists l₂ name query a b rows_are lists_are same Spent r = tt
