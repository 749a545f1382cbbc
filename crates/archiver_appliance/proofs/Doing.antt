-- What each command makes of a disk, from its opening on.
use Rattle.std.proofs.lemmas.List.{length-map}
use Rattle.std.proofs.Common.{◌≡◌, ◌≢◌, ◌⊎◌, inl, inr, Bor, ℕ, ◌+◌, Bool, true, List, length, Option, Some, refl, sym, ◌∙◌, ap, subst, arith}
use Rattle.std.specs.Prelude.{IsTrue, slice_get}
use Rattle.edge_io.specs.declared.stream.Source.{Ghosts as OfSource}
use Rattle.edge_io.specs.declared.stream.Sink.{Ghosts as OfSink}
use Rattle.edge_io.specs.declared.clock.Clock.{Ghosts as OfClock}
use Rattle.disk_model.specs.Files.{Name, Files}
use Rattle.disk_model.specs.Past.{Passes}
use Rattle.disk_model.specs.declared.disk.Disk.{Ghosts}
use Rattle.etl_rules.specs.Config.{ConfigState}
use Rattle.partition_names.specs.declared.granularity.Granularity.{Granularity}
use Rattle.pv_catalog.specs.declared.row.Row.{Row}
use Rattle.series_model.specs.declared.sample.Query.{Query}
use Rattle.store_manifest.specs.Manifest.{ManifestState}
use Rattle.store_manifest.specs.declared.entry.Entry.{Entry}
use Rattle.durable_write.specs.Writing.{LeavesListed}
use Rattle.tier_store.specs.Change.{Has}
use Rattle.tier_store.specs.Seen.{granularities, seen}
use Rattle.tier_store.specs.Stores.{Stores}
use Rattle.tier_store.specs.declared.store.TierStore.{TierStore}
use Rattle.store_reopen.specs.Reopen.{HoldsEither, IsOpenedAs, OpensEither, lists_of, stores_of}
use Rattle.store_reopen.specs.Verdict.{IsWhole, Listings}
use Rattle.store_reports.specs.Status.{status_text}
use Rattle.store_reopen.proofs.Having.{listed_at}
use Rattle.tier_store.proofs.Places.{manifest_at as manifest_there}
use Rattle.command_words.specs.declared.command.Command.TheVariants.{OverStore}
use Rattle.command_words.specs.declared.command.StoreCommand.TheVariants as command
use Rattle.command_words.specs.declared.status.Status.{Status}
use Rattle.command_words.specs.declared.status.Status.TheVariants.{Done, Usage, Refused, NoSuchVariable, SourceFault, SinkFault, DiskFault, Damaged, OutOfMemory, GranularityDiffers, DoorFault, Spent}
use Rattle.archiver_appliance.specs.Acting.{IsNotMade}
use Rattle.act_model.specs.Machine.{Machine}
use Rattle.archiver_appliance.specs.Ingesting.{IngestsInto, LeavesNone}
use Rattle.archiver_appliance.specs.Judging.{FindsDamage, FindsPart, IsDamagedFile, IsOfOpened, IsOneOf, IsWholeWith}
use Rattle.archiver_appliance.specs.Moving.{MovesFrom}
use Rattle.archiver_appliance.specs.Outside.{outside}
use Rattle.archiver_appliance.specs.Reporting.{ChecksAll, Tells, TellsListed}
use Rattle.archiver_appliance.specs.Retrieving.{Gets, GetsRead, GetsSome, HasNone, RetrievesFrom}
use Rattle.archiver_appliance.specs.Run.{Does, EndsAs, IsRefused, IsUnasked, Makes, NoDamage, OnlyOpens, OnlyReads}
use Rattle.command_words.specs.Status.{number_of}
use Rattle.archiver_appliance.proofs.Acting.{acts_behind, same_end}
use Rattle.archiver_appliance.proofs.Checking.{checks_in, first_in, with_lists}
use Rattle.archiver_appliance.proofs.ReadFiles.{read_in}
use Rattle.archiver_appliance.proofs.Judgements.{OneVerdict, check_judges, etl_judges, exactly, get_judges, ingest_judges, status_judges, whole_with}
use Rattle.archiver_appliance.proofs.Opening.{opened_listed, reads_listed, same_said, then_reads}

-- STATUSES

-- a text of rows tells no damage, and no other granularity
module _ (rows : List Row) (short medium long : List Entry) (a b : Option (List ℕ)) where
  rows_undamaged : (status : Status) → TellsListed rows short medium long a b status → NoDamage status
  rows_undamaged (Damaged name at) t = absurd t
  rows_undamaged Done t = tt
  rows_undamaged Usage t = tt
  rows_undamaged (Refused line fault) t = tt
  rows_undamaged NoSuchVariable t = tt
  rows_undamaged SourceFault t = tt
  rows_undamaged SinkFault t = tt
  rows_undamaged DiskFault t = tt
  rows_undamaged OutOfMemory t = tt
  rows_undamaged (GranularityDiffers kept asked) t = tt
  rows_undamaged DoorFault t = tt
  rows_undamaged Spent t = tt

  pub rows_opened : (status : Status) → TellsListed rows short medium long a b status → IsOfOpened status
  rows_opened Usage t = absurd t
  rows_opened (GranularityDiffers kept asked) t = absurd t
  rows_opened status t = tt

  rows_told : (status : Status) → TellsListed rows short medium long a b status → ((name : Name) (at : ℕ) → status ≡ Damaged name at → ⊥) × ((kept asked : Granularity) → status ≡ GranularityDiffers kept asked → ⊥)
  rows_told status t = (λ name at is. subst (λ (s : Status). TellsListed rows short medium long a b s) is t, λ kept asked is. subst (λ (s : Status). TellsListed rows short medium long a b s) is t)

  checks_told : (files : Files) (status : Status) → ChecksAll rows files short medium long a b status → (kept asked : Granularity) → status ≡ GranularityDiffers kept asked → ⊥
  checks_told files status c kept asked is = subst (λ (s : Status). ChecksAll rows files short medium long a b s) is c

-- FROM THE OPENING ON

module _ {S K C D R : Type 0} (src : OfSource S) (snk : OfSink K) (clk : OfClock C) (disk : Ghosts D R) (config : ConfigState) (first : D) (store : TierStore D R) (verdict : OneVerdict)
    (start : IsOpenedAs disk (stores_of config) first (seen disk store))
    (opening : IsTrue disk.tells → OnlyOpens (stores_of config) (disk.files first) (disk.files store.disk) (disk.past first) (disk.past store.disk))
    (s s' : S) (k k' : K) (c c' : C) (given : D) (status : Status) where
  lists : Listings
  lists = lists_of store.manifests.items

  -- the image's own rows and lists are those of the stores
  of_image : IsTrue disk.tells → (P : List Row → List Entry → List Entry → List Entry → Type 0) → P store.catalogue.rows (lists_of store.manifests.items 0) (lists_of store.manifests.items 1) (lists_of store.manifests.items 2)
      → (w : IsWhole (stores_of config) (disk.files first)) → P w.rows (w.lists 0) (w.lists 1) (w.lists 2)
  of_image told P p w =
      let same = same_said (stores_of config) (disk.files first) store.catalogue.rows w.rows (lists_of store.manifests.items) w.lists (start.said told) w.said in
      with_lists P store.catalogue.rows w.rows (lists_of store.manifests.items) w.lists same.0 (λ i low. same.1 i low) p

  -- where the disk was only read, by the opening and since
  module _ (begun : IsTrue disk.tells → OnlyReads (stores_of config) (disk.files first) (disk.files store.disk) (disk.past first) (disk.past store.disk)) (files : IsTrue disk.tells → disk.files given ≡ disk.files store.disk) (any_moment : IsTrue disk.tells → Passes (λ a b. b ≡ a) (disk.past store.disk) (disk.past given)) where
    only : IsTrue disk.tells → OnlyReads (stores_of config) (disk.files first) (disk.files given) (disk.past first) (disk.past given)
    only told = then_reads (stores_of config) (disk.files first) (disk.files store.disk) (disk.files given) (disk.past first) (disk.past store.disk) (disk.past given) (begun told) (files told) (any_moment told)

    pub status_does : ((input : Option (List ℕ)) → EndsAs command.Status input status) → ((held : Stores) → Has disk.tells (seen disk store) held → IsTrue held.stands → IsTrue disk.tells → Tells (status_text held) (snk.written k) (snk.written k') status)
        → TellsListed store.catalogue.rows (lists_of store.manifests.items 0) (lists_of store.manifests.items 1) (lists_of store.manifests.items 2) (snk.written k) (snk.written k') status
        → Does config disk.tells (OverStore command.Status) (outside src snk clk disk s k c first) (outside src snk clk disk s' k' c' given) status
    status_does ends held listed = (
      ends (src.left s),
      λ told.
          let not = rows_told store.catalogue.rows (lists_of store.manifests.items 0) (lists_of store.manifests.items 1) (lists_of store.manifests.items 2) (snk.written k) (snk.written k') status listed in
          let judges = status_judges (stores_of config) (disk.files first) (start.whole told) (src.left s) status (ends (src.left s)) not.0 not.1 in (
            record {
              judges = judges;
              makes = λ before after opens.
                  let read = start.stands told before after opens in
                  record { first = read.held; either = read.either; read = read.read; makes = λ stand. held read.held read.has stand told; undamaged = λ stand. rows_undamaged store.catalogue.rows (lists_of store.manifests.items 0) (lists_of store.manifests.items 1) (lists_of store.manifests.items 2) (snk.written k) (snk.written k') status listed };
              tells = of_image told (λ rs x y z. TellsListed rs x y z (snk.written k) (snk.written k') status) listed;
              reads = λ reading. only told;
              listed = λ w keeps i low. reads_listed (stores_of config) (disk.files first) (disk.files given) (disk.past first) (disk.past given) i w.rows (w.lists i) (only told);
              rewrites_none = λ is. absurd is;
            },
            exactly verdict (stores_of config) command.Status (disk.files first) status judges,
          ),
    )

    pub check_does : ((input : Option (List ℕ)) → EndsAs command.Check input status) → ((held : Stores) → Has disk.tells (seen disk store) held → IsTrue held.stands → IsTrue disk.tells → NoDamage status)
        → (IsTrue disk.tells → ChecksAll store.catalogue.rows (disk.files store.disk) (lists_of store.manifests.items 0) (lists_of store.manifests.items 1) (lists_of store.manifests.items 2) (snk.written k) (snk.written k') status)
        → Does config disk.tells (OverStore command.Check) (outside src snk clk disk s k c first) (outside src snk clk disk s' k' c' given) status
    check_does ends held checks = (
      ends (src.left s),
      λ told.
          let rows = store.catalogue.rows in
          let short = lists_of store.manifests.items 0 in
          let medium = lists_of store.manifests.items 1 in
          let long = lists_of store.manifests.items 2 in
          let a = snk.written k in
          let b = snk.written k' in
          let same = (begun told).elsewhere in
          let finds : (name : Name) (at : ℕ) → status ≡ Damaged name at → IsWholeWith (stores_of config) (disk.files first) (λ rs ls. FindsDamage command.Check (disk.files first) rs ls name at) = λ name at is.
          whole_with (stores_of config) (disk.files first) rows (lists_of store.manifests.items) (λ rs ls. FindsDamage command.Check (disk.files first) rs ls name at) (start.whole told) (start.said told)
          (first_in rows (disk.files store.disk) (disk.files first) same short medium long a b name at (subst (λ (x : Status). ChecksAll rows (disk.files store.disk) short medium long a b x) is (checks told))) in
          let judges = check_judges (stores_of config) (disk.files first) (start.whole told) (src.left s) status (ends (src.left s)) finds (checks_told rows short medium long a b (disk.files store.disk) status (checks told)) in (
            record {
              judges = judges;
              makes = λ before after opens.
                  let read = start.stands told before after opens in
                  record { first = read.held; either = read.either; read = read.read; makes = tt; undamaged = λ stand. held read.held read.has stand told };
              tells = of_image told (λ rs x y z. ChecksAll rs (disk.files first) x y z a b status) (checks_in rows (disk.files store.disk) (disk.files first) same short medium long a b status (checks told));
              reads = λ reading. only told;
              listed = λ w keeps i low. reads_listed (stores_of config) (disk.files first) (disk.files given) (disk.past first) (disk.past given) i w.rows (w.lists i) (only told);
              rewrites_none = λ is. absurd is;
            },
            exactly verdict (stores_of config) command.Check (disk.files first) status judges,
          ),
    )

  -- no archive was made, and nothing but the disk was read
  unasked : (s' ≡ s) × (k' ≡ k) × (c' ≡ c) → IsNotMade store.disk given status → IsTrue disk.tells → IsUnasked (stores_of config) (outside src snk clk disk s k c first) (outside src snk clk disk s' k' c' given) status
  unasked same not told = record {
    cut = inr (inl not.status_is);
    source = ap src.left same.0;
    sink = ap snk.written same.1;
    clock = ap clk.coming same.2;
    opens = subst (λ (d : D). OnlyOpens (stores_of config) (disk.files first) (disk.files d) (disk.past first) (disk.past d)) (sym not.same) (opening told);
  }

  -- the disk behind the opening is the one that was opened for acts
  is_opened : IsTrue disk.tells → (before after : Stores) → OpensEither (stores_of config) (disk.past first) before after → Passes (λ a image. HoldsEither (stores_of config) before after image) (disk.past first) (disk.past store.disk)
  is_opened told before after opens = (opening told).either before after opens

  not_differs : IsOfOpened status → (kept asked : Granularity) → status ≡ GranularityDiffers kept asked → ⊥
  not_differs opened kept asked is = subst IsOfOpened is opened

  not_damaged : NoDamage status → (name : Name) (at : ℕ) → status ≡ Damaged name at → ⊥
  not_damaged none name at is = subst NoDamage is none

  pub ingest_does : k' ≡ k → store.config ≡ config
      → (IsNotMade store.disk given status × (s' ≡ s) × (c' ≡ c)) ⊎ ((held : Stores) → Has disk.tells (seen disk store) held → IngestsInto (λ image. ⊥) disk.tells store.config held (src.left s) (clk.coming c) (clk.coming c') (disk.past store.disk) (disk.past given) status)
      → (IsTrue disk.tells → (i : ℕ) (m : ManifestState) → slice_get store.manifests.items i ≡ Some m → LeavesListed ((i + 1, store.catalogue.rows), m.entries) (disk.files store.disk) (disk.files given) (disk.past store.disk) (disk.past given))
      → length store.manifests.items ≡ 3 → IsOfOpened status → NoDamage status → EndsAs command.Ingest (src.left s) status → Does config disk.tells (OverStore command.Ingest) (outside src snk clk disk s k c first) (outside src snk clk disk s' k' c' given) status
  ingest_does quiet settings ingests lists three opened undamaged ends = (
    ends,
    λ told.
        let judges = ingest_judges (stores_of config) (disk.files first) (start.whole told) (src.left s) status ends (not_damaged undamaged) (not_differs opened) in (
          record {
            judges = judges;
            makes = λ before after opens. let read = start.stands told before after opens in record { first = read.held; either = read.either; read = read.read; makes = by_made told before after opens read.held read.has ingests; undamaged = λ stand. undamaged };
            tells = λ w. tt;
            reads = λ none. absurd (none (start.whole told));
            listed = λ w keeps i low.
                let same = same_said (stores_of config) (disk.files first) store.catalogue.rows w.rows (lists_of store.manifests.items) w.lists (start.said told) w.said in
                let m = manifest_there store.manifests.items i (omega (arith, low, three)) in
                let is : m.0.entries ≡ w.lists i = sym (listed_at store.manifests.items i m.0 m.1) ∙ same.1 i low in
                opened_listed (stores_of config) (disk.files first) (disk.files store.disk) (disk.files given) (disk.past first) (disk.past store.disk) (disk.past given) w i low (opening told)
                (subst (λ (es : List Entry). LeavesListed ((i + 1, w.rows), es) (disk.files store.disk) (disk.files given) (disk.past store.disk) (disk.past given)) is
                (subst (λ (rs : List Row). LeavesListed ((i + 1, rs), m.0.entries) (disk.files store.disk) (disk.files given) (disk.past store.disk) (disk.past given)) same.0 (lists told i m.0 m.1)));
            rewrites_none = λ is. absurd is;
          },
          exactly verdict (stores_of config) command.Ingest (disk.files first) status judges,
        ),
  )
    where
      by_made : IsTrue disk.tells → (before after : Stores) → OpensEither (stores_of config) (disk.past first) before after → (held : Stores) → Has disk.tells (seen disk store) held
          → (IsNotMade store.disk given status × (s' ≡ s) × (c' ≡ c)) ⊎ ((held : Stores) → Has disk.tells (seen disk store) held → IngestsInto (λ image. ⊥) disk.tells store.config held (src.left s) (clk.coming c) (clk.coming c') (disk.past store.disk) (disk.past given) status)
          → Makes config command.Ingest before after held (outside src snk clk disk s k c first) (outside src snk clk disk s' k' c' given) status
      by_made told before after opens held has (inl not) = inl (unasked (not.1, quiet, not.2) not.0 told)
      by_made told before after opens held has (inr into) =
          let one = into held has in
          let Before : Files → Type 0 = λ image. HoldsEither (stores_of config) before after image in
          let made : IngestsInto Before disk.tells store.config held (src.left s) (clk.coming c) (clk.coming c') (disk.past first) (disk.past given) status = record {
            came = one.came;
            told = one.told;
            taken = one.taken;
            done = one.done;
            session = one.session;
            acts = acts_behind Before disk.tells store.config held one.done (disk.past first) (disk.past store.disk) (disk.past given) (is_opened told before after opens) one.acts;
            durable = subst (λ (m : Machine). LeavesNone one.came m) (same_end Before disk.tells store.config held one.done (disk.past first) (disk.past store.disk) (disk.past given) (is_opened told before after opens) one.acts) one.durable;
            twice = one.twice;
          } in
          inr (subst (λ (x : ConfigState). IngestsInto Before true x held (src.left s) (clk.coming c) (clk.coming c') (disk.past first) (disk.past given) status) settings
          (subst (λ (t : Bool). IngestsInto Before t store.config held (src.left s) (clk.coming c) (clk.coming c') (disk.past first) (disk.past given) status) told made))

  pub etl_does : s' ≡ s → store.config ≡ config
      → (IsNotMade store.disk given status × (k' ≡ k) × (c' ≡ c)) ⊎ ((held : Stores) → Has disk.tells (seen disk store) held → MovesFrom (λ image. ⊥) disk.tells store.config held (clk.coming c) (clk.coming c') (snk.written k) (snk.written k') (disk.past store.disk) (disk.past given) status)
      → (IsTrue disk.tells → (held : Stores) → Has disk.tells (seen disk store) held → IsTrue held.stands → NoDamage status)
      → (IsTrue disk.tells → FindsPart (stores_of store.config) (disk.files given) status)
      → IsOfOpened status → ((input : Option (List ℕ)) → EndsAs command.Etl input status) → Does config disk.tells (OverStore command.Etl) (outside src snk clk disk s k c first) (outside src snk clk disk s' k' c' given) status
  etl_does quiet settings moves undamaged part opened ends = (
    ends (src.left s),
    λ told.
        let judges = etl_judges (stores_of config) (disk.files first) (start.whole told) (src.left s) status (ends (src.left s)) (not_differs opened) in (
          record {
            judges = judges;
            makes = λ before after opens.
                let read = start.stands told before after opens in
                record { first = read.held; either = read.either; read = read.read; makes = by_made told before after opens read.held read.has moves; undamaged = undamaged told read.held read.has };
            tells = λ w. subst (λ (x : ConfigState). FindsPart (stores_of x) (disk.files given) status) settings (part told);
            reads = λ none. absurd (none (start.whole told));
            listed = λ w none i low. absurd none;
            rewrites_none = λ is. absurd is;
          },
          exactly verdict (stores_of config) command.Etl (disk.files first) status judges,
        ),
  )
    where
      by_made : IsTrue disk.tells → (before after : Stores) → OpensEither (stores_of config) (disk.past first) before after → (held : Stores) → Has disk.tells (seen disk store) held
          → (IsNotMade store.disk given status × (k' ≡ k) × (c' ≡ c)) ⊎ ((held : Stores) → Has disk.tells (seen disk store) held → MovesFrom (λ image. ⊥) disk.tells store.config held (clk.coming c) (clk.coming c') (snk.written k) (snk.written k') (disk.past store.disk) (disk.past given) status)
          → Makes config command.Etl before after held (outside src snk clk disk s k c first) (outside src snk clk disk s' k' c' given) status
      by_made told before after opens held has (inl not) = inl (unasked (quiet, not.1, not.2) not.0 told)
      by_made told before after opens held has (inr from) =
          let one = from held has in
          let Before : Files → Type 0 = λ image. HoldsEither (stores_of config) before after image in
          let made : MovesFrom Before disk.tells store.config held (clk.coming c) (clk.coming c') (snk.written k) (snk.written k') (disk.past first) (disk.past given) status = record {
            came = one.came;
            now = one.now;
            at = one.at;
            done = one.done;
            moves = one.moves;
            acts = acts_behind Before disk.tells store.config held one.done (disk.past first) (disk.past store.disk) (disk.past given) (is_opened told before after opens) one.acts;
            tells_moved = one.tells_moved;
          } in
          inr (subst (λ (x : ConfigState). MovesFrom Before true x held (clk.coming c) (clk.coming c') (snk.written k) (snk.written k') (disk.past first) (disk.past given) status) settings
          (subst (λ (t : Bool). MovesFrom Before t store.config held (clk.coming c) (clk.coming c') (snk.written k) (snk.written k') (disk.past first) (disk.past given) status) told made))

  module _ (name : Bor (List ℕ)) (query : Query) (begun : IsTrue disk.tells → OnlyReads (stores_of config) (disk.files first) (disk.files store.disk) (disk.past first) (disk.past store.disk)) (files : IsTrue disk.tells → disk.files given ≡ disk.files store.disk) (any_moment : IsTrue disk.tells → Passes (λ a b. b ≡ a) (disk.past store.disk) (disk.past given)) where
    pub get_does : s' ≡ s → c' ≡ c → store.config ≡ config
        → (IsNotMade store.disk given status × (k' ≡ k)) ⊎ ((held : Stores) → Has disk.tells (seen disk store) held → RetrievesFrom (λ image. ⊥) disk.tells store.config held name.now query (snk.written k) (snk.written k') (disk.past store.disk) (disk.past given) status)
        → GetsSome store.catalogue.rows name.now query (snk.written k) (snk.written k') status → (IsTrue disk.tells → GetsRead (disk.files store.disk) store.catalogue.rows (lists_of store.manifests.items) name.now query (snk.written k) (snk.written k') status) → (HasNone store.catalogue.rows name.now → IsOneOf (number_of status) 4 7 9) → (status ≡ NoSuchVariable → HasNone store.catalogue.rows name.now)
        → (IsTrue disk.tells → (file : Name) (at : ℕ) → status ≡ Damaged file at → IsDamagedFile (disk.files store.disk) store.catalogue.rows (lists_of store.manifests.items) name.now file at)
        → IsOfOpened status → ((input : Option (List ℕ)) → EndsAs (command.Get name query) input status) → Does config disk.tells (OverStore (command.Get name query)) (outside src snk clk disk s k c first) (outside src snk clk disk s' k' c' given) status
    get_does quiet still settings retrieves some read none vain damaged opened ends = (
      ends (src.left s),
      λ told.
          let judges = get_judges (stores_of config) (disk.files first) store.catalogue.rows (lists_of store.manifests.items) (start.whole told) (start.said told) name query (src.left s) status (ends (src.left s)) none vain
          (λ file at is. moved (begun told).elsewhere file at (damaged told file at is)) (not_differs opened) in (
            record {
              judges = judges;
              makes = λ before after opens.
                  let was = start.stands told before after opens in
                  record { first = was.held; either = was.either; read = was.read; makes = by_made told before after opens was.held was.has retrieves; undamaged = λ stand. by_writes told was.held was.has stand retrieves };
              tells = λ w.
                  let same = same_said (stores_of config) (disk.files first) store.catalogue.rows w.rows (lists_of store.manifests.items) w.lists (start.said told) w.said in (
                    of_image told (λ rs x y z. GetsSome rs name.now query (snk.written k) (snk.written k') status) some w,
                    read_in (disk.files store.disk) (disk.files first) store.catalogue.rows w.rows (lists_of store.manifests.items) w.lists name.now query (snk.written k) (snk.written k') same.0 (λ i low. same.1 i low) (begun told).elsewhere status (read told),
                  );
              reads = λ reading. only begun files any_moment told;
              listed = λ w keeps i low. reads_listed (stores_of config) (disk.files first) (disk.files given) (disk.past first) (disk.past given) i w.rows (w.lists i) (only begun files any_moment told);
              rewrites_none = λ is. absurd is;
            },
            exactly verdict (stores_of config) (command.Get name query) (disk.files first) status judges,
          ),
    )
      where
        Retrieves : Type 0
        Retrieves = (IsNotMade store.disk given status × (k' ≡ k)) ⊎ ((held : Stores) → Has disk.tells (seen disk store) held → RetrievesFrom (λ image. ⊥) disk.tells store.config held name.now query (snk.written k) (snk.written k') (disk.past store.disk) (disk.past given) status)

        moved : ((n : Name) → n.0 ≢ 0 → disk.files store.disk n ≡ disk.files first n) → (file : Name) (at : ℕ) → IsDamagedFile (disk.files store.disk) store.catalogue.rows (lists_of store.manifests.items) name.now file at → IsDamagedFile (disk.files first) store.catalogue.rows (lists_of store.manifests.items) name.now file at
        moved same file at one =
            let elsewhere : file.0 ≢ 0 = λ is. let number : one.place + 1 ≡ 0 = sym (ap (λ (n : Name). n.0) one.named) ∙ is in omega (arith, number) in
            record { place = one.place; within = one.within; entry = one.entry; listed = one.listed; row = one.row; own = one.own; among = one.among; named = one.named; bad = record { bytes = one.bad.bytes; file = sym (same file elsewhere) ∙ one.bad.file; holds = one.bad.holds } }

        by_made : IsTrue disk.tells → (before after : Stores) → OpensEither (stores_of config) (disk.past first) before after → (held : Stores) → Has disk.tells (seen disk store) held → Retrieves → Makes config (command.Get name query) before after held (outside src snk clk disk s k c first) (outside src snk clk disk s' k' c' given) status
        by_made told before after opens held has (inl not) = inl (unasked (quiet, not.1, still) not.0 told)
        by_made told before after opens held has (inr from) =
            let one = from held has in
            let Before : Files → Type 0 = λ image. HoldsEither (stores_of config) before after image in
            let made : RetrievesFrom Before disk.tells store.config held name.now query (snk.written k) (snk.written k') (disk.past first) (disk.past given) status = record {
              done = one.done;
              are = one.are;
              acts = acts_behind Before disk.tells store.config held one.done (disk.past first) (disk.past store.disk) (disk.past given) (is_opened told before after opens) one.acts;
              writes = one.writes;
            } in
            inr (subst (λ (x : ConfigState). RetrievesFrom Before true x held name.now query (snk.written k) (snk.written k') (disk.past first) (disk.past given) status) settings
            (subst (λ (t : Bool). RetrievesFrom Before t store.config held name.now query (snk.written k) (snk.written k') (disk.past first) (disk.past given) status) told made))

        written_undamaged : (held : Stores) (x : Status) → Gets held name.now query (snk.written k) (snk.written k') x → NoDamage x
        written_undamaged held Done w = tt
        written_undamaged held NoSuchVariable w = tt
        written_undamaged held SinkFault w = tt
        written_undamaged held DiskFault w = tt
        written_undamaged held OutOfMemory w = tt
        written_undamaged held x w = absurd w

        by_writes : IsTrue disk.tells → (held : Stores) → Has disk.tells (seen disk store) held → IsTrue held.stands → Retrieves → NoDamage status
        by_writes told held has stand (inl not) = subst NoDamage (sym not.0.status_is) tt
        by_writes told held has stand (inr from) = written_undamaged held status ((from held has).writes told stand)

-- WHAT IS REFUSED

four_is : (status : Status) → number_of status ≡ 4 → status ≡ NoSuchVariable
four_is NoSuchVariable is = refl
four_is Done is = absurd (omega (arith, is))
four_is Usage is = absurd (omega (arith, is))
four_is (Refused line fault) is = absurd (omega (arith, is))
four_is SourceFault is = absurd (omega (arith, is))
four_is SinkFault is = absurd (omega (arith, is))
four_is DiskFault is = absurd (omega (arith, is))
four_is (Damaged name at) is = absurd (omega (arith, is))
four_is OutOfMemory is = absurd (omega (arith, is))
four_is (GranularityDiffers kept asked) is = absurd (omega (arith, is))
four_is DoorFault is = absurd (omega (arith, is))
four_is Spent is = absurd (omega (arith, is))

not_twelve : (status : Status) → IsOfOpened status → number_of status ≡ 12 → ⊥
not_twelve (GranularityDiffers kept asked) opened is = opened
not_twelve Usage opened is = opened
not_twelve NoSuchVariable opened is = omega (arith, is)
not_twelve Done opened is = omega (arith, is)
not_twelve (Refused line fault) opened is = omega (arith, is)
not_twelve SourceFault opened is = omega (arith, is)
not_twelve SinkFault opened is = omega (arith, is)
not_twelve DiskFault opened is = omega (arith, is)
not_twelve (Damaged name at) opened is = omega (arith, is)
not_twelve OutOfMemory opened is = omega (arith, is)
not_twelve DoorFault opened is = omega (arith, is)
not_twelve Spent opened is = omega (arith, is)

-- of stores that were opened only a name that no row has is refused
pub refused_none : (config : ConfigState) (tells : Bool) (files : Files) (status : Status) → IsOfOpened status → (IsTrue tells → IsWhole (stores_of config) files) → IsRefused config tells files (number_of status) → status ≡ NoSuchVariable
refused_none config tells files status opened whole (inl four) = four_is status four
refused_none config tells files status opened whole (inr (inl twelve)) = absurd (not_twelve status opened twelve)
refused_none config tells files status opened whole (inr (inr not)) = absurd (not.1 (whole not.0))

-- there are three
pub three_of : (config : ConfigState) (ms : List ManifestState) → granularities ms ≡ stores_of config → length ms ≡ 3
three_of config ms is = sym (length-map ms (λ (m : ManifestState). m.granularity)) ∙ ap length is

pub never_damaged : (status : Status) → ((name : Name) (at : ℕ) → status ≡ Damaged name at → ⊥) → NoDamage status
never_damaged (Damaged name at) never = never name at refl
never_damaged Done never = tt
never_damaged Usage never = tt
never_damaged (Refused line fault) never = tt
never_damaged NoSuchVariable never = tt
never_damaged SourceFault never = tt
never_damaged SinkFault never = tt
never_damaged DiskFault never = tt
never_damaged OutOfMemory never = tt
never_damaged (GranularityDiffers kept asked) never = tt
never_damaged DoorFault never = tt
never_damaged Spent never = tt
