-- What one who acts alone on an archive leaves of the disk's files, as of the stores that were opened and the disk that is given back.
use Rattle.std.proofs.Common.{◌≡◌, ℕ, ◌+◌, List, ◌∷◌, ◌++◌, Bool, Some, None, refl, sym, ◌∙◌, ap, subst}
use Rattle.std.specs.Prelude.{IsTrue, slice_get}
use Rattle.disk_model.specs.Files.{Name}
use Rattle.disk_model.specs.Past.{Passes}
use Rattle.disk_model.specs.declared.disk.Disk.{Ghosts}
use Rattle.series_model.specs.declared.sample.Query.{Query}
use Rattle.pb_messages.specs.declared.about.About.{About}
use Rattle.store_manifest.specs.Manifest.{ManifestState}
use Rattle.durable_write.specs.Writing.{LeavesListed}
use Rattle.tier_store.specs.Change.{Has}
use Rattle.tier_store.specs.Pinned.{LeavesFronts}
use Rattle.tier_store.specs.Seen.{seen, IsSettled}
use Rattle.tier_store.specs.Stores.{Stores}
use Rattle.tier_store.specs.declared.store.TierStore.{TierStore}
use Rattle.store_reopen.specs.Reopen.{lists_of}
use Rattle.act_model.specs.History.{Done, Runs}
use Rattle.act_model.specs.Machine.{Machine}
use Rattle.act_model.specs.declared.acts.Act.{Act}
use Rattle.act_model.specs.declared.acts.Act.TheVariants.{Pin}
use Rattle.act_model.specs.declared.acts.Answer.TheVariants.{Pinned}
use Rattle.archive_core.specs.Leaving.{ReadsAlone, files_of}
use Rattle.archive_core.specs.Parts.{parts}
use Rattle.archive_core.specs.Stands.{Stands}
use Rattle.archive_core.specs.declared.archive.Archive.{Archive}
use Rattle.retrieval_query.specs.Openings.{openings}
use Rattle.retrieval_query.specs.Retrieving.{given_up}
use Rattle.archiver_appliance.specs.Acting.{ActsAlone}
use Rattle.archiver_appliance.specs.Judging.{IsDamagedFile}
use Rattle.archiver_appliance.specs.Retrieving.{FindsBad, IsRetrieval}
use Rattle.archiver_appliance.proofs.Chained.{AllDone, IsFeeding, IsLooking, acts_alone_are, done_alone, fronts_along, lists_left, reads_along}
use Rattle.archiver_appliance.proofs.Damages.{bad_file, opened_files, pins_first}
use Rattle.archiver_appliance.proofs.PinSteps.{first_step, one_has, pin_named}

module _ {D R : Type 0} (disk : Ghosts D R) (old new : Archive D R) (done : List Done) (made : ActsAlone disk old done new) (store : TierStore D R) (same : old.half.store ≡ store) where
  abbrev has_old : (held : Stores) → Has disk.tells (seen disk store) held → Has disk.tells (seen disk old.half.store) held
  has_old held has = subst (λ (s : TierStore D R). Has disk.tells (seen disk s) held) (sym same) has

  module _ (given : D) (back : new.half.store.disk ≡ given) where
    -- an ingest leaves whatever is listed
    pub lists_given : (held : Stores) → Has disk.tells (seen disk store) held → AllDone IsFeeding done → IsTrue disk.tells → (i : ℕ) (m : ManifestState) → slice_get store.manifests.items i ≡ Some m
        → LeavesListed ((i + 1, store.catalogue.rows), m.entries) (disk.files store.disk) (disk.files given) (disk.past store.disk) (disk.past given)
    lists_given held has are told =
        let fronts : LeavesFronts disk.tells (files_of (parts disk old)) (files_of (parts disk new)) = fronts_along disk.tells (λ a m. Stands disk.tells (parts disk a) m) (parts disk) made.entries old new (acts_alone_are IsFeeding made.entries done made.no_others made.just_these are) made.chain in
        subst (λ (d : D). (i : ℕ) (m : ManifestState) → slice_get store.manifests.items i ≡ Some m → LeavesListed ((i + 1, store.catalogue.rows), m.entries) (disk.files store.disk) (disk.files d) (disk.past store.disk) (disk.past d)) back
        (subst (λ (s : TierStore D R). (i : ℕ) (m : ManifestState) → slice_get s.manifests.items i ≡ Some m → LeavesListed ((i + 1, s.catalogue.rows), m.entries) (disk.files s.disk) (disk.files new.half.store.disk) (disk.past s.disk) (disk.past new.half.store.disk)) same
        (lists_left disk.tells (parts disk old) (parts disk new) held (has_old held has) fronts told))

    -- a retrieval settles a doubt, and only reads
    only_reads : AllDone IsLooking done → ReadsAlone disk.tells (parts disk old) (parts disk new)
    only_reads are = reads_along disk.tells (λ a m. Stands disk.tells (parts disk a) m) (parts disk) made.entries old new (acts_alone_are IsLooking made.entries done made.no_others made.just_these are) made.chain

    -- where nothing stands in doubt
    quiet_given : AllDone IsLooking done → IsSettled (seen disk store) → IsTrue disk.tells → (disk.files new.half.store.disk ≡ disk.files old.half.store.disk) × Passes (λ a b. b ≡ a) (disk.past old.half.store.disk) (disk.past new.half.store.disk)
    quiet_given are settled told = ((only_reads are).quiet (subst (λ (s : TierStore D R). IsSettled (seen disk s)) (sym same) settled)).1 told

    pub files_given : AllDone IsLooking done → IsSettled (seen disk store) → IsTrue disk.tells → disk.files given ≡ disk.files store.disk
    files_given are settled told = ap disk.files (sym back) ∙ ((quiet_given are settled told).0 ∙ ap (λ (s : TierStore D R). disk.files s.disk) same)

    pub moments_given : AllDone IsLooking done → IsSettled (seen disk store) → IsTrue disk.tells → Passes (λ a b. b ≡ a) (disk.past store.disk) (disk.past given)
    moments_given are settled told = subst (λ (d : D). Passes (λ a b. b ≡ a) (disk.past store.disk) (disk.past d)) back (subst (λ (s : TierStore D R). Passes (λ a b. b ≡ a) (disk.past s.disk) (disk.past new.half.store.disk)) same (quiet_given are settled told).1)

  -- what a retrieval tells as damaged is a listed file of the row that has the name
  module _ (start end : Machine) (stands : Stands disk.tells (parts disk old) start) (settled : start.doubt ≡ None) (run : Runs start made.entries end) (held : Stores) (has : Has disk.tells (seen disk store) held) (name : List ℕ) (query : Query) (are : IsRetrieval name query done) where
    pub damaged_given : (reads : Bool) (file : Name) (at : ℕ) → FindsBad reads done file at → IsTrue disk.tells → IsTrue reads → IsDamagedFile (disk.files store.disk) store.catalogue.rows (lists_of store.manifests.items) name file at
    damaged_given reads file at finds told reader_tells =
        let d = finds.bad reader_tells in
        let rest : List Done = openings finds.pin 0 finds.told ++ given_up finds.pin in
        let first : Act → Done = λ act. record { act = act; answer = Pinned finds.pin finds.told_name finds.about finds.pieces finds.tail } in
        let act : finds.act ≡ Pin name query = pins_first name query are (first finds.act) rest finds.is in
        let is : done ≡ first (Pin name query) ∷ rest = finds.is ∙ ap (λ (a : Act). first a ∷ rest) act in
        let of_row =
        opened_files disk.tells (λ a m. Stands disk.tells (parts disk a) m) (parts disk) told name query finds.pin finds.told_name finds.about finds.pieces finds.tail finds.told (given_up finds.pin) made.entries old new (done_alone made.entries done made.no_others made.just_these ∙ is) made.chain
        (has_old held has).settled d.piece d.among in
        let step = first_step made.entries start end (first (Pin name query)) rest made.no_others (made.just_these ∙ is) run in
        let row = pin_named 0 name query settled step.1 finds.pin finds.told_name finds.about finds.pieces finds.tail refl in
        let one = one_has disk.tells (parts disk old) start name row.i row.row stands row.found row.here in
        let bad = bad_file disk.tells (seen disk old.half.store) held (has_old held has) name d.piece of_row row.i one.0 finds.about.ty (ap (λ (x : About). x.ty) (row.about_is ∙ sym one.1)) at d.bad in
        subst (λ (s : TierStore D R). IsDamagedFile (disk.files s.disk) s.catalogue.rows (lists_of s.manifests.items) name file at) same
        (subst (λ (n : Name). IsDamagedFile (disk.files old.half.store.disk) old.half.store.catalogue.rows (lists_of old.half.store.manifests.items) name n at) d.named bad)
