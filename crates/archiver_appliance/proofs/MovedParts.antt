-- Which file the moves of one who acts alone tell as damaged: that of a part, which a store lists then.
use Rattle.std.proofs.Common.{◌≡◌, ◌⊎◌, inl, inr, ℕ, ◌+◌, ◌-◌, List, [], ◌∷◌, ◌++◌, map, length, Bool, refl, sym, ◌∙◌, ap, subst, arith}
use Rattle.std.specs.Prelude.{All, Contains, IsTrue}
use Rattle.std.proofs.lemmas.List.{length-map}
use Rattle.std.proofs.lemmas.Option.{slice_get_within}
use Rattle.std.proofs.lemmas.List.Elements.{All-cons, All-head, All-nil, All-tail}
use Rattle.disk_model.specs.Files.{Files, Name}
use Rattle.disk_model.specs.Past.{MayLeave}
use Rattle.partition_names.specs.declared.granularity.Granularity.{Granularity}
use Rattle.pv_catalog.specs.declared.row.Row.{Row}
use Rattle.store_manifest.specs.Manifest.{ManifestState}
use Rattle.store_manifest.specs.declared.entry.Entry.{Entry as FileEntry}
use Rattle.durable_write.specs.Held.{Filed, IsListed, entry_of, file_of}
use Rattle.tier_store.specs.Change.{Has}
use Rattle.tier_store.specs.Seen.{granularities}
use Rattle.tier_store.specs.Stored.{HoldsAll}
use Rattle.tier_store.specs.Stores.{Stores, list_at}
use Rattle.tier_store.proofs.Holding.{has_left}
use Rattle.tier_store.proofs.Places.{manifest_at}
use Rattle.tier_store.proofs.Showing.{low_of}
use Rattle.store_reopen.specs.Verdict.{HasRow, IsThere, IsWhole}
use Rattle.store_reopen.proofs.Having.{listing, said_of}
use Rattle.act_model.specs.Alone.{Applied, Chain}
use Rattle.act_model.specs.History.{Done, Entry, done_of}
use Rattle.act_model.specs.Laws.{AnswersAreOfActs, NoneIsDamaged}
use Rattle.act_model.specs.Machine.{Machine}
use Rattle.act_model.specs.Reply.{Reply}
use Rattle.act_model.specs.Step.{Step}
use Rattle.act_model.specs.declared.acts.Act.{Act}
use Rattle.act_model.specs.declared.acts.Act.TheVariants.{Register, Pause, Resume, Rename, Offer, Tick, Flush, MoveBegin, MoveStep, Sweep, Pin, OpenPiece, Unpin, Names, Details, Doors, DoorDone}
use Rattle.act_model.specs.declared.acts.Answer.TheVariants.{Damaged}
use Rattle.command_words.specs.declared.status.Status.{Status}
use Rattle.command_words.specs.declared.status.Status.TheVariants as status
use Rattle.archive_core.specs.Leaving.{Leaves, LeavesMove, TellsDamage}
use Rattle.archive_core.specs.Parts.{Parts}
use Rattle.archive_core.specs.Stands.{InDoubt, Stands}
use Rattle.archive_core.proofs.Opens.{undoubted}
use Rattle.archiver_appliance.specs.Judging.{FindsPart, IsDamagedPart, IsWholeWith}
use Rattle.archiver_appliance.proofs.StoppedMoves.{other_act}

-- THE LAST ACT

module _ {A : Type 0} (stands : A → Machine → Type 0) (leaves : A → Entry → A → Type 0) where
  -- the last act of a chain led to its end
  record LastLink (last : Done) (end : A) : Type 0 where
    pub at : A
    pub machine : Machine
    pub here : stands at machine
    pub entry : Entry
    pub is : done_of entry ≡ last
    pub applied : Applied stands at entry end
    pub left : leaves at entry end

  last_link : (before : List Done) (last : Done) (entries : List Entry) (a b : A) (m : Machine) → stands a m → map done_of entries ≡ before ++ last ∷ [] → Chain stands leaves a entries b → LastLink last b
  last_link [] last [] a b m here is chain = absurd (cc (is))
  last_link [] last (e ∷ []) a b m here is chain = record {
    at = a;
    machine = m;
    here = here;
    entry = e;
    is = cc (is);
    applied = subst (λ (x : A). Applied stands a e x) (sym chain.3) chain.1;
    left = subst (λ (x : A). leaves a e x) (sym chain.3) chain.2;
  }
  last_link [] last (e ∷ f ∷ es) a b m here is chain = absurd (cc (is))
  last_link (d ∷ ds) last [] a b m here is chain = absurd (cc (is))
  last_link (d ∷ ds) last (e ∷ es) a b m here is chain =
      let rest : map done_of es ≡ ds ++ last ∷ [] = cc (is) in
      let next = chain.1.1 m here in
      last_link ds last es chain.0 b next.0 next.2 rest chain.3

-- only a step of a move tells damage
module _ (answers : AnswersAreOfActs) (undamaged : NoneIsDamaged) (tells : Bool) (p q : Parts) where
  part_told : (who : ℕ) (act : Act) (name : Name) (at : ℕ) (old new : Machine) → Step who act old (Damaged name at) new → LeavesMove tells p act (Damaged name at) q → (n : ℕ) × TellsDamage tells p n name at q
  part_told who (MoveStep n) name at old new step left = (n, left name at refl)
  part_told who (Register x about) name at old new step left = absurd (other_act answers undamaged who (Register x about) name at old new refl step)
  part_told who (Pause x) name at old new step left = absurd (other_act answers undamaged who (Pause x) name at old new refl step)
  part_told who (Resume x) name at old new step left = absurd (other_act answers undamaged who (Resume x) name at old new refl step)
  part_told who (Rename x newname) name at old new step left = absurd (other_act answers undamaged who (Rename x newname) name at old new refl step)
  part_told who (Offer x ty t line now) name at old new step left = absurd (other_act answers undamaged who (Offer x ty t line now) name at old new refl step)
  part_told who (Tick row now) name at old new step left = absurd (other_act answers undamaged who (Tick row now) name at old new refl step)
  part_told who (Flush limit) name at old new step left = absurd (other_act answers undamaged who (Flush limit) name at old new refl step)
  part_told who (MoveBegin store now) name at old new step left = absurd (other_act answers undamaged who (MoveBegin store now) name at old new refl step)
  part_told who Sweep name at old new step left = absurd (other_act answers undamaged who Sweep name at old new refl step)
  part_told who (Pin x query) name at old new step left = absurd (other_act answers undamaged who (Pin x query) name at old new refl step)
  part_told who (OpenPiece pin i) name at old new step left = absurd (other_act answers undamaged who (OpenPiece pin i) name at old new refl step)
  part_told who (Unpin pin) name at old new step left = absurd (other_act answers undamaged who (Unpin pin) name at old new refl step)
  part_told who (Names from most) name at old new step left = absurd (other_act answers undamaged who (Names from most) name at old new refl step)
  part_told who (Details x) name at old new step left = absurd (other_act answers undamaged who (Details x) name at old new refl step)
  part_told who Doors name at old new step left = absurd (other_act answers undamaged who Doors name at old new refl step)
  part_told who DoorDone name at old new step left = absurd (other_act answers undamaged who DoorDone name at old new refl step)

-- THE IMAGE THAT READS GIVE

listed_all : (P : FileEntry → Type 0) (fs : List Filed) → All (λ (f : Filed). P f.entry) fs → All P (map entry_of fs)
listed_all P [] all = All-nil P
listed_all P (f ∷ fs) all = All-cons P f.entry (map entry_of fs) (All-head (λ (h : Filed). P h.entry) f fs all) (listed_all P fs (All-tail (λ (h : Filed). P h.entry) f fs all))

of_a_row : (g : Granularity) (rows : List Row) (fs : List Filed) → All (IsListed g rows) fs → All (λ (f : Filed). HasRow rows f.entry) fs
of_a_row g rows [] all = All-nil (λ (f : Filed). HasRow rows f.entry)
of_a_row g rows (f ∷ fs) all =
    let one = All-head (IsListed g rows) f fs all in
    All-cons (λ (h : Filed). HasRow rows h.entry) f fs (slice_get_within rows f.entry.series one.row one.stands) (of_a_row g rows fs (All-tail (IsListed g rows) f fs all))

module _ (tells : Bool) (q : Parts) (held : Stores) (has : Has tells q.at held) (told : IsTrue tells) (seen : MayLeave q.at.past q.at.files) (gs : List Granularity) (same : granularities q.at.manifests ≡ gs) where
  three : length gs ≡ 3
  three = sym (ap (λ (l : List Granularity). length l) same) ∙ (length-map q.at.manifests (λ (m : ManifestState). m.granularity) ∙ has.known.three)

  -- where nothing stands in doubt it is whole
  whole_now : IsWhole gs q.at.files
  whole_now = record {
    rows = held.rows;
    lists = listing held;
    said = said_of gs q.at.files held three (subst (λ (l : List Granularity). HoldsAll l q.at.files held) same (has_left tells q.at held has told q.at.files seen));
    of_rows = λ i low.
        let m = manifest_at q.at.manifests i (omega (arith, low, three, has.known.three)) in
        listed_all (HasRow held.rows) (list_at i held) (of_a_row m.0.granularity held.rows (list_at i held) (has.known.each i m.0 m.1).valid.filed.listed);
    there = λ i low.
        let m = manifest_at q.at.manifests i (omega (arith, low, three, has.known.three)) in
        listed_all (IsThere i q.at.files held.rows) (list_at i held) ((has.disk told).each i m.0 m.1).safe.long;
  }

  -- a part that is told as damaged is a file that it lists
  part_in : (p : Parts) (n : ℕ) (name : Name) (place : ℕ) → TellsDamage tells p n name place q → IsWholeWith gs q.at.files (λ rows lists. IsDamagedPart q.at.files rows lists name place)
  unfolding whole_now
  part_in p n name place d =
      let i = d.running.store - 1 in
      let number : i + 1 ≡ d.running.store = omega (arith, d.numbered) in
      record {
        whole = whole_now;
        holds = record {
          place = i;
          within = low_of q.at held i d.manifest has.known d.here;
          entry = d.entry;
          listed = subst (λ (es : List FileEntry). Contains es d.entry) (has.known.each i d.manifest d.here).entries d.listed;
          named = subst (λ (rs : List Row). name ≡ file_of (i + 1, rs) d.entry) has.known.rows (subst (λ (k : ℕ). name ≡ file_of (k, q.at.catalogue.rows) d.entry) (sym number) d.named);
          inside = d.within;
          bad = d.bad told;
        };
      }

-- OF ONE WHO ACTS ALONE

-- The last act told damage: it is that of a file that a store lists then.
pub part_damaged : {A : Type 0} (answers : AnswersAreOfActs) (undamaged : NoneIsDamaged) (tells : Bool) (see : A → Parts) (before : List Done) (act : Act) (name : Name) (at : ℕ) (entries : List Entry) (a b : A) (m after : Machine) → Stands tells (see a) m → Stands tells (see b) after
    → map done_of entries ≡ before ++ record { act = act; answer = Damaged name at } ∷ [] → Chain (λ x n. Stands tells (see x) n) (λ x e y. Leaves tells (see x) e (see y)) a entries b
    → IsTrue tells → MayLeave (see b).at.past (see b).at.files → (gs : List Granularity) → after.rule.granularity ≡ gs → IsWholeWith gs (see b).at.files (λ rows lists. IsDamagedPart (see b).at.files rows lists name at)
part_damaged {A} answers undamaged tells see before act name at entries a b m after here there is chain told seen gs rule =
    let told_so : Done = record { act = act; answer = Damaged name at } in
    let l = last_link (λ x n. Stands tells (see x) n) (λ x e y. Leaves tells (see x) e (see y)) before told_so entries a b m here is chain in
    let reply : l.entry.answer ≡ Damaged name at = ap (λ (d : Done). d.answer) l.is in
    let next = l.applied.1 l.machine l.here in
    let step = subst (λ (r : Reply). Step l.entry.who l.entry.act l.machine r next.0) reply next.1 in
    let left = subst (λ (r : Reply). LeavesMove tells (see l.at) l.entry.act r (see b)) reply l.left.moves in
    let d = part_told answers undamaged tells (see l.at) (see b) l.entry.who l.entry.act name at l.machine next.0 step left in
    by_open (see l.at) d.0 d.1 there.store.is_open
  where
    by_open : (p : Parts) (n : ℕ) → TellsDamage tells p n name at (see b) → Has tells (see b).at there.store.before ⊎ InDoubt tells (see b).at (see b).limbo there.store.before after → IsWholeWith gs (see b).at.files (λ rows lists. IsDamagedPart (see b).at.files rows lists name at)
    by_open p n d (inl has) = part_in tells (see b) there.store.before has told seen gs (sym there.rule.granularity ∙ rule) p n name at d
    by_open p n d (inr doubt) = absurd (undoubted tells (see b).at (see b).at there.store.before doubt.after d.settled refl refl doubt.doubts)

-- no status but that of damage says more
module _ (gs : List Granularity) (later : Files) where
  pub finds_part : (x : Status) → ((name : Name) (at : ℕ) → x ≡ status.Damaged name at → IsWholeWith gs later (λ rows lists. IsDamagedPart later rows lists name at)) → FindsPart gs later x
  finds_part (status.Damaged name at) finds = finds name at refl
  finds_part status.Done finds = tt
  finds_part status.Usage finds = tt
  finds_part (status.Refused line fault) finds = tt
  finds_part status.NoSuchVariable finds = tt
  finds_part status.SourceFault finds = tt
  finds_part status.SinkFault finds = tt
  finds_part status.DiskFault finds = tt
  finds_part status.OutOfMemory finds = tt
  finds_part (status.GranularityDiffers kept asked) finds = tt
  finds_part status.DoorFault finds = tt
  finds_part status.Spent finds = tt
