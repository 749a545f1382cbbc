-- What a disk holds from its opening on, through calls that only read.
use Rattle.std.proofs.Common.{◌≡◌, ◌≢◌, inl, inr, ℕ, ◌<◌, ◌+◌, List, length, get_or, refl, sym, ◌∙◌, ap, subst, arith}
use Rattle.std.specs.Prelude.{Contains, IsTrue}
use Rattle.std.proofs.lemmas.List.Elements.{Contains-get_or}
use Rattle.disk_model.specs.Files.{Files}
use Rattle.disk_model.specs.Past.{Past, MayLeave, Passes}
use Rattle.disk_model.specs.declared.disk.Disk.{Ghosts}
use Rattle.disk_model.proofs.Passing.{passes_then, passes_weaker}
use Rattle.partition_names.specs.declared.granularity.Granularity.{Granularity}
use Rattle.pv_catalog.specs.declared.row.Row.{Row}
use Rattle.store_manifest.specs.declared.entry.Entry.{Entry}
use Rattle.store_manifest.specs.Manifest.{manifest_name}
use Rattle.store_manifest.proofs.Committing.{one_listing}
use Rattle.durable_write.specs.Held.{KeepsListed, file_of}
use Rattle.store_files.specs.Fronts.{Keeps}
use Rattle.durable_write.specs.Writing.{LeavesListed}
use Rattle.durable_write.proofs.Staying.{keeps_outside, leaves_on}
use Rattle.store_reopen.specs.Reopen.{KeepsSite, LeavesSite, SameStores, AllIn, ChangesOne, HoldsEither, OpensEither, Reopens, StillHolds, Sweeps}
use Rattle.store_reopen.specs.Strays.{IsStray, SweptStores}
use Rattle.store_reopen.proofs.Having.{one_list_of_rows, granularity_here}
use Rattle.tier_store.specs.Change.{IsEither}
use Rattle.tier_store.specs.Stored.{HoldsAll}
use Rattle.tier_store.specs.Stores.{Stores}
use Rattle.store_reopen.specs.Verdict.{AreSaid, IsWhole, Listings}
use Rattle.archiver_appliance.specs.Run.{IsReading, IsReport, OnlyOpens, OnlyReads}
use Rattle.command_words.specs.declared.command.StoreCommand.{StoreCommand}
use Rattle.command_words.specs.declared.command.StoreCommand.TheVariants as command

-- an image's journals say one list of rows, and of each store one of entries
pub same_said : (gs : List Granularity) (files : Files) (rows r₂ : List Row) (lists l₂ : Listings) → AreSaid gs files rows lists → AreSaid gs files r₂ l₂ → (rows ≡ r₂) × ((i : ℕ) → i < length gs → lists i ≡ l₂ i)
same_said gs files rows r₂ lists l₂ one two = (
  one_list_of_rows files rows r₂ one.rows_said two.rows_said,
  λ i low. let g = granularity_here gs i low in one_listing g.0 g.0 (manifest_name (i + 1)) files (lists i) (l₂ i) (one.lists_said i g.0 g.1) (two.lists_said i g.0 g.1),
)

-- what reads give is what was before a change, or what is after it
pub record IsReadOf (gs : List Granularity) (files : Files) (before after : Stores) : Type 0 where
  pub first : Stores
  pub either : IsEither before after first
  pub read : HoldsAll gs files first

pub read_of : (gs : List Granularity) (files : Files) (past : Past) (before after : Stores) → MayLeave past files → OpensEither gs past before after → IsReadOf gs files before after
read_of gs files past before after seen opens = elim (opens.holds files seen) [
  | inl holds ↦ record { first = before; either = inl refl; read = holds }
  | inr holds ↦ record { first = after; either = inr refl; read = holds }
]

-- which stands, as both do
pub first_stands : (gs : List Granularity) (past : Past) (before after first : Stores) → OpensEither gs past before after → IsTrue before.stands → IsEither before after first → IsTrue first.stands
first_stands gs past before after first opens stands (inl is) = subst (λ (h : Stores). IsTrue h.stands) (sym is) stands
first_stands gs past before after first opens stands (inr is) = subst (λ (h : Stores). IsTrue h.stands) (sym is) (by_change opens.one_change)
  where
    by_change : ChangesOne before after → IsTrue after.stands
    by_change (inl same) = subst (λ (h : Stores). IsTrue h.stands) (sym same) stands
    by_change (inr one) = subst (λ (h : Stores). IsTrue h.stands) (sym one.2) stands

-- opening only reads
pub opening_reads : {D R : Type 0} (disk : Ghosts D R) (gs : List Granularity) (old new : D) → Reopens disk gs old new → LeavesSite disk gs old new → OnlyReads gs (disk.files old) (disk.files new) (disk.past old) (disk.past new)
opening_reads {D} {R} disk gs old new reopens site = record { any_moment = reopens.any_moment; either = reopens.either; opens = reopens.opens; elsewhere = reopens.elsewhere; stores = reopens.stores; site = site }

-- so it only opens
pub reads_open : {D R : Type 0} (disk : Ghosts D R) (gs : List Granularity) (old new : D) → Reopens disk gs old new → OnlyOpens gs (disk.files old) (disk.files new) (disk.past old) (disk.past new)
reads_open {D} {R} disk gs old new reopens = record {
  any_moment = reopens.any_moment;
  either = reopens.either;
  opens = λ before after opens. inl (reopens.opens before after opens);
  elsewhere = λ n other. inl (reopens.elsewhere n other);
  stores = passes_weaker SameStores (SweptStores gs (disk.files old)) (disk.past old) (disk.past new) reopens.stores (λ a c left same n other. inl (same n other));
}

-- an opening that sweeps only opens
pub opening_opens : {D R : Type 0} (disk : Ghosts D R) (gs : List Granularity) (old new : D) → Sweeps disk gs old new → OnlyOpens gs (disk.files old) (disk.files new) (disk.past old) (disk.past new)
opening_opens {D} {R} disk gs old new sweeps = record { any_moment = sweeps.any_moment; either = sweeps.either; opens = sweeps.opens; elsewhere = sweeps.elsewhere; stores = sweeps.stores }

-- and it only reads where the image isn't whole
same_unwhole : (gs : List Granularity) (files a c : Files) → (IsWhole gs files → ⊥) → SweptStores gs files a c → SameStores a c
same_unwhole gs files a c none swept n other = elim (swept n other) [ inl same ↦ same | inr gone ↦ absurd (none gone.0.whole) ]

pub opens_unwhole : (gs : List Granularity) (files later : Files) (old new : Past) → (IsWhole gs files → ⊥) → OnlyOpens gs files later old new → KeepsSite gs files later × Passes (KeepsSite gs) old new → OnlyReads gs files later old new
opens_unwhole gs files later old new none opens site = record {
  any_moment = opens.any_moment;
  either = opens.either;
  opens = λ before after either. elim (opens.opens before after either) [ inl same ↦ same | inr read ↦ absurd (none read.whole) ];
  elsewhere = same_unwhole gs files files later none opens.elsewhere;
  stores = passes_weaker (SweptStores gs files) SameStores old new opens.stores (λ a c left swept. same_unwhole gs files a c none swept);
  site = site;
}

-- a command that acts only reads where the image isn't whole
pub unreported : (gs : List Granularity) (files : Files) (asked : StoreCommand) → (IsReport asked → ⊥) → IsReading gs asked files → IsWhole gs files → ⊥
unreported gs files command.Ingest acts reading = reading
unreported gs files command.Etl acts reading = reading
unreported gs files (command.Serve numbers) acts reading = reading
unreported gs files (command.Get name query) acts reading = absurd (acts tt)
unreported gs files command.Status acts reading = absurd (acts tt)
unreported gs files command.Check acts reading = absurd (acts tt)
unreported gs files command.Adopt acts reading = reading

same_image : (P : Files → Type 0) (a b : Files) → b ≡ a → P a → P b
same_image P a b is holds = subst P (sym is) holds

-- what a disk may hold it may hold after calls that only read
opens_then : (gs : List Granularity) (old new : Past) (before after : Stores) → OpensEither gs old before after → Passes (λ a b. b ≡ a) old new → OpensEither gs new before after
opens_then gs old new before after opens passes =
    let from : (P : Files → Type 0) → ((a : Files) → MayLeave old a → P a) → (b : Files) → MayLeave new b → P b =
    λ P each image left. let come = passes.each new.now image passes.later (omega arith) left in same_image P come.0 image come.2 (each come.0 come.1) in
    record {
      one_change = opens.one_change;
      holds = from (λ a. HoldsEither gs before after a) opens.holds;
      files = from (λ a. AllIn before a × AllIn after a) opens.files;
    }

-- opening, and then calls that only read
pub then_reads : (gs : List Granularity) (files between later : Files) (old mid new : Past) → OnlyReads gs files between old mid → later ≡ between → Passes (λ a b. b ≡ a) mid new → OnlyReads gs files later old new
then_reads gs files between later old mid new opening same passes = record {
  any_moment = passes_then (StillHolds gs) (λ a b. b ≡ a) old mid new opening.any_moment passes (λ a b c was step now is. same_image (λ (f : Files). StillHolds gs a f) b c is step);
  either = λ before after opens. passes_then (λ a b. HoldsEither gs before after b) (λ a b. b ≡ a) old mid new (opening.either before after opens) passes (λ a b c was step now is. same_image (λ (f : Files). HoldsEither gs before after f) b c is step);
  opens = λ before after opens. opens_then gs mid new before after (opening.opens before after opens) passes;
  elsewhere = λ n other. ap (λ (f : Files). f n) same ∙ opening.elsewhere n other;
  stores = passes_then SameStores (λ a b. b ≡ a) old mid new opening.stores passes (λ a b c was step now is. same_image (λ (f : Files). SameStores a f) b c is step);
  site = (
    same_image (KeepsSite gs files) between later same opening.site.0,
    passes_then (KeepsSite gs) (λ a b. b ≡ a) old mid new opening.site.1 passes (λ a b c was step now is. same_image (KeepsSite gs a) b c is step),
  );
}

-- what is listed of a store stays where no store changes
pub reads_listed : (gs : List Granularity) (files later : Files) (old new : Past) (i : ℕ) (rows : List Row) (entries : List Entry) → OnlyReads gs files later old new → LeavesListed ((i + 1, rows), entries) files later old new
reads_listed gs files later old new i rows entries reads =
    let one : ◌≢◌ {A = ℕ} (i + 1) 0 = λ is. absurd (omega (arith, is)) in
    record { now = keeps_outside ((i + 1, rows), entries) 0 files later one reads.elsewhere; any_moment = passes_weaker SameStores (KeepsListed ((i + 1, rows), entries)) old new reads.stores (λ a c left same. keeps_outside ((i + 1, rows), entries) 0 a c one same) }

-- no stray is listed
listed_stays : (gs : List Granularity) (files : Files) (whole : IsWhole gs files) (i : ℕ) → i < length gs → (a c : Files) → SweptStores gs files a c → KeepsListed ((i + 1, whole.rows), whole.lists i) a c
listed_stays gs files whole i low a c swept k d lt = keep (get_or (whole.lists i) k d) (Contains-get_or (whole.lists i) k d lt)
  where
    not_listed : (e : Entry) → Contains (whole.lists i) e → IsStray gs files (file_of (i + 1, whole.rows) e) → ⊥
    not_listed e within stray =
        let same = same_said gs files whole.rows stray.whole.rows whole.lists stray.whole.lists whole.said stray.whole.said in
        let store : i + 1 ≡ stray.place + 1 = stray.stray.store in
        let place : stray.place ≡ i = omega (arith, store) in
        let rows : stray.whole.rows ≡ whole.rows = sym same.0 in
        let lists : whole.lists i ≡ stray.whole.lists stray.place = same.1 i low ∙ ap stray.whole.lists (sym place) in
        stray.stray.unlisted e (subst (λ (es : List Entry). Contains es e) lists within) (λ t. file_of (place t + 1, rows t) e)

    keep : (e : Entry) → Contains (whole.lists i) e → Keeps e.len (a (file_of (i + 1, whole.rows) e)) (c (file_of (i + 1, whole.rows) e))
    keep e within = elim (swept (file_of (i + 1, whole.rows) e) (λ is. absurd (let zero_store : i + 1 ≡ 0 = is in omega (arith, zero_store)))) [
      | inl same ↦ subst (Keeps e.len (a (file_of (i + 1, whole.rows) e))) (sym same) (λ front some le begins. begins)
      | inr gone ↦ absurd (not_listed e within gone.0)
    ]

pub opens_listed : (gs : List Granularity) (files later : Files) (old new : Past) (whole : IsWhole gs files) (i : ℕ) → i < length gs → OnlyOpens gs files later old new → LeavesListed ((i + 1, whole.rows), whole.lists i) files later old new
opens_listed gs files later old new whole i low opens = record {
  now = listed_stays gs files whole i low files later opens.elsewhere;
  any_moment = passes_weaker (SweptStores gs files) (KeepsListed ((i + 1, whole.rows), whole.lists i)) old new opens.stores (λ a c left swept. listed_stays gs files whole i low a c swept);
}

-- and behind an opening, where it stays from then on
pub opened_listed : (gs : List Granularity) (files between later : Files) (old mid new : Past) (whole : IsWhole gs files) (i : ℕ) → i < length gs → OnlyOpens gs files between old mid → LeavesListed ((i + 1, whole.rows), whole.lists i) between later mid new
    → LeavesListed ((i + 1, whole.rows), whole.lists i) files later old new
opened_listed gs files between later old mid new whole i low opening leaves = leaves_on ((i + 1, whole.rows), whole.lists i) files between later old mid new (opens_listed gs files between old mid whole i low opening) leaves
