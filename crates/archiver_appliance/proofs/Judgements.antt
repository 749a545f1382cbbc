-- What statuses say of an image.
use Rattle.std.proofs.Common.{◌≡◌, ◌≢◌, ◌⊎◌, inl, inr, Bor, ℕ, List, Option, refl, subst}
use Rattle.std.specs.Prelude.{All}
use Rattle.disk_model.specs.Files.{Name, Files}
use Rattle.partition_names.specs.declared.granularity.Granularity.{Granularity}
use Rattle.series_model.specs.declared.sample.Query.{Query}
use Rattle.pv_catalog.specs.declared.row.Row.{Row}
use Rattle.store_manifest.specs.declared.entry.Entry.{Entry}
use Rattle.store_reopen.specs.Verdict.{HasRow, AreSaid, IsDamaged, IsThere, IsWhole, Differs, Listings}
use Rattle.store_reopen.specs.declared.error.ReopenErr.{ReopenErr}
use Rattle.store_reopen.specs.declared.error.ReopenErr.TheVariants as reopening
use Rattle.command_words.specs.declared.command.StoreCommand.{StoreCommand}
use Rattle.command_words.specs.declared.command.StoreCommand.TheVariants as command
use Rattle.command_words.specs.declared.status.Status.{Status}
use Rattle.command_words.specs.declared.status.Status.TheVariants.{Done, Refused, SourceFault, SinkFault, Usage, NoSuchVariable, DiskFault, Damaged, OutOfMemory, GranularityDiffers, DoorFault, Spent}
use Rattle.archiver_appliance.specs.Judging.{Judges, refusal_of, FindsDamage, IsWholeWith, HasDamage, of_image, of_file, AsksInVain, IsOneOf, IsExact}
use Rattle.archiver_appliance.specs.Retrieving.{HasNone}
use Rattle.archiver_appliance.specs.Run.{EndsAs}
use Rattle.command_words.specs.Status.{number_of}
use Rattle.archiver_appliance.proofs.Opening.{same_said}

-- an image that is whole is so with the rows and entries that its journals say
abbrev whole_by : (gs : List Granularity) (files : Files) (rows : List Row) (lists : Listings) → IsWhole gs files → AreSaid gs files rows lists → IsWhole gs files
whole_by gs files rows lists whole said =
    let same = same_said gs files whole.rows rows whole.lists lists whole.said said in
    record {
      rows = rows;
      lists = lists;
      said = said;
      of_rows = λ i low. subst (λ (rs : List Row). All (HasRow rs) (lists i)) same.0 (subst (λ (es : List Entry). All (HasRow whole.rows) es) (same.1 i low) (whole.of_rows i low));
      there = λ i low. subst (λ (rs : List Row). All (IsThere i files rs) (lists i)) same.0 (subst (λ (es : List Entry). All (IsThere i files whole.rows) es) (same.1 i low) (whole.there i low));
    }

pub whole_with : (gs : List Granularity) (files : Files) (rows : List Row) (lists : Listings) (P : List Row → Listings → Type 0) → IsWhole gs files → AreSaid gs files rows lists → P rows lists → IsWholeWith gs files P
whole_with gs files rows lists P whole said holds = record { whole = whole_by gs files rows lists whole said; holds = holds }

-- of a command that asks for no row
pub whole_alone : (gs : List Granularity) (files : Files) → IsWhole gs files → IsWholeWith gs files (λ rows lists. ⊥ → ⊥)
whole_alone gs files whole = record { whole = whole; holds = λ vain. vain }

-- a disk that isn't opened
pub refusal_judges : {D R : Type 0} (gs : List Granularity) (asked : StoreCommand) (files : Files) (err : ReopenErr D R) → ((d : D) (name : Name) (at : ℕ) → err ≡ reopening.Damaged d name at → IsDamaged gs files name at)
    → ((d : D) (kept other : Granularity) → err ≡ reopening.GranularityDiffers d kept other → Differs gs files kept other) → Judges gs asked files (refusal_of err)
refusal_judges {D} {R} gs asked files (reopening.DiskFault disk) damaged differs = tt
refusal_judges {D} {R} gs asked files (reopening.Damaged disk name at) damaged differs = of_image (damaged disk name at refl)
refusal_judges {D} {R} gs asked files (reopening.GranularityDiffers disk kept other) damaged differs = differs disk kept other refl
refusal_judges {D} {R} gs asked files (reopening.Memory disk) damaged differs = tt

-- A command that asks for no row: each status that it may end with comes of a whole image, or tells damage that it found.
module _ (gs : List Granularity) (files : Files) (whole : IsWhole gs files) where
  pub ingest_judges : (source : Option (List ℕ)) (status : Status) → EndsAs command.Ingest source status → ((name : Name) (at : ℕ) → status ≡ Damaged name at → ⊥) → ((kept other : Granularity) → status ≡ GranularityDiffers kept other → ⊥) → Judges gs command.Ingest files status
  ingest_judges source Usage ends damaged differs = absurd ends
  ingest_judges source NoSuchVariable ends damaged differs = absurd ends
  ingest_judges source DiskFault ends damaged differs = tt
  ingest_judges source (Damaged name at) ends damaged differs = absurd (damaged name at refl)
  ingest_judges source OutOfMemory ends damaged differs = tt
  ingest_judges source (GranularityDiffers kept other) ends damaged differs = absurd (differs kept other refl)
  ingest_judges source status ends damaged differs = whole_alone gs files whole

  pub etl_judges : (source : Option (List ℕ)) (status : Status) → EndsAs command.Etl source status → ((kept other : Granularity) → status ≡ GranularityDiffers kept other → ⊥) → Judges gs command.Etl files status
  etl_judges source Usage ends differs = absurd ends
  etl_judges source NoSuchVariable ends differs = absurd ends
  etl_judges source DiskFault ends differs = tt
  etl_judges source (Damaged name at) ends differs = of_file (record { whole = whole; holds = tt })
  etl_judges source OutOfMemory ends differs = tt
  etl_judges source (GranularityDiffers kept other) ends differs = absurd (differs kept other refl)
  etl_judges source status ends differs = whole_alone gs files whole

  pub status_judges : (source : Option (List ℕ)) (status : Status) → EndsAs command.Status source status → ((name : Name) (at : ℕ) → status ≡ Damaged name at → ⊥) → ((kept other : Granularity) → status ≡ GranularityDiffers kept other → ⊥) → Judges gs command.Status files status
  status_judges source Usage ends damaged differs = absurd ends
  status_judges source NoSuchVariable ends damaged differs = absurd ends
  status_judges source DiskFault ends damaged differs = tt
  status_judges source (Damaged name at) ends damaged differs = absurd (damaged name at refl)
  status_judges source OutOfMemory ends damaged differs = tt
  status_judges source (GranularityDiffers kept other) ends damaged differs = absurd (differs kept other refl)
  status_judges source status ends damaged differs = whole_alone gs files whole

  pub check_judges : (source : Option (List ℕ)) (status : Status) → EndsAs command.Check source status → ((name : Name) (at : ℕ) → status ≡ Damaged name at → IsWholeWith gs files (λ rows lists. FindsDamage command.Check files rows lists name at)) → ((kept other : Granularity) → status ≡ GranularityDiffers kept other → ⊥)
      → Judges gs command.Check files status
  check_judges source Usage ends damaged differs = absurd ends
  check_judges source NoSuchVariable ends damaged differs = absurd ends
  check_judges source DiskFault ends damaged differs = tt
  check_judges source (Damaged name at) ends damaged differs = of_file (damaged name at refl)
  check_judges source OutOfMemory ends damaged differs = tt
  check_judges source (GranularityDiffers kept other) ends damaged differs = absurd (differs kept other refl)
  check_judges source status ends damaged differs = whole_alone gs files whole

-- `get`, which asks for a row of the rows that the journals say
module _ (gs : List Granularity) (files : Files) (rows : List Row) (lists : Listings) (whole : IsWhole gs files) (said : AreSaid gs files rows lists) (name : Bor (List ℕ)) (query : Query) where
  found : (status : Status) → (HasNone rows name.now → IsOneOf (number_of status) 4 7 9) → (IsOneOf (number_of status) 4 7 9 → ⊥) → IsWholeWith gs files (λ rs ls. HasNone rs name.now → ⊥)
  found status none other = whole_with gs files rows lists (λ rs ls. HasNone rs name.now → ⊥) whole said (λ h. other (none h))

  other_number : (n : ℕ) → n ≢ 4 → n ≢ 7 → n ≢ 9 → IsOneOf n 4 7 9 → ⊥
  other_number n a b c (inl is) = a is
  other_number n a b c (inr (inl is)) = b is
  other_number n a b c (inr (inr is)) = c is

  pub get_judges : (source : Option (List ℕ)) (status : Status) → EndsAs (command.Get name query) source status → (HasNone rows name.now → IsOneOf (number_of status) 4 7 9) → (status ≡ NoSuchVariable → HasNone rows name.now)
      → ((file : Name) (at : ℕ) → status ≡ Damaged file at → FindsDamage (command.Get name query) files rows lists file at) → ((kept asked : Granularity) → status ≡ GranularityDiffers kept asked → ⊥) → Judges gs (command.Get name query) files status
  get_judges source Usage ends none vain damaged differs = absurd ends
  get_judges source NoSuchVariable ends none vain damaged differs = whole_with gs files rows lists (λ rs ls. HasNone rs name.now) whole said (vain refl)
  get_judges source DiskFault ends none vain damaged differs = tt
  get_judges source (Damaged file at) ends none vain damaged differs = of_file (whole_with gs files rows lists (λ rs ls. FindsDamage (command.Get name query) files rs ls file at) whole said (damaged file at refl))
  get_judges source OutOfMemory ends none vain damaged differs = tt
  get_judges source (GranularityDiffers kept other) ends none vain damaged differs = absurd (differs kept other refl)
  get_judges source Done ends none vain damaged differs = found Done none (other_number 0 (λ is. cc) (λ is. cc) (λ is. cc))
  get_judges source (Refused line fault) ends none vain damaged differs = absurd ends.0
  get_judges source SourceFault ends none vain damaged differs = absurd ends
  get_judges source DoorFault ends none vain damaged differs = absurd ends
  get_judges source Spent ends none vain damaged differs = absurd ends
  get_judges source SinkFault ends none vain damaged differs = found SinkFault none (other_number 6 (λ is. cc) (λ is. cc) (λ is. cc))

-- WHAT ELSE AN IMAGE MAY END WITH

-- an image has one verdict
pub record OneVerdict : Type 0 where
  pub whole : (gs : List Granularity) (files : Files) (name : Name) (at : ℕ) → IsWhole gs files → IsDamaged gs files name at → ⊥
  pub same : (gs : List Granularity) (files : Files) (kept asked : Granularity) → IsWhole gs files → Differs gs files kept asked → ⊥
  pub undamaged : (gs : List Granularity) (files : Files) (name : Name) (at : ℕ) (kept asked : Granularity) → IsDamaged gs files name at → Differs gs files kept asked → ⊥

module _ (verdict : OneVerdict) (gs : List Granularity) (asked : StoreCommand) (files : Files) where
  damage_whole : (name : Name) (at : ℕ) → HasDamage gs asked files name at → IsDamaged gs files name at ⊎ IsWhole gs files
  damage_whole name at (of_image one) = inl one
  damage_whole name at (of_file one) = inr one.whole

  differs_by : (kept ask : Granularity) → Differs gs files kept ask → (status : Status) → Judges gs asked files status → IsOneOf (number_of status) 12 7 9
  differs_by kept ask other Usage j = absurd j
  differs_by kept ask other DiskFault j = inr (inl refl)
  differs_by kept ask other (Damaged name at) j = elim (damage_whole name at j) [
    | inl one ↦ absurd (verdict.undamaged gs files name at kept ask one other)
    | inr whole ↦ absurd (verdict.same gs files kept ask whole other)
  ]
  differs_by kept ask other OutOfMemory j = inr (inr refl)
  differs_by kept ask other (GranularityDiffers k a) j = inl refl
  differs_by kept ask other status j = absurd (verdict.same gs files kept ask j.whole other)

  damaged_by : (name : Name) (at : ℕ) → IsDamaged gs files name at → (status : Status) → Judges gs asked files status → IsOneOf (number_of status) 8 7 9
  damaged_by name at one Usage j = absurd j
  damaged_by name at one DiskFault j = inr (inl refl)
  damaged_by name at one (Damaged other place) j = inl refl
  damaged_by name at one OutOfMemory j = inr (inr refl)
  damaged_by name at one (GranularityDiffers k a) j = absurd (verdict.undamaged gs files name at k a one j)
  damaged_by name at one status j = absurd (verdict.whole gs files name at j.whole one)

-- `get` of a name that no row of a whole image has
module _ (verdict : OneVerdict) (gs : List Granularity) (files : Files) (whole : IsWhole gs files) (name : Bor (List ℕ)) (query : Query) (none : HasNone whole.rows name.now) where
  vain : IsWholeWith gs files (λ rows lists. HasNone rows name.now → ⊥) → ⊥
  vain j =
      let same = same_said gs files whole.rows j.whole.rows whole.lists j.whole.lists whole.said j.whole.said in
      j.holds (subst (λ (rs : List Row). HasNone rs name.now) same.0 none)

  named_by : (status : Status) → Judges gs (command.Get name query) files status → IsOneOf (number_of status) 4 7 9
  named_by Usage j = absurd j
  named_by NoSuchVariable j = inl refl
  named_by DiskFault j = inr (inl refl)
  named_by (Damaged file at) (of_image one) = absurd (verdict.whole gs files file at whole one)
  named_by (Damaged file at) (of_file one) = absurd (vain (record { whole = one.whole; holds = λ missing. missing one.holds.row one.holds.own }))
  named_by OutOfMemory j = inr (inr refl)
  named_by (GranularityDiffers k a) j = absurd (verdict.same gs files k a whole j)
  named_by status j = absurd (vain j)

pub exactly : OneVerdict → (gs : List Granularity) (asked : StoreCommand) (files : Files) (status : Status) → Judges gs asked files status → IsExact gs asked files status
exactly verdict gs asked files status j = record {
  differs = λ kept ask other. differs_by verdict gs asked files kept ask other status j;
  damaged = λ name at one. damaged_by verdict gs asked files name at one status j;
  named = λ whole. named asked j whole;
}
  where
    named : (c : StoreCommand) → Judges gs c files status → (whole : IsWhole gs files) → AsksInVain c whole.rows → IsOneOf (number_of status) 4 7 9
    named (command.Get name query) j whole none = named_by verdict gs files whole name query none status j
    named command.Ingest j whole none = absurd none
    named command.Etl j whole none = absurd none
    named command.Status j whole none = absurd none
    named command.Check j whole none = absurd none
    named command.Adopt j whole none = absurd none
    named (command.Serve numbers) j whole none = absurd none
