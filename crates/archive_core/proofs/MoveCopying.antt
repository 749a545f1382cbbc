-- What goes on in files of limbo: a flush, and a step of copying.
use Rattle.std.proofs.Common.{◌≡◌, ℕ, ◌+◌, ◌<◌, ◌≤◌, List, [], ◌∷◌, ◌++◌, length, drop, Bool, true, false, Some, refl, sym, ◌∙◌, ap, subst, arith, append-nil, cond, ◌⊎◌, inl, inr, map, take, None, Option}
use Rattle.std.specs.List.{AllByRecursion, flat_map, list_any}
use Rattle.std.specs.Prelude.{All, Contains, IsTrue, filter, nat_eq, slice_get, nat_le}
use Rattle.std.proofs.lemmas.Bool.Decides.{nat_tests}
use Rattle.std.proofs.lemmas.List.Elements.{All-contains, All-from_recursion, recursion_from_All, Contains-append_cases, Contains-append_left, Contains-append_right}
use Rattle.partition_names.specs.declared.part.Part.{Part}
use Rattle.partition_names.specs.Part.{HoldsMoment}
use Rattle.series_model.specs.Series.{end_from, end_of, RisesFrom, before, since, IsRising}
use Rattle.series_model.specs.declared.sample.Sample.{Sample}
use Rattle.store_manifest.specs.Manifest.{ManifestState}
use Rattle.durable_write.specs.Flush.{put_all, with_batch, PlacesRise, file_at}
use Rattle.durable_write.specs.Held.{Filed, samples_of, IsFiled, entry_of, filed_at, IsIn, bytes_of, file_of}
use Rattle.durable_write.proofs.Places.{all_put_all, found, listed_at, rise_put_all}
use Rattle.tier_store.specs.Revival.{AreWhole, samples_at, FlushesOver, fresh}
use Rattle.tier_store.specs.Seen.{Seen, granularities}
use Rattle.tier_store.specs.Stores.{Stores, list_at}
use Rattle.tier_store.specs.declared.limbo.Retired.{Retired}
use Rattle.act_model.specs.Limbo.{RowFile, files_of, put, revived, Fits}
use Rattle.act_model.specs.Machine.{Machine, Appends, MoveState}
use Rattle.act_model.specs.Rows.{RowState, Store, Short, deep, durable, Medium, Long, holds, next_store, tier, is_empty, window}
use Rattle.archive_core.proofs.Lists.{all_of, all_rest, contains_head, of_all, contains_cases, contains_tail}
use Rattle.archive_core.proofs.MoveLimbo.{HaveMachine, same_back as back_of_limbo, own_is, is_of_machine, from_put, have_durable, later_same, none_put, own_free, own_part, has_file, back_at, back_inside, none_window, own_named, some_window, GoTogether, put_append, put_together, rises_before, same_filter, RevivesAs, revives, GoesWith, window_has, StartBy, put_first, holds_at}
use Rattle.tier_store.specs.Reviving.{AreBack, past}
use Rattle.archive_core.proofs.Batches.{told_stands}
use Rattle.tier_store.specs.Revival as revival
use Rattle.std.proofs.Math.Seq.{drop-append_seam}
use Rattle.pv_catalog.specs.Catalogue.{CatalogueState}
use Rattle.series_model.specs.declared.batch.RowSamples.{RowSamples}
use Rattle.series_model.proofs.OverLemmas.{end_of-over}
use Rattle.series_model.proofs.RisingLists.{RisesFrom-lower, end_from-ge}
use Rattle.tier_store.specs.Change.{IsKnown}
use Rattle.tier_store.proofs.Places.{manifest_at, granularity_at}
use Rattle.tier_store.proofs.Revived.{flush_revives}
use Rattle.act_model.specs.Changes.{of_row}
use Rattle.act_model.specs.Crash.{kept_of}
use Rattle.act_model.specs.Sound.{LimboSound, MayMake, CopiesOf}
use Rattle.archive_core.proofs.Windows.{batch_behind, kept_to, taken_durable, files_held, all_in}
use Rattle.act_model.proofs.Copies.{all_append, all_front}
use Rattle.partition_names.specs.declared.granularity.Granularity.{Granularity}
use Rattle.partition_names.proofs.PartLemmas.{one_part, within}
use Rattle.store_manifest.specs.Entries.{Place}
use Rattle.store_manifest.specs.declared.entry.Entry.{Entry}
use Rattle.durable_write.specs.Plan.{of_row as filed_of_row}
use Rattle.tier_store.specs.Moving.{RunsBeside}
use Rattle.tier_store.specs.Pinned.{SeenAll, beside, KeepsShown}
use Rattle.tier_store.specs.Retiring.{oldest}
use Rattle.act_model.specs.MoveStep.{is_later, remaining}
use Rattle.act_model.specs.Rule.{index_of}
use Rattle.archive_core.specs.MoveChoice.{move_end}
use Rattle.archive_core.specs.MoveTies.{GetsOne, GoInto, HasCopies, ends_from}
use Rattle.archive_core.proofs.LimboTying.{contains_filter, from_filter}
use Rattle.archive_core.proofs.MoveChoice.{own_entries, before_oldest, end_put, ahead_own, from_zero}
use Rattle.durable_write.proofs.Written.{put_all_new}
use Rattle.std.proofs.lemmas.List.{take-append-drop}
use Rattle.disk_model.specs.Files.{Content, Name}
use Rattle.disk_model.specs.Past.{MayLeave}
use Rattle.pb_messages.specs.declared.info.PayloadInfo.{PayloadInfo}
use Rattle.pb_lines.specs.File.{IsFile}
use Rattle.pb_lines.proofs.FileLines.{GoesOn}
use Rattle.pb_lines.proofs.FileMeaning.{begin_alike}
use Rattle.store_files.specs.Fronts.{Begins}
use Rattle.archive_core.specs.LimboTies.{filed_of}
use Rattle.archive_core.proofs.Opens.{told_tells}
use Rattle.archive_core.proofs.LimboSwept.{lines_same}
use Rattle.std.proofs.lemmas.List.Folds.{Any-from_list_any, list_any-from_Any}
use Rattle.tier_store.proofs.CopyLimbo.{since_low}
use Rattle.etl_mover.specs.Move.{Moving}
use Rattle.act_model.specs.OpenPiece.{bytes_of as piece_bytes}

-- A flush that goes on in files of limbo: what the stores make of a row's samples is what the machine makes of them.

-- SAMPLES

-- samples that are all before n end no later
end_by : (k n : ℕ) (xs : List Sample) → k ≤ n → AllByRecursion (λ (s : Sample). s.t < n) xs → end_from k xs ≤ n
end_by k n [] low all = low
end_by k n (x ∷ xs) low all = let first = all.0 in end_by (x.t + 1) n xs (omega (arith, first)) all.1

-- rising samples are before their end
before_end : (k n : ℕ) (xs : List Sample) → RisesFrom k xs → end_from k xs ≤ n → AllByRecursion (λ (s : Sample). s.t < n) xs
before_end k n [] rises low = tt
before_end k n (x ∷ xs) rises low = let end = end_from-ge (x.t + 1) xs rises.1 in (omega (arith, end, low), before_end (x.t + 1) n xs rises.1 low)

-- what is true of all samples of a row is true of those of each of its files
abbrev OfRow : (Sample → Type 0) → ℕ → Filed → Type 0
OfRow P i f = f.entry.series ≡ i → AllByRecursion P f.samples

each_of_row : (P : Sample → Type 0) (i : ℕ) (files : List Filed) → AllByRecursion P (samples_of i files) → AllByRecursion (OfRow P i) files
each_of_row P i [] all = tt
each_of_row P i (f ∷ files) all = by_test (nat_eq f.entry.series i) refl all (each_of_row P i files)
  where
    by_test : (b : Bool) → nat_eq f.entry.series i ≡ b → AllByRecursion P (flat_map (λ (h : Filed). h.samples) (cond b (f ∷ filter (λ (h : Filed). nat_eq h.entry.series i) files) (filter (λ (h : Filed). nat_eq h.entry.series i) files))) → (AllByRecursion P (samples_of i files) → AllByRecursion (OfRow P i) files) → AllByRecursion (OfRow P i) (f ∷ files)
    by_test true is both more = ((λ own_files. all_front P f.samples (samples_of i files) both), more (all_rest P f.samples (samples_of i files) both))
    by_test false is rest more = ((λ own_files. absurd (let yes : nat_eq f.entry.series i ≡ true = grind (arith, nat_tests, own_files) in let both : true ≡ false = sym yes ∙ is in cc (both))), more rest)

-- and the other way round
row_of_each : (P : Sample → Type 0) (i : ℕ) (files : List Filed) → AllByRecursion (OfRow P i) files → AllByRecursion P (samples_of i files)
row_of_each P i [] all = tt
row_of_each P i (f ∷ files) all = by_test (nat_eq f.entry.series i) refl (row_of_each P i files all.1)
  where
    by_test : (b : Bool) → nat_eq f.entry.series i ≡ b → AllByRecursion P (samples_of i files) → AllByRecursion P (flat_map (λ (h : Filed). h.samples) (cond b (f ∷ filter (λ (h : Filed). nat_eq h.entry.series i) files) (filter (λ (h : Filed). nat_eq h.entry.series i) files)))
    by_test true is rest = all_append P f.samples (samples_of i files) (all.0 (grind (arith, nat_tests, is))) rest
    by_test false is rest = rest

module _ (tells : Bool) (at : Seen) (limbo : List Retired) (m : Machine) (held : Stores) (have : HaveMachine tells at limbo m held) (told : m.told ≡ true)
    (files : List Filed) (whole : AreWhole 0 tells at limbo held.stands files) (batch : List RowSamples) (made : Stores) (by : FlushesOver limbo files batch held made) (i : ℕ) (r : RowState) (here : slice_get m.rows i ≡ Some r) where
  first : (m : ManifestState) × (slice_get at.manifests 0 ≡ Some m)
  first = manifest_at at.manifests 0 (let three = have.has.known.three in omega (arith, three))

  they_stand : IsTrue held.stands
  they_stand = told_stands tells m.told held.stands have.told_is told

  -- those of the machine, of this row in store 1
  abbrev own_files : List RowFile
  own_files = files_of i Short m.limbo

  back_is : AreBack 0 limbo files held.short by.back
  back_is = let back = by.in_limbo in record { known = back.known; unlisted = back.unlisted; from = back.from; every = back.every }

  of_own : (f : RowFile) → Contains own_files f → Contains m.limbo f × (f.row ≡ i) × (f.store ≡ Short)
  of_own f there = own_is tells at limbo m held have told Short first.0 first.1 i r here files whole held.short (λ p none. none) by.back back_is f there

  was : r.short ≡ samples_of i held.short
  was = (have.holds.each i (kept_of r) (kept_to m.rows i r here)).is.short told

  same_back : (s : Sample) → samples_at by.back i s.t ≡ revived own_files r.short s
  same_back s =
      let known = have.has.known.each 0 first.0 first.1 in
      back_of_limbo tells at limbo m held have told Short first.0 first.1 i r here files whole held.short (λ p none. none) by.back back_is (known.valid.filed.filed they_stand) known.valid.apart s
      ∙ ap (λ (xs : List Sample). revived own_files xs s) (sym was)

  -- WHERE THE BATCH GOES

  row_sound : (end_of (deep r Short) ≤ end_of (durable r)) × (end_of r.short ≤ end_of (durable r))
  row_sound = let row = have.sound.each_row i r here in let end = end_of-over (deep r Short) r.short row.short in (omega (arith, end), omega (arith, end))

  covered : (f : RowFile) → Contains own_files f → end_of f.samples ≤ end_of (durable r)
  covered f there =
      let of = of_own f there in
      let is = of_all (LimboSound m.rule m.told m.rows) m.limbo f have.sound.each_file of.0 in
      let low : end_of f.samples ≤ end_of (deep r f.store) = is.covered r (ap (slice_get m.rows) of.1 ∙ here) told in
      let store : end_of (deep r f.store) ≡ end_of (deep r Short) = ap (λ (s : Store). end_of (deep r s)) of.2 in
      let deeper = row_sound.0 in
      omega (arith, low, store, deeper)

  -- each of the files starts before what is later than all that is durable
  starts : (n : ℕ) → end_of (durable r) ≤ n → StartBy n own_files
  starts n late = all_of (λ (f : RowFile). f.part.start ≤ n) own_files (λ f there.
      let of = of_own f there in
      let is = (have.tie.retired told).each f of.0 in
      let is_filed = is.is.filed in
      let some : f.samples ≡ is_filed.first ∷ is_filed.others = is_filed.some in
      let rises : RisesFrom 0 (is_filed.first ∷ is_filed.others) = subst (λ (xs : List Sample). RisesFrom 0 xs) some is_filed.file.rising in
      let inside : All (λ (s : Sample). HoldsMoment is.file.entry.part s.t) (is_filed.first ∷ is_filed.others) = subst (λ (xs : List Sample). All (λ (s : Sample). HoldsMoment is.file.entry.part s.t) xs) some is_filed.inside in
      let from = (All-contains (λ (s : Sample). HoldsMoment is.file.entry.part s.t) (is_filed.first ∷ is_filed.others) is_filed.first inside (contains_head is_filed.first is_filed.others)).0 in
      let end = end_from-ge (is_filed.first.t + 1) is_filed.others rises.1 in
      let whole_end : end_of f.samples ≡ end_from (is_filed.first.t + 1) is_filed.others = ap end_of some in
      let low = covered f there in
      let start : is.file.entry.part.start ≡ f.part.start = ap (λ (p : Part). p.start) is.is.part in
      omega (arith, from, end, whole_end, low, start, late))

  -- the moment is before the end of what is durable
  abbrev IsBefore : Sample → Type 0
  IsBefore s = s.t < end_of (durable r)

  -- all that store 1 lists and has in limbo of the row ends where what is durable does, or sooner
  both_end : end_of (samples_of i (put_all held.short by.back)) ≤ end_of (durable r)
  both_end = end_by 0 (end_of (durable r)) (samples_of i (put_all held.short by.back)) (omega arith) (row_of_each IsBefore i (put_all held.short by.back) (recursion_from_All (OfRow IsBefore i) (put_all held.short by.back) (all_put_all (OfRow IsBefore i) held.short by.back (All-from_recursion (OfRow IsBefore i) held.short listed) (All-from_recursion (OfRow IsBefore i) by.back back))))
    where
      listed : AllByRecursion (OfRow IsBefore i) held.short
      listed = each_of_row IsBefore i held.short (subst (λ (xs : List Sample). AllByRecursion IsBefore xs) was (before_end 0 (end_of (durable r)) r.short (have.sound.each_row i r here).short row_sound.1))

      back : AllByRecursion (OfRow IsBefore i) by.back
      back = all_of (OfRow IsBefore i) by.back (λ h within series.
          let o = is_of_machine tells at limbo m held have told Short first.0 first.1 i r here files whole held.short (λ p none. none) by.back back_is h within series in
          let rises = (of_all (LimboSound m.rule m.told m.rows) m.limbo o.f have.sound.each_file (of_own o.f o.there).0).rising told in
          subst (λ (xs : List Sample). AllByRecursion IsBefore xs) (sym o.samples) (before_end 0 (end_of (durable r)) o.f.samples rises (covered o.f o.there)))

  module _ (may : MayMake m.rule m.told m.rows m.limbo (Appends batch)) where
    later : RisesFrom (end_of (durable r)) (of_row i batch)
    later = taken_durable m batch i r have.sound may here

    -- the batch is behind all that store 1 lists and has in limbo of the row
    pub batch_over : with_batch i (samples_of i (put_all held.short by.back)) batch ≡ samples_of i (put_all held.short by.back) ++ of_row i batch
    batch_over = let both = samples_of i (put_all held.short by.back) in batch_behind batch i both (RisesFrom-lower (end_of both) (end_of (durable r)) (of_row i batch) later both_end)

    fresh_is : fresh i (samples_of i (put_all held.short by.back)) batch ≡ of_row i batch
    fresh_is = let both = samples_of i (put_all held.short by.back) in ap (drop (length both)) batch_over ∙ drop-append_seam both (of_row i batch)

    -- what the stores put behind the list is what the machine puts there
    put_is : (xs : List Sample) → RisesFrom (end_of (durable r)) xs → samples_of i held.short ++ (revival.revived by.back i xs ++ xs) ≡ put xs own_files r.short
    put_is [] rises = append-nil (samples_of i held.short) ∙ sym was
    put_is (s ∷ xs) rises =
        ap (λ (ys : List Sample). samples_of i held.short ++ (ys ++ s ∷ xs)) (same_back s)
        ∙ (ap (λ (ys : List Sample). ys ++ (revived own_files r.short s ++ s ∷ xs)) (sym was) ∙ sym (put_first s xs own_files r.short (starts s.t rises.0) rises.1))

    pub short_over : (next : CatalogueState) (ns : List ManifestState) → IsKnown next ns made → granularities ns ≡ granularities at.manifests → samples_of i made.short ≡ put (of_row i batch) (files_of i Short m.limbo) r.short
    short_over next ns known same_g =
        flush_revives tells at next ns limbo files batch held made have.has.known known same_g they_stand whole by i
        ∙ (ap (λ (xs : List Sample). samples_of i held.short ++ (revival.revived by.back i xs ++ xs)) fresh_is ∙ put_is (of_row i batch) later)

-- A step of copying: what is left to copy is what remains, and what is ahead then is what the machine puts there.

-- TESTS OF LISTS

any_from : {A : Type 0} (p : A → Bool) (xs : List A) → list_any p xs ≡ true → (x : A) × Contains xs x × (p x ≡ true)
any_from {A} p xs is = let some = Any-from_list_any p xs is in (some.1, (some.0, some.2, some.3), some.4)

any_to : {A : Type 0} (p : A → Bool) (xs : List A) (x : A) → Contains xs x → p x ≡ true → list_any p xs ≡ true
any_to {A} p xs x there is = list_any-from_Any p xs (there.0, x, there.1, there.2, is)

-- what is put is there
put_keeps : (xs : List Sample) (limbo : List RowFile) (listed : List Sample) (s : Sample) → Contains listed s → Contains (put xs limbo listed) s
put_keeps [] limbo listed s there = there
put_keeps (x ∷ xs) limbo listed s there = let more = revived limbo listed x ++ x ∷ [] in put_keeps xs limbo (listed ++ more) s (Contains-append_left listed more s there)

put_has : (xs : List Sample) (limbo : List RowFile) (listed : List Sample) (s : Sample) → Contains xs s → Contains (put xs limbo listed) s
put_has [] limbo listed s there = absurd (let low = there.1 in omega (arith, low))
put_has (x ∷ xs) limbo listed s there = elim (contains_cases x xs s there) [
  | inl own ↦ subst (λ (y : Sample). Contains (put (x ∷ xs) limbo listed) y) own (put_keeps xs limbo (listed ++ (back ++ x ∷ [])) x (Contains-append_right listed (back ++ x ∷ []) x (Contains-append_right back (x ∷ []) x (contains_head x []))))
  | inr later ↦ put_has xs limbo (listed ++ (back ++ x ∷ [])) s later
]
  where
    back : List Sample
    back = revived limbo listed x

-- a sample that is put is one of those, or of a file of limbo into whose partition one of those comes
data PutFor (xs : List Sample) (limbo : List RowFile) (y : Sample) : Type 0 where
  is_put : Contains xs y → PutFor xs limbo y
  comes_back : (x : Sample) (g : RowFile) → Contains xs x → Contains limbo g → holds g.part x.t ≡ true → Contains g.samples y → PutFor xs limbo y

put_more_for : (x : Sample) (xs : List Sample) (limbo : List RowFile) (y : Sample) → PutFor xs limbo y → PutFor (x ∷ xs) limbo y
put_more_for x xs limbo y (is_put there) = is_put (contains_tail x xs y there)
put_more_for x xs limbo y (comes_back z g there among lies has) = comes_back z g (contains_tail x xs z there) among lies has

revived_for : (x : Sample) (xs : List Sample) (limbo : List RowFile) (listed : List Sample) (y : Sample) → Contains (revived limbo listed x) y → PutFor (x ∷ xs) limbo y
revived_for x xs limbo listed y there = by_case (revives limbo listed x) there
  where
    never : {ys : List Sample} → ys ≡ [] → Contains ys y → PutFor (x ∷ xs) limbo y
    never {ys} none has = absurd (let low = (subst (λ (zs : List Sample). Contains zs y) none has).1 in omega (arith, low))

    by_case : {ys : List Sample} → RevivesAs limbo listed x ys → Contains ys y → PutFor (x ∷ xs) limbo y
    by_case {ys} (inl (g, among, lies, inl (bare, are))) has = comes_back x g (contains_head x xs) among lies (subst (λ (zs : List Sample). Contains zs y) are has)
    by_case {ys} (inl (g, among, lies, inr (some, none))) has = never none has
    by_case {ys} (inr (others, none)) has = never none has

put_from : (xs : List Sample) (limbo : List RowFile) (listed : List Sample) (y : Sample) → Contains (put xs limbo listed) y → Contains listed y ⊎ PutFor xs limbo y
put_from [] limbo listed y there = inl there
put_from (x ∷ xs) limbo listed y there = elim (put_from xs limbo (listed ++ (revived limbo listed x ++ x ∷ [])) y there) [
  | inl among ↦ elim (Contains-append_cases listed (revived limbo listed x ++ x ∷ []) y among) [
    | inl was ↦ inl was
    | inr new ↦ inr (elim (Contains-append_cases (revived limbo listed x) (x ∷ []) y new) [
      | inl back ↦ revived_for x xs limbo listed y back
      | inr own ↦ elim (contains_cases x [] y own) [
        | inl same ↦ is_put (subst (λ (z : Sample). Contains (x ∷ xs) z) same (contains_head x xs))
        | inr none ↦ absurd (let low = none.1 in omega (arith, low))
      ]
    ])
  ]
  | inr later ↦ inr (put_more_for x xs limbo y later)
]

-- a sample of all files is one of a file
pub in_one : (fs : List Filed) (s : Sample) → Contains (all_in fs) s → (f : Filed) × Contains fs f × Contains f.samples s
in_one [] s there = absurd (let low = there.1 in omega (arith, low))
in_one (f ∷ fs) s there = elim (Contains-append_cases f.samples (all_in fs) s there) [
  | inl own ↦ (f, contains_head f fs, own)
  | inr later ↦ (let rest = in_one fs s later in (rest.0, contains_tail f fs rest.0 rest.1, rest.2))
]

pub in_all : (fs : List Filed) (f : Filed) (s : Sample) → Contains fs f → Contains f.samples s → Contains (all_in fs) s
in_all [] f s there has = absurd (let low = there.1 in omega (arith, low))
in_all (x ∷ fs) f s there has = elim (contains_cases x fs f there) [
  | inl own ↦ Contains-append_left x.samples (all_in fs) s (subst (λ (h : Filed). Contains h.samples s) (sym own) has)
  | inr later ↦ Contains-append_right x.samples (all_in fs) s (in_all fs f s later has)
]

-- FILES THAT BEGIN ONE CONTENT

-- one goes on with the other's samples, so they have one first sample
first_of : (xs ys : List Sample) (x y : Sample) (us vs : List Sample) (u v : List ℕ) → xs ≡ x ∷ us → ys ≡ y ∷ vs → GoesOn xs ys u v → x ≡ y
first_of xs ys x y us vs u v xs_are ys_are on = let both : y ∷ vs ≡ x ∷ (us ++ on.more) = sym ys_are ∙ (on.list ∙ ap (λ (zs : List Sample). zs ++ on.more) xs_are) in cc (both)

one_first : (a b : List ℕ) (content : Content) (head other : List ℕ) (info about : PayloadInfo) (xs ys : List Sample) (x y : Sample) (us vs : List Sample) → Begins a content → Begins b content → IsFile a head info xs → IsFile b other about ys → xs ≡ x ∷ us → ys ≡ y ∷ vs → x ≡ y
one_first a b None head other info about xs ys x y us vs one two a_is b_is xs_are ys_are = absurd one
one_first a b (Some bytes) head other info about xs ys x y us vs one two a_is b_is xs_are ys_are =
    let u = drop (length a) bytes in
    let v = drop (length b) bytes in
    let same : a ++ u ≡ b ++ v = ap (λ (w : List ℕ). w ++ u) (sym one) ∙ (take-append-drop (length a) bytes ∙ (sym (take-append-drop (length b) bytes) ∙ ap (λ (w : List ℕ). w ++ v) two)) in
    elim (begin_alike a b u v head other info about xs ys a_is b_is same).samples [
      | inl on ↦ first_of xs ys x y us vs u v xs_are ys_are on
      | inr on ↦ sym (first_of ys xs y x vs us v u ys_are xs_are on)
    ]

module _ (tells : Bool) (at : Seen) (limbo : List Retired) (m : Machine) (held : Stores) (have : HaveMachine tells at limbo m held) (rule : m.rule.granularity ≡ granularities at.manifests) (told : m.told ≡ true) (move : MoveState) (n : ManifestState) (managed : slice_get at.manifests (index_of (next_store move.store)) ≡ Some n) (r : RowState) (here : slice_get m.rows move.row ≡ Some r) where
  abbrev to : Store
  to = next_store move.store

  abbrev place : ℕ
  place = index_of to

  abbrev listed : List Filed
  listed = list_at place held

  stands : IsTrue held.stands
  stands = told_stands tells m.told held.stands have.told_is told

  rise_listed : PlacesRise listed
  rise_listed = (have.has.known.each place n managed).valid.apart

  listed_filed : All (IsFiled n.granularity held.rows) listed
  listed_filed = (have.has.known.each place n managed).valid.filed.filed stands

  own_tier : tier r to ≡ samples_of move.row listed
  own_tier = (files_held at.catalogue at.manifests held m (have_durable tells at limbo m held have rule) told move.row r here to).samples

  abbrev own : List RowFile
  own = files_of move.row to m.limbo

  tier_rises : (store : Store) → IsRising (tier r store)
  tier_rises Short = (have.sound.each_row move.row r here).short
  tier_rises Medium = (have.sound.each_row move.row r here).medium
  tier_rises Long = (have.sound.each_row move.row r here).long

  module _ (all : SeenAll) (same_g : granularities all.stores.manifests ≡ granularities at.manifests) (moving : Moving) (files : List Filed) (runs : RunsBeside place tells all moving files held) where
    -- files that a move is to list are such of the store
    pub files_filed : All (IsFiled n.granularity held.rows) files
    files_filed = (runs.ahead.filed n.granularity (ap (λ (gs : List Granularity). slice_get gs place) same_g ∙ granularity_at at.manifests place n managed)).filed stands

    pub ahead_filed : All (IsFiled n.granularity held.rows) (put_all listed files)
    ahead_filed = all_put_all (IsFiled n.granularity held.rows) listed files listed_filed files_filed

  module _ (moving : Moving) (series : moving.series ≡ move.row) (files : List Filed) (runs : RunsBeside place tells (beside at limbo) moving files held) (copies : HasCopies held m.limbo r move files) (into : GoInto (list_at place held) move.copied files) (right : CopiesOf m.limbo r move.row move.store move.copied)
      (retired : List Filed) (whole : AreWhole place tells at limbo held.stands retired) (back : List Filed) (in_limbo : AreBack place limbo retired (put_all listed files) back) where
    abbrev ahead : List Filed
    ahead = put_all listed files

    leads : (p : Place) → file_at p ahead ≡ None → file_at p listed ≡ None
    leads p = none_put files listed p rise_listed

    filed : All (IsFiled n.granularity held.rows) ahead
    filed = ahead_filed (beside at limbo) refl moving files runs

    -- what is ahead ends where the machine's copies do
    ahead_end : end_of (samples_of move.row ahead) ≡ end_from (end_of (tier r to)) move.copied
    ahead_end = ap end_of copies ∙ end_put move.copied own (tier r to)

    -- and no sooner than a file in limbo into whose partition the move has copied
    covers : (f : RowFile) (g : Filed) → Contains own f → file_at (move.row, f.part.start) ahead ≡ Some g → end_from f.part.start f.samples ≤ end_of (samples_of move.row ahead)
    covers f g there stands_there = by_place (listed_at ahead (move.row, f.part.start))
      where
        by_file : (h : Filed) → Contains files h → filed_at h ≡ (move.row, f.part.start) → end_from f.part.start f.samples ≤ end_of (samples_of move.row ahead)
        by_file h new at_place =
            let free = ap (λ (q : Place). file_at q listed) at_place ∙ own_free tells at limbo m held have told to n managed move.row r here retired whole ahead leads back in_limbo f there in
            let one = any_from (λ (s : Sample). holds h.entry.part s.t) move.copied (of_all (GetsOne listed move.copied) files h into.just new free) in
            let s : Sample = one.0 in
            let h_part = (All-contains (IsFiled n.granularity held.rows) files h (files_filed (beside at limbo) refl moving files runs) new).part in
            let f_part = own_part tells at limbo m held have told to n managed move.row r here retired whole ahead leads back in_limbo f there in
            let start : h.entry.part.start ≡ f.part.start = ap (λ (q : Place). q.1) at_place in
            let mine = (within n.granularity h.entry.part h_part).1 in
            let theirs = (within n.granularity f.part f_part).1 in
            let same : h.entry.part ≡ f.part = one_part n.granularity h.entry.part f.part f.part.start h_part f_part (omega (arith, start), omega (arith, start, mine)) (omega arith, theirs) in
            let lies : holds f.part s.t ≡ true = ap (λ (p : Part). holds p s.t) (sym same) ∙ one.2 in
            let fits : Fits own s = of_all (Fits own) move.copied s right.fits one.1 in
            let behind = of_all (λ (x : RowFile). holds x.part s.t ≡ true → end_from x.part.start x.samples ≤ s.t) own f fits there lies in
            let before_end = (of_all (λ (x : Sample). (end_of (tier r to) ≤ x.t) × (x.t < end_from (end_of (tier r to)) move.copied)) move.copied s (rises_before (end_of (tier r to)) move.copied right.rises) one.1).1 in
            let end = ahead_end in
            omega (arith, behind, before_end, end)

        by_place : (file_at (move.row, f.part.start) ahead ≡ None) ⊎ ((h : Filed) × Contains ahead h × (filed_at h ≡ (move.row, f.part.start)) × (file_at (move.row, f.part.start) ahead ≡ Some h)) → end_from f.part.start f.samples ≤ end_of (samples_of move.row ahead)
        by_place (inl none) = absurd (cc (none, stands_there))
        by_place (inr (h, inside, at_place, is)) = elim (from_put files listed h inside) [
          | inl was ↦ absurd (
              let free = own_free tells at limbo m held have told to n managed move.row r here retired whole ahead leads back in_limbo f there in
              let found_it = All-contains (λ (x : Filed). file_at (filed_at x) listed ≡ Some x) listed h (found listed rise_listed) was in
              let there_too : file_at (move.row, f.part.start) listed ≡ Some h = ap (λ (q : Place). file_at q listed) (sym at_place) ∙ found_it in
              cc (free, there_too)
              )
          | inr new ↦ by_file h new at_place
        ]

    -- WHAT IS LEFT IS WHAT REMAINS

    -- the same samples are held back
    pub past_is : (xs : List Sample) → past back move.row (since (end_of (samples_of move.row ahead)) xs) ≡ filter (is_later own) (since (end_of (samples_of move.row ahead)) xs)
    past_is xs =
        let end = end_of (samples_of move.row ahead) in
        let later = since end xs in
        same_filter (λ (s : Sample). nat_le (end_of (samples_at back move.row s.t)) s.t) (is_later own) later
        (all_of (λ (s : Sample). nat_le (end_of (samples_at back move.row s.t)) s.t ≡ is_later own s) later (λ s there.
        later_same tells at limbo m held have told to n managed move.row r here retired whole ahead leads back in_limbo end covers s (of_all (λ (x : Sample). end ≤ x.t) later s (since_low end xs) there)))

    pub left_remains : (count : ℕ) → move.to ≡ move_end held move.store move.row count
        → past back move.row (since (end_of (samples_of move.row ahead)) (all_in (oldest (index_of move.store) move.row count held))) ≡ remaining m r move
    left_remains count ends =
        let source = list_at (index_of move.store) held in
        let fs = filed_of_row move.row source in
        let is = files_held at.catalogue at.manifests held m (have_durable tells at limbo m held have rule) told move.row r here move.store in
        let last : move.to ≡ ends_from 0 (take count (map entry_of fs)) = ends ∙ ap (λ (es : List Entry). ends_from 0 (take count es)) (sym (own_entries move.row source)) in
        let front : all_in (take count fs) ≡ before move.to (tier r move.store) = sym (before_oldest is.unit held.rows 0 count fs is.filed is.apart (from_zero fs)) ∙ (λ k. before (sym last k) (sym is.samples k)) in
        past_is (all_in (take count fs)) ∙ (λ k. filter (is_later own) (since (ahead_end k) (front k)))

    -- WHAT IS PUT

    pub put_more : (copied : List Sample) → GoTogether own (samples_of move.row ahead) copied → samples_of move.row ahead ++ (revival.revived back move.row copied ++ copied) ≡ put (move.copied ++ copied) own (tier r to)
    put_more [] together = append-nil (samples_of move.row ahead) ∙ (copies ∙ sym (put_append move.copied [] own (tier r to)))
    put_more (s ∷ xs) together =
        let all = samples_of move.row ahead in
        let back_is : samples_at back move.row s.t ≡ revived own all s = back_of_limbo tells at limbo m held have told to n managed move.row r here retired whole ahead leads back in_limbo filed (rise_put_all listed files rise_listed) s in
        ap (λ (ys : List Sample). all ++ (ys ++ s ∷ xs)) back_is
        ∙ (sym (put_together s xs own all together) ∙ (ap (put (s ∷ xs) own) copies ∙ sym (put_append move.copied (s ∷ xs) own (tier r to))))

    -- WHERE IT GOES

    module _ (copied : List Sample) (rises : RisesFrom (end_of (tier r to)) (move.copied ++ copied)) (all : SeenAll) (same_g : granularities all.stores.manifests ≡ granularities at.manifests) (new : Moving) (more : List Filed) (then : RunsBeside place tells all new more held) (more_is : samples_of move.row (put_all listed more) ≡ put (move.copied ++ copied) own (tier r to)) where
      -- a sample that is copied stands in a file that is to be listed
      one_into : (s : Sample) → Contains (move.copied ++ copied) s → list_any (λ (f : Filed). holds f.entry.part s.t) more ≡ true
      one_into s there =
          let inside : Contains (all_in (filed_of_row move.row (put_all listed more))) s = subst (λ (xs : List Sample). Contains xs s) (sym more_is) (put_has (move.copied ++ copied) own (tier r to) s there) in
          let one = in_one (filed_of_row move.row (put_all listed more)) s inside in
          by_file one.0 one.1 one.2
        where
          late : end_of (tier r to) ≤ s.t
          late = (of_all (λ (x : Sample). (end_of (tier r to) ≤ x.t) × (x.t < end_from (end_of (tier r to)) (move.copied ++ copied))) (move.copied ++ copied) s (rises_before (end_of (tier r to)) (move.copied ++ copied) rises) there).0

          was_listed : (h : Filed) → Contains listed h → h.entry.series ≡ move.row → Contains h.samples s → ⊥
          was_listed h was own_row has =
              let inside = contains_filter (λ (x : Filed). nat_eq x.entry.series move.row) listed h was (grind (arith, nat_tests, own_row)) in
              let in_tier : Contains (tier r to) s = subst (λ (xs : List Sample). Contains xs s) (sym own_tier) (in_all (filed_of_row move.row listed) h s inside has) in
              let early = (of_all (λ (x : Sample). (0 ≤ x.t) × (x.t < end_of (tier r to))) (tier r to) s (rises_before 0 (tier r to) (tier_rises to)) in_tier).1 in
              omega (arith, early, late)

          by_file : (h : Filed) → Contains (filed_of_row move.row (put_all listed more)) h → Contains h.samples s → list_any (λ (f : Filed). holds f.entry.part s.t) more ≡ true
          by_file h among has =
              let from = from_filter (λ (x : Filed). nat_eq x.entry.series move.row) (put_all listed more) h among in
              let test = from.1 in
              elim (from_put more listed h from.0) [
                | inl was ↦ absurd (was_listed h was (grind (arith, nat_tests, test)) has)
                | inr written ↦ (
                    let is = All-contains (IsFiled n.granularity held.rows) more h (files_filed all same_g new more then) written in
                    let lies : HoldsMoment h.entry.part s.t = All-contains (λ (x : Sample). HoldsMoment h.entry.part x.t) h.samples s is.inside has in
                    let low = lies.0 in
                    let high = lies.1 in
                    any_to (λ (f : Filed). holds f.entry.part s.t) more h written (grind (arith, nat_tests, low, high))
                    )
              ]

      -- Where nothing is listed in the place of a file that is to be, one of all copied samples lies in its partition.
      into_free : new.series ≡ move.row → (f : Filed) → Contains more f → file_at (filed_at f) listed ≡ None → list_any (λ (s : Sample). holds f.entry.part s.t) (move.copied ++ copied) ≡ true
      into_free new_series f written free = by_case (put_from (move.copied ++ copied) own (tier r to) y (subst (λ (xs : List Sample). Contains xs y) more_is (in_all (filed_of_row move.row (put_all listed more)) f y among in_f)))
        where
          f_is : IsFiled n.granularity held.rows f
          f_is = All-contains (IsFiled n.granularity held.rows) more f (files_filed all same_g new more then) written

          y : Sample
          y = f_is.first

          in_f : Contains f.samples y
          in_f = subst (λ (ys : List Sample). Contains ys y) (sym f_is.some) (contains_head y f_is.others)

          y_lies : HoldsMoment f.entry.part y.t
          y_lies = All-contains (λ (z : Sample). HoldsMoment f.entry.part z.t) f.samples y f_is.inside in_f

          own_row : f.entry.series ≡ move.row
          own_row = of_all (λ (h : Filed). h.entry.series ≡ new.series) more f (ahead_own place tells all new more held then) written ∙ new_series

          among : Contains (filed_of_row move.row (put_all listed more)) f
          among = contains_filter (λ (h : Filed). nat_eq h.entry.series move.row) (put_all listed more) f (put_all_new more listed f then.ahead.rise written) (grind (arith, nat_tests, own_row))

          was_listed : Contains (tier r to) y → ⊥
          was_listed there =
              let one = in_one (filed_of_row move.row listed) y (subst (λ (xs : List Sample). Contains xs y) own_tier there) in
              let h : Filed = one.0 in
              let from = from_filter (λ (x : Filed). nat_eq x.entry.series move.row) listed h one.1 in
              let test = from.1 in
              let h_is = All-contains (IsFiled n.granularity held.rows) listed h listed_filed from.0 in
              let lies : HoldsMoment h.entry.part y.t = All-contains (λ (z : Sample). HoldsMoment h.entry.part z.t) h.samples y h_is.inside one.2 in
              let same : h.entry.part ≡ f.entry.part = one_part n.granularity h.entry.part f.entry.part y.t h_is.part f_is.part lies y_lies in
              let its_row : h.entry.series ≡ move.row = grind (arith, nat_tests, test) in
              let one_row : h.entry.series ≡ f.entry.series = its_row ∙ sym own_row in
              let start : h.entry.part.start ≡ f.entry.part.start = ap (λ (p : Part). p.start) same in
              let at_place : filed_at h ≡ filed_at f = λ j. (one_row j, start j) in
              let found_it = All-contains (λ (x : Filed). file_at (filed_at x) listed ≡ Some x) listed h (found listed rise_listed) from.0 in
              let there_too : file_at (filed_at f) listed ≡ Some h = ap (λ (q : Place). file_at q listed) (sym at_place) ∙ found_it in
              cc (free, there_too)

          by_case : Contains (tier r to) y ⊎ PutFor (move.copied ++ copied) own y → list_any (λ (s : Sample). holds f.entry.part s.t) (move.copied ++ copied) ≡ true
          by_case (inl there) = absurd (was_listed there)
          by_case (inr (is_put there)) = any_to (λ (s : Sample). holds f.entry.part s.t) (move.copied ++ copied) y there (holds_at f.entry.part y.t y_lies.0 y_lies.1)
          by_case (inr (comes_back x g there of_limbo lies has)) =
              let file = has_file tells at limbo m held have told to n managed move.row r here retired whole ahead leads back in_limbo g of_limbo in
              let inside : HoldsMoment file.file.entry.part y.t = All-contains (λ (z : Sample). HoldsMoment file.file.entry.part z.t) g.samples y file.is.filed.inside has in
              let g_lies : HoldsMoment g.part y.t = subst (λ (p : Part). HoldsMoment p y.t) file.is.part inside in
              let g_part = own_part tells at limbo m held have told to n managed move.row r here retired whole ahead leads back in_limbo g of_limbo in
              let same : g.part ≡ f.entry.part = one_part n.granularity g.part f.entry.part y.t g_part f_is.part g_lies y_lies in
              any_to (λ (s : Sample). holds f.entry.part s.t) (move.copied ++ copied) x there (ap (λ (p : Part). holds p x.t) (sym same) ∙ lies)

      pub go_into : new.series ≡ move.row → GoInto listed (move.copied ++ copied) more
      go_into new_series = record {
        each = all_of (λ (s : Sample). list_any (λ (f : Filed). holds f.entry.part s.t) more ≡ true) (move.copied ++ copied) one_into;
        just = all_of (GetsOne listed (move.copied ++ copied)) more (into_free new_series);
      }

    -- THE SAMPLES OF ONE STEP

    -- They lie in one partition wherever a file in limbo comes back: a file that is written there begins as that does.
    module _ (later : Seen) (same_g : granularities later.manifests ≡ granularities at.manifests) (later_now : IsTrue tells → MayLeave later.past later.files) (shown : KeepsShown tells (beside at limbo) (beside later limbo)) (new : Moving) (more : List Filed) (then : RunsBeside place tells (beside later limbo) new more held)
        (s : Sample) (xs rest left : List Sample) (are_left : past back move.row left ≡ (s ∷ xs) ++ rest) (ahead_is : samples_of move.row (put_all (list_at place held) more) ≡ samples_of move.row (put_all (list_at place held) files) ++ (samples_at back move.row s.t ++ s ∷ xs)) where
      tells_now : IsTrue tells
      tells_now = told_tells tells m.told held.stands have.told_is told

      filed_then : All (IsFiled n.granularity held.rows) (put_all listed more)
      filed_then = ahead_filed (beside later limbo) same_g new more then

      more_in : All (IsIn (place + 1, held.rows) later.files) more
      more_in = (then.ahead.safe tells_now).left later.files (later_now tells_now) stands

      -- a copied sample is later than the file of its partition that comes back
      behind : (f : RowFile) → Contains own f → file_at (move.row, f.part.start) ahead ≡ None → (y : Sample) → Contains (s ∷ xs) y → holds f.part y.t ≡ true → end_of f.samples ≤ y.t
      behind f there none y has lies =
          let test = (from_filter (λ (x : Sample). nat_le (end_of (samples_at back move.row x.t)) x.t) left y (subst (λ (ys : List Sample). Contains ys y) (sym are_left) (Contains-append_left (s ∷ xs) rest y has))).1 in
          let same = ap end_of (back_at tells at limbo m held have told to n managed move.row r here retired whole ahead leads back in_limbo f there y.t lies none) in
          let low : end_of (samples_at back move.row y.t) ≤ y.t = grind (arith, nat_tests, test) in
          omega (arith, low, same)

      -- Where a sample comes into the partition of a file in limbo, and nothing is ahead there, the first one of the step does too: what is written
      -- there begins as that file does.
      never : (f : RowFile) → Contains own f → file_at (move.row, f.part.start) ahead ≡ None → (x : Sample) → Contains (s ∷ xs) x → holds f.part x.t ≡ true → holds f.part s.t ≡ false → ⊥
      never f there none x has lies apart =
          let were = samples_of move.row ahead in
          let came = samples_at back move.row s.t in
          let fs = filed_of_row move.row (put_all listed more) in
          let one = in_one fs x (subst (λ (ys : List Sample). Contains ys x) (sym ahead_is) (Contains-append_right were (came ++ s ∷ xs) x (Contains-append_right came (s ∷ xs) x has))) in
          let h : Filed = one.0 in
          let from = from_filter (λ (g : Filed). nat_eq g.entry.series move.row) (put_all listed more) h one.1 in
          let test = from.1 in
          let h_is : IsFiled n.granularity held.rows h = All-contains (IsFiled n.granularity held.rows) (put_all listed more) h filed_then from.0 in
          let f_part = own_part tells at limbo m held have told to n managed move.row r here retired whole ahead leads back in_limbo f there in
          let x_lies : HoldsMoment h.entry.part x.t = All-contains (λ (y : Sample). HoldsMoment h.entry.part y.t) h.samples x h_is.inside one.2 in
          let same : h.entry.part ≡ f.part = one_part n.granularity h.entry.part f.part x.t h_is.part f_part x_lies (grind (arith, nat_tests, lies), grind (arith, nat_tests, lies)) in
          let series : h.entry.series ≡ move.row = grind (arith, nat_tests, test) in
          let start : h.entry.part.start ≡ f.part.start = ap (λ (p : Part). p.start) same in
          let at_place : filed_at h ≡ (move.row, f.part.start) = λ j. (series j, start j) in
          let written = is_written f there h from.0 at_place in
          let file = has_file tells at limbo m held have told to n managed move.row r here retired whole ahead leads back in_limbo f there in
          let name : file_of (place + 1, held.rows) h.entry ≡ file.file.name = own_named tells at limbo m held have told to n managed move.row r here retired whole ahead leads back in_limbo f there h (record { row = h_is.row; stands = h_is.stands; part = h_is.part }) at_place in
          let h_front : Begins (bytes_of h) (later.files file.file.name) = subst (λ (k : Name). Begins (bytes_of h) (later.files k)) name (All-contains (IsIn (place + 1, held.rows) later.files) more h more_in written) in
          let plain : piece_bytes f ≡ bytes_of (filed_of file.file.entry f) = ap (λ (bytes : List ℕ). f.head ++ (10 ∷ bytes)) (lines_same f.samples) in
          let f_front : Begins (bytes_of (filed_of file.file.entry f)) (later.files file.file.name) = subst (λ (b : List ℕ). Begins b (later.files file.file.name)) plain ((shown file.file.name (piece_bytes f) file.is.shows).front tells_now) in
          let f_is = file.is.filed in
          let first : f_is.first ≡ h_is.first = one_first (bytes_of (filed_of file.file.entry f)) (bytes_of h) (later.files file.file.name) f.head h.head f_is.info h_is.info f.samples h.samples f_is.first h_is.first f_is.others h_is.others f_front h_front f_is.file h_is.file f_is.some h_is.some in
          let y : Sample = h_is.first in
          let in_h : Contains h.samples y = subst (λ (ys : List Sample). Contains ys y) (sym h_is.some) (contains_head y h_is.others) in
          let in_f : Contains f.samples y = subst (λ (z : Sample). Contains f.samples z) first (subst (λ (ys : List Sample). Contains ys f_is.first) (sym f_is.some) (contains_head f_is.first f_is.others)) in
          let y_in : HoldsMoment h.entry.part y.t = All-contains (λ (z : Sample). HoldsMoment h.entry.part z.t) h.samples y h_is.inside in_h in
          let y_there : HoldsMoment f.part y.t = subst (λ (p : Part). HoldsMoment p y.t) same y_in in
          let y_lies : holds f.part y.t ≡ true = holds_at f.part y.t y_there.0 y_there.1 in
          let among : Contains (were ++ (came ++ s ∷ xs)) y = subst (λ (ys : List Sample). Contains ys y) ahead_is (in_all fs h y one.1 in_h) in
          elim (Contains-append_cases were (came ++ s ∷ xs) y among) [
            | inl was ↦ (
                let some = window_has f.part were y was y_lies in
                let bare = none_window tells at limbo m held have told to n managed move.row r here retired whole ahead leads back in_limbo filed (rise_put_all listed files rise_listed) f.part f_part none in
                let both : true ≡ false = sym bare ∙ some in
                cc (both)
                )
            | inr new_there ↦ elim (Contains-append_cases came (s ∷ xs) y new_there) [
              | inl back_there ↦ (
                  let inside = back_inside tells at limbo m held have told to n managed move.row r here retired whole ahead leads back in_limbo s.t y back_there f there y_lies in
                  let both : true ≡ false = sym inside ∙ apart in
                  cc (both)
                  )
              | inr copied_there ↦ (
                  let low = behind f there none y copied_there y_lies in
                  let high = (of_all (λ (z : Sample). (0 ≤ z.t) × (z.t < end_of f.samples)) f.samples y (rises_before 0 f.samples f_is.file.rising) in_f).1 in
                  omega (arith, low, high)
                  )
            ]
          ]
        where
          is_written : (f : RowFile) → Contains own f → (h : Filed) → Contains (put_all listed more) h → filed_at h ≡ (move.row, f.part.start) → Contains more h
          is_written f there h inside at_place = elim (from_put more listed h inside) [
            | inl was ↦ absurd (
                let free = own_free tells at limbo m held have told to n managed move.row r here retired whole ahead leads back in_limbo f there in
                let found_it = All-contains (λ (z : Filed). file_at (filed_at z) listed ≡ Some z) listed h (found listed rise_listed) was in
                let there_too : file_at (move.row, f.part.start) listed ≡ Some h = ap (λ (q : Place). file_at q listed) (sym at_place) ∙ found_it in
                cc (free, there_too)
                )
            | inr is_new ↦ is_new
          ]

      pub goes_with : AllByRecursion (GoesWith own (samples_of move.row ahead) s) xs
      goes_with = all_of (GoesWith own (samples_of move.row ahead) s) xs (λ x inside. all_of (λ (f : RowFile). holds f.part x.t ≡ true → (holds f.part s.t ≡ true) ⊎ (is_empty (window f.part (samples_of move.row ahead)) ≡ false)) own (λ f there lies. by_cases f there x inside lies (file_at (move.row, f.part.start) ahead) refl (holds f.part s.t) refl))
        where
          by_cases : (f : RowFile) → Contains own f → (x : Sample) → Contains xs x → holds f.part x.t ≡ true → (o : Option Filed) → file_at (move.row, f.part.start) ahead ≡ o → (b : Bool) → holds f.part s.t ≡ b → (holds f.part s.t ≡ true) ⊎ (is_empty (window f.part (samples_of move.row ahead)) ≡ false)
          by_cases f there x inside lies (Some g) is b with_it = inr (some_window tells at limbo m held have told to n managed move.row r here retired whole ahead leads back in_limbo filed (rise_put_all listed files rise_listed) f.part (own_part tells at limbo m held have told to n managed move.row r here retired whole ahead leads back in_limbo f there) g is)
          by_cases f there x inside lies None none true with_it = inl with_it
          by_cases f there x inside lies None none false apart = absurd (never f there none x (contains_tail s xs x inside) lies apart)
