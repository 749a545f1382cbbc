-- What `adopt` makes of a disk, whatever it comes to.
use Rattle.std.proofs.Common.{◌≡◌, ◌≢◌, ◌⊎◌, inl, inr, ℕ, zero, suc, ◌+◌, Bool, true, List, [], ◌∷◌, ◌++◌, length, take, Option, refl, sym, ◌∙◌, ap, subst, append_assoc, append-nil, arith}
use Rattle.std.specs.Prelude.{IsTrue, codes, decimal}
use Rattle.std.specs.Io.KnownBytes.{Appends}
use Rattle.std.proofs.lemmas.List.{take_all}
use Rattle.edge_io.specs.Moments.{Moments}
use Rattle.edge_io.specs.Stream.{AppendsFront}
use Rattle.edge_io.specs.declared.stream.Sink.{Ghosts as OfSink}
use Rattle.disk_model.specs.Files.{Name, Files}
use Rattle.disk_model.specs.Past.{Past, MayLeave, Passes}
use Rattle.disk_model.specs.declared.disk.Disk.{Ghosts}
use Rattle.disk_model.proofs.Passing.{passes_weaker}
use Rattle.etl_rules.specs.Config.{ConfigState}
use Rattle.partition_names.specs.declared.granularity.Granularity.{Granularity}
use Rattle.pv_catalog.specs.declared.row.Row.{Row}
use Rattle.series_model.specs.Archive.{IsPrefix}
use Rattle.series_model.specs.declared.sample.Sample.{Sample}
use Rattle.store_manifest.specs.declared.entry.Entry.{Entry}
use Rattle.durable_write.specs.Held.{KeepsListed}
use Rattle.durable_write.specs.Writing.{LeavesListed}
use Rattle.durable_write.proofs.Staying.{keeps_outside}
use Rattle.tier_store.specs.Seen.{granularities, seen}
use Rattle.tier_store.specs.Stored.{HoldsAll}
use Rattle.tier_store.specs.Stores.{Stores, samples_in}
use Rattle.tier_store.specs.declared.store.TierStore.{TierStore}
use Rattle.tier_store.proofs.Holding.{has_left}
use Rattle.store_reopen.specs.Adoption.{Adopts, AdoptsFrom, HasAdopted, IsAdoption, adopt_disk_in}
use Rattle.store_reopen.specs.Reopen.{HoldsEither, OpensEither, SameStores, disk_in, stores_of}
use Rattle.store_reopen.specs.Steps.{Step, NewRow, Lists, made_by, stage}
use Rattle.store_reopen.specs.Strays.{IsGone, adoption_name}
use Rattle.store_reopen.specs.Verdict.{Differs, IsDamaged, IsWhole}
use Rattle.store_reopen.specs.declared.adopted.Adopted.{Adopted}
use Rattle.store_reopen.specs.declared.adopted.AdoptErr.{AdoptErr}
use Rattle.store_reopen.specs.declared.adopted.AdoptErr.TheVariants as adopting
use Rattle.store_reopen.specs.declared.error.ReopenErr.{ReopenErr}
use Rattle.store_reopen.specs.declared.error.ReopenErr.TheVariants as reopening
use Rattle.store_reopen.proofs.TakenFiles.{adoption_extends}
use Rattle.command_words.specs.declared.command.Command.TheVariants.{OverStore}
use Rattle.command_words.specs.declared.command.StoreCommand.TheVariants as command
use Rattle.command_words.specs.declared.status.Status.{Status}
use Rattle.command_words.specs.declared.status.Status.TheVariants.{Done, SinkFault, DiskFault, OutOfMemory}
use Rattle.archiver_appliance.specs.Adopting.{AdoptsInPlace, AdoptsInto, HoldsFront, IsWritten, TellsAdopted, adopted_text, beside, line_of, stop_of}
use Rattle.archiver_appliance.specs.Judging.{Judges, refusal_of}
use Rattle.archiver_appliance.specs.Run.{Does, EndsAs, Makes, MakesOfRead, NoDamage, Serves}
use Rattle.archiver_appliance.proofs.Judgements.{OneVerdict, exactly, refusal_judges, whole_alone}
use Rattle.archiver_appliance.proofs.Opening.{opening_reads, reads_open}
use Rattle.archiver_appliance.proofs.Outcomes.{refused_ends}
use Rattle.archiver_appliance.proofs.Refusals.{refusal_cuts, refusal_undamaged, refused_makes, unasked}

-- THE LINE

-- the pieces of the line are its text
pub adopted_line : (told : Adopted) (first files samples rows skipped cut : List ℕ) → first ≡ codes "adopted " → files ≡ decimal told.files → samples ≡ decimal told.samples → rows ≡ decimal told.rows → skipped ≡ decimal told.skipped → cut ≡ decimal told.cut
    → first ++ (files ++ (codes " " ++ (samples ++ (codes " " ++ (rows ++ (codes " skipped " ++ (skipped ++ (codes " cut " ++ (cut ++ (codes "\n" ++ [])))))))))) ≡ adopted_text told
adopted_line told first files samples rows skipped cut is a b c d e =
    ap (λ (t : List ℕ). t ++ (files ++ (codes " " ++ (samples ++ (codes " " ++ (rows ++ (codes " skipped " ++ (skipped ++ (codes " cut " ++ (cut ++ codes "\n")))))))))) is
    ∙ ap (λ (t : List ℕ). line_of t samples rows skipped cut) a ∙ ap (λ (t : List ℕ). line_of (decimal told.files) t rows skipped cut) b ∙ ap (λ (t : List ℕ). line_of (decimal told.files) (decimal told.samples) t skipped cut) c
    ∙ ap (λ (t : List ℕ). line_of (decimal told.files) (decimal told.samples) (decimal told.rows) t cut) d ∙ ap (λ (t : List ℕ). line_of (decimal told.files) (decimal told.samples) (decimal told.rows) (decimal told.skipped) t) e

-- FRONTS OF THE STEPS

made_stands : (steps : List Step) (held : Stores) → IsTrue held.stands → IsTrue (made_by steps held).stands
made_stands [] held stands = stands
made_stands (NewRow name about ∷ steps) held stands = made_stands steps _ stands
made_stands (Lists i files ∷ steps) held stands = made_stands steps _ stands

stage_none : (steps : List Step) (held : Stores) → stage steps held 0 ≡ held
stage_none [] held = refl
stage_none (x ∷ xs) held = refl

prefix_then : (a b c : List Sample) → IsPrefix a b → IsPrefix b c → IsPrefix a c
prefix_then a b c one two = (one.0 ++ two.0, two.1 ∙ ap (λ (x : List Sample). x ++ two.0) one.1 ∙ append_assoc a one.0 two.0)

same_prefix : (a b : List Sample) → b ≡ a → IsPrefix a b
same_prefix a b is = ([], is ∙ sym (append-nil a))

module _ (gs : List Granularity) (image : Files) (held : Stores) (steps : List Step) (whole : Bool) (rule : IsAdoption whole gs image held steps) (row : ℕ) where
  abbrev At : ℕ → List Sample
  At k = samples_in row (stage steps held k)

  from_first : (k : ℕ) → IsPrefix (samples_in row held) (samples_in row (stage steps held k))
  from_first zero = same_prefix (samples_in row held) (At 0) (ap (samples_in row) (stage_none steps held))
  from_first (suc k) = prefix_then (samples_in row held) (At k) (At (suc k)) (from_first k) (adoption_extends whole gs image held steps rule k row)

  onward : (k n : ℕ) → IsPrefix (samples_in row (stage steps held k)) (samples_in row (stage steps held (n + k)))
  onward k zero = let is : 0 + k ≡ k = omega arith in same_prefix (At k) (At (0 + k)) (ap (λ (j : ℕ). samples_in row (stage steps held j)) is)
  onward k (suc n) =
      let is : suc (n + k) ≡ suc n + k = omega arith in
      subst (λ (j : ℕ). IsPrefix (samples_in row (stage steps held k)) (samples_in row (stage steps held j))) is (prefix_then (At k) (At (n + k)) (At (suc (n + k))) (onward k n) (adoption_extends whole gs image held steps rule (n + k) row))

  to_last : (k : ℕ) → IsPrefix (samples_in row (stage steps held k)) (samples_in row (made_by steps held))
  to_last k = subst (λ (xs : List Step). IsPrefix (At k) (samples_in row (made_by xs held))) (take_all (length steps + k) steps (omega arith)) (onward k (length steps))

holds_front : (gs : List Granularity) (image : Files) (held : Stores) (steps : List Step) (whole : Bool) → IsAdoption whole gs image held steps → (k : ℕ) (later : Files) → HoldsAll gs later (stage steps held k) → HoldsFront gs held steps later
holds_front gs image held steps whole rule k later holds = record {
  made = k;
  holds = holds;
  stands = made_stands (take k steps) held;
  extends = λ row. from_first gs image held steps whole rule row k;
  extended = λ row. to_last gs image held steps whole rule row k;
}

-- FROM THE CALL ON

-- what is listed of a store stays where no store changes
same_listed : (files later : Files) (old new : Past) (i : ℕ) (rows : List Row) (entries : List Entry) → SameStores files later → Passes SameStores old new → LeavesListed ((i + 1, rows), entries) files later old new
same_listed files later old new i rows entries now ever =
    let one : ◌≢◌ {A = ℕ} (i + 1) 0 = λ is. absurd (omega (arith, is)) in
    record { now = keeps_outside ((i + 1, rows), entries) 0 files later one now; any_moment = passes_weaker SameStores (KeepsListed ((i + 1, rows), entries)) old new ever (λ a c left same. keeps_outside ((i + 1, rows), entries) 0 a c one same) }

module _ {K D R : Type 0} (snk : OfSink K) (disk : Ghosts D R) (config : ConfigState) (first given : D) (adopts : Adopts disk (stores_of config) first given) (source : Option (List ℕ)) (clock : Option Moments) (reads : ℕ) (k k' : K) where
  -- what was made of what is held, once it is known what is written
  into : (status : Status) (before after : Stores) (whole : Bool) (from : AdoptsFrom whole disk (stores_of config) first given before after)
      → TellsAdopted (stores_of config) (disk.files first) from.held from.steps (disk.past given) (snk.written k) (snk.written k') status ⊎ ((snk.written k' ≡ snk.written k) × ((status ≡ DiskFault) ⊎ (status ≡ OutOfMemory)))
      → AdoptsInto (HoldsEither (stores_of config) before after) (stores_of config) (disk.files first) from.held (disk.past first) (disk.past given) (snk.written k) (snk.written k') status
  into status before after whole from told = record {
    steps = from.steps;
    rule = (whole, from.rule);
    any_moment = passes_weaker (λ a b. HoldsEither (stores_of config) before after b ⊎ ((n : ℕ) × HoldsAll (stores_of config) b (stage from.steps from.held n))) (λ a b. HoldsEither (stores_of config) before after b ⊎ HoldsFront (stores_of config) from.held from.steps b)
        (disk.past first) (disk.past given) from.any_moment (λ a b left holds. elim holds [
          | inl was ↦ inl was
          | inr now ↦ inr (holds_front (stores_of config) (disk.files first) from.held from.steps whole from.rule now.0 b now.1)
        ]);
    leaves = from.opens;
    tells_adopted = told;
  }

  -- whatever the listed files are
  in_place : (status : Status) → (IsWritten status → IsGone (disk.files given) (disk.past given) adoption_name)
      → ((IsWritten status → ⊥) → snk.written k' ≡ snk.written k)
      → AdoptsInPlace (stores_of config) (beside source clock reads snk disk k first) (beside source clock reads snk disk k' given) status
  in_place status finished quiet = record {
    elsewhere = adopts.elsewhere;
    stores = adopts.stores;
    site = adopts.site;
    marked = adopts.marked;
    finished = finished;
    quiet = quiet;
    found = adopts.found;
  }

  serves : (status : Status) → Judges (stores_of config) command.Adopt (disk.files first) status
      → ((before after : Stores) → OpensEither (stores_of config) (disk.past first) before after → MakesOfRead config command.Adopt before after (beside source clock reads snk disk k first) (beside source clock reads snk disk k' given) status)
      → AdoptsInPlace (stores_of config) (beside source clock reads snk disk k first) (beside source clock reads snk disk k' given) status
      → Serves config command.Adopt (beside source clock reads snk disk k first) (beside source clock reads snk disk k' given) status
  serves status judges makes places = record {
    judges = judges;
    makes = makes;
    tells = λ w. tt;
    reads = λ none. let only = adopts.only none in opening_reads disk (stores_of config) first given only.0 only.1;
    listed = λ w keeps i low. same_listed (disk.files first) (disk.files given) (disk.past first) (disk.past given) i w.rows (w.lists i) adopts.elsewhere adopts.stores;
    rewrites_none = λ is. places;
  }

-- It is done, and its numbers are written, or a front of them.
module _ {K D R : Type 0} (snk : OfSink K) (disk : Ghosts D R) (config : ConfigState) (first : D) (store : TierStore D R) (verdict : OneVerdict) (source : Option (List ℕ)) (clock : Option Moments) (reads : ℕ) (k k' : K) (told : Adopted) (status : Status)
    (known : granularities store.manifests.items ≡ stores_of config) (line : ((status ≡ Done) × Appends (snk.written k) (snk.written k') (adopted_text told)) ⊎ ((status ≡ SinkFault) × AppendsFront (snk.written k) (snk.written k') (adopted_text told))) where
  by_line : (P : Status → Type 0) → P Done → P SinkFault → P status
  by_line P done failed = elim line [ inl one ↦ subst P (sym one.0) done | inr one ↦ subst P (sym one.0) failed ]

  -- what is told is what was made
  tells_all : IsTrue disk.tells → (before after : Stores) → (has : HasAdopted disk (stores_of config) first store told before after)
      → TellsAdopted (stores_of config) (disk.files first) has.adopts.held has.adopts.steps (disk.past store.disk) (snk.written k) (snk.written k') status
  tells_all tells before after has =
      let from = has.adopts in
      record {
        whole = from.rule;
        told = told;
        counts = has.counts;
        all = λ later left. subst (λ (gs : List Granularity). HoldsAll gs later (made_by from.steps from.held)) known (has_left disk.tells (seen disk store) (made_by from.steps from.held) has.has tells later left);
        line = line;
      }

  done_makes : IsTrue disk.tells → Adopts disk (stores_of config) first store.disk → (before after : Stores) → OpensEither (stores_of config) (disk.past first) before after → HasAdopted disk (stores_of config) first store told before after
      → MakesOfRead config command.Adopt before after (beside source clock reads snk disk k first) (beside source clock reads snk disk k' store.disk) status
  done_makes tells adopts before after opens has =
      let from = has.adopts in
      record {
        first = from.held;
        either = from.either;
        read = from.read;
        makes = inr (into snk disk config first store.disk adopts source clock reads k k' status before after true from (inl (tells_all tells before after has)));
        undamaged = λ stand. by_line NoDamage tt tt;
      }

  pub adopted_does : (IsTrue disk.tells → IsWhole (stores_of config) (disk.files first)) → (IsTrue disk.tells → Adopts disk (stores_of config) first store.disk)
      → (IsTrue disk.tells → (before after : Stores) → OpensEither (stores_of config) (disk.past first) before after → HasAdopted disk (stores_of config) first store told before after)
      → (IsTrue disk.tells → IsGone (disk.files store.disk) (disk.past store.disk) adoption_name)
      → Does config disk.tells (OverStore command.Adopt) (beside source clock reads snk disk k first) (beside source clock reads snk disk k' store.disk) status
  adopted_does whole adopts has gone = (
    by_line (EndsAs command.Adopt source) tt tt,
    λ tells.
        let fine = whole_alone (stores_of config) (disk.files first) (whole tells) in
        let judges = by_line (Judges (stores_of config) command.Adopt (disk.files first)) fine fine in (
          serves snk disk config first store.disk (adopts tells) source clock reads k k' status judges (λ before after opens. done_makes tells (adopts tells) before after opens (has tells before after opens))
              (in_place snk disk config first store.disk (adopts tells) source clock reads k k' status (λ written. gone tells) (λ none. absurd (none (by_line IsWritten (inl refl) (inr refl))))),
          exactly verdict (stores_of config) command.Adopt (disk.files first) status judges,
        ),
  )

-- It isn't opened, or is cut off, and nothing is written.
refusal_unwritten : {D R : Type 0} (err : ReopenErr D R) → IsWritten (refusal_of err) → ⊥
refusal_unwritten {D} {R} (reopening.DiskFault d) written = elim written [ inl is ↦ cc (is) | inr is ↦ cc (is) ]
refusal_unwritten {D} {R} (reopening.Damaged d name at) written = elim written [ inl is ↦ cc (is) | inr is ↦ cc (is) ]
refusal_unwritten {D} {R} (reopening.GranularityDiffers d kept other) written = elim written [ inl is ↦ cc (is) | inr is ↦ cc (is) ]
refusal_unwritten {D} {R} (reopening.Memory d) written = elim written [ inl is ↦ cc (is) | inr is ↦ cc (is) ]

module _ {K D R : Type 0} (snk : OfSink K) (disk : Ghosts D R) (config : ConfigState) (first given : D) (verdict : OneVerdict) (source : Option (List ℕ)) (clock : Option Moments) (reads : ℕ) (k : K) (err : ReopenErr D R)
    (damaged : IsTrue disk.tells → (d : D) (name : Name) (at : ℕ) → err ≡ reopening.Damaged d name at → IsDamaged (stores_of config) (disk.files first) name at)
    (differs : IsTrue disk.tells → (d : D) (kept other : Granularity) → err ≡ reopening.GranularityDiffers d kept other → Differs (stores_of config) (disk.files first) kept other) where
  cut_makes : IsTrue disk.tells → Adopts disk (stores_of config) first given → MayLeave (disk.past first) (disk.files first) → (before after : Stores) → OpensEither (stores_of config) (disk.past first) before after
      → MakesOfRead config command.Adopt before after (beside source clock reads snk disk k first) (beside source clock reads snk disk k given) (refusal_of err)
  cut_makes tells adopts seen before after opens = elim (adopts.makes before after opens) [
    | inl only ↦
        refused_makes config (beside source clock reads snk disk k first) (beside source clock reads snk disk k given) refl refl refl
        (reads_open disk (stores_of config) first given only) verdict err (damaged tells) (differs tells) command.Adopt seen before after opens
    | inr some ↦ record {
      first = some.1.held;
      either = some.1.either;
      read = some.1.read;
      makes = by_cut some.0 some.1 (refusal_cuts verdict (stores_of config) (disk.files first) err (damaged tells) (differs tells));
      undamaged = refusal_undamaged verdict (stores_of config) (disk.files first) err (damaged tells) (differs tells) refl some.1.held some.1.read;
    }
  ]
    where
      by_cut : (whole : Bool) (from : AdoptsFrom whole disk (stores_of config) first given before after) → (refusal_of err ≡ DiskFault) ⊎ (refusal_of err ≡ OutOfMemory) ⊎ (IsWhole (stores_of config) (disk.files first) → ⊥)
          → Makes config command.Adopt before after from.held (beside source clock reads snk disk k first) (beside source clock reads snk disk k given) (refusal_of err)
      by_cut whole from (inl fault) = inr (into snk disk config first given adopts source clock reads k k (refusal_of err) before after whole from (inr (refl, inl fault)))
      by_cut whole from (inr (inl memory)) = inr (into snk disk config first given adopts source clock reads k k (refusal_of err) before after whole from (inr (refl, inr memory)))
      by_cut whole from (inr (inr none)) =
          inl (unasked config (beside source clock reads snk disk k first) (beside source clock reads snk disk k given) refl refl refl (reads_open disk (stores_of config) first given (adopts.only none).0) (refusal_of err) (inr (inr none)))

  cut_does : (IsTrue disk.tells → Adopts disk (stores_of config) first given) → (IsTrue disk.tells → MayLeave (disk.past first) (disk.files first))
      → Does config disk.tells (OverStore command.Adopt) (beside source clock reads snk disk k first) (beside source clock reads snk disk k given) (refusal_of err)
  cut_does adopts seen = (
    refused_ends command.Adopt source err,
    λ tells.
        let judges = refusal_judges (stores_of config) command.Adopt (disk.files first) err (damaged tells) (differs tells) in (
          serves snk disk config first given (adopts tells) source clock reads k k (refusal_of err) judges (cut_makes tells (adopts tells) (seen tells))
              (in_place snk disk config first given (adopts tells) source clock reads k k (refusal_of err) (λ written. absurd (refusal_unwritten err written)) (λ none. refl)),
          exactly verdict (stores_of config) command.Adopt (disk.files first) (refusal_of err) judges,
        ),
  )

-- so it is of each cause
pub stopped_does : {K D R : Type 0} (snk : OfSink K) (disk : Ghosts D R) (config : ConfigState) (first : D) (verdict : OneVerdict) (source : Option (List ℕ)) (clock : Option Moments) (reads : ℕ) (k : K) (err : AdoptErr D R)
    → (IsTrue disk.tells → (d : D) (name : Name) (at : ℕ) → err ≡ adopting.Reopen (reopening.Damaged d name at) → IsDamaged (stores_of config) (disk.files first) name at)
    → (IsTrue disk.tells → (d : D) (kept other : Granularity) → err ≡ adopting.Reopen (reopening.GranularityDiffers d kept other) → Differs (stores_of config) (disk.files first) kept other)
    → (IsTrue disk.tells → Adopts disk (stores_of config) first (adopt_disk_in err)) → (IsTrue disk.tells → MayLeave (disk.past first) (disk.files first))
    → Does config disk.tells (OverStore command.Adopt) (beside source clock reads snk disk k first) (beside source clock reads snk disk k (adopt_disk_in err)) (stop_of err)
stopped_does {K} {D} {R} snk disk config first verdict source clock reads k (adopting.Reopen err) damaged differs adopts seen =
    cut_does snk disk config first (disk_in err) verdict source clock reads k err (λ told d name at is. damaged told d name at (ap (λ e. adopting.Reopen e) is)) (λ told d kept other is. differs told d kept other (ap (λ e. adopting.Reopen e) is)) adopts seen
