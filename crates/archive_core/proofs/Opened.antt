-- The machine of an archive that was just opened, and acts that only read.
use Rattle.std.proofs.Common.{◌≡◌, List, true, refl, sym, ◌∙◌, ap, subst, ℕ, length, Bool, Some, inl, zero, suc, [], ◌∷◌, arith, ◌+◌, ◌++◌, ◌<◌, ◌≤◌, get_or, length-append, append-nil, false, Option, None, max, inr}
use Rattle.std.specs.Prelude.{slice_get, IsTrue, ◌&&◌, map, slice_index}
use Rattle.std.proofs.lemmas.Option.{same_Some}
use Rattle.pv_catalog.specs.declared.row.Row.{Row}
use Rattle.tier_store.specs.Stores.{Stores, list_at, whole_in}
use Rattle.act_model.specs.Machine.{Machine, PinState, MoveState, held_bytes, find_row}
use Rattle.act_model.specs.Rows.{accepted, RowState, Store, Short, Medium, Long, durable, tier}
use Rattle.std.proofs.lemmas.List.{length-map}
use Rattle.series_model.specs.Series.{over, end_of, IsRising}
use Rattle.series_model.specs.declared.sample.Sample.{Sample}
use Rattle.store_manifest.specs.Manifest.{ManifestState}
use Rattle.durable_write.specs.Held.{Filed, samples_of}
use Rattle.tier_store.specs.Change.{Has, OnlyReads}
use Rattle.tier_store.specs.Pinned.{beside, SeenAll, LeavesFronts}
use Rattle.tier_store.specs.Seen.{Seen, granularities, AtEach, IsSettled}
use Rattle.act_model.specs.Crash.{DurableRow, kept, kept_of}
use Rattle.act_model.specs.NextLife.{opened, listed_row, with_next}
use Rattle.act_model.specs.Rule.{Rule, index_of}
use Rattle.act_model.specs.Whole.{whole, known, past, wholes, AllFollow}
use Rattle.archive_core.specs.Opening.{IsOpened, end_at, memories, memory_of, next_in}
use Rattle.archive_core.specs.Stands.{Rests, IsDurable, HoldsDurable, HasSettings, TellsHeaders, Stands, AreDurable, IsDurableAt}
use Rattle.durable_write.specs.Ends.{End, IsFailed}
use Rattle.archive_core.specs.Parts.{Parts}
use Rattle.std.specs.FinMap.{FinMap, get, empty, get-empty}
use Rattle.std.specs.Ordering.{nat_cmp}
use Rattle.std.proofs.lemmas.Bool.Decides.{nat_tests}
use Rattle.series_model.specs.Sampling.{first_cell}
use Rattle.series_model.proofs.OverLemmas.{end_of-over, over_rising}
use Rattle.pv_name.specs.Key.{key_of}
use Rattle.pv_catalog.specs.Rows.{AreRows, HasKey, HasName}
use Rattle.pins.specs.Pieces.{PinOf}
use Rattle.tier_store.proofs.ReadCalls.{stand_none}
use Rattle.tier_store.specs.declared.limbo.Retired.{Retired}
use Rattle.tier_store.proofs.Revived.{none_whole}
use Rattle.act_model.specs.Sound.{BasesSound, RowSound, IsSound}
use Rattle.act_model.proofs.Wholes.{whole_is}
use Rattle.act_model.specs.Changes.{each}
use Rattle.etl_rules.specs.Config.{ConfigState}
use Rattle.moves.specs.declared.table.Running.{Running}
use Rattle.archive_core.specs.MoveTies.{AreMovesOf}
use Rattle.intake_half.specs.declared.memory.RowMemory.{RowMemory}
use Rattle.archive_core.specs.LimboTies.{AreBare}
use Rattle.archive_core.specs.Memory.{AreRowsOf, IsRowOf}
use Rattle.archive_core.specs.Pins.{ArePinsOf}
use Rattle.intake.specs.Tails.{TailState, tail_at}
use Rattle.archive_core.proofs.KeptRows.{row_at}
use Rattle.intake_half.proofs.Sampled.{sampling_cell, sampling_period}
use Rattle.archive_core.proofs.LimboTying.{empty_limbo}
use Rattle.archive_core.proofs.Lists.{element, get_front, get_last}
use Rattle.archive_core.proofs.MoveChoice.{place_end, place_rises}
use Rattle.moves.specs.Table as table
use Rattle.durable_write.specs.Plan.{of_row}
use Rattle.tier_store.specs.Details.{AreCounted, IsDescribed, SaysDescribed, none_has, is_described}
use Rattle.tier_store.specs.Opening.{end_of_answer}
use Rattle.tier_store.specs.Telling.{ReadsOf}
use Rattle.act_model.specs.declared.acts.Answer.{Answer}
use Rattle.act_model.specs.declared.details.Details.{Details}
use Rattle.act_model.specs.Details.{Describes, IsDetails, first_time, last_time, details_refused}
use Rattle.act_model.specs.Reply.{Reply, reply_of}
use Rattle.archive_core.specs.Ends.{AskEnds, is_spent, is_failed, is_answered}
use Rattle.archive_core.proofs.Registered.{end_kind, details_never_want, find_some}
use Rattle.archive_core.proofs.Batches.{told_stands}
use Rattle.archive_core.proofs.Acting.{rests_again, IsAct}
use Rattle.archive_core.proofs.Opens.{told_tells}
use Rattle.archive_core.proofs.MovesKept.{parts_of, row_parts}
use Rattle.archive_core.proofs.Windows.{accepted_held, whole_held, kept_from as from_kept}
use Rattle.archive_core.proofs.Settled.{rests_has}
use Rattle.tier_store.specs.Frame.{Frame}
use Rattle.act_model.specs.declared.acts.Answer.TheVariants as answer
use Rattle.disk_model.specs.Past.{Passes}
use Rattle.disk_model.proofs.Passing.{passes_none, passes_then}
use Rattle.pv_catalog.specs.Catalogue.{CatalogueState}
use Rattle.tier_store.proofs.Frames.{fronts_on, fronts_read, nothing_fronts}
use Rattle.archive_core.specs.Acting.{Settling}
use Rattle.archive_core.specs.Leaving.{ReadsAlone, files_of}
use Rattle.act_model.proofs.NextLife.{opened_follow}
use Rattle.etl_mover.specs.Move.{Moving}
use Rattle.act_model.specs.declared.acts.Act.TheVariants.{Details as DetailsAct}

-- The machine of an archive that was just opened.

-- THE ROWS

-- what a store lists of a row, where that is told
abbrev listed : Bool → ℕ → List Filed → List Sample
listed true i files = samples_of i files
listed false i files = []

abbrev row_of : Bool → List RowMemory → Stores → ℕ → Row → RowState
row_of told kept held i row = record { name = row.name; about = row.about; state = row.state; base = row.base; next = next_in kept (Some i); tail = []; cell = first_cell; short = listed told i held.short; medium = listed told i held.medium; long = listed told i held.long }

abbrev rows_from : Bool → List RowMemory → Stores → ℕ → List Row → List RowState
rows_from told kept held k [] = []
rows_from told kept held k (row ∷ rows) = row_of told kept held k row ∷ rows_from told kept held (k + 1) rows

get_from : (told : Bool) (kept : List RowMemory) (held : Stores) (k : ℕ) (rows : List Row) (i : ℕ) (r : RowState) → slice_get (rows_from told kept held k rows) i ≡ Some r → (row : Row) × (slice_get rows i ≡ Some row) × (r ≡ row_of told kept held (k + i) row)
get_from told kept held k [] i r here = absurd (cc (here))
get_from told kept held k (row ∷ rows) zero r here = let plain : k ≡ k + 0 = omega arith in (row, refl, sym (same_Some (row_of told kept held k row) r here) ∙ ap (λ (n : ℕ). row_of told kept held n row) plain)
get_from told kept held k (row ∷ rows) (suc i) r here =
    let rest = get_from told kept held (k + 1) rows i r here in
    let next : (k + 1) + i ≡ k + suc i = omega arith in
    (rest.0, rest.1, rest.2 ∙ ap (λ (n : ℕ). row_of told kept held n rest.0) next)

get_to : (told : Bool) (kept : List RowMemory) (held : Stores) (k : ℕ) (rows : List Row) (i : ℕ) (row : Row) → slice_get rows i ≡ Some row → slice_get (rows_from told kept held k rows) i ≡ Some (row_of told kept held (k + i) row)
get_to told kept held k [] i row here = absurd (cc (here))
get_to told kept held k (x ∷ rows) zero row here = let plain : k ≡ k + 0 = omega arith in ap (λ (w : Row). Some (row_of told kept held k w)) (same_Some x row here) ∙ ap (λ (n : ℕ). Some (row_of told kept held n row)) plain
get_to told kept held k (x ∷ rows) (suc i) row here = let next : (k + 1) + i ≡ k + suc i = omega arith in get_to told kept held (k + 1) rows i row here ∙ ap (λ (n : ℕ). Some (row_of told kept held n row)) next

length_from : (told : Bool) (kept : List RowMemory) (held : Stores) (k : ℕ) (rows : List Row) → length (rows_from told kept held k rows) ≡ length rows
length_from told kept held k [] = refl
length_from told kept held k (row ∷ rows) = ap suc (length_from told kept held (k + 1) rows)

none_held : (told : Bool) (kept : List RowMemory) (held : Stores) (k : ℕ) (rows : List Row) → held_bytes (rows_from told kept held k rows) ≡ 0
none_held told kept held k [] = refl
none_held told kept held k (row ∷ rows) = let rest = none_held told kept held (k + 1) rows in omega (arith, rest)

-- WHAT IS KEPT OF EACH

module _ (ms : List ManifestState) where
  -- it stays so as rows follow
  kept_stays : (rows : List Row) (before : List RowMemory) (i : ℕ) (memory : RowMemory) → slice_get before i ≡ Some memory → slice_get (memories ms before rows) i ≡ Some memory
  kept_stays [] before i memory here = here
  kept_stays (row ∷ rows) before i memory here = kept_stays rows (before ++ memory_of ms before row ∷ []) i memory (get_front before (memory_of ms before row ∷ []) i memory here)

  next_stays : (rows : List Row) (before : List RowMemory) (base : Option ℕ) → ((b : ℕ) → base ≡ Some b → b < length before) → next_in (memories ms before rows) base ≡ next_in before base
  next_stays rows before None low = refl
  next_stays rows before (Some b) low =
      let memory = element before b (low b refl) in
      let here = memory.1 in
      let there = kept_stays rows before b memory.0 memory.1 in
      rw (here, there) refl

  -- and each row takes what is later than its base
  row_kept : (rows : List Row) (before : List RowMemory) (k : ℕ) (row : Row) → slice_get rows k ≡ Some row → ((b : ℕ) → row.base ≡ Some b → b < length before + k) → slice_get (memories ms before rows) (length before + k) ≡ Some (memory_of ms (memories ms before rows) row)
  row_kept [] before k row here low = absurd (cc (here))
  row_kept (x ∷ rows) before zero row here low =
      let one : RowMemory = memory_of ms before x in
      let plain : length before + 0 ≡ length before = omega arith in
      let below : (b : ℕ) → x.base ≡ Some b → b < length before = λ b is. (let l = low b (ap (λ (w : Row). w.base) (sym (same_Some x row here)) ∙ is) in omega (arith, l)) in
      let stays = next_stays (x ∷ rows) before x.base below in
      ap (slice_get (memories ms (before ++ one ∷ []) rows)) plain
      ∙ (kept_stays rows (before ++ one ∷ []) (length before) one (get_last before one)
      ∙ (ap (λ (n : ℕ). Some (record one { next = max (max (max (end_at ms 2 x.id) (end_at ms 1 x.id)) (end_at ms 0 x.id)) n })) (sym stays)
      ∙ ap (λ (w : Row). Some (memory_of ms (memories ms before (x ∷ rows)) w)) (same_Some x row here)))
  row_kept (x ∷ rows) before (suc k) row here low =
      let one : RowMemory = memory_of ms before x in
      let longer : length (before ++ one ∷ []) ≡ length before + 1 = length-append before (one ∷ []) in
      let next : length before + suc k ≡ length (before ++ one ∷ []) + k = omega (arith, longer) in
      ap (slice_get (memories ms (before ++ one ∷ []) rows)) next ∙ row_kept rows (before ++ one ∷ []) k row here (λ b is. (let l = low b is in omega (arith, l, longer)))

  pub memories_push : (rows : List Row) (before : List RowMemory) (row : Row) → memories ms before (rows ++ row ∷ []) ≡ memories ms before rows ++ memory_of ms (memories ms before rows) row ∷ []
  memories_push [] before row = refl
  memories_push (x ∷ rows) before row = memories_push rows (before ++ memory_of ms before x ∷ []) row

-- THE WHOLE OF EACH

-- what the rows list is what is durable of them
listed_wholes : (before : List (List Sample)) (rs : List RowState) → wholes durable before (map listed_row (map kept_of rs)) ≡ wholes durable before rs
listed_wholes before [] = refl
listed_wholes before (r ∷ rs) = listed_wholes (before ++ over (known before r.base) (durable r) ∷ []) rs

abbrev no_pins : FinMap nat_cmp PinState
no_pins = empty

abbrev no_own_pins : FinMap nat_cmp PinOf
no_own_pins = empty

abbrev no_moves : FinMap nat_cmp MoveState
no_moves = empty

no_pin : (n : ℕ) (pin : PinState) → get no_pins n ≡ Some pin → ⊥
no_pin n pin here = let none : get no_pins n ≡ None = get-empty nat_cmp n in let bad = sym none ∙ here in absurd (cc (bad))

no_move : (n : ℕ) (move : MoveState) → get no_moves n ≡ Some move → ⊥
no_move n move here = let none : get no_moves n ≡ None = get-empty nat_cmp n in let bad = sym none ∙ here in absurd (cc (bad))

both_true : (a b : Bool) → (a && b) ≡ true → IsTrue b
both_true true true is = refl
both_true true false is = absurd (cc (is))
both_true false b is = absurd (cc (is))

module _ (tells : Bool) (at : Seen) (held : Stores) (disk : IsTrue held.stands → IsTrue tells) (has : Has tells at held) (are : AreRows at.catalogue.rows) (rule : Rule) (doors : ℕ) (same_g : rule.granularity ≡ granularities at.manifests) (headers : TellsHeaders rule) (config : ConfigState) (settings : HasSettings at config rule) (slots : List (Option (Running Moving))) (none_runs : (n : ℕ) → table.at slots n ≡ None) where
  abbrev ms : List ManifestState
  ms = at.manifests

  abbrev rows : List Row
  rows = at.catalogue.rows

  abbrev kept_all : List RowMemory
  kept_all = memories ms [] rows

  abbrev rows_at : Bool → List RowState
  rows_at told = rows_from told kept_all held 0 rows

  -- the row of this number
  get_row : (told : Bool) (i : ℕ) (r : RowState) → slice_get (rows_at told) i ≡ Some r → (row : Row) × (slice_get rows i ≡ Some row) × (r ≡ row_of told kept_all held i row)
  get_row told i r here =
      let from = get_from told kept_all held 0 rows i r here in
      let plain : 0 + i ≡ i = omega arith in
      (from.0, from.1, from.2 ∙ ap (λ (n : ℕ). row_of told kept_all held n from.0) plain)

  has_row : (told : Bool) (i : ℕ) (row : Row) → slice_get rows i ≡ Some row → slice_get (rows_at told) i ≡ Some (row_of told kept_all held i row)
  has_row told i row here = let plain : 0 + i ≡ i = omega arith in get_to told kept_all held 0 rows i row here ∙ ap (λ (n : ℕ). Some (row_of told kept_all held n row)) plain

  base_low : (i : ℕ) (row : Row) → slice_get rows i ≡ Some row → (b : ℕ) → row.base ≡ Some b → b < i
  base_low i row here b is = (are.over i row b here is).below

  memory_at : (i : ℕ) (row : Row) → slice_get rows i ≡ Some row → slice_get kept_all i ≡ Some (memory_of ms kept_all row)
  memory_at i row here = let plain : 0 + i ≡ i = omega arith in ap (slice_get kept_all) (sym plain) ∙ row_kept ms rows [] i row here (λ b is. let low = base_low i row here b is in omega (arith, low))

  -- where the stores stand, what was durable of the row ends where its lists do
  row_rises : (i : ℕ) (row : Row) → IsTrue held.stands → IsRising (durable (row_of true kept_all held i row))
  row_rises i row stands = over_rising (over (samples_of i held.long) (samples_of i held.medium)) (samples_of i held.short) (over_rising (samples_of i held.long) (samples_of i held.medium) (place_rises at held tells has stands 2 i (omega arith)) (place_rises at held tells has stands 1 i (omega arith))) (place_rises at held tells has stands 0 i (omega arith))

  row_end : (i : ℕ) (row : Row) → IsTrue held.stands → slice_get rows i ≡ Some row → max (end_of (durable (row_of true kept_all held i row))) (next_in kept_all row.base) ≡ (memory_of ms kept_all row).next
  row_end i row stands here =
      let id : row.id ≡ i = are.ids i row here in
      let short = place_end at held tells has stands 0 i (omega arith) in
      let medium = place_end at held tells has stands 1 i (omega arith) in
      let long = place_end at held tells has stands 2 i (omega arith) in
      let deep : end_of (over (samples_of i held.long) (samples_of i held.medium)) ≡ max (end_of (samples_of i held.long)) (end_of (samples_of i held.medium)) = end_of-over (samples_of i held.long) (samples_of i held.medium) (place_rises at held tells has stands 1 i (omega arith)) in
      let all : end_of (durable (row_of true kept_all held i row)) ≡ max (end_of (over (samples_of i held.long) (samples_of i held.medium))) (end_of (samples_of i held.short)) = end_of-over (over (samples_of i held.long) (samples_of i held.medium)) (samples_of i held.short) (place_rises at held tells has stands 0 i (omega arith)) in
      let next : (memory_of ms kept_all row).next ≡ max (max (max (end_at ms 2 i) (end_at ms 1 i)) (end_at ms 0 i)) (next_in kept_all row.base) = ap (λ (n : ℕ). max (max (max (end_at ms 2 n) (end_at ms 1 n)) (end_at ms 0 n)) (next_in kept_all row.base)) id in
      cc (short, medium, long, deep, all, next)

  -- and the whole of it where the memory says
  whole_ends : IsTrue held.stands → (n i : ℕ) (row : Row) → i < n → slice_get rows i ≡ Some row → end_of (whole durable (rows_at true) i) ≡ next_in kept_all (Some i)
  whole_ends stands zero i row low here = absurd (omega (arith, low))
  whole_ends stands (suc n) i row low here =
      let r = row_of true kept_all held i row in
      let whole_same = whole_is durable (rows_at true) i r (has_row true i row here) (base_low i row here) in
      let before = by_base row.base refl (λ b base lower there. whole_ends stands n b base lower there) in
      let both : end_of (over (past durable (rows_at true) row.base) (durable r)) ≡ max (end_of (past durable (rows_at true) row.base)) (end_of (durable r)) = end_of-over (past durable (rows_at true) row.base) (durable r) (row_rises i row stands) in
      let own = row_end i row stands here in
      let there = memory_at i row here in
      let next : next_in kept_all (Some i) ≡ (memory_of ms kept_all row).next = rw there refl in
      ap end_of whole_same ∙ (both ∙ grind (arith, nat_tests, before, own, next))
    where
      by_base : (o : Option ℕ) → row.base ≡ o → ((b : ℕ) (base : Row) → b < n → slice_get rows b ≡ Some base → end_of (whole durable (rows_at true) b) ≡ next_in kept_all (Some b)) → end_of (past durable (rows_at true) o) ≡ next_in kept_all o
      by_base None is below = refl
      by_base (Some b) is below = let o = are.over i row b here is in let lower : b < i = o.below in below b o.base (omega (arith, low, lower)) o.here

  whole_end : IsTrue held.stands → (i : ℕ) (row : Row) → slice_get rows i ≡ Some row → end_of (whole durable (rows_at true) i) ≡ next_in kept_all (Some i)
  whole_end stands i row here = whole_ends stands (suc i) i row (omega arith) here

  row_sound : (told : Bool) (i : ℕ) (row : Row) → (told ≡ true → IsTrue held.stands) → slice_get rows i ≡ Some row → RowSound told (row_of told kept_all held i row)
  row_sound true i row stands here =
      let end = row_end i row (stands refl) here in
      let there = memory_at i row here in
      let next : next_in kept_all (Some i) ≡ (memory_of ms kept_all row).next = rw there refl in
      record {
        short = place_rises at held tells has (stands refl) 0 i (omega arith);
        medium = place_rises at held tells has (stands refl) 1 i (omega arith);
        long = place_rises at held tells has (stands refl) 2 i (omega arith);
        later = tt;
        next = omega (arith, end, next);
      }
  row_sound false i row stands here = record { short = tt; medium = tt; long = tt; later = tt; next = omega arith }

  -- all that is durable is accepted
  all_wholes : (told : Bool) (k : ℕ) (rs : List Row) (before : List (List Sample)) → wholes accepted before (rows_from told kept_all held k rs) ≡ wholes durable before (rows_from told kept_all held k rs)
  all_wholes told k [] before = refl
  all_wholes told k (row ∷ rs) before =
      let r = row_of told kept_all held k row in
      ap (λ (xs : List Sample). wholes accepted (before ++ over (known before r.base) xs ∷ []) (rows_from told kept_all held (k + 1) rs)) (append-nil (durable r)) ∙ all_wholes told (k + 1) rs (before ++ over (known before r.base) (durable r) ∷ [])

  all_whole : (told : Bool) (i : ℕ) → whole accepted (rows_at told) i ≡ whole durable (rows_at told) i
  all_whole told i = ap (λ (ws : List (List Sample)). get_or ws i []) (all_wholes told 0 rows [])

  -- where it isn't told none is durable
  no_whole : (n i : ℕ) (row : Row) → i < n → slice_get rows i ≡ Some row → whole durable (rows_at false) i ≡ []
  no_whole zero i row low here = absurd (omega (arith, low))
  no_whole (suc n) i row low here =
      whole_is durable (rows_at false) i (row_of false kept_all held i row) (has_row false i row here) (base_low i row here) ∙ (append-nil (past durable (rows_at false) row.base) ∙ by_base row.base refl (λ b base lower there. no_whole n b base lower there))
    where
      by_base : (o : Option ℕ) → row.base ≡ o → ((b : ℕ) (base : Row) → b < n → slice_get rows b ≡ Some base → whole durable (rows_at false) b ≡ []) → past durable (rows_at false) o ≡ []
      by_base None is below = refl
      by_base (Some b) is below = let o = are.over i row b here is in let lower : b < i = o.below in below b o.base (omega (arith, low, lower)) o.here

  next_exact : IsTrue held.stands → (i : ℕ) (r : RowState) → slice_get (rows_at true) i ≡ Some r → r.next ≡ end_of (whole accepted (rows_at true) i)
  next_exact stands i r here =
      let from = get_row true i r here in
      ap (λ (w : RowState). w.next) from.2 ∙ (sym (whole_end stands i from.0 from.1) ∙ ap end_of (sym (all_whole true i)))

  next_ends : (told : Bool) → (told ≡ true → IsTrue held.stands) → (i : ℕ) (r : RowState) → slice_get (rows_at told) i ≡ Some r → end_of (whole accepted (rows_at told) i) ≤ r.next
  next_ends true stands i r here = let exact = next_exact (stands refl) i r here in omega (arith, exact)
  next_ends false stands i r here =
      let from = get_row false i r here in
      let none : end_of (whole accepted (rows_at false) i) ≡ 0 = ap end_of (all_whole false i ∙ no_whole (suc i) i from.0 (omega arith) from.1) in
      omega (arith, none)

  nexts_exact : (told : Bool) → (told ≡ true → IsTrue held.stands) → told ≡ true → (i : ℕ) (r : RowState) → slice_get (rows_at told) i ≡ Some r → r.next ≡ end_of (whole accepted (rows_at told) i)
  nexts_exact true stands on = next_exact (stands refl)
  nexts_exact false stands on = absurd (cc (on))

  bases_sound : (told : Bool) → (told ≡ true → IsTrue held.stands) → BasesSound told (rows_at told)
  bases_sound told stands = record {
    over = λ i r b here is.
        let from = get_row told i r here in
        let own : from.0.base ≡ Some b = ap (λ (w : RowState). w.base) (sym from.2) ∙ is in
        let o = are.over i from.0 b from.1 own in
        record { base = row_of told kept_all held b o.base; here = has_row told b o.base o.here; below = o.below; retired = o.retired; about = o.about ∙ ap (λ (w : RowState). w.about) (sym from.2); none = refl };
    one = λ i j b r q here there is own.
        let a = get_row told i r here in
        let c = get_row told j q there in
        are.one_base i j b a.0 c.0 a.1 c.1 (ap (λ (w : RowState). w.base) (sym a.2) ∙ is) (ap (λ (w : RowState). w.base) (sym c.2) ∙ own);
    end = next_ends told stands;
    exact = nexts_exact told stands;
  }

  abbrev machine : Bool → Machine
  machine told = record { rule = rule; rows = rows_at told; limbo = []; pins = no_pins; moves = no_moves; doubt = None; doors = doors; faults = at.faults; told = told }

  has_key : (told : Bool) (i : ℕ) (r : RowState) (key : List ℕ) → slice_get (rows_at told) i ≡ Some r → key_of r.name ≡ key → HasKey rows i key
  has_key told i r key here is =
      let from = get_row told i r here in
      record { row = from.0; here = from.1; is = ap (λ (w : RowState). key_of w.name) (sym from.2) ∙ is }

  sound : (told : Bool) → (told ≡ true → IsTrue held.stands) → IsSound (machine told)
  sound told stands = record {
    few = let same = length_from told kept_all held 0 rows in let few = are.few in omega (arith, same, few);
    keys = λ i j a b here there same. are.one_key i j (key_of b.name) (has_key told i a (key_of b.name) here same) (has_key told j b (key_of b.name) there refl);
    each_row = λ i r here. let from = get_row told i r here in subst (λ (w : RowState). RowSound told w) (sym from.2) (row_sound told i from.0 stands from.1);
    bases = bases_sound told stands;
    lines = λ i r here. let from = get_row told i r here in rw from.2 (record { tail = tt; held = tt });
    intake = let none = none_held told kept_all held 0 rows in omega (arith, none);
    doubted = λ c is. absurd (cc (is));
    each_move = λ n move here. absurd (no_move n move here);
    one_move = λ n k move other here there same. absurd (no_move n move here);
    each_file = tt;
    each_unlisted = tt;
    places = λ t. tt;
    pinned = λ t n pin here. absurd (no_pin n pin here);
  }

  memory : (told : Bool) → AreRowsOf rows kept_all [] (rows_at told)
  memory told = record {
    count = length_from told kept_all held 0 rows;
    each = λ i r here.
        let from = get_row told i r here in
        let there = memory_at i from.0 from.1 in
        let next : next_in kept_all (Some i) ≡ (memory_of ms kept_all from.0).next = rw there refl in
        record { row = from.0; memory = memory_of ms kept_all from.0; here = from.1; there = there; is = subst (λ (w : RowState). IsRowOf [] i from.0 (memory_of ms kept_all from.0) w) (sym from.2) (record { name = refl; about = refl; state = refl; base = refl; next = next; cell = sampling_cell from.0.about.method; period = sampling_period from.0.about.method; tail = refl }) };
    beyond = λ i high. refl;
  }

  kept_from : (told : Bool) (i : ℕ) (d : DurableRow) → slice_get (map kept_of (rows_at told)) i ≡ Some d → (row : Row) × (slice_get rows i ≡ Some row) × (d ≡ kept_of (row_of told kept_all held i row))
  kept_from told i d here =
      let r = from_kept (rows_at told) i d here in
      let from = get_row told i r.0 r.1 in
      (from.0, from.1, sym r.2 ∙ ap kept_of from.2)

  own_durable : (told : Bool) (i : ℕ) (row : Row) → IsDurable told held i row (kept_of (row_of told kept_all held i row))
  own_durable true i row = record { name = refl; about = refl; state = refl; base = refl; short = λ t. refl; medium = λ t. refl; long = λ t. refl }
  own_durable false i row = record { name = refl; about = refl; state = refl; base = refl; short = λ t. absurd (cc (t)); medium = λ t. absurd (cc (t)); long = λ t. absurd (cc (t)) }

  holds : (told : Bool) → HoldsDurable held (machine told)
  holds told = record {
    count = length-map (rows_at told) kept_of ∙ (length_from told kept_all held 0 rows ∙ ap length has.known.rows);
    each = λ i d here.
        let from = kept_from told i d here in
        record { row = from.0; here = ap (λ (rs : List Row). slice_get rs i) (sym has.known.rows) ∙ from.1; is = subst (λ (w : DurableRow). IsDurable told held i from.0 w) (sym from.2) (own_durable told i from.0) };
  }

  -- where it is told, each row is as it is opened
  rows_fresh : (k : ℕ) (rs : List Row) → IsTrue held.stands → ((i : ℕ) (row : Row) → slice_get rs i ≡ Some row → slice_get rows (k + i) ≡ Some row)
      → rows_from true kept_all held k rs ≡ each (with_next (map listed_row (map kept_of (rows_at true)))) k (map listed_row (map kept_of (rows_from true kept_all held k rs)))
  rows_fresh k [] stands there = refl
  rows_fresh k (row ∷ rs) stands there =
      let plain : k + 0 ≡ k = omega arith in
      let here : slice_get rows k ≡ Some row = ap (slice_get rows) (sym plain) ∙ there 0 row refl in
      let end : next_in kept_all (Some k) ≡ end_of (whole durable (map listed_row (map kept_of (rows_at true))) k) = sym (whole_end stands k row here) ∙ ap (λ (ws : List (List Sample)). end_of (get_or ws k [])) (sym (listed_wholes [] (rows_at true))) in
      let head = ap (λ (n : ℕ). record (row_of true kept_all held k row) { next = n }) end in
      let tail = rows_fresh (k + 1) rs stands (λ i r got. let next : (k + 1) + i ≡ k + suc i = omega arith in ap (slice_get rows) next ∙ there (suc i) r got) in
      cc (head, tail)

  fresh : (told : Bool) → (told ≡ true → IsTrue held.stands) → told ≡ true → machine told ≡ opened rule true doors at.faults (kept (machine told))
  fresh true stands is = ap (λ (rs : List RowState). record (machine true) { rows = rs }) (rows_fresh 0 rows (stands refl) (λ i row here. let plain : 0 + i ≡ i = omega arith in ap (slice_get rows) plain ∙ here))
  fresh false stands is = absurd (cc (is))

  -- where it isn't told, no row shows a sample
  bare_rows : (told : Bool) → told ≡ false → AreBare (rows_at told)
  bare_rows true off = absurd (cc (off))
  bare_rows false off = λ i row store here. let from = get_row false i row here in ap (λ (r : RowState). tier r store) from.2 ∙ none_listed i from.0 store
    where
      none_listed : (i : ℕ) (row : Row) (store : Store) → tier (row_of false kept_all held i row) store ≡ []
      none_listed i row Short = refl
      none_listed i row Medium = refl
      none_listed i row Long = refl

  -- nothing is pinned
  empty_pins : (told : Bool) → ArePinsOf tells (beside at []) told (rows_at told) no_pins no_own_pins
  empty_pins told = record { none = λ n none. get-empty nat_cmp n; each = λ n pin here. absurd (no_pin n pin here); stand = stand_none tells (beside at []) }

  -- no move runs
  empty_moves : (told : Bool) → AreMovesOf tells (beside at []) told (rows_at told) [] held no_moves slots
  empty_moves told = record { none = λ n none. none_runs n; each = λ n move here. absurd (let nowhere : get no_moves n ≡ None = get-empty nat_cmp n in cc (nowhere, here)) }

  pub opened_rests : (m : Machine) × IsOpened rule m × HoldsDurable held m × Rests tells (record { at = at; limbo = []; pinned = no_own_pins; tails = []; kept = kept_all; doubt = None; doors = doors; config = config; slots = slots }) m × (m.doors ≡ doors) × (m.told ≡ (tells && held.stands))
  opened_rests =
      let told = tells && held.stands in
      let stands : told ≡ true → IsTrue held.stands = both_true tells held.stands in (
        machine told,
        record { of_rule = refl; fresh = fresh told stands },
        holds told,
        record {
          stands = record {
            sound = sound told stands;
            rule = record { granularity = same_g; headers = headers };
            limbo = empty_limbo tells at told (rows_at told) (bare_rows told);
            settings = settings;
            pins = empty_pins told;
            faults = refl;
            doors = refl;
            rows = memory told;
            doubt = tt;
            ready = tt;
            store = record { before = held; told = refl; disk = disk; holds = holds told; whole = λ i within. ([], none_whole i tells at [] held.stands (λ k d low. absurd (omega (arith, low)))); moves = empty_moves told; is_open = inl has };
          };
          settled = refl;
        },
        refl,
        refl,
      )

-- STORES OF A DISK THAT TELLS NOTHING

-- they don't stand
abbrev lowered : Bool → Stores → Stores
lowered tells held = record held { stands = tells && held.stands }

lowered_has : (tells : Bool) (at : Seen) (held : Stores) → Has tells at held → Has tells at (lowered tells held)
lowered_has true at held has = has
lowered_has false at held has = record {
  known = record {
    three = has.known.three;
    rows = has.known.rows;
    each = λ i m here.
        let is = has.known.each i m here in
        record {
          entries = is.entries;
          valid = record { keys = is.valid.keys; filed = record { numbered = is.valid.filed.numbered; listed = is.valid.filed.listed; filed = λ stands. absurd (cc (stands)) }; apart = is.valid.apart };
        };
  };
  settled = has.settled;
  disk = λ told. absurd (cc (told));
}

lowered_told : (tells stands : Bool) → (tells && (tells && stands)) ≡ (tells && stands)
lowered_told true stands = refl
lowered_told false stands = refl

lowered_stands : (tells : Bool) (held : Stores) → IsTrue (lowered tells held).stands → IsTrue tells
lowered_stands true held stands = refl
lowered_stands false held stands = absurd (cc (stands))

-- what they hold is the same
lowered_holds : (tells : Bool) (held : Stores) (m : Machine) → HoldsDurable (lowered tells held) m → HoldsDurable held m
lowered_holds tells held m holds = record {
  count = holds.count;
  each = λ i r here.
      let is = holds.each i r here in
      record { row = is.row; here = is.here; is = record { name = is.is.name; about = is.is.about; state = is.is.state; base = is.is.base; short = is.is.short; medium = is.is.medium; long = is.is.long } };
}

-- THE ARCHIVE

-- by what is in memory then
pub opened_as : (tells : Bool) (at : Seen) (held : Stores) → Has tells at held → AreRows at.catalogue.rows → (rule : Rule) (doors : ℕ) → rule.granularity ≡ granularities at.manifests → TellsHeaders rule → (config : ConfigState) → HasSettings at config rule → (slots : List (Option (Running Moving))) → ((n : ℕ) → table.at slots n ≡ None)
    → (limbo : List Retired) (pinned : FinMap nat_cmp PinOf) (tails : List TailState) (kept : List RowMemory) → limbo ≡ [] → pinned ≡ empty → tails ≡ [] → kept ≡ memories at.manifests [] at.catalogue.rows
    → (m : Machine) × IsOpened rule m × HoldsDurable held m × Rests tells (record { at = at; limbo = limbo; pinned = pinned; tails = tails; kept = kept; doubt = None; doors = doors; config = config; slots = slots }) m × (m.doors ≡ doors) × (m.told ≡ (tells && held.stands))
opened_as tells at held has are rule doors same_g headers config settings slots none_runs limbo pinned tails kept none_retired none_pinned none is =
    let r = opened_rests tells at (lowered tells held) (lowered_stands tells held) (lowered_has tells at held has) are rule doors same_g headers config settings slots none_runs in
    let rows = at.catalogue.rows in
    let own = memories at.manifests [] rows in
    let unpinned : Rests tells (record { at = at; limbo = []; pinned = pinned; tails = []; kept = own; doubt = None; doors = doors; config = config; slots = slots }) r.0 =
    subst (λ (q : FinMap nat_cmp PinOf). Rests tells (record { at = at; limbo = []; pinned = q; tails = []; kept = own; doubt = None; doors = doors; config = config; slots = slots }) r.0) (sym none_pinned) r.3 in
    let empty_limbo : Rests tells (record { at = at; limbo = limbo; pinned = pinned; tails = []; kept = own; doubt = None; doors = doors; config = config; slots = slots }) r.0 =
    subst (λ (l : List Retired). Rests tells (record { at = at; limbo = l; pinned = pinned; tails = []; kept = own; doubt = None; doors = doors; config = config; slots = slots }) r.0) (sym none_retired) unpinned in
    let empty_tails : Rests tells (record { at = at; limbo = limbo; pinned = pinned; tails = tails; kept = own; doubt = None; doors = doors; config = config; slots = slots }) r.0 =
    subst (λ (t : List TailState). Rests tells (record { at = at; limbo = limbo; pinned = pinned; tails = t; kept = own; doubt = None; doors = doors; config = config; slots = slots }) r.0) (sym none) empty_limbo in
    (r.0, r.1, lowered_holds tells held r.0 r.2, subst (λ (k : List RowMemory). Rests tells (record { at = at; limbo = limbo; pinned = pinned; tails = tails; kept = k; doubt = None; doors = doors; config = config; slots = slots }) r.0) (sym is) empty_tails, r.4, r.5 ∙ lowered_told tells held.stands)

-- The act that tells details: what the stores tell is what the machine tells.

module _ (R : Type 0) (tells reader_tells : Bool) (bytes : R → List ℕ) (faults : R → ℕ) (p : Parts) (m : Machine) (r : Rests tells p m) (i : ℕ) (name : List ℕ) (named : HasName p.at.catalogue.rows i name) (result : Answer R) (new : Seen)
    (says : ReadsOf (SaysDescribed tells name (tail_at p.tails i).samples) (end_of_answer result) r.stands.store.before) (has_new : Has tells new r.stands.store.before) (same_g : granularities new.manifests ≡ granularities p.at.manifests) (frame : Frame tells (beside p.at p.limbo) (beside new p.limbo)) (reads : OnlyReads tells p.at new (end_of_answer result)) where
  abbrev held : Stores
  held = r.stands.store.before

  abbrev tail : List Sample
  tail = (tail_at p.tails i).samples

  abbrev n : Machine
  n = record m { faults = new.faults }

  abbrev Ends : Answer R → Type 0
  Ends given = AskEnds tells (Describes name) p m (record p { at = new }) (reply_of reader_tells bytes faults given)

  -- the archive stands for the machine as it did
  read : Stands tells (record p { at = new }) n
  read = rests_again tells p m r new same_g frame has_new

  same_rows : p.at.catalogue.rows ≡ held.rows
  same_rows = (rests_has tells p m r).known.rows

  module _ (k : ℕ) (d : Details) (has : HasName held.rows k name) (is : IsDescribed tells held k tail d) where
    its_row : HasName p.at.catalogue.rows k name
    its_row = subst (λ (rows : List Row). HasName rows k name) (sym same_rows) has

    found : find_row m name ≡ Some k
    found = find_some tells p m r.stands name k its_row

    same_row : i ≡ k
    same_row = same_Some i k (sym (find_some tells p m r.stands name i named) ∙ found)

    row : (row : RowState) × (slice_get m.rows k ≡ Some row) × ((d.name ≡ row.name) × (d.about ≡ row.about) × (d.state ≡ row.state)) × (row.tail ≡ tail)
    row =
        let at = row_at p.at.catalogue.rows p.kept p.tails m.rows r.stands.rows k its_row.row its_row.here in
        let one : is.row ≡ its_row.row = same_Some is.row its_row.row (sym is.here ∙ (ap (λ (rows : List Row). slice_get rows k) (sym same_rows) ∙ its_row.here)) in
        let names = is.known.0 ∙ (ap (λ (x : Row). x.name) one ∙ sym at.4.name) in
        let abouts = is.known.1 ∙ (ap (λ (x : Row). x.about) one ∙ sym at.4.about) in
        let states = is.known.2 ∙ (ap (λ (x : Row). x.state) one ∙ sym at.4.state) in
        (at.0, at.1, (names, abouts, states), at.4.tail ∙ ap (λ (j : ℕ). (tail_at p.tails j).samples) (sym same_row))

    -- of a told machine all is told that the machine tells
    details : m.told ≡ true → IsDetails m.rule m.rows k row.0 d
    details on = record {
      accepted_is = counted.accepted_is ∙ ap length (sym accepted_same);
      durable_is = counted.durable_is ∙ ap length (whole_held m r.stands.sound held r.stands.store.holds on k row.0 row.1);
      first = counted.first ∙ ap first_time (sym accepted_same);
      last = counted.last ∙ ap last_time (sym accepted_same);
      files = λ store. (parts_of (files_in store), row_parts tells new m held has_new r.stands.store.holds gran r.stands.rule.headers on stands k row.0 row.1 store, count store);
    }
      where
        stands : IsTrue held.stands
        stands = told_stands tells m.told held.stands r.stands.store.told on

        gran : m.rule.granularity ≡ granularities new.manifests
        gran = r.stands.rule.granularity ∙ sym same_g

        counted : AreCounted (whole_in k held) tail d
        counted = is.counted (told_tells tells m.told held.stands r.stands.store.told on) stands

        -- the tail goes over all that is durable
        accepted_same : whole accepted m.rows k ≡ over (whole_in k held) tail
        accepted_same = accepted_held m r.stands.sound held r.stands.store.holds on k row.0 row.1 ∙ ap (λ (xs : List Sample). over (whole_in k held) xs) row.3

        files_in : Store → List Filed
        files_in store = of_row k (list_at (index_of store) held)

        counts : (store : Store) → slice_index d.files (index_of store) ≡ length (files_in store)
        counts Short = is.short
        counts Medium = is.medium
        counts Long = is.long

        count : (store : Store) → slice_index d.files (index_of store) ≡ length (parts_of (files_in store))
        count store = counts store ∙ sym (length-map (files_in store) (λ (f : Filed). f.entry.part))

    told : Ends (answer.Described d)
    told = is_answered n (record { i = k; row = row.0; details = d; found = found; here = row.1; known = row.2; told = details; answered = refl; same = refl }) read

  -- what the stores say
  by_says : (given : Answer R) (s : Stores) → SaysDescribed tells name tail given s → s ≡ held → Ends given
  by_says _ _ (none_has {held = s} none) same = absurd (none i (subst (λ (rows : List Row). HasName rows i name) (same_rows ∙ sym (ap (λ (x : Stores). x.rows) same)) named))
  by_says _ _ (is_described {held = s} k d has is) same = moved s same k d has is
    where
      moved : (s : Stores) → s ≡ held → (k : ℕ) (d : Details) → HasName s.rows k name → IsDescribed tells s k tail d → Ends (answer.Described d)
      moved s same k d has is = (subst (λ (x : Stores). (k : ℕ) (d : Details) → HasName x.rows k name → IsDescribed tells x k tail d → Ends (answer.Described d)) (sym same) told) k d has is

  pub details_end : Ends result
  details_end = elim (end_kind result) [
    | inl fault ↦ (
        let failed : IsFailed (end_of_answer result) = subst (λ (given : Answer R). IsFailed (end_of_answer given)) (sym fault) tt in
        subst (λ (given : Answer R). Ends given) (sym fault) (is_failed read (reads.cause failed))
        )
    | inr others ↦ elim others [
      | inl spent ↦ subst (λ (given : Answer R). Ends given) (sym spent) (is_spent read)
      | inr done ↦ by_says result held (subst (λ (end : End (Answer R) ⊥). ReadsOf (SaysDescribed tells name tail) end held) done says) refl
    ]
  ]

-- the count of faults is nothing to what is told
pub describes_goes : (name : List ℕ) (m : Machine) (f : ℕ) (given : Reply) (new : Machine) → Describes name (record m { faults = f }) given new → Describes name m given new
describes_goes name m f given new is = record { i = is.i; row = is.row; details = is.details; found = is.found; here = is.here; known = is.known; told = is.told; answered = is.answered; same = is.same }

-- it isn't told as want of memory
pub describes_tells : (name : List ℕ) (m : Machine) (given : Reply) (new : Machine) → Describes name m given new → given ≡ answer.Memory → ⊥
describes_tells name m given new is told = let both = sym is.answered ∙ told in cc (both)

abbrev pub describes_act : (who : ℕ) (name : List ℕ) → IsAct who (DetailsAct name) (Describes name)
describes_act who name = record { refuse = λ old. details_refused name; passes = λ old m is. is; counts = λ old m f. refl; refuses = λ m f. refl; changes = λ m f. refl; goes = describes_goes name; never = λ old. details_never_want name; tells_more = describes_tells name; steps = λ m given new acts. acts; wants = λ m n none. none }

-- Acts that settle a doubt and only read the disk, or don't call it.

-- the stores are as they were
pub reads_none : (tells : Bool) (p q : Parts) → files_of q ≡ files_of p → ReadsAlone tells p q
reads_none tells p q same = record {
  fronts = subst (λ (all : SeenAll). LeavesFronts tells (files_of p) all) (sym same) (nothing_fronts tells (files_of p));
  quiet = λ settled. (
    subst (λ (all : SeenAll). IsSettled all.stores) (sym same) settled,
    λ told. (ap (λ (all : SeenAll). all.stores.files) same, subst (λ (all : SeenAll). Passes (λ a b. b ≡ a) p.at.past all.stores.past) (sym same) (passes_none (λ a b. b ≡ a) p.at.past (λ a left. refl))),
  );
}

-- one after another
pub reads_then : (tells : Bool) (p q r : Parts) → ReadsAlone tells p q → ReadsAlone tells q r → ReadsAlone tells p r
reads_then tells p q r first second = record {
  fronts = fronts_on tells (files_of p) (files_of q) (files_of r) first.fronts second.fronts;
  quiet = λ settled.
      let one = first.quiet settled in
      let two = second.quiet one.0 in
      (two.0, λ told. ((two.1 told).0 ∙ (one.1 told).0, passes_then (λ a b. b ≡ a) (λ a b. b ≡ a) p.at.past q.at.past r.at.past (one.1 told).1 (two.1 told).1 (λ a b image was within left holds. holds ∙ within)));
}

-- a doubt was settled, or it couldn't be
pub reads_settling : {A E : Type 0} (tells : Bool) (p q : Parts) (end : End A E) → Settling tells p q end → (IsSettled p.at → files_of q ≡ files_of p) → ReadsAlone tells p q
reads_settling {A} {E} tells p q end settling same = record { fronts = settling.fronts; quiet = λ settled. (subst (λ (all : SeenAll). IsSettled all.stores) (sym (same settled)) settled, settling.settles.quiet settled) }

-- the memory of the stores is as it was
pub reads_beside : (tells : Bool) (p q : Parts) → (q.at.catalogue ≡ p.at.catalogue) × (q.at.manifests ≡ p.at.manifests) → q.limbo ≡ p.limbo → (IsTrue tells → (q.at.files ≡ p.at.files) × Passes (λ a b. b ≡ a) p.at.past q.at.past) → ReadsAlone tells p q
reads_beside tells p q same limbo read = record {
  fronts = fronts_read tells (files_of p) (files_of q) same.0 same.1 limbo (λ told. (read told).0) (λ told. (read told).1);
  quiet = λ settled. (
    record {
      catalogue = subst (λ (c : CatalogueState). c.journal.sound ≡ true) (sym same.0) settled.catalogue;
      manifests = subst (λ (ms : List ManifestState). AtEach ms (λ i m. m.journal.sound ≡ true)) (sym same.1) settled.manifests;
    },
    read,
  );
}

-- What opens on stores follows bases as what a crash left in them.

-- the durable row that stores hold, all of whose samples are told
abbrev row_held : Stores → ℕ → Row → DurableRow
row_held s i row = record { name = row.name; about = row.about; state = row.state; base = row.base; short = samples_of i s.short; medium = samples_of i s.medium; long = samples_of i s.long }

is_held : (s : Stores) (i : ℕ) (row : Row) (r : DurableRow) → IsDurable true s i row r → r ≡ row_held s i row
is_held s i row r d = rw (← d.name, ← d.about, ← d.state, ← d.base, ← d.short refl, ← d.medium refl, ← d.long refl) refl

one_held : (s : Stores) (i : ℕ) (a b : DurableRow) → IsDurableAt true s i a → IsDurableAt true s i b → a ≡ b
one_held s i a b p q =
    let same : p.row ≡ q.row = same_Some p.row q.row (sym p.here ∙ q.here) in
    is_held s i p.row a p.is ∙ (ap (λ r. row_held s i r) same ∙ sym (is_held s i q.row b q.is))

rows_alike : (xs ys : List DurableRow) → length xs ≡ length ys → ((i : ℕ) (a b : DurableRow) → slice_get xs i ≡ Some a → slice_get ys i ≡ Some b → a ≡ b) → xs ≡ ys
rows_alike [] [] long same = refl
rows_alike [] (b ∷ ys) long same = absurd (omega arith)
rows_alike (a ∷ xs) [] long same = absurd (omega arith)
rows_alike (a ∷ xs) (b ∷ ys) long same = ap (λ x. x ∷ xs) (same zero a b refl refl) ∙ ap (λ w. b ∷ w) (rows_alike xs ys (omega arith) (λ i. same (suc i)))

-- stores hold one durable part
one_part : (s : Stores) (xs ys : List DurableRow) → AreDurable true s xs → AreDurable true s ys → xs ≡ ys
one_part s xs ys p q = rows_alike xs ys (p.count ∙ sym q.count) (λ i a b here there. one_held s i a b (p.each i a here) (q.each i b there))

pub opens_following : (rule : Rule) (held : Stores) (left m : Machine) → left.told ≡ true → m.told ≡ true → HoldsDurable held left → HoldsDurable held m → IsOpened rule m → AllFollow durable left.rows → AllFollow accepted m.rows
opens_following rule held left m t told p q opens follow =
    let same : kept left ≡ kept m = one_part held (kept left) (kept m) (subst (λ b. AreDurable b held (kept left)) t p) (subst (λ b. AreDurable b held (kept m)) told q) in
    let is : m ≡ opened rule true m.doors m.faults (kept left) = opens.fresh told ∙ ap (λ ds. opened rule true m.doors m.faults ds) (sym same) in
    subst (λ (n : Machine). AllFollow accepted n.rows) (sym is) (opened_follow rule true m.doors m.faults left follow)
