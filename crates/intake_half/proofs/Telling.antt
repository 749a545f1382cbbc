-- A take, by what it leaves in tails and slots.
use Rattle.std.proofs.Common.{◌≡◌, ◌≢◌, ◌⊎◌, inl, inr, ℕ, zero, suc, ◌+◌, ◌<◌, ◌≤◌, ◌^◌, List, [], ◌∷◌, ◌++◌, length, map, Option, Some, None, Bool, true, false, cond, refl, sym, ◌∙◌, ap, subst, arith}
use Rattle.std.specs.Prelude.{◌==◌, max, slice_get, slice_set, nat_le, nat_lt}
use Rattle.std.proofs.lemmas.Bool.{cases_eq, cases_lt}
use Rattle.std.proofs.lemmas.Bool.Decides.{nat_tests}
use Rattle.std.proofs.lemmas.List.{length-set}
use Rattle.pb_messages.specs.declared.about.State.{State}
use Rattle.series_model.specs.Sampling.{Cell, first_cell}
use Rattle.series_model.specs.Series.{since}
use Rattle.series_model.specs.declared.sample.Sample.{Sample}
use Rattle.intake.specs.Row.{SampledRow}
use Rattle.intake.specs.Tails.{SetsTail, TailState, tail_at}
use Rattle.act_model.specs.Machine.{same_bytes}
use Rattle.act_model.proofs.RowActs.{same_bytes_is, same_bytes-refl}
use Rattle.two_histories.specs.ArchiveIntake.{IntakeHalf, IntakeRow, NamesAgree, first_known, next_of, taken, trimmed, with_row, with_rows}
use Rattle.two_histories.specs.ArchiveIntake as halves
use Rattle.two_histories.specs.ArchiveStore.{RegisteredRow}
use Rattle.two_histories.proofs.KnownRows.{Ascends}
use Rattle.intake_half.specs.Known.{AreKept, IsKept, number_of, seen, seen_from, slot_at}
use Rattle.intake_half.specs.Memory.{cell_in, cleared, period_in, sampling_by}
use Rattle.intake_half.specs.Taking.{all_told, end_in, next_in, next_of_slot, taken_over, told_in, told_slot}
use Rattle.intake_half.specs.declared.known.KnownRow.{KnownRow}
use Rattle.intake_half.specs.declared.memory.RowMemory.{RowMemory}
use Rattle.intake_half.specs.declared.names.Names.{Names}
use Rattle.intake_half.proofs.Sampled.{sampling_cell, sampling_period}
use Rattle.intake_half.proofs.Seeing.{placed, seen_ascends, set_other, set_own, slots_same, some_same, unknown_seen, weaker}

-- TAILS

-- all samples are from 0 on
pub since_start : (xs : List Sample) → since 0 xs ≡ xs
since_start [] = refl
since_start (x ∷ xs) =
    let low : nat_le 0 x.t ≡ true = grind (arith, nat_tests) in
    ap (λ (b : Bool). cond b (x ∷ since 0 xs) (since 0 xs)) low ∙ ap (λ (ys : List Sample). x ∷ ys) (since_start xs)

-- each tail is what is later than its row's end
abbrev pub AreTrimmed : (ℕ → ℕ) → List TailState → List TailState → Type 0
AreTrimmed ends old new = (j : ℕ) → (tail_at new j).samples ≡ since (ends j) (tail_at old j).samples

pub trimmed_seen : (ends : ℕ → ℕ) (old new : List TailState) (j : ℕ) (slots : List (Option KnownRow)) → AreTrimmed ends old new → seen_from new j slots ≡ map (trimmed ends) (seen_from old j slots)
trimmed_seen ends old new j [] trims = refl
trimmed_seen ends old new j (None ∷ slots) trims = trimmed_seen ends old new (j + 1) slots trims
trimmed_seen ends old new j (Some k ∷ slots) trims =
    ap (λ (xs : List Sample). record (seen old j k) { tail = xs } ∷ seen_from new (j + 1) slots) (trims j)
    ∙ ap (λ (xs : List IntakeRow). trimmed ends (seen old j k) ∷ xs) (trimmed_seen ends old new (j + 1) slots trims)

pub no_slot : (slots : List (Option KnownRow)) (j : ℕ) → length slots ≤ j → slot_at slots j ≡ None
no_slot [] j past = refl
no_slot (x ∷ slots) zero past = absurd (omega arith)
no_slot (x ∷ slots) (suc j) past = no_slot slots j (omega arith)

-- behind the last row there is nothing to let go
pub all_trimmed : (ends : ℕ → ℕ) (old new : List TailState) (slots : List (Option KnownRow)) (names : Names) → AreKept slots old names → ((j : ℕ) → j < length slots → (tail_at new j).samples ≡ since (ends j) (tail_at old j).samples)
    → ((j : ℕ) → length slots ≤ j → (tail_at new j).samples ≡ (tail_at old j).samples) → AreTrimmed ends old new
all_trimmed ends old new slots names all within past j = elim (cases_lt j (length slots)) [
  | inl low ↦ within j low
  | inr high ↦ let none = all.others j (no_slot slots j high) in past j high ∙ (none ∙ ap (λ (xs : List Sample). since (ends j) xs) (sym none))
]

pub trimmed_kept : (ends : ℕ → ℕ) (old new : List TailState) (slots : List (Option KnownRow)) (names : Names) → AreKept slots old names → AreTrimmed ends old new → AreKept slots new names
trimmed_kept ends old new slots names all trims =
    record { each = all.each; others = λ j none. trims j ∙ ap (λ (xs : List Sample). since (ends j) xs) (all.others j none); few = all.few }

-- MEMORY FOR ROWS

pub room_kept : (slots more : List (Option KnownRow)) (held : List TailState) (names new : Names) (told : List RegisteredRow) → AreKept slots held names → NamesAgree (seen_from held 0 slots) told → length more ≤ 2 ^ 32 → ((i : ℕ) → slot_at more i ≡ slot_at slots i)
    → ((name : List ℕ) (number : ℕ) → number_of names name ≡ Some number → ((i : ℕ) (r : RegisteredRow) → slice_get told i ≡ Some r → name ≡ r.name → number ≡ r.row) → number_of new name ≡ Some number) → AreKept more held new
room_kept slots more held names new told all agree few same still =
    record {
      each = λ i k there.
          let here : slot_at slots i ≡ Some k = sym (same i) ∙ there in
          let is = all.each i k here in
          record { named = still k.name i is.named (λ j r at own. agree.known_ones i j (seen held i k) r (placed held 0 slots i i k (omega arith) here).known_is at own); period = is.period; held = is.held };
      others = λ i none. all.others i (sym (same i) ∙ none);
      few = few;
    }

-- ONE ROW THAT IS TOLD

put_front : (r : RegisteredRow) (new : IntakeRow) (ks : List IntakeRow) → Ascends (r.row + 1) ks → with_row r new ks ≡ new ∷ ks
put_front r new [] up = refl
put_front r new (k ∷ ks) up =
    let low : r.row + 1 ≤ k.row = up.0 in
    let apart : (k.row == r.row) ≡ false = grind (arith, nat_tests) in
    let first : nat_lt r.row k.row ≡ true = grind (arith, nat_tests) in
    rw (apart, first) refl

-- what is seen of the row is the new one, or what was known with the change taken over
abbrev SeenAs : List TailState → ℕ → RegisteredRow → IntakeRow → KnownRow → Option KnownRow → Type 0
SeenAs held n r new slot None = seen held n slot ≡ new
SeenAs held n r new slot (Some k) = seen held n slot ≡ halves.taken_over r (seen held n k)

row_told : (held : List TailState) (j : ℕ) (slots : List (Option KnownRow)) (n i : ℕ) (r : RegisteredRow) (new : IntakeRow) (slot : KnownRow) → n ≡ j + i → r.row ≡ n → i < length slots → SeenAs held n r new slot (slot_at slots i)
    → seen_from held j (slice_set slots i (Some slot)) ≡ with_row r new (seen_from held j slots)
row_told held j [] n i r new slot number own within is = absurd (omega arith)
row_told held j (None ∷ slots) n zero r new slot number own within is =
    let here : n ≡ j = omega arith in
    let up : Ascends (r.row + 1) (seen_from held (j + 1) slots) = weaker (r.row + 1) (j + 1) (seen_from held (j + 1) slots) (omega arith) (seen_ascends held (j + 1) slots) in
    let now : seen held j slot ≡ new = subst (λ (m : ℕ). seen held m slot ≡ new) here is in
    ap (λ (x : IntakeRow). x ∷ seen_from held (j + 1) slots) now ∙ sym (put_front r new (seen_from held (j + 1) slots) up)
row_told held j (None ∷ slots) n (suc i) r new slot number own within is = row_told held (j + 1) slots n i r new slot (omega arith) own (omega arith) is
row_told held j (Some k ∷ slots) n zero r new slot number own within is =
    let here : n ≡ j = omega arith in
    let same : (j == r.row) ≡ true = grind (arith, nat_tests) in
    let now : seen held j slot ≡ halves.taken_over r (seen held j k) = subst (λ (m : ℕ). seen held m slot ≡ halves.taken_over r (seen held m k)) here is in
    rw same (ap (λ (x : IntakeRow). x ∷ seen_from held (j + 1) slots) now)
row_told held j (Some k ∷ slots) n (suc i) r new slot number own within is =
    let apart : (j == r.row) ≡ false = grind (arith, nat_tests) in
    let past : nat_lt r.row j ≡ false = grind (arith, nat_tests) in
    rw (apart, past) (ap (λ (xs : List IntakeRow). seen held j k ∷ xs) (row_told held (j + 1) slots n i r new slot (omega arith) own (omega arith) is))

cleared_cell : (memory : RowMemory) → cell_in (cleared memory).scan ≡ first_cell
cleared_cell memory = by_scan memory.scan
  where
    by_scan : (o : Option SampledRow) → cell_in (cleared (record memory { scan = o })).scan ≡ first_cell
    by_scan None = refl
    by_scan (Some sampled) = refl

cleared_period : (memory : RowMemory) → period_in (cleared memory).scan ≡ period_in memory.scan
cleared_period memory = by_scan memory.scan
  where
    by_scan : (o : Option SampledRow) → period_in (cleared (record memory { scan = o })).scan ≡ period_in o
    by_scan None = refl
    by_scan (Some sampled) = refl

-- of what holds nothing no sample is held
none_held : (o : Option SampledRow) → (cell_in o).held ≡ None → (sampled : SampledRow) (s : Sample) → o ≡ Some sampled → sampled.cell.held ≡ Some s → ⊥
none_held None none sampled s is held = absurd cc
none_held (Some x) none sampled s is held = let same : x ≡ sampled = some_same is in let there : x.cell.held ≡ Some s = ap (λ (w : SampledRow). w.cell.held) same ∙ held in absurd (let bad = sym none ∙ there in cc)

next_same : (held : List TailState) (slots : List (Option KnownRow)) (base : Option ℕ) → next_in slots base ≡ next_of (seen_from held 0 slots) base
next_same held slots None = refl
next_same held slots (Some b) = by_slot (slot_at slots b) refl
  where
    by_slot : (o : Option KnownRow) → slot_at slots b ≡ o → next_of_slot o ≡ next_of (seen_from held 0 slots) (Some b)
    by_slot None is = rw (unknown_seen held 0 slots b b (omega arith) is) refl
    by_slot (Some k) is = rw (placed held 0 slots b b k (omega arith) is).known_is refl

-- a row with another change of it
abbrev with_change : IntakeRow → State → ℕ → Cell → IntakeRow
with_change row state changed cell = record row { state = state; changed = changed; cell = cell }

over_seen : (held : List TailState) (n : ℕ) (r : RegisteredRow) (k : KnownRow) → seen held n (taken_over r k) ≡ halves.taken_over r (seen held n k)
over_seen held n r k = by_test (nat_lt k.changed r.changed) refl
  where
    by_test : (b : Bool) → nat_lt k.changed r.changed ≡ b → seen held n (cond b (record k { state = r.state; changed = r.changed; memory = cleared k.memory }) k)
        ≡ with_change (seen held n k) (cond b r.state k.state) (max k.changed r.changed) (cond b first_cell (cell_in k.memory.scan))
    by_test true is =
        let low : k.changed < r.changed = grind (arith, nat_tests) in
        let later : r.changed ≡ max k.changed r.changed = omega arith in
        ap (λ (c : ℕ). with_change (seen held n k) r.state c (cell_in (cleared k.memory).scan)) later ∙ ap (λ (c : Cell). with_change (seen held n k) r.state (max k.changed r.changed) c) (cleared_cell k.memory)
    by_test false is =
        let low : r.changed ≤ k.changed = grind (arith, nat_tests) in
        let same : k.changed ≡ max k.changed r.changed = omega arith in
        ap (λ (c : ℕ). with_change (seen held n k) k.state c (cell_in k.memory.scan)) same

module _ (held : List TailState) (names : Names) (r : RegisteredRow) (slots : List (Option KnownRow)) (all : AreKept slots held names) (within : r.row < length slots) where
  abbrev slot : KnownRow
  slot = told_slot r (next_in slots r.base) (slot_at slots r.row)

  new_seen : slot_at slots r.row ≡ None → seen held r.row (told_slot r (next_in slots r.base) None) ≡ first_known (seen_from held 0 slots) r
  new_seen none =
      let base : IntakeRow = first_known (seen_from held 0 slots) r in
      ap (λ (n : ℕ). record base { next = n; tail = (tail_at held r.row).samples; cell = cell_in (sampling_by r.about.method) }) (next_same held slots r.base)
      ∙ ap (λ (xs : List Sample). record base { tail = xs; cell = cell_in (sampling_by r.about.method) }) (all.others r.row none)
      ∙ ap (λ (c : Cell). record base { cell = c }) (sym (sampling_cell r.about.method))

  as_told : (o : Option KnownRow) → slot_at slots r.row ≡ o → SeenAs held r.row r (first_known (seen_from held 0 slots) r) (told_slot r (next_in slots r.base) o) o
  as_told None is = new_seen is
  as_told (Some k) is = over_seen held r.row r k

  told_seen : seen_from held 0 (told_in r slots) ≡ with_row r (first_known (seen_from held 0 slots) r) (seen_from held 0 slots)
  told_seen = row_told held 0 slots r.row r.row r (first_known (seen_from held 0 slots) r) slot (omega arith) refl within (as_told (slot_at slots r.row) refl)

  over_kept : (k : KnownRow) → IsKept names r.row k → IsKept names r.row (taken_over r k)
  over_kept k is = by_test (nat_lt k.changed r.changed)
    where
      by_test : (b : Bool) → IsKept names r.row (cond b (record k { state = r.state; changed = r.changed; memory = cleared k.memory }) k)
      by_test false = is
      by_test true =
          record {
            named = is.named;
            period = cleared_period k.memory ∙ is.period;
            held = λ sampled s here there. absurd (none_held (cleared k.memory).scan (ap (λ (c : Cell). c.held) (cleared_cell k.memory)) sampled s here there);
          }

  slot_kept : number_of names r.name ≡ Some r.row → (o : Option KnownRow) → slot_at slots r.row ≡ o → IsKept names r.row (told_slot r (next_in slots r.base) o)
  slot_kept named None is =
      record {
        named = named;
        period = sampling_period r.about.method;
        held = λ sampled s here there. absurd (none_held (sampling_by r.about.method) (ap (λ (c : Cell). c.held) (sym (sampling_cell r.about.method))) sampled s here there);
      }
  slot_kept named (Some k) is = over_kept k (all.each r.row k is)

  told_kept : number_of names r.name ≡ Some r.row → AreKept (told_in r slots) held names
  told_kept named =
      record {
        each = λ j x there. by_each j x there (cases_eq j r.row);
        others = λ j none. by_other j none (cases_eq j r.row);
        few = (let same : length (told_in r slots) ≡ length slots = length-set slots r.row (Some slot) in let few = all.few in omega arith);
      }
    where
      own : slot_at (told_in r slots) r.row ≡ Some slot
      own = set_own slots r.row (Some slot) within

      by_each : (j : ℕ) (x : KnownRow) → slot_at (told_in r slots) j ≡ Some x → (j ≡ r.row) ⊎ (j ≢ r.row) → IsKept names j x
      by_each j x there (inl same) =
          let one : slot ≡ x = some_same (sym own ∙ (ap (λ (n : ℕ). slot_at (told_in r slots) n) (sym same) ∙ there)) in
          subst (λ (n : ℕ). IsKept names n x) (sym same) (subst (λ (w : KnownRow). IsKept names r.row w) one (slot_kept named (slot_at slots r.row) refl))
      by_each j x there (inr apart) = all.each j x (sym (set_other slots r.row j (Some slot) apart) ∙ there)

      by_other : (j : ℕ) → slot_at (told_in r slots) j ≡ None → (j ≡ r.row) ⊎ (j ≢ r.row) → (tail_at held j).samples ≡ []
      by_other j none (inl same) = absurd (let bad = sym own ∙ (ap (λ (n : ℕ). slot_at (told_in r slots) n) (sym same) ∙ none) in cc)
      by_other j none (inr apart) = all.others j (sym (set_other slots r.row j (Some slot) apart) ∙ none)

-- ALL ROWS THAT ARE TOLD

-- there is room for each, and its name leads to it
abbrev pub AreReady : List RegisteredRow → ℕ → Names → Type 0
AreReady rows count names = (i : ℕ) (r : RegisteredRow) → slice_get rows i ≡ Some r → (r.row < count) × (number_of names r.name ≡ Some r.row)

pub all_seen : (held : List TailState) (names : Names) (rows : List RegisteredRow) (slots : List (Option KnownRow)) → AreKept slots held names → AreReady rows (length slots) names
    → (seen_from held 0 (all_told rows slots) ≡ with_rows rows (seen_from held 0 slots)) × AreKept (all_told rows slots) held names
all_seen held names [] slots all ready = (refl, all)
all_seen held names (r ∷ rows) slots all ready =
    let first = ready 0 r refl in
    let same : length (told_in r slots) ≡ length slots = length-set slots r.row (Some (told_slot r (next_in slots r.base) (slot_at slots r.row))) in
    let rest = all_seen held names rows (told_in r slots) (told_kept held names r slots all first.0 first.1) (λ i x here. let more = ready (suc i) x here in ((let low = more.0 in omega arith), more.1)) in
    (rest.0 ∙ ap (λ (ks : List IntakeRow). with_rows rows ks) (told_seen held names r slots all first.0), rest.1)

pub told_long : (r : RegisteredRow) (slots : List (Option KnownRow)) → length (told_in r slots) ≡ length slots
told_long r slots = length-set slots r.row (Some (told_slot r (next_in slots r.base) (slot_at slots r.row)))

pub told_more : (rows : List RegisteredRow) (r : RegisteredRow) (slots : List (Option KnownRow)) → all_told (rows ++ r ∷ []) slots ≡ told_in r (all_told rows slots)
told_more [] r slots = refl
told_more (x ∷ rows) r slots = told_more rows r (told_in x slots)

-- SLOTS AND NAMES, AS ROOM IS MADE

pub slot_pushed : (slots : List (Option KnownRow)) (i : ℕ) → slot_at (slots ++ None ∷ []) i ≡ slot_at slots i
slot_pushed [] zero = refl
slot_pushed [] (suc i) = refl
slot_pushed (x ∷ slots) zero = refl
slot_pushed (x ∷ slots) (suc i) = slot_pushed slots i

pub some_told : {a b : RegisteredRow} → Some a ≡ Some b → a ≡ b
some_told is = cc

name_or_not : (a b : List ℕ) → (a ≡ b) ⊎ (a ≢ b)
name_or_not a b = by_test (same_bytes a b) refl
  where
    by_test : (t : Bool) → same_bytes a b ≡ t → (a ≡ b) ⊎ (a ≢ b)
    by_test true is = inl (same_bytes_is a b is)
    by_test false is = inr (λ same. let yes : same_bytes a b ≡ true = ap (λ (x : List ℕ). same_bytes a x) (sym same) ∙ same_bytes-refl a in absurd (let bad = sym is ∙ yes in cc))

-- a name that leads to a row still does, where another is told that is of the same row or has another name
pub named_on : (old new : Names) (r : RegisteredRow) (name : List ℕ) (number : ℕ) → number_of old name ≡ Some number → (name ≡ r.name → number ≡ r.row) → number_of new r.name ≡ Some r.row
    → ((other : List ℕ) → other ≢ r.name → number_of new other ≡ number_of old other) → number_of new name ≡ Some number
named_on old new r name number was agree own others = elim (name_or_not name r.name) [
  | inl same ↦ ap (λ (x : List ℕ). number_of new x) same ∙ (own ∙ ap (λ (n : ℕ). Some n) (sym (agree same)))
  | inr apart ↦ others name apart ∙ was
]

-- A TAKE

-- after a take the half is so
pub record Took (ends : ℕ → ℕ) (rows : List RegisteredRow) (old : IntakeHalf) (held : List TailState) (slots : List (Option KnownRow)) (names : Names) : Type 0 where
  pub taken_is : (let h : IntakeHalf = record { rows = seen_from held 0 slots; upto = old.upto; doors = old.doors } in h) ≡ taken ends rows old
  pub kept : AreKept slots held names

pub took : (ends : ℕ → ℕ) (rows : List RegisteredRow) (upto doors : ℕ) (slots more : List (Option KnownRow)) (held new : List TailState) (names later : Names) → AreKept slots held names → NamesAgree (seen_from held 0 slots) rows → length more ≤ 2 ^ 32 → ((i : ℕ) → slot_at more i ≡ slot_at slots i)
    → ((name : List ℕ) (number : ℕ) → number_of names name ≡ Some number → ((i : ℕ) (r : RegisteredRow) → slice_get rows i ≡ Some r → name ≡ r.name → number ≡ r.row) → number_of later name ≡ Some number)
    → AreReady rows (length more) later → ((j : ℕ) → j < length more → (tail_at new j).samples ≡ since (ends j) (tail_at held j).samples) → ((j : ℕ) → length more ≤ j → (tail_at new j).samples ≡ (tail_at held j).samples)
    → Took ends rows (record { rows = seen_from held 0 slots; upto = upto; doors = doors }) new (all_told rows more) later
took ends rows upto doors slots more held new names later all agree few same still ready within past =
    let room = room_kept slots more held names later rows all agree few same still in
    let trims = all_trimmed ends held new more later room within past in
    let told = all_seen new later rows more (trimmed_kept ends held new more later room trims) ready in
    let cut : seen_from new 0 more ≡ map (trimmed ends) (seen_from held 0 slots) = trimmed_seen ends held new 0 more trims ∙ ap (λ (ks : List IntakeRow). map (trimmed ends) ks) (slots_same held 0 more slots same) in
    record {
      taken_is = ap (λ (ks : List IntakeRow). let h : IntakeHalf = record { rows = ks; upto = upto; doors = doors } in h) (told.0 ∙ ap (λ (ks : List IntakeRow). with_rows rows ks) cut);
      kept = told.1;
    }

-- ENDS

end_past : (ends : List ℕ) (row : ℕ) → length ends ≤ row → end_in ends row ≡ 0
end_past [] row past = refl
end_past (x ∷ ends) zero past = absurd (omega arith)
end_past (x ∷ ends) (suc row) past = end_past ends row (omega arith)

-- of a row behind the last end nothing is let go
pub past_trimmed : (ends : List ℕ) (row : ℕ) (xs ys : List Sample) → length ends ≤ row → ys ≡ xs → ys ≡ since (end_in ends row) xs
past_trimmed ends row xs ys past is = is ∙ (sym (since_start xs) ∙ ap (λ (n : ℕ). since n xs) (sym (end_past ends row past)))

-- the rows before one are trimmed, and then that one too
pub one_trimmed : (ends : List ℕ) (i row : ℕ) (old mid new : List TailState) → SetsTail i (since (end_in ends i) (tail_at mid i).samples) mid new → (tail_at mid i).samples ≡ (tail_at old i).samples
    → (row < i → (tail_at mid row).samples ≡ since (end_in ends row) (tail_at old row).samples) → row < i + 1 → (tail_at new row).samples ≡ since (end_in ends row) (tail_at old row).samples
one_trimmed ends i row old mid new sets same before low = elim (cases_eq row i) [
  | inl is ↦ subst (λ (n : ℕ). (tail_at new n).samples ≡ since (end_in ends n) (tail_at old n).samples) (sym is) (sets.own ∙ ap (λ (xs : List Sample). since (end_in ends i) xs) same)
  | inr apart ↦ sets.others row apart ∙ before (omega (arith, low, apart))
]
