-- The rows in memory beside the machine's.
use Rattle.std.proofs.Common.{◌≡◌, ◌≢◌, ◌⊎◌, inl, inr, ℕ, zero, suc, ◌<◌, ◌≤◌, ◌+◌, List, [], ◌∷◌, length, take, drop, max, cond, Option, Some, None, Bool, true, false, refl, sym, ◌∙◌, ap, subst, arith}
use Rattle.std.specs.Prelude.{◌==◌, slice_get, slice_set, map, IfSome, nat_le, nat_lt, if◌then◌else◌}
use Rattle.std.proofs.lemmas.Bool.Decides.{nat_tests}
use Rattle.std.proofs.lemmas.Option.{same_Some, slice_get_within}
use Rattle.intake.specs.Tails.{TailState, tail_at}
use Rattle.intake.specs.Tails as tails
use Rattle.series_model.specs.declared.batch.RowSamples.{RowSamples}
use Rattle.series_model.specs.declared.sample.Sample.{Sample}
use Rattle.pv_catalog.specs.declared.row.Row.{Row}
use Rattle.pv_catalog.specs.Rows.{HasName}
use Rattle.act_model.specs.Flush.{batch_from, batch_of}
use Rattle.act_model.specs.Rows.{RowState, size_of, is_empty}
use Rattle.act_model.specs.Machine.{Machine, place, find_row, same_bytes, held_bytes}
use Rattle.act_model.specs.Changes.{each, at}
use Rattle.act_model.specs.Names.{NamesStep, names_from}
use Rattle.act_model.specs.declared.acts.Answer.TheVariants.{NamesAre}
use Rattle.act_model.proofs.Rows.{each_get, length-each}
use Rattle.intake_half.specs.declared.memory.RowMemory.{RowMemory}
use Rattle.archive_core.specs.Memory.{IsRowOf, IsRowAt, AreRowsOf}
use Rattle.intake_half.proofs.Counting.{size_same}
use Rattle.archive_core.proofs.Lists.{same_or_not, get_set_same, element}
use Rattle.durable_write.proofs.Staying.{get_set_other}
use Rattle.act_model.proofs.RowActs.{same_bytes_is, same_bytes-refl}

-- a row of the catalogue has its row of the machine
pub row_there : (rows : List Row) (kept : List RowMemory) (ts : List TailState) (rs : List RowState) → AreRowsOf rows kept ts rs → (i : ℕ) (row : Row) → slice_get rows i ≡ Some row → (r : RowState) × (slice_get rs i ≡ Some r) × (r.name ≡ row.name)
row_there rows kept ts rs are i row here =
    let low : i < length rs = let low = slice_get_within rows i row here in let same = are.count in omega (arith, low, same) in
    let r = element rs i low in
    let is = are.each i r.0 r.1 in
    (r.0, r.1, is.is.name ∙ ap (λ (x : Row). x.name) (same_Some is.row row (sym is.here ∙ here)))

pub memory_there : (rows : List Row) (kept : List RowMemory) (ts : List TailState) (rs : List RowState) → AreRowsOf rows kept ts rs → (i : ℕ) → i < length rows → i < length kept
memory_there rows kept ts rs are i low =
    let low : i < length rs = let same = are.count in omega (arith, low, same) in
    let r = element rs i low in
    let is = are.each i r.0 r.1 in
    slice_get_within kept i is.memory is.there

-- NAMES

-- the row that is found passes, and where none is found none does
pub data Placed (p : RowState → Bool) (k : ℕ) (rs : List RowState) (n : ℕ) : Type 0 where
  placed : (j : ℕ) (r : RowState) → n ≡ k + j → slice_get rs j ≡ Some r → p r ≡ true → Placed p k rs n

pub place_some : (p : RowState → Bool) (k : ℕ) (rs : List RowState) (n : ℕ) → place p k rs ≡ Some n → Placed p k rs n
place_some p k [] n is = absurd (cc (is))
place_some p k (r ∷ rs) n is = by_test (p r) refl is (place_some p (k + 1) rs n)
  where
    by_test : (b : Bool) → p r ≡ b → (if b then Some k else place p (k + 1) rs) ≡ Some n → (place p (k + 1) rs ≡ Some n → Placed p (k + 1) rs n) → Placed p k (r ∷ rs) n
    by_test true one is later = placed 0 r (let same = same_Some k n is in omega (arith, same)) refl one
    by_test false one is later = further (later is)
      where
        further : Placed p (k + 1) rs n → Placed p k (r ∷ rs) n
        further (placed j q at_is here passes) = placed (suc j) q (omega (arith, at_is)) here passes

pub place_none : (p : RowState → Bool) (k : ℕ) (rs : List RowState) → place p k rs ≡ None → (j : ℕ) (r : RowState) → slice_get rs j ≡ Some r → p r ≡ false
place_none p k [] none j r here = absurd (cc (here))
place_none p k (q ∷ rs) none j r here = by_test (p q) refl none (place_none p (k + 1) rs) j here
  where
    by_test : (b : Bool) → p q ≡ b → (if b then Some k else place p (k + 1) rs) ≡ None → (place p (k + 1) rs ≡ None → (j : ℕ) (r : RowState) → slice_get rs j ≡ Some r → p r ≡ false) → (j : ℕ) → slice_get (q ∷ rs) j ≡ Some r → p r ≡ false
    by_test true one none later j here = absurd (cc (none))
    by_test false one none later zero here = ap p (sym (same_Some q r here)) ∙ one
    by_test false one none later (suc j) here = later none j r here

-- what the catalogue finds is what the machine finds
pub find_is : (m : Machine) (rows : List Row) (kept : List RowMemory) (ts : List TailState) (name : List ℕ) (found : Option ℕ) → AreRowsOf rows kept ts m.rows → IfSome found (λ i. HasName rows i name) → ((i : ℕ) → HasName rows i name → found ≡ Some i) → found ≡ find_row m name
find_is m rows kept ts name found are is only = by_place (find_row m name) refl
  where
    by_found : (o : Option ℕ) → found ≡ o → IfSome o (λ i. HasName rows i name) → find_row m name ≡ None → o ≡ None
    by_found None same is none = refl
    by_found (Some i) same is none =
        let there = row_there rows kept ts m.rows are i is.row is.here in
        let name_is : there.0.name ≡ name = there.2 ∙ is.is in
        let passes : same_bytes there.0.name name ≡ true = ap (λ n. same_bytes n name) name_is ∙ same_bytes-refl name in
        let fails : same_bytes there.0.name name ≡ false = place_none (λ row. same_bytes row.name name) 0 m.rows none i there.0 there.1 in
        absurd (cc (passes, fails))

    by_place : (o : Option ℕ) → find_row m name ≡ o → found ≡ find_row m name
    by_place None none = by_found found refl is none ∙ sym none
    by_place (Some n) some = by_placed (place_some (λ row. same_bytes row.name name) 0 m.rows n some)
      where
        by_placed : Placed (λ row. same_bytes row.name name) 0 m.rows n → found ≡ find_row m name
        by_placed (placed j r n_is here passes) =
            let there = are.each j r here in
            let j_is : j ≡ n = omega (arith, n_is) in
            let has : HasName rows j name = record { row = there.row; here = there.here; is = sym there.is.name ∙ same_bytes_is r.name name passes } in
            only j has ∙ (ap (λ k. Some k) j_is ∙ sym some)

-- BYTES

held_of : (rs : List RowState) (ts : List TailState) → ((i : ℕ) (r : RowState) → slice_get rs i ≡ Some r → r.tail ≡ (tail_at ts i).samples) → ((i : ℕ) → length rs ≤ i → (tail_at ts i).samples ≡ []) → held_bytes rs ≡ tails.held_bytes ts
held_of [] [] same beyond = refl
held_of [] (t ∷ ts) same beyond =
    let none : tails.size_of t.samples ≡ 0 = ap tails.size_of (beyond 0 (omega arith)) in
    let rest = held_of [] ts (λ i r here. absurd (cc (here))) (λ i high. beyond (suc i) (omega arith)) in
    omega (arith, none, rest)
held_of (r ∷ rs) [] same beyond =
    let none : size_of r.tail ≡ 0 = ap size_of (same 0 r refl) in
    let rest = held_of rs [] (λ i q here. same (suc i) q here) (λ i high. refl) in
    omega (arith, none, rest)
held_of (r ∷ rs) (t ∷ ts) same beyond =
    let own : size_of r.tail ≡ tails.size_of t.samples = ap size_of (same 0 r refl) ∙ size_same t.samples in
    let rest = held_of rs ts (λ i q here. same (suc i) q here) (λ i high. beyond (suc i) (omega (arith, high))) in
    omega (arith, own, rest)

-- the intake holds as many bytes as the machine's tails have
pub held_is : (rows : List Row) (kept : List RowMemory) (ts : List TailState) (rs : List RowState) → AreRowsOf rows kept ts rs → held_bytes rs ≡ tails.held_bytes ts
held_is rows kept ts rs are = held_of rs ts (λ i r here. (are.each i r here).is.tail) are.beyond

-- what a batch has of rows from one on that has this tail
abbrev parts_from : ℕ → List RowState → ℕ → ℕ → List Sample → List RowSamples
parts_from limit rs k taken xs = cond (nat_le limit taken) [] (cond (is_empty xs) (batch_from limit rs (k + 1) taken) (record { row = k; samples = xs } ∷ batch_from limit rs (k + 1) (taken + size_of xs)))

parts_same : (limit : ℕ) (rs : List RowState) (ts : List TailState) (k taken : ℕ) (xs : List Sample) → ((n : ℕ) → tails.batch_from limit ts (k + 1) n ≡ batch_from limit rs (k + 1) n)
    → cond (nat_le limit taken) [] (cond (tails.is_empty xs) (tails.batch_from limit ts (k + 1) taken) (record { row = k; samples = xs } ∷ tails.batch_from limit ts (k + 1) (taken + tails.size_of xs))) ≡ parts_from limit rs k taken xs
parts_same limit rs ts k taken [] rest = ap (λ (parts : List RowSamples). cond (nat_le limit taken) [] parts) (rest taken)
parts_same limit rs ts k taken (x ∷ xs) rest =
    let size : taken + tails.size_of (x ∷ xs) ≡ taken + size_of (x ∷ xs) = ap (λ n. taken + n) (sym (size_same (x ∷ xs))) in
    ap (λ (parts : List RowSamples). cond (nat_le limit taken) [] (record { row = k; samples = x ∷ xs } ∷ parts)) (rest (taken + tails.size_of (x ∷ xs)) ∙ ap (λ n. batch_from limit rs (k + 1) n) size)

-- the tails in memory make the batch that the machine's rows make
batch_from_same : (limit : ℕ) (rs : List RowState) (ts : List TailState) (k taken : ℕ) → ((i : ℕ) (r : RowState) → slice_get rs i ≡ Some r → r.tail ≡ (tail_at ts i).samples) → ((i : ℕ) → length rs ≤ i → (tail_at ts i).samples ≡ [])
    → tails.batch_from limit ts k taken ≡ batch_from limit rs k taken
batch_from_same limit [] [] k taken same beyond = refl
batch_from_same limit [] (t ∷ ts) k taken same beyond =
    let none : t.samples ≡ [] = beyond 0 (omega arith) in
    let rest : tails.batch_from limit ts (k + 1) taken ≡ [] = batch_from_same limit [] ts (k + 1) taken (λ i r here. absurd (cc (here))) (λ i high. beyond (suc i) (omega arith)) in
    rw none (by_test (nat_le limit taken) (tails.batch_from limit ts (k + 1) taken) rest)
  where
    by_test : (b : Bool) (parts : List RowSamples) → parts ≡ [] → cond b [] parts ≡ []
    by_test true parts is = refl
    by_test false parts is = is
batch_from_same limit (r ∷ rs) [] k taken same beyond =
    let none : r.tail ≡ [] = same 0 r refl in
    let rest : [] ≡ batch_from limit rs (k + 1) taken = batch_from_same limit rs [] (k + 1) taken (λ i q here. same (suc i) q here) (λ i high. refl) in
    rw none (by_test (nat_le limit taken) (batch_from limit rs (k + 1) taken) rest)
  where
    by_test : (b : Bool) (parts : List RowSamples) → [] ≡ parts → [] ≡ cond b [] parts
    by_test true parts is = refl
    by_test false parts is = is
batch_from_same limit (r ∷ rs) (t ∷ ts) k taken same beyond =
    let rest : (n : ℕ) → tails.batch_from limit ts (k + 1) n ≡ batch_from limit rs (k + 1) n = λ n. batch_from_same limit rs ts (k + 1) n (λ i q here. same (suc i) q here) (λ i high. beyond (suc i) (omega (arith, high))) in
    parts_same limit rs ts k taken t.samples rest ∙ ap (parts_from limit rs k taken) (sym (same 0 r refl))

-- what a flush takes of the tails in memory is what the machine's flush takes
pub batch_is : (limit : ℕ) (rows : List Row) (kept : List RowMemory) (ts : List TailState) (m : Machine) → 1 ≤ limit → AreRowsOf rows kept ts m.rows → tails.batch_of limit ts ≡ batch_of limit m
batch_is limit rows kept ts m some are =
    let most : max limit 1 ≡ limit = omega (arith, some) in
    ap (λ n. tails.batch_from n ts 0 0) most ∙ batch_from_same limit m.rows ts 0 0 (λ i r here. (are.each i r here).is.tail) are.beyond

-- the names of the rows, in order
pub names_are : (rows : List Row) (kept : List RowMemory) (ts : List TailState) (rs : List RowState) → AreRowsOf rows kept ts rs → map (λ (r : RowState). r.name) rs ≡ map (λ (row : Row). row.name) rows
names_are rows kept ts rs are = go rs rows are.count (λ i r here. let is = are.each i r here in (is.row, is.here, is.is.name))
  where
    go : (rs : List RowState) (rows : List Row) → length rs ≡ length rows → ((i : ℕ) (r : RowState) → slice_get rs i ≡ Some r → (row : Row) × (slice_get rows i ≡ Some row) × (r.name ≡ row.name)) → map (λ (r : RowState). r.name) rs ≡ map (λ (row : Row). row.name) rows
    go [] [] count each_is = refl
    go [] (row ∷ rows) count each_is = absurd (omega (arith, count))
    go (r ∷ rs) [] count each_is = absurd (omega (arith, count))
    go (r ∷ rs) (row ∷ rows) count each_is =
        let first = each_is 0 r refl in
        let head : r.name ≡ row.name = first.2 ∙ ap (λ (x : Row). x.name) (sym (same_Some row first.0 first.1)) in
        let rest = go rs rows (omega (arith, count)) (λ i q here. each_is (suc i) q here) in
        cc (head, rest)

-- ONE ROW CHANGES

other_tail : (ts new : List TailState) (i : ℕ) (row : Row) (kept : RowMemory) (r : RowState) → (tail_at new i).samples ≡ (tail_at ts i).samples → IsRowOf ts i row kept r → IsRowOf new i row kept r
other_tail ts new i row kept r same is = record { name = is.name; about = is.about; state = is.state; base = is.base; next = is.next; cell = is.cell; period = is.period; tail = is.tail ∙ sym same }

-- the row of this number changes with what is kept of it and its tail
pub rows_at : (rows : List Row) (kept : List RowMemory) (ts new : List TailState) (rs : List RowState) → AreRowsOf rows kept ts rs → (i : ℕ) (f : RowState → RowState) (memory : RowMemory) (row : Row) (r : RowState) → slice_get rows i ≡ Some row → slice_get rs i ≡ Some r → IsRowOf new i row memory (f r)
    → ((j : ℕ) → j ≢ i → (tail_at new j).samples ≡ (tail_at ts j).samples) → AreRowsOf rows (slice_set kept i memory) new (each (at i f) 0 rs)
rows_at rows kept ts new rs are i f memory row r here there is others = record {
  count = length-each (at i f) 0 rs ∙ are.count;
  each = λ j q got. let from = each_get (at i f) 0 rs j q got in by_place j q from.0 from.1 from.2 (same_or_not j i);
  beyond = λ j high. by_beyond j (let same = length-each (at i f) 0 rs in omega (arith, high, same)) (same_or_not j i);
}
  where
    by_beyond : (j : ℕ) → length rs ≤ j → (j ≡ i) ⊎ (j ≢ i) → (tail_at new j).samples ≡ []
    by_beyond j high (inl same) = absurd (let low = slice_get_within rs i r there in omega (arith, high, low, same))
    by_beyond j high (inr apart) = others j apart ∙ are.beyond j high

    by_place : (j : ℕ) (q was : RowState) → slice_get rs j ≡ Some was → q ≡ at i f (0 + j) was → (j ≡ i) ⊎ (j ≢ i) → IsRowAt rows (slice_set kept i memory) new j q
    by_place j q was got made (inl same) =
        let was_is : was ≡ r = same_Some was r (sym got ∙ (ap (slice_get rs) same ∙ there)) in
        let test : (0 + j == i) ≡ true = grind (arith, nat_tests) in
        let own : q ≡ f r = made ∙ (rw test (ap f was_is)) in
        let old = are.each i r there in
        subst (λ k. IsRowAt rows (slice_set kept i memory) new k q) (sym same) (record { row = row; memory = memory; here = here; there = get_set_same kept i old.memory memory old.there; is = subst (λ w. IsRowOf new i row memory w) (sym own) is })
    by_place j q was got made (inr apart) =
        let test : (0 + j == i) ≡ false = grind (arith, nat_tests) in
        let own : q ≡ was = made ∙ (rw test refl) in
        let old = are.each j was got in
        record { row = old.row; memory = old.memory; here = old.here; there = get_set_other kept i j memory apart ∙ old.there; is = subst (λ w. IsRowOf new j old.row old.memory w) (sym own) (other_tail ts new j old.row old.memory was (others j apart) old.is) }

-- spares may change
pub rows_spared : (rows : List Row) (kept : List RowMemory) (ts new : List TailState) (rs : List RowState) → AreRowsOf rows kept ts rs → ((j : ℕ) → (tail_at new j).samples ≡ (tail_at ts j).samples) → AreRowsOf rows kept new rs
rows_spared rows kept ts new rs are same = record {
  count = are.count;
  each = λ i r here. let old = are.each i r here in record { row = old.row; memory = old.memory; here = old.here; there = old.there; is = other_tail ts new i old.row old.memory r (same i) old.is };
  beyond = λ i high. same i ∙ are.beyond i high;
}

-- all that is kept of a row of the catalogue
pub row_at : (rows : List Row) (kept : List RowMemory) (ts : List TailState) (rs : List RowState) → AreRowsOf rows kept ts rs → (i : ℕ) (row : Row) → slice_get rows i ≡ Some row
    → (r : RowState) × (slice_get rs i ≡ Some r) × (memory : RowMemory) × (slice_get kept i ≡ Some memory) × IsRowOf ts i row memory r
row_at rows kept ts rs are i row here =
    let r = row_there rows kept ts rs are i row here in
    let is = are.each i r.0 r.1 in
    (r.0, r.1, is.memory, is.there, subst (λ (w : Row). IsRowOf ts i w is.memory r.0) (same_Some is.row row (sym is.here ∙ here)) is.is)

-- and of one whose memory is known
pub row_with : (rows : List Row) (kept : List RowMemory) (ts : List TailState) (rs : List RowState) → AreRowsOf rows kept ts rs → (i : ℕ) (row : Row) (memory : RowMemory) → slice_get rows i ≡ Some row → slice_get kept i ≡ Some memory
    → (r : RowState) × (slice_get rs i ≡ Some r) × IsRowOf ts i row memory r
row_with rows kept ts rs are i row memory here there =
    let at = row_at rows kept ts rs are i row here in
    (at.0, at.1, subst (λ (w : RowMemory). IsRowOf ts i row w at.0) (same_Some at.2 memory (sym at.3 ∙ there)) at.4)

-- a number that is no row's in the catalogue is no row's
pub no_row : (rows : List Row) (kept : List RowMemory) (ts : List TailState) (rs : List RowState) → AreRowsOf rows kept ts rs → (i : ℕ) → slice_get rows i ≡ None → slice_get rs i ≡ None
no_row rows kept ts rs are i none = by_row (slice_get rs i) refl
  where
    by_row : (o : Option RowState) → slice_get rs i ≡ o → slice_get rs i ≡ None
    by_row None is = is
    by_row (Some r) is = absurd (let there = (are.each i r is).here in cc (there, none))

-- the names that are told are those of the machine's rows
pub names_step : (m : Machine) (rows list : List Row) (kept : List RowMemory) (ts : List TailState) → AreRowsOf rows kept ts m.rows → list ≡ rows → (from most a b : ℕ) → a ≡ from → b ≡ most → (names : List (List ℕ)) → names ≡ take most (drop from (map (λ (row : Row). row.name) list))
    → NamesStep from most m (NamesAre names (nat_lt (a + b) (length list))) m
names_step m rows list kept ts are same from most a b a_is b_is names are_names =
    let all : map (λ (r : RowState). r.name) m.rows ≡ map (λ (row : Row). row.name) list = names_are rows kept ts m.rows are ∙ ap (λ (l : List Row). map (λ (row : Row). row.name) l) (sym same) in
    let told : names ≡ names_from from most m = are_names ∙ ap (λ (l : List (List ℕ)). take most (drop from l)) (sym all) in
    let count : length list ≡ length m.rows = ap length same ∙ sym are.count in
    let more : nat_lt (a + b) (length list) ≡ nat_lt (from + most) (length m.rows) = rw (a_is, b_is, count) refl in
    inl (cc (told, more), refl)
