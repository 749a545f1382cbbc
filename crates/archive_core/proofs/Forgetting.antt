-- Whatever stands for a machine stands, beside other memory, for one with other tails of which the same is durable and which holds nothing. So what
-- is left of the store's half after an act stands for what the histories leave of it.
use Rattle.std.proofs.Common.{◌≡◌, ℕ, ◌+◌, ◌≤◌, List, [], ◌∷◌, ◌++◌, length, map, Bool, false, Option, Some, None, zero, suc, refl, sym, ◌∙◌, ap, subst, arith}
use Rattle.std.specs.FinMap.{FinMap}
use Rattle.std.specs.List.{AllByRecursion}
use Rattle.std.specs.Ordering.{nat_cmp}
use Rattle.std.specs.Prelude.{slice_get}
use Rattle.std.proofs.lemmas.List.{length-map}
use Rattle.std.proofs.lemmas.Option.{same_Some}
use Rattle.intake.specs.Tails.{TailState, tail_at}
use Rattle.pb_messages.specs.declared.about.Method.{Method}
use Rattle.pb_messages.specs.declared.about.Method.TheVariants.{Monitor, Scan}
use Rattle.pv_catalog.specs.declared.row.Row.{Row}
use Rattle.series_model.specs.Sampling.{first_cell}
use Rattle.tier_store.specs.Pinned.{beside}
use Rattle.act_model.specs.Crash.{DurableRow, kept_of}
use Rattle.act_model.specs.Machine.{Machine, MoveState, Change, AddsRow, SetsState, Renames, Appends, Publishes, Unlists}
use Rattle.act_model.specs.Rows.{RowState, period_of}
use Rattle.act_model.specs.Sound.{IsSound}
use Rattle.two_histories.specs.Store.{Lists}
use Rattle.two_histories.specs.ArchiveStore as halves
use Rattle.two_histories.specs.ArchiveStore.{StoreRow, row_with, rows_with, with_end, with_ends, doubted, left_rows, machine_of, store_of}
use Rattle.two_histories.proofs.Retailed.{ended_back}
use Rattle.two_histories.proofs.StoreSound.{left_sound}
use Rattle.intake_half.specs.Memory.{cell_in, period_in, sampling_by, fresh_memory}
use Rattle.intake_half.specs.declared.memory.RowMemory.{RowMemory}
use Rattle.archive_core.specs.Halves.{row_memory, tail_state, doubted_memory, memory_of, with_memory}
use Rattle.archive_core.specs.LimboTies.{AreBare}
use Rattle.archive_core.specs.Memory.{AreRowsOf}
use Rattle.archive_core.specs.Parts.{Parts}
use Rattle.archive_core.specs.Stands.{Stands, IsReady, IsPartOf}
use Rattle.archive_core.proofs.LimboTying.{limbo_rows, pins_stay, tier_kept}
use Rattle.archive_core.proofs.Lists.{get_front, get_last, get_map}
use Rattle.archive_core.proofs.Standing.{between_alike, names_alike}
use Rattle.archive_core.proofs.Windows.{alike_at, kept_each, length_alike}

-- ROWS

-- nothing is held for a tick
abbrev HoldNothing : List RowState → Type 0
HoldNothing rows = (i : ℕ) (row : RowState) → slice_get rows i ≡ Some row → row.cell ≡ first_cell

first_in : (method : Method) → first_cell ≡ cell_in (sampling_by method)
first_in Monitor = refl
first_in (Scan period) = refl

period_first : (method : Method) → period_in (sampling_by method) ≡ period_of method
period_first Monitor = refl
period_first (Scan period) = refl

tail_there : (rows : List RowState) (i : ℕ) (row : RowState) → slice_get rows i ≡ Some row → (tail_at (map tail_state rows) i).samples ≡ row.tail
tail_there [] i row here = absurd (cc (here))
tail_there (r ∷ rows) zero row here = ap (λ (x : RowState). x.tail) (same_Some r row here)
tail_there (r ∷ rows) (suc i) row here = tail_there rows i row here

tail_none : (rows : List RowState) (i : ℕ) → length rows ≤ i → (tail_at (map tail_state rows) i).samples ≡ []
tail_none [] i high = refl
tail_none (r ∷ rows) zero high = absurd (omega (arith, high))
tail_none (r ∷ rows) (suc i) high = tail_none rows i (omega (arith, high))

rows_alone : (catalogue : List Row) (kept : List RowMemory) (tails : List TailState) (rows news : List RowState) (more : List RowMemory) → AreRowsOf catalogue kept tails rows → map kept_of news ≡ map kept_of rows → HoldNothing news → AreRowsOf catalogue (map row_memory news ++ more) (map tail_state news) news
rows_alone catalogue kept tails rows news more are same nothing = record {
  count = length_alike rows news same ∙ are.count;
  each = λ i r here.
      let was = alike_at news rows (sym same) i r here in
      let own = sym was.2 in
      let o = are.each i was.0 was.1 in
      record {
        row = o.row;
        memory = row_memory r;
        here = o.here;
        there = get_front (map row_memory news) more i (row_memory r) (get_map row_memory news i r here);
        is = record {
          name = ap (λ (d : DurableRow). d.name) own ∙ o.is.name;
          about = ap (λ (d : DurableRow). d.about) own ∙ o.is.about;
          state = ap (λ (d : DurableRow). d.state) own ∙ o.is.state;
          base = ap (λ (d : DurableRow). d.base) own ∙ o.is.base;
          next = refl;
          cell = nothing i r here ∙ first_in r.about.method;
          period = period_first r.about.method;
          tail = sym (tail_there news i r here);
        };
      };
  beyond = λ i high. tail_none news i high;
}

-- the memory of a row that is added stands behind those of the rows
last_memory : (news : List RowState) (memory : RowMemory) → slice_get (map row_memory news ++ memory ∷ []) (length news) ≡ Some memory
last_memory news memory = ap (slice_get (map row_memory news ++ memory ∷ [])) (sym (length-map news row_memory)) ∙ get_last (map row_memory news) memory

ready_alone : (kept : List RowMemory) (rows news : List RowState) (moves : FinMap nat_cmp MoveState) (d : Option Change) → map kept_of news ≡ map kept_of rows → IsReady kept rows moves d → IsReady (map row_memory news ++ doubted_memory news d) news moves d
ready_alone kept rows news moves None same ready = tt
ready_alone kept rows news moves (Some (AddsRow name about)) same ready = last_memory news (fresh_memory about)
ready_alone kept rows news moves (Some (SetsState i state)) same ready =
    let new = alike_at rows news same i ready.0 ready.1 in
    (new.0, new.1, λ is. ready.2 (sym (ap (λ (d : DurableRow). d.state) new.2) ∙ is))
ready_alone kept rows news moves (Some (Renames i name)) same ready =
    let new = alike_at rows news same i ready.0 ready.1 in
    let more : doubted_memory news (Some (Renames i name)) ≡ row_memory new.0 ∷ [] = rw new.1 refl in
    (new.0, new.1, ap (λ (ms : List RowMemory). slice_get (map row_memory news ++ ms) (length news)) more ∙ last_memory news (row_memory new.0))
ready_alone kept rows news moves (Some (Appends batch)) same ready = subst (λ (n : ℕ). AllByRecursion (IsPartOf n) batch) (sym (length_alike rows news same)) ready
ready_alone kept rows news moves (Some (Publishes i place copied)) same ready = ready
ready_alone kept rows news moves (Some (Unlists i place to)) same ready = ready

-- THE MACHINE

-- whatever stands for a machine stands so, beside its memory, for that with other rows
pub stands_alone : (tells : Bool) (p : Parts) (m : Machine) (news : List RowState) (doors : ℕ) → Stands tells p m → map kept_of news ≡ map kept_of m.rows → HoldNothing news → IsSound (record m { rows = news; doors = doors })
    → Stands tells (with_memory (memory_of (record m { rows = news; doors = doors })) p) (record m { rows = news; doors = doors })
stands_alone tells p m news doors s same nothing sound = record {
  sound = sound;
  rule = s.rule;
  limbo = limbo_rows tells p.at p.limbo m.told m.rows news m.limbo (names_alike m.rows news same) bare s.limbo;
  settings = s.settings;
  pins = pins_stay tells (beside p.at p.limbo) (beside p.at p.limbo) m.told m.rows news m.pins p.pinned (λ name bytes shown. shown) (names_alike m.rows news same) s.pins;
  faults = s.faults;
  doors = refl;
  rows = rows_alone p.at.catalogue.rows p.kept p.tails m.rows news (doubted_memory news m.doubt) s.rows same nothing;
  doubt = s.doubt;
  ready = ready_alone p.kept m.rows news m.moves m.doubt same s.ready;
  store = between_alike tells p.at p.limbo p.slots m news doors same s.store;
}
  where
    bare : m.told ≡ false → AreBare news
    bare off = λ i row place here. let was = alike_at news m.rows (sym same) i row here in tier_kept row was.0 place (sym was.2) ∙ s.limbo.bare off i was.0 place was.1

-- WHAT IS LEFT OF A MACHINE

kept_left : (tails : Lists) (k n : ℕ) (olds : List StoreRow) (j : ℕ) (rows : List RowState) → map kept_of (rows_with tails k (left_rows n olds j rows)) ≡ map kept_of rows
kept_left tails k n olds j [] = refl
kept_left tails k n olds j (row ∷ rows) = ap (λ (ds : List DurableRow). kept_of row ∷ ds) (kept_left tails (k + 1) n olds (j + 1) rows)

none_held : (tails : Lists) (k : ℕ) (rows : List StoreRow) (i : ℕ) (row : RowState) → slice_get (rows_with tails k rows) i ≡ Some row → row.cell ≡ first_cell
none_held tails k [] i row here = absurd (cc (here))
none_held tails k (r ∷ rows) zero row here = ap (λ (x : RowState). x.cell) (sym (same_Some (row_with (tails k) r) row here))
none_held tails k (r ∷ rows) (suc i) row here = none_held tails (k + 1) rows i row here

none_held_in : (doors : ℕ) (h : halves.StoreHalf) → HoldNothing (machine_of doors h).rows
none_held_in doors h = λ i row here.
    let from = ended_back (rows_with (doubted h.doubt) 0 h.rows) i row here in
    ap (λ (x : RowState). x.cell) from.2 ∙ none_held (doubted h.doubt) 0 h.rows i from.0 from.1

-- what stands for a machine stands by itself for the half that is left of it
pub stands_left : (tells : Bool) (p : Parts) (n : ℕ) (old : halves.StoreHalf) (after : Machine) (doors : ℕ) → Stands tells p after → Stands tells (with_memory (memory_of (machine_of doors (store_of n old after))) p) (machine_of doors (store_of n old after))
stands_left tells p n old after doors s =
    let bare = rows_with (doubted after.doubt) 0 (left_rows n old.rows 0 after.rows) in
    stands_alone tells p after (with_ends bare) doors s (kept_each (with_end bare) 0 bare (λ i r. refl) ∙ kept_left (doubted after.doubt) 0 n old.rows 0 after.rows) (none_held_in doors (store_of n old after)) (left_sound n doors old after s.sound)
