-- What a crash leaves of a sound machine opens as a sound one, in which all that is durable is accepted, and own lists follow as they did.
use Rattle.std.proofs.Common.{◌≡◌, ℕ, ◌+◌, ◌≤◌, List, [], ◌∷◌, ◌++◌, length, get_or, Some, None, zero, suc, Bool, refl, ap, sym, ◌∙◌, arith, append-nil, subst}
use Rattle.std.specs.Prelude.{slice_get, map}
use Rattle.std.proofs.lemmas.List.{length-map}
use Rattle.std.specs.Ordering.{nat_cmp}
use Rattle.std.specs.FinMap.{FinMap, get, empty, get-empty}
use Rattle.pv_name.specs.Key.{key_of}
use Rattle.act_model.specs.declared.acts.Act.{Act}
use Rattle.series_model.specs.Series.{end_of, IsRising, over}
use Rattle.series_model.proofs.OverLemmas.{over_rising, end_of-over}
use Rattle.act_model.specs.Rows.{RowState, durable, accepted, size_of}
use Rattle.series_model.specs.declared.sample.Sample.{Sample}
use Rattle.act_model.specs.Whole.{known, wholes, past, whole, AllFollow}
use Rattle.act_model.specs.Rule.{Rule}
use Rattle.act_model.specs.Machine.{Machine, PinState, MoveState, Change, AddsRow, SetsState, Renames, Appends, Publishes, Unlists, held_bytes}
use Rattle.act_model.specs.Changes.{each, changed_rows, Retires}
use Rattle.act_model.specs.Step.{change_by, refuse_by}
use Rattle.act_model.specs.Sound.{RowSound, IsOver, BasesSound, LinesSound, MayMake, EndedMove, IsSound}
use Rattle.act_model.specs.Crash.{kept_of, kept, LeftBetween, as_it_is, with_doubt, LeftWithin, before_it, settled_there, with_change}
use Rattle.act_model.specs.NextLife.{listed_row, with_next, opened_rows, opened}
use Rattle.act_model.proofs.Rows.{each_get, each_forward, length-each}
use Rattle.act_model.proofs.Wholes.{whole_is}
use Rattle.act_model.proofs.Bases.{before_of}
use Rattle.act_model.proofs.MadeSound.{made_sound}
use Rattle.act_model.proofs.StepLaws.{settled_sound}
use Rattle.act_model.proofs.PinActs.{other_pins}
use Rattle.act_model.proofs.StepOnward.{may_by}

-- what an opened machine needs of the rows
record RowsSound (told : Bool) (rows : List RowState) : Type 0 where
  few : length rows ≤ 65536
  keys : (i j : ℕ) (a b : RowState) → slice_get rows i ≡ Some a → slice_get rows j ≡ Some b → key_of a.name ≡ key_of b.name → i ≡ j
  each_row : (i : ℕ) (row : RowState) → slice_get rows i ≡ Some row → RowSound told row
  bases : BasesSound told rows

of_sound : (m : Machine) → IsSound m → RowsSound m.told m.rows
of_sound m s = record { few = s.few; keys = s.keys; each_row = s.each_row; bases = s.bases }

-- WHAT A CRASH LEAVES

abbrev no_pins : FinMap nat_cmp PinState
no_pins = empty

abbrev no_moves : FinMap nat_cmp MoveState
no_moves = empty

no_pin : (n : ℕ) (pin : PinState) → get no_pins n ≡ Some pin → ⊥
no_pin n pin here = let none : get no_pins n ≡ None = get-empty nat_cmp n in let bad = sym none ∙ here in absurd cc

no_move : (n : ℕ) (move : MoveState) → get no_moves n ≡ Some move → ⊥
no_move n move here = let none : get no_moves n ≡ None = get-empty nat_cmp n in let bad = sym none ∙ here in absurd cc

-- without pins and moves any change may be made with nothing in limbo for it
nothing_retired : (m : Machine) (change : Change) → m.pins ≡ no_pins → Retires m change []
nothing_retired m (AddsRow name about) none = refl
nothing_retired m (SetsState k state) none = refl
nothing_retired m (Renames k name) none = refl
nothing_retired m (Appends batch) none = refl
nothing_retired m (Publishes k store copied) none = refl
nothing_retired m (Unlists k store to) none = (tt, record { stays = λ n pin here. absurd (no_pin n pin (ap (λ w. get w n) (sym none) ∙ here)) }, λ t. tt)

nothing_copies : (change : Change) → EndedMove no_moves change
nothing_copies (AddsRow name about) = tt
nothing_copies (SetsState k state) = tt
nothing_copies (Renames k name) = tt
nothing_copies (Appends batch) = tt
nothing_copies (Publishes k store copied) = λ n move here copies. absurd (no_move n move here)
nothing_copies (Unlists k store to) = λ n move here copies. absurd (no_move n move here)

made_rows : (m : Machine) (change : Change) → IsSound m → MayMake m.rule m.told m.rows m.limbo change → RowsSound m.told (changed_rows m.told m.limbo change m.rows)
made_rows m change s may =
    let bare : Machine = record m { pins = no_pins } in
    let sound : IsSound bare = other_pins m no_pins s (λ t n pin here. absurd (no_pin n pin here)) in
    let after = made_sound bare [] change sound may (nothing_retired bare change refl) no_moves (nothing_copies change) (λ n move here. absurd (no_move n move here)) (λ n k move other here there same. absurd (no_move n move here)) in
    record { few = after.few; keys = after.keys; each_row = after.each_row; bases = after.bases }

between_rows : (old left : Machine) → IsSound old → LeftBetween old left → RowsSound old.told left.rows
between_rows old left s as_it_is = of_sound old s
between_rows old left s (with_doubt change is) = made_rows old change s (s.doubted change is).0

settled_told : (m : Machine) → IsSound m → (told : Bool) × RowsSound told m.rows
settled_told m s = (m.told, of_sound m s)

left_rows : (act : Act) (old left : Machine) → IsSound old → LeftWithin (refuse_by act) (change_by act) old left → (told : Bool) × RowsSound told left.rows
left_rows act old left s (before_it is) = (old.told, between_rows old left s is)
left_rows act old left s (settled_there settles) = settled_told left (settled_sound settles s)
left_rows act old left s (with_change {mid} one settles free is) = let sound : IsSound mid = settled_sound settles s in (mid.told, made_rows mid one sound (may_by act mid one sound free is))

pub between_bases : (old left : Machine) → IsSound old → LeftBetween old left → (told : Bool) × BasesSound told left.rows
between_bases old left s is = (old.told, (between_rows old left s is).bases)

pub left_bases : (act : Act) (old left : Machine) → IsSound old → LeftWithin (refuse_by act) (change_by act) old left → (told : Bool) × BasesSound told left.rows
left_bases act old left s is = let rows = left_rows act old left s is in (rows.0, rows.1.bases)

-- WHAT OPENS

-- the rows as they are listed
abbrev lists : List RowState → List RowState
lists rows = map listed_row (map kept_of rows)

abbrev pub lives : List RowState → ℕ → RowState → RowState
lives rows i row = with_next (map listed_row (map kept_of rows)) i (listed_row (kept_of row))

-- the row with its stores, all of it durable
pub opened_accepts : (rows : List RowState) (i : ℕ) (row : RowState) → (durable (lives rows i row) ≡ durable row) × (accepted (lives rows i row) ≡ durable row)
opened_accepts rows i row = (refl, append-nil (durable row))

list_back : (rows : List RowState) (i : ℕ) (new : RowState) → slice_get (map listed_row (map kept_of rows)) i ≡ Some new → (row : RowState) × (slice_get rows i ≡ Some row) × (new ≡ listed_row (kept_of row))
list_back [] i new here = absurd cc
list_back (row ∷ rows) zero new here = (row, refl, cc)
list_back (row ∷ rows) (suc i) new here = list_back rows i new here

list_forth : (rows : List RowState) (i : ℕ) (row : RowState) → slice_get rows i ≡ Some row → slice_get (map listed_row (map kept_of rows)) i ≡ Some (listed_row (kept_of row))
list_forth [] i row here = absurd cc
list_forth (x ∷ rows) zero row here = let same : x ≡ row = cc in ap (λ r. Some (listed_row (kept_of r))) same
list_forth (x ∷ rows) (suc i) row here = list_forth rows i row here

back : (rows : List RowState) (i : ℕ) (new : RowState) → slice_get (opened_rows (map kept_of rows)) i ≡ Some new → (row : RowState) × (slice_get rows i ≡ Some row) × (new ≡ lives rows i row)
back rows i new here =
    let x = each_get (with_next (lists rows)) 0 (lists rows) i new here in
    let y = list_back rows i x.0 x.1 in
    let plain : 0 + i ≡ i = omega arith in
    (y.0, y.1, x.2 ∙ (ap (λ n. with_next (lists rows) n x.0) plain ∙ ap (λ r. with_next (lists rows) i r) y.2))

pub forth : (rows : List RowState) (i : ℕ) (row : RowState) → slice_get rows i ≡ Some row → slice_get (opened_rows (map kept_of rows)) i ≡ Some (lives rows i row)
forth rows i row here =
    let plain : 0 + i ≡ i = omega arith in
    each_forward (with_next (lists rows)) 0 (lists rows) i (listed_row (kept_of row)) (list_forth rows i row here) ∙ ap (λ n. Some (with_next (lists rows) n (listed_row (kept_of row)))) plain

no_bytes : (f : ℕ → RowState → RowState) (k : ℕ) (rows : List RowState) → ((i : ℕ) (row : RowState) → slice_get rows i ≡ Some row → (f (k + i) row).tail ≡ []) → held_bytes (each f k rows) ≡ 0
no_bytes f k [] none = refl
no_bytes f k (row ∷ rows) none =
    let plain : k + 0 ≡ k = omega arith in
    let first : (f k row).tail ≡ [] = subst (λ n. (f n row).tail ≡ []) plain (none 0 row refl) in
    let one : size_of (f k row).tail ≡ 0 = ap size_of first in
    let more = no_bytes f (k + 1) rows (λ i other here. let next : k + suc i ≡ (k + 1) + i = omega arith in subst (λ n. (f n other).tail ≡ []) next (none (suc i) other here)) in
    omega arith

-- THE WHOLE OF WHAT OPENS

wholes_listed : (rows : List RowState) (before : List (List Sample)) → wholes durable before (lists rows) ≡ wholes durable before rows
wholes_listed [] before = refl
wholes_listed (row ∷ rows) before = wholes_listed rows (before ++ over (known before row.base) (durable row) ∷ [])

wholes_durable : (all rows : List RowState) (k : ℕ) (before : List (List Sample)) → wholes durable before (each (with_next all) k (lists rows)) ≡ wholes durable before rows
wholes_durable all [] k before = refl
wholes_durable all (row ∷ rows) k before = wholes_durable all rows (k + 1) (before ++ over (known before row.base) (durable row) ∷ [])

wholes_opened : (all rows : List RowState) (k : ℕ) (before : List (List Sample)) → wholes accepted before (each (with_next all) k (lists rows)) ≡ wholes durable before rows
wholes_opened all [] k before = refl
wholes_opened all (row ∷ rows) k before =
    ap (λ own. wholes accepted (before ++ over (known before row.base) own ∷ []) (each (with_next all) (k + 1) (lists rows))) (append-nil (durable row))
    ∙ wholes_opened all rows (k + 1) (before ++ over (known before row.base) (durable row) ∷ [])

-- what is durable of each row that opens is what was left of it
pub durable_opened : (rule : Rule) (told : Bool) (doors faults : ℕ) (left : Machine) (i : ℕ) → whole durable (opened rule told doors faults (kept left)).rows i ≡ whole durable left.rows i
durable_opened rule told doors faults left i = ap (λ ws. get_or ws i []) (wholes_durable (lists left.rows) left.rows 0 [])

-- own lists follow the wholes of bases as they did in what was left
pub opened_follow : (rule : Rule) (told : Bool) (doors faults : ℕ) (left : Machine) → AllFollow durable left.rows → AllFollow accepted (opened rule told doors faults (kept left)).rows
opened_follow rule told doors faults left f i new there =
    let news = opened_rows (map kept_of left.rows) in
    let same = wholes_opened (lists left.rows) left.rows 0 [] in
    let x = back left.rows i new there in
    let was = f i x.0 x.1 in
    let w : whole accepted news i ≡ whole durable left.rows i = ap (λ ws. get_or ws i []) same in
    let p : past accepted news new.base ≡ past durable left.rows x.0.base = ap (λ ws. known ws new.base) same ∙ ap (λ (r : RowState). past durable left.rows r.base) x.2 in
    let own : accepted new ≡ durable x.0 = ap (λ r. accepted r) x.2 ∙ append-nil (durable x.0) in
    (w ∙ (was.0 ∙ sym (ap (λ xs. xs ++ accepted new) p ∙ ap (λ xs. past durable left.rows x.0.base ++ xs) own)), subst (λ xs. IsRising xs) (sym w) was.1)

module _ (told : Bool) (rows : List RowState) (s : RowsSound told rows) where
  -- the whole of a row that opens is that of the listed row
  opened_whole : (i : ℕ) → whole accepted (opened_rows (map kept_of rows)) i ≡ whole durable (lists rows) i
  opened_whole i = ap (λ ws. get_or ws i []) (wholes_opened (lists rows) rows 0 [] ∙ sym (wholes_listed rows []))

  -- it ends no earlier than the row's own list
  own_end : (i : ℕ) (row : RowState) → slice_get rows i ≡ Some row → end_of (durable row) ≤ end_of (whole durable (lists rows) i)
  own_end i row here =
      let own = s.each_row i row here in
      let rises : IsRising (durable row) = over_rising (over row.long row.medium) row.short (over_rising row.long row.medium own.long own.medium) own.short in
      let is = ap end_of (whole_is durable (lists rows) i (listed_row (kept_of row)) (list_forth rows i row here) (λ b is. (before_of told rows s.bases i row b here is).below)) ∙ end_of-over (past durable (lists rows) row.base) (durable row) rises in
      omega arith

  opened_sound_row : (now : Bool) (i : ℕ) (row : RowState) → slice_get rows i ≡ Some row → RowSound now (lives rows i row)
  opened_sound_row now i row here = let own = s.each_row i row here in record { short = own.short; medium = own.medium; long = own.long; later = tt; next = own_end i row here }

  opened_bases : (now : Bool) → BasesSound now (opened_rows (map kept_of rows))
  opened_bases now =
      record {
        over = λ i new b there is. over_opened i new b is (back rows i new there);
        one = λ i j b a c here there is is'. let x = back rows i a here in let y = back rows j c there in
            s.bases.one i j b x.0 y.0 x.1 y.1 (ap (λ (r : RowState). r.base) (sym x.2) ∙ is) (ap (λ (r : RowState). r.base) (sym y.2) ∙ is');
        end = λ i new there. let x = back rows i new there in
            let same = ap end_of (opened_whole i) in
            let next : new.next ≡ end_of (whole durable (lists rows) i) = ap (λ (r : RowState). r.next) x.2 in
            omega arith;
        exact = λ t i new there. let x = back rows i new there in ap (λ (r : RowState). r.next) x.2 ∙ sym (ap end_of (opened_whole i));
      }
    where
      over_opened : (i : ℕ) (new : RowState) (b : ℕ) → new.base ≡ Some b → (row : RowState) × (slice_get rows i ≡ Some row) × (new ≡ lives rows i row) → IsOver (opened_rows (map kept_of rows)) i new b
      over_opened i new b is x =
          let own : x.0.base ≡ Some b = ap (λ (r : RowState). r.base) (sym x.2) ∙ is in
          let o = s.bases.over i x.0 b x.1 own in
          record {
            base = lives rows b o.base;
            here = forth rows b o.base o.here;
            below = o.below;
            retired = o.retired;
            about = o.about ∙ ap (λ (r : RowState). r.about) (sym x.2);
            none = refl;
          }

open_sound : (rule : Rule) (told now : Bool) (doors faults : ℕ) (rows : List RowState) → RowsSound told rows → IsSound (opened rule now doors faults (map kept_of rows))
open_sound rule told now doors faults rows s =
    record {
      few =
          let few : length rows ≤ 65536 = s.few in
          let one = length-map (map kept_of rows) listed_row in
          let two = length-map rows kept_of in
          let three = length-each (with_next (lists rows)) 0 (lists rows) in
          omega arith;
      keys = λ i j a b here there same. let x = back rows i a here in let y = back rows j b there in
          s.keys i j x.0 y.0 x.1 y.1 (ap (λ (r : RowState). key_of r.name) (sym x.2) ∙ (same ∙ ap (λ (r : RowState). key_of r.name) y.2));
      each_row = λ i new here. let x = back rows i new here in subst (λ r. RowSound now r) (sym x.2) (opened_sound_row told rows s now i x.0 x.1);
      bases = opened_bases told rows s now;
      lines = λ i new here. let x = back rows i new here in subst (λ r. LinesSound r) (sym x.2) (record { tail = tt; held = tt });
      intake = (let none = no_bytes (with_next (lists rows)) 0 (lists rows) (λ i row here. let x = list_back rows i row here in ap (λ (r : RowState). r.tail) x.2) in omega arith);
      doubted = λ change is. absurd cc;
      each_move = λ n move here. absurd (no_move n move here);
      one_move = λ n k move other here there same. absurd (no_move n move here);
      each_file = tt;
      each_unlisted = tt;
      places = λ t. tt;
      pinned = λ t n pin here. absurd (no_pin n pin here);
    }

-- a crash within an act of a sound machine leaves what opens as a sound one
pub next_life_sound : (act : Act) (old left : Machine) → IsSound old → LeftWithin (refuse_by act) (change_by act) old left → (rule : Rule) (told : Bool) (doors faults : ℕ) → IsSound (opened rule told doors faults (kept left))
next_life_sound act old left s is rule told doors faults = let rows = left_rows act old left s is in open_sound rule rows.0 told doors faults left.rows rows.1

-- so does what a crash between acts leaves, also one that left all as it is
pub next_life_between : (old left : Machine) → IsSound old → LeftBetween old left → (rule : Rule) (told : Bool) (doors faults : ℕ) → IsSound (opened rule told doors faults (kept left))
next_life_between old left s is rule told doors faults = open_sound rule old.told told doors faults left.rows (between_rows old left s is)

-- each row of what was left is there, and all that is durable of it is accepted
pub next_life_rows : (rule : Rule) (told : Bool) (doors faults : ℕ) (left : Machine) (i : ℕ) (row : RowState) → slice_get left.rows i ≡ Some row
    → (new : RowState) × (slice_get (opened rule told doors faults (kept left)).rows i ≡ Some new) × (kept_of new ≡ kept_of row) × (accepted new ≡ durable row)
next_life_rows rule told doors faults left i row here = let both = opened_accepts left.rows i row in (lives left.rows i row, forth left.rows i row here, refl, both.1)
