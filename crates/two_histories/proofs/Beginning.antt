-- Two halves that begin together agree.
use Rattle.std.proofs.Common.{◌≡◌, ℕ, ◌+◌, ◌≤◌, List, [], ◌∷◌, ◌++◌, map, Option, Some, None, true, false, zero, suc, refl, ap, sym, ◌∙◌, subst, arith, append-nil, append_assoc}
use Rattle.std.specs.Prelude.{◌==◌, slice_get}
use Rattle.std.specs.List.{AllByRecursion}
use Rattle.std.proofs.lemmas.Bool.Decides.{nat_tests}
use Rattle.series_model.specs.declared.sample.Sample.{Sample}
use Rattle.series_model.specs.Archive.{IsPrefix}
use Rattle.series_model.specs.Series.{IsRising, RisesFrom, over, since, end_of}
use Rattle.series_model.proofs.OverLemmas.{over_rising}
use Rattle.series_model.proofs.RisingLists.{RisesFrom-append, RisesFrom-front, since-append, since_none, since_all, end_from-append}
use Rattle.act_model.specs.Machine.{Machine, Renames, held_bytes}
use Rattle.act_model.specs.Rows.{RowState, durable, is_running, size_of}
use Rattle.act_model.specs.Sound.{LinesSound, IsSound}
use Rattle.two_histories.specs.Histories.{left_by}
use Rattle.two_histories.proofs.Halves.{WasAccepted}
use Rattle.two_histories.proofs.Lists.{IsTail, prefix_same}
use Rattle.two_histories.specs.ArchiveIntake.{IntakeHalf, IntakeRow, known_at, tail_at, as_row}
use Rattle.two_histories.specs.ArchiveStore.{StoreHalf, StoreRow, durable_at, doubted, left_row}
use Rattle.two_histories.specs.StoreStep.{StoreEntry}
use Rattle.two_histories.specs.ArchiveHistories.{no_store, store_first, first_row, first_rows, intake_first}
use Rattle.two_histories.proofs.Closing.{IsClosed, is_base, may_be_base}
use Rattle.two_histories.proofs.Durables.{durable_is, in_left_rows}
use Rattle.two_histories.proofs.IntakeLaws.{IntakeSound, tail_known, tail_unknown}
use Rattle.two_histories.proofs.ArchiveJoined.{A, T, D, KnowsRows, WasAt, IsIdle, IsJoined}
use Rattle.two_histories.proofs.Keeping.{none_durable}
use Rattle.two_histories.proofs.KnownRows.{Ascends, HasEvents}
use Rattle.two_histories.proofs.Stepping.{left_forward, left_back, IsClosedAt, closed_after}
use Rattle.two_histories.proofs.StoreSound.{doubt_front, left_sound}

nothing_before : {B : Type 0} (xs ys : List B) → [] ≡ xs ++ ys → xs ≡ []
nothing_before [] ys is = refl
nothing_before (x ∷ xs) ys is = absurd cc

some_same : {B : Type 0} {a b : B} → Some a ≡ Some b → a ≡ b
some_same is = cc

-- ROWS BY NUMBER

first_known : (k : ℕ) (rows : List RowState) (i : ℕ) (row : RowState) → slice_get rows i ≡ Some row → known_at (first_rows k rows) (k + i) ≡ Some (first_row (k + i) row)
first_known k [] i row here = absurd cc
first_known k (x ∷ rows) zero row here =
    let same : x ≡ row = cc in
    let own : (k == k + 0) ≡ true = grind (arith, nat_tests) in
    let plain : k ≡ k + 0 = omega arith in
    rw own (ap (λ r. Some (first_row k r)) same ∙ ap (λ n. Some (first_row n row)) plain)
first_known k (x ∷ rows) (suc i) row here =
    let apart : (k == k + suc i) ≡ false = grind (arith, nat_tests) in
    let next : (k + 1) + i ≡ k + suc i = omega arith in
    rw apart (subst (λ n. known_at (first_rows (k + 1) rows) n ≡ Some (first_row n row)) next (first_known (k + 1) rows i row here))

first_unknown : (k : ℕ) (rows : List RowState) (i : ℕ) → slice_get rows i ≡ None → known_at (first_rows k rows) (k + i) ≡ None
first_unknown k [] i none = refl
first_unknown k (x ∷ rows) zero none = absurd cc
first_unknown k (x ∷ rows) (suc i) none =
    let apart : (k == k + suc i) ≡ false = grind (arith, nat_tests) in
    let next : (k + 1) + i ≡ k + suc i = omega arith in
    rw apart (subst (λ n. known_at (first_rows (k + 1) rows) n ≡ None) next (first_unknown (k + 1) rows i none))

first_ascends : (k : ℕ) (rows : List RowState) → Ascends k (first_rows k rows)
first_ascends k [] = tt
first_ascends k (row ∷ rows) = (omega arith, first_ascends (k + 1) rows)

first_lines : (k : ℕ) (rows : List RowState) → ((i : ℕ) (row : RowState) → slice_get rows i ≡ Some row → LinesSound row) → AllByRecursion HasEvents (first_rows k rows)
first_lines k [] each = tt
first_lines k (row ∷ rows) each = let one = each 0 row refl in ((one.tail, one.held), first_lines (k + 1) rows (λ i r here. each (suc i) r here))

first_bytes : (k : ℕ) (rows : List RowState) → held_bytes (map as_row (first_rows k rows)) ≡ held_bytes rows
first_bytes k [] = refl
first_bytes k (row ∷ rows) = ap (λ n. size_of row.tail + n) (first_bytes (k + 1) rows)

module _ (m : Machine) (s : IsSound m) (t : m.told ≡ true) where
  abbrev s0 : StoreHalf
  s0 = store_first m

  abbrev i0 : IntakeHalf
  i0 = intake_first m

  known : (r : ℕ) (row : RowState) → slice_get m.rows r ≡ Some row → known_at i0.rows r ≡ Some (first_row r row)
  known r row here = let plain : 0 + r ≡ r = omega arith in subst (λ n. known_at i0.rows n ≡ Some (first_row n row)) plain (first_known 0 m.rows r row here)

  unknown : (r : ℕ) → slice_get m.rows r ≡ None → known_at i0.rows r ≡ None
  unknown r none = let plain : 0 + r ≡ r = omega arith in subst (λ n. known_at i0.rows n ≡ None) plain (first_unknown 0 m.rows r none)

  -- what there is of a row at the beginning
  record FirstRow (r : ℕ) : Type 0 where
    durable_is' : List Sample
    tail_is' : List Sample
    d_is : durable_at s0.rows r ≡ durable_is'
    t_is : tail_at i0.rows r ≡ tail_is'
    rises : IsRising durable_is'
    later : RisesFrom (end_of durable_is') tail_is'

  first : (r : ℕ) → FirstRow r
  first r = by_row (slice_get m.rows r) refl
    where
      by_row : (o : Option RowState) → slice_get m.rows r ≡ o → FirstRow r
      by_row None none =
          record {
            durable_is' = [];
            tail_is' = [];
            d_is = in_left_rows 0 [] 0 m.rows r ∙ none_durable m.rows r none;
            t_is = tail_unknown i0.rows r (unknown r none);
            rises = tt;
            later = tt;
          }
      by_row (Some row) here =
          let own = s.each_row r row here in
          record {
            durable_is' = durable row;
            tail_is' = row.tail;
            d_is = in_left_rows 0 [] 0 m.rows r ∙ durable_is m.rows r row here;
            t_is = tail_known i0.rows r (first_row r row) (known r row here);
            rises = over_rising (over row.long row.medium) row.short (over_rising row.long row.medium own.long own.medium) own.short;
            later = own.later;
          }

  abbrev all : ℕ → List Sample
  all r = durable_at s0.rows r ++ tail_at i0.rows r

  all_rises : (r : ℕ) → IsRising (all r)
  all_rises r = let f = first r in rw (f.d_is, f.t_is) (RisesFrom-append 0 f.durable_is' f.tail_is' f.rises f.later)

  first_tail : (r : ℕ) → IsTail (durable_at s0.rows r) (all r) (tail_at i0.rows r)
  first_tail r =
      let f = first r in
      let d = durable_at s0.rows r in
      let n = end_of d in
      let rises : IsRising d = subst IsRising (sym f.d_is) f.rises in
      let none : since n d ≡ [] = since_none n 0 d rises (omega arith) in
      record { suffix = (d, refl); later = sym (since-append n d (tail_at i0.rows r) ∙ ap (λ w. w ++ since n (tail_at i0.rows r)) none) }

  first_doubt : (r : ℕ) (row : StoreRow) → slice_get s0.rows r ≡ Some row → IsPrefix (over (durable_at s0.rows r) (doubted m.doubt r)) (all r)
  first_doubt r row there =
      let was = left_back 0 [] 0 m.rows r row there in
      let front = doubt_front m s r was.0 was.1 m.doubt refl in
      let xs = doubted m.doubt r in
      let d = durable_at s0.rows r in
      let d_is : d ≡ durable was.0 = in_left_rows 0 [] 0 m.rows r ∙ durable_is m.rows r was.0 was.1 in
      let tail : tail_at i0.rows r ≡ xs ++ front.0 = tail_known i0.rows r (first_row r was.0) (known r was.0 was.1) ∙ front.1 in
      let later : RisesFrom (end_of (durable was.0)) (xs ++ front.0) = subst (λ w. RisesFrom (end_of (durable was.0)) w) front.1 (s.each_row r was.0 was.1).later in
      let rises : RisesFrom (end_of d) xs = subst (λ w. RisesFrom (end_of w) xs) (sym d_is) (RisesFrom-front (end_of (durable was.0)) xs front.0 later) in
      let whole : since (end_of d) xs ≡ xs = since_all (end_of d) (end_of d) xs rises (omega arith) in
      (front.0, ap (λ w. d ++ w) tail ∙ (sym (append_assoc d xs front.0) ∙ ap (λ w. (d ++ w) ++ front.0) (sym whole)))

  first_sound : IntakeSound i0 all
  first_sound =
      record {
        up = first_ascends 0 m.rows;
        next = λ r k here. by_next r k here (slice_get m.rows r) refl;
        unknown = λ r none. by_none r none (slice_get m.rows r) refl;
        lines = first_lines 0 m.rows s.lines;
        bytes = (let same = first_bytes 0 m.rows in let most = s.intake in omega arith);
      }
    where
      by_next : (r : ℕ) (k : IntakeRow) → known_at i0.rows r ≡ Some k → (o : Option RowState) → slice_get m.rows r ≡ o → end_of (all r) ≤ k.next
      by_next r k here None none = absurd (let bad = sym (unknown r none) ∙ here in cc)
      by_next r k here (Some row) there =
          let is : k ≡ first_row r row = some_same (sym here ∙ known r row there) in
          let d_is : durable_at s0.rows r ≡ durable row = in_left_rows 0 [] 0 m.rows r ∙ durable_is m.rows r row there in
          let t_is : tail_at i0.rows r ≡ row.tail = tail_known i0.rows r (first_row r row) (known r row there) in
          let ends : end_of (all r) ≡ end_of (durable row ++ row.tail) = ap (λ w. end_of (w ++ tail_at i0.rows r)) d_is ∙ ap (λ w. end_of (durable row ++ w)) t_is in
          let next : k.next ≡ row.next = ap (λ (x : IntakeRow). x.next) is in
          let own = end_from-append 0 (durable row) row.tail in
          let low = (s.each_row r row there).next in
          omega arith

      by_none : (r : ℕ) → known_at i0.rows r ≡ None → (o : Option RowState) → slice_get m.rows r ≡ o → all r ≡ []
      by_none r gone None none =
          ap (λ w. w ++ tail_at i0.rows r) (in_left_rows 0 [] 0 m.rows r ∙ none_durable m.rows r none) ∙ tail_unknown i0.rows r gone
      by_none r gone (Some row) there = absurd (let bad = sym gone ∙ known r row there in cc)

  first_left : (r : ℕ) (row : RowState) → slice_get m.rows r ≡ Some row → slice_get s0.rows r ≡ Some (left_row 0 None row)
  first_left r row there = left_forward 0 [] 0 m.rows r row there

  -- what is known first is of a row
  first_from : (r : ℕ) (k : IntakeRow) → known_at i0.rows r ≡ Some k → (row : RowState) × (slice_get m.rows r ≡ Some row) × (k ≡ first_row r row)
  first_from r k here = by_row (slice_get m.rows r) refl
    where
      by_row : (o : Option RowState) → slice_get m.rows r ≡ o → (row : RowState) × (slice_get m.rows r ≡ Some row) × (k ≡ first_row r row)
      by_row None none = absurd (let bad = sym (unknown r none) ∙ here in cc)
      by_row (Some row) there = (row, there, some_same (sym here ∙ known r row there))

  first_knows : KnowsRows s0 i0 s0 i0
  first_knows r k here = let x = first_from r k here in (left_row 0 None x.0, first_left r x.0 x.1, (ap (λ (y : IntakeRow). y.about) (sym x.2), ap (λ (y : IntakeRow). y.name) (sym x.2)))

  first_number : (r : ℕ) (row : StoreRow) → slice_get s0.rows r ≡ Some row → row.changed ≡ 0
  first_number r row there = let left = left_back 0 [] 0 m.rows r row there in ap (λ (x : StoreRow). x.changed) left.2

  first_was : (r : ℕ) (k : IntakeRow) → known_at i0.rows r ≡ Some k → WasAt s0 i0 [] r k.changed k.state
  first_was r k here =
      let x = first_from r k here in
      record { front = []; before = prefix_same []; row = left_row 0 None x.0; here = first_left r x.0 x.1; number = ap (λ (y : IntakeRow). y.changed) (sym x.2); state_is = ap (λ (y : IntakeRow). y.state) (sym x.2) }

  -- a row that is closed, as the machine has it
  record FirstClosed (r : ℕ) : Type 0 where
    row : RowState
    here : slice_get m.rows r ≡ Some row
    down : is_running row.state ≡ false
    none : row.tail ≡ []

  first_closed : (r : ℕ) → IsClosed m.rows m.doubt r → FirstClosed r
  first_closed r (is_base b) = let o = s.bases.over b.at b.row r b.here b.base in record { row = o.base; here = o.here; down = ap is_running o.retired; none = o.none }
  first_closed r (may_be_base name row here is) = let may = (s.doubted (Renames r name) is).0 in record { row = row; here = here; down = ap is_running (may.paused row here); none = may.none row here }

  first_idle : (r : ℕ) → IsClosedAt s0 r → IsIdle s0 i0 s0 [] [] r
  first_idle r c =
      let x = first_closed r (closed_after 0 0 (no_store m) m r c) in
      let tail : tail_at i0.rows r ≡ [] = tail_known i0.rows r (first_row r x.row) (known r x.row x.here) ∙ x.none in
      record {
        from = 0;
        known = (first_row r x.row, known r x.row x.here, omega arith);
        idle = λ changed state w high.
            let here : slice_get s0.rows r ≡ Some w.row = ap (λ h. slice_get (left_by s0 h).rows r) (sym (nothing_before w.front w.before.0 w.before.1)) ∙ w.here in
            let same : left_row 0 None x.row ≡ w.row = some_same (sym (first_left r x.row x.here) ∙ here) in
            ap is_running (sym w.state_is ∙ ap (λ (y : StoreRow). y.state) (sym same)) ∙ x.down;
        all = ap (λ w. durable_at s0.rows r ++ w) tail ∙ append-nil (durable_at s0.rows r);
      }

  pub begun : IsJoined s0 i0 [] []
  begun =
      record {
        joined = record {
          sound = left_sound 0 0 (no_store m) m s;
          told = t;
          rising = all_rises;
          at = λ r. record {
            flushed = (tail_at i0.rows r, refl);
            each = λ ahead p. subst (λ w. WasAccepted (durable_at s0.rows r) (A s0 i0 w r) (T s0 i0 w r) (all r)) (sym (nothing_before ahead p.0 p.1)) (record { prefix = prefix_same (all r); is_tail = first_tail r });
          };
          doubts = first_doubt;
          sounds = λ ahead p. subst (λ w. IntakeSound (left_by i0 w) (A s0 i0 w)) (sym (nothing_before ahead p.0 p.1)) first_sound;
          knows = λ ahead p. subst (λ w. KnowsRows s0 i0 s0 (left_by i0 w)) (sym (nothing_before ahead p.0 p.1)) first_knows;
        };
        grown = record {
          durable = λ front p r. subst (λ w. IsPrefix (D s0 i0 w r) (durable_at s0.rows r)) (sym (nothing_before front p.0 p.1)) (prefix_same (durable_at s0.rows r));
          rows = λ front p r row here. (row, ap (λ w. slice_get (left_by s0 w).rows r) (sym (nothing_before front p.0 p.1)) ∙ here, record { about = refl; name = refl; up = omega arith; same = λ w. refl });
          few = λ r row there. let zero = first_number r row there in omega arith;
          told = λ front p. subst (λ (w : List StoreEntry). (left_by s0 w).told ≡ true) (sym (nothing_before front p.0 p.1)) t;
        };
        changes = record {
          was = λ ahead p r k here. first_was r k (ap (λ w. known_at (left_by i0 w).rows r) (sym (nothing_before ahead p.0 p.1)) ∙ here);
          onward = λ ahead p r k here. (k, ap (λ w. known_at (left_by i0 w).rows r) (sym (nothing_before ahead p.0 p.1)) ∙ here, omega arith);
          first = λ ahead p r row there zero.
              let was = left_back 0 [] 0 m.rows r row there in (first_row r was.0, ap (λ w. known_at (left_by i0 w).rows r) (nothing_before ahead p.0 p.1) ∙ known r was.0 was.1);
        };
        closed = first_idle;
      }
