-- What changes tails and held samples alone keeps the machine sound.
use Rattle.std.proofs.Common.{◌≡◌, ℕ, ◌+◌, ◌<◌, ◌≤◌, List, [], ◌∷◌, ◌++◌, length, max, Option, Some, None, Bool, true, false, refl, ap, sym, ◌∙◌, arith, subst, append_assoc, append-nil}
use Rattle.std.specs.Prelude.{◌==◌, slice_get, if◌then◌else◌}
use Rattle.std.proofs.lemmas.Bool.Decides.{nat_tests}
use Rattle.std.proofs.lemmas.Option.{slice_get_within}
use Rattle.series_model.specs.declared.sample.Sample.{Sample}
use Rattle.series_model.specs.Series.{IsRising, end_from, end_of, since, over}
use Rattle.series_model.proofs.RisingLists.{end_from-append, end_from-ge, RisesFrom-append, since-append, since_all}
use Rattle.pb_messages.specs.declared.about.State.TheVariants.{Paused}
use Rattle.act_model.specs.Rows.{RowState, Store, Short, Medium, Long, next_store, deep, tier, durable, accepted, is_running, size_of, window, is_empty}
use Rattle.act_model.specs.Limbo.{RowFile, tier_at}
use Rattle.pv_name.specs.Key.{key_of}
use Rattle.act_model.specs.Whole.{AllFollow}
use Rattle.act_model.specs.Machine.{Machine, Change, AddsRow, SetsState, Renames, Appends, Publishes, Unlists, held_bytes}
use Rattle.act_model.specs.Changes.{each, at, with_rows, of_row}
use Rattle.act_model.specs.Sound.{RowSound, LinesSound, CopiesOf, MayMake, MayAdd, LimboSound, IsUnlisted, PieceSound, IsSound}
use Rattle.act_model.proofs.Rows.{length-each, each_get, each_forward, of_all, there_is_row}
use Rattle.act_model.proofs.Bases.{RowOver, Comes, goes_on, bases_go, follows_go}

-- a row's tail stays, or the tail of a running row has one sample more, behind all that was accepted
pub data Gain (row new : RowState) : Type 0 where
  no_gain : new.tail ≡ row.tail → new.next ≡ row.next → Gain row new
  one_gain : (s : Sample) → is_running row.state ≡ true → row.next ≤ s.t → new.tail ≡ row.tail ++ s ∷ [] → new.next ≡ s.t + 1 → Gain row new

-- a row with the same stores, whose tail may have more
pub record RowTail (told : Bool) (row new : RowState) : Type 0 where
  pub short : new.short ≡ row.short
  pub medium : new.medium ≡ row.medium
  pub long : new.long ≡ row.long
  pub name : new.name ≡ row.name
  pub about : new.about ≡ row.about
  pub state : new.state ≡ row.state
  pub base : new.base ≡ row.base
  pub gain : Gain row new
  pub more : (xs : List Sample) × (new.tail ≡ row.tail ++ xs)
  pub sound : RowSound told new
  pub lines : LinesSound new

pub same_tail : (told : Bool) (row : RowState) → RowSound told row → LinesSound row → RowTail told row row
same_tail told row s l = record { short = refl; medium = refl; long = refl; name = refl; about = refl; state = refl; base = refl; gain = no_gain refl refl; more = ([], sym (append-nil row.tail)); sound = s; lines = l }

copies_same : (told : Bool) (limbo : List RowFile) (row new : RowState) (i : ℕ) (store : Store) (copied : List Sample) → RowTail told row new → CopiesOf limbo row i store copied → CopiesOf limbo new i store copied
copies_same told limbo row new i Short copied t c = rw (t.short, t.medium, t.long) c
copies_same told limbo row new i Medium copied t c = rw (t.medium, t.long) c
copies_same told limbo row new i Long copied t c = rw t.long c

tier_same : (told : Bool) (row new : RowState) (store : Store) → RowTail told row new → tier new store ≡ tier row store
tier_same told row new Short t = t.short
tier_same told row new Medium t = t.medium
tier_same told row new Long t = t.long

deep_same : (told : Bool) (row new : RowState) (store : Store) → RowTail told row new → deep new store ≡ deep row store
deep_same told row new Short t = rw (t.long, t.medium) refl
deep_same told row new Medium t = t.long
deep_same told row new Long t = refl

-- a paused row gains nothing
paused_none : (row new : RowState) → row.state ≡ Paused → row.tail ≡ [] → Gain row new → new.tail ≡ []
paused_none row new paused none (no_gain tail next) = tail ∙ none
paused_none row new paused none (one_gain s up late tail next) = absurd (let down : is_running row.state ≡ false = ap is_running paused in cc)

-- it goes on over its base
tail_over : (told : Bool) (row new : RowState) → RowSound told row → RowTail told row new → RowOver told row new
tail_over told row new sound t = by_gain t.gain
  where
    same_lists : durable new ≡ durable row
    same_lists = rw (t.short, t.medium, t.long) refl

    by_gain : Gain row new → RowOver told row new
    by_gain (no_gain tail next) =
        let same : accepted new ≡ accepted row = ap (λ w. over w new.tail) same_lists ∙ ap (λ w. over (durable row) w) tail in
        record {
          base = t.base;
          about = t.about;
          retired = λ is. t.state ∙ is;
          still = λ gone none. (tail ∙ none, same);
          next = omega arith;
          goes = λ rises low. (rw same rises, rw (same, next) low);
          exact = λ known e is. next ∙ (is ∙ ap (λ w. max e (end_of w)) (sym same));
          more = λ known. ([], same ∙ sym (append-nil (accepted row)), tt);
        }
    by_gain (one_gain s up late tail next) =
        let p = end_of (durable row) in
        let first : p ≤ end_from p row.tail = end_from-ge p row.tail sound.later in
        let bound : end_from p row.tail ≤ row.next = sound.next in
        let whole : accepted new ≡ accepted row ++ s ∷ [] =
        ap (λ w. over w new.tail) same_lists
        ∙ (ap (λ w. over (durable row) w) tail
        ∙ (ap (λ w. durable row ++ w) (since-append p row.tail (s ∷ []) ∙ ap (λ w. since p row.tail ++ w) (since_all p s.t (s ∷ []) (omega arith, tt) (omega arith)))
        ∙ sym (append_assoc (durable row) (since p row.tail) (s ∷ [])))) in
        record {
          base = t.base;
          about = t.about;
          retired = λ is. t.state ∙ is;
          still = λ gone none. absurd (let down : is_running row.state ≡ false = ap is_running gone in cc);
          next = omega arith;
          goes = λ rises low.
              let ends : end_of (accepted row ++ s ∷ []) ≡ s.t + 1 = end_from-append 0 (accepted row) (s ∷ []) in
              let more : IsRising (accepted row ++ s ∷ []) = RisesFrom-append 0 (accepted row) (s ∷ []) rises (omega arith, tt) in
              (rw whole more, rw (whole, next) (omega arith));
          exact = λ known e is.
              let ends : end_of (accepted row ++ s ∷ []) ≡ s.t + 1 = end_from-append 0 (accepted row) (s ∷ []) in
              let all : end_of (accepted new) ≡ s.t + 1 = ap end_of whole ∙ ends in
              omega arith;
          more = λ known. (s ∷ [], whole, (late, tt));
        }

module _ (m : Machine) (f : ℕ → RowState → RowState) (s : IsSound m)
    (tails : (i : ℕ) (row : RowState) → slice_get m.rows i ≡ Some row → RowTail m.told row (f i row))
    (bytes : held_bytes (each f 0 m.rows) ≤ 67108864) where
  abbrev new_rows : List RowState
  new_rows = each f 0 m.rows

  -- where a row comes from
  record FromRow (i : ℕ) (new : RowState) : Type 0 where
    row : RowState
    here : slice_get m.rows i ≡ Some row
    tail : RowTail m.told row new

  from : (i : ℕ) (new : RowState) → slice_get new_rows i ≡ Some new → FromRow i new
  from i new there =
      let old = each_get f 0 m.rows i new there in
      let plain : i ≡ 0 + i = omega arith in
      let same : new ≡ f i old.0 = old.2 ∙ ap (λ n. f n old.0) (sym plain) in
      record { row = old.0; here = old.1; tail = subst (λ r. RowTail m.told old.0 r) (sym same) (tails i old.0 old.1) }

  tail_add : (name : List ℕ) → MayAdd m.rows name → MayAdd new_rows name
  tail_add name may = record { room = (let room : length m.rows < 65536 = may.room in let same = length-each f 0 m.rows in omega arith); free = λ i new there same. let o = from i new there in may.free i o.row o.here (ap key_of (sym o.tail.name) ∙ same) }

  tail_may : (change : Change) → MayMake m.rule m.told m.rows m.limbo change → MayMake m.rule m.told new_rows m.limbo change
  tail_may (AddsRow name about) may = tail_add name may
  tail_may (SetsState i state) may = λ new there gone. let o = from i new there in may o.row o.here (sym o.tail.state ∙ gone)
  tail_may (Renames i name) may =
      record {
        add = tail_add name may.add;
        paused = λ new there. let o = from i new there in o.tail.state ∙ may.paused o.row o.here;
        none = λ new there. let o = from i new there in paused_none o.row new (may.paused o.row o.here) (may.none o.row o.here) o.tail.gain;
      }
  tail_may (Appends batch) may = λ i new there. let o = from i new there in let old = may i o.row o.here in (old.0 ++ o.tail.more.0, o.tail.more.1 ∙ (ap (λ w. w ++ o.tail.more.0) old.1 ∙ append_assoc (of_row i batch) old.0 o.tail.more.0))
  tail_may (Publishes i store copied) may =
      record { here = (let low : i < length m.rows = may.here in let same = length-each f 0 m.rows in omega arith); moves = may.moves; front = λ new there t. let o = from i new there in copies_same m.told m.limbo o.row new i store copied o.tail (may.front o.row o.here t) }
  tail_may (Unlists i store to) may =
      record {
        here = (let low : i < length m.rows = may.here in let same = length-each f 0 m.rows in omega arith);
        moves = may.moves;
        edge = may.edge;
        covered = λ new there t. let o = from i new there in rw (tier_same m.told o.row new store o.tail, tier_same m.told o.row new (next_store store) o.tail) (may.covered o.row o.here t);
      }

  same_at : (i : ℕ) (store : Store) → tier_at new_rows i store ≡ tier_at m.rows i store
  same_at i store = by_new (slice_get new_rows i) refl (slice_get m.rows i) refl
    where
      by_new : (o : Option RowState) → slice_get new_rows i ≡ o → (p : Option RowState) → slice_get m.rows i ≡ p → tier_at new_rows i store ≡ tier_at m.rows i store
      by_new (Some new) there p here = let o = from i new there in rw (there, o.here) (tier_same m.told o.row new store o.tail)
      by_new None none None none' = rw (none, none') refl
      by_new None none (Some row) here = absurd (let low : i < length m.rows = slice_get_within m.rows i row here in let same = length-each f 0 m.rows in there_is_row new_rows i (omega arith) none)

  forth : (i : ℕ) (row : RowState) → slice_get m.rows i ≡ Some row → (new : RowState) × (slice_get new_rows i ≡ Some new) × RowOver m.told row new
  forth i row here =
      let plain : 0 + i ≡ i = omega arith in
      (f i row, each_forward f 0 m.rows i row here ∙ ap (λ n. Some (f n row)) plain, tail_over m.told row (f i row) (s.each_row i row here) (tails i row here))

  back : (i : ℕ) (new : RowState) → slice_get new_rows i ≡ Some new → Comes m.told m.rows new_rows i new
  back i new there = let o = from i new there in goes_on o.row o.here (tail_over m.told o.row new (s.each_row i o.row o.here) o.tail)

  pub tails_follow : m.told ≡ true → AllFollow accepted m.rows → AllFollow accepted new_rows
  tails_follow = follows_go m.told m.rows new_rows s.each_row s.bases forth back

  pub tails_sound : IsSound (with_rows m f)
  tails_sound =
      record {
        few = (let few : length m.rows ≤ 65536 = s.few in let same = length-each f 0 m.rows in omega arith);
        keys = λ i j a b here there same. let o = from i a here in let p = from j b there in s.keys i j o.row p.row o.here p.here (ap key_of (sym o.tail.name) ∙ (same ∙ ap key_of p.tail.name));
        each_row = λ i new there. (from i new there).tail.sound;
        bases = bases_go m.told m.rows new_rows s.each_row s.bases forth back;
        lines = λ i new there. (from i new there).tail.lines;
        intake = bytes;
        doubted = λ c is. let old = s.doubted c is in (tail_may c old.0, old.1);
        each_move = λ n move here. let old = s.each_move n move here in
            record {
              here = (let low : move.row < length m.rows = old.here in let same = length-each f 0 m.rows in omega arith);
              moves = old.moves;
              edge = old.edge;
              copied = λ new there t copies. let o = from move.row new there in copies_same m.told m.limbo o.row new move.row move.store move.copied o.tail (old.copied o.row o.here t copies);
            };
        one_move = s.one_move;
        each_file = of_all (LimboSound m.rule m.told m.rows) (LimboSound m.rule m.told new_rows) m.limbo (λ f' l.
            record {
              here = (let low : f'.row < length m.rows = l.here in let same = length-each f 0 m.rows in omega arith);
              moves = l.moves;
              partition = l.partition;
              part = l.part;
              rising = l.rising;
              covered = λ new there t. let o = from f'.row new there in rw (deep_same m.told o.row new f'.store o.tail) (l.covered o.row o.here t);
            }) s.each_file;
        each_unlisted = of_all (IsUnlisted m.rows) (IsUnlisted new_rows) m.limbo (λ f' is. ap (λ w. is_empty (window f'.part w)) (same_at f'.row f'.store) ∙ is) s.each_unlisted;
        places = s.places;
        pinned = λ t n pin here. of_all (PieceSound m.rule m.rows m.limbo) (PieceSound m.rule new_rows m.limbo) pin.pieces (λ piece p.
            record {
              here = (let low : piece.row < length m.rows = p.here in let same = length-each f 0 m.rows in omega arith);
              partition = p.partition;
              extend = p.extend;
              backed = λ new there. let o = from piece.row new there in rw (tier_same m.told o.row new piece.store o.tail) (p.backed o.row o.here);
            }) (s.pinned t n pin here);
      }

-- BYTES

past_bytes : (i k : ℕ) (f : RowState → RowState) (rows : List RowState) → i < k → held_bytes (each (at i f) k rows) ≡ held_bytes rows
past_bytes i k f [] low = refl
past_bytes i k f (row ∷ rows) low = by_test (k == i) refl (past_bytes i (k + 1) f rows (omega arith))
  where
    by_test : (b : Bool) → (k == i) ≡ b → held_bytes (each (at i f) (k + 1) rows) ≡ held_bytes rows → size_of (if b then f row else row).tail + held_bytes (each (at i f) (k + 1) rows) ≡ size_of row.tail + held_bytes rows
    by_test true is more = absurd (let same : k ≡ i = grind (arith, nat_tests) in omega arith)
    by_test false is more = omega arith

-- one row's tail has at most so many bytes more
pub at_bytes : (i k : ℕ) (f : RowState → RowState) (rows : List RowState) (more : ℕ) → ((row : RowState) → size_of (f row).tail ≤ size_of row.tail + more) → held_bytes (each (at i f) k rows) ≤ held_bytes rows + more
at_bytes i k f [] more low = omega arith
at_bytes i k f (row ∷ rows) more low = by_test (k == i) refl (at_bytes i (k + 1) f rows more low) (λ h. past_bytes i (k + 1) f rows h)
  where
    by_test : (b : Bool) → (k == i) ≡ b → held_bytes (each (at i f) (k + 1) rows) ≤ held_bytes rows + more → (i < k + 1 → held_bytes (each (at i f) (k + 1) rows) ≡ held_bytes rows) → size_of (if b then f row else row).tail + held_bytes (each (at i f) (k + 1) rows) ≤ size_of row.tail + held_bytes rows + more
    by_test true is rest past = let same : k ≡ i = grind (arith, nat_tests) in let none = past (omega arith) in let one = low row in omega arith
    by_test false is rest past = omega arith
