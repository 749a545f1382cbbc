-- A sound machine is as sound with other tails, where these are later than what is durable and begin with what is in doubt, and where each
-- row's admission goes on from the end of the whole of it.
use Rattle.std.proofs.Common.{◌≡◌, ℕ, ◌+◌, ◌<◌, ◌≤◌, List, [], ◌∷◌, ◌++◌, length, max, Option, Some, None, refl, ap, sym, ◌∙◌, subst, arith}
use Rattle.std.specs.Prelude.{slice_get}
use Rattle.std.proofs.lemmas.Option.{same_Some, slice_get_within}
use Rattle.pv_name.specs.Key.{key_of}
use Rattle.series_model.specs.declared.sample.Sample.{Sample}
use Rattle.series_model.specs.declared.batch.RowSamples.{RowSamples}
use Rattle.series_model.specs.Series.{IsRising, RisesFrom, end_from, end_of, over}
use Rattle.series_model.proofs.OverLemmas.{end_of-over, over_rising}
use Rattle.series_model.proofs.RisingLists.{RisesFrom-lower, end_from-append, since_all}
use Rattle.act_model.specs.Rows.{RowState, Store, Short, Medium, Long, next_store, accepted, durable, deep, tier, window, is_empty}
use Rattle.act_model.specs.Limbo.{RowFile, tier_at}
use Rattle.act_model.specs.Machine.{Machine, Change, AddsRow, SetsState, Renames, Appends, Publishes, Unlists, held_bytes}
use Rattle.act_model.specs.Changes.{each, of_row}
use Rattle.act_model.specs.Sound.{RowSound, IsOver, BasesSound, LinesSound, CopiesOf, MayAdd, MayMake, LimboSound, IsUnlisted, PieceSound, IsSoundOf, IsSound}
use Rattle.act_model.specs.Whole.{past, whole}
use Rattle.act_model.proofs.Rows.{each_forward, each_get, length-each, of_all, there_is_row}
use Rattle.act_model.proofs.Wholes.{StandsBefore, whole_is, whole_goes}
use Rattle.two_histories.specs.ArchiveStore.{with_end, with_ends}

-- WHERE ADMISSION GOES ON

pub ended_back : (rows : List RowState) (i : ℕ) (new : RowState) → slice_get (with_ends rows) i ≡ Some new → (row : RowState) × (slice_get rows i ≡ Some row) × (new ≡ with_end rows i row)
ended_back rows i new there = let o = each_get (with_end rows) 0 rows i new there in let plain : 0 + i ≡ i = omega arith in (o.0, o.1, o.2 ∙ ap (λ n. with_end rows n o.0) plain)

pub ended_forth : (rows : List RowState) (i : ℕ) (row : RowState) → slice_get rows i ≡ Some row → slice_get (with_ends rows) i ≡ Some (with_end rows i row)
ended_forth rows i row here = let plain : 0 + i ≡ i = omega arith in each_forward (with_end rows) 0 rows i row here ∙ ap (λ n. Some (with_end rows n row)) plain

pub length-ended : (rows : List RowState) → length (with_ends rows) ≡ length rows
length-ended rows = length-each (with_end rows) 0 rows

same_bytes : (f : ℕ → RowState → RowState) (k : ℕ) (rows : List RowState) → ((i : ℕ) (row : RowState) → (f i row).tail ≡ row.tail) → held_bytes (each f k rows) ≡ held_bytes rows
same_bytes f k [] same = refl
same_bytes f k (row ∷ rows) same = rw (same k row, same_bytes f (k + 1) rows same) refl

-- a row's own list
own_list : (row : RowState) → IsRising (durable row) → RisesFrom (end_of (durable row)) row.tail → IsRising (accepted row) × (end_of (accepted row) ≡ end_from (end_of (durable row)) row.tail)
own_list row rises later =
    let n = end_of (durable row) in (
      over_rising (durable row) row.tail rises (RisesFrom-lower 0 n row.tail later (omega arith)),
      ap (λ w. end_of (durable row ++ w)) (since_all n n row.tail later (omega arith)) ∙ end_from-append 0 (durable row) row.tail,
    )

-- OTHER TAILS

-- a row with the same stores, of the same variable
pub record SameStores (row new : RowState) : Type 0 where
  pub short : new.short ≡ row.short
  pub medium : new.medium ≡ row.medium
  pub long : new.long ≡ row.long
  pub name : new.name ≡ row.name
  pub about : new.about ≡ row.about
  pub state : new.state ≡ row.state
  pub base : new.base ≡ row.base

pub same_stores : (row : RowState) → SameStores row row
same_stores row = record { short = refl; medium = refl; long = refl; name = refl; about = refl; state = refl; base = refl }

pub same_durable : (row new : RowState) → SameStores row new → durable new ≡ durable row
same_durable row new t = rw (t.short, t.medium, t.long) refl

-- the row is a base of another
pub record IsBase (rows : List RowState) (i : ℕ) : Type 0 where
  pub at : ℕ
  pub row : RowState
  pub here : slice_get rows at ≡ Some row
  pub base : row.base ≡ Some i

-- the row that a new one has the stores of
pub record FromRow (rows : List RowState) (i : ℕ) (new : RowState) : Type 0 where
  pub row : RowState
  pub here : slice_get rows i ≡ Some row
  pub same : SameStores row new
  pub later : RisesFrom (end_of (durable row)) new.tail
  pub lines : LinesSound new
  pub none : IsBase rows i → new.tail ≡ []

tier_same : (row new : RowState) (store : Store) → SameStores row new → tier new store ≡ tier row store
tier_same row new Short t = t.short
tier_same row new Medium t = t.medium
tier_same row new Long t = t.long

deep_same : (row new : RowState) (store : Store) → SameStores row new → deep new store ≡ deep row store
deep_same row new Short t = rw (t.long, t.medium) refl
deep_same row new Medium t = t.long
deep_same row new Long t = refl

copies_same : (limbo : List RowFile) (row new : RowState) (i : ℕ) (store : Store) (copied : List Sample) → SameStores row new → CopiesOf limbo row i store copied → CopiesOf limbo new i store copied
copies_same limbo row new i Short copied t c = rw (t.short, t.medium, t.long) c
copies_same limbo row new i Medium copied t c = rw (t.medium, t.long) c
copies_same limbo row new i Long copied t c = rw t.long c

module _ (m : Machine) (bare : List RowState) (s : IsSound m)
    (same_length : length bare ≡ length m.rows)
    (from : (i : ℕ) (new : RowState) → slice_get bare i ≡ Some new → FromRow m.rows i new)
    (in_doubt : (batch : List RowSamples) → m.doubt ≡ Some (Appends batch) → (i : ℕ) (new : RowState) → slice_get bare i ≡ Some new → (rest : List Sample) × (new.tail ≡ of_row i batch ++ rest))
    (renamed : (k : ℕ) (name : List ℕ) → m.doubt ≡ Some (Renames k name) → (new : RowState) → slice_get bare k ≡ Some new → new.tail ≡ [])
    (bytes : held_bytes bare ≤ 67108864) where
  abbrev news : List RowState
  news = with_ends bare

  forth : (i : ℕ) (row : RowState) → slice_get m.rows i ≡ Some row → (new : RowState) × (slice_get bare i ≡ Some new) × SameStores row new
  forth i row here = by_new (slice_get bare i) refl
    where
      by_new : (o : Option RowState) → slice_get bare i ≡ o → (new : RowState) × (slice_get bare i ≡ Some new) × SameStores row new
      by_new (Some new) there = let o = from i new there in let same : o.row ≡ row = same_Some o.row row (sym o.here ∙ here) in (new, there, subst (λ r. SameStores r new) same o.same)
      by_new None none = absurd (let low : i < length m.rows = slice_get_within m.rows i row here in let long = same_length in there_is_row bare i (omega arith) none)

  -- each base stands before its row
  lies : (i : ℕ) (row : RowState) (b : ℕ) → slice_get bare i ≡ Some row → row.base ≡ Some b → StandsBefore bare i b
  lies i row b here is = let o = from i row here in let x = s.bases.over i o.row b o.here (sym o.same.base ∙ is) in let f = forth b x.base x.here in record { base = f.0; here = f.1; below = x.below }

  ended_whole : (i : ℕ) (row : RowState) → slice_get bare i ≡ Some row → whole accepted news i ≡ whole accepted bare i
  ended_whole i row here =
      whole_goes accepted accepted bare news lies (λ k r there. record { new = with_end bare k r; there = ended_forth bare k r there; base = refl; still = λ j above at is. refl }) i row here
      ∙ sym (whole_is accepted bare i row here (λ b is. (lies i row b here is).below))

  -- a row with its end
  record Ended (i : ℕ) (new : RowState) : Type 0 where
    row : RowState
    here : slice_get m.rows i ≡ Some row
    of : RowState
    at : slice_get bare i ≡ Some of
    tail : new.tail ≡ of.tail
    next : new.next ≡ end_of (whole accepted bare i)
    same : SameStores row new
    sound : RowSound m.told new
    lines : LinesSound new

  ended_row : (i : ℕ) (of : RowState) → slice_get bare i ≡ Some of → Ended i (with_end bare i of)
  ended_row i of at =
      let o = from i of at in
      let old = s.each_row i o.row o.here in
      let same : durable of ≡ durable o.row = same_durable o.row of o.same in
      let rises : IsRising (durable of) = rw same (over_rising (over o.row.long o.row.medium) o.row.short (over_rising o.row.long o.row.medium old.long old.medium) old.short) in
      let later : RisesFrom (end_of (durable of)) of.tail = rw same o.later in
      let own = own_list of rises later in
      let all : end_of (whole accepted bare i) ≡ max (end_of (past accepted bare of.base)) (end_of (accepted of)) =
      ap end_of (whole_is accepted bare i of at (λ b is. (lies i of b at is).below)) ∙ end_of-over (past accepted bare of.base) (accepted of) own.0 in
      record {
        row = o.row;
        here = o.here;
        of = of;
        at = at;
        tail = refl;
        next = refl;
        same = record { short = o.same.short; medium = o.same.medium; long = o.same.long; name = o.same.name; about = o.same.about; state = o.same.state; base = o.same.base };
        sound = record {
          short = rw o.same.short old.short;
          medium = rw o.same.medium old.medium;
          long = rw o.same.long old.long;
          later = later;
          next = (let ends : end_of (accepted of) ≡ end_from (end_of (durable of)) of.tail = own.1 in omega arith);
        };
        lines = record { tail = o.lines.tail; held = o.lines.held };
      }

  ended : (i : ℕ) (new : RowState) → slice_get news i ≡ Some new → Ended i new
  ended i new there = let e = ended_back bare i new there in subst (λ r. Ended i r) (sym e.2) (ended_row i e.0 e.1)

  bases : BasesSound m.told news
  bases =
      record {
        over = λ i new b there is. stands_over i new b is (ended i new there);
        one = λ i j b a c here there is is'. let x = ended i a here in let y = ended j c there in s.bases.one i j b x.row y.row x.here y.here (sym x.same.base ∙ is) (sym y.same.base ∙ is');
        end = λ i new there. let e = ended i new there in let same = ap end_of (ended_whole i e.of e.at) in let next = e.next in omega arith;
        exact = λ t i new there. let e = ended i new there in e.next ∙ sym (ap end_of (ended_whole i e.of e.at));
      }
    where
      stands_over : (i : ℕ) (new : RowState) (b : ℕ) → new.base ≡ Some b → Ended i new → IsOver news i new b
      stands_over i new b is e =
          let own : e.row.base ≡ Some b = sym e.same.base ∙ is in
          let x = s.bases.over i e.row b e.here own in
          let f = forth b x.base x.here in
          record {
            base = with_end bare b f.0;
            here = ended_forth bare b f.0 f.1;
            below = x.below;
            retired = f.2.state ∙ x.retired;
            about = f.2.about ∙ (x.about ∙ sym e.same.about);
            none = (from b f.0 f.1).none (record { at = i; row = e.row; here = e.here; base = own });
          }

  may_add : (name : List ℕ) → MayAdd m.rows name → MayAdd news name
  may_add name may =
      record {
        room = (let room : length m.rows < 65536 = may.room in let long = same_length in let ends = length-ended bare in omega arith);
        free = λ i new there same. let o = ended i new there in may.free i o.row o.here (ap key_of (sym o.same.name) ∙ same);
      }

  may_still : (change : Change) → m.doubt ≡ Some change → MayMake m.rule m.told m.rows m.limbo change → MayMake m.rule m.told news m.limbo change
  may_still (AddsRow name about) is may = may_add name may
  may_still (SetsState i state) is may = λ new there gone. let o = ended i new there in may o.row o.here (sym o.same.state ∙ gone)
  may_still (Renames i name) is may =
      record {
        add = may_add name may.add;
        paused = λ new there. let o = ended i new there in o.same.state ∙ may.paused o.row o.here;
        none = λ new there. let o = ended i new there in o.tail ∙ renamed i name is o.of o.at;
      }
  may_still (Appends batch) is may = λ i new there. let o = ended i new there in let d = in_doubt batch is i o.of o.at in (d.0, o.tail ∙ d.1)
  may_still (Publishes i store copied) is may =
      record {
        here = (let low : i < length m.rows = may.here in let long = same_length in let ends = length-ended bare in omega arith);
        moves = may.moves;
        front = λ new there t. let o = ended i new there in copies_same m.limbo o.row new i store copied o.same (may.front o.row o.here t);
      }
  may_still (Unlists i store to) is may =
      record {
        here = (let low : i < length m.rows = may.here in let long = same_length in let ends = length-ended bare in omega arith);
        moves = may.moves;
        edge = may.edge;
        covered = λ new there t. let o = ended i new there in rw (tier_same o.row new store o.same, tier_same o.row new (next_store store) o.same) (may.covered o.row o.here t);
      }

  same_at : (i : ℕ) (store : Store) → tier_at news i store ≡ tier_at m.rows i store
  same_at i store = by_new (slice_get news i) refl (slice_get m.rows i) refl
    where
      by_new : (o : Option RowState) → slice_get news i ≡ o → (p : Option RowState) → slice_get m.rows i ≡ p → tier_at news i store ≡ tier_at m.rows i store
      by_new (Some new) there p here = let o = ended i new there in rw (there, o.here) (tier_same o.row new store o.same)
      by_new None none None none' = rw (none, none') refl
      by_new None none (Some row) here = let f = forth i row here in absurd (let bad = sym none ∙ ended_forth bare i f.0 f.1 in cc)

  pub retailed : IsSoundOf m.rule m.told news m.limbo m.pins m.moves m.doubt
  retailed =
      let long = same_length in
      let ends = length-ended bare in
      record {
        few = (let few : length m.rows ≤ 65536 = s.few in omega arith);
        keys = λ i j a b here there same. let o = ended i a here in let p = ended j b there in s.keys i j o.row p.row o.here p.here (ap key_of (sym o.same.name) ∙ (same ∙ ap key_of p.same.name));
        each_row = λ i new there. (ended i new there).sound;
        bases = bases;
        lines = λ i new there. (ended i new there).lines;
        intake = (let same = same_bytes (with_end bare) 0 bare (λ i row. refl) in omega arith);
        doubted = λ c is. let old = s.doubted c is in (may_still c is old.0, old.1);
        each_move = λ n move here. let old = s.each_move n move here in
            record {
              here = (let low : move.row < length m.rows = old.here in omega arith);
              moves = old.moves;
              edge = old.edge;
              copied = λ new there t copies. let o = ended move.row new there in copies_same m.limbo o.row new move.row move.store move.copied o.same (old.copied o.row o.here t copies);
            };
        one_move = s.one_move;
        each_file = of_all (LimboSound m.rule m.told m.rows) (LimboSound m.rule m.told news) m.limbo (λ f l.
            record {
              here = (let low : f.row < length m.rows = l.here in omega arith);
              moves = l.moves;
              partition = l.partition;
              part = l.part;
              rising = l.rising;
              covered = λ new there t. let o = ended f.row new there in rw (deep_same o.row new f.store o.same) (l.covered o.row o.here t);
            }) s.each_file;
        each_unlisted = of_all (IsUnlisted m.rows) (IsUnlisted news) m.limbo (λ f is. ap (λ w. is_empty (window f.part w)) (same_at f.row f.store) ∙ is) s.each_unlisted;
        places = s.places;
        pinned = λ t n pin here. of_all (PieceSound m.rule m.rows m.limbo) (PieceSound m.rule news m.limbo) pin.pieces (λ piece p.
            record {
              here = (let low : piece.row < length m.rows = p.here in omega arith);
              partition = p.partition;
              extend = p.extend;
              backed = λ new there. let o = ended piece.row new there in rw (tier_same o.row new piece.store o.same) (p.backed o.row o.here);
            }) (s.pinned t n pin here);
      }
