-- Where a piece begins to give its samples.
use Rattle.std.proofs.Common.{◌≡◌, ℕ, ◌+◌, ◌<◌, ◌≤◌, inl, inr, List, [], ◌∷◌, ◌++◌, Option, None, Some, Result, Ok, Err, length, take, refl, ap, sym, ◌∙◌, subst, arith, append_assoc}
use Rattle.std.specs.Prelude.{OnOk}
use Rattle.std.specs.List.{AllByRecursion}
use Rattle.std.proofs.lemmas.Bool.{cases_lt}
use Rattle.series_model.specs.declared.sample.Sample.{Sample}
use Rattle.series_model.specs.declared.sample.Query.{Query}
use Rattle.series_model.specs.Series.{RisesFrom, IsRising, before, since, end_from}
use Rattle.series_model.proofs.RisingLists.{RisesFrom-front, RisesFrom-rest, RisesFrom-lower, RisesFrom-since, end_from-ge}
use Rattle.pb_messages.specs.declared.info.PayloadInfo.{PayloadInfo}
use Rattle.pb_lines.proofs.FileLines.{all_rest}
use Rattle.pb_file.specs.Walk.{Walk, behind}
use Rattle.pb_file.specs.Search.{end_place, place_from, BeginsWithHeader, IsLastLine, IsLineStart, MayBegin}
use Rattle.pb_file.specs.Skip.{HasHeader, HasSkipped}
use Rattle.pb_file.proofs.Placing.{end_is, end-append, split_two}
use Rattle.pb_file.proofs.Skipping.{headed}
use Rattle.stream_merge.specs.Beginning.{early_count, IsAtLine, Splits, BeginsBefore, BeginsFrom, BeginsWell}
use Rattle.stream_merge.proofs.Leaving.{split_at, are_before, early-append, early_last, gone_answers, answers_on, answers_same, passed_answers}

-- THE WALK

-- what became of a walk that was to go on at a place: it stands there now, or stood no earlier
pub data Went (old new : Walk) (at : ℕ) : Type 0 where
  moved : (old.place < at) → (new ≡ record old { place = at; earliest = 0; stop = None }) → Went old new at
  stayed : (at ≤ old.place) → (new ≡ old) → Went old new at

pub went : (old new : Walk) (at : ℕ) → at ≤ old.len → (old.place < at → at ≤ old.len → new ≡ record old { place = at; earliest = 0; stop = None }) → ((old.place < at → at ≤ old.len → ⊥) → new ≡ old) → Went old new at
went old new at within moves stays =
    elim (cases_lt old.place at) [
      | inl less ↦ moved less (moves less within)
      | inr past ↦ stayed past (stays (λ less more. omega (arith, less, past)))
    ]

pub at_line : (head_len : ℕ) (old new : Walk) (bytes : List ℕ) (at : ℕ) → Went old new at → IsLineStart (take old.len bytes) head_len at → ((head : List ℕ) (info : PayloadInfo) → BeginsWithHeader (take old.len bytes) head info → MayBegin info (take old.len bytes) head_len at)
    → (old.place < at → at ≤ old.len → (bytes head : List ℕ) (info : PayloadInfo) → HasHeader old bytes head info → HasSkipped new bytes at (record { head = head; info = info; samples = [] })) → at ≤ old.len → IsAtLine head_len old bytes → IsAtLine head_len new bytes
at_line head_len old new bytes at (stayed past is) start from skips within h = let P : Walk → Type 0 = λ w. IsAtLine head_len w bytes in subst P (sym is) h
at_line head_len old new bytes at (moved less is) start from skips within h =
    let here : new.place ≡ at = ap (λ (w : Walk). w.place) is in
    let same : new.len ≡ old.len = ap (λ (w : Walk). w.len) is in
    let S : ℕ → Type 0 = λ n. HasSkipped new bytes n (record { head = h.head; info = h.info; samples = [] }) in
    let T : ℕ → Type 0 = λ n. take n bytes ≡ h.head ++ 10 ∷ h.rest in
    let L : ℕ → Type 0 = λ n. IsLineStart (take n bytes) head_len at in
    let A : ℕ → Type 0 = λ n. IsLineStart (take new.len bytes) head_len n in
    let M : ℕ → Type 0 = λ n. MayBegin h.info (take n bytes) head_len at in
    let N : ℕ → Type 0 = λ n. MayBegin h.info (take new.len bytes) head_len n in
    record {
      head = h.head;
      info = h.info;
      rest = h.rest;
      size = h.size;
      text = subst T (sym same) h.text;
      skipped = subst S (sym here) (skips less within bytes h.head h.info (headed old bytes old.place (record { head = h.head; info = h.info; samples = [] }) h.skipped));
      begins = subst A (sym here) (subst L (sym same) start);
      from = subst N (sym here) (subst M (sym same) (from h.head h.info (record { rest = h.rest; text = h.text; whole = h.skipped.read.whole; header = h.skipped.read.header })));
    }

-- AT THE LAST ONE THAT IS EARLIER

pub begins_first : (from : ℕ) (head : List ℕ) (samples : List Sample) (place : ℕ) → before from samples ≡ [] → place ≡ length head + 1 → BeginsBefore from head samples place
begins_first from head samples place none is = record {
  here = samples;
  split = record { passed = []; all = refl; place_is = omega (arith, is, end_is head []) };
  last = inl refl;
  few = omega (arith, ap length none);
}

pub begins_last : (from : ℕ) (head : List ℕ) (samples : List Sample) (old new : Walk) (at : ℕ) → IsRising samples → IsLastLine head (before from samples) (Some at) → old.place ≡ length head + 1 → Went old new at → BeginsBefore from head samples new.place
begins_last from head samples old new at rises last first went =
    let front = last.0 in
    let s = last.1 in
    let E : List Sample → Type 0 = λ l. AllByRecursion (λ (x : Sample). x.t < from) l in
    let less = (all_rest (λ (x : Sample). x.t < from) front (s ∷ []) (subst E last.2 (are_before from samples))).0 in
    record {
      here = s ∷ since from samples;
      split = record {
        passed = front;
        all = split_at from 0 samples rises ∙ ap (λ (l : List Sample). l ++ since from samples) last.2 ∙ append_assoc front (s ∷ []) (since from samples);
        place_is = at_end went;
      };
      last = inr (s, since from samples, refl, less);
      few = early_last from 0 s samples rises;
    }
  where
    at_end : Went old new at → new.place ≡ end_place head last.0
    at_end (moved less is) = ap (λ (w : Walk). w.place) is ∙ last.3
    at_end (stayed past is) = omega (arith, ap (λ (w : Walk). w.place) is, last.3, first, past, end_is head last.0)

-- BEHIND THOSE THAT WERE TAKEN

pub begins_from : (n : ℕ) (head : List ℕ) (samples here : List Sample) (old new : Walk) (at : ℕ) → IsRising samples → at ≡ place_from head samples n → Splits head samples here old.place → Went old new at → BeginsFrom n head samples here new.place
begins_from n head samples here old new at rises is split went =
    elim (split_two split.passed here (before n samples) (since n samples) (sym split.all ∙ split_at n 0 samples rises)) [
      | inl g ↦
          (let E : List Sample → Type 0 = λ l. AllByRecursion (λ (x : Sample). x.t < n) l in
          record {
            gone = g.0;
            here = since n samples;
            list = g.2;
            are = all_rest (λ (x : Sample). x.t < n) split.passed g.0 (subst E g.1 (are_before n samples));
            split = record { passed = before n samples; all = split_at n 0 samples rises; place_is = there g.0 g.1 went };
            rises = RisesFrom-since 0 n samples rises;
          })
      | inr g ↦
          (let R : List Sample → Type 0 = λ l. RisesFrom n l in
          let later = subst R g.3 (RisesFrom-since 0 n samples rises) in
          let behind : RisesFrom (g.0.t + 1) (g.1 ++ here) = later.1 in
          let first : n ≤ g.0.t = later.0 in
          let rest : RisesFrom (end_from (g.0.t + 1) g.1) here = RisesFrom-rest (g.0.t + 1) g.1 here behind in
          record {
            gone = [];
            here = here;
            list = refl;
            are = tt;
            split = record { passed = split.passed; all = split.all; place_is = not_there g.0 g.1 g.2 went };
            rises = RisesFrom-lower n (end_from (g.0.t + 1) g.1) here rest (omega (arith, first, ends g.0 g.1 behind));
          })
    ]
  where
    there : (g : List Sample) → before n samples ≡ split.passed ++ g → Went old new at → new.place ≡ end_place head (before n samples)
    there g all (moved less now) = ap (λ (w : Walk). w.place) now ∙ is
    there g all (stayed past now) = omega (arith, ap (λ (w : Walk). w.place) now, is, past, split.place_is, ap (λ (l : List Sample). end_place head l) all, end-append head split.passed g)

    not_there : (s : Sample) (g : List Sample) → split.passed ≡ before n samples ++ s ∷ g → Went old new at → new.place ≡ end_place head split.passed
    not_there s g all (moved less now) = absurd (omega (arith, less, is, split.place_is, ap (λ (l : List Sample). end_place head l) all, end-append head (before n samples) (s ∷ g)))
    not_there s g all (stayed past now) = ap (λ (w : Walk). w.place) now ∙ split.place_is

    ends : (s : Sample) (g : List Sample) → RisesFrom (s.t + 1) (g ++ here) → s.t + 1 ≤ end_from (s.t + 1) g
    ends s g rise = end_from-ge (s.t + 1) g (RisesFrom-front (s.t + 1) g here rise)

-- THE WHOLE

pub begins_well_first : (q : Query) (head : List ℕ) (samples : List Sample) (place : ℕ) → IsRising samples → BeginsBefore q.from head samples place → BeginsWell 0 q head samples place
begins_well_first q head samples place rises b =
    let P : List Sample → Type 0 = IsRising in
    let all = subst P b.split.all rises in
    record {
      here = b.here;
      split = b.split;
      placed = (RisesFrom-lower 0 (end_from 0 b.split.passed) b.here (RisesFrom-rest 0 b.split.passed b.here all) (omega arith), b.few);
      same = λ more. answers_on 0 q (samples ++ more) ((b.split.passed ++ b.here) ++ more) (b.here ++ more) (answers_same 0 q (samples ++ more) ((b.split.passed ++ b.here) ++ more) (ap (λ (l : List Sample). l ++ more) b.split.all)) (passed_answers 0 q b.split.passed b.here more all b.last);
    }

pub begins_well : (n : ℕ) (q : Query) (head : List ℕ) (samples : List Sample) (place place₂ : ℕ) → IsRising samples → (b : BeginsBefore q.from head samples place) → BeginsFrom n head samples b.here place₂ → BeginsWell n q head samples place₂
begins_well n q head samples place place₂ rises b f =
    let P : List Sample → Type 0 = IsRising in
    let all = subst P b.split.all rises in
    let one = λ (more : List Sample). answers_on n q (samples ++ more) ((b.split.passed ++ b.here) ++ more) (b.here ++ more) (answers_same n q (samples ++ more) ((b.split.passed ++ b.here) ++ more) (ap (λ (l : List Sample). l ++ more) b.split.all)) (passed_answers n q b.split.passed b.here more all b.last) in
    let two = λ (more : List Sample). answers_on n q (b.here ++ more) ((f.gone ++ f.here) ++ more) (f.here ++ more) (answers_same n q (b.here ++ more) ((f.gone ++ f.here) ++ more) (ap (λ (l : List Sample). l ++ more) f.list)) (gone_answers n q f.gone f.here more f.are) in
    record {
      here = f.here;
      split = f.split;
      placed = (f.rises, omega (arith, ap (λ (l : List Sample). early_count q.from l) f.list, early-append q.from f.gone f.here, b.few));
      same = λ more. answers_on n q (samples ++ more) (b.here ++ more) (f.here ++ more) (one more) (two more);
    }

-- no sample was taken yet
pub behind_none : (o : Option ℕ) → ((t : ℕ) → o ≡ Some t → ⊥) → behind o ≡ 0
behind_none None none = refl
behind_none (Some t) none = absurd (none t refl)

pub on_ok : {T E : Type 0} (r : Result T E) (P Q : Type 0) → (P → Q) → OnOk r P → OnOk r Q
on_ok {T} {E} (Ok x) P Q maps is = maps is
on_ok {T} {E} (Err e) P Q maps is = tt
