-- An extraction behind a run.
use Rattle.std.proofs.Common.{◌≡◌, ℕ, ◌+◌, ◌-◌, ◌<◌, inl, inr, List, [], ◌∷◌, ◌++◌, Bool, Option, Some, None, length, take, map, arith, refl, sym, ap, ◌∙◌, subst, append_assoc}
use Rattle.std.specs.Prelude.{IsSome}
use Rattle.std.specs.Io.KnownBytes.{Appends}
use Rattle.std.proofs.KnownBytes.{Appends-trans, Appends-nil}
use Rattle.std.proofs.lemmas.List.{append-nil, length-take-le}
use Rattle.series_model.specs.declared.sample.Sample.{Sample}
use Rattle.series_model.specs.declared.sample.Query.{Query}
use Rattle.series_model.specs.Series.{RisesFrom}
use Rattle.pb_messages.specs.declared.info.PayloadInfo.{PayloadInfo}
use Rattle.pb_lines.specs.File.{lines_of}
use Rattle.pb_lines.specs.Stream.{Item, sample, Section}
use Rattle.pb_lines.specs.declared.run.Run.{Run}
use Rattle.pb_lines.specs.Run.{HoldsRun, TakesRun, samples_of}
use Rattle.pb_lines.specs.Reader.{Chunks, Passes, to_come}
use Rattle.pb_lines.proofs.Running.{last_line}
use Rattle.stream_extract.specs.Extract.{lines_text, known, Before, samples, text_behind, extracted}
use Rattle.stream_extract.specs.Answer.{Answering, Adds, TakesAll, OnOneSide, IsBound, IsFollowed, next_of}
use Rattle.stream_extract.specs.Run.{Sends, Runs, RunsOn}
use Rattle.pb_lines.proofs.Passing.{passes_join}
use Rattle.stream_extract.proofs.Progress.{Progress, Stands, inside_mode}

-- THE TEXT OF A RUN

pub same_text : (xs : List Sample) → lines_of xs ≡ lines_text xs
same_text [] = refl
same_text (s ∷ xs) = ap (λ (u : List ℕ). s.line ++ 10 ∷ u) (same_text xs) ∙ sym (append_assoc s.line (10 ∷ []) (lines_text xs))

-- a run that is held comes next
pub followed : (r : Chunks) (a : Answering) (last to : ℕ) (run : Run) (text : List ℕ) → IsBound a last to → (h : HoldsRun r last to run) → text ≡ take run.len r.lines.held → IsFollowed a (samples_of h.is) run.t run.last text
followed r a last to run text bound h is =
    let next : next_of a.last ≡ last + 1 = ap next_of bound.0 in
    let P : ℕ → Type 0 = λ n. RisesFrom n (samples_of h.is) in
    let Q : ℕ → Type 0 = λ n. OnOneSide a.query n h.is.last.t in
    record {
      front = h.is.front;
      final = h.is.last;
      split = refl;
      rising = subst P (sym next) h.is.rising;
      text = is ∙ h.is.text ∙ same_text (samples_of h.is);
      t = h.is.t;
      ending = h.is.ending;
      side = subst Q (sym next) (bound.2 h.is.last.t h.is.upto);
    }

-- its last line ends the text
pub text_long : (r : Chunks) (after to : ℕ) (run : Run) (text : List ℕ) → HoldsRun r after to run → text ≡ take run.len r.lines.held → run.last < length text
text_long r after to run text h is =
    let l = last_line h.info.ty h.info.year after to r.lines.held run h.is in
    omega (arith, l.last, ap length is, length-take-le run.len r.lines.held h.is.within)

some_by : (o : Option PayloadInfo) (info : PayloadInfo) → o ≡ Some info → IsSome o
some_by (Some i) info h = refl
some_by None info h = cc

-- so it is read
pub runs : (r r' r'' : Chunks) (a b : Answering) (last to : ℕ) (run : Run) (text out total : List ℕ) → IsBound a last to → HoldsRun r last to run → r' ≡ r → text ≡ take run.len r'.lines.held
    → ((ys : List Sample) → IsFollowed a ys run.t run.last text → TakesAll a b ys out total) → b.query ≡ a.query → TakesRun r' r'' run
    → ((after to : ℕ) (h : HoldsRun r' after to run) (left : Option (List ℕ)) → Passes r' r'' (to_come r' left) (to_come r'' left) (map sample (samples_of h.is))) → RunsOn r r'' a b out total
runs r r' r'' a b last to run text out total bound held same is takes query taken passes =
    let P : Chunks → Type 0 = λ c. HoldsRun c last to run in
    let h = subst P (sym same) held in
    let R : Chunks → Type 0 = λ c. RunsOn c r'' a b out total in
    subst R same (inr (record {
      samples = samples_of h.is;
      passes = passes last to h;
      takes = takes (samples_of h.is) (followed r' a last to run text bound h is);
      section = taken.section;
      refused = taken.refused;
      work = omega (arith, taken.work);
      query = query;
      inside = some_by r'.section.chunk h.info h.inside;
    }))

-- WHAT IS WRITTEN

pub sends_none : (a : Option (List ℕ)) (text : List ℕ) → Sends a a text text
sends_none a text = ([], refl, Appends-nil a)

pub sends_all : (a b : Option (List ℕ)) (text left : List ℕ) → Appends a b text → left ≡ [] → Sends a b text left
sends_all a b text left all none = (text, sym (append-nil text) ∙ ap (λ (u : List ℕ). text ++ u) (sym none), all)

-- what was gathered was written, or a front of it
pub sent : (q : Query) (a b b' : Option (List ℕ)) (old new : Chunks) (before after : Option (List ℕ)) (gathered left : List ℕ) (later : Bool) (answering : Answering) → Progress q a b old new before after gathered later answering → Sends b b' gathered left → Progress q a b' old new before after left later answering
sent q a b b' old new before after gathered left later answering p s =
    record {
      items = p.items;
      passed = p.passed;
      out = p.out ++ s.0;
      written = Appends-trans a b b' p.out s.0 p.written s.2;
      mode = p.mode;
      stands = p.stands;
      marked = p.marked;
      query = p.query;
      text = p.text;
      split = append_assoc p.out s.0 left ∙ ap (λ (u : List ℕ). p.out ++ u) (sym s.1) ∙ p.split;
      so_far = p.so_far;
    }

-- THE STEP

behind_run : (q : Query) (xs ys : List Sample) (rest : List Item) → text_behind q (samples xs) (map sample ys ++ rest) ≡ text_behind q (samples (xs ++ ys)) rest
behind_run q xs [] rest = ap (λ (l : List Sample). text_behind q (samples l) rest) (sym (append-nil xs))
behind_run q xs (y ∷ ys) rest = behind_run q (xs ++ y ∷ []) ys rest ∙ ap (λ (l : List Sample). text_behind q (samples l) rest) (append_assoc xs (y ∷ []) ys)

ran_all : (q : Query) (a b : Option (List ℕ)) (old mid new : Chunks) (before left : Option (List ℕ)) (gathered total : List ℕ) (later : Bool) (answering next : Answering) → Progress q a b old mid before (to_come mid left) gathered later answering → Runs mid new answering next gathered total → Progress q a b old new before (to_come new left) total later next
ran_all q a b old mid new before left gathered total later answering next p h =
    let ys = h.samples in
    let m = inside_mode p.mode mid.section answering p.stands h.inside in
    let xs = m.0 in
    let S : Before → Type 0 = λ mode. Stands mode mid.section answering in
    let stands = subst S m.1 p.stands in
    let k = h.takes xs stands.2 in
    let A : Query → Type 0 = λ q. Adds (lines_text (known q xs)) (lines_text (known q (xs ++ ys))) gathered total in
    let adds = subst A p.query k.1 in
    record {
      items = p.items ++ map sample ys;
      passed = passes_join old mid new before (to_come mid left) (to_come new left) p.items (map sample ys) p.passed (h.passes left);
      out = p.out;
      written = p.written;
      mode = samples (xs ++ ys);
      stands = (rw h.section stands.0, rw h.section stands.1, k.0);
      marked = p.marked ∙ sym (ap (λ (s : Section). s.begun) h.section);
      query = h.query ∙ p.query;
      text = p.text;
      split =
          let was : p.out ++ gathered ≡ p.text ++ lines_text (known q xs) = p.split ∙ ap (λ (mode : Before). p.text ++ text_behind q mode []) m.1 in
          rw (adds.2, adds.1) (sym (append_assoc p.out gathered adds.0) ∙ ap (λ (u : List ℕ). u ++ adds.0) was ∙ append_assoc p.text (lines_text (known q xs)) adds.0);
      so_far = λ rest.
          ap (λ (all : List Item). extracted q all) (append_assoc p.items (map sample ys) rest)
          ∙ p.so_far (map sample ys ++ rest)
          ∙ ap (λ (mode : Before). p.text ++ text_behind q mode (map sample ys ++ rest)) m.1
          ∙ ap (λ (u : List ℕ). p.text ++ u) (behind_run q xs ys rest);
    }

pub ran : (q : Query) (a b : Option (List ℕ)) (old mid new : Chunks) (before left : Option (List ℕ)) (gathered total : List ℕ) (later : Bool) (answering next : Answering) → Progress q a b old mid before (to_come mid left) gathered later answering → RunsOn mid new answering next gathered total → Progress q a b old new before (to_come new left) total later next
ran q a b old mid new before left gathered total later answering next p (inl h) =
    let P : Chunks → Type 0 = λ c. Progress q a b old c before (to_come c left) gathered later answering in
    let Q : Answering → Type 0 = λ n. Progress q a b old new before (to_come new left) gathered later n in
    let R : List ℕ → Type 0 = λ t. Progress q a b old new before (to_come new left) t later next in
    subst R (sym h.2) (subst Q (sym h.1) (subst P (sym h.0) p))
ran q a b old mid new before left gathered total later answering next p (inr h) = ran_all q a b old mid new before left gathered total later answering next p h

pub still_going : (mid new : Chunks) (a b : Answering) (text total : List ℕ) → RunsOn mid new a b text total → mid.refused ≡ None → new.refused ≡ None
still_going mid new a b text total (inl h) going = ap (λ (c : Chunks). c.refused) h.0 ∙ going
still_going mid new a b text total (inr h) going = h.refused ∙ going
