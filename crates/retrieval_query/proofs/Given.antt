-- What an output was given of a merge's answer, and how the giving ends.
use Rattle.std.proofs.Common.{◌≡◌, ◌≢◌, ℕ, ◌+◌, ◌-◌, ◌^◌, ◌<◌, ◌≤◌, inl, inr, Bool, List, [], ◌∷◌, ◌++◌, length, Option, Some, None, Ok, Err, Result, IsTrue, refl, sym, ap, ◌∙◌, subst, arith, append_assoc, append-nil, length-append}
use Rattle.std.specs.Prelude.{IsErrOf}
use Rattle.disk_model.specs.Files.{Rose}
use Rattle.pb_wire.specs.declared.payload.PayloadType.{PayloadType}
use Rattle.arch_time.proofs.YearLemmas.{start_bounds}
use Rattle.series_model.specs.declared.sample.Sample.{Sample}
use Rattle.series_model.specs.Series.{IsRising, end_of}
use Rattle.series_model.proofs.RisingLists.{rises_more, end_from-append, rising_is_short}
use Rattle.act_model.specs.Event.{IsEvent, AreEvents}
use Rattle.act_model.specs.Out.{Subject}
use Rattle.act_model.specs.declared.out.OutErr.{OutErr}
use Rattle.act_model.specs.declared.out.OutErr.TheVariants as out_err
use Rattle.stream_merge.specs.declared.pieces.Merged.{Merged}
use Rattle.stream_merge.specs.declared.pieces.Merged.TheVariants as merged
use Rattle.stream_merge.specs.declared.merge.Merge.{Merge}
use Rattle.stream_merge.specs.declared.source.OpenPiece.{OpenPiece}
use Rattle.stream_merge.specs.Pieces.{NamedBytes, Failure}
use Rattle.stream_merge.specs.Reading.{IsSampleOf}
use Rattle.stream_merge.specs.Source.{Went, HasFailed, StopsAs}
use Rattle.stream_merge.specs.Merging.{Rest, StillGives, GoesBehind, Answers}
use Rattle.retrieval_query.specs.declared.retrieved.Retrieved.{Retrieved}
use Rattle.retrieval_query.specs.declared.retrieved.Retrieved.TheVariants as retrieved
use Rattle.stream_merge.specs.Reads.{AnswersRead}
use Rattle.series_model.specs.declared.sample.Query.{Query}
use Rattle.retrieval_query.specs.Giving.{IsToldAs, OpensSome, StopsBy, Gives, GivesRead, GivesReadAt, GivesSome, retrieved_by}

-- EVENTS

pub event_from : (ty : PayloadType) (s : Sample) → IsSampleOf ty s → IsEvent ty s
event_from ty s of = record {
  whole = of.1.whole;
  message = of.1.meant.stamp.0;
  means = of.1.meant.stamp.1;
  secs = of.1.meant.secs;
  nano = of.1.meant.nano;
  stamp = of.1.meant.stamp.2;
  year = of.0;
  sample_year = of.1.meant.sample_year;
  in_year = of.1.meant.in_year;
  at = of.1.meant.at;
}

-- no sample stands at the last moment of all
pub moment_small : (ty : PayloadType) (s : Sample) → IsEvent ty s → s.t < 2 ^ 64 - 1
moment_small ty s e = let bounds = start_bounds e.year e.sample_year in omega (arith, e.at, bounds.0, bounds.1, e.in_year.second, e.in_year.nano)

pub events_more : (ty : PayloadType) (xs : List Sample) (s : Sample) → AreEvents ty xs → IsEvent ty s → AreEvents ty (xs ++ s ∷ [])
events_more ty [] s all one = (one, tt)
events_more ty (x ∷ xs) s all one = (all.0, events_more ty xs s all.1 one)

-- WHAT WAS GIVEN

-- a line in memory is what a call would have come to
pub held_answers : {R : Type 0} (tells : Bool) (bytes : R → List ℕ) (left : List NamedBytes → Type 0) (m : Merge R) (t : ℕ) (line : List ℕ) (after : Merge R) → GoesBehind tells bytes m t line after → IsTrue tells → (ps : List NamedBytes) (xs : List Sample) → left ps → Rest bytes m ps xs → Answers bytes left after xs line (merged.Line t)
held_answers {R} tells bytes left m t line after goes told ps xs is rest = let a = goes.gives told ps xs rest in (a.0, a.1, record { pieces = ps; left_is = is; rest = a.2 })

-- These samples were given so far, which rise up to this moment; and where the pieces tell what comes, the rest of it is still to come.
pub record Giving {P O R : Type 0} (tells : Bool) (bytes : R → List ℕ) (left : P → List NamedBytes → Type 0) (gave : O → Subject → List Sample → O → Type 0) (ty : PayloadType) (first : P) (start : Merge R) (old : O) (subject : Subject) (count from : ℕ) (pieces : P) (merge : Merge R) (out : O) : Type 0 where
  pub given : List Sample
  pub number : count ≡ length given
  pub events : AreEvents ty given
  pub rising : IsRising given
  pub up_to : end_of given ≤ from
  pub has : gave old subject given out
  pub whole : IsTrue tells → (ps : List NamedBytes) (xs : List Sample) → left first ps → Rest bytes start ps xs → (rest : List Sample) × (xs ≡ given ++ rest) × StillGives bytes (left pieces) merge rest

module _ {P O R : Type 0} (tells : Bool) (bytes : R → List ℕ) (left : P → List NamedBytes → Type 0) (gave broke : O → Subject → List Sample → O → Type 0) (ty : PayloadType) (first : P) (start : Merge R) (old : O) (subject : Subject) where
  unfoldable pub giving_none : (out : O) (from : ℕ) → gave old subject [] out → Giving tells bytes left gave ty first start old subject 0 from first start out
  giving_none out from begun = record { given = []; number = refl; events = tt; rising = tt; up_to = omega arith; has = begun; whole = λ told ps xs is rest. (xs, refl, record { pieces = ps; left_is = is; rest = rest }) }

  module _ (pieces : P) (merge : Merge R) (count from : ℕ) (out : O) (g : Giving tells bytes left gave ty first start old subject count from pieces merge out) where
    -- one more would not be too many
    pub few : (s : Sample) → IsEvent ty s → from ≤ s.t → count < 2 ^ 64 - 1
    few s e low = omega (arith, g.number, rising_is_short g.given g.rising, g.up_to, low, moment_small ty s e)

    module _ (next : P) (after : Merge R) (t : ℕ) (line : List ℕ) (event : IsEvent ty (record { t = t; line = line })) (low : from ≤ t)
        (answers : IsTrue tells → (ps : List NamedBytes) (xs : List Sample) → left pieces ps → Rest bytes merge ps xs → Answers bytes (left next) after xs line (merged.Line t)) where
      abbrev s : Sample
      s = record { t = t; line = line }

      pub more_rises : IsRising (g.given ++ s ∷ [])
      more_rises = (rises_more g.given s).1 (g.rising, omega (arith, g.up_to, low))

      -- the next sample was given
      unfoldable pub giving_more : (from₂ : ℕ) (now : O) → t < from₂ → gave old subject (g.given ++ s ∷ []) now → Giving tells bytes left gave ty first start old subject (count + 1) from₂ next after now
      giving_more from₂ now high has = record {
        given = g.given ++ s ∷ [];
        number = omega (arith, g.number, length-append g.given (s ∷ []));
        events = events_more ty g.given s g.events event;
        rising = more_rises;
        up_to = omega (arith, end_from-append 0 g.given (s ∷ []), high);
        has = has;
        whole = λ told ps xs is rest.
            let w = g.whole told ps xs is rest in
            let a = answers told w.2.pieces w.0 w.2.left_is w.2.rest in
            (a.0, w.1 ∙ (ap (λ (l : List Sample). g.given ++ l) a.1 ∙ sym (append_assoc g.given (s ∷ []) a.0)), a.2);
      }

      -- it was not: the output broke
      pub sample_breaks : (now : O) (stop : Retrieved R) → ty ≡ subject.about.ty → ((more : List Sample) → AreEvents subject.about.ty (g.given ++ s ∷ more) → broke old subject (g.given ++ s ∷ more) now) → GivesSome gave broke old subject (Err stop) now
      sample_breaks now stop same breaks = record { given = g.given ++ s ∷ []; events = subst (λ (y : PayloadType). AreEvents y (g.given ++ s ∷ [])) same (events_more ty g.given s g.events event); rising = more_rises; gives = breaks [] (subst (λ (y : PayloadType). AreEvents y (g.given ++ s ∷ [])) same (events_more ty g.given s g.events event)) }

      pub sample_breaks_whole : (now : O) (stop : Retrieved R) → ((more : List Sample) → AreEvents subject.about.ty (g.given ++ s ∷ more) → broke old subject (g.given ++ s ∷ more) now)
          → IsTrue tells → (ps : List NamedBytes) (xs : List Sample) → left first ps → Rest bytes start ps xs → AreEvents subject.about.ty xs → Gives {O = O} {R = R} gave broke old subject xs (Err stop) now
      sample_breaks_whole now stop breaks told ps xs is rest events =
          let w = g.whole told ps xs is rest in
          let a = answers told w.2.pieces w.0 w.2.left_is w.2.rest in
          let all : xs ≡ g.given ++ s ∷ a.0 = w.1 ∙ ap (λ (l : List Sample). g.given ++ l) a.1 in
          subst (λ (l : List Sample). broke old subject l now) (sym all) (breaks a.0 (subst (λ (l : List Sample). AreEvents subject.about.ty l) all events))

    pub gives_whole : (answered : IsTrue tells → (ps : List NamedBytes) (xs : List Sample) → left pieces ps → Rest bytes merge ps xs → xs ≡ [])
        → IsTrue tells → (ps : List NamedBytes) (xs : List Sample) → left first ps → Rest bytes start ps xs → Gives {O = O} {R = R} gave broke old subject xs (Ok count) out
    gives_whole answered told ps xs is rest =
        let w = g.whole told ps xs is rest in
        let none = answered told w.2.pieces w.0 w.2.left_is w.2.rest in
        let all : xs ≡ g.given = w.1 ∙ (ap (λ (l : List Sample). g.given ++ l) none ∙ append-nil g.given) in
        subst (λ (l : List Sample). Gives {O = O} {R = R} gave broke old subject l (Ok count) out) (sym all) (g.has, g.number)

    -- it stopped before: what was given is a front
    module _ (front : (before now : O) (subject : Subject) (xs more : List Sample) → AreEvents subject.about.ty (xs ++ more) → gave before subject xs now → broke before subject (xs ++ more) now) where
      pub stops_some : (stop : Retrieved R) → ty ≡ subject.about.ty → GivesSome gave broke old subject (Err stop) out
      stops_some stop same =
          let events : AreEvents subject.about.ty g.given = subst (λ (y : PayloadType). AreEvents y g.given) same g.events in
          record { given = g.given; events = events; rising = g.rising; gives = subst (λ (l : List Sample). broke old subject l out) (append-nil g.given) (front old out subject g.given [] (subst (λ (l : List Sample). AreEvents subject.about.ty l) (sym (append-nil g.given)) events) g.has) }

      pub stops_whole : (stop : Retrieved R) → IsTrue tells → (ps : List NamedBytes) (xs : List Sample) → left first ps → Rest bytes start ps xs → AreEvents subject.about.ty xs → Gives gave broke old subject xs (Err stop) out
      stops_whole stop told ps xs is rest events =
          let w = g.whole told ps xs is rest in
          subst (λ (l : List Sample). broke old subject l out) (sym w.1) (front old out subject g.given w.0 (subst (λ (l : List Sample). AreEvents subject.about.ty l) w.1 events) g.has)

-- what was given is the answer over what was read
pub gives_read : {P O : Type 0} (opened : P → List NamedBytes → P → Type 0) (gave : O → Subject → List Sample → O → Type 0) (query own : Query) (left : ℕ) (tail rest : List Sample) (old : O) (subject : Subject) (ty : PayloadType) (first : P) (count : ℕ) (last : P) (new : O) (pieces : List NamedBytes) (given : List Sample) → own ≡ query → rest ≡ tail → ty ≡ subject.about.ty
    → opened first pieces last → AreEvents subject.about.ty given → count ≡ length given → AnswersRead ty own pieces left rest given → gave old subject given new → GivesRead opened gave query left tail old subject first count last new
gives_read opened gave query own left tail rest old subject ty first count last new pieces given asked of_tail same were events number answers has = record {
  pieces = pieces;
  were = were;
  given = given;
  events = events;
  number = number;
  answers = subst (λ (q : Query). AnswersRead subject.about.ty q pieces left tail given) asked (subst (λ (l : List Sample). AnswersRead subject.about.ty own pieces left l given) of_tail (subst (λ (y : PayloadType). AnswersRead y own pieces left rest given) same answers));
  has = has;
}

-- seen by those who open them
pub read_as : {P Q O R : Type 0} (opened : P → List NamedBytes → P → Type 0) (opened₂ : Q → List NamedBytes → Q → Type 0) (gave : O → Subject → List Sample → O → Type 0) (query : Query) (left : ℕ) (tail : List Sample) (old : O) (subject : Subject) (first last : P) (first₂ last₂ : Q) (new : O) → ((ps : List NamedBytes) → opened first ps last → opened₂ first₂ ps last₂)
    → (r : Result ℕ (Retrieved R)) → GivesReadAt opened gave query left tail old subject first r last new → GivesReadAt opened₂ gave query left tail old subject first₂ r last₂ new
read_as opened opened₂ gave query left tail old subject first last first₂ last₂ new sees (Ok count) r = record { pieces = r.pieces; were = sees r.pieces r.were; given = r.given; events = r.events; number = r.number; answers = r.answers; has = r.has }
read_as opened opened₂ gave query left tail old subject first last first₂ last₂ new sees (Err stop) r = tt

-- WHY IT STOPPED

some_fault : (n : ℕ) → Rose 0 n → n ≢ 0
some_fault n rose none = omega (arith, rose, none)

module _ {P R : Type 0} (tells : Bool) (bytes : R → List ℕ) (faults : R → ℕ) (opened : P → List NamedBytes → P → Type 0) (failed : P → Failure → P → Type 0) where
  has_faults : (piece : Option (OpenPiece R)) (now risen : Type 0) (r : R) → HasFailed faults piece now risen (Some r) → faults r ≢ 0
  has_faults piece now risen r (inl opened_now) = some_fault (faults r) opened_now.1
  has_faults None now risen r (inr rose) = absurd rose
  has_faults (Some p) now risen r (inr rose) = some_fault (faults r) (rose_at (faults p.reader) (faults r) rose)
    where
      rose_at : (a n : ℕ) → Rose a n → Rose 0 n
      rose_at a n rose = omega (arith, rose)

  pub stops_by : (ty : PayloadType) (a b : P) (piece now : Option (OpenPiece R)) (own : PayloadType) (left : List NamedBytes → Type 0) (opened_now risen spent : Type 0) (m : Merged R) (stop : Retrieved R) → Went tells bytes opened failed ty a None m b now → StopsAs tells bytes faults own piece left opened_now risen spent m
      → IsToldAs m stop → StopsBy tells faults opened failed ty a stop b
  stops_by ty a b piece now own left opened_now risen spent (merged.Line t) stop went stops told = absurd told
  stops_by ty a b piece now own left opened_now risen spent merged.End stop went stops told = absurd told
  stops_by ty a b piece now own left opened_now risen spent (merged.ReadFault None) stop went stops told = subst (λ (x : Retrieved R). StopsBy tells faults opened failed ty a x b) (sym told) went
  stops_by ty a b piece now own left opened_now risen spent (merged.ReadFault (Some r)) stop went stops told = subst (λ (x : Retrieved R). StopsBy tells faults opened failed ty a x b) (sym told) (went, has_faults piece opened_now risen r stops)
  stops_by ty a b piece now own left opened_now risen spent (merged.Damaged name at) stop went stops told = subst (λ (x : Retrieved R). StopsBy tells faults opened failed ty a x b) (sym told) (record { pieces = went.pieces; were = went.were; damaged = went.damaged })
  stops_by ty a b piece now own left opened_now risen spent merged.Spent stop went stops told = subst (λ (x : Retrieved R). StopsBy tells faults opened failed ty a x b) (sym told) went
  stops_by ty a b piece now own left opened_now risen spent merged.Memory stop went stops told = subst (λ (x : Retrieved R). StopsBy tells faults opened failed ty a x b) (sym told) went

  -- the output stopped it
  pub stops_out : (ty : PayloadType) (a b : P) (err : OutErr) → OpensSome opened a b → StopsBy {P = P} {R = R} tells faults opened failed ty a (retrieved_by err) b
  stops_out ty a b out_err.SinkFault some = some
  stops_out ty a b out_err.Memory some = inl some

same_stop : {R : Type 0} (x y : Retrieved R) → ◌≡◌ {A = Result ℕ (Retrieved R)} (Err x) (Err y) → x ≡ y
same_stop x y is = cc

-- a merge's end is no failed write
pub never_sink : {R : Type 0} (m : Merged R) (stop : Retrieved R) → IsToldAs m stop → IsErrOf {T = ℕ} (Err stop) retrieved.SinkFault → ⊥
never_sink {R} (merged.Line t) stop told is = told
never_sink {R} merged.End stop told is = told
never_sink {R} (merged.ReadFault f) stop told is = (let bad : ◌≡◌ {A = Retrieved R} (retrieved.ReadFault f) retrieved.SinkFault = sym told ∙ same_stop stop retrieved.SinkFault is in cc)
never_sink {R} (merged.Damaged name at) stop told is = (let bad : ◌≡◌ {A = Retrieved R} (retrieved.Damaged name at) retrieved.SinkFault = sym told ∙ same_stop stop retrieved.SinkFault is in cc)
never_sink {R} merged.Spent stop told is = (let bad : ◌≡◌ {A = Retrieved R} retrieved.Spent retrieved.SinkFault = sym told ∙ same_stop stop retrieved.SinkFault is in cc)
never_sink {R} merged.Memory stop told is = (let bad : ◌≡◌ {A = Retrieved R} retrieved.Memory retrieved.SinkFault = sym told ∙ same_stop stop retrieved.SinkFault is in cc)

-- a count that rose has risen since an earlier number, and until a later one
pub rose_since : (a b c : ℕ) → a ≤ b → Rose b c → Rose a c
rose_since a b c low rose = omega (arith, low, rose)

pub rose_until : (a b c : ℕ) → b ≤ c → Rose a b → Rose a c
rose_until a b c low rose = omega (arith, low, rose)
