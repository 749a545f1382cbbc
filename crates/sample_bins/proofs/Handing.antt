-- What is handed on, call by call.
use Rattle.std.proofs.Common.{◌≡◌, ℕ, ◌<◌, ◌≤◌, Bool, true, false, List, [], ◌∷◌, ◌++◌, Option, Some, None, Result, Ok, Err, refl, sym, ap, ◌∙◌, subst, arith, append_assoc, append-nil}
use Rattle.std.specs.Prelude.{IfSome, OnErr, nat_le, ◌&&◌}
use Rattle.std.proofs.lemmas.Bool.{false≢true}
use Rattle.std.proofs.lemmas.Bool.Decides.{nat_tests}
use Rattle.arch_time.specs.YearTime.{start, end}
use Rattle.pb_wire.specs.declared.payload.PayloadType.{PayloadType}
use Rattle.pb_wire.specs.declared.payload.PayloadType.TheVariants.{ScalarInt}
use Rattle.series_model.specs.declared.sample.Query.{Query}
use Rattle.series_model.specs.declared.sample.Sample.{Sample}
use Rattle.series_model.specs.Retrieval.{within}
use Rattle.act_model.specs.Event.{IsEvent, AreEvents}
use Rattle.act_model.specs.Out.{Subject, MayGive}
use Rattle.sample_bins.specs.declared.op.Op.{Op}
use Rattle.sample_bins.specs.declared.op.Op.TheVariants.{FirstSample, LastSample, Count, Nth, NCount}
use Rattle.sample_bins.specs.declared.beginning.BegunText.{BegunText}
use Rattle.sample_bins.specs.declared.kept.Kept.{Kept}
use Rattle.sample_bins.specs.Bins.{binned, bins_of, binned_subject, is_counting, width_of}
use Rattle.sample_bins.specs.Counts.{counted}
use Rattle.sample_bins.specs.Coming.{coming, due, due_at_end, next, nothing}
use Rattle.sample_bins.specs.Binning.{Stands, StandsCounting, Gives, Breaks, GivesBins, kept_start}
use Rattle.sample_bins.specs.CountEvents.{counted_event}
use Rattle.sample_bins.specs.Binned.{comes_binned}
use Rattle.sample_bins.specs.Events.{bins_on, bins_of_events}

pub on_err : {A E : Type 0} (r : Result A E) (P : Type 0) → P → OnErr r P
on_err {A} {E} (Ok a) P p = tt
on_err {A} {E} (Err e) P p = p

-- WITHIN THE INTERVAL

abbrev inside : Query → Sample → Bool
inside q s = nat_le q.from s.t && nat_le s.t q.to

is_inside : (q : Query) (s : Sample) → q.from ≤ s.t → s.t ≤ q.to → inside q s ≡ true
is_inside q s low high = grind (arith, nat_tests)

within_first : (q : Query) (s : Sample) (more : List Sample) → inside q s ≡ true → within q (s ∷ more) ≡ s ∷ within q more
within_first q s more is = rw is refl

-- WHAT IS KEPT

pub kept_small : (kept : Kept) → kept ≡ nothing → kept.count ≤ 2_147_483_647
kept_small kept is = let none : kept.count ≡ 0 = ap (λ (k : Kept). k.count) is in omega (arith, none)

pub kept_early : (width : ℕ) (kept : Kept) → kept ≡ nothing → kept_start width kept.bin < end
kept_early width kept is = subst (λ (k : Kept). kept_start width k.bin < end) (sym is) (omega arith)

-- what has begun is what an output knows
pub begun_is : (begun a : BegunText) (now : Option BegunText) (subject : Subject) → now ≡ Some begun → now ≡ Some a → begun ≡ a
begun_is begun a now subject x y = cc

module _ {O : Type 0} (gave broke : O → Subject → List Sample → O → Type 0) where
  -- ONE CALL

  pub breaks_one : {T E : Type 0} (r : Result T E) (a b : O) (s : Sample) → ((before : O) (subject : Subject) (xs more : List Sample) → AreEvents subject.about.ty (xs ++ s ∷ more) → gave before subject xs a → OnErr r (broke before subject (xs ++ s ∷ more) b)) → OnErr r (Breaks gave broke a (s ∷ []) b)
  breaks_one {T} {E} (Ok x) a b s h = tt
  breaks_one {T} {E} (Err e) a b s h = record { all = h }

  -- WHAT MAY BE HANDED ON

  pub may_give : (op : Op) (now : O) (s : Sample) → is_counting op ≡ false → Stands gave op now (Some s) → MayGive gave now s
  may_give (FirstSample width) now s is h = record { before = h.before; subject = binned_subject (FirstSample width) h.subject; given = h.given; has_begun = h.has; event = h.event }
  may_give (LastSample width) now s is h = record { before = h.before; subject = binned_subject (LastSample width) h.subject; given = h.given; has_begun = h.has; event = h.event }
  may_give (Count width) now s is h = absurd (false≢true (sym is))
  may_give (Nth n) now s is h = record { before = h.before; subject = binned_subject (Nth n) h.subject; given = h.given; has_begun = h.has; event = h.event }
  may_give NCount now s is h = absurd (false≢true (sym is))

  pub stands_on : (op : Op) (a b : O) (s : Option Sample) (out : List Sample) → Stands gave op a s → Gives gave a out b → Stands gave op b s
  stands_on op a b s out h gives = record { before = h.before; subject = h.subject; given = h.given ++ out; has = gives.all h.before (binned_subject op h.subject) h.given h.has; event = h.event }

  pub stands_next : (op : Op) (now : O) (kept : Kept) (s : Sample) → Stands gave op now kept.held → Stands gave op now (Some s) → Stands gave op now (next op kept s).held
  stands_next (FirstSample width) now kept s held one = held
  stands_next (LastSample width) now kept s held one = one
  stands_next (Count width) now kept s held one = held
  stands_next (Nth n) now kept s held one = held
  stands_next NCount now kept s held one = held

  pub stands_sample : (op own : Op) (begun : Option BegunText) (kept : Kept) (before : O) (subject : Subject) (xs : List Sample) (now : O) (s : Sample) → own ≡ op → GivesBins gave op begun kept before subject xs now → IsEvent subject.about.ty s → Stands gave own now (Some s)
  stands_sample op own begun kept before subject xs now s same gives event =
      subst (λ (o : Op). Stands gave o now (Some s)) (sym same) (record { before = before; subject = subject; given = gives.given; has = gives.has; event = event })

  -- BINS

  -- nothing is kept as a text begins
  pub stands_begun : (op : Op) (before : O) (subject : Subject) (now : O) (kept : Kept) → kept ≡ nothing → gave before (binned_subject op subject) [] now → Stands gave op now kept.held
  stands_begun op before subject now kept is begun = subst (λ (k : Kept). Stands gave op now k.held) (sym is) (record { before = before; subject = subject; given = []; has = begun; event = tt })

  pub begins : (op : Op) (before : O) (subject : Subject) (now : O) → 0 < width_of op → gave before (binned_subject op subject) [] now → GivesBins gave op (Some (record { ty = subject.about.ty; query = subject.query })) nothing before subject [] now
  begins op before subject now some begun = record { asked = refl; events = tt; given = []; has = begun; goes_on = λ more. comes_binned op subject.query.from more some }

  pub begins_with : (op own : Op) (kept : Kept) (before : O) (subject : Subject) (now : O) → kept ≡ nothing → own ≡ op → 0 < width_of own → gave before (binned_subject own subject) [] now → GivesBins gave op (Some (record { ty = subject.about.ty; query = subject.query })) kept before subject [] now
  begins_with op own kept before subject now is same some begun =
      subst (λ (o : Op). GivesBins gave o (Some (record { ty = subject.about.ty; query = subject.query })) kept before subject [] now) same
      (subst (λ (k : Kept). GivesBins gave own (Some (record { ty = subject.about.ty; query = subject.query })) k before subject [] now) (sym is) (begins own before subject now some begun))

  -- an output that has begun knows the type
  same_type : (a b : BegunText) → Some a ≡ Some b → a.ty ≡ b.ty
  same_type a b is = ap (λ (x : Option BegunText). type_in a.ty x) is
    where
      type_in : PayloadType → Option BegunText → PayloadType
      type_in ty None = ty
      type_in ty (Some x) = x.ty

  pub event_too : (begun : Option BegunText) (subject subject₂ : Subject) (s : Sample) → begun ≡ Some (record { ty = subject.about.ty; query = subject.query }) → begun ≡ Some (record { ty = subject₂.about.ty; query = subject₂.query }) → IsEvent subject.about.ty s → IsEvent subject₂.about.ty s
  event_too begun subject subject₂ s one two event =
      subst (λ (ty : PayloadType). IsEvent ty s) (same_type (record { ty = subject.about.ty; query = subject.query }) (record { ty = subject₂.about.ty; query = subject₂.query }) (sym one ∙ two)) event

  -- what has begun stands, and this sample is an event
  pub stands_held : (op : Op) (now : O) (held : Option Sample) (begun : BegunText) (is : Option BegunText) → is ≡ Some begun → IfSome is (λ b. Stands gave op now held) → Stands gave op now held
  stands_held op now held begun is same h = subst (λ (o : Option BegunText). IfSome o (λ b. Stands gave op now held)) same h

  module _ (op : Op) (kept : Kept) (before : O) (subject : Subject) (xs : List Sample) (s : Sample) (event : IsEvent subject.about.ty s) where
    abbrev q : Query
    q = subject.query

    module _ (begun : Option BegunText) (a b : O) (low : q.from ≤ s.t) (high : s.t ≤ q.to) (gives : GivesBins gave op begun kept before subject xs a) where
      here : inside q s ≡ true
      here = is_inside q s low high

      -- what is due, and what comes behind it
      all_comes : (more : List Sample) → bins_of op q (xs ++ s ∷ more) ≡ gives.given ++ (due op kept s ++ coming op q.from (next op kept s) (within q more))
      all_comes more = bins_on op q kept gives.given xs (s ∷ more) gives.goes_on ∙ ap (λ (l : List Sample). gives.given ++ coming op q.from kept l) (within_first q s more here)

      pub due_breaks : Breaks gave broke a (due op kept s) b → (more : List Sample) → AreEvents subject.about.ty (xs ++ s ∷ more) → broke before (binned_subject op subject) (bins_of op q (xs ++ s ∷ more)) b
      due_breaks breaks more events =
          let all = all_comes more in
          let are = subst (λ (l : List Sample). AreEvents (binned_subject op subject).about.ty l) all (bins_of_events op q subject.about (xs ++ s ∷ more) events) in
          subst (λ (l : List Sample). broke before (binned_subject op subject) l b) (sym all) (breaks.all before (binned_subject op subject) gives.given (coming op q.from (next op kept s) (within q more)) are gives.has)

      pub keeping_breaks : ((before now : O) (subject : Subject) (xs more : List Sample) → AreEvents subject.about.ty (xs ++ more) → gave before subject xs now → broke before subject (xs ++ more) now) → Gives gave a (due op kept s) b → (more : List Sample) → AreEvents subject.about.ty (xs ++ s ∷ more)
          → broke before (binned_subject op subject) (bins_of op q (xs ++ s ∷ more)) b
      keeping_breaks front handed more events =
          let rest : List Sample = coming op q.from (next op kept s) (within q more) in
          let all : bins_of op q (xs ++ s ∷ more) ≡ (gives.given ++ due op kept s) ++ rest = all_comes more ∙ sym (append_assoc gives.given (due op kept s) rest) in
          let are = subst (λ (l : List Sample). AreEvents (binned_subject op subject).about.ty l) all (bins_of_events op q subject.about (xs ++ s ∷ more) events) in
          subst (λ (l : List Sample). broke before (binned_subject op subject) l b) (sym all) (front before b (binned_subject op subject) (gives.given ++ due op kept s) rest are (handed.all before (binned_subject op subject) gives.given gives.has))

  -- a count at a moment
  pub may_count : (now : O) (t n : ℕ) (line : List ℕ) → StandsCounting gave now → start ≤ t → t < end → n ≤ 2_147_483_647 → line ≡ (counted t n).line → MayGive gave now (record { t = t; line = line })
  may_count now t n line h low high small is = record {
    before = h.before;
    subject = h.subject;
    given = h.given;
    has_begun = h.has;
    event = subst (λ (ty : PayloadType). IsEvent ty (record { t = t; line = line })) (sym h.kind) (subst (λ (l : List ℕ). IsEvent ScalarInt (record { t = t; line = l })) (sym is) (counted_event t n low high small));
  }

  -- THE END

  module _ (op own : Op) (from : ℕ) (kept : Kept) (before : O) (subject : Subject) (xs : List Sample) (begun : Option BegunText) (a b : O) (gives : GivesBins gave op begun kept before subject xs a) (same : own ≡ op) (here : from ≡ subject.query.from) where
    ends : bins_of op subject.query xs ≡ gives.given ++ due_at_end own from kept
    ends =
        ap (binned op subject.query.from) (sym (append-nil (within subject.query xs))) ∙ gives.goes_on []
        ∙ ap (λ (o : Op). gives.given ++ due_at_end o subject.query.from kept) (sym same)
        ∙ ap (λ (n : ℕ). gives.given ++ due_at_end own n kept) (sym here)

    pub all_given : Gives gave a (due_at_end own from kept) b → gave before (binned_subject op subject) (bins_of op subject.query xs) b
    all_given handed = subst (λ (l : List Sample). gave before (binned_subject op subject) l b) (sym ends) (handed.all before (binned_subject op subject) gives.given gives.has)

    pub end_breaks : Breaks gave broke a (due_at_end own from kept) b → broke before (binned_subject op subject) (bins_of op subject.query xs) b
    end_breaks breaks =
        let all : bins_of op subject.query xs ≡ gives.given ++ (due_at_end own from kept ++ []) = ends ∙ ap (λ (l : List Sample). gives.given ++ l) (sym (append-nil (due_at_end own from kept))) in
        let are = subst (λ (l : List Sample). AreEvents (binned_subject op subject).about.ty l) all (bins_of_events op subject.query subject.about xs gives.events) in
        subst (λ (l : List Sample). broke before (binned_subject op subject) l b) (sym all) (breaks.all before (binned_subject op subject) gives.given [] are gives.has)
