-- What one act comes to, and what several come to one after another.
use Rattle.std.proofs.Common.{◌≡◌, inl, inr, ◌∙◌, ap, sym, refl, subst, ℕ, List, [], ◌∷◌, ◌++◌, append-nil, add-zero, false, Some, None, Ok, Err}
use Rattle.act_model.specs.declared.acts.Act.{Act}
use Rattle.act_model.specs.declared.acts.Answer.TheVariants as answer
use Rattle.act_model.specs.Reply.{Reply}
use Rattle.act_model.specs.History.{Done, Entry, Made}
use Rattle.act_model.proofs.Histories.{made_joined, made_nothing}
use Rattle.feed_session.specs.Asks.{AreMade, FailsWith, NoneFails, asked_again, flush_all, is_failure}
use Rattle.feed_session.specs.Asking.{Asking, OffersOnce, StopsIn, both, none, one_more, tally_of}
use Rattle.feed_session.specs.Session.{IsFlushed}
use Rattle.feed_session.specs.declared.asking.SessionStop.{SessionStop}
use Rattle.feed_session.specs.declared.asking.SessionStop.TheVariants as stopped
use Rattle.feed_session.specs.declared.tally.OfferOutcome.{OfferOutcome}
use Rattle.feed_session.specs.declared.tally.OfferOutcome.TheVariants.{Kept, Held, Dropped}
use Rattle.feed_session.specs.declared.tally.OfferCounts.{OfferCounts}
use Rattle.feed_session.proofs.Making.{fails_on, made_beside, made_on, none_both, none_fails_on, tally_on}

abbrev pub done_as : Act → Reply → Done
done_as act answer = record { act = act; answer = answer }

-- one act that failed
pub fails_one : (act : Act) (reply : Reply) → FailsWith reply (done_as act reply ∷ [])
fails_one act reply = record { before = []; act = act; is = refl; well = tt }

module _ {A : Type 0} (number : A → ℕ) (between : A → List Entry → A → Type 0) where
  -- ONE ACT

  pub asked_well : {X : Type 0} (Are : X → List Done → Type 0) (old new : A) (act : Act) (reply : Reply) (x : X) → Made number between old (done_as act reply ∷ []) new → asked_again act reply ≡ [] → is_failure reply ≡ false → Are x (done_as act reply ∷ []) → Asking number between old (act ∷ []) Are (Ok x) new
  asked_well Are old new act reply x made again well are = record {
    done = done_as act reply ∷ [];
    left = [];
    made = made;
    are = (refl, sym (append-nil (asked_again act reply) ∙ again));
    ends = (refl, (well, tt), are);
  }

  pub asked_badly : {X : Type 0} (Are : X → List Done → Type 0) (old new : A) (act : Act) (reply : Reply) (s : SessionStop) → Made number between old (done_as act reply ∷ []) new → asked_again act reply ≡ [] → StopsIn s (done_as act reply ∷ []) → Asking number between old (act ∷ []) Are (Err s) new
  asked_badly Are old new act reply s made again stops = record {
    done = done_as act reply ∷ [];
    left = [];
    made = made;
    are = (refl, sym (append-nil (asked_again act reply) ∙ again));
    ends = stops;
  }

  pub asked_nothing : {X : Type 0} (Are : X → List Done → Type 0) (old new : A) (x : X) → Made number between old [] new → Are x [] → Asking number between old [] Are (Ok x) new
  asked_nothing Are old new x made are = record { done = []; left = []; made = made; are = refl; ends = (refl, tt, are) }

  -- ONE TRY OF AN OFFER

  pub tried_badly : (old new : A) (act : Act) → Made number between old (done_as act answer.Memory ∷ []) new → OffersOnce number between old act (Err stopped.Memory) new
  tried_badly old new act made = record { done = done_as act answer.Memory ∷ []; left = []; made = made; are = (refl, refl); ends = inr (fails_one act answer.Memory) }

  -- TRIES

  -- the offer is to be made again
  pub record Trying (old : A) (act : Act) (now : A) : Type 0 where
    pub done : List Done
    pub made : Made number between old done now
    pub are : AreMade (act ∷ []) done (act ∷ [])
    pub well : NoneFails done
    pub uncounted : tally_of done ≡ none

  pub trying_starts : ((a : A) → between a [] a) → (old : A) (act : Act) → Trying old act old
  trying_starts nothing old act = record { done = []; made = made_nothing number between nothing old; are = refl; well = tt; uncounted = refl }

  module _ (joined : (a b c : A) (xs ys : List Entry) → between a xs b → between b ys c → between a (xs ++ ys) c)
      (number_stays : (a b : A) (entries : List Entry) → between a entries b → number b ≡ number a) where
    -- it was answered
    pub trying_ends : (Are : OfferOutcome → List Done → Type 0) (old mid new : A) (act : Act) (outcome : OfferOutcome) → Trying old act mid → OffersOnce number between mid act (Ok (Some outcome)) new → ((done : List Done) → tally_of done ≡ one_more outcome none → Are outcome done) → Asking number between old (act ∷ []) Are (Ok outcome) new
    trying_ends Are old mid new act outcome t o are = record {
      done = t.done ++ o.done;
      left = o.left;
      made = made_joined number between joined number_stays old mid new t.done o.done t.made o.made;
      are = made_on (act ∷ []) t.done (act ∷ []) o.done o.left t.are o.are;
      ends = (o.ends.0, none_fails_on t.done o.done t.well o.ends.1, are (t.done ++ o.done) (tally_on t.done o.done ∙ (ap (λ (x : OfferCounts). both x (tally_of o.done)) t.uncounted ∙ (none_both (tally_of o.done) ∙ o.ends.2))));
    }

    stops_on : (s : SessionStop) (done more : List Done) → NoneFails done → StopsIn s more → StopsIn s (done ++ more)
    stops_on stopped.DiskFault done more well stops = fails_on answer.DiskFault done more well stops
    stops_on stopped.Spent done more well stops = none_fails_on done more well stops
    stops_on stopped.Memory done more well (inl stops) = inl (none_fails_on done more well stops)
    stops_on stopped.Memory done more well (inr stops) = inr (fails_on answer.Memory done more well stops)

    pub trying_stops : {X : Type 0} (Are : X → List Done → Type 0) (old mid new : A) (act : Act) (s : SessionStop) → Trying old act mid → OffersOnce number between mid act (Err s) new → Asking number between old (act ∷ []) Are (Err s) new
    trying_stops Are old mid new act s t o = record {
      done = t.done ++ o.done;
      left = o.left;
      made = made_joined number between joined number_stays old mid new t.done o.done t.made o.made;
      are = made_on (act ∷ []) t.done (act ∷ []) o.done o.left t.are o.are;
      ends = stops_on s t.done o.done t.well o.ends;
    }

    -- the intake is full, and what is to be asked first is a flush
    pub record Full (old : A) (act : Act) (now : A) : Type 0 where
      pub done : List Done
      pub made : Made number between old done now
      pub are : AreMade (act ∷ []) done (flush_all ∷ act ∷ [])
      pub well : NoneFails done
      pub uncounted : tally_of done ≡ none

    pub full_next : (old mid new : A) (act : Act) → Trying old act mid → OffersOnce number between mid act (Ok None) new → Full old act new
    full_next old mid new act t o = record {
      done = t.done ++ o.done;
      made = made_joined number between joined number_stays old mid new t.done o.done t.made o.made;
      are = made_on (act ∷ []) t.done (act ∷ []) o.done (flush_all ∷ act ∷ []) t.are (subst (λ (l : List Act). AreMade (act ∷ []) o.done l) o.ends.0 o.are);
      well = none_fails_on t.done o.done t.well o.ends.1;
      uncounted = tally_on t.done o.done ∙ (ap (λ (x : OfferCounts). both x (tally_of o.done)) t.uncounted ∙ (none_both (tally_of o.done) ∙ o.ends.2));
    }

    flushed_tally : (done : List Done) → IsFlushed done → tally_of done ≡ none
    flushed_tally done is = subst (λ (l : List Done). tally_of l ≡ none) (sym is.is) refl

    pub full_flushed : (old mid new : A) (act : Act) → Full old act mid → Asking {X = Unit {0}} number between mid (flush_all ∷ []) (λ _ done. IsFlushed done) (Ok tt) new → Trying old act new
    full_flushed old mid new act f a =
        let beside : AreMade (flush_all ∷ act ∷ []) a.done (a.left ++ act ∷ []) = made_beside (flush_all ∷ []) a.done a.left (act ∷ []) a.are in
        let rest : AreMade (flush_all ∷ act ∷ []) a.done (act ∷ []) = subst (λ (l : List Act). AreMade (flush_all ∷ act ∷ []) a.done (l ++ act ∷ [])) a.ends.0 beside in
        record {
          done = f.done ++ a.done;
          made = made_joined number between joined number_stays old mid new f.done a.done f.made a.made;
          are = made_on (act ∷ []) f.done (flush_all ∷ act ∷ []) a.done (act ∷ []) f.are rest;
          well = none_fails_on f.done a.done f.well a.ends.1;
          uncounted = tally_on f.done a.done ∙ (ap (λ (x : OfferCounts). both x (tally_of a.done)) f.uncounted ∙ (none_both (tally_of a.done) ∙ flushed_tally a.done a.ends.2));
        }

    pub full_stops : {X : Type 0} (Are : X → List Done → Type 0) (old mid new : A) (act : Act) (s : SessionStop) → Full old act mid → Asking {X = Unit {0}} number between mid (flush_all ∷ []) (λ _ done. IsFlushed done) (Err s) new → Asking number between old (act ∷ []) Are (Err s) new
    full_stops Are old mid new act s f a = record {
      done = f.done ++ a.done;
      left = a.left ++ act ∷ [];
      made = made_joined number between joined number_stays old mid new f.done a.done f.made a.made;
      are = made_on (act ∷ []) f.done (flush_all ∷ act ∷ []) a.done (a.left ++ act ∷ []) f.are (made_beside (flush_all ∷ []) a.done a.left (act ∷ []) a.are);
      ends = stops_on s f.done a.done f.well a.ends;
    }

-- COUNTS

one_more_both : (outcome : OfferOutcome) (t : OfferCounts) → one_more outcome t ≡ both t (one_more outcome none)
one_more_both Kept t = rw (add-zero t.held, add-zero t.dropped) refl
one_more_both Held t = rw (add-zero t.kept, add-zero t.dropped) refl
one_more_both Dropped t = rw (add-zero t.kept, add-zero t.held) refl

module _ {A : Type 0} (number : A → ℕ) (between : A → List Entry → A → Type 0) where
  -- an offer that was counted
  pub sample_counted : (old new : A) (asked asked' : List Act) (outcome : OfferOutcome) (tally tally' : OfferCounts) → asked ≡ asked' → tally' ≡ one_more outcome tally → Asking number between old asked (λ (x : OfferOutcome) (done : List Done). tally_of done ≡ one_more x none) (Ok outcome) new → Asking {X = Unit {0}} number between old asked' (λ _ (done : List Done). tally' ≡ both tally (tally_of done)) (Ok tt) new
  sample_counted old new asked asked' outcome tally tally' same counted a = record {
    done = a.done;
    left = a.left;
    made = a.made;
    are = subst (λ (l : List Act). AreMade l a.done a.left) same a.are;
    ends = (a.ends.0, a.ends.1, counted ∙ (one_more_both outcome tally ∙ ap (λ (x : OfferCounts). both tally x) (sym a.ends.2)));
  }

  pub sample_stopped : {X Y : Type 0} (old new : A) (asked asked' : List Act) (s : SessionStop) (Are : X → List Done → Type 0) (Be : Y → List Done → Type 0) → asked ≡ asked' → Asking number between old asked Are (Err s) new → Asking number between old asked' Be (Err s) new
  sample_stopped old new asked asked' s Are Be same a = record {
    done = a.done;
    left = a.left;
    made = a.made;
    are = subst (λ (l : List Act). AreMade l a.done a.left) same a.are;
    ends = a.ends;
  }
