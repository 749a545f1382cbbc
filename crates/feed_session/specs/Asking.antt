-- What one who acts made of what an item asks for: all of it, or as much as was answered before an act failed, no act was left, or memory
-- was wanting.
use Rattle.std.specs.Prelude.{◌≡◌, ◌⊎◌, ℕ, ◌+◌, List, [], ◌∷◌, true, Option, Some, None, Result, Ok, Err, MatchResult}
use Rattle.pb_messages.specs.declared.info.PayloadInfo.{PayloadInfo}
use Rattle.act_model.specs.declared.acts.Act.{Act}
use Rattle.act_model.specs.declared.acts.Answer.TheVariants as answer
use Rattle.act_model.specs.History.{Entry, Done, Made}
use Rattle.feed_session.specs.Asks.{AreMade, AsksRow, FailsWith, NoneFails, flush_all}
use Rattle.feed_session.specs.Session.{IsFlushed, count_kept, count_held, count_dropped}
use Rattle.feed_session.specs.declared.asking.SessionStop.{SessionStop}
use Rattle.feed_session.specs.declared.asking.SessionStop.TheVariants as stopped
use Rattle.feed_session.specs.declared.end.Fed.{Fed}
use Rattle.feed_session.specs.declared.end.Fed.TheVariants as fed
use Rattle.feed_session.specs.declared.replies.Cut.{Cut}
use Rattle.feed_session.specs.declared.replies.Cut.TheVariants as cut
use Rattle.feed_session.specs.declared.tally.OfferOutcome.{OfferOutcome}
use Rattle.feed_session.specs.declared.tally.OfferOutcome.TheVariants.{Kept, Held, Dropped}
use Rattle.feed_session.specs.declared.tally.OfferCounts.{OfferCounts}

-- how the session ends that stopped so
abbrev pub end_by : SessionStop → Fed
end_by stopped.DiskFault = fed.DiskFault
end_by stopped.Spent = fed.Spent
end_by stopped.Memory = fed.Memory

-- how it ends where a reply was cut off
abbrev pub cut_by : Cut → Fed
cut_by cut.Peer = fed.PeerFault
cut_by cut.Memory = fed.Memory

-- the acts that were made when it stopped
abbrev pub StopsIn : SessionStop → List Done → Type 0
StopsIn stopped.DiskFault done = FailsWith answer.DiskFault done
StopsIn stopped.Spent done = NoneFails done
StopsIn stopped.Memory done = NoneFails done ⊎ FailsWith answer.Memory done

-- how many samples these acts kept, held and dropped
abbrev pub tally_of : List Done → OfferCounts
tally_of done = record { kept = count_kept done; held = count_held done; dropped = count_dropped done }

abbrev pub none : OfferCounts
none = record { kept = 0; held = 0; dropped = 0 }

abbrev pub both : OfferCounts → OfferCounts → OfferCounts
both a b = record { kept = a.kept + b.kept; held = a.held + b.held; dropped = a.dropped + b.dropped }

-- one sample more
abbrev pub one_more : OfferOutcome → OfferCounts → OfferCounts
one_more Kept t = record t { kept = t.kept + 1 }
one_more Held t = record t { held = t.held + 1 }
one_more Dropped t = record t { dropped = t.dropped + 1 }

abbrev pub total : OfferCounts → ℕ
total t = t.kept + t.held + t.dropped

-- Just these acts were made of what is asked for. Where all of it was, they are as told.
pub record Asking {A X : Type 0} (number : A → ℕ) (between : A → List Entry → A → Type 0) (old : A) (asked : List Act) (Are : X → List Done → Type 0) (result : Result X SessionStop) (new : A) : Type 0 where
  pub done : List Done
  pub left : List Act
  pub made : Made number between old done new
  pub are : AreMade asked done left
  pub ends : MatchResult result (λ x. (left ≡ []) × NoneFails done × Are x done) (λ s. StopsIn s done)

-- a header's row was asked for, where its name is one
pub record RegistersRow {A : Type 0} (number : A → ℕ) (between : A → List Entry → A → Type 0) (old : A) (info : PayloadInfo) (result : Result (Unit {0}) SessionStop) (new : A) : Type 0 where
  pub asked : List Act
  pub row : AsksRow true info asked
  pub asking : Asking number between old asked (λ _ done. tally_of done ≡ none) result new

-- so it was, unless memory was wanting for it
abbrev pub Registers : {A : Type 0} → (A → ℕ) → (A → List Entry → A → Type 0) → A → PayloadInfo → Result (Unit {0}) SessionStop → A → Type 0
Registers number between old info result new = RegistersRow number between old info result new ⊎ ((result ≡ Err stopped.Memory) × Made number between old [] new)

-- What one try of an offer came to: it was answered, or the intake is full, or the session stops.
abbrev pub Tried : Act → List Act → Result (Option OfferOutcome) SessionStop → List Done → Type 0
Tried act left (Ok (Some outcome)) done = (left ≡ []) × NoneFails done × (tally_of done ≡ one_more outcome none)
Tried act left (Ok None) done = (left ≡ flush_all ∷ act ∷ []) × NoneFails done × (tally_of done ≡ none)
Tried act left (Err s) done = StopsIn s done

-- just these acts were made in one try
pub record OffersOnce {A : Type 0} (number : A → ℕ) (between : A → List Entry → A → Type 0) (old : A) (act : Act) (result : Result (Option OfferOutcome) SessionStop) (new : A) : Type 0 where
  pub done : List Done
  pub left : List Act
  pub made : Made number between old done new
  pub are : AreMade (act ∷ []) done left
  pub ends : Tried act left result done

-- The session ended so unless the last flush stopped it, of which just these acts were made.
pub record Closes {A : Type 0} (number : A → ℕ) (between : A → List Entry → A → Type 0) (old : A) (end result : Fed) (new : A) : Type 0 where
  pub done : List Done
  pub left : List Act
  pub made : Made number between old done new
  pub are : AreMade (flush_all ∷ []) done left
  pub ends : ((result ≡ end) × IsFlushed done) ⊎ ((s : SessionStop) × (result ≡ end_by s) × StopsIn s done)
