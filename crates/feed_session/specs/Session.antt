-- How a session goes: the items of the stream one after another, each with the moments that were read for it and the acts that were made of
-- it, and then what was begun last. A session ends well behind a flush that leaves nothing in the intake.
use Rattle.std.specs.Prelude.{◌≡◌, ◌⊎◌, ℕ, List, [], ◌∷◌, ◌++◌, map, Option, Some, None, IfSome, Bool, true, false}
use Rattle.std.specs.List.{count_by, flat_map}
use Rattle.edge_io.specs.Moments.{Moments, Gives}
use Rattle.pb_messages.specs.declared.info.PayloadInfo.{PayloadInfo}
use Rattle.pb_lines.specs.Stream.{Item, Stop, IsWholeStream}
use Rattle.act_model.specs.declared.acts.Act.{Act}
use Rattle.act_model.specs.declared.acts.Answer.TheVariants as answer
use Rattle.act_model.specs.Reply.{Reply}
use Rattle.act_model.specs.History.{Entry, Done, Made}
use Rattle.feed_session.specs.Asks.{AsksFor, AreMade, FailsWith, NoneFails, chunk_behind, flush_all}
use Rattle.feed_session.specs.declared.end.Fed.{Fed}
use Rattle.feed_session.specs.declared.end.Fed.TheVariants as fed

-- ITEMS THAT WERE TAKEN

-- an item, the moments that were read for it, and the acts that were made of it
pub record TakenItem : Type 0 where
  pub item : Item
  pub moments : List ℕ
  pub done : List Done

-- all that the item asks for was made, and nothing failed
pub record IsTaken (registers : Bool) (chunk : Option PayloadInfo) (t : TakenItem) : Type 0 where
  pub asked : List Act
  pub asks : AsksFor registers chunk t.item t.moments asked
  pub made : AreMade asked t.done []
  pub well : NoneFails t.done

-- so it is with each, one after another
abbrev pub AreTaken : Bool → Option PayloadInfo → List TakenItem → Type 0
AreTaken registers chunk [] = Unit {0}
AreTaken registers chunk (t ∷ ts) = IsTaken registers chunk t × AreTaken registers (chunk_behind chunk t.item) ts

-- the chunk that goes on behind them
abbrev pub chunk_after : Option PayloadInfo → List TakenItem → Option PayloadInfo
chunk_after chunk [] = chunk
chunk_after chunk (t ∷ ts) = chunk_after (chunk_behind chunk t.item) ts

abbrev pub items_of : List TakenItem → List Item
items_of ts = map (λ t. t.item) ts

abbrev pub moments_of : List TakenItem → List ℕ
moments_of ts = flat_map (λ t. t.moments) ts

abbrev pub acts_of : List TakenItem → List Done
acts_of ts = flat_map (λ t. t.done) ts

-- HOW MANY

abbrev pub is_kept : Reply → Bool
is_kept answer.Kept = true
is_kept other = false

abbrev pub is_held : Reply → Bool
is_held answer.Held = true
is_held other = false

abbrev pub is_dropped : Reply → Bool
is_dropped (answer.Dropped reason) = true
is_dropped other = false

-- how many of these acts were answered so
abbrev pub count_kept : List Done → ℕ
count_kept done = count_by (λ d. is_kept d.answer) done

abbrev pub count_held : List Done → ℕ
count_held done = count_by (λ d. is_held d.answer) done

abbrev pub count_dropped : List Done → ℕ
count_dropped done = count_by (λ d. is_dropped d.answer) done

-- HOW A SESSION ENDS

-- a stream begins with these items
pub record BeginsWith (bytes : List ℕ) (items : List Item) : Type 0 where
  pub rest : List Item
  pub stop : Stop
  pub whole : IsWholeStream bytes (items ++ rest) stop

-- Which of the stream's items were read, where its bytes are told: all of them at the end and at the first bad line, else the first ones.
abbrev pub ReadsOf : Fed → Option (List ℕ) → List Item → Type 0
ReadsOf (fed.Fed kept held dropped) source items = IfSome source (λ bytes. IsWholeStream bytes items None)
ReadsOf (fed.Refused line fault) source items = IfSome source (λ bytes. IsWholeStream bytes items (Some (line, fault)))
ReadsOf other source items = IfSome source (λ bytes. BeginsWith bytes items)

-- What was begun last, and what it asks for: an item, or behind the last item nothing or the flush.
abbrev pub AsksLast : Bool → Option PayloadInfo → List Item → List ℕ → List Act → Type 0
AsksLast registers chunk [] moments asked = (moments ≡ []) × ((asked ≡ []) ⊎ (asked ≡ flush_all ∷ []))
AsksLast registers chunk (item ∷ []) moments asked = AsksFor registers chunk item moments asked
AsksLast registers chunk (item ∷ other ∷ items) moments asked = ⊥

-- all was flushed
pub record IsFlushed (last : List Done) : Type 0 where
  pub samples : ℕ
  pub doors : ℕ
  pub is : last ≡ record { act = flush_all; answer = answer.Flushed samples 0 doors } ∷ []

-- what came of it
abbrev pub EndsIn : Fed → List Item → List Done → Type 0
EndsIn (fed.Fed kept held dropped) begun last = (begun ≡ []) × IsFlushed last
EndsIn (fed.Refused line fault) begun last = (begun ≡ []) × IsFlushed last
EndsIn fed.PeerFault begun last = (begun ≡ []) × (last ≡ [])
EndsIn fed.DiskFault begun last = FailsWith answer.DiskFault last
EndsIn fed.Spent begun last = NoneFails last
EndsIn fed.Memory begun last = NoneFails last ⊎ FailsWith answer.Memory last

-- the numbers that are told are those of all samples
abbrev pub CountsAll : Fed → List Done → Type 0
CountsAll (fed.Fed kept held dropped) done = (kept ≡ count_kept done) × (held ≡ count_held done) × (dropped ≡ count_dropped done)
CountsAll other done = Unit {0}

-- A session that ended so: the items that it took of its source, what it began last, the moments that it read of its clock, and all acts
-- that it made, in order.
pub record Session (registers : Bool) (end : Fed) (taken : List TakenItem) (source : Option (List ℕ)) (clock clock' : Option Moments) (mine : List Done) : Type 0 where
  pub begun : List Item
  pub moments : List ℕ
  pub asked : List Act
  pub last : List Done
  pub left : List Act
  pub items : AreTaken registers None taken
  pub asks : AsksLast registers (chunk_after None taken) begun moments asked
  pub made : AreMade asked last left
  pub ends : EndsIn end begun last
  pub reads : ReadsOf end source (items_of taken ++ begun)
  pub at : Gives clock clock' (moments_of taken ++ moments)
  pub all : mine ≡ acts_of taken ++ last
  pub counts : CountsAll end (acts_of taken)

-- THE ACTOR

-- just these acts of a session were made under the actor's number
pub record EndsSession {A : Type 0} (number : A → ℕ) (between : A → List Entry → A → Type 0) (registers : Bool) (end : Fed) (taken : List TakenItem) (old new : A) (source : Option (List ℕ)) (clock clock' : Option Moments) : Type 0 where
  pub mine : List Done
  pub session : Session registers end taken source clock clock' mine
  pub made : Made number between old mine new

-- a session without replies, which registers variables
pub record Ingests {A : Type 0} (number : A → ℕ) (between : A → List Entry → A → Type 0) (result : Fed) (old new : A) (source : Option (List ℕ)) (clock clock' : Option Moments) : Type 0 where
  pub taken : List TakenItem
  pub ended : EndsSession number between true result taken old new source clock clock'
