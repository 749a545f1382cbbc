-- What a session kept is durable where it says so: each sample that it offered, and that was kept, stands in the durable list of a row of
-- its name, in the state that the session has come to.
use Rattle.std.specs.Prelude.{◌≡◌, ℕ, List, Bool, true, Option, Some, slice_get}
use Rattle.std.specs.List.{Contains}
use Rattle.edge_io.specs.Moments.{Moments}
use Rattle.pb_wire.specs.declared.payload.PayloadType.{PayloadType}
use Rattle.series_model.specs.declared.sample.Sample.{Sample}
use Rattle.act_model.specs.declared.acts.Act.TheVariants.{Offer}
use Rattle.act_model.specs.declared.acts.Answer.TheVariants as answer
use Rattle.act_model.specs.Rows.{RowState, durable}
use Rattle.act_model.specs.Machine.{Machine}
use Rattle.act_model.specs.History.{Done, Entry, Goes}
use Rattle.feed_session.specs.Session.{EndsSession, TakenItem, acts_of}
use Rattle.feed_session.specs.declared.end.Fed.{Fed}
use Rattle.feed_session.specs.declared.end.Fed.TheVariants as fed

-- a row of this name has the sample in this list of its own
pub record HasSample (own : RowState → List Sample) (m : Machine) (name : List ℕ) (x : Sample) : Type 0 where
  pub place : ℕ
  pub row : RowState
  pub here : slice_get m.rows place ≡ Some row
  pub named : row.name ≡ name
  pub has : Contains (own row) x

-- the sample was offered for the variable of this name, and kept
abbrev pub kept_offer : List ℕ → PayloadType → Sample → ℕ → Done
kept_offer name ty x now = record { act = Offer name ty x.t x.line now; answer = answer.Kept }

-- each sample that these acts kept is durable
abbrev pub KeptAreDurable : List Done → Machine → Type 0
KeptAreDurable done m = (name : List ℕ) (ty : PayloadType) (x : Sample) (now : ℕ) → Contains done (kept_offer name ty x now) → HasSample durable m name x

-- the session says that what it kept is durable
abbrev pub SaysDurable : Fed → Type 0
SaysDurable (fed.Fed kept held dropped) = Unit {0}
SaysDurable (fed.Refused line fault) = Unit {0}
SaysDurable other = ⊥

-- Whatever others do in between, from each state that the actor stood for the session's entries lead to one in which all that it kept is
-- durable, where the disk tells its files and they stand as they are listed.
abbrev pub KeptIsDurable : {A : Type 0} → (A → ℕ) → (A → Machine → Type 0) → (A → List Entry → A → Type 0) → Type 0
KeptIsDurable {A} number stands between =
    (registers : Bool) (end : Fed) (taken : List TakenItem) (old new : A) (source : Option (List ℕ)) (clock clock' : Option Moments) (m : Machine)
    → SaysDurable end → (e : EndsSession number between registers end taken old new source clock clock') → stands old m → m.told ≡ true
    → (goes : Goes (stands new) m e.made.entries) × KeptAreDurable (acts_of taken) goes.after
