-- What a stream of chunks asks of an archive. With each header it asks for a row, where the session registers variables; with each sample
-- it makes an offer, at the moment that was read for it. Where the intake is full there is a flush, and the same offer again.
use Rattle.std.specs.Prelude.{◌≡◌, ◌⊎◌, ℕ, List, [], ◌∷◌, ◌++◌, Option, Some, None, Bool, true, false}
use Rattle.std.specs.List.{AllByRecursion}
use Rattle.pb_messages.specs.declared.about.About.{About}
use Rattle.pb_messages.specs.declared.about.Method.TheVariants.{Monitor}
use Rattle.pb_messages.specs.declared.info.PayloadInfo.{PayloadInfo}
use Rattle.pb_lines.specs.Stream.{Item, header, sample, chunk_end}
use Rattle.pv_name.specs.Name.{IsName}
use Rattle.series_model.specs.Limits.{intake_room}
use Rattle.series_model.specs.declared.sample.Sample.{Sample}
use Rattle.act_model.specs.declared.acts.Act.{Act}
use Rattle.act_model.specs.declared.acts.Act.TheVariants.{Register, Offer, Flush}
use Rattle.act_model.specs.declared.acts.Answer.TheVariants.{IntakeFull, DiskFault, Memory}
use Rattle.act_model.specs.Reply.{Reply}
use Rattle.act_model.specs.History.{Done}

-- all that an intake can hold is flushed
abbrev pub flush_all : Act
flush_all = Flush intake_room

-- what a header tells of its variable, each of whose samples is tried
abbrev pub about_of : PayloadInfo → About
about_of info = record { ty = info.ty; method = Monitor; count = info.count; headers = info.headers }

-- a sample of a header's chunk is offered at a moment
abbrev pub offer_of : PayloadInfo → Sample → ℕ → Act
offer_of info x now = Offer info.name info.ty x.t x.line now

-- a session that registers asks for a row for each header whose name is a name
abbrev pub AsksRow : Bool → PayloadInfo → List Act → Type 0
AsksRow true info acts = (IsName info.name × (acts ≡ Register info.name (about_of info) ∷ [])) ⊎ ((IsName info.name → ⊥) × (acts ≡ []))
AsksRow false info acts = acts ≡ []

-- What one item asks for in the chunk of a header, at the moments that were read for it: one for a sample.
abbrev pub AsksFor : Bool → Option PayloadInfo → Item → List ℕ → List Act → Type 0
AsksFor registers chunk (header info line) moments acts = (moments ≡ []) × AsksRow registers info acts
AsksFor registers chunk (sample x) moments acts = (info : PayloadInfo) × (chunk ≡ Some info) × (now : ℕ) × (moments ≡ now ∷ []) × (acts ≡ offer_of info x now ∷ [])
AsksFor registers chunk chunk_end moments acts = (moments ≡ []) × (acts ≡ [])

-- the chunk that goes on behind an item
abbrev pub chunk_behind : Option PayloadInfo → Item → Option PayloadInfo
chunk_behind chunk (header info line) = Some info
chunk_behind chunk (sample x) = chunk
chunk_behind chunk chunk_end = None

-- what an answer makes to be asked first: where the intake is full, a flush, and then the same act again
abbrev pub asked_again : Act → Reply → List Act
asked_again act (IntakeFull held) = flush_all ∷ act ∷ []
asked_again act other = []

-- Of what is asked for, these acts were made, each answered as told; the rest is left to be asked.
abbrev pub AreMade : List Act → List Done → List Act → Type 0
AreMade asked [] left = left ≡ asked
AreMade [] (d ∷ done) left = ⊥
AreMade (act ∷ asked) (d ∷ done) left = (d.act ≡ act) × AreMade (asked_again act d.answer ++ asked) done left

-- the disk failed, or memory was wanting
abbrev pub is_failure : Reply → Bool
is_failure DiskFault = true
is_failure Memory = true
is_failure other = false

-- no act failed
abbrev pub NoneFails : List Done → Type 0
NoneFails done = AllByRecursion (λ (d : Done). is_failure d.answer ≡ false) done

-- the last act was answered so, and none before it failed
pub record FailsWith (answer : Reply) (done : List Done) : Type 0 where
  pub before : List Done
  pub act : Act
  pub is : done ≡ before ++ record { act = act; answer = answer } ∷ []
  pub well : NoneFails before
