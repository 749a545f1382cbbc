-- The answer over the samples of a chunk, as they come.
use Rattle.std.specs.Prelude.{◌≡◌, ℕ, ◌+◌, ◌<◌, ◌≤◌, List, [], ◌∷◌, ◌++◌, Option, Some, None, Bool, false, length}
use Rattle.series_model.specs.declared.sample.Sample.{Sample}
use Rattle.series_model.specs.declared.sample.Query.{Query}
use Rattle.series_model.specs.Series.{RisesFrom, end_of, taken}
use Rattle.series_model.specs.Retrieval.{last_of}
use Rattle.stream_extract.specs.Extract.{lines_text, is_reached, known}
use Rattle.stream_extract.specs.declared.answer.Place.{Place}
use Rattle.stream_extract.specs.declared.answer.Place.TheVariants.{Past, Earlier, Within, Later}

-- The query, the moment of the last sample that was taken, whether one not earlier than the interval was, and the line held back.
pub record Answering : Type 0 where
  pub query : Query
  pub last : Option ℕ
  pub reached : Bool
  pub earlier : List ℕ

-- the first moment later than the last
abbrev pub next_of : Option ℕ → ℕ
next_of None = 0
next_of (Some t) = t + 1

-- The samples so far are these.
pub record Covers (a : Answering) (xs : List Sample) : Type 0 where
  pub last : end_of (taken xs) ≡ next_of a.last
  pub reached : is_reached a.query (taken xs) ≡ a.reached
  pub earlier : a.reached ≡ false → a.earlier ≡ lines_text (last_of (taken xs))

-- A text grew from one to another, and the bytes by the same.
abbrev pub Adds : List ℕ → List ℕ → List ℕ → List ℕ → Type 0
Adds before after old new = (more : List ℕ) × (after ≡ before ++ more) × (new ≡ old ++ more)

-- One more sample was taken, and what is known of the answer by it was added to the bytes.
abbrev pub Takes : Answering → Answering → Sample → List ℕ → List ℕ → Type 0
Takes a b x old new = (xs : List Sample) → Covers a xs → Covers b (xs ++ x ∷ []) × Adds (lines_text (known a.query xs)) (lines_text (known a.query (xs ++ x ∷ []))) old new

-- The same of samples that were taken one after another.
abbrev pub TakesAll : Answering → Answering → List Sample → List ℕ → List ℕ → Type 0
TakesAll a b ys old new = (xs : List Sample) → Covers a xs → Covers b (xs ++ ys) × Adds (lines_text (known a.query xs)) (lines_text (known a.query (xs ++ ys))) old new

-- Samples from a moment on, up to another, all stand before the interval, all in it, or all behind it.
abbrev pub OnOneSide : Query → ℕ → ℕ → Type 0
OnOneSide q n t = (q.from ≤ t → q.from ≤ n) × (q.from ≤ t → q.to < t → q.to < n)

-- Behind the last moment, samples up to another all stand on one side.
abbrev pub IsBound : Answering → ℕ → ℕ → Type 0
IsBound a last to = (a.last ≡ Some last) × (last ≤ to) × ((t : ℕ) → t ≤ to → OnOneSide a.query (last + 1) t)

-- These samples come next, all on one side: the text is their lines, and the last stands at this moment, with a line of so many bytes.
pub record IsFollowed (a : Answering) (ys : List Sample) (at size : ℕ) (lines : List ℕ) : Type 0 where
  pub front : List Sample
  pub final : Sample
  pub split : ys ≡ front ++ final ∷ []
  pub rising : RisesFrom (next_of a.last) ys
  pub text : lines ≡ lines_text ys
  pub t : at ≡ final.t
  pub ending : size ≡ length final.line
  pub side : OnOneSide a.query (next_of a.last) final.t

-- where a moment stands
abbrev pub IsPlace : Answering → ℕ → Place → Type 0
IsPlace a t Past = t < next_of a.last
IsPlace a t Earlier = (next_of a.last ≤ t) × (t < a.query.from)
IsPlace a t Within = (next_of a.last ≤ t) × (a.query.from ≤ t) × (t ≤ a.query.to)
IsPlace a t Later = (next_of a.last ≤ t) × (a.query.from ≤ t) × (a.query.to < t)
