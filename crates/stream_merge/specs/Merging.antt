-- What a merge has yet to give.
use Rattle.std.specs.Prelude.{◌≡◌, ℕ, ◌+◌, ◌<◌, ◌≤◌, Bool, IsTrue, List, [], ◌∷◌, ◌++◌, length, Option, None, Some}
use Rattle.series_model.specs.declared.sample.Sample.{Sample}
use Rattle.series_model.specs.Series.{taken_from}
use Rattle.series_model.specs.Retrieval.{answer}
use Rattle.pb_wire.specs.declared.payload.PayloadType.{PayloadType}
use Rattle.pb_file.specs.Walk.{behind}
use Rattle.stream_merge.specs.declared.pieces.Merged.{Merged}
use Rattle.stream_merge.specs.declared.pieces.Merged.TheVariants.{Line, End}
use Rattle.stream_merge.specs.declared.merge.Merge.{Merge}
use Rattle.stream_merge.specs.Pieces.{NamedBytes}
use Rattle.stream_merge.specs.Reading.{IsSampleOf, AreSamplesOf}
use Rattle.stream_merge.specs.Source.{IsReady, Coming, HoldsIn, passed, unread}
use Rattle.stream_merge.specs.Beginning.{IsPlaced}

-- a sample that is kept, if one is
abbrev pub kept_of : Option ℕ → List ℕ → List Sample
kept_of None line = []
kept_of (Some t) line = record { t = t; line = line } ∷ []

-- how many samples are kept
abbrev pub kept_count : Option ℕ → ℕ
kept_count None = 0
kept_count (Some t) = 1

-- a bound on the lines that it may give still, where so many pieces are left
abbrev pub remaining : {R : Type 0} → ℕ → Merge R → ℕ
remaining {R} count m = unread count m.source + kept_count m.kept

-- the first moment at which the next line may stand: what is kept comes next, and otherwise what is later than the last sample
abbrev pub next_from : Option ℕ → Option ℕ → ℕ
next_from None last = behind last
next_from (Some t) last = t

abbrev pub line_from : {R : Type 0} → Merge R → ℕ
line_from {R} m = next_from m.kept m.last

-- what is kept is earlier than the interval
abbrev pub IsEarly : Option ℕ → ℕ → Type 0
IsEarly None from = Unit {0}
IsEarly (Some t) from = t < from

-- something is kept that isn't earlier than the interval
abbrev pub IsDue : Option ℕ → ℕ → Type 0
IsDue None from = ⊥
IsDue (Some t) from = from ≤ t

-- what is kept is an event of the type, and no later than the last sample that was taken
abbrev pub IsKept : PayloadType → Option ℕ → Option ℕ → List ℕ → Type 0
IsKept ty last None line = Unit {0}
IsKept ty last (Some t) line = IsSampleOf ty (record { t = t; line = line }) × (t < behind last)

-- It may be asked for the next line.
pub record IsGoing {R : Type 0} (tells : Bool) (bytes : R → List ℕ) (m : Merge R) : Type 0 where
  pub ready : IsReady tells bytes m.source.ty m.source.piece
  pub tail : AreSamplesOf m.source.ty m.source.tail.items
  pub kept : IsKept m.source.ty m.last m.kept m.kept_line.items

-- what it has yet to give, of what is kept and of what may come: these pieces are left behind the open one
pub record Rest {R : Type 0} (bytes : R → List ℕ) (m : Merge R) (left : List NamedBytes) (xs : List Sample) : Type 0 where
  pub coming : List Sample
  pub comes : Coming bytes m.source left coming
  pub placed : IsPlaced (behind m.last) m.query.from comes.here
  pub are : xs ≡ answer (kept_of m.kept m.kept_line.items ++ taken_from (behind m.last) coming) m.query

-- some of the pieces are left, and it has these yet to give
pub record StillGives {R : Type 0} (bytes : R → List ℕ) (left : List NamedBytes → Type 0) (m : Merge R) (xs : List Sample) : Type 0 where
  pub pieces : List NamedBytes
  pub left_is : left pieces
  pub rest : Rest bytes m pieces xs

-- what a call came to, where it had these yet to give: a line is the first of them, and at the end there is none
abbrev pub Answers : {R : Type 0} → (R → List ℕ) → (List NamedBytes → Type 0) → Merge R → List Sample → List ℕ → Merged R → Type 0
Answers {R} bytes left m xs line (Line t) = (rest : List Sample) × (xs ≡ record { t = t; line = line } ∷ rest) × StillGives bytes left m rest
Answers {R} bytes left m xs line End = xs ≡ []
Answers {R} bytes left m xs line _ = Unit {0}

-- What is given of a sample that isn't earlier than the interval: what was kept, in whose place it is then. Where nothing was, it is given
-- itself, unless it is later than the interval.
abbrev pub Gives : {R : Type 0} → ℕ → Option ℕ → ℕ → Option ℕ → Merged R → Type 0
Gives {R} to (Some before) t kept r = (kept ≡ Some t) × (r ≡ Line before)
Gives {R} to None t kept r = (kept ≡ None) × (t ≤ to → r ≡ Line t) × (to < t → r ≡ End)

-- A line was given, where so many pieces were left before the call and are left now. The merge may be asked for the next one.
pub record GivesLine {R : Type 0} (tells : Bool) (bytes : R → List ℕ) (before now : ℕ) (old new : Merge R) (sample : Sample) : Type 0 where
  pub going : IsGoing tells bytes new
  pub event : IsSampleOf old.source.ty sample
  pub later : (line_from old ≤ sample.t) × (sample.t < line_from new)
  pub smaller : remaining now new < remaining before old

-- IN MEMORY

-- nothing is kept, and the next sample is in memory, which stands in the interval
pub record HoldsNext {R : Type 0} (m : Merge R) (t : ℕ) (line : List ℕ) : Type 0 where
  pub none_kept : m.kept ≡ None
  pub held : HoldsIn m.source.piece t line
  pub later : behind m.last ≤ t
  pub from : m.query.from ≤ t
  pub to : t ≤ m.query.to

-- so it is, and the line has this length
abbrev pub HoldsNextLong : {R : Type 0} → Merge R → ℕ → ℕ → Type 0
HoldsNextLong {R} m t len = (line : List ℕ) × HoldsNext m t line × (len ≡ length line)

-- The sample was the next one of the answer. The merge goes on behind it, over the same pieces.
pub record GoesBehind {R : Type 0} (tells : Bool) (bytes : R → List ℕ) (old : Merge R) (t : ℕ) (line : List ℕ) (new : Merge R) : Type 0 where
  pub going : IsGoing tells bytes new
  pub same : new ≡ record old { last = Some t; source = record old.source { piece = passed old.source.piece t (length line) } }
  pub event : IsSampleOf old.source.ty (record { t = t; line = line })
  pub later : (line_from old ≤ t) × (t < line_from new)
  pub gives : IsTrue tells → (left : List NamedBytes) (xs : List Sample) → Rest bytes old left xs → (rest : List Sample) × (xs ≡ record { t = t; line = line } ∷ rest) × Rest bytes new left rest
  pub smaller : (count : ℕ) → remaining count new < remaining count old
