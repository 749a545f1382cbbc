-- Where in a piece the samples begin that count: at the last one that is earlier than the interval, and behind those that aren't later
-- than the last one taken.
use Rattle.std.specs.Prelude.{◌≡◌, ◌⊎◌, ℕ, ◌+◌, ◌<◌, ◌≤◌, List, [], ◌∷◌, ◌++◌, None, Some, length, take}
use Rattle.std.specs.List.{AllByRecursion}
use Rattle.series_model.specs.declared.sample.Sample.{Sample}
use Rattle.series_model.specs.declared.sample.Query.{Query}
use Rattle.series_model.specs.Series.{RisesFrom, IsRising, before, end_of, taken_from}
use Rattle.series_model.specs.Retrieval.{answer}
use Rattle.pb_messages.specs.declared.info.PayloadInfo.{PayloadInfo}
use Rattle.pb_file.specs.declared.search.SearchErr.{SearchErr}
use Rattle.pb_file.specs.declared.search.SearchErr.TheVariants as refused
use Rattle.pb_file.specs.Walk.{Walk}
use Rattle.pb_file.specs.Search.{IsLineStart, MayBegin, end_place}
use Rattle.pb_file.specs.Skip.{HasSkipped}
use Rattle.stream_merge.specs.declared.pieces.Merged.{Merged}
use Rattle.stream_merge.specs.declared.pieces.Merged.TheVariants.{ReadFault, Damaged, Memory}
use Rattle.stream_merge.specs.declared.source.OpenPiece.{OpenPiece}

-- LISTS

-- how many samples are earlier than a moment
abbrev pub early_count : ℕ → List Sample → ℕ
early_count from xs = length (before from xs)

-- the samples rise from n on, and one of them at most is earlier than the interval
abbrev pub IsPlaced : ℕ → ℕ → List Sample → Type 0
IsPlaced n from xs = RisesFrom n xs × (early_count from xs ≤ 1)

-- Whatever is kept of the samples before n, the query gets the same of the one list's samples from n on as of the other's.
abbrev pub AnswersAs : ℕ → Query → List Sample → List Sample → Type 0
AnswersAs n q xs ys = (kept : List Sample) → IsRising kept → end_of kept ≤ n → answer (kept ++ taken_from n xs) q ≡ answer (kept ++ taken_from n ys) q

-- THE WALK

-- The walk has read the header's line, of this length, and no sample since it went on at its place, from which a reading may begin.
pub record IsAtLine (head_len : ℕ) (w : Walk) (bytes : List ℕ) : Type 0 where
  pub head : List ℕ
  pub info : PayloadInfo
  pub rest : List ℕ
  pub size : head_len ≡ length head + 1
  pub text : take w.len bytes ≡ head ++ 10 ∷ rest
  pub skipped : HasSkipped w bytes w.place (record { head = head; info = info; samples = [] })
  pub begins : IsLineStart (take w.len bytes) head_len w.place
  pub from : MayBegin info (take w.len bytes) head_len w.place

-- the walk goes on, at a place that it may have gone on to
pub record MovesOn (old new : Walk) : Type 0 where
  pub going : new.stop ≡ None
  pub within : new.place ≤ new.len
  pub same : new ≡ record old { place = new.place; earliest = new.earliest; stop = new.stop }

-- WHERE IT BEGINS

-- in the file of this header's line and these samples, the place is that of the first of `here`
pub record Splits (head : List ℕ) (samples here : List Sample) (place : ℕ) : Type 0 where
  pub passed : List Sample
  pub all : samples ≡ passed ++ here
  pub place_is : place ≡ end_place head passed

-- none was passed, or the next one is earlier than the interval
abbrev pub IsFirstOrEarly : ℕ → List Sample → List Sample → Type 0
IsFirstOrEarly from passed here = (passed ≡ []) ⊎ ((s : Sample) × (more : List Sample) × (here ≡ s ∷ more) × (s.t < from))

-- one sample at most is yet to come that is earlier than the interval, and none that was passed is the last of these
pub record BeginsBefore (from : ℕ) (head : List ℕ) (samples : List Sample) (place : ℕ) : Type 0 where
  pub here : List Sample
  pub split : Splits head samples here place
  pub last : IsFirstOrEarly from split.passed here
  pub few : early_count from here ≤ 1

-- of `earlier` the samples before n were passed, and no others
pub record BeginsFrom (n : ℕ) (head : List ℕ) (samples earlier : List Sample) (place : ℕ) : Type 0 where
  pub gone : List Sample
  pub here : List Sample
  pub list : earlier ≡ gone ++ here
  pub are : AllByRecursion (λ s. s.t < n) gone
  pub split : Splits head samples here place
  pub rises : RisesFrom n here

-- the samples from the place on answer as all do
pub record BeginsWell (n : ℕ) (q : Query) (head : List ℕ) (samples : List Sample) (place : ℕ) : Type 0 where
  pub here : List Sample
  pub split : Splits head samples here place
  pub placed : IsPlaced n q.from here
  pub same : (more : List Sample) → AnswersAs n q (samples ++ more) (here ++ more)

-- what a failed search of a piece is told as: a fault with its reader, a bad line with its name
abbrev pub TellsAs : {R : Type 0} → OpenPiece R → SearchErr → Merged R → Type 0
TellsAs {R} p refused.ReadFault r = r ≡ ReadFault (Some p.reader)
TellsAs {R} p (refused.Damaged at) r = r ≡ Damaged p.name at
TellsAs {R} p refused.Memory r = r ≡ Memory
