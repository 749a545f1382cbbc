-- What the bytes that a source gives are answered. At most `most_bytes` are taken. They are parsed after the first read, after each that
-- brought a newline, after the one that found the end, and where no more are taken. A head ends with a newline, so nothing is read once a
-- whole head was. What can't become a head is found by its first bytes, or with the next newline.
use Rattle.std.specs.Prelude.{◌≡◌, ◌≢◌, ◌⊎◌, ℕ, ◌+◌, ◌≤◌, List, [], ◌++◌, All, length, take, Option, Result, Ok, Err, ⊤}
use Rattle.std.specs.Io.KnownBytes.{Consumes, Keeps, IsAtEnd}
use Rattle.edge_io.specs.declared.stream.Failed.{Failed}
use Rattle.httparse.specs.Grammar.{HasNoRequest, NeverHasRequest, MayBecomeRequest}
use Rattle.http_front.specs.declared.request.Request.{Request}
use Rattle.http_front.specs.declared.request.HttpErr.{HttpErr}
use Rattle.http_front.specs.declared.request.HttpErr.TheVariants.{SourceFault, BadHead, HeadTooLong, Memory}
use Rattle.http_front.specs.declared.reading.Due.{Due}
use Rattle.http_front.specs.declared.reading.Due.TheVariants as due
use Rattle.http_front.specs.Calls.{Answers}
use Rattle.http_front.specs.Heads.{BeginsWith, IsUnfinished}

-- as many bytes are taken for a head at most
abbrev pub most_bytes : ℕ
most_bytes = 16_384

-- the bytes begin with a head, and it is answered so
pub record AnswersHead (taken : List ℕ) (answer : Result Request HttpErr) : Type 0 where
  pub method : List ℕ
  pub target : List ℕ
  pub minor : ℕ
  pub begins : BeginsWith taken method target minor
  pub answers : Answers method target minor answer

abbrev pub HasNoLine : List ℕ → Type 0
HasNoLine bytes = All (λ b. b ≢ 10) bytes

-- Bytes behind which more are read: they have no head, and as far as they were parsed, which is beyond their last newline, they may
-- become one.
pub record Waits (taken : List ℕ) : Type 0 where
  pub no_head : HasNoRequest taken
  pub parsed : List ℕ
  pub later : List ℕ
  pub parts : taken ≡ parsed ++ later
  pub open_yet : (parsed ≡ []) ⊎ MayBecomeRequest parsed
  pub no_line : HasNoLine later

-- What the bytes that were taken are answered: that a read behind them failed, for which they waited; that no bytes which could follow
-- make them a head, or that the source ended within it, as `Ended` says; that so many were taken that no more are; or else what the head
-- in front of them is answered.
abbrev pub Judges : List ℕ → Type 0 → Result Request HttpErr → Type 0
Judges taken Ended (Err SourceFault) = Waits taken
Judges taken Ended (Err BadHead) = NeverHasRequest taken ⊎ (HasNoRequest taken × Ended)
Judges taken Ended (Err HeadTooLong) = (length taken ≡ most_bytes) × IsUnfinished taken
Judges taken Ended (Err Memory) = ⊤
Judges taken Ended answer = AnswersHead taken answer

-- bytes were taken of the source, and are answered so
pub record HasRead (before after : Option (List ℕ)) (answer : Result Request HttpErr) : Type 0 where
  pub taken : List ℕ
  pub most : length taken ≤ most_bytes
  pub consumes : Consumes before after taken
  pub judges : Judges taken (IsAtEnd after) answer

-- bytes were taken that begin with a head, and memory ran out while it was answered
pub record TookHead (before after : Option (List ℕ)) : Type 0 where
  pub taken : List ℕ
  pub consumes : Consumes before after taken
  pub answers : AnswersHead taken (Err Memory)

-- so many bytes were read behind the first of a buffer, which stay
abbrev pub ReadsBehind : List ℕ → List ℕ → ℕ → Option (List ℕ) → Option (List ℕ) → Result ℕ Failed → Type 0
ReadsBehind old new len before after (Ok more) =
    (chunk : List ℕ) × (take (len + more) new ≡ take len old ++ chunk) × Consumes before after chunk × (more ≡ 0 → IsAtEnd after)
ReadsBehind old new len before after (Err _) = Keeps before after

-- the reading goes on: no parse was due, or bytes may follow that make a head
abbrev pub GoesOn : Due → List ℕ → Type 0
GoesOn due.Nothing taken = ⊤
GoesOn due.Look taken = IsUnfinished taken
GoesOn due.End taken = ⊥
GoesOn due.Limit taken = ⊥

-- what bytes that are no head yet are answered where no more come
abbrev pub NoHeadYet : Due → Result Request HttpErr → Type 0
NoHeadYet why answer = ((why ≡ due.End) × (answer ≡ Err BadHead)) ⊎ ((why ≡ due.Limit) × (answer ≡ Err HeadTooLong))
