-- What follows from the definitions: two answers to the same bytes are one, however they were read.
use Rattle.std.specs.Prelude.{◌≡◌, ◌⊎◌, ℕ, List, Option, Some, Result, Err, ⊤}
use Rattle.http_front.specs.declared.request.Request.{Request}
use Rattle.http_front.specs.declared.request.HttpErr.{HttpErr}
use Rattle.http_front.specs.declared.request.HttpErr.TheVariants.{SourceFault, BadHead, HeadTooLong, Memory}
use Rattle.http_front.specs.Reading.{HasRead}

-- neither the source failed nor memory ran out
abbrev pub IsAnswer : Result Request HttpErr → Type 0
IsAnswer (Err SourceFault) = ⊥
IsAnswer (Err Memory) = ⊥
IsAnswer _ = ⊤

-- the answer tells that there is no head
abbrev pub TellsNoHead : Result Request HttpErr → Type 0
TellsNoHead (Err BadHead) = ⊤
TellsNoHead (Err HeadTooLong) = ⊤
TellsNoHead _ = ⊥

-- Two answers to the bytes of one source are one, but that no head may be told in either way.
abbrev pub OneAnswer : Type 0
OneAnswer = (xs : List ℕ) (after later : Option (List ℕ)) (a b : Result Request HttpErr) → IsAnswer a → IsAnswer b →
    HasRead (Some xs) after a → HasRead (Some xs) later b → (a ≡ b) ⊎ (TellsNoHead a × TellsNoHead b)
