-- Reading a source line by line.
use Rattle.std.specs.Prelude.{◌≡◌, ◌≢◌, ◌⊎◌, ℕ, ◌+◌, ◌-◌, ◌^◌, ◌<◌, ◌≤◌, List, [], ◌∷◌, ◌++◌, All, Option, Some, None, IfSome, IsSome, IsTrue, Bool, MatchOption, Contains, length, take, slice_index}
use Rattle.std.specs.Io.KnownBytes.{Consumes, Keeps, IsAtEnd, prepend_known}
use Rattle.edge_io.specs.declared.lines.LineRead.{LineRead}
use Rattle.edge_io.specs.declared.lines.LineRead.TheVariants.{Line, End, Torn, TooLong, InputTooLong, SourceFault, Memory}
use Rattle.edge_io.specs.declared.lines.Filled.{Filled}
use Rattle.edge_io.specs.declared.lines.Filled.TheVariants as filled

-- the most bytes of a line, its newline not counted
abbrev pub max_line : ℕ
max_line = 16_777_216

-- the most bytes that are taken of a source
abbrev pub max_input : ℕ
max_input = 2 ^ 40

-- the most bytes of one read
abbrev pub most_read : ℕ
most_read = 65_536

-- A reader of lines: the bytes that it took and has not given, how many it gave, the last line and its number, and where it stopped for good.
pub record LineReader : Type 0 where
  pub held : List ℕ
  pub passed : ℕ
  pub line : List ℕ
  pub number : ℕ
  pub stop : Option LineRead

-- what a reader can stop at for good
abbrev pub IsStop : LineRead → Type 0
IsStop Torn = Unit {0}
IsStop TooLong = Unit {0}
IsStop InputTooLong = Unit {0}
IsStop _ = ⊥

-- what is still to come: what the reader holds, and then what the source has left
abbrev pub ahead : LineReader → Option (List ℕ) → Option (List ℕ)
ahead r left = prepend_known r.held left

-- none of the first n bytes is a newline
abbrev pub NoneBelow : List ℕ → ℕ → Type 0
NoneBelow xs n = (k : ℕ) → k < n → slice_index xs k ≢ 10

-- the place of the first newline, none where there is no newline
abbrev pub IsFirstNewline : List ℕ → Option ℕ → Type 0
IsFirstNewline xs place = MatchOption place (NoneBelow xs (length xs)) (λ k. (k < length xs) × (slice_index xs k ≡ 10) × NoneBelow xs k)

-- The first newline of the bytes stands at this place, and where it is told to be free of the mark, no byte before it is that.
pub record IsLineEnd (xs : List ℕ) (mark place : ℕ) (is_free : Bool) : Type 0 where
  pub within : place < length xs
  pub newline : slice_index xs place ≡ 10
  pub line : All (λ x. x ≢ 10) (take place xs)
  pub free : IsTrue is_free → All (λ x. x ≢ mark) (take place xs)

-- of so many bytes, fewer than one read gives stand behind the newline at this place
abbrev pub IsNear : ℕ → Option ℕ → Type 0
IsNear count place = IfSome place (λ k. count ≤ k + most_read)

-- the line, its number and what was given stay
pub record Stays (old new : LineReader) : Type 0 where
  pub line : new.line ≡ old.line
  pub number : new.number ≡ old.number
  pub passed : new.passed ≡ old.passed

-- a line was given
pub record GivesLine (old new : LineReader) : Type 0 where
  pub whole : All (λ x. x ≢ 10) new.line
  pub short : length new.line ≤ max_line
  pub number : new.number ≡ old.number + 1
  pub passed : new.passed ≡ old.passed + length new.line + 1
  pub goes_on : new.stop ≡ None
  pub bound : new.passed ≤ max_input

-- Below, p bytes of the stream were given before, and xs are still to come. The first 2^40 bytes of the stream count.

-- the stream ends within a line
abbrev pub IsTorn : ℕ → List ℕ → Type 0
IsTorn p xs = (0 < length xs) × (length xs ≤ max_line) × (p + length xs < max_input) × NoneBelow xs (length xs)

-- the next line has more bytes than a line may have
abbrev pub IsTooLong : ℕ → List ℕ → Type 0
IsTooLong p xs = (max_line < length xs) × (p + max_line < max_input) × NoneBelow xs (max_line + 1)

-- all bytes that count are taken, and no whole line of them is left
abbrev pub IsInputTooLong : ℕ → List ℕ → Type 0
IsInputTooLong p xs = (max_input ≤ p + length xs) × (max_input ≤ p + max_line) × NoneBelow xs (max_input - p)

-- What a call came to, by what was still to come before it and after it.
abbrev pub Reads : LineReader → LineReader → Option (List ℕ) → Option (List ℕ) → LineRead → Type 0
Reads old new before after Line = GivesLine old new × Consumes before after (new.line ++ 10 ∷ [])
Reads old new before after End = Stays old new × Keeps before after × (new.stop ≡ None) × IsAtEnd before × (old.passed < max_input)
Reads old new before after Torn = Stays old new × Keeps before after × (new.stop ≡ Some Torn) × IfSome before (IsTorn old.passed)
Reads old new before after TooLong = Stays old new × Keeps before after × (new.stop ≡ Some TooLong) × IfSome before (IsTooLong old.passed)
Reads old new before after InputTooLong = Stays old new × Keeps before after × (new.stop ≡ Some InputTooLong) × IfSome before (IsInputTooLong old.passed)
Reads old new before after SourceFault = Stays old new × Keeps before after × (new.stop ≡ None)
Reads old new before after Memory = Stays old new × Keeps before after × (new.stop ≡ None)

-- neither the source failed nor memory ran out
abbrev pub IsAnswer : LineRead → Type 0
IsAnswer SourceFault = ⊥
IsAnswer Memory = ⊥
IsAnswer _ = Unit {0}

-- Two answers to what is still to come are one, and so are their lines.
abbrev pub OneAnswer : Type 0
OneAnswer = (old new other : LineReader) (xs : List ℕ) (after left : Option (List ℕ)) (a b : LineRead) → IsAnswer a → IsAnswer b →
    Reads old new (Some xs) after a → Reads old other (Some xs) left b → (a ≡ b) × (new.line ≡ other.line)

-- The next answer is known without a read: the reader stopped, holds a newline or more than a line may have, or took all that counts.
abbrev pub HoldsAnswer : LineReader → Type 0
HoldsAnswer r = IsSome r.stop ⊎ (Contains r.held 10 ⊎ ((max_line < length r.held) ⊎ (r.passed + length r.held ≡ max_input)))

-- an answer from what the reader holds
abbrev pub AnswersHeld : LineReader → LineReader → LineRead → Type 0
AnswersHeld old new Line = GivesLine old new × (old.held ≡ new.line ++ 10 ∷ new.held)
AnswersHeld old new TooLong = (new ≡ record old { stop = Some TooLong }) × (max_line < length old.held) × (old.passed + max_line < max_input) × NoneBelow old.held (max_line + 1)
AnswersHeld old new InputTooLong = (new ≡ record old { stop = Some InputTooLong }) × (length old.held ≤ max_line) × (old.passed + length old.held ≡ max_input) × NoneBelow old.held (length old.held)
AnswersHeld old new _ = ⊥

-- no whole line is held, and there is room for more
pub record Wants (r : LineReader) : Type 0 where
  pub none : NoneBelow r.held (length r.held)
  pub short : length r.held ≤ max_line
  pub within : r.passed + length r.held < max_input

-- what one read of the source did, by what the reader held and what was still to come, before and after
abbrev pub Fills : List ℕ → List ℕ → Option (List ℕ) → Option (List ℕ) → Filled → Type 0
Fills old new before after filled.More = Keeps before after × ((chunk : List ℕ) × (0 < length chunk) × (new ≡ old ++ chunk))
Fills old new before after filled.End = Keeps before after × (new ≡ old)
Fills old new before after filled.Fault = Keeps before after × (new ≡ old)
Fills old new before after filled.Memory = Keeps before after × (new ≡ old)

-- the same, of the buffer's bytes
abbrev pub ReadsOn : List ℕ → List ℕ → Option (List ℕ) → Option (List ℕ) → Filled → Type 0
ReadsOn old new before after filled.More = (chunk : List ℕ) × (0 < length chunk) × (new ≡ old ++ chunk) × Consumes before after chunk
ReadsOn old new before after filled.End = (new ≡ old) × Keeps before after × IsAtEnd after
ReadsOn old new before after filled.Fault = (new ≡ old) × Keeps before after
ReadsOn old new before after filled.Memory = (new ≡ old) × Keeps before after
