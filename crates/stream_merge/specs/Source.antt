-- The samples that are yet to be read: of the open piece, of the pieces behind it, and of the tail. And what a call that reads the next
-- one comes to.
use Rattle.std.specs.Prelude.{◌≡◌, ◌⊎◌, ℕ, ◌+◌, ◌-◌, ◌*◌, ◌^◌, ◌≤◌, ◌<◌, Bool, List, [], ◌∷◌, ◌++◌, Option, None, Some, IsTrue, length, take, drop}
use Rattle.std.specs.List.{flat_map}
use Rattle.pb_wire.specs.declared.payload.PayloadType.{PayloadType}
use Rattle.disk_model.specs.Files.{Name, Rose}
use Rattle.std.specs.Int.Digits.{digits_of}
use Rattle.series_model.specs.declared.sample.Sample.{Sample}
use Rattle.series_model.specs.declared.sample.Query.{Query}
use Rattle.pb_messages.specs.declared.info.PayloadInfo.{PayloadInfo}
use Rattle.pb_file.specs.declared.walk.Walked.{Walked}
use Rattle.pb_file.specs.declared.walk.Walked.TheVariants as walked
use Rattle.pb_lines.specs.File.{IsFile}
use Rattle.pb_file.specs.Walk.{Walk, Front, HoldsSample}
use Rattle.pb_file.specs.Search.{IsLineStart, MayBegin}
use Rattle.pb_file.specs.Skip.{HasSkipped, from_place}
use Rattle.stream_merge.specs.declared.pieces.Merged.{Merged}
use Rattle.stream_merge.specs.declared.pieces.Merged.TheVariants.{Line, End, ReadFault, Damaged, Spent, Memory}
use Rattle.stream_merge.specs.declared.source.OpenPiece.{OpenPiece}
use Rattle.stream_merge.specs.declared.source.SampleSource.{SampleSource}
use Rattle.stream_merge.specs.Pieces.{NamedBytes, Failure, Faulted, OutOfActs, OutOfMemory}
use Rattle.stream_merge.specs.Reading.{AreReadAs, IsBadFor, IsDamaged, IsSampleOf}
use Rattle.stream_merge.specs.Beginning.{early_count, IsAtLine, IsPlaced, AnswersAs}

-- THE OPEN PIECE

-- The bytes begin with the header's line. The walk went on at a place from which a reading may begin, and since then has read samples.
pub record HasBegun (w : Walk) (bytes : List ℕ) : Type 0 where
  pub at : ℕ
  pub front : Front
  pub rest : List ℕ
  pub skipped : HasSkipped w bytes at front
  pub text : take w.len bytes ≡ front.head ++ 10 ∷ rest
  pub begins : IsLineStart (take w.len bytes) (length front.head + 1) at
  pub from : MayBegin front.info (take w.len bytes) (length front.head + 1) at

-- The header was read, which is of the type, and the walk goes on. The reader has the bytes of the piece.
pub record IsBegun {R : Type 0} (tells : Bool) (bytes : R → List ℕ) (ty : PayloadType) (p : OpenPiece R) : Type 0 where
  pub going : p.walk.stop ≡ None
  pub info : PayloadInfo
  pub header : p.walk.info ≡ Some info
  pub type : info.ty ≡ ty
  pub within : p.walk.place ≤ p.walk.len
  pub bytes_are : IsTrue tells → p.walk.len ≤ length (bytes p.reader)
  pub walked : IsTrue tells → HasBegun p.walk (bytes p.reader)

-- the next line may be read: a piece that is open has begun
abbrev pub IsReady : {R : Type 0} → Bool → (R → List ℕ) → PayloadType → Option (OpenPiece R) → Type 0
IsReady {R} tells bytes ty None = Unit {0}
IsReady {R} tells bytes ty (Some p) = IsBegun tells bytes ty p

-- the open piece, if one is
abbrev pub open_pieces : {R : Type 0} → (R → List ℕ) → Option (OpenPiece R) → List NamedBytes
open_pieces {R} bytes None = []
open_pieces {R} bytes (Some p) = record { name = p.name; bytes = take p.walk.len (bytes p.reader) } ∷ []

-- The header's line and the bytes from the place on where the walk went on are a file, of the samples that were read since then and of
-- these.
pub record GoesOnAs {R : Type 0} (bytes : R → List ℕ) (p : OpenPiece R) (xs : List Sample) : Type 0 where
  pub at : ℕ
  pub front : Front
  pub skipped : HasSkipped p.walk (bytes p.reader) at front
  pub file : IsFile (from_place front.head at (take p.walk.len (bytes p.reader))) front.head front.info (front.samples ++ xs)

-- what the open piece may have yet to give
abbrev pub IsOpenAs : {R : Type 0} → (R → List ℕ) → Option (OpenPiece R) → List Sample → Type 0
IsOpenAs {R} bytes None xs = xs ≡ []
IsOpenAs {R} bytes (Some p) xs = GoesOnAs bytes p xs

-- what a read of the open piece's next line came to, where these were to come
abbrev pub ReadsOpen : {R : Type 0} → (R → List ℕ) → Option (OpenPiece R) → List Sample → List ℕ → Merged R → Type 0
ReadsOpen {R} bytes piece xs line (Line t) = (rest : List Sample) × (xs ≡ record { t = t; line = line } ∷ rest) × IsOpenAs bytes piece rest
ReadsOpen {R} bytes piece xs line End = xs ≡ []
ReadsOpen {R} bytes piece xs line _ = Unit {0}

-- the walk of the open piece has this sample in memory, which comes next
abbrev pub HoldsIn : {R : Type 0} → Option (OpenPiece R) → ℕ → List ℕ → Type 0
HoldsIn {R} None t line = ⊥
HoldsIn {R} (Some p) t line = HoldsSample p.walk t line

-- the open piece, whose walk went on behind a sample at this moment, of a line of this length
abbrev pub passed : {R : Type 0} → Option (OpenPiece R) → ℕ → ℕ → Option (OpenPiece R)
passed {R} None t len = None
passed {R} (Some p) t len = Some (record p { walk = record p.walk { place = p.walk.place + len + 1; earliest = t + 1 } })

-- ALL THAT IS TO COME

-- what may be yet to be read: these pieces are left behind the open one
pub record Coming {R : Type 0} (bytes : R → List ℕ) (s : SampleSource R) (left : List NamedBytes) (xs : List Sample) : Type 0 where
  pub here : List Sample
  pub lists : List (List Sample)
  pub begins : IsOpenAs bytes s.piece here
  pub are_left : AreReadAs s.ty left lists
  pub all : xs ≡ here ++ (flat_map (λ (l : List Sample). l) lists ++ drop s.at s.tail.items)

-- some of the pieces are left, and behind what was read these samples may come
pub record StillComing {R : Type 0} (bytes : R → List ℕ) (left : List NamedBytes → Type 0) (s : SampleSource R) (xs : List Sample) : Type 0 where
  pub pieces : List NamedBytes
  pub left_is : left pieces
  pub coming : Coming bytes s pieces xs

-- WHERE A PIECE BEGINS

-- of a file of these samples the piece gives those that count, whatever comes behind it
pub record BeginsAs {R : Type 0} (bytes : R → List ℕ) (n : ℕ) (q : Query) (p : OpenPiece R) (xs : List Sample) : Type 0 where
  pub here : List Sample
  pub gives : GoesOnAs bytes p here
  pub placed : IsPlaced n q.from here
  pub same : (more : List Sample) → AnswersAs n q (xs ++ more) (here ++ more)

-- THE STEPS

-- a bound on the steps that it takes to find where pieces begin: 4 * d + 8 for each, d being the number of binary digits of its length
abbrev pub search_steps : List NamedBytes → ℕ
search_steps [] = 0
search_steps (p ∷ ps) = 4 * length (digits_of 2 (length p.bytes)) + 8 + search_steps ps

-- The first of the pieces were opened, and these are left. The steps are no more than the room and what it takes to open those.
pub record HasTaken (pieces left : List NamedBytes) (room steps : ℕ) : Type 0 where
  pub opened : List NamedBytes
  pub are : pieces ≡ opened ++ left
  pub few : steps ≤ room + search_steps opened

-- so it is for the pieces that are left
pub record TakesFew (left : List NamedBytes → Type 0) (pieces : List NamedBytes) (room steps : ℕ) : Type 0 where
  pub rest : List NamedBytes
  pub left_is : left rest
  pub taken : HasTaken pieces rest room steps

-- A line was read, where these were to come. A step is counted beside the room, but not for a sample that isn't from n on, or is earlier
-- than the interval.
pub record PullsLine {R : Type 0} (bytes : R → List ℕ) (left : List NamedBytes → Type 0) (n : ℕ) (q : Query) (pieces : List NamedBytes) (xs : List Sample) (room : ℕ) (s : SampleSource R) (sample : Sample) (steps : ℕ) : Type 0 where
  pub rest : List Sample
  pub same : AnswersAs n q xs (sample ∷ rest)
  pub still : StillComing bytes left s rest
  pub placed : IsPlaced n q.from still.coming.here
  pub later : IsPlaced (sample.t + 1) q.from still.coming.here
  pub taken : HasTaken pieces still.pieces (room + 1) (steps + early_count q.from still.coming.here)
  pub free : (sample.t < n) ⊎ (sample.t < q.from) → HasTaken pieces still.pieces room (steps + early_count q.from still.coming.here)

-- none was left, where these were to come
pub record PullsEnd {R : Type 0} (bytes : R → List ℕ) (left : List NamedBytes → Type 0) (n : ℕ) (q : Query) (pieces : List NamedBytes) (xs : List Sample) (room : ℕ) (s : SampleSource R) (steps : ℕ) : Type 0 where
  pub same : AnswersAs n q xs []
  pub still : StillComing bytes left s []
  pub placed : IsPlaced n q.from still.coming.here
  pub taken : HasTaken pieces still.pieces room (steps + early_count q.from still.coming.here)

-- what a read of the next line came to, where these were to come
abbrev pub Pulls : {R : Type 0} → (R → List ℕ) → (List NamedBytes → Type 0) → ℕ → Query → List NamedBytes → List Sample → ℕ → SampleSource R → List ℕ → ℕ → Merged R → Type 0
Pulls {R} bytes left n q pieces xs room s line steps (Line t) = PullsLine bytes left n q pieces xs room s (record { t = t; line = line }) steps
Pulls {R} bytes left n q pieces xs room s line steps End = PullsEnd bytes left n q pieces xs room s steps
Pulls {R} bytes left n q pieces xs room s line steps _ = TakesFew left pieces (room + 1) steps

-- WHICH PIECES ARE DONE WITH

-- of the pieces, the open one and those that were left, the first ones are done with
pub record Passes {R : Type 0} (bytes : R → List ℕ) (left : List NamedBytes → Type 0) (pieces : List NamedBytes) (piece : Option (OpenPiece R)) : Type 0 where
  pub passed : List NamedBytes
  pub rest : List NamedBytes
  pub left_is : left rest
  pub are : pieces ≡ passed ++ (open_pieces bytes piece ++ rest)

-- what became of the pieces, where no call failed
abbrev pub OpensOn : {R : Type 0} → (R → List ℕ) → (List NamedBytes → Type 0) → Option (OpenPiece R) → Option (OpenPiece R) → List NamedBytes → Merged R → Type 0
OpensOn {R} bytes left old new pieces (Line t) = Passes bytes left (open_pieces bytes old ++ pieces) new
OpensOn {R} bytes left old new pieces End = Passes bytes left (open_pieces bytes old ++ pieces) new
OpensOn {R} bytes left old new pieces _ = Unit {0}

-- WHAT WAS OPENED

-- some pieces were opened, with no failure
abbrev pub HasOpened : {P : Type 0} → (P → List NamedBytes → P → Type 0) → P → P → Type 0
HasOpened {P} opened old new = (pieces : List NamedBytes) × opened old pieces new

-- so it is, and of these pieces and the one that was open the last is open now, or none is
pub record GoesOn {P R : Type 0} (tells : Bool) (bytes : R → List ℕ) (opened : P → List NamedBytes → P → Type 0) (old : P) (piece : Option (OpenPiece R)) (new : P) (now : Option (OpenPiece R)) : Type 0 where
  pub pieces : List NamedBytes
  pub were : opened old pieces new
  pub are : IsTrue tells → (passed : List NamedBytes) × (open_pieces bytes piece ++ pieces ≡ passed ++ open_pieces bytes now)

-- some pieces were opened, and of these and the one that was open one is damaged
pub record FindsDamage {P R : Type 0} (tells : Bool) (bytes : R → List ℕ) (opened : P → List NamedBytes → P → Type 0) (ty : PayloadType) (old : P) (piece : Option (OpenPiece R)) (new : P) (name : Name) (at : ℕ) : Type 0 where
  pub pieces : List NamedBytes
  pub were : opened old pieces new
  pub damaged : IsTrue tells → IsDamaged ty (open_pieces bytes piece ++ pieces) name at

-- what a call did to the pieces
abbrev pub Went : {P R : Type 0} → Bool → (R → List ℕ) → (P → List NamedBytes → P → Type 0) → (P → Failure → P → Type 0) → PayloadType → P → Option (OpenPiece R) → Merged R → P → Option (OpenPiece R) → Type 0
Went {P} {R} tells bytes opened failed ty old piece (Line t) new now = GoesOn tells bytes opened old piece new now
Went {P} {R} tells bytes opened failed ty old piece End new now = GoesOn tells bytes opened old piece new now
Went {P} {R} tells bytes opened failed ty old piece (ReadFault (Some r)) new now = HasOpened opened old new
Went {P} {R} tells bytes opened failed ty old piece (ReadFault None) new now = failed old Faulted new
Went {P} {R} tells bytes opened failed ty old piece (Damaged name at) new now = FindsDamage tells bytes opened ty old piece new name at
Went {P} {R} tells bytes opened failed ty old piece Spent new now = failed old OutOfActs new
Went {P} {R} tells bytes opened failed ty old piece Memory new now = HasOpened opened old new ⊎ failed old OutOfMemory new

-- FAILURES

-- a line or the end
abbrev pub IsGiven : {R : Type 0} → Merged R → Type 0
IsGiven {R} (Line t) = Unit {0}
IsGiven {R} End = Unit {0}
IsGiven {R} _ = ⊥

-- a line, the end, or want of memory
abbrev pub IsOfTail : {R : Type 0} → Merged R → Type 0
IsOfTail {R} (Line t) = Unit {0}
IsOfTail {R} End = Unit {0}
IsOfTail {R} Memory = Unit {0}
IsOfTail {R} _ = ⊥

-- no line was read
abbrev pub IsStop : Walked → Type 0
IsStop walked.Header = ⊥
IsStop (walked.Sample t) = ⊥
IsStop _ = Unit {0}

-- what a piece's end or failure is told as: a fault with its reader, a bad line with its name
abbrev pub ClosesAs : {R : Type 0} → OpenPiece R → Walked → Merged R → Type 0
ClosesAs {R} p walked.End r = r ≡ End
ClosesAs {R} p walked.ReadFault r = r ≡ ReadFault (Some p.reader)
ClosesAs {R} p (walked.Damaged at) r = r ≡ Damaged p.name at
ClosesAs {R} p walked.Memory r = r ≡ Memory
ClosesAs {R} p _ r = ⊥

-- a reader that was opened in this call has failed in it
abbrev pub HasFailedNow : {R : Type 0} → (R → ℕ) → Option R → Type 0
HasFailedNow {R} faults None = ⊥
HasFailedNow {R} faults (Some r) = Rose 0 (faults r)

-- the reader is that of the piece that was open, and has failed since
abbrev pub HasRisen : {R : Type 0} → (R → ℕ) → Option (OpenPiece R) → Option R → Type 0
HasRisen {R} faults (Some p) (Some r) = Rose (faults p.reader) (faults r)
HasRisen {R} faults _ _ = ⊥

-- What failed has failed in this call: a reader whose count rose, from 0 where a piece was opened; or none, where the count of the
-- pieces rose.
abbrev pub HasFailed : {R : Type 0} → (R → ℕ) → Option (OpenPiece R) → Type 0 → Type 0 → Option R → Type 0
HasFailed {R} faults piece opened risen None = risen
HasFailed {R} faults piece opened risen (Some r) = (opened × HasFailedNow faults (Some r)) ⊎ HasRisen faults piece (Some r)

-- the piece that is open was open before, and its reader's count is no less
abbrev pub Grew : {R : Type 0} → (R → ℕ) → Option (OpenPiece R) → Option (OpenPiece R) → Type 0
Grew {R} faults (Some p) (Some q) = faults p.reader ≤ faults q.reader
Grew {R} faults None (Some q) = ⊥
Grew {R} faults _ None = Unit {0}

-- HOW MUCH IS LEFT

-- how many bytes of the open piece aren't read
abbrev pub unread_in : {R : Type 0} → Option (OpenPiece R) → ℕ
unread_in {R} None = 0
unread_in {R} (Some p) = p.walk.len - p.walk.place

-- so many pieces are left: a piece counts more than its bytes
abbrev pub unread : {R : Type 0} → ℕ → SampleSource R → ℕ
unread {R} count s = count * 2 ^ 64 + unread_in s.piece + length (drop s.at s.tail.items)

-- WHAT A CALL CAME TO

module _ {R : Type 0} (tells : Bool) (bytes : R → List ℕ) where
  -- A piece of this length was begun, with its header's line. The reader has the bytes that it had.
  pub record BeginsPiece (ty : PayloadType) (name : Name) (len : ℕ) (reader : R) (p : OpenPiece R) : Type 0 where
    pub ready : IsReady tells bytes ty (Some p)
    pub pieces : IsTrue tells → open_pieces bytes (Some p) ≡ record { name = name; bytes = take len (bytes reader) } ∷ []
    pub begun : IsTrue tells → IsAtLine p.walk.place p.walk (bytes reader)
    pub same : (p.walk.len ≡ len) × (p.name ≡ name)
    pub bytes_stay : IsTrue tells → bytes p.reader ≡ bytes reader
    pub small : unread_in (Some p) < 2 ^ 64

  module _ (faults : R → ℕ) where
    -- why a piece wasn't opened: its reader failed, it is damaged here, or memory ran out
    abbrev pub RefusesAs : PayloadType → Name → ℕ → R → Merged R → Type 0
    RefusesAs ty name len reader (ReadFault failed) = HasFailedNow faults failed
    RefusesAs ty name len reader (Damaged found at) = IsTrue tells → (found ≡ name) × IsBadFor ty (take len (bytes reader)) at
    RefusesAs ty name len reader Memory = Unit {0}
    RefusesAs ty name len reader _ = ⊥

    -- the next line of the open piece was read, which is the same piece still
    pub record ReadsLine (ty : PayloadType) (old new : Option (OpenPiece R)) (sample : Sample) : Type 0 where
      pub ready : IsReady tells bytes ty new
      pub event : IsSampleOf ty sample
      pub stays : IsTrue tells → open_pieces bytes new ≡ open_pieces bytes old
      pub grew : Grew faults old new
      pub smaller : unread_in new < unread_in old

    -- what a read of the open piece's next line came to: the line, the piece's end, or why there is none
    abbrev pub CameOfOpen : PayloadType → Option (OpenPiece R) → Option (OpenPiece R) → List ℕ → Merged R → Type 0
    CameOfOpen ty old new line (Line t) = ReadsLine ty old new (record { t = t; line = line })
    CameOfOpen ty old new line End = new ≡ None
    CameOfOpen ty old new line (ReadFault failed) = HasRisen faults old failed
    CameOfOpen ty old new line (Damaged name at) = IsTrue tells → IsDamaged ty (open_pieces bytes old) name at
    CameOfOpen ty old new line Spent = ⊥
    CameOfOpen ty old new line Memory = Unit {0}

    -- Why there is no line: a reader or an opening failed in this call, the open piece or one of those that were left is damaged, or the acts
    -- are spent. So are told: that a piece was opened in it, that the count of the pieces rose, and that the acts are spent.
    abbrev pub StopsAs : PayloadType → Option (OpenPiece R) → (List NamedBytes → Type 0) → Type 0 → Type 0 → Type 0 → Merged R → Type 0
    StopsAs ty piece left opened risen spent (ReadFault failed) = HasFailed faults piece opened risen failed
    StopsAs ty piece left opened risen spent (Damaged name at) = IsTrue tells → (ps : List NamedBytes) → left ps → IsDamaged ty (open_pieces bytes piece ++ ps) name at
    StopsAs ty piece left opened risen spent Spent = spent
    StopsAs ty piece left opened risen spent _ = Unit {0}

    -- so many pieces were left before the call, and are left now
    module _ (before now : ℕ) where
      -- a line was read
      pub record PullsOne (old new : SampleSource R) (sample : Sample) : Type 0 where
        pub ready : IsReady tells bytes new.ty new.piece
        pub event : IsSampleOf old.ty sample
        pub grew : (now < before) ⊎ Grew faults old.piece new.piece
        pub smaller : unread now new < unread before old

      -- none was left
      pub record PullsNone (old new : SampleSource R) : Type 0 where
        pub ready : IsReady tells bytes new.ty new.piece
        pub no_more : unread now new ≤ unread before old

      abbrev pub CameOfPull : SampleSource R → SampleSource R → List ℕ → Merged R → Type 0
      CameOfPull old new line (Line t) = PullsOne old new (record { t = t; line = line })
      CameOfPull old new line End = PullsNone old new
      CameOfPull old new line _ = Unit {0}
