-- What was read of pieces, damaged inside or not, and what a merge gave of it.
use Rattle.std.specs.Prelude.{◌≡◌, ◌⊎◌, ℕ, ◌+◌, ◌^◌, ◌<◌, ◌≤◌, Bool, IsTrue, List, [], ◌∷◌, ◌++◌, Option, None, Some, length, take, drop, Contains}
use Rattle.std.specs.List.{AllZip, flat_map}
use Rattle.pb_wire.specs.declared.payload.PayloadType.{PayloadType}
use Rattle.disk_model.specs.Files.{Name}
use Rattle.series_model.specs.declared.sample.Sample.{Sample}
use Rattle.series_model.specs.declared.sample.Query.{Query}
use Rattle.series_model.specs.Series.{taken, taken_from}
use Rattle.series_model.specs.Retrieval.{answer}
use Rattle.pb_messages.specs.declared.info.PayloadInfo.{PayloadInfo}
use Rattle.pb_lines.specs.File.{IsFile}
use Rattle.pb_file.specs.Walk.{Front, behind}
use Rattle.pb_file.specs.Search.{IsLineStart}
use Rattle.pb_file.specs.Skip.{HasSkipped, from_place}
use Rattle.stream_merge.specs.declared.pieces.Merged.{Merged}
use Rattle.stream_merge.specs.declared.pieces.Merged.TheVariants.{Line, End}
use Rattle.stream_merge.specs.declared.source.OpenPiece.{OpenPiece}
use Rattle.stream_merge.specs.declared.source.SampleSource.{SampleSource}
use Rattle.stream_merge.specs.declared.merge.Merge.{Merge}
use Rattle.stream_merge.specs.Pieces.{NamedBytes}
use Rattle.stream_merge.specs.Reading.{IsReadAs}
use Rattle.stream_merge.specs.Source.{BeginsAs, IsReady, open_pieces, unread_in}
use Rattle.stream_merge.specs.Merging.{kept_of}

-- OF ONE PIECE

-- The bytes begin with a header of the type. From a place on where a line begins, up to another one, they are the lines of these samples,
-- which are of the header's year and rise.
pub record IsReadUpTo (ty : PayloadType) (bytes : List ℕ) (samples : List Sample) (to : ℕ) : Type 0 where
  pub head : List ℕ
  pub rest : List ℕ
  pub info : PayloadInfo
  pub start : ℕ
  pub text : bytes ≡ head ++ 10 ∷ rest
  pub type : info.ty ≡ ty
  pub begins : IsLineStart bytes (length head + 1) start
  pub order : start ≤ to
  pub within : to ≤ length bytes
  pub lines : IsFile (from_place head start (take to bytes)) head info samples

-- so it is up to the end of the bytes
abbrev pub IsReadToEnd : PayloadType → List ℕ → List Sample → Type 0
IsReadToEnd ty bytes samples = IsReadUpTo ty bytes samples (length bytes)

abbrev pub AreReadToEnd : PayloadType → List NamedBytes → List (List Sample) → Type 0
AreReadToEnd ty pieces lists = AllZip (λ p samples. IsReadToEnd ty p.bytes samples) pieces lists

-- of one piece these were read up to some place; of none nothing was
abbrev pub LastIsRead : PayloadType → List NamedBytes → List Sample → Type 0
LastIsRead ty [] samples = samples ≡ []
LastIsRead ty (p ∷ []) samples = (to : ℕ) × IsReadUpTo ty p.bytes samples to
LastIsRead ty (p ∷ q ∷ more) samples = ⊥

-- THE ANSWER OVER WHAT WAS READ

-- Of pieces and a tail these samples were read: all but the last piece to its end, of the last one some, and the first ones of the tail.
pub record AreRead (ty : PayloadType) (pieces : List NamedBytes) (tail read : List Sample) : Type 0 where
  pub done : List NamedBytes
  pub last : List NamedBytes
  pub lists : List (List Sample)
  pub here : List Sample
  pub front : List Sample
  pub behind_it : List Sample
  pub are : pieces ≡ done ++ last
  pub to_end : AreReadToEnd ty done lists
  pub last_is : LastIsRead ty last here
  pub of_tail : tail ≡ front ++ behind_it
  pub all : read ≡ flat_map (λ (l : List Sample). l) lists ++ (here ++ front)

-- a sample that was read is behind the interval
pub record IsBehind (query : Query) (read : List Sample) : Type 0 where
  pub sample : Sample
  pub among : Contains read sample
  pub from : query.from ≤ sample.t
  pub to : query.to < sample.t

-- These samples are the answer over what was read of the pieces that were opened and of the tail, one after another, each list over those
-- before it, and so many pieces are left: that is all of each piece from where its reading began, with none left, and all of the tail, or as
-- much as there is up to a sample behind the interval.
pub record AnswersRead (ty : PayloadType) (query : Query) (pieces : List NamedBytes) (left : ℕ) (tail given : List Sample) : Type 0 where
  pub read : List Sample
  pub are : AreRead ty pieces tail read
  pub ends : ((left ≡ 0) × (are.last ≡ []) × (are.behind_it ≡ [])) ⊎ IsBehind query read
  pub is : given ≡ answer (taken read) query

-- SO FAR

module _ {R : Type 0} (bytes : R → List ℕ) where
  -- these were read of an open piece since its reading began, where a line begins
  pub record HasReadOf (ty : PayloadType) (p : OpenPiece R) (samples : List Sample) : Type 0 where
    pub at : ℕ
    pub front : Front
    pub rest : List ℕ
    pub skipped : HasSkipped p.walk (bytes p.reader) at front
    pub text : take p.walk.len (bytes p.reader) ≡ front.head ++ 10 ∷ rest
    pub long : p.walk.len ≤ length (bytes p.reader)
    pub type : front.info.ty ≡ ty
    pub begins : IsLineStart (take p.walk.len (bytes p.reader)) (length front.head + 1) at
    pub are : front.samples ≡ samples

  abbrev pub HasReadOpen : PayloadType → Option (OpenPiece R) → List Sample → Type 0
  HasReadOpen ty None samples = samples ≡ []
  HasReadOpen ty (Some p) samples = HasReadOf ty p samples

  -- A piece of this length was opened, and nothing was read of it since its reading began, where its samples begin to count.
  pub record OpensAt (tells : Bool) (ty : PayloadType) (n : ℕ) (query : Query) (name : Name) (len : ℕ) (reader : R) (p : OpenPiece R) : Type 0 where
    pub ready : IsReady tells bytes ty (Some p)
    pub pieces : IsTrue tells → open_pieces bytes (Some p) ≡ record { name = name; bytes = take len (bytes reader) } ∷ []
    pub lines : IsTrue tells → (xs : List Sample) → IsReadAs ty (take len (bytes reader)) xs → BeginsAs bytes n query p xs
    pub unread : IsTrue tells → HasReadOpen ty (Some p) []
    pub small : unread_in (Some p) < 2 ^ 64

  -- what a read of the open piece's next line came to, where these were read before
  abbrev pub ReadsNext : PayloadType → Option (OpenPiece R) → Option (OpenPiece R) → List Sample → List ℕ → Merged R → Type 0
  ReadsNext ty old new samples line (Line t) = HasReadOpen ty new (samples ++ record { t = t; line = line } ∷ [])
  ReadsNext ty old new samples line End = (lists : List (List Sample)) × AreReadToEnd ty (open_pieces bytes old) lists × (samples ≡ flat_map (λ (l : List Sample). l) lists)
  ReadsNext ty old new samples line _ = Unit {0}

  -- Of these pieces, the last of which is open or none is, and of the tail these samples were read; so many pieces are left. The tail comes
  -- behind all of them.
  pub record HasRead (s : SampleSource R) (left : ℕ) (pieces : List NamedBytes) (read : List Sample) : Type 0 where
    pub done : List NamedBytes
    pub lists : List (List Sample)
    pub here : List Sample
    pub to_end : AreReadToEnd s.ty done lists
    pub open_is : HasReadOpen s.ty s.piece here
    pub are : pieces ≡ done ++ open_pieces bytes s.piece
    pub all : read ≡ flat_map (λ (l : List Sample). l) lists ++ (here ++ take s.at s.tail.items)
    pub order : (s.at ≡ 0) ⊎ ((left ≡ 0) × (s.piece ≡ None))

  -- nothing is left to be read
  pub record HasReadAll (s : SampleSource R) (left : ℕ) : Type 0 where
    pub no_piece : left ≡ 0
    pub none_open : s.piece ≡ None
    pub tail : drop s.at s.tail.items ≡ []

  module _ {P : Type 0} (opened : P → List NamedBytes → P → Type 0) (old : P) (pieces : List NamedBytes) (new : P) (left : ℕ) where
    -- some more pieces were opened, and with these all that was read is this
    pub record ReadsOn (s : SampleSource R) (read : List Sample) : Type 0 where
      pub more : List NamedBytes
      pub were : opened old more new
      pub has : HasRead s left (pieces ++ more) read

    -- what a read of the next line came to, where these were read before
    abbrev pub PullsNext : List Sample → SampleSource R → List ℕ → Merged R → Type 0
    PullsNext read s line (Line t) = ReadsOn s (read ++ record { t = t; line = line } ∷ [])
    PullsNext read s line End = ReadsOn s read × HasReadAll s left
    PullsNext read s line _ = Unit {0}

  -- These were given of what was read of these pieces and of the tail. Whatever is read then, and that is nothing where all is read, the
  -- answer goes on behind what was given with what is kept and what is later than all that was read.
  pub record HasGiven (m : Merge R) (left : ℕ) (pieces : List NamedBytes) (given : List Sample) : Type 0 where
    pub read : List Sample
    pub has : HasRead m.source left pieces read
    pub kept : (t : ℕ) → m.kept ≡ Some t → (s : Sample) × Contains read s × (s.t ≡ t)
    pub so : (more : List Sample) → (HasReadAll m.source left → more ≡ []) → answer (taken (read ++ more)) m.query ≡ given ++ answer (kept_of m.kept m.kept_line.items ++ taken_from (behind m.last) more) m.query

  module _ {P : Type 0} (opened : P → List NamedBytes → P → Type 0) (old : P) (pieces : List NamedBytes) (new : P) (left : ℕ) where
    -- some more pieces were opened, and with these all that was given is this
    pub record GivesMore (m : Merge R) (given : List Sample) : Type 0 where
      pub more : List NamedBytes
      pub were : opened old more new
      pub has : HasGiven m left (pieces ++ more) given

    -- what a call came to, where these were given before: one more, or they are the answer over what was read
    abbrev pub GivesNext : PayloadType → Query → List Sample → List Sample → Merge R → List ℕ → Merged R → Type 0
    GivesNext ty query tail given m line (Line t) = GivesMore m (given ++ record { t = t; line = line } ∷ [])
    GivesNext ty query tail given m line End = (more : List NamedBytes) × opened old more new × AnswersRead ty query (pieces ++ more) left tail given
    GivesNext ty query tail given m line _ = Unit {0}
