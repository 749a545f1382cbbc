-- A running move that copies: what stays true of it between its steps, and what one step copies.
use Rattle.std.specs.Prelude.{◌≡◌, ◌≢◌, ◌⊎◌, ◌<◌, ◌≤◌, ◌++◌, ◌+◌, ℕ, zero, suc, Bool, List, [], ◌∷◌, All, Contains, IfOk, IsTrue, OnErr, Result, length, map, take, drop, nat_lt, if◌then◌else◌, Option, None, Some, slice_get}
use Rattle.std.specs.List.{flat_map}
use Rattle.disk_model.specs.Files.{Files, HasFile, Name}
use Rattle.disk_model.specs.Past.{Passes}
use Rattle.disk_model.specs.declared.disk.DiskErr.{DiskErr}
use Rattle.etl_mover.specs.Copying.{last_of}
use Rattle.etl_mover.specs.Move.{Moving, part_file}
use Rattle.etl_mover.specs.Step.{AreFew}
use Rattle.etl_mover.specs.declared.moving.Stage.TheVariants.{Copying}
use Rattle.partition_names.specs.Part.{HoldsMoment}
use Rattle.pb_lines.specs.File.{lines_of}
use Rattle.series_model.specs.Series.{since, end_of}
use Rattle.series_model.specs.declared.sample.Sample.{Sample}
use Rattle.store_manifest.specs.declared.entry.Entry.{Entry}
use Rattle.durable_write.specs.Ends.{End}
use Rattle.durable_write.specs.Flush.{put_all}
use Rattle.durable_write.specs.Held.{Filed, entry_of, file_of, samples_of}
use Rattle.durable_write.specs.Plan.{IsLastOf, of_row}
use Rattle.tier_store.specs.Change.{Costs, Has, HoldsBy, OnlyReads}
use Rattle.tier_store.specs.Copied.{end_after}
use Rattle.tier_store.specs.Finding.{BeginsAt, IsBadPart, IsFrom, IsGoodUpTo, IsNext, IsUpTo, SaysFile, SplitsAt}
use Rattle.tier_store.specs.Moving.{RunsBeside, LeavesNames, LeavesLater}
use Rattle.tier_store.specs.Pinned.{SeenAll, KeepsShown}
use Rattle.tier_store.specs.Retiring.{oldest}
use Rattle.tier_store.specs.Revival.{AreWhole, KeepsWhole, revived}
use Rattle.tier_store.specs.Reviving.{AreBack, free_of, past}
use Rattle.tier_store.specs.Seen.{Seen, granularities}
use Rattle.tier_store.specs.Stores.{Stores, list_at}
use Rattle.tier_store.specs.declared.copying.CopyEnd.{CopyEnd}
use Rattle.tier_store.specs.declared.copying.CopyEnd.TheVariants as ends
use Rattle.tier_store.specs.declared.copying.LineLeft.{LineLeft}
use Rattle.tier_store.specs.declared.copying.NextLine.{NextLine}
use Rattle.tier_store.specs.declared.copying.NextLine.TheVariants as next
use Rattle.tier_store.specs.declared.copying.PartLines.{PartLines}
use Rattle.tier_store.specs.declared.finding.LaterLines.{LaterLines}
use Rattle.tier_store.specs.declared.finding.LaterLines.TheVariants.{At, Damaged}
use Rattle.tier_store.specs.declared.limbo.Retired.{Retired}

-- WHAT IS LEFT TO COPY

-- what the store at a place will hold of the move's row, with all that was copied
abbrev pub samples_ahead : ℕ → Moving → List Filed → Stores → List Sample
samples_ahead i move files held = samples_of move.series (put_all (list_at i held) files)

-- the samples of the first n parts, as the store at a place holds them
abbrev pub samples_of_parts : ℕ → Moving → ℕ → Stores → List Sample
samples_of_parts from move n held = flat_map (λ (f : Filed). f.samples) (oldest from move.series n held)

-- those of them that are later than all of that
abbrev pub left_of : ℕ → Moving → ℕ → List Filed → Stores → List Sample
left_of from move n files held = since (end_of (samples_ahead (from + 1) move files held)) (samples_of_parts from move n held)

-- and of those of all parts what is later than the files in limbo of their partitions
abbrev pub left_to_copy : ℕ → Moving → List Filed → List Filed → Stores → List Sample
left_to_copy from move back files held = past back move.series (left_of from move (length move.parts) files held)

-- BETWEEN STEPS

-- the first line of each part's file is as long as the move knows it
abbrev pub KnowsHeads : ℕ → Moving → Stores → Type 0
KnowsHeads from move held = map (λ (f : Filed). f.entry.head_len) (oldest from move.series (length move.parts) held) ≡ map (λ (e : Entry). e.head_len) move.parts

-- the parts that are copied are listed as long as the move has copied them
abbrev pub KnowsLengths : ℕ → Moving → Stores → Type 0
KnowsLengths from move held = map (λ (f : Filed). f.entry.len) (oldest from move.series move.at held) ≡ map (λ (e : Entry). e.len) (take move.at move.parts)

-- A move from the store at a place to the next copies beside these stores, and parts are left to copy. It knows the last file of its row that
-- is listed there or is to be. Nothing is left of the parts that are copied. What stands is told by the disk.
pub record CopiesBeside (from : ℕ) (tells : Bool) (all : SeenAll) (move : Moving) (files : List Filed) (held : Stores) : Type 0 where
  pub runs : RunsBeside (from + 1) tells all move files held
  pub stage : move.stage ≡ Copying
  pub left : move.at ≢ length move.parts
  pub heads : KnowsHeads from move held
  pub lengths : KnowsLengths from move held
  pub last : IsLastOf (map entry_of (put_all (list_at (from + 1) held) files)) move.series (last_of move.pending move.listed)
  pub passed : IsTrue held.stands → left_of from move move.at files held ≡ []
  pub told : IsTrue held.stands → IsTrue tells

-- the same, but of the parts that are copied some may be left
pub record CopiesFurther (from : ℕ) (tells : Bool) (all : SeenAll) (move : Moving) (files : List Filed) (held : Stores) : Type 0 where
  pub runs : RunsBeside (from + 1) tells all move files held
  pub stage : move.stage ≡ Copying
  pub left : move.at ≢ length move.parts
  pub heads : KnowsHeads from move held
  pub lengths : KnowsLengths from move held
  pub last : IsLastOf (map entry_of (put_all (list_at (from + 1) held) files)) move.series (last_of move.pending move.listed)
  pub told : IsTrue held.stands → IsTrue tells

-- a file begins later than all that the store at a place will hold
abbrev pub IsAllLater : ℕ → Moving → List Filed → Stores → Filed → Type 0
IsAllLater i move files held f = BeginsAt (end_of (samples_ahead i move files held)) f.samples

-- Of the first so many parts all is ahead, and the move knows how long they are listed. Of the others, which files in limbo have, nothing is, and
-- nothing but their headers is copied.
pub record KnowsCopied (from : ℕ) (move : Moving) (files : List Filed) (held : Stores) : Type 0 where
  pub whole : ℕ
  pub most : whole ≤ length move.parts
  pub lengths : map (λ (f : Filed). f.entry.len) (oldest from move.series whole held) ≡ map (λ (e : Entry). e.len) (take whole move.parts)
  pub heads : map (λ (f : Filed). f.entry.head_len) (drop whole (oldest from move.series (length move.parts) held)) ≡ map (λ (e : Entry). e.len) (drop whole move.parts)
  pub none_left : IsTrue held.stands → left_of from move whole files held ≡ []
  pub later : IsTrue held.stands → All (IsAllLater (from + 1) move files held) (drop whole (oldest from move.series (length move.parts) held))

-- all its parts are copied
pub record HasCopiedAll (from : ℕ) (tells : Bool) (all : SeenAll) (move : Moving) (files : List Filed) (held : Stores) : Type 0 where
  pub runs : RunsBeside (from + 1) tells all move files held
  pub stage : move.stage ≡ Copying
  pub all_copied : move.at ≡ length move.parts
  pub parts : KnowsCopied from move files held

-- all its parts were passed: nothing is left of them, wherever limbo stands
pub record HasPassedAll (from : ℕ) (tells : Bool) (all : SeenAll) (move : Moving) (files : List Filed) (held : Stores) : Type 0 where
  pub runs : RunsBeside (from + 1) tells all move files held
  pub stage : move.stage ≡ Copying
  pub all_copied : move.at ≡ length move.parts
  pub lengths : KnowsLengths from move held
  pub none_left : IsTrue held.stands → left_of from move (length move.parts) files held ≡ []

abbrev pub CopiesOrHas : ℕ → Bool → SeenAll → Moving → List Filed → Stores → Type 0
CopiesOrHas from tells all move files held = CopiesBeside from tells all move files held ⊎ HasPassedAll from tells all move files held

-- what may have changed of a move is how long its parts are copied, how many of them are, and what it is to list
pub record MovesOn (old new : Moving) : Type 0 where
  pub is : new ≡ record old { parts = new.parts; at = new.at; pending = new.pending }
  pub long : length new.parts ≡ length old.parts

-- only parts were passed of which nothing was left
pub record PassesParts (old new : Moving) : Type 0 where
  pub is : new ≡ record old { parts = new.parts; at = new.at }
  pub long : length new.parts ≡ length old.parts

-- from the n-th part on, with the headers' lengths
abbrev pub with_heads : ℕ → List Entry → List Entry
with_heads zero parts = map (λ (e : Entry). record e { len = e.head_len }) parts
with_heads (suc n) [] = []
with_heads (suc n) (e ∷ parts) = e ∷ with_heads n parts

-- the parts that were left are passed, of which nothing but the headers is copied
abbrev pub PassesRest : Moving → Moving → Type 0
PassesRest old new = new ≡ record old { parts = with_heads old.at old.parts; at = length old.parts }

-- WHERE A STEP GOES ON

-- this is the file of the part that is copied next
pub record IsNextPart (from : ℕ) (move : Moving) (held : Stores) (q : Filed) : Type 0 where
  pub here : slice_get (of_row move.series (list_at from held)) move.at ≡ Some q
  pub within : Contains (list_at from held) q

-- the place of the first line of the next part that is later than all that is listed of the row or is to be
pub record FindsPart (from : ℕ) (tells : Bool) (files : Files) (move : Moving) (held : Stores) (lines : PartLines) : Type 0 where
  pub file : Filed
  pub next : IsNextPart from move held file
  pub long : file.entry.len ≡ lines.len
  pub named : lines.name ≡ file_of (from + 1, held.rows) file.entry
  pub behind : IsFrom file.entry.head_len lines.later
  pub within : IsUpTo file.entry.len lines.later
  pub splits : IsTrue held.stands → IsNext file.samples (end_after (last_of move.pending move.listed)) file.entry.head_len lines.later
  pub told : IsTrue tells → HasFile files lines.name (λ b. SaysFile file.entry.head_len (take file.entry.len b) lines.later)

-- the line with which a part goes on, of which one is left
abbrev pub of_line : PartLines → LaterLines → NextLine
of_line part (At at) = if nat_lt at part.len then next.Line (record { name = part.name; at = at; len = part.len }) else next.Damaged part.name part.len
of_line part (Damaged at) = next.Damaged part.name at

abbrev pub line_of : PartLines → NextLine
line_of part = of_line part part.later

-- some samples of the next part are later than all that is ahead
abbrev pub HasLater : ℕ → Moving → Stores → Type 0
HasLater from move held = (q : Filed) → IsNextPart from move held q → since (end_after (last_of move.pending move.listed)) q.samples ≢ []

-- a line is left of the next part, and it begins here
pub record FindsLine (from : ℕ) (tells : Bool) (files : Files) (move : Moving) (held : Stores) (name : Name) (at len : ℕ) : Type 0 where
  pub file : Filed
  pub next : IsNextPart from move held file
  pub long : file.entry.len ≡ len
  pub low : at < len
  pub behind : file.entry.head_len ≤ at
  pub named : name ≡ file_of (from + 1, held.rows) file.entry
  pub splits : IsTrue held.stands → SplitsAt file.samples (end_after (last_of move.pending move.listed)) file.entry.head_len at
  pub good : IsTrue tells → HasFile files name (λ b. IsGoodUpTo file.entry.head_len (take file.entry.len b) at)

-- the file of one of the move's parts is told as damaged at a place of it, which comes only where what is held doesn't stand
pub record IsDamaged (from : ℕ) (tells : Bool) (files : Files) (move : Moving) (held : Stores) (name : Name) (at : ℕ) : Type 0 where
  pub file : Filed
  pub part : Contains (oldest from move.series (length move.parts) held) file
  pub named : name ≡ file_of (from + 1, held.rows) file.entry
  pub within : at ≤ file.entry.len
  pub never : IsTrue held.stands → ⊥
  pub bad : IsTrue tells → HasFile files name (λ b. IsBadPart file.entry.head_len (take file.entry.len b) at)

-- the line was found, or something of the part is left
abbrev pub HasLine : ℕ → Bool → Files → Moving → Stores → Option LineLeft → Type 0
HasLine from tells files move held None = IsTrue held.stands → HasLater from move held
HasLine from tells files move held (Some line) = FindsLine from tells files move held line.name line.at line.len

-- such a line is left, or damaged
abbrev pub SaysLine : ℕ → Bool → Files → Moving → Stores → NextLine → Type 0
SaysLine from tells files move held (next.Line line) = FindsLine from tells files move held line.name line.at line.len
SaysLine from tells files move held next.End = ⊥
SaysLine from tells files move held (next.Damaged name at) = IsDamaged from tells files move held name at

abbrev pub SaysNext : ℕ → Bool → SeenAll → Moving → List Filed → Stores → NextLine → Type 0
SaysNext from tells all move files held (next.Line line) = CopiesBeside from tells all move files held × FindsLine from tells all.stores.files move held line.name line.at line.len
SaysNext from tells all move files held next.End = HasPassedAll from tells all move files held
SaysNext from tells all move files held (next.Damaged name at) = IsDamaged from tells all.stores.files move held name at

-- the next part was passed, or it has a line that is left or is damaged
abbrev pub SaysPassed : ℕ → Bool → SeenAll → Moving → List Filed → Stores → Option NextLine → Type 0
SaysPassed from tells all move files held None = CopiesOrHas from tells all move files held
SaysPassed from tells all move files held (Some next) = SaysNext from tells all move files held next

-- files were read, and nothing else was done
pub record OnlyLooks {A E : Type 0} (tells : Bool) (old new : SeenAll) (end : End A E) : Type 0 where
  pub kept : (held : Stores) → Has tells old.stores held → Has tells new.stores held
  pub catalogue : new.stores.catalogue ≡ old.stores.catalogue
  pub manifests : new.stores.manifests ≡ old.stores.manifests
  pub limbo : new.limbo ≡ old.limbo
  pub shown : KeepsShown tells old new
  pub leaves : LeavesLater tells old new
  pub opened : IsTrue tells → new.stores.opened ≡ old.stores.opened
  pub reads : OnlyReads tells old.stores new.stores end

-- WHAT A STEP COPIES

-- These samples were copied of the part at hand and these are left of it and of those behind it, beside those that are left of the parts before
-- it. Their lines take so many bytes at most, or are one.
pub record CopiesLines (most from : ℕ) (move new : Moving) (files more : List Filed) (held : Stores) (copied rest : List Sample) : Type 0 where
  pub left : left_of from move (length move.parts) files held ≡ left_of from move move.at files held ++ (copied ++ rest)
  pub still : left_of from new (length new.parts) more held ≡ rest
  pub ahead : samples_ahead (from + 1) move more held ≡ samples_ahead (from + 1) move files held ++ copied
  pub few : AreFew most (lines_of copied)
  pub some : copied ≢ []
  pub further : end_of (samples_ahead (from + 1) move files held) ≤ end_of (samples_ahead (from + 1) new more held)
  pub within : (q : Filed) → IsNextPart from move held q → All (λ (s : Sample). HoldsMoment q.entry.part s.t) copied

-- something of a part is later than all that is ahead
abbrev pub IsLeft : ℕ → Moving → List Filed → Stores → Filed → Type 0
IsLeft i move files held f = since (end_of (samples_ahead i move files held)) f.samples ≢ []

-- what copying lines says
abbrev pub SaysLines : ℕ → ℕ → Bool → SeenAll → Moving → Moving → List Filed → Stores → CopyEnd → Type 0
SaysLines most from tells all move new files held ends.More =
    (more : List Filed) × CopiesBeside from tells all new more held
    × (IsTrue held.stands → (copied : List Sample) × (rest : List Sample) × CopiesLines most from move new files more held copied rest × All (IsLeft (from + 1) new more held) (drop new.at (oldest from new.series (length new.parts) held))
    × (move.at < new.at → All (IsAllLater (from + 1) new more held) (drop new.at (oldest from new.series (length new.parts) held))))
SaysLines most from tells all move new files held ends.Copied =
    (more : List Filed) × HasCopiedAll from tells all new more held × (IsTrue held.stands → (copied : List Sample) × CopiesLines most from move new files more held copied [])
SaysLines most from tells all move new files held (ends.Damaged name at) = IsDamaged from tells all.stores.files move held name at

-- These samples were copied, the first of those that were left, and these are left still. Where the first of them comes into the partition of a file
-- in limbo, what that has comes in front of it. Their lines take so many bytes at most, or are one.
pub record CopiesNext (most from : ℕ) (limbo : List Retired) (retired : List Filed) (move : Moving) (files more : List Filed) (held : Stores) (copied rest : List Sample) : Type 0 where
  pub back : List Filed
  pub in_limbo : AreBack (from + 1) limbo retired (put_all (list_at (from + 1) held) files) back
  pub left : left_to_copy from move back files held ≡ copied ++ rest
  pub ahead : samples_ahead (from + 1) move more held ≡ samples_ahead (from + 1) move files held ++ (revived back move.series copied ++ copied)
  pub few : AreFew most (lines_of copied)

-- what copying the k-th part says, with which of the samples that were left are so still
abbrev pub SaysPart : ℕ → ℕ → Bool → SeenAll → ℕ → List Filed → Moving → Moving → List Filed → Stores → CopyEnd → Type 0
SaysPart most from tells all k retired move new files held ends.More =
    (more : List Filed) × CopiesBeside from tells all new more held
    × (IsTrue held.stands → (copied : List Sample) × (rest : List Sample) × (next : CopiesNext most from all.limbo retired move files more held copied rest) × (copied ≢ [])
    × (rest ≡ past (free_of (put_all (list_at (from + 1) held) files) retired) move.series (left_of from new (length new.parts) more held)) × All (IsLeft (from + 1) new more held) (drop new.at (oldest from new.series (length new.parts) held))
    × (k < new.at → All (IsAllLater (from + 1) new more held) (drop new.at (oldest from new.series (length new.parts) held))) × (end_of (samples_ahead (from + 1) move files held) ≤ end_of (samples_ahead (from + 1) new more held)))
SaysPart most from tells all k retired move new files held ends.Copied =
    (more : List Filed) × HasCopiedAll from tells all new more held × (IsTrue held.stands → (copied : List Sample) × CopiesNext most from all.limbo retired move files more held copied [])
SaysPart most from tells all k retired move new files held (ends.Damaged name at) = IsDamaged from tells all.stores.files move held name at

-- What an answer says: some samples were copied and some are left, or all that was left was copied. A file is told as damaged only where
-- what is held doesn't stand.
abbrev pub SaysCopied : ℕ → ℕ → Bool → SeenAll → List Filed → Moving → Moving → List Filed → Stores → CopyEnd → Type 0
SaysCopied most from tells all retired move new files held ends.More =
    (more : List Filed) × CopiesBeside from tells all new more held
    × (IsTrue held.stands → (copied : List Sample) × (rest : List Sample) × CopiesNext most from all.limbo retired move files more held copied rest × (copied ≢ []) × (rest ≢ []))
SaysCopied most from tells all retired move new files held ends.Copied =
    (more : List Filed) × HasCopiedAll from tells all new more held × (IsTrue held.stands → (copied : List Sample) × CopiesNext most from all.limbo retired move files more held copied [])
SaysCopied most from tells all retired move new files held (ends.Damaged name at) = IsDamaged from tells all.stores.files move held name at

-- a move copies beside the stores, and these are their files in limbo of the store to which it copies
abbrev pub CopiesAmong : ℕ → Bool → SeenAll → List Filed → Moving → List Filed → Stores → Type 0
CopiesAmong from tells all retired move files held = CopiesBeside from tells all move files held × AreWhole (from + 1) tells all.stores all.limbo held.stands retired

-- what is held stays so, at every moment of a call
abbrev pub StaysHeld : Bool → Seen → Seen → Stores → Type 0
StaysHeld tells old new held = Has tells new held × (IsTrue tells → Passes (HoldsBy (granularities old.manifests) (λ before made. made ≡ before) held) old.past new.past)

-- It does so in a step, which says this where it answers, and after an error this is so.
pub record StepsOn {A : Type 0} (tells : Bool) (old new : Seen) (held : Stores) (Says : A → Type 0) (Still : Type 0) (r : Result A DiskErr) : Type 0 where
  pub stays : StaysHeld tells old new held
  pub says : IfOk r Says
  pub still : OnErr r Still

-- none of these is a file of the move's row in the store to which it moves
abbrev pub NoneOfMove : Moving → List Name → Type 0
NoneOfMove move names = (e : Entry) → Contains names (part_file move.destination move.name e) → ⊥

-- all other names of the stores that moves copy to have what they had
abbrev pub LeavesOthers : Moving → Bool → SeenAll → SeenAll → Type 0
LeavesOthers move tells old new = (names : List Name) → All (λ (n : Name). 2 ≤ n.0) names → NoneOfMove move names → LeavesNames names tells old new

-- What a step of copying leaves beside the move: what is shown, other names, and files in limbo, which stay whole.
pub record CopyLeaves {A E : Type 0} (move : Moving) (tells : Bool) (old new : SeenAll) (end : End A E) : Type 0 where
  pub shown : KeepsShown tells old new
  pub leaves : LeavesOthers move tells old new
  pub whole : KeepsWhole tells old new
  pub costs : Costs old.stores new.stores end
