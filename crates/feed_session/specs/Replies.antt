-- What a feed is replied: a line for each chunk that ended, with the numbers of its samples, and at the end a last line.
use Rattle.std.specs.Prelude.{◌≡◌, ◌⊎◌, ℕ, List, [], ◌∷◌, ◌++◌, Option, codes, decimal, false}
use Rattle.std.specs.Io.KnownBytes.{Appends}
use Rattle.edge_io.specs.Moments.{Moments}
use Rattle.edge_io.specs.Stream.{AppendsFront}
use Rattle.pb_lines.specs.Fault.{fault_number}
use Rattle.pb_lines.specs.Stream.{Item, header, sample, chunk_end}
use Rattle.act_model.specs.History.{Entry, Done}
use Rattle.feed_session.specs.Asking.{tally_of}
use Rattle.feed_session.specs.Session.{EndsSession, TakenItem}
use Rattle.feed_session.specs.declared.end.Fed.{Fed}
use Rattle.feed_session.specs.declared.end.Fed.TheVariants as fed
use Rattle.feed_session.specs.declared.tally.OfferCounts.{OfferCounts}

-- the line for a chunk with so many samples kept, held and dropped
abbrev pub ok_text : OfferCounts → List ℕ
ok_text t = codes "ok " ++ decimal t.kept ++ codes " " ++ decimal t.held ++ codes " " ++ decimal t.dropped ++ codes "\n"

-- the line for a chunk of which these acts were made
abbrev pub ok_line : List Done → List ℕ
ok_line done = ok_text (tally_of done)

-- the acts of the chunk that was begun last, with those of one item more
abbrev pub in_chunk : List Done → TakenItem → List Done
in_chunk chunk t = with_item t.item
  where
    with_item : Item → List Done
    with_item (header info line) = []
    with_item (sample x) = chunk ++ t.done
    with_item chunk_end = chunk

-- the acts of the chunk that was begun last
abbrev pub acts_in : List Done → List TakenItem → List Done
acts_in chunk [] = chunk
acts_in chunk (t ∷ ts) = acts_in (in_chunk chunk t) ts

-- what is replied to an item: at a chunk's end its line
abbrev pub reply_to : List Done → Item → List ℕ
reply_to chunk (header info line) = []
reply_to chunk (sample x) = []
reply_to chunk chunk_end = ok_line chunk

-- the lines for all chunks that ended
abbrev pub lines_of : List Done → List TakenItem → List ℕ
lines_of chunk [] = []
lines_of chunk (t ∷ ts) = reply_to chunk t.item ++ lines_of (in_chunk chunk t) ts

-- the last line: what was kept is durable, the stream is refused at a line, or the disk failed
abbrev pub last_line : Fed → List ℕ
last_line (fed.Fed kept held dropped) = codes "durable " ++ decimal kept ++ codes "\n"
last_line (fed.Refused line fault) = codes "refused " ++ decimal line ++ codes " E" ++ decimal (fault_number fault) ++ codes "\n"
last_line fed.DiskFault = codes "fault disk\n"
last_line other = []

-- the whole text of a session that ended so
abbrev pub text_of : Fed → List TakenItem → List ℕ
text_of end taken = lines_of [] taken ++ last_line end

-- the link failed, or memory was wanting for a line
abbrev pub CutsOff : Fed → Type 0
CutsOff fed.PeerFault = Unit {0}
CutsOff fed.Memory = Unit {0}
CutsOff other = ⊥

-- The text went out, and the session ended as it would have. Where it was cut off, a front of it went out.
abbrev pub Tells : Fed → List ℕ → Fed → Option (List ℕ) → Option (List ℕ) → Type 0
Tells end text result old new = ((result ≡ end) × Appends old new text) ⊎ (CutsOff result × AppendsFront old new text)

-- so is the whole text of a session that ended so
abbrev pub Replies : Fed → List TakenItem → Fed → Option (List ℕ) → Option (List ℕ) → Type 0
Replies end taken result old new = Tells end (text_of end taken) result old new

-- Just these acts were made under the actor's number, and just the lines for the chunks that ended were written over their answers.
pub record FeedsChunks {A : Type 0} (number : A → ℕ) (between : A → List Entry → A → Type 0) (result : Fed) (old new : A) (source : Option (List ℕ)) (clock clock' : Option Moments) (written written' : Option (List ℕ)) : Type 0 where
  pub taken : List TakenItem
  pub ended : EndsSession number between false result taken old new source clock clock'
  pub told : Tells result (lines_of [] taken) result written written'

-- Just these acts were made under the actor's number, and just this was written over their answers.
pub record Feeds {A : Type 0} (number : A → ℕ) (between : A → List Entry → A → Type 0) (result : Fed) (old new : A) (source : Option (List ℕ)) (clock clock' : Option Moments) (written written' : Option (List ℕ)) : Type 0 where
  pub taken : List TakenItem
  pub end : Fed
  pub ended : EndsSession number between false end taken old new source clock clock'
  pub replies : Replies end taken result written written'
