-- What `extract` has written when it ends.
use Rattle.std.specs.Prelude.{◌≡◌, ◌⊎◌, ℕ, List, [], Option, Some, None, IfSome}
use Rattle.std.specs.Io.KnownBytes.{Appends}
use Rattle.edge_io.specs.Stream.{AppendsFront}
use Rattle.series_model.specs.declared.sample.Query.{Query}
use Rattle.pb_lines.specs.Stream.{Item, Stop, IsWholeStream}
use Rattle.command_words.specs.declared.status.Status.{Status}
use Rattle.command_words.specs.declared.status.Status.TheVariants.{Done, Refused, SourceFault, SinkFault, OutOfMemory}
use Rattle.stream_extract.specs.Extract.{extracted}

-- The bytes are a stream up to this stop, and the sink got the whole text of its items.
abbrev pub WritesAll : Query → Stop → Option (List ℕ) → Option (List ℕ) → List ℕ → Type 0
WritesAll q stop a b bytes = (items : List Item) × IsWholeStream bytes items stop × Appends a b (extracted q items)

-- The sink got a front of the text of the stream's items.
abbrev pub WritesFront : Query → Option (List ℕ) → Option (List ℕ) → List ℕ → Type 0
WritesFront q a b bytes = (items : List Item) × (stop : Stop) × IsWholeStream bytes items stop × AppendsFront a b (extracted q items)

-- Where the source's bytes are told: at the end the text of all items was written; at a bad line that of the items before it, and the
-- line is the stream's first bad one; otherwise a front of the text.
abbrev pub Extracts : Query → Option (List ℕ) → Option (List ℕ) → Option (List ℕ) → Status → Type 0
Extracts q source a b Done = IfSome source (WritesAll q None a b)
Extracts q source a b (Refused line fault) = IfSome source (WritesAll q (Some (line, fault)) a b)
Extracts q source a b SourceFault = IfSome source (WritesFront q a b)
Extracts q source a b SinkFault = IfSome source (WritesFront q a b)
Extracts q source a b OutOfMemory = IfSome source (WritesFront q a b)
Extracts q source a b _ = ⊥

-- What was gathered went out, or is still gathered.
abbrev pub IsFlushed : Option (List ℕ) → Option (List ℕ) → List ℕ → List ℕ → Type 0
IsFlushed a b old new = (Appends a b old × (new ≡ [])) ⊎ ((b ≡ a) × (new ≡ old))
