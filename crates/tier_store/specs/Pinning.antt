-- How a variable is pinned for a query: which files of its rows, in which order, and that they answer the query.
use Rattle.std.specs.List.{flat_map}
use Rattle.std.specs.FinMap.{FinMap, get, insert}
use Rattle.std.specs.Ordering.{nat_cmp}
use Rattle.std.specs.Prelude.{◌≡◌, ◌<◌, ◌^◌, ◌+◌, ◌++◌, ℕ, List, [], ◌∷◌, length, map, filter, nat_eq, nat_lt, ◌&&◌, if◌then◌else◌, Bool, Option, None, Some, IsSome, IsTrue, slice_get}
use Rattle.act_model.specs.Limbo.{RowFile}
use Rattle.act_model.specs.Pin.{over_pieces}
use Rattle.act_model.specs.Rows.{Store, Short, Medium, Long}
use Rattle.act_model.specs.Rule.{index_of}
use Rattle.act_model.specs.declared.acts.Answer.{Answer}
use Rattle.act_model.specs.declared.acts.Answer.TheVariants.{Pinned, NoSuchVariable}
use Rattle.pb_messages.specs.declared.about.About.{About}
use Rattle.pins.specs.Choosing.{IsChosen, listed}
use Rattle.pins.specs.declared.choosing.Listed.{Listed}
use Rattle.pins.specs.Pieces.{PinOf}
use Rattle.pins.specs.declared.piece.PinnedFile.{PinnedFile}
use Rattle.pv_catalog.specs.Lines.{line}
use Rattle.pv_catalog.specs.Rows.{HasName}
use Rattle.pv_catalog.specs.declared.row.Row.{Row}
use Rattle.series_model.specs.Retrieval.{answer}
use Rattle.series_model.specs.Series.{over, IsRising}
use Rattle.series_model.specs.declared.sample.Query.{Query}
use Rattle.series_model.specs.declared.sample.Sample.{Sample}
use Rattle.store_manifest.specs.Manifest.{ManifestState}
use Rattle.store_manifest.specs.declared.entry.Entry.{Entry}
use Rattle.durable_write.specs.Held.{Filed, file_of}
use Rattle.durable_write.specs.Plan.{of_row}
use Rattle.tier_store.specs.Stores.{Stores, whole_in}

-- THE FILES OF A VARIABLE

-- a file, and the store that lists it
pub record Placed : Type 0 where
  pub store : Store
  pub file : Filed

-- the files of a row that a store lists
abbrev pub placed_at : Store → Filed → Placed
placed_at store f = record { store = store; file = f }

abbrev pub placed : Store → ℕ → List Filed → List Placed
placed store row files = map (placed_at store) (of_row row files)

-- all files of a row in the order in which they are read: those of the deepest store first, and in each store by time
abbrev pub files_in : ℕ → Stores → List Placed
files_in row s = (placed Long row s.long ++ placed Medium row s.medium) ++ placed Short row s.short

-- all files of the variable that a row stands for: those of its first base come first, and the row's own last
abbrev pub files_of_line : ℕ → Stores → List Placed
files_of_line row s = flat_map (λ (k : ℕ). files_in k s) (line s.rows row)

-- a file's store, by its number, and its entry
abbrev pub listed_of : Placed → Listed
listed_of p = record { store = index_of p.store + 1; entry = p.file.entry }

-- the file as one of its own row
abbrev pub state_of : Placed → RowFile
state_of p = record { row = p.file.entry.series; store = p.store; part = p.file.entry.part; head = p.file.head; samples = p.file.samples }

-- what a manifest lists of a row
abbrev pub entries_of : ℕ → Option ManifestState → List Entry
entries_of row None = []
entries_of row (Some m) = filter (λ (e : Entry). nat_eq e.series row) m.entries

-- what the manifests list of a row, in the same order
abbrev pub listed_in : ℕ → List ManifestState → List Listed
listed_in row ms = (listed 3 (entries_of row (slice_get ms 2)) ++ listed 2 (entries_of row (slice_get ms 1))) ++ listed 1 (entries_of row (slice_get ms 0))

-- and of the variable that a row stands for
abbrev pub listed_of_line : List Row → List ManifestState → ℕ → List Listed
listed_of_line rows ms row = flat_map (λ (k : ℕ). listed_in k ms) (line rows row)

-- PINS

-- Up to which moment files are needed: to the interval's end. Where the tail has begun by then there is no such moment, and no file behind
-- the interval is left out, since the tail stands over all files.
abbrev pub files_to : Query → List Sample → Option ℕ
files_to q [] = Some q.to
files_to q (s ∷ rest) = if nat_lt q.from s.t && nat_lt q.to s.t then Some q.to else None

-- something is listed of the file; of each file of its form there is
abbrev pub has_bytes : Listed → Bool
has_bytes l = nat_lt 0 l.entry.len

-- what is pinned of a file is all that is listed of it
abbrev pub piece_of : List Row → Listed → PinnedFile
piece_of rows l = record { name = file_of (l.store, rows) l.entry; head_len = l.entry.head_len; len = l.entry.len }

-- An owner has one pin more: of a row, under the least number that was free. Of all files that are listed of the variable, those are pinned
-- that are chosen for the query, in their order, so few that each has a number of 32 bits; a file of which no byte is listed can't be one, and
-- isn't pinned.
pub record IsPinned (rows : List Row) (all : List Listed) (who i : ℕ) (query : Query) (tail : List Sample) (old new : FinMap nat_cmp PinOf) (pin : ℕ) (name : List ℕ) (about : About) (count : ℕ) (told : List Sample) : Type 0 where
  pub row : Row
  pub here : slice_get rows i ≡ Some row
  pub name_is : name ≡ row.name
  pub about_is : about ≡ row.about
  pub tail_is : told ≡ tail
  pub free : get old pin ≡ None
  pub least : (lower : ℕ) → lower < pin → IsSome (get old lower)
  pub opened : List Listed
  pub chosen : IsChosen query.from (files_to query tail) all opened
  pub few : length opened < 2 ^ 32
  pub pieces : List PinnedFile
  pub are : pieces ≡ map (piece_of rows) (filter has_bytes opened)
  pub number : count ≡ length pieces
  pub made : new ≡ insert old pin (record { owner = who; pieces = pieces })

-- The files that are opened stand behind one another among the variable's. Where what is held stands, all of them are pinned, and with a tail
-- over them they answer the query as all that is held of the variable does with that tail.
pub record AreEnough (held : Stores) (i : ℕ) (query : Query) (tail : List Sample) (opened : List Listed) : Type 0 where
  pub closed : List Placed
  pub files : List Placed
  pub behind : List Placed
  pub split : files_of_line i held ≡ closed ++ (files ++ behind)
  pub are : map listed_of files ≡ opened
  pub all : IsTrue held.stands → filter has_bytes opened ≡ opened
  pub answers : IsTrue held.stands → IsRising tail
      → answer (over (over_pieces [] (map state_of files)) tail) query ≡ answer (over (whole_in i held) tail) query

-- no row has the name
abbrev pub HasNoName : List Row → List ℕ → Type 0
HasNoName rows name = (i : ℕ) → HasName rows i name → ⊥

-- How one is answered who asks for a pin, by the rows and by what the memory lists: no row has the name, or it is pinned.
pub data PinsOf {R : Type 0} (rows : List Row) (ms : List ManifestState) (who : ℕ) (name : List ℕ) (query : Query) (tail : List Sample) (old new : FinMap nat_cmp PinOf) : Answer R → Type 0 where
  unknown : HasNoName rows name → new ≡ old → PinsOf rows ms who name query tail old new NoSuchVariable
  found : (i pin count : ℕ) (told : List ℕ) (about : About) (rest : List Sample) → HasName rows i name
      → IsPinned rows (listed_of_line rows ms i) who i query tail old new pin told about count rest → PinsOf rows ms who name query tail old new (Pinned pin told about count rest)

-- And by what is held: the files that are pinned are enough for the query.
pub data SaysPinned {R : Type 0} (who : ℕ) (name : List ℕ) (query : Query) (tail : List Sample) (old new : FinMap nat_cmp PinOf) : Answer R → Stores → Type 0 where
  none_has : {held : Stores} → HasNoName held.rows name → new ≡ old → SaysPinned who name query tail old new NoSuchVariable held
  is_pinned : {held : Stores} (i pin count : ℕ) (told : List ℕ) (about : About) (rest : List Sample) → HasName held.rows i name
      → (p : IsPinned held.rows (map listed_of (files_of_line i held)) who i query tail old new pin told about count rest) → AreEnough held i query tail p.opened
      → SaysPinned who name query tail old new (Pinned pin told about count rest) held
