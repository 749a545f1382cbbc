-- Pin: a reader gets hold of a variable's samples as they are now. It names some of the listed files of the row's bases and of the row, in
-- the order in which they are read, and tells the row's tail; these together answer its query as all that is accepted of the variable does.
use Rattle.std.specs.FinMap.{get, insert}
use Rattle.std.specs.List.{AllByRecursion}
use Rattle.std.specs.Prelude.{◌≡◌, ◌≢◌, ◌⊎◌, ℕ, ◌^◌, ◌<◌, ◌≤◌, List, [], ◌∷◌, length, true, false, Some, None, slice_get}
use Rattle.series_model.specs.Retrieval.{answer}
use Rattle.series_model.specs.Series.{over}
use Rattle.series_model.specs.declared.sample.Query.{Query}
use Rattle.series_model.specs.declared.sample.Sample.{Sample}
use Rattle.act_model.specs.Details.{details_refused}
use Rattle.act_model.specs.Files.{IsFileOf}
use Rattle.act_model.specs.Limbo.{RowFile}
use Rattle.act_model.specs.Machine.{Machine, find_row}
use Rattle.act_model.specs.Outcome.{Acts, all_go, Same}
use Rattle.act_model.specs.Reply.{Reply}
use Rattle.act_model.specs.Rows.{RowState, tier, window, accepted, is_empty}
use Rattle.act_model.specs.Rule.{Rule, IsPartition, index_of}
use Rattle.act_model.specs.Whole.{IsPartOf, whole}
use Rattle.act_model.specs.declared.acts.Answer.TheVariants.{Pinned}

-- a listed file of the row as it is
pub record IsListedPiece (rule : Rule) (i : ℕ) (row : RowState) (f : RowFile) : Type 0 where
  pub own : f.row ≡ i
  pub partition : IsPartition rule f.store f.part
  pub samples : f.samples ≡ window f.part (tier row f.store)
  pub some : is_empty f.samples ≡ false
  pub file : IsFileOf rule row f

-- a piece is such a file of the row or of one of its bases, and all these have the row's type
pub record IsPieceOf (rule : Rule) (rows : List RowState) (i : ℕ) (row : RowState) (f : RowFile) : Type 0 where
  pub among : IsPartOf rows f.row i
  pub own : RowState
  pub here : slice_get rows f.row ≡ Some own
  pub listed : IsListedPiece rule f.row own f
  pub ty : own.about.ty ≡ row.about.ty

-- in one row the deeper store comes first, and in one store the earlier partition
abbrev pub ComesInRow : RowFile → RowFile → Type 0
ComesInRow f g = (index_of g.store < index_of f.store) ⊎ ((f.store ≡ g.store) × (f.part.end ≤ g.part.start))

-- the first base comes first, and the row itself last: a base has a smaller number
abbrev pub ComesBefore : RowFile → RowFile → Type 0
ComesBefore f g = (f.row < g.row) ⊎ ((f.row ≡ g.row) × ComesInRow f g)

abbrev pub InOrder : List RowFile → Type 0
InOrder [] = Unit {0}
InOrder (f ∷ rest) = AllByRecursion (ComesBefore f) rest × InOrder rest

-- the samples of pieces, in order, each over those before
abbrev pub over_pieces : List Sample → List RowFile → List Sample
over_pieces xs [] = xs
over_pieces xs (f ∷ rest) = over_pieces (over xs f.samples) rest

-- How a pin is made, once a doubt is settled: the least free number, and pieces that give the answer. They are so few that each has a
-- number of 32 bits.
pub data MakesPin (who : ℕ) (name : List ℕ) (query : Query) : Machine → Reply → Machine → Type 0 where
  pins : {mid new : Machine} (i : ℕ) (row : RowState) (pin : ℕ) (pieces : List RowFile) → find_row mid name ≡ Some i
      → slice_get mid.rows i ≡ Some row
      → get mid.pins pin ≡ None → ((k : ℕ) → k < pin → get mid.pins k ≢ None)
      → (mid.told ≡ true → AllByRecursion (IsPieceOf mid.rule mid.rows i row) pieces)
      → (mid.told ≡ true → InOrder pieces)
      → (mid.told ≡ true → answer (over (over_pieces [] pieces) row.tail) query ≡ answer (whole accepted mid.rows i) query)
      → length pieces < 2 ^ 32
      → Same (record mid { pins = insert mid.pins pin (record { owner = who; pieces = pieces }) }) new
      → MakesPin who name query mid (Pinned pin row.name row.about (length pieces) row.tail) new

abbrev pub PinStep : ℕ → List ℕ → Query → Machine → Reply → Machine → Type 0
PinStep who name query old reply new = Acts (details_refused name) (MakesPin who name query) (λ m. None) all_go old reply new
