-- The whole list of a row. A variable that was renamed has a row for each of its names: the new row's base is the old one, which keeps its
-- samples for good. So the whole of a row is the whole of its base, and over it the row's own list, of which what isn't later than the base's
-- last sample counts for nothing: a row takes no such sample, but somebody else may have put files there. A base has a smaller number than
-- its row.
use Rattle.std.specs.Prelude.{◌≡◌, ℕ, List, [], ◌∷◌, ◌++◌, Option, Some, None, get_or, slice_get}
use Rattle.series_model.specs.declared.sample.Sample.{Sample}
use Rattle.series_model.specs.Series.{IsRising, over}
use Rattle.act_model.specs.Rows.{RowState}

-- the list with this number among those that are known, nothing where there is none
abbrev pub known : List (List Sample) → Option ℕ → List Sample
known wholes None = []
known wholes (Some i) = get_or wholes i []

-- row by row each own list goes over the whole of its base, which is known already
abbrev pub wholes : (RowState → List Sample) → List (List Sample) → List RowState → List (List Sample)
wholes own before [] = before
wholes own before (row ∷ rows) = wholes own (before ++ over (known before row.base) (own row) ∷ []) rows

-- what a row's own list goes over: the whole of its base, nothing where it has none
abbrev pub past : (RowState → List Sample) → List RowState → Option ℕ → List Sample
past own rows base = known (wholes own [] rows) base

-- The whole of the row with this number, by what counts as a row's own: `accepted` or `durable`.
abbrev pub whole : (RowState → List Sample) → List RowState → ℕ → List Sample
whole own rows i = past own rows (Some i)

-- The row's own list follows the whole of its base: that and the own list, one behind the other, are the whole of the row, and it rises.
abbrev pub FollowsBase : (RowState → List Sample) → List RowState → ℕ → RowState → Type 0
FollowsBase own rows i row = (whole own rows i ≡ past own rows row.base ++ own row) × IsRising (whole own rows i)

-- so it is of each row: nothing of an own list is left out
abbrev pub AllFollow : (RowState → List Sample) → List RowState → Type 0
AllFollow own rows = (i : ℕ) (row : RowState) → slice_get rows i ≡ Some row → FollowsBase own rows i row

-- The row k is a part of the whole of the row i: it is that row, or its base, or that one's base, and so on.
pub data IsPartOf (rows : List RowState) (k : ℕ) : ℕ → Type 0 where
  itself : IsPartOf rows k k
  of_base : {i b : ℕ} (row : RowState) → slice_get rows i ≡ Some row → row.base ≡ Some b → IsPartOf rows k b → IsPartOf rows k i
