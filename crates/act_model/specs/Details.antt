-- Details: what is known of a variable is told, with the numbers of its accepted and durable samples, those under earlier names too. A
-- doubt is settled first, since these numbers are of what is durable.
use Rattle.std.specs.Prelude.{◌≡◌, ℕ, List, [], ◌∷◌, length, true, Option, Some, None, slice_get, slice_index}
use Rattle.partition_names.specs.declared.part.Part.{Part}
use Rattle.series_model.specs.declared.sample.Sample.{Sample}
use Rattle.act_model.specs.Machine.{Machine, find_row}
use Rattle.act_model.specs.Outcome.{Acts, all_go, Same}
use Rattle.act_model.specs.Parts.{AreParts}
use Rattle.act_model.specs.Reply.{Reply}
use Rattle.act_model.specs.Rows.{RowState, Store, durable, accepted, tier}
use Rattle.act_model.specs.Rule.{Rule, index_of}
use Rattle.act_model.specs.Whole.{whole}
use Rattle.act_model.specs.declared.acts.Answer.TheVariants.{Described, NoSuchVariable}
use Rattle.act_model.specs.declared.details.Details.{Details}

-- the moment of the first sample
abbrev pub first_time : List Sample → Option ℕ
first_time [] = None
first_time (s ∷ rest) = Some s.t

-- the moment of the last sample
abbrev pub last_time : List Sample → Option ℕ
last_time [] = None
last_time (s ∷ []) = Some s.t
last_time (s ∷ next ∷ rest) = last_time (next ∷ rest)

-- what is told of a row: numbers and moments of its whole lists, and the numbers of its own files
pub record IsDetails (rule : Rule) (rows : List RowState) (i : ℕ) (row : RowState) (d : Details) : Type 0 where
  pub accepted_is : d.accepted ≡ length (whole accepted rows i)
  pub durable_is : d.durable ≡ length (whole durable rows i)
  pub first : d.first ≡ first_time (whole accepted rows i)
  pub last : d.last ≡ last_time (whole accepted rows i)
  pub files : (store : Store)
      → (parts : List Part) × AreParts rule store (tier row store) parts × (slice_index d.files (index_of store) ≡ length parts)

-- the refusal where no row has the name
abbrev pub details_refused : List ℕ → Machine → Option Reply
details_refused name m = by_name (find_row m name)
  where
    by_name : Option ℕ → Option Reply
    by_name (Some i) = None
    by_name None = Some NoSuchVariable

-- what is known is told, and nothing changes
pub record Describes (name : List ℕ) (mid : Machine) (answer : Reply) (new : Machine) : Type 0 where
  pub i : ℕ
  pub row : RowState
  pub details : Details
  pub found : find_row mid name ≡ Some i
  pub here : slice_get mid.rows i ≡ Some row
  pub known : (details.name ≡ row.name) × (details.about ≡ row.about) × (details.state ≡ row.state)
  pub told : mid.told ≡ true → IsDetails mid.rule mid.rows i row details
  pub answered : answer ≡ Described details
  pub same : Same mid new

abbrev pub DetailsStep : List ℕ → Machine → Reply → Machine → Type 0
DetailsStep name old answer new = Acts (details_refused name) (Describes name) (λ m. None) all_go old answer new
