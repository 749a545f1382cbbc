-- What a file of a row says (PB file format): its first line is a header of the row's type, and its other lines are samples, events of
-- that type in the header's year, each later than the one before. Whoever reads such a file line by line reads just these samples.
use Rattle.std.specs.Prelude.{◌≡◌, ℕ, ℤ, List, Some}
use Rattle.std.specs.List.{AllByRecursion}
use Rattle.series_model.specs.declared.sample.Sample.{Sample}
use Rattle.series_model.specs.Series.{IsRising}
use Rattle.line_escape.specs.Unescaping.{Means, HasNoNewline}
use Rattle.pb_wire.specs.declared.payload.PayloadType.{PayloadType}
use Rattle.act_model.specs.Event.{IsEvent}
use Rattle.act_model.specs.Rows.{RowState}
use Rattle.act_model.specs.Rule.{Rule, Header}
use Rattle.act_model.specs.Limbo.{RowFile}

-- an event of the type in this year
pub record IsEventIn (ty : PayloadType) (year : ℤ) (s : Sample) : Type 0 where
  pub event : IsEvent ty s
  pub year_is : event.year ≡ year

-- the file's header is of the row's type, and its samples are of the header's year and rise
pub record IsFileOf (rule : Rule) (row : RowState) (f : RowFile) : Type 0 where
  pub whole : HasNoNewline f.head
  pub message : List ℕ
  pub means : Means f.head message
  pub header : Header
  pub says : rule.header message ≡ Some header
  pub ty : header.ty ≡ row.about.ty
  pub lines : AllByRecursion (IsEventIn header.ty header.year) f.samples
  pub rising : IsRising f.samples
