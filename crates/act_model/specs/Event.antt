-- What a sample's line says. A line is an event where, unescaped, it is a message of the variable's type whose stamp, in some year
-- from 1991 to 2499, is the sample's moment. Only such lines are offered, kept and given out.
use Rattle.std.specs.Prelude.{◌≡◌, ℕ, List, ℤ, Ok}
use Rattle.std.specs.List.{AllByRecursion}
use Rattle.series_model.specs.declared.sample.Sample.{Sample}
use Rattle.line_escape.specs.Unescaping.{Means, HasNoNewline}
use Rattle.pb_wire.specs.declared.payload.PayloadType.{PayloadType}
use Rattle.pb_messages.specs.Event.{stamp_of}
use Rattle.arch_time.specs.YearTime.{moment, IsInYear, IsSampleYear}

-- The line is whole, and means an event of the type whose stamp is the moment, in some year.
pub record IsEvent (ty : PayloadType) (s : Sample) : Type 0 where
  pub whole : HasNoNewline s.line
  pub message : List ℕ
  pub means : Means s.line message
  pub secs : ℕ
  pub nano : ℕ
  pub stamp : stamp_of ty message ≡ Ok (secs, nano)
  pub year : ℤ
  pub sample_year : IsSampleYear year
  pub in_year : IsInYear year secs nano
  pub at : s.t ≡ moment year secs nano

-- all are events of the type
abbrev pub AreEvents : PayloadType → List Sample → Type 0
AreEvents ty xs = AllByRecursion (IsEvent ty) xs
