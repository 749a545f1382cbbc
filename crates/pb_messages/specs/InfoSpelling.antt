-- How a header is written: its fields, one after another.
use Rattle.std.specs.Prelude.{ℕ, ◌^◌, ◌<◌, FitsSigned, IfSome, List, [], ◌∷◌, ◌++◌, length, map}
use Rattle.std.specs.Option.{option_map}
use Rattle.std.specs.Int.{w32}
use Rattle.pb_wire.specs.Payload.{row_of}
use Rattle.pb_wire.specs.Message.{WireField}
use Rattle.arch_time.specs.YearTime.{IsSampleYear}
pub use Rattle.pb_wire.specs.Numbers.{sign_extended}
pub use Rattle.pb_wire.specs.FieldSpelling.{message_text, number_field, text_field, pair_text, pair_field, optional_field, ShortPairs}
use Rattle.pb_messages.specs.declared.info.PayloadInfo.{PayloadInfo}

abbrev pub required_fields : PayloadInfo → List WireField
required_fields info = number_field 1 (row_of info.ty).number ∷ text_field 2 info.name ∷ number_field 3 (sign_extended info.year) ∷ []

-- The fields of a header, in the order of their numbers.
abbrev pub info_fields : PayloadInfo → List WireField
info_fields info = required_fields info ++ (optional_field 4 (option_map sign_extended info.count) ++ map (pair_field 15) info.headers)

unfoldable pub info_text : PayloadInfo → List ℕ
info_text info = message_text (info_fields info)

-- The members fit their types, the year is one of 1991 to 2499, and each length is a number of 64 bits.
pub record FitsInfo (info : PayloadInfo) : Type 0 where
  pub name : length info.name < 2 ^ 64
  pub year : IsSampleYear info.year
  pub count : IfSome info.count (FitsSigned w32)
  pub headers : ShortPairs info.headers
