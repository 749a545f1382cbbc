-- The payload types of PB files, with their numbers and names.
use Rattle.std.specs.Prelude.{ℕ, List, codes}
use Rattle.pb_wire.specs.declared.payload.PayloadType.{PayloadType}
use Rattle.pb_wire.specs.declared.payload.PayloadType.TheVariants.{ScalarString, ScalarShort, ScalarFloat, ScalarEnum, ScalarByte, ScalarInt, ScalarDouble, WaveformString, WaveformShort, WaveformFloat, WaveformEnum, WaveformByte, WaveformInt, WaveformDouble}

-- A row of the table: the number in a header, and the name in EPICSEvent.proto.
pub record TypeRow : Type 0 where
  pub number : ℕ
  pub name : List ℕ

abbrev pub row_of : PayloadType → TypeRow
row_of ScalarString = record { number = 0; name = codes "SCALAR_STRING" }
row_of ScalarShort = record { number = 1; name = codes "SCALAR_SHORT" }
row_of ScalarFloat = record { number = 2; name = codes "SCALAR_FLOAT" }
row_of ScalarEnum = record { number = 3; name = codes "SCALAR_ENUM" }
row_of ScalarByte = record { number = 4; name = codes "SCALAR_BYTE" }
row_of ScalarInt = record { number = 5; name = codes "SCALAR_INT" }
row_of ScalarDouble = record { number = 6; name = codes "SCALAR_DOUBLE" }
row_of WaveformString = record { number = 7; name = codes "WAVEFORM_STRING" }
row_of WaveformShort = record { number = 8; name = codes "WAVEFORM_SHORT" }
row_of WaveformFloat = record { number = 9; name = codes "WAVEFORM_FLOAT" }
row_of WaveformEnum = record { number = 10; name = codes "WAVEFORM_ENUM" }
row_of WaveformByte = record { number = 11; name = codes "WAVEFORM_BYTE" }
row_of WaveformInt = record { number = 12; name = codes "WAVEFORM_INT" }
row_of WaveformDouble = record { number = 13; name = codes "WAVEFORM_DOUBLE" }
