-- What a sample's line says, and why a line says nothing.
use Rattle.std.specs.Prelude.{◌≡◌, ℕ, List, ℤ, Ok, Err}
use Rattle.pb_wire.specs.declared.payload.PayloadType.{PayloadType}
use Rattle.line_escape.specs.Unescaping.{Means, IsBadPlace}
use Rattle.pb_messages.specs.Event.{stamp_of}
use Rattle.arch_time.specs.YearTime.{moment, IsInYear, IsSampleYear}
use Rattle.pb_lines.specs.declared.fault.LineFault.{LineFault}
use Rattle.pb_lines.specs.declared.fault.LineFault.TheVariants.{Escape, Event, Time}
use Rattle.pb_lines.specs.declared.fault.LineErr.{LineErr}
use Rattle.pb_lines.specs.declared.fault.LineErr.TheVariants as err

-- the line means an event of the type, with this second and nanosecond
abbrev pub IsStamp : PayloadType → List ℕ → ℕ → ℕ → Type 0
IsStamp ty line secs nano = (message : List ℕ) × Means line message × (stamp_of ty message ≡ Ok (secs, nano))

-- the event of the line stands at this moment of the year
pub record IsSampleLine (ty : PayloadType) (year : ℤ) (line : List ℕ) (t : ℕ) : Type 0 where
  pub secs : ℕ
  pub nano : ℕ
  pub stamp : IsStamp ty line secs nano
  pub sample_year : IsSampleYear year
  pub in_year : IsInYear year secs nano
  pub at : t ≡ moment year secs nano

-- The escapes of the whole line come before its message.
abbrev pub IsStampFault : PayloadType → List ℕ → LineFault → Type 0
IsStampFault ty line (Escape at) = IsBadPlace line at
IsStampFault ty line (Event fault) = (message : List ℕ) × Means line message × (stamp_of ty message ≡ Err fault)
IsStampFault ty line Time = ⊥

-- The message comes before its moment.
abbrev pub IsLineFault : PayloadType → ℤ → List ℕ → LineFault → Type 0
IsLineFault ty year line Time = (secs nano : ℕ) × IsStamp ty line secs nano × (IsSampleYear year × IsInYear year secs nano → ⊥)
IsLineFault ty year line fault = IsStampFault ty line fault

-- a fault has its cause; want of memory has none
abbrev pub IsStampErr : PayloadType → List ℕ → LineErr → Type 0
IsStampErr ty line (err.Fault fault) = IsStampFault ty line fault
IsStampErr ty line err.Memory = Unit {0}

-- the same, with the moment
abbrev pub IsLineErr : PayloadType → ℤ → List ℕ → LineErr → Type 0
IsLineErr ty year line (err.Fault fault) = IsLineFault ty year line fault
IsLineErr ty year line err.Memory = Unit {0}
