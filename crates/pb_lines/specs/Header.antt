-- What a header's line says, and why a line is no header.
use Rattle.std.specs.Prelude.{◌≡◌, ℕ, List, Ok, Err}
use Rattle.line_escape.specs.Unescaping.{Means, IsBadPlace}
use Rattle.pb_messages.specs.declared.info.PayloadInfo.{PayloadInfo}
use Rattle.pb_messages.specs.Info.{info_of}
use Rattle.pb_lines.specs.declared.fault.HeadFault.{HeadFault}
use Rattle.pb_lines.specs.declared.fault.HeadFault.TheVariants.{Escape, Info}
use Rattle.pb_lines.specs.declared.header.HeadErr.{HeadErr}
use Rattle.pb_lines.specs.declared.header.HeadErr.TheVariants as err

-- the line means this header
abbrev pub IsHeaderLine : List ℕ → PayloadInfo → Type 0
IsHeaderLine line info = (message : List ℕ) × Means line message × (info_of message ≡ Ok info)

-- The escapes of the whole line come before its message.
abbrev pub IsHeadFault : List ℕ → HeadFault → Type 0
IsHeadFault line (Escape at) = IsBadPlace line at
IsHeadFault line (Info fault) = (message : List ℕ) × Means line message × (info_of message ≡ Err fault)

-- a fault has its cause; want of memory has none
abbrev pub IsHeadErr : List ℕ → HeadErr → Type 0
IsHeadErr line (err.Fault fault) = IsHeadFault line fault
IsHeadErr line err.Memory = Unit {0}
