-- The numbers of faults, by which complaints and replies tell them.
use Rattle.std.specs.Prelude.{ℕ}
use Rattle.pb_wire.specs.declared.error.WireErr.{WireErr}
use Rattle.pb_wire.specs.declared.error.WireErr.TheVariants.{BadVarint, BadTag, Group, Short}
use Rattle.pb_wire.specs.declared.fault.FieldFault.{FieldFault}
use Rattle.pb_wire.specs.declared.fault.FieldFault.TheVariants as event
use Rattle.pb_messages.specs.declared.info_error.InfoFault.{InfoFault}
use Rattle.pb_messages.specs.declared.info_error.InfoFault.TheVariants as info
use Rattle.pb_lines.specs.declared.fault.LineFault.{LineFault}
use Rattle.pb_lines.specs.declared.fault.LineFault.TheVariants as line
use Rattle.pb_lines.specs.declared.fault.HeadFault.{HeadFault}
use Rattle.pb_lines.specs.declared.fault.HeadFault.TheVariants as head
use Rattle.pb_lines.specs.declared.fault.ChunkFault.{ChunkFault}
use Rattle.pb_lines.specs.declared.fault.ChunkFault.TheVariants as fault

-- bytes that are no fields
abbrev pub wire_number : WireErr → ℕ
wire_number (BadVarint at) = 1
wire_number (BadTag at) = 2
wire_number (Group at) = 3
wire_number (Short at) = 4

-- a message that is no event
abbrev pub event_number : FieldFault → ℕ
event_number (event.Wire e) = wire_number e
event_number (event.Missing field) = 9
event_number (event.WrongWire field) = 10

-- a message that is no header
abbrev pub info_number : InfoFault → ℕ
info_number (info.Wire e) = wire_number e
info_number (info.Missing field) = 9
info_number (info.WrongWire field) = 10
info_number (info.UnknownType number) = 11
info_number (info.YearRange year) = 12

-- a line that is no sample
abbrev pub line_number : LineFault → ℕ
line_number (line.Escape at) = 5
line_number (line.Event f) = event_number f
line_number line.Time = 6

-- a line that is no header
abbrev pub head_number : HeadFault → ℕ
head_number (head.Escape at) = 5
head_number (head.Info f) = info_number f

-- A fault has the number of its innermost cause.
abbrev pub fault_number : ChunkFault → ℕ
fault_number fault.NoHeader = 13
fault_number (fault.BadHeader f) = head_number f
fault_number (fault.BadLine f) = line_number f
fault_number fault.Torn = 35
fault_number fault.LineTooLong = 15
fault_number fault.InputTooLong = 34
