-- What a sample's line says: the message that it means, each pair read as the byte that it stands for, and the event that the message
-- holds.
use Rattle.std.specs.Prelude.{ℕ, ◌==◌, List, [], ◌∷◌, ◌++◌, Result, if◌then◌else◌}
use Rattle.std.specs.Option.{option_to_list}
use Rattle.line_escape.specs.Unescaping.{byte_of_pair}
use Rattle.pb_wire.specs.declared.payload.PayloadType.{PayloadType}
use Rattle.pb_wire.specs.declared.fault.FieldFault.{FieldFault}
use Rattle.pb_messages.specs.declared.event.Event.{Event}
use Rattle.pb_messages.specs.Event.{event_of}

abbrev pub message_of : List ℕ → List ℕ
message_of [] = []
message_of (x ∷ []) = x ∷ []
message_of (x ∷ c ∷ line) = if x == 27 then option_to_list (byte_of_pair c) ++ message_of line else x ∷ message_of (c ∷ line)

abbrev pub event_in : PayloadType → List ℕ → Result Event FieldFault
event_in ty line = event_of ty (message_of line)
