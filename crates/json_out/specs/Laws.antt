-- What a line's message is: the one that the escaping of lines gives it.
use Rattle.std.specs.Prelude.{◌≡◌, ℕ, List}
use Rattle.line_escape.specs.Unescaping.{Means}
use Rattle.json_out.specs.Line.{message_of}

-- A line that means a message has it.
abbrev pub LineMeansMessage : Type 0
LineMeansMessage = (line message : List ℕ) → Means line message → message_of line ≡ message
