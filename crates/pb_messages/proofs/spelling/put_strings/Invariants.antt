use Rattle.std.proofs.Common.{◌≡◌, ◌++◌, ◌<◌, map, drop, length}
use Rattle.std.specs.Prelude.{◌^◌}
use Rattle.std.specs.List.{AllByRecursion}
use Rattle.std.specs.Io.{StartsWith}
use Rattle.pb_wire.specs.FieldSpelling.{message_text, text_field}
use Rattle.pb_messages.proofs.spelling.put_strings.Given as goal

abbrev pub invariant-loop-text : goal.invariant-loop-text
invariant-loop-text l = record {
  grows : StartsWith l.out.items l.fn.out.items;
  written : l.out.items ++ message_text (map (text_field 3) (drop l.text-index l.strings)) ≡ l.fn.out.items ++ message_text (map (text_field 3) l.strings);
  fits : AllByRecursion (λ b. length b < 2 ^ 64) (drop l.text-index l.strings) → AllByRecursion (λ b. length b < 2 ^ 64) l.strings;
}
