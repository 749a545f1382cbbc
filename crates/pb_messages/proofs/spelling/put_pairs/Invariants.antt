use Rattle.std.proofs.Common.{◌≡◌, ◌++◌, map, drop}
use Rattle.std.specs.Io.{StartsWith}
use Rattle.pb_wire.specs.FieldSpelling.{message_text, pair_field, ShortPairs}
use Rattle.pb_messages.proofs.spelling.put_pairs.Given as goal

abbrev pub invariant-loop-name : goal.invariant-loop-name
invariant-loop-name l = record {
  grows : StartsWith l.out.items l.fn.out.items;
  written : l.out.items ++ message_text (map (pair_field l.number) (drop l.name-index l.pairs)) ≡ l.fn.out.items ++ message_text (map (pair_field l.number) l.pairs);
  fits : ShortPairs (drop l.name-index l.pairs) → ShortPairs l.pairs;
}
