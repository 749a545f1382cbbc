use Rattle.std.proofs.Common.{◌≡◌, map, drop}
use Rattle.std.specs.Int.{w32, from_le_bytes}
use Rattle.pb_wire.specs.Message.{fixed32}
use Rattle.pb_messages.specs.Layout.{packed_fixed32}
use Rattle.pb_messages.specs.Adding.{with_elements}
use Rattle.pb_messages.proofs.elements.add_fixed32.Given as goal

abbrev pub invariant-loop-word : goal.invariant-loop-word
invariant-loop-word l = with_elements l.val (map (λ t. fixed32 (from_le_bytes w32 t)) (drop l.word-index l.words)) ≡ with_elements l.fn.val (packed_fixed32 l.text)
