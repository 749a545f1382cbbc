use Rattle.std.proofs.Common.{◌≡◌, ◌≤◌}
use Rattle.pb_wire.specs.declared.payload.PayloadType.{PayloadType}
use Rattle.pb_wire.specs.Payload.{row_of}
use Rattle.pb_wire.proofs.payload.PayloadType.from_name.Given as goal

-- a type of this name stands no earlier
abbrev pub invariant-loop-kind : goal.invariant-loop-kind
invariant-loop-kind l = (t : PayloadType) → (row_of t).name ≡ l.name → l.kind-index ≤ (row_of t).number
