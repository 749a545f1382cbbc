use Rattle.pv_name.proofs.Keys.{same_places}
use Rattle.pv_name.proofs.key.same_key.Goals as goal

pub returns-then-a-b : goal.returns-then-a-b
returns-then-a-b c =
    rw (c.all_same.ensures, ← c.bytes-a.ensures.value, ← c.bytes-b.ensures.value) (same_places c.bytes-a.result.now c.bytes-b.result.now c.if-a-b.true)
