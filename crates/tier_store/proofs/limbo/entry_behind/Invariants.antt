use Rattle.std.proofs.Common.{take}
use Rattle.std.specs.Prelude.{Contains}
use Rattle.tier_store.specs.Reviving.{IsBehind}
use Rattle.tier_store.specs.declared.limbo.Retired.{Retired}
use Rattle.tier_store.proofs.limbo.entry_behind.Given as goal

abbrev pub invariant-loop-file : goal.invariant-loop-file
invariant-loop-file l = (r : Retired) → Contains (take l.file-index l.limbo) r → IsBehind l.store l.row l.last l.t r → ⊥
