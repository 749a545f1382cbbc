use Rattle.std.proofs.Common.{◌≡◌, [], ◌∷◌, ◌++◌, take, drop}
use Rattle.json_out.proofs.Objects.{AreTold, others_text}
use Rattle.json_out.proofs.object.put_object.Given as goal

-- what is written, and then the members of the pairs that are left
abbrev pub invariant-loop-pair : goal.invariant-loop-pair
invariant-loop-pair l = record {
  names : AreTold ((l.name, l.val) ∷ take l.pair-index l.others) l.told;
  text : l.out.items ++ others_text ((l.name, l.val) ∷ take l.pair-index l.others) (drop l.pair-index l.others) ≡ l.initial.out.items ++ others_text ((l.name, l.val) ∷ []) l.others;
}
