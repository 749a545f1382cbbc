use Rattle.std.proofs.Common.{◌≡◌, ◌∷◌, ◌++◌, drop}
use Rattle.std.specs.List.{flat_map}
use Rattle.json_out.proofs.value.put_others.Given as goal

-- what is written, and then the elements that are left
abbrev pub invariant-loop-item : goal.invariant-loop-item
invariant-loop-item g l = l.out.items ++ flat_map (λ x. 44 ∷ g.T.JsonElement.text x) (drop l.item-index l.items) ≡ l.fn.out.items ++ flat_map (λ x. 44 ∷ g.T.JsonElement.text x) l.items
