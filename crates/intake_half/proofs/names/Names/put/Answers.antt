use Rattle.std.proofs.Common.{◌≡◌, inl, inr, ℕ, true, false, List, Option, Vec, Global, sym, ◌∙◌}
use Rattle.std.specs.Cmp.Lexicographic.{nat_list_eq_equiv}
use Rattle.std.specs.HashMap.{HashMap, UpdatesBy, get_by}
use Rattle.std.specs.Map.{KeepsOthers}
use Rattle.std.specs.Str.{bytes_eq}
use Rattle.std.proofs.lemmas.Bool.{cases_Bool}
use Rattle.std.proofs.lemmas.Slice.Eq.{bytes_eq-Decides}
use Rattle.intake_half.proofs.names.Names.put.Goals as goal

apart : (bs cs ks : List ℕ) → bytes_eq bs cs ≡ false → bytes_eq bs ks ≡ true → bytes_eq cs ks ≡ false
apart bs cs ks differ same = nat_list_eq_equiv.symm cs ks ∙ sym (nat_list_eq_equiv.congr bs ks cs same) ∙ differ

-- at other keys the numbers stay
kept_number : {S : Type 0} (key : Vec ℕ Global) (old new : HashMap (Vec ℕ Global) ℕ S) (w : Option ℕ) (cs : List ℕ) → UpdatesBy (λ (a b : Vec ℕ Global). bytes_eq a.items b.items) (λ (k : Vec ℕ Global). bytes_eq key.items k.items) old new w → bytes_eq key.items cs ≡ false
    → get_by (λ (k : Vec ℕ Global). bytes_eq cs k.items) new ≡ get_by (λ (k : Vec ℕ Global). bytes_eq cs k.items) old
unfolding KeepsOthers
kept_number key old new w cs updates differ =
    updates.3 (λ (k : Vec ℕ Global). bytes_eq cs k.items) (λ x y. nat_list_eq_equiv.congr cs x.items y.items) (λ k. apart key.items cs k.items differ)

pub returns-clause-others : goal.returns-clause-others
returns-clause-others c = λ other differ. elim (cases_Bool (bytes_eq c.in_ok-key.key.items other)) [
  | inl same ↦ absurd (differ (sym ((bytes_eq-Decides c.in_ok-key.key.items other).0 same) ∙ c.in_ok-key.ensures.items_if_clones_equal (λ x y same_byte. same_byte)))
  | inr other_key ↦ kept_number c.in_ok-key.key c.args.self.now.numbers c.insert.new.self _ other c.in_ok-insert.ensures.updates other_key
]
