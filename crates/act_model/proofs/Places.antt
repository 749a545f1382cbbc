-- No two files of limbo have one place: a file that goes there was listed, and none of limbo is.
use Rattle.std.proofs.Common.{◌≡◌, ℕ, List, [], ◌∷◌, ◌++◌, Bool, true, false, cond, ap, sym, ◌∙◌, subst}
use Rattle.std.specs.Prelude.{filter}
use Rattle.std.specs.List.{AllByRecursion}
use Rattle.act_model.specs.Rows.{RowState, Store, window, is_empty}
use Rattle.act_model.specs.Limbo.{RowFile, tier_at, unlisted, IsElsewhere, PlacesDiffer}
use Rattle.act_model.specs.Machine.{Machine, Change, AddsRow, SetsState, Renames, Appends, Publishes, Unlists}
use Rattle.act_model.specs.Changes.{Retires, IsRetired}
use Rattle.act_model.specs.Sound.{IsUnlisted}
use Rattle.act_model.proofs.Rows.{of_filter, of_append, of_all}

pub places_filter : (p : RowFile → Bool) (xs : List RowFile) → PlacesDiffer xs → PlacesDiffer (filter p xs)
places_filter p [] d = tt
places_filter p (f ∷ xs) d = by_test (p f) (of_filter (IsElsewhere f) p xs d.0) (places_filter p xs d.1)
  where
    by_test : (b : Bool) → AllByRecursion (IsElsewhere f) (filter p xs) → PlacesDiffer (filter p xs) → PlacesDiffer (cond b (f ∷ filter p xs) (filter p xs))
    by_test true first more = (first, more)
    by_test false first more = more

places_append : (xs ys : List RowFile) → PlacesDiffer xs → PlacesDiffer ys → AllByRecursion (λ f. AllByRecursion (IsElsewhere f) ys) xs → PlacesDiffer (xs ++ ys)
places_append [] ys p q apart = q
places_append (f ∷ xs) ys p q apart = (of_append (IsElsewhere f) xs ys p.0 apart.0, places_append xs ys p.1 q apart.1)

-- what isn't listed is elsewhere than what was
listed_elsewhere : (m : Machine) (k : ℕ) (store : Store) (to : ℕ) (f g : RowFile) → m.told ≡ true → IsUnlisted m.rows f → IsRetired m k store to g → IsElsewhere f g
listed_elsewhere m k store to f g t bare one row own part =
    let there : tier_at m.rows f.row f.store ≡ tier_at m.rows k store = ap (λ n. tier_at m.rows n f.store) (sym row ∙ one.row) ∙ ap (λ s. tier_at m.rows k s) (sym own ∙ one.own_store) in
    let same : window f.part (tier_at m.rows f.row f.store) ≡ g.samples = ap (λ w. window w (tier_at m.rows f.row f.store)) (sym part) ∙ (ap (λ xs. window g.part xs) there ∙ sym (one.samples t)) in
    let none : is_empty g.samples ≡ true = ap is_empty (sym same) ∙ bare in
    let some : is_empty g.samples ≡ false = one.some t in
    cc

pub places_made : (m : Machine) (into : List RowFile) (change : Change) (rows : List RowState) → Retires m change into → m.told ≡ true → PlacesDiffer m.limbo → AllByRecursion (IsUnlisted m.rows) m.limbo → PlacesDiffer (unlisted rows (m.limbo ++ into))
places_made m into change rows retires t differ bare =
    places_filter (λ (f : RowFile). is_empty (window f.part (tier_at rows f.row f.store))) (m.limbo ++ into)
    (places_append m.limbo into differ (own change retires) (of_all (IsUnlisted m.rows) (λ f. AllByRecursion (IsElsewhere f) into) m.limbo (λ f is. apart f is change retires) bare))
  where
    own : (c : Change) → Retires m c into → PlacesDiffer into
    own (AddsRow name about) r = subst (λ w. PlacesDiffer w) (sym r) tt
    own (SetsState k state) r = subst (λ w. PlacesDiffer w) (sym r) tt
    own (Renames k name) r = subst (λ w. PlacesDiffer w) (sym r) tt
    own (Appends batch) r = subst (λ w. PlacesDiffer w) (sym r) tt
    own (Publishes k store copied) r = subst (λ w. PlacesDiffer w) (sym r) tt
    own (Unlists k store to) r = r.2 t

    apart : (f : RowFile) → IsUnlisted m.rows f → (c : Change) → Retires m c into → AllByRecursion (IsElsewhere f) into
    apart f is (AddsRow name about) r = subst (λ w. AllByRecursion (IsElsewhere f) w) (sym r) tt
    apart f is (SetsState k state) r = subst (λ w. AllByRecursion (IsElsewhere f) w) (sym r) tt
    apart f is (Renames k name) r = subst (λ w. AllByRecursion (IsElsewhere f) w) (sym r) tt
    apart f is (Appends batch) r = subst (λ w. AllByRecursion (IsElsewhere f) w) (sym r) tt
    apart f is (Publishes k store copied) r = subst (λ w. AllByRecursion (IsElsewhere f) w) (sym r) tt
    apart f is (Unlists k store to) r = of_all (IsRetired m k store to) (IsElsewhere f) into (λ g one. listed_elsewhere m k store to f g t is one) r.0
